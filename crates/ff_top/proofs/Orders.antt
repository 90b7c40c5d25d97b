-- The answer for the equation of a job.
use Rattle.std.proofs.Common.{◌≡◌, ℕ, List, subst}
use Rattle.ff_prime.specs.declared.prime.Prime.{Prime}
use Rattle.ff_text.specs.declared.job.Job.{Job}
use Rattle.ff_top.specs.declared.status.Status.{Status}
use Rattle.ff_top.specs.Order.{IsAnswered, IsOrderAnswer}
use Rattle.ff_top.proofs.Laws.{laws_of}

-- the answer over the algebra of the job is one to the job
pub answered : (job : Job) (k : Prime) (f : List (List ℕ)) (status : Status) (text : List ℕ)
    → k ≡ job.prime → f ≡ job.first → IsOrderAnswer (laws_of k) f status text
    → IsAnswered job status text
answered job k f status text e1 e2 h = record {
  ring = (laws_of job.prime).laws;
  tested = (laws_of job.prime).tests;
  finite = (laws_of job.prime).finite;
  answer = subst (λ (p : Prime). IsOrderAnswer (laws_of p) job.first status text) e1
      (subst (λ (s : List (List ℕ)). IsOrderAnswer (laws_of k) s status text) e2 h);
}
