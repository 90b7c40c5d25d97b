-- The verdict on a job.
use Rattle.std.proofs.Common.{◌≡◌, ℕ, List, [], ◌∷◌, length, get_or, Bool, subst, arith}
use Rattle.ff_prime.specs.declared.prime.Prime.{Prime}
use Rattle.ff_text.specs.declared.job.Job.{Job}
use Rattle.ff_top.specs.Check.{verdict_text, TestsPairs, IsVerdict}
use Rattle.ff_top.proofs.Laws.{laws_of}

-- four entries
pub four_is : {A : Type 0} (xs : List A) (x y u v : A) → length xs ≡ 4 → x ≡ get_or xs 0 x
    → y ≡ get_or xs 1 y → u ≡ get_or xs 2 u → v ≡ get_or xs 3 v → xs ≡ x ∷ y ∷ u ∷ v ∷ []
four_is [] x y u v n hx hy hu hv = absurd (omega (arith, n))
four_is (a ∷ []) x y u v n hx hy hu hv = absurd (omega (arith, n))
four_is (a ∷ b ∷ []) x y u v n hx hy hu hv = absurd (omega (arith, n))
four_is (a ∷ b ∷ c ∷ []) x y u v n hx hy hu hv = absurd (omega (arith, n))
four_is (a ∷ b ∷ c ∷ d ∷ []) x y u v n hx hy hu hv = cc
four_is (a ∷ b ∷ c ∷ d ∷ e ∷ xs) x y u v n hx hy hu hv = absurd (omega (arith, n))

-- the test over the algebras of the job is the verdict on it
pub verdict : (job : Job) (k : Prime) (f g : List (List ℕ)) (answer : Bool) (text : List ℕ)
    → k ≡ job.prime → f ≡ job.first → g ≡ job.second
    → TestsPairs (laws_of k) f g job.elems.items answer → text ≡ verdict_text answer
    → IsVerdict job text
verdict job k f g answer text e1 e2 e3 h t =
    record {
      ring = (laws_of job.prime).laws;
      tested = (laws_of job.prime).tests;
      finite = (laws_of job.prime).finite;
      answer = answer;
      tests = tests;
      text_is = t;
    }
  where
    tests : TestsPairs (laws_of job.prime) job.first job.second job.elems.items answer
    tests = subst (λ p. TestsPairs (laws_of p) job.first job.second job.elems.items answer) e1
        (subst (λ s. TestsPairs (laws_of k) s job.second job.elems.items answer) e2
        (subst (λ s. TestsPairs (laws_of k) f s job.elems.items answer) e3 h))
