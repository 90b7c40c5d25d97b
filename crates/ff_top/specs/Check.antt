-- What `check` says of a job: the verdict on its pairs.
use Rattle.std.specs.Prelude.{◌≡◌, ◌+◌, ◌<◌, ◌↔◌, ℕ, IsTrue, Bool, true, false, List, [], ◌∷◌}
use Rattle.std.specs.Prelude.{length, codes}
use Rattle.std.specs.List.{All}
use Rattle.ff_theory.specs.Ring.{Elements, IsCommRing, IsTested, IsFiniteField}
use Rattle.ff_theory.specs.Lawful.{Lawful}
use Rattle.ff_theory.specs.PrimeTable.{prime_elements}
use Rattle.ff_prime.specs.declared.prime.Prime.{Prime}
use Rattle.ff_prime.specs.Number.{number_of}
use Rattle.ff_theory.specs.Values.{IsPoly, IsPlane}
use Rattle.ff_elem.specs.Elem.{elem_of, over_in}
use Rattle.ff_data.specs.declared.pair.Pair.{Pair}
use Rattle.ff_data.specs.Pairs.{IsPair, IsInversePair}
use Rattle.ff_text.specs.declared.job.RawElem.{RawElem}
use Rattle.ff_text.specs.declared.job.Job.{Job}
use Rattle.ff_text.specs.Values.{HasEquations}
use Rattle.ff_top.specs.declared.status.Status.{Status}
use Rattle.ff_top.specs.declared.status.Status.TheVariants.{Done}
use Rattle.ff_top.specs.Words.{line}

-- the field of the residues modulo a prime of the table
abbrev pub field_of : Prime → Elements ℕ
field_of k = prime_elements (number_of k)

-- the pair of E(g) that two fractions are
pub record IsPairOf {K : Elements ℕ} (L : Lawful K)
    (g : List (List ℕ)) (x y : RawElem) (pair : Pair) : Type 0 where
  pub elements : IsPair L g pair
  pub x_is : elem_of L g pair.x ≡ over_in L g x.num x.den
  pub y_is : elem_of L g pair.y ≡ over_in L g y.num y.den

-- the text of a verdict
abbrev pub verdict_text : Bool → List ℕ
verdict_text true = line (codes "yes")
verdict_text false = line (codes "no")

-- The fractions U and V are a pair (U, V) of E(f). The answer is whether the pair of E(g) satisfies
-- f and (U, V) is its inverse pair.
pub record TestsBack {K : Elements ℕ} (L : Lawful K)
    (f g : List (List ℕ)) (u v : RawElem) (pair : Pair) (answer : Bool) : Type 0 where
  pub back : Pair
  pub is_back : IsPairOf L f u v back
  pub inverse : IsTrue answer ↔ IsInversePair L f g pair back

-- The elements are X, Y, U and V: fractions that are a pair (X, Y) of E(g) and a pair (U, V) of
-- E(f). The answer is whether (X, Y) satisfies f and (U, V) is its inverse pair.
pub record TestsPairs {K : Elements ℕ} (L : Lawful K)
    (f g : List (List ℕ)) (elems : List RawElem) (answer : Bool) : Type 0 where
  pub x : RawElem
  pub y : RawElem
  pub u : RawElem
  pub v : RawElem
  pub fractions : elems ≡ x ∷ y ∷ u ∷ v ∷ []
  pub pair : Pair
  pub is_pair : IsPairOf L g x y pair
  pub tests : TestsBack L f g u v pair answer

-- The residues modulo the prime of the job are a finite field, and the text says whether the pairs
-- of the job, over that field, are inverse.
pub record IsVerdict (job : Job) (text : List ℕ) : Type 0 where
  pub ring : IsCommRing (field_of job.prime).ring
  pub tested : IsTested (field_of job.prime).ring
  pub finite : IsFiniteField (field_of job.prime).field
  pub answer : Bool
  pub tests : TestsPairs {K = field_of job.prime}
      (record { laws = ring; tests = tested; finite = finite })
      job.first job.second job.elems.items answer
  pub text_is : text ≡ verdict_text answer

-- the verdict on the job, which ticks the counter once
pub record IsChecked
    (job : Job) (before after : ℕ) (status : Status) (text : List ℕ) : Type 0 where
  pub ticked : after ≡ before + 1
  pub status_is : status ≡ Done
  pub verdict : IsVerdict job text

-- ---- What the verdict rests on

-- a fraction of polynomials over k whose denominator is not 0
pub record IsFraction (K : Elements ℕ) (e : RawElem) : Type 0 where
  pub num : IsPlane K e.num
  pub den : IsPoly K e.den
  pub nonzero : 0 < length e.den

-- two equations, and four fractions
pub record IsSound (job : Job) : Type 0 where
  pub equations : HasEquations job
  pub four : length job.elems.items ≡ 4
  pub fractions : All (IsFraction (prime_elements (number_of job.prime))) job.elems.items
