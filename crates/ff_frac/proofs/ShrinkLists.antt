-- Divisors of lists of rows that are read one after another.
use Rattle.std.proofs.Common.{◌≡◌, ℕ, ◌+◌, ◌<◌, ◌≤◌, ◌⊎◌, inl, inr, List, [], length, get_or, subst}
use Rattle.std.proofs.Common.{arith, sym, ◌∙◌, ap, Result, Ok, Err, IfOk}
use Rattle.std.proofs.lemmas.List.{length-map}
use Rattle.std.specs.Global.{Vec}
use Rattle.ff_lin.specs.Space.{rows_of}
use Rattle.std.proofs.lemmas.Bool.{cases_lt}
use Rattle.ff_theory.specs.Ring.{RingOps, IsCommRing, Elements}
use Rattle.ff_theory.specs.Lawful.{Domain, Lawful, lawful_field}
use Rattle.ff_theory.specs.Divides.{Divides}
use Rattle.ff_theory.specs.Poly.{Poly, polynomials}
use Rattle.ff_theory.specs.Values.{poly_of}
use Rattle.ff_theory.proofs.Divides.{divides_trans}
use Rattle.ff_theory.proofs.PolyMap.{polynomial_domain}
use Rattle.ff_frac.specs.Shrinking.{DividesRows, HavePlanes, AreBasisPlanes}

-- one entry more, and a divisor of the divisor
pub next_each : (R : RingOps) → IsCommRing R → (f : List ℕ → R.carrier) (new old : R.carrier)
    (rows : List (List ℕ)) (i : ℕ) → ((t : ℕ) → t < i → Divides R old (f (get_or rows t [])))
    → Divides R new old → Divides R new (f (get_or rows i [])) → (t : ℕ) → t < i + 1
    → Divides R new (f (get_or rows t []))
next_each R laws f new old rows i h d own t q = go (cases_lt t i)
  where
    go : (t < i) ⊎ (i ≤ t) → Divides R new (f (get_or rows t []))
    go (inl s) = divides_trans R laws new old (f (get_or rows t [])) d (h t s)
    go (inr s) = let e : i ≡ t = omega (arith, q, s) in
        subst (λ t. Divides R new (f (get_or rows t []))) e own

pub next_planes : (F : Elements ℕ) (L : Lawful F) (new old : Poly F.ring)
    (planes : List (List (List ℕ))) (i : ℕ)
    → ((t : ℕ) → t < i → DividesRows F old (get_or planes t []))
    → Divides (polynomials F.ring) new old → DividesRows F new (get_or planes i []) → (t : ℕ)
    → t < i + 1 → DividesRows F new (get_or planes t [])
next_planes F L new old planes i h d own t q = go (cases_lt t i)
  where
    D : Domain
    D = polynomial_domain (lawful_field L)

    go : (t < i) ⊎ (i ≤ t) → DividesRows F new (get_or planes t [])
    go (inl s) = λ r k. divides_trans D.ring D.laws new old
        (poly_of F (get_or (get_or planes t []) r [])) d (h t s r k)
    go (inr s) = let e : i ≡ t = omega (arith, q, s) in
        subst (λ t. DividesRows F new (get_or planes t [])) e own

-- the planes of the vectors of a basis, as the code reads it
pub basis_planes : {E : Type 0} (F : Elements ℕ) (n l m : ℕ) (rows : List (Vec ℕ))
    (basis : List (List ℕ)) → l ≡ m → rows_of rows ≡ basis
    → (r : Result (Vec (List (List ℕ))) E) → IfOk r (λ p. length p.items ≡ length rows)
    → IfOk r (λ p. HavePlanes F n l (rows_of rows) p.items)
    → IfOk r (λ p. AreBasisPlanes F n m basis p.items)
basis_planes F n l m rows basis e is (Ok p) len value = record {
  count = len ∙ sym (length-map rows (λ (r : Vec ℕ). r.items)) ∙ ap length is;
  value = subst (λ basis. HavePlanes F n m basis p.items) is
      (subst (λ l. HavePlanes F n l (rows_of rows) p.items) e value);
}
basis_planes F n l m rows basis e is (Err x) len value = tt
