-- Values of elements at pairs.
use Rattle.std.proofs.Common.{◌≡◌, zero, suc, All, List, [], ◌∷◌, sym, ◌∙◌, ap, refl, subst, arith}
use Rattle.ff_theory.specs.Ring.{RingOps, IsCommRing}
use Rattle.ff_theory.specs.Lawful.{Field}
use Rattle.ff_theory.specs.Poly.{Poly, poly, polynomials}
use Rattle.ff_theory.specs.Eval.{eval}
use Rattle.ff_theory.proofs.Solver.{◌⊗◌, unit, ring1, ring3, mul_zero}
use Rattle.ff_theory.proofs.Poly.{polynomial_laws, polynomial_tests}
use Rattle.ff_theory.proofs.Evaluate.{eval_map, eval-const}
use Rattle.ff_theory.specs.Planes.{Plane}
use Rattle.ff_theory.specs.Algebra.{algebra_of, constant}
use Rattle.ff_theory.proofs.Element.{algebra_is_ring}
use Rattle.ff_theory.proofs.Constants.{constant_map}
use Rattle.ff_data.specs.Substitution.{poly_at, plane_at_pair, IsDefined, IsValue}

module _ (F : Field) (g : Plane F) where
  abbrev R : RingOps
  R = algebra_of F g

  laws : IsCommRing (algebra_of F g)
  laws = algebra_is_ring F g

  -- a polynomial in x alone
  pub row-at : (X Y : (algebra_of F g).carrier) (p : Poly F.ring)
      → plane_at_pair F g X Y (poly (polynomials F.ring) (p ∷ [])) ≡ poly_at F g X p
  row-at X Y p = eval-const (polynomials F.ring) R (polynomial_laws F.ring F.laws F.tests)
      (polynomial_tests F.ring F.laws F.tests) laws (eval F.ring R (constant F g) X)
      (eval_map F.ring R F.laws F.tests laws (constant F g) (constant_map F g) X) Y p

  pub value_is : (den : Poly F.ring) (num : Plane F) (X Y d i n v : (algebra_of F g).carrier) → d
      ≡ poly_at F g X den → R.mul i d ≡ R.one → n ≡ plane_at_pair F g X Y num → v ≡ R.mul n i
      → IsValue F g den num X Y v
  value_is den num X Y d i n v ed ei en ev = record {
    inverse = i;
    inverts = ap (R.mul i) (sym ed) ∙ ei;
    product = ev ∙ ap (λ t. R.mul t i) en;
  }

  -- a divisor of zero has no inverse
  pub no_value : (den : Poly F.ring) (X d u : (algebra_of F g).carrier) → d ≡ poly_at F g X den
      → R.mul d u ≡ R.zero → ¬ (u ≡ R.zero) → ¬ IsDefined F g den X
  no_value den X d u ed e nu h = nu (
      ring1 R laws (λ u. u) (λ u. unit ⊗ u) refl u ∙ ap (λ t. R.mul t u) (sym h.inverts)
      ∙ laws.mul_assoc h.inverse (poly_at F g X den) u
      ∙ ap (λ t. R.mul h.inverse (R.mul t u)) (sym ed) ∙ ap (R.mul h.inverse) e
      ∙ mul_zero R laws h.inverse)

  pub no-inverse : (a u i : (algebra_of F g).carrier) → R.mul a u ≡ R.zero → ¬ (u ≡ R.zero)
      → ¬ (R.mul i a ≡ R.one)
  no-inverse a u i e nu h = nu (ring1 R laws (λ u. u) (λ u. unit ⊗ u) refl u ∙ ap (λ t. R.mul t u)
      (sym h) ∙ laws.mul_assoc i a u ∙ ap (R.mul i) e ∙ mul_zero R laws i)

  -- the value times the denominator is the numerator
  pub of-value : (den : Poly F.ring) (num : Plane F) (X Y v : (algebra_of F g).carrier)
      → IsValue F g den num X Y v → (algebra_of F g).mul v (poly_at F g X den)
      ≡ plane_at_pair F g X Y num
  of-value den num X Y v h = ap (λ t. R.mul t (poly_at F g X den)) h.product
      ∙ laws.mul_assoc (plane_at_pair F g X Y num) h.inverse (poly_at F g X den)
      ∙ ap (R.mul (plane_at_pair F g X Y num)) h.inverts ∙ laws.mul_one (plane_at_pair F g X Y num)

  pub value-of : (den : Poly F.ring) (num : Plane F) (X Y v : (algebra_of F g).carrier)
      → IsDefined F g den X → (algebra_of F g).mul v (poly_at F g X den) ≡ plane_at_pair F g X Y num
      → IsValue F g den num X Y v
  value-of den num X Y v h e = record {
    inverse = h.inverse;
    inverts = h.inverts;
    product = ring1 R laws (λ v. v) (λ v. v ⊗ unit) refl v ∙ ap (R.mul v) (sym h.inverts)
        ∙ ring3 R laws (λ v i d. v ⊗ (i ⊗ d)) (λ v i d. v ⊗ d ⊗ i) refl v h.inverse
        (poly_at F g X den) ∙ ap (λ t. R.mul t h.inverse) e;
  }

-- a list of one
pub each-one : {A : Type 0} (P : A → Type 0) (x : A) (xs : List A) → xs ≡ x ∷ [] → P x → All P xs
each-one P x xs e h = subst (All P) (sym e) one
  where
    one : All P (x ∷ [])
    one zero d l = h
    one (suc k) d l = absurd (omega arith)
