-- The numerator and the denominator of a fraction of polynomials in lowest terms.
use Rattle.std.proofs.Common.{◌≡◌, ℕ, zero, suc, ◌≤◌, Bool, true, false, cond, IsTrue, nat_lt, []}
use Rattle.std.proofs.Common.{◌∷◌, length, sym, ◌∙◌, ap, arith}
use Rattle.std.proofs.lemmas.Bool.{lt-ltb}
use Rattle.ff_theory.specs.Lawful.{Field}
use Rattle.ff_theory.specs.Poly.{coeff, Poly, poly, polynomials}
use Rattle.ff_theory.specs.Division.{size, leading_coeff}
use Rattle.ff_theory.proofs.Poly.{trim-coeff}
use Rattle.ff_theory.proofs.Division.{const}
use Rattle.ff_theory.proofs.FractionField.{Frac}
use Rattle.ff_theory.proofs.PolyMap.{polynomial_domain}
use Rattle.ff_theory.proofs.Quotient.{Class}
use Rattle.ff_theory.proofs.Algebra.{rational}
use Rattle.ff_theory.specs.Divides.{Divides}
use Rattle.ff_theory.proofs.LowestTerms.{Reduced, den_nonzero}
use Rattle.ff_theory.proofs.ReducedForms.{over, reduced_class, reduced_at, reduced_of}

-- the numerator and the denominator of a fraction in lowest terms
module _ (K : Field) where
  abbrev F : Field
  F = rational K

  as_class : Frac (polynomial_domain K) → Class F.ring 1
  unfolding poly
  as_class a = record {
    rep = const F.ring F.laws F.tests a;
    small = lt-ltb _ _
        (let h : size F.ring (const F.ring F.laws F.tests a) ≤ 1 = go (F.same a F.zero) in omega
        (arith, h));
  }
    where
      go : (b : Bool) → length (cond b [] (a ∷ [])) ≤ 1
      go true = omega arith
      go false = omega arith

  form : Frac (polynomial_domain K) → Reduced K 1
  form a = (reduced_of K 1 (as_class a)).0

  pub denominator : Frac (polynomial_domain K) → Poly K.ring
  denominator a = (form a).den

  pub numerator : Frac (polynomial_domain K) → Poly K.ring
  numerator a = coeff (polynomials K.ring) (form a).nums 0

  pub denominator_nonzero : (a : Frac (polynomial_domain K))
      → (polynomials K.ring).same (denominator a) (polynomials K.ring).zero ≡ false
  unfolding denominator
  denominator_nonzero a = den_nonzero K 1 (form a)

  -- a is numerator over denominator
  pub fraction_form : (a : Frac (polynomial_domain K))
      → over K (denominator a) (denominator_nonzero a) (numerator a) ≡ a
  unfolding form denominator numerator denominator_nonzero as_class poly reduced_class
  fraction_form a = sym (reduced_at K 1 (form a) 0)
      ∙ ap (λ (c : Class F.ring 1). coeff F.ring c.rep.coeffs 0) (reduced_of K 1 (as_class a)).1
      ∙ trim-coeff F.ring F.laws F.tests (a ∷ []) 0

  pub denominator_monic : (a : Frac (polynomial_domain K))
      → IsTrue (K.same (leading_coeff K.ring (denominator a)) K.one)
  unfolding denominator
  denominator_monic a = (form a).lowest.monic

  pub fraction_lowest : (a : Frac (polynomial_domain K)) (d : Poly K.ring)
      → Divides (polynomials K.ring) d (denominator a)
      → Divides (polynomials K.ring) d (numerator a) → IsTrue (nat_lt (size K.ring d) 2)
  unfolding denominator numerator
  fraction_lowest a d h k = (form a).lowest.lowest d h (λ i l. let e : 0
      ≡ i = omega arith in go i e)
    where
      go : (i : ℕ) → 0 ≡ i → Divides (polynomials K.ring) d
          (coeff (polynomials K.ring) (form a).nums i)
      go zero e = k
      go (suc i) e = absurd (omega arith)
