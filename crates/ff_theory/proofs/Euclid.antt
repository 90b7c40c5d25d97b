-- The quotient of a product.
use Rattle.std.proofs.Common.{◌≡◌, ℕ, suc, pred, refl, sym, ◌∙◌, ap, arith}
use Rattle.ff_theory.specs.Lawful.{Field}
use Rattle.ff_theory.specs.Poly.{Poly, poly, polynomials}
use Rattle.ff_theory.specs.Division.{size}
use Rattle.ff_theory.specs.Euclid.{quotient, quotient_list}
use Rattle.ff_theory.proofs.Solver.{◌⊕◌, ◌⊗◌, nil, ring2}
use Rattle.ff_theory.proofs.Poly.{polynomial_laws}
use Rattle.ff_theory.proofs.Division.{one_division, quotient_matches}
use Rattle.ff_theory.proofs.Quotient.{quotient_of, remainder_of, divides}

module _ (K : Field) where
  -- the quotient of a product
  pub exact_quotient : (a b q : Poly K.ring) (n : ℕ) → size K.ring b ≡ suc n → a
      ≡ (polynomials K.ring).mul q b → quotient K a b ≡ q
  unfolding quotient quotient_of poly
  exact_quotient a b q n has e = ap (λ m. quotient_list K m b a.coeffs) (ap pred has)
      ∙ sym (quotient_matches K b n has a.coeffs)
      ∙ (one_division K b n has a
      (quotient_of K b n has a)
      (remainder_of K b n has a) q
      (polynomials K.ring).zero
      (divides K b n has a)
      (record {
        sum = e ∙ ring2 (polynomials K.ring) (polynomial_laws K.ring K.laws K.tests) (λ q b. q ⊗ b)
            (λ q b. q ⊗ b ⊕ nil) refl q b;
        smaller = omega (arith, has);
      })).0
