-- u - a is a modulus: for each a in the finite chart of E(f), and for 0 in the infinite one.
use Rattle.std.proofs.Common.{◌≡◌, ℕ, false, [], ◌∷◌, refl, sym, ◌∙◌, ap, arith}
use Rattle.ff_theory.specs.Lawful.{Domain, Field}
use Rattle.ff_theory.specs.Poly.{poly, polynomials}
use Rattle.ff_theory.specs.Division.{size}
use Rattle.ff_theory.specs.Planes.{Plane}
use Rattle.ff_theory.proofs.Solver.{neg, nil, ring1}
use Rattle.ff_theory.proofs.Poly.{trim-coeff}
use Rattle.ff_theory.proofs.Division.{coeff-beyond}
use Rattle.ff_theory.proofs.PolyMap.{polynomial_domain, size_nonzero}
use Rattle.ff_charts.specs.FieldCharts.{finite_chart, infinite_chart}
use Rattle.ff_charts.proofs.Rows.{exact_size}
use Rattle.ff_local.specs.ChartOrder.{root_at}

module _ (K : Field) where
  abbrev D : Domain
  D = polynomial_domain K

  root_size : (a : K.carrier) → size K.ring (root_at K.ring a) ≡ 2
  unfolding poly
  root_size a = exact_size K.ring K.laws K.tests (root_at K.ring a) 1
      (λ e. K.is_field.one_not_zero
      (sym (trim-coeff K.ring K.laws K.tests (K.neg a ∷ K.one ∷ []) 1) ∙ e))
      (λ i q. trim-coeff K.ring K.laws K.tests (K.neg a ∷ K.one ∷ []) i
      ∙ coeff-beyond K.ring K.laws K.tests (K.neg a ∷ K.one ∷ []) i (omega arith))

  pub root_nonzero : (a : K.carrier) → (polynomials K.ring).same (root_at K.ring a)
      (polynomials K.ring).zero ≡ false
  root_nonzero a = size_nonzero K (root_at K.ring a) 1 (root_size a)

  module _ (f : Plane K) where
    pub finite_root : (a : K.carrier) → (finite_chart K f).IsModulus (root_at K.ring a)
    finite_root a = root_nonzero a

    pub infinite_root : (e : ℕ) → (infinite_chart K f e).IsModulus (root_at K.ring K.zero)
    infinite_root e = (
      1,
      ap (λ z. poly K.ring (z ∷ K.one ∷ []))
          (ring1 K.ring K.laws (λ z. neg nil) (λ z. nil) refl K.zero)
          ∙ sym (D.laws.mul_one (poly K.ring (K.zero ∷ K.one ∷ []))),
    )
