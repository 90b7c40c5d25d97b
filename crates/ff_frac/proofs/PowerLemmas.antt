-- The powers of an element with a pole of order one at a point of a maximal order, as data.
use Rattle.std.proofs.Common.{◌≡◌, ℕ, zero, suc, ◌+◌, ◌<◌, ◌≤◌, List, length, refl, sym, ◌∙◌, ap}
use Rattle.std.proofs.Common.{ap₂, subst, arith}
use Rattle.ff_theory.specs.Ring.{Elements, power}
use Rattle.ff_theory.specs.Lawful.{Domain, Lawful, lawful_field}
use Rattle.ff_theory.specs.Poly.{polynomials}
use Rattle.ff_theory.specs.Division.{size}
use Rattle.ff_theory.specs.Values.{poly_of, plane_of, IsPlane}
use Rattle.ff_theory.proofs.Solver.{◌⊗◌, unit, ring2, ring3}
use Rattle.ff_theory.proofs.PolyMap.{polynomial_domain}
use Rattle.ff_charts.specs.Chart.{IsChart}
use Rattle.ff_local.specs.ChartOrder.{root_at}
use Rattle.ff_lattice.specs.Residues.{AreResidues}
use Rattle.ff_elem.specs.Elem.{algebra_in}
use Rattle.ff_data.specs.declared.order.Order.{Order}
use Rattle.ff_data.specs.declared.point.Point.{Point}
use Rattle.ff_data.specs.Orders.{chart_of, y_degree}
use Rattle.ff_data.proofs.ChartLaws.{chart_laws, chart_degree}
use Rattle.ff_frac.specs.declared.powers.Powers.{Powers}
use Rattle.ff_frac.specs.Places.{IsMaximalPlace, HasPoleOrder, IsOverModulus, IsPoleNumerator}
use Rattle.ff_frac.specs.Places.{first_modulus}
use Rattle.ff_frac.specs.Powers.{HasPowersForm, IsPowerAt, IsNextPlane}
use Rattle.ff_frac.proofs.PlaceLemmas.{residue_numerator, next_numerator, some_over}

module _ (F : Elements ℕ) (L : Lawful F) (f : List (List ℕ)) (hf : IsPlane F f)
    (two : 1 < length f) (o : Order) (p : Point) (h : IsMaximalPlace L f o p) where
  l : IsChart F.ring (algebra_in L f) (chart_of L f o.chart)
  l = chart_laws F L f hf two o.chart

  abbrev D : Domain
  D = polynomial_domain (lawful_field L)

  -- the first power
  pub first_power : (s : Powers) → HasPowersForm L f o 1 s
      → poly_of F s.root ≡ root_at F.ring (F.value p.a)
      → IsPoleNumerator L f o p 1 (first_modulus L f o p) s.multiplier
      → poly_of F s.modulus ≡ (polynomials F.ring).mul (poly_of F o.d) (poly_of F s.root)
      → AreResidues F.ring (poly_of F s.modulus) (plane_of F s.multiplier) (plane_of F s.power)
      → IsPowerAt L f o p 1 s
  first_power s form root first modulus residues = record {
    root = root;
    modulus = is ∙ ring2 D.ring D.laws (λ d r. d ⊗ r) (λ d r. r ⊗ unit ⊗ d) refl (poly_of F o.d)
        (root_at F.ring (F.value p.a));
    first = first;
    power = residue_numerator F L f hf two o p h 0 (poly_of F s.modulus)
        (l.modulus_nonzero _ form.power.modulus) s.multiplier s.power residues
        (subst (λ m. IsPoleNumerator L f o p 1 m s.multiplier) (sym is) first);
  }
    where
      is : poly_of F s.modulus ≡ first_modulus L f o p
      is = modulus ∙ ap (D.mul (poly_of F o.d)) root

  -- the next power
  module _ (s r : Powers) (modulus : poly_of F r.modulus
      ≡ (polynomials F.ring).mul (poly_of F s.modulus) (poly_of F s.root))
      (next : IsNextPlane L f o s r.modulus r.power) where
    after : (i : ℕ) → HasPowersForm L f o i s → IsPowerAt L f o p i s
        → IsPoleNumerator L f o p (suc i) (poly_of F r.modulus) r.power
    after zero form k = absurd (w.outside w.inside)
      where
        some : (w : (algebra_in L f).carrier)
            × IsOverModulus L f o (poly_of F s.modulus) s.power w
        some = some_over F L f hf two o p h (poly_of F s.modulus)
            (l.modulus_nonzero _ form.power.modulus) s.power

        w : HasPoleOrder L f o p 0 some.0
        w = k.power some.0 some.1
    after (suc i) form k = next_numerator F L f hf two o p h i (poly_of F s.modulus) k.modulus
        s.power s.multiplier r.power next.product.square next.quotient form.power.modulus k.first
        k.power next.product.congruent (subst (λ n. size (polynomials F.ring)
        next.product.square ≤ n) (sym (chart_degree F L f hf two o.chart)) next.product.few)
        next.product.quotients (poly_of F r.modulus)
        (modulus ∙ ap (D.mul (poly_of F s.modulus)) k.root) next.residues

    pub next_power : (i : ℕ) → HasPowersForm L f o i s → IsPowerAt L f o p i s
        → poly_of F r.root ≡ poly_of F s.root → r.multiplier ≡ s.multiplier
        → IsPowerAt L f o p (i + 1) r
    next_power i form k root multiplier = let e : suc i ≡ i + 1 = omega arith in
        subst (λ i. IsPowerAt L f o p i r) e (record {
          root = root ∙ k.root;
          modulus = modulus ∙ ap₂ D.mul k.modulus k.root ∙ ring3 D.ring D.laws
              (λ x d v. x ⊗ d ⊗ v) (λ x d v. v ⊗ x ⊗ d) refl
              (power (polynomials F.ring) (root_at F.ring (F.value p.a)) i) (poly_of F o.d)
              (root_at F.ring (F.value p.a));
          first = subst (IsPoleNumerator L f o p 1 (first_modulus L f o p)) (sym multiplier)
              k.first;
          power = after i form k;
        })
