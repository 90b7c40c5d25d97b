-- The residues of the multiples by the u^j * theta^i, each from one before it.
use Rattle.std.proofs.Common.{◌≡◌, ℕ, zero, suc, pred, ◌+◌ as plus_ℕ, ◌*◌ as times_ℕ, ◌-◌, ◌/◌, ◌%◌}
use Rattle.std.proofs.Common.{◌<◌, List, length, refl, sym, ◌∙◌, ap, ap₂, subst, arith}
use Rattle.std.proofs.lemmas.Nat.{div-mul-add, mod-mul-add, mod_below}
use Rattle.ff_theory.specs.Ring.{RingOps, IsCommRing, Elements, power}
use Rattle.ff_theory.specs.Lawful.{Lawful, lawful_field, Field}
use Rattle.ff_theory.specs.Poly.{Poly}
use Rattle.ff_theory.specs.Values.{poly_of, plane_of, IsPlane}
use Rattle.ff_theory.proofs.Solver.{◌⊗◌, unit, ring1, ring3, ring4}
use Rattle.ff_charts.specs.Chart.{Chart as ChartOf}
use Rattle.ff_charts.specs.Lattice.{flat, IsResidue}
use Rattle.ff_charts.proofs.Flat.{flat_one}
use Rattle.ff_elem.specs.Elem.{algebra_in}
use Rattle.ff_data.specs.declared.order.Chart.{Chart}
use Rattle.ff_data.specs.Orders.{chart_of}
use Rattle.ff_order.specs.declared.chart.ChartRows.{ChartRows}
use Rattle.ff_order.specs.Closing.{IsPlaneOf}
use Rattle.ff_order.specs.Rows.{IsChartRows}
use Rattle.ff_order.specs.Steps.{row_len, KeepsResidues, KeepsRows, IsMultipleRow, IsResidueRow}
use Rattle.ff_order.specs.Steps.{times_monomial}
use Rattle.ff_data.proofs.ChartLaws.{algebra_laws}
use Rattle.ff_order.proofs.FirstSpace.{row_len_is}
use Rattle.ff_order.proofs.Monomials.{index_whole}

module _ (F : Elements ℕ) (L : Lawful F) (f : List (List ℕ)) (hf : IsPlane F f) (two : 1 < length f)
    (chart : Chart) (rows : ChartRows) (h : IsChartRows L f chart rows) where
  abbrev K : Field
  K = lawful_field L

  abbrev A : RingOps
  A = algebra_in L f

  abbrev AL : IsCommRing (algebra_in L f)
  AL = algebra_laws F L f hf two

  abbrev c : ChartOf F.ring (algebra_in L f)
  c = chart_of L f chart

  abbrev m : Poly F.ring
  m = poly_of F rows.d

  abbrev δ : ℕ
  δ = row_len L f chart rows.d

  len_is : row_len L f chart rows.d ≡ pred (length rows.d)
  len_is = row_len_is F L f hf two chart rows.d h.d

  -- the vector of a product, from that of a residue
  pub keeps_row : (p q : List (List ℕ)) (before after : ℕ → F.carrier)
      (w : (algebra_in L f).carrier → (algebra_in L f).carrier)
      → IsPlaneOf L f chart rows.d before p → KeepsResidues L f chart rows.d p q w
      → ((j : ℕ) → after j ≡ flat F.ring (pred (length rows.d)) (plane_of F q) j)
      → KeepsRows L f chart rows.d before after w
  keeps_row p q before after w hp keeps value v r = (
    plane_of F q,
    (
      keeps v (subst (IsResidue c m v) (flat_one K δ c.degree r.0 (plane_of F p) r.1.0.shape
          hp.shape (λ j. sym (r.1.1 j) ∙ sym (hp.value j))) r.1.0),
      λ j. value j ∙ ap (λ l. flat F.ring l (plane_of F q) j) (sym len_is),
    ),
  )

  -- the first one
  pub first_multiple : 0 < row_len L f chart rows.d → (row : ℕ → F.carrier)
      → ((j : ℕ) → row j ≡ flat F.ring (pred (length rows.d)) (plane_of F rows.multiple) j)
      → IsMultipleRow L f chart rows.d rows.multiple 0 row
  first_multiple long row value v p = (
    plane_of F rows.multiple,
    (
      subst (λ w. IsResidue c m w (plane_of F rows.multiple))
          (ring1 A AL (λ v. v) (λ v. v ⊗ (unit ⊗ unit)) refl v
          ∙ ap₂ (λ j i. A.mul v (A.mul (power A c.u j) (power A c.theta i)))
          (sym (ap (λ t. t % δ) (sym none) ∙ mod-mul-add 0 δ 0 long))
          (sym (ap (λ t. t / δ) (sym none) ∙ div-mul-add 0 δ 0 long))) p,
      λ j. value j ∙ ap (λ l. flat F.ring l (plane_of F rows.multiple) j) (sym len_is),
    ),
  )
    where
      none : plus_ℕ (times_ℕ 0 δ) 0 ≡ 0
      none = let e : times_ℕ 0 δ ≡ 0 = omega arith in omega (arith, e)

  module _ (s : ℕ) (b : (algebra_in L f).carrier) (before row : ℕ → F.carrier)
      (keeps : KeepsRows L f chart rows.d before row (λ v. (algebra_in L f).mul v b)) where
    -- one factor u more
    pub next_in_row : 0 < row_len L f chart rows.d → b ≡ (chart_of L f chart).u
        → ¬ (s % row_len L f chart rows.d ≡ 0)
        → IsMultipleRow L f chart rows.d rows.multiple (s - 1) before
        → IsMultipleRow L f chart rows.d rows.multiple s row
    next_in_row long is z x v p = subst (λ w. IsResidueRow L f chart rows.d w row)
        (ap₂ (λ j i. A.mul (times_monomial L f chart j i v) b) column line
        ∙ ap (A.mul (times_monomial L f chart (pred (s % δ)) (s / δ) v)) is
        ∙ ring4 A AL (λ v a t u. (v ⊗ (a ⊗ t)) ⊗ u) (λ v a t u. v ⊗ ((u ⊗ a) ⊗ t)) refl v
        (power A c.u (pred (s % δ))) (power A c.theta (s / δ)) c.u
        ∙ ap (λ j. times_monomial L f chart j (s / δ) v) (sym more))
        (keeps (times_monomial L f chart ((s - 1) % δ) ((s - 1) / δ) v) (x v p))
      where
        more : s % δ ≡ suc (pred (s % δ))
        more = omega (arith, z)

        small : pred (s % δ) < δ
        small = let q : s % δ < δ = mod_below s δ long in omega (arith, q, more)

        whole : s - 1 ≡ plus_ℕ (times_ℕ (s / δ) δ) (pred (s % δ))
        whole = let w = index_whole s δ in omega (arith, w, more)

        column : (s - 1) % δ ≡ pred (s % δ)
        column = ap (λ t. t % δ) whole ∙ mod-mul-add (s / δ) δ (pred (s % δ)) small

        line : (s - 1) / δ ≡ s / δ
        line = ap (λ t. t / δ) whole ∙ div-mul-add (s / δ) δ (pred (s % δ)) small

    -- one factor theta more
    pub next_in_column : 0 < row_len L f chart rows.d → b ≡ (chart_of L f chart).theta
        → s % row_len L f chart rows.d ≡ 0 → 0 < s
        → IsMultipleRow L f chart rows.d rows.multiple (s - row_len L f chart rows.d) before
        → IsMultipleRow L f chart rows.d rows.multiple s row
    next_in_column long is z positive x v p = go (s / δ) refl
      where
        go : (i : ℕ) → i ≡ s / δ → IsResidueRow L f chart rows.d
            (times_monomial L f chart (s % δ) (s / δ) v) row
        go zero e = absurd (let w = index_whole s δ in
            let y : times_ℕ (s / δ) δ ≡ times_ℕ 0 δ = ap (λ i. times_ℕ i δ) (sym e) in
            let n : times_ℕ 0 δ ≡ 0 = omega arith in omega (arith, w, y, n, z, positive))
        go (suc i) e = subst (λ w. IsResidueRow L f chart rows.d w row)
            (ap₂ (λ j i. A.mul (times_monomial L f chart j i v) b)
            (ap (λ t. t % δ) whole ∙ mod-mul-add i δ 0 long)
            (ap (λ t. t / δ) whole ∙ div-mul-add i δ 0 long)
            ∙ ap (A.mul (times_monomial L f chart 0 i v)) is
            ∙ ring3 A AL (λ v t u. (v ⊗ (unit ⊗ t)) ⊗ u) (λ v t u. v ⊗ (unit ⊗ (u ⊗ t))) refl v
            (power A c.theta i) c.theta
            ∙ ap₂ (λ j i. times_monomial L f chart j i v) (sym z) e)
            (keeps (times_monomial L f chart ((s - δ) % δ) ((s - δ) / δ) v) (x v p))
          where
            whole : s - δ ≡ plus_ℕ (times_ℕ i δ) 0
            whole = let w = index_whole s δ in
                let y : times_ℕ (s / δ) δ ≡ times_ℕ (suc i) δ = ap (λ i. times_ℕ i δ) (sym e) in
                let n : times_ℕ (suc i) δ ≡ plus_ℕ δ (times_ℕ i δ) = omega arith in
                omega (arith, w, y, n, z)
