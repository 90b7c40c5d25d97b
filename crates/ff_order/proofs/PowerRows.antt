-- Vectors with one entry, lengths of vectors, and lists of residues as the calls make them.
use Rattle.std.proofs.Common.{◌≡◌, ℕ, pred, ◌-◌, ◌+◌ as plus_ℕ, ◌*◌ as times_ℕ, ◌<◌, ◌≤◌, ◌⊎◌, inl}
use Rattle.std.proofs.Common.{inr}
use Rattle.std.proofs.Common.{List, length, sym, ◌∙◌, ap, ap₂, subst, arith}
use Rattle.std.proofs.lemmas.Bool.{cases_lt}
use Rattle.std.proofs.lemmas.Nat.{mul-add-lt}
use Rattle.ff_theory.specs.Ring.{Elements}
use Rattle.ff_theory.specs.Lawful.{Lawful, lawful_field}
use Rattle.ff_theory.specs.Planes.{Plane}
use Rattle.ff_theory.specs.Span.{unit_at}
use Rattle.ff_theory.specs.Vector.{vector_of, IsVector}
use Rattle.ff_theory.specs.Values.{poly_of, IsPoly, IsPlane}
use Rattle.ff_theory.proofs.Coeffs.{coeff-past}
use Rattle.ff_theory.proofs.Span.{unit-other}
use Rattle.ff_charts.specs.Chart.{at_theta}
use Rattle.ff_charts.specs.Lattice.{HasShape, IsResidue, flat}
use Rattle.ff_charts.proofs.Flat.{flat_one}
use Rattle.ff_elem.specs.Elem.{algebra_in}
use Rattle.ff_data.specs.declared.order.Chart.{Chart}
use Rattle.ff_data.specs.Orders.{chart_of, y_degree}
use Rattle.ff_order.specs.Steps.{row_len, HasResidueShape, KeepsRows}
use Rattle.ff_order.proofs.Lengths.{shape_run, shape_back, len_is}
use Rattle.ff_order.proofs.Monomials.{self_residue}

-- a list of the length, with one at an index below it
pub unit_whole : (F : Elements ℕ) (v : List ℕ) (n s : ℕ) → length v ≡ n → s < n
    → ((j : ℕ) → j < n → vector_of F v j ≡ unit_at F.ring s j) → (j : ℕ)
    → vector_of F v j ≡ unit_at F.ring s j
unit_whole F v n s e b h j = go (cases_lt j n)
  where
    go : (j < n) ⊎ (n ≤ j) → vector_of F v j ≡ unit_at F.ring s j
    go (inl q) = h j q
    go (inr q) = coeff-past F.ring F.value v j (omega (arith, e, q))
        ∙ sym (unit-other F.ring s j (λ t. absurd (omega (arith, t, q, b))))

pub width_positive : (y l n : ℕ) → n ≡ times_ℕ y l → 0 < y → 0 < l → 0 < n
width_positive y l n e p q = let h : plus_ℕ (times_ℕ 0 l) 0 < times_ℕ l y = mul-add-lt 0 l 0 y p q
    in
    let x : times_ℕ l y ≡ times_ℕ y l = omega arith in omega (arith, h, x, e)

-- the length of a list of n rows of l coefficients, as the calls compute it
pub vector_run : (F : Elements ℕ) (L : Lawful F) (f r : List (List ℕ)) (d e v : List ℕ) (n : ℕ)
    → r ≡ f → e ≡ d → n ≡ times_ℕ (y_degree L f) (pred (length d)) → IsVector F n v
    → IsVector F (times_ℕ (length r - 1) (length e - 1)) v
vector_run F L f r d e v n sr se hn h = subst (λ m. IsVector F m v) (hn ∙ sym (ap₂ times_ℕ
    (ap (λ r. length r - 1) sr) (let s : length e ≡ length d = ap length se in omega (arith, s)))) h

pub vector_back : (F : Elements ℕ) (L : Lawful F) (f r : List (List ℕ)) (d e v : List ℕ)
    → r ≡ f → e ≡ d → IsVector F (times_ℕ (length r - 1) (length e - 1)) v
    → IsVector F (times_ℕ (y_degree L f) (pred (length d))) v
vector_back F L f r d e v sr se h = subst (λ m. IsVector F m v) (ap₂ times_ℕ
    (ap (λ r. length r - 1) sr) (let s : length e ≡ length d = ap length se in omega (arith, s))) h

module _ (F : Elements ℕ) (L : Lawful F) (f : List (List ℕ)) (hf : IsPlane F f) (two : 1 < length f)
    (chart : Chart) (m : List ℕ) (hm : IsPoly F m) (r : List (List ℕ)) (e : List ℕ) (sr : r ≡ f)
    (se : e ≡ m) (P R : Plane (lawful_field L))
    (shape : HasShape F.ring (length r - 1) (length e - 1) P)
    (w : (algebra_in L f).carrier → (algebra_in L f).carrier)
    (keeps : (v : (algebra_in L f).carrier) → IsResidue (chart_of L f chart) (poly_of F m) v P
    → IsResidue (chart_of L f chart) (poly_of F m) (w v) R) where
  own_shape : HasResidueShape L f chart m P
  own_shape = shape_back F L f hf two chart r m e P sr se hm shape

  -- the residue that a call makes of the plane of a list, and its list
  pub next_shape : (e' : List ℕ) → e' ≡ m → HasShape F.ring (length r - 1) (length e' - 1) R
  next_shape e' se' = shape_run F L f hf two chart r m e' R sr se' hm
      (keeps (at_theta (chart_of L f chart) P)
      (self_residue F L f hf two chart m m P own_shape)).shape

  pub next_keeps : (e' : List ℕ) → e' ≡ m → (before row : ℕ → F.carrier)
      → ((j : ℕ) → flat F.ring (length e - 1) P j ≡ before j)
      → ((j : ℕ) → row j ≡ flat F.ring (length e' - 1) R j)
      → KeepsRows L f chart m before row w
  next_keeps e' se' before row value same v x = (
    R,
    (
      keeps v (subst (IsResidue (chart_of L f chart) (poly_of F m) v)
          (flat_one (lawful_field L) (row_len L f chart m) (chart_of L f chart).degree x.0 P
          x.1.0.shape own_shape (λ j. sym (x.1.1 j) ∙ sym (value j)
          ∙ ap (λ l. flat F.ring l P j) (len_is F L f hf two chart m e se hm))) x.1.0),
      λ j. same j ∙ ap (λ l. flat F.ring l R j) (len_is F L f hf two chart m e' se' hm),
    ),
  )
