-- What Euclid's algorithm keeps: two multiples of an element, which begin with the equation and the
-- element.
use Rattle.std.proofs.Common.{◌≡◌, ℕ, suc, ◌-◌, ◌<◌, ◌≤◌, List, [], ◌∷◌, length, refl, sym, ◌∙◌, ap}
use Rattle.std.proofs.Common.{subst, arith}
use Rattle.ff_theory.specs.Ring.{RingOps, IsCommRing, Elements}
use Rattle.ff_theory.specs.Lawful.{Lawful, lawful_field, Field}
use Rattle.ff_theory.specs.Poly.{polynomials}
use Rattle.ff_theory.specs.Division.{size}
use Rattle.ff_theory.proofs.Solver.{◌⊕◌, ◌⊗◌, neg, nil, ring3, one_mul, zero_mul}
use Rattle.ff_theory.proofs.Poly.{polynomial_laws}
use Rattle.ff_theory.proofs.PolyMap.{polynomial_domain}
use Rattle.ff_theory.specs.Lawful.{Domain}
use Rattle.ff_theory.specs.Map.{IsMap}
use Rattle.ff_theory.specs.Planes.{planes, Plane, row_of}
use Rattle.ff_theory.proofs.Element.{algebra_is_ring, value_map, equation}
use Rattle.ff_theory.specs.Algebra.{value_of}
use Rattle.ff_theory.proofs.ElementEuclid.{IsCrossed, crossed-start, crossed-end}
use Rattle.ff_theory.specs.Values.{plane_of, IsPlane}
use Rattle.ff_elem.specs.Elem.{algebra_in, plane_in}
use Rattle.ff_elem.specs.Euclid.{ArePlanes, IsStep, AreLast}
use Rattle.ff_elem.specs.declared.euclid.Multiple.{Multiple}
use Rattle.ff_elem.proofs.Reduction.{plane-size}
use Rattle.ff_elem.proofs.Quotients.{not-empty}
use Rattle.ff_elem.proofs.EuclidSteps.{step-value, step-crossed}

module _ (K : Elements ℕ) (L : Lawful K) (f a : List (List ℕ)) where
  abbrev F : Field
  F = lawful_field L

  abbrev P : RingOps
  P = planes (lawful_field L)

  abbrev A : RingOps
  A = algebra_in L f

  AL : IsCommRing (algebra_in L f)
  AL = algebra_is_ring (lawful_field L) (plane_of K f)

  V : IsMap P A (value_of (lawful_field L) (plane_of K f))
  V = value_map (lawful_field L) (plane_of K f)

  pub record IsState (large small : Multiple) : Type 0 where
    pub large_planes : ArePlanes K large
    pub small_planes : ArePlanes K small
    pub has_y : 1 < length large.value
    pub large_value : (algebra_in L f).mul (plane_in L f large.factor) (plane_in L f a)
        ≡ plane_in L f large.value
    pub small_value : (algebra_in L f).mul (plane_in L f small.factor) (plane_in L f a)
        ≡ plane_in L f small.value
    pub crossed : IsCrossed (lawful_field L) (plane_of K f) (plane_of K large.value)
        (plane_of K large.factor) (plane_of K small.value) (plane_of K small.factor)

  moved : (r0 s0 r1 s1 p0 q0 p1 q1 : Plane (lawful_field L)) → p0 ≡ r0 → q0 ≡ s0 → p1 ≡ r1 → q1 ≡ s1
      → IsCrossed (lawful_field L) (plane_of K f) r0 s0 r1 s1
      → IsCrossed (lawful_field L) (plane_of K f) p0 q0 p1 q1
  moved r0 s0 r1 s1 p0 q0 p1 q1 h0 k0 h1 k1 c = subst
      (λ t. IsCrossed (lawful_field L) (plane_of K f) t q0 p1 q1) (sym h0)
      (subst (λ t. IsCrossed (lawful_field L) (plane_of K f) r0 t p1 q1) (sym k0)
      (subst (λ t. IsCrossed (lawful_field L) (plane_of K f) r0 s0 t q1) (sym h1)
      (subst (λ t. IsCrossed (lawful_field L) (plane_of K f) r0 s0 r1 t) (sym k1) c)))

  pub state-start : (large small : Multiple) → IsPlane K f → 1 < length f → ArePlanes K large
      → ArePlanes K small
      → plane_of K large.value ≡ plane_of K f → plane_of K large.factor ≡ plane_of K []
      → plane_of K small.value ≡ plane_of K a → plane_of K small.factor
      ≡ (planes (lawful_field L)).one → IsState large small
  state-start large small hf has pl ps lv lf sv sf = record {
    large_planes = pl;
    small_planes = ps;
    has_y = let s = plane-size K L large.value pl.value in let t = plane-size K L f hf in let e = ap
        (size (polynomials K.ring)) lv in omega (arith, s, t, e, has);
    large_value = ap (λ p. A.mul (value_of F (plane_of K f) p) (plane_in L f a)) lf
        ∙ ap (λ t. A.mul t (plane_in L f a)) V.on_zero ∙ zero_mul A AL (plane_in L f a)
        ∙ sym (ap (value_of F (plane_of K f)) lv
        ∙ equation F (plane_of K f) (not-empty K L f (length f - 1) hf (let e : length f ≡ suc
        (length f - 1) = omega (arith, has) in e)));
    small_value = ap (λ p. A.mul (value_of F (plane_of K f) p) (plane_in L f a)) sf
        ∙ ap (λ t. A.mul t (plane_in L f a)) V.on_one ∙ one_mul A AL (plane_in L f a)
        ∙ sym (ap (value_of F (plane_of K f)) sv);
    crossed = moved (plane_of K f) P.zero (plane_of K a) P.one (plane_of K large.value)
        (plane_of K large.factor) (plane_of K small.value) (plane_of K small.factor) lv lf sv sf
        (crossed-start F (plane_of K f) (plane_of K a));
  }

  pub state-step : (large small next : Multiple) → IsState large small → 1 < length small.value
      → ArePlanes K next → IsStep K large small next → IsState small next
  state-step large small next h has pair step = record {
    large_planes = h.small_planes;
    small_planes = pair;
    has_y = has;
    large_value = h.small_value;
    small_value = step-value K L f (plane_in L f a) large small next step h.large_value
        h.small_value;
    crossed = step-crossed K L f large small next step h.crossed;
  }

  -- where the value is 0 the factor is not 0, and low
  pub state-end : (large small : Multiple) → IsState large small → IsPlane K f → 1 < length f
      → length small.value ≡ 0 → (0 < length small.factor) × (length small.factor < length f)
  state-end large small h hf has
      none = (
        go small.factor refl,
        omega
            (arith, low.0, plane-size K L small.factor h.small_planes.factor, has),
      )
    where
      empty : (xs : List (List ℕ)) → length xs ≡ 0 → plane_of K xs ≡ P.zero
      empty [] e = refl
      empty (x ∷ xs) e = absurd (omega arith)

      low : (size (polynomials K.ring) (plane_of K small.factor) ≤ length f - 1)
          × (¬ (plane_of K small.factor ≡ P.zero))
      low = crossed-end F (plane_of K f) (plane_of K large.value) (plane_of K large.factor)
          (plane_of K small.factor) (length large.value - 1 - 1) (length f - 1)
          (plane-size K L f hf ∙ (let e : length f ≡ suc (length f - 1) = omega (arith, has) in e))
          (plane-size K L large.value h.large_planes.value
          ∙ (let e : length large.value ≡ suc (suc (length large.value - 1 - 1)) = omega (
            arith,
            h.has_y,
          ) in e))
          (subst (λ t. IsCrossed F (plane_of K f) (plane_of K large.value) (plane_of K large.factor)
          t (plane_of K small.factor)) (empty small.value none) h.crossed)

      go : (xs : List (List ℕ)) → small.factor ≡ xs → 0 < length small.factor
      go [] e = absurd (low.1 (ap (plane_of K) e))
      go (x ∷ xs) e = omega (arith, ap length e)

  PL : IsCommRing (planes (lawful_field L))
  PL = let D : Domain = polynomial_domain (lawful_field L) in polynomial_laws D.ring D.laws D.tests

  pub state-last : (large small : Multiple) → IsState large small → IsPlane K f → 1 < length f
      → length small.value ≤ 1 → AreLast L f a large small
  state-last large small h hf has short = record {
    planes = h.large_planes;
    has_y = h.has_y;
    end = record {
      planes = h.small_planes;
      short = short;
      value = h.small_value;
      divisor = λ none. state-end large small h hf has none;
    };
    cofactors = λ none. record {
      c = h.crossed.right;
      c_nonzero = h.crossed.right_nonzero;
      d = h.crossed.left;
      d_nonzero = h.crossed.left_nonzero;
      product = sym h.crossed.cross
          ∙ ap (λ r. P.mul (row_of K.ring h.crossed.left)
          (P.add (P.mul (plane_of K small.factor) (plane_of K large.value))
          (P.neg (P.mul (plane_of K large.factor) r)))) (nothing small.value none)
          ∙ ap (P.mul (row_of K.ring h.crossed.left))
          (ring3 P PL (λ s r t. s ⊗ r ⊕ neg (t ⊗ nil)) (λ s r t. s ⊗ r) refl
          (plane_of K small.factor) (plane_of K large.value) (plane_of K large.factor));
    };
  }
    where
      nothing : (xs : List (List ℕ)) → length xs ≡ 0 → plane_of K xs ≡ P.zero
      nothing [] e = refl
      nothing (x ∷ xs) e = absurd (omega arith)
