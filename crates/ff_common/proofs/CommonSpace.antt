-- The numerators of the common elements of two lattices, from the images of a space that holds
-- them, for an equation f over a field whose laws are L.
use Rattle.std.proofs.Common.{◌≡◌, ℕ, zero, suc, pred, ◌-◌, ◌*◌, ◌<◌, ◌≤◌}
use Rattle.std.proofs.Common.{◌⊎◌, inl, inr}
use Rattle.std.proofs.Common.{List, [], ◌∷◌, length, ◌↔◌, false, refl, sym, ◌∙◌, ap, ap₂, subst}
use Rattle.std.proofs.Common.{arith}
use Rattle.std.proofs.Common.{map, Vec, Global}
use Rattle.std.proofs.lemmas.List.{length-map}
use Rattle.std.proofs.lemmas.Bool.{cases_lt}
use Rattle.ff_theory.specs.Ring.{RingOps, IsCommRing, Elements, power}
use Rattle.ff_theory.specs.Lawful.{Field, Lawful, lawful_field}
use Rattle.ff_theory.specs.Sum.{sum_below}
use Rattle.ff_theory.specs.Poly.{Poly, polynomials}
use Rattle.ff_theory.specs.Division.{size}
use Rattle.ff_theory.specs.Monomial.{variable}
use Rattle.ff_theory.specs.Planes.{planes, Plane}
use Rattle.ff_theory.specs.Span.{combination, SameSpan}
use Rattle.ff_theory.specs.Values.{poly_of, IsPlane}
use Rattle.ff_theory.specs.Vector.{vectors_of, combination_of}
use Rattle.ff_theory.proofs.Solver.{◌⊕◌, ◌⊗◌, unit, ring1, ring3, ring4}
use Rattle.ff_theory.proofs.Sums.{sum-ext, sum-add, sum-mul}
use Rattle.ff_theory.proofs.Span.{span-same}
use Rattle.ff_charts.specs.Chart.{Chart as ChartOf, at_u, at_theta, InPowers, IsChart}
use Rattle.ff_charts.specs.Lattice.{HasShape, flat, IsResidue, InLattice, IsTimes}
use Rattle.ff_charts.proofs.Chart.{cancel_u, powers_zero, powers_add, powers_mul, powers_u}
use Rattle.ff_charts.proofs.Chart.{powers_at}
use Rattle.ff_charts.proofs.Flat.{flat_one}
use Rattle.ff_theory.proofs.Evaluate.{eval-const}
use Rattle.ff_theory.specs.Poly.{poly}
use Rattle.ff_lin.specs.Space.{SpaceParts, IsSpaceOf, InSpace, HasExactly, combinations_of}
use Rattle.ff_poly.proofs.LongDivision.{poly-size}
use Rattle.ff_elem.specs.Elem.{algebra_in}
use Rattle.ff_data.specs.declared.order.Chart.TheVariants.{Finite, Infinite}
use Rattle.ff_data.specs.Orders.{chart_of, y_degree, InResidues}
use Rattle.ff_data.specs.Lattices.{IsLattice, InLatticeOf, InBoth}
use Rattle.ff_data.specs.Combinations.{combination_in, constant_in}
use Rattle.ff_common.specs.Common.{IsOver, HoldsNumerators, AreImages}
use Rattle.ff_common.specs.Common.{IsTimesSpace, AtInfinity}
use Rattle.ff_common.proofs.BothCharts.{image_into, image_back}
use Rattle.ff_data.proofs.ChartLaws.{algebra_laws, chart_laws}
use Rattle.ff_common.proofs.CommonBasis.{combined_over}
use Rattle.ff_quotients.proofs.KeptVectors.{kept-exact}
use Rattle.ff_data.proofs.PlaneCombinations.{planes_combined, combined_shape, combined_flat}
use Rattle.ff_data.proofs.PlaneCombinations.{combined_value}
use Rattle.ff_quotients.proofs.QuotientResidues.{variable_power_size}

-- residues of combinations
module _ (K : Field) (A : RingOps) (AL : IsCommRing A) (c : ChartOf K.ring A)
    (l : IsChart K.ring A c) (m : Poly K.ring) where
  constant_powers : (a : K.carrier) → InPowers c (c.constant a)
  constant_powers a = powers_at K A AL c l (eval-const K.ring A K.laws K.tests AL c.constant
      l.constants c.u a) (powers_u K A AL c l (poly K.ring (a ∷ [])))

  sum_powers : (r : ℕ) (x : ℕ → K.carrier) (w : ℕ → A.carrier)
      → ((i : ℕ) → i < r → InPowers c (w i))
      → InPowers c (sum_below A r (λ i. A.mul (c.constant (x i)) (w i)))
  sum_powers zero x w h = powers_zero K A AL c l
  sum_powers (suc r) x w h = powers_add K A AL c l _ _
      (sum_powers r x w (λ i q. h i (omega (arith, q))))
      (powers_mul K A AL c l _ _ (constant_powers (x r)) (h r (omega arith)))

  pub residue_combined : (r : ℕ) (x : ℕ → K.carrier) (w : ℕ → A.carrier) (N : ℕ → Plane K)
      (rest : ℕ → A.carrier)
      → ((i : ℕ) → i < r → HasShape K.ring c.degree (pred (size K.ring m)) (N i))
      → ((i : ℕ) → i < r → InPowers c (rest i))
      → ((i : ℕ) → i < r → w i ≡ A.add (at_theta c (N i)) (A.mul (at_u c m) (rest i)))
      → IsResidue c m (sum_below A r (λ i. A.mul (c.constant (x i)) (w i)))
      (planes_combined K x N r)
  residue_combined r x w N rest shape powers sum = record {
    shape = combined_shape K c.degree (pred (size K.ring m)) x N r shape;
    rest = sum_below A r (λ i. A.mul (c.constant (x i)) (rest i));
    in_powers = sum_powers r x rest powers;
    sum = sum-ext A AL r _ (λ i. A.add (A.mul (c.constant (x i)) (at_theta c (N i)))
        (A.mul (at_u c m) (A.mul (c.constant (x i)) (rest i))))
        (λ i q. ap (A.mul (c.constant (x i))) (sum i q)
        ∙ ring4 A AL (λ x n m r. x ⊗ (n ⊕ m ⊗ r)) (λ x n m r. x ⊗ n ⊕ m ⊗ (x ⊗ r)) refl
        (c.constant (x i)) (at_theta c (N i)) (at_u c m) (rest i))
        ∙ sum-add A AL r (λ i. A.mul (c.constant (x i)) (at_theta c (N i)))
        (λ i. A.mul (at_u c m) (A.mul (c.constant (x i)) (rest i)))
        ∙ ap₂ A.add (sym (combined_value K A AL c l x N r))
        (sum-mul A AL r (at_u c m) (λ i. A.mul (c.constant (x i)) (rest i)));
  }

module _ (F : Elements ℕ) (L : Lawful F) (f : List (List ℕ)) (hf : IsPlane F f) (two : 1 < length f)
  where
    abbrev K : Field
    K = lawful_field L

    abbrev A : RingOps
    A = algebra_in L f

    abbrev AL : IsCommRing (algebra_in L f)
    AL = algebra_laws F L f hf two

    abbrev C : ChartOf F.ring (algebra_in L f)
    C = chart_of L f Finite

    abbrev CL : IsChart F.ring (algebra_in L f) (chart_of L f Finite)
    CL = chart_laws F L f hf two Finite

    abbrev B : ChartOf F.ring (algebra_in L f)
    B = chart_of L f Infinite

    abbrev BL : IsChart F.ring (algebra_in L f) (chart_of L f Infinite)
    BL = chart_laws F L f hf two Infinite

    abbrev X_to : ℕ → Poly F.ring
    X_to m = power (polynomials F.ring) (variable F.ring) m

    -- the polynomial t is its power of the variable
    pub power_is : (t : List ℕ) (o : SpaceParts) → IsLattice L f Infinite t o
        → poly_of F t ≡ power (polynomials F.ring) (variable F.ring) (pred (length t))
    power_is t o h = h.modulus.1 ∙ ap (power (polynomials F.ring) (variable F.ring)) (sym
        (let s : size F.ring (poly_of F t) ≡ length t = poly-size F.ring L.laws L.tests F.value t
        h.poly.canonical in
        let v = ap (size F.ring) h.modulus.1 in
        let z : size F.ring (power (polynomials F.ring) (variable F.ring) h.modulus.0)
        ≡ suc h.modulus.0 = variable_power_size K h.modulus.0 in
        let r : pred (length t) ≡ h.modulus.0 = omega (arith, s, v, z) in r))

    module _ (d : List ℕ) (nd : (polynomials F.ring).same (poly_of F d) (polynomials F.ring).zero
        ≡ false) (t : List ℕ) (o : SpaceParts) (infinite : IsLattice L f Infinite t o) (l : ℕ) where
      abbrev m : ℕ
      m = pred (length t)

      abbrev V : Plane (lawful_field L) → Type 0
      V = InResidues F (pred (length t)) o

      pub carried : (v w : ℕ → F.carrier) → ((i : ℕ) → w i ≡ v i) → AtInfinity L f d l t o v
          → AtInfinity L f d l t o w
      carried v w e h N shape is x over = h N shape (λ i. is i ∙ e i) x over

      abbrev D : (algebra_in L f).carrier
      D = at_u (chart_of L f Finite) (poly_of F d)

      -- the element with a numerator
      abbrev quotient : Plane (lawful_field L) → (algebra_in L f).carrier
      quotient N = A.mul (CL.inverse (poly_of F d)) (at_theta (chart_of L f Finite) N)

      quotient_over : (N : Plane (lawful_field L)) → IsOver L f d N (quotient N)
      quotient_over N = ring3 A AL (λ d i n. d ⊗ (i ⊗ n)) (λ d i n. (i ⊗ d) ⊗ n) refl D
          (CL.inverse (poly_of F d)) (at_theta C N)
          ∙ ap (λ t. A.mul t (at_theta C N)) (CL.inverts (poly_of F d) nd)
          ∙ ring1 A AL (λ n. unit ⊗ n) (λ n. n) refl (at_theta C N)

      one_over : (N : Plane (lawful_field L)) (v w : (algebra_in L f).carrier) → IsOver L f d N v
          → IsOver L f d N w → v ≡ w
      one_over N v w p q = cancel_u K A AL C CL (poly_of F d) nd v w (p ∙ sym q)

      module _ (j : ℕ) (room : pred (length t) ≤ suc j) (W T : SpaceParts) (images : List (List ℕ))
          (count : length images ≡ length W.basis)
          (are : AreImages L f d l (suc j) W.basis images)
          (raised : IsTimesSpace L f (power (polynomials F.ring) (variable F.ring)
          (suc j - pred (length t))) (pred (length t)) (suc j) o T) where
        abbrev r : ℕ
        r = length W.basis

        -- the numerators, the residues and what is left of them, by index
        abbrev pick : (i : ℕ) → (i < length W.basis) ⊎ (length W.basis ≤ i)
            → Plane (lawful_field L) × (Plane (lawful_field L) × (algebra_in L f).carrier)
        pick i (inl h) = (
          (are i h).plane,
          (
            (are i h).residue,
            ((are i h).is_residue (quotient (are i h).plane) (quotient_over (are i h).plane)).rest,
          ),
        )
        pick i (inr h) = ((planes K).zero, ((planes K).zero, A.zero))

        N : ℕ → Plane (lawful_field L)
        N i = (pick i (cases_lt i (length W.basis))).0

        R : ℕ → Plane (lawful_field L)
        R i = (pick i (cases_lt i (length W.basis))).1.0

        rest : ℕ → (algebra_in L f).carrier
        rest i = (pick i (cases_lt i (length W.basis))).1.1

        abbrev t_power : (algebra_in L f).carrier
        t_power = at_u (chart_of L f Infinite) (power (polynomials F.ring) (variable F.ring) (suc
            j))

        record Known (i : ℕ) (N R : Plane (lawful_field L)) (rest : (algebra_in L f).carrier)
            : Type 0 where
          pub shape : HasShape F.ring (chart_of L f Finite).degree l N
          pub vector : (k : ℕ) → flat F.ring l N k ≡ vectors_of F W.basis i k
          pub image : (k : ℕ) → vectors_of F images i k ≡ flat F.ring (suc j) R k
          pub small : HasShape F.ring (chart_of L f Infinite).degree
              (pred (size F.ring (power (polynomials F.ring) (variable F.ring) (suc j)))) R
          pub in_powers : InPowers (chart_of L f Infinite) rest
          pub sum : A.mul t_power (quotient N)
              ≡ A.add (at_theta (chart_of L f Infinite) R) (A.mul t_power rest)

        known : (i : ℕ) → i < length W.basis → Known i (N i) (R i) (rest i)
        unfolding N R rest
        known i h = go (cases_lt i (length W.basis))
          where
            go : (c : (i < length W.basis) ⊎ (length W.basis ≤ i))
                → Known i (pick i c).0 (pick i c).1.0 (pick i c).1.1
            go (inr k) = absurd (omega (arith, h, k))
            go (inl k) = record {
              shape = (are i k).shape;
              vector = (are i k).vector;
              image = (are i k).image_is;
              small = q.shape;
              in_powers = q.in_powers;
              sum = q.sum;
            }
              where
                q : IsResidue (chart_of L f Infinite)
                    (power (polynomials F.ring) (variable F.ring) (suc j))
                    (A.mul t_power (quotient (are i k).plane)) (are i k).residue
                q = (are i k).is_residue (quotient (are i k).plane) (quotient_over (are i k).plane)

        module _ (c : ℕ → F.carrier) where
          abbrev w : (algebra_in L f).carrier
          w = combination_in L f (length W.basis) c (λ i. quotient (N i))

          abbrev M : Plane (lawful_field L)
          M = planes_combined (lawful_field L) c R (length W.basis)

          residue : IsResidue (chart_of L f Infinite)
              (power (polynomials F.ring) (variable F.ring) (suc j)) (A.mul t_power w) M
          residue = subst (λ a. IsResidue B (X_to (suc j)) a M)
              (sum-ext A AL r _ _ (λ i q. ring3 A AL (λ c t w. c ⊗ (t ⊗ w)) (λ c t w. t ⊗ (c ⊗ w))
              refl
              (constant_in L f (c i)) t_power (quotient (N i)))
              ∙ sum-mul A AL r t_power (λ i. A.mul (constant_in L f (c i)) (quotient (N i))))
              (residue_combined K A AL B BL (X_to (suc j)) r c (λ i. A.mul t_power (quotient (N i)))
              R rest (λ i q. (known i q).small) (λ i q. (known i q).in_powers)
              (λ i q. (known i q).sum))

          vector : (k : ℕ) → flat F.ring (suc j) M k ≡ combination_of F images c k
          vector k = combined_flat K (suc j) c R r k
              ∙ sum-ext F.ring L.laws r _ _ (λ i q. ap (F.mul (c i)) (sym ((known i q).image k)))
              ∙ ap (λ n. combination F.ring n c (vectors_of F images) k) (sym count)

          shape : HasShape F.ring (chart_of L f Infinite).degree (suc j) M
          shape = subst (λ n. HasShape F.ring (chart_of L f Infinite).degree n M)
              (let z : size F.ring (X_to (suc j)) ≡ suc (suc j) = variable_power_size K (suc j) in
              let p : pred (size F.ring (X_to (suc j))) ≡ suc j = omega (arith, z) in p)
              residue.shape

          abbrev N_sum : Plane (lawful_field L)
          N_sum = planes_combined (lawful_field L) c N (length W.basis)

          sum_over : IsOver L f d (planes_combined (lawful_field L) c N (length W.basis)) w
          sum_over = combined_over F L f hf two d nd l r c N (λ i. quotient (N i))
              (λ i q. quotient_over (N i))

          sum_shape : HasShape F.ring (chart_of L f Finite).degree l
              (planes_combined (lawful_field L) c N (length W.basis))
          sum_shape = combined_shape K C.degree l c N r (λ i q. (known i q).shape)

          sum_vector : (k : ℕ) → flat F.ring l (planes_combined (lawful_field L) c N (length
              W.basis)) k
              ≡ combination_of F W.basis c k
          sum_vector k = combined_flat K l c N r k
              ∙ sum-ext F.ring L.laws r _ _ (λ i q. ap (F.mul (c i)) ((known i q).vector k))

          length_is : pred (size F.ring (power (polynomials F.ring) (variable F.ring)
              (pred (length t)))) ≡ pred (length t)
          length_is = let z : size F.ring (X_to m) ≡ suc m = variable_power_size K m in
              let p : pred (size F.ring (X_to m)) ≡ m = omega (arith, z) in p

          pub into : InSpace F T (combination_of F images c) → AtInfinity L f d l t o
              (combination_of F W.basis c)
          into h N' shape' vector' w' over' = subst (InLatticeOf L f Infinite t o) same
              (subst (λ p. InLattice B p V w) (sym (power_is t o infinite))
              (image_back F L f hf two j w M residue m room V
              (subst (λ n. IsTimes F.ring B.degree n (X_to (suc j - m)) V M) (sym length_is)
              ((raised M shape).0 (span-same F.ring L.laws (length T.basis) (vectors_of F T.basis)
              (combination_of F images c) (flat F.ring (suc j) M) vector h)))))
            where
              same : w ≡ w'
              same = one_over N' w w' (sum_over ∙ ap (at_theta C) (flat_one K l C.degree N_sum N'
                  sum_shape shape' (λ k. sum_vector k ∙ sym (vector' k)))) over'

          pub back : AtInfinity L f d l t o (combination_of F W.basis c) → InSpace F T
              (combination_of F images c)
          back h = span-same F.ring L.laws (length T.basis) (vectors_of F T.basis)
              (flat F.ring (suc j) M) (combination_of F images c) (λ k. sym (vector k))
              ((raised M shape).1
              (subst (λ n. IsTimes F.ring B.degree n (X_to (suc j - m)) V M) length_is
              (image_into F L f hf two j w M residue m room V
              (subst (λ p. InLattice B p V w) (power_is t o infinite)
              (h N_sum sum_shape sum_vector w sum_over)))))

        pub kept_exactly : (c : SpaceParts)
            → HasExactly F c (λ v. InSpace F T (combination_of F images v))
            → HasExactly F c (λ v. AtInfinity L f d l t o (combination_of F W.basis v))
        kept_exactly c exact v = (
          λ h. let e = (exact v).0 h in (e.0, into v e.1),
          λ h. (exact v).1 (h.0, back v h.1),
        )

      -- the space of the combinations that are kept
      pub common_space : (s : SpaceParts) (W c s' : SpaceParts)
          → HoldsNumerators L f d l (InBoth L f d s t o) (InLatticeOf L f Finite d s) W
          → c.len ≡ length W.basis → IsSpaceOf F (y_degree L f * l) s'
          → HasExactly F c (λ v. AtInfinity L f d l t o (combination_of F W.basis v))
          → SameSpan F.ring (length s'.basis) (vectors_of F s'.basis) (length c.basis)
          (combinations_of F W.basis c.basis)
          → HoldsNumerators L f d l (InBoth L f d s t o) (InBoth L f d s t o) s'
      common_space s W c s' holds len space exact same = record {
        space = space;
        each = λ w h. let k = (kept (flat F.ring l h.plane)).0 h.is_in in record {
          in_finite = holds.each w (record {
            plane = h.plane;
            shape = h.shape;
            is_in = k.0;
            over = h.over;
          });
          in_infinite = k.1 h.plane h.shape (λ i. refl) w h.over;
        };
        whole = λ w p. let h = holds.whole w p in record {
          plane = h.plane;
          shape = h.shape;
          is_in = (kept (flat F.ring l h.plane)).1 (
            h.is_in,
            λ N' shape' vector' w' over'.
                subst (InLatticeOf L f Infinite t o) (one_over N' w w' (h.over ∙ ap (at_theta C)
                (flat_one K l C.degree h.plane N' h.shape shape' (λ k. sym (vector' k)))) over')
                p.in_infinite,
          );
          over = h.over;
        };
      }
        where
          kept : (v : ℕ → F.carrier) → InSpace F s' v ↔ (InSpace F W v × AtInfinity L f d l t o v)
          kept v = kept-exact F L W c s' (AtInfinity L f d l t o) carried len exact same v

      -- as the calls give it
      pub kept_by_images : (h : ℕ) → 0 < h → pred (length t) ≤ h → (W T : SpaceParts)
          (basis images : List (Vec ℕ Global)) → map (λ v. v.items) basis ≡ W.basis
          → length images ≡ length basis
          → AreImages L f d l h (map (λ v. v.items) basis) (map (λ v. v.items) images)
          → IsTimesSpace L f (power (polynomials F.ring) (variable F.ring)
          (h - pred (length t))) (pred (length t)) h o T → (c : SpaceParts)
          → HasExactly F c (λ v. InSpace F T (combination_of F (map (λ v. v.items) images) v))
          → HasExactly F c (λ v. AtInfinity L f d l t o (combination_of F W.basis v))
      kept_by_images zero positive room W T basis images hb len are raised c exact =
          absurd (omega (arith, positive))
      kept_by_images (suc j) positive room W T basis images hb len are raised c exact =
          kept_exactly j room W T (map items images)
          (length-map images items ∙ len ∙ sym (length-map basis items) ∙ ap length hb)
          (subst (λ b. AreImages L f d l (suc j) b (map items images)) hb are) raised c exact
        where
          items : Vec ℕ Global → List ℕ
          items v = v.items
