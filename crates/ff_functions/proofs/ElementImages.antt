-- The images of elements: a combination of them is in the target exactly where the combination of
-- the elements is in the infinite order. For an equation f over a field whose laws are L.
use Rattle.std.proofs.Common.{◌≡◌, ℕ, suc, pred, ◌-◌, ◌<◌, ◌≤◌, ◌⊎◌, inl, inr}
use Rattle.std.proofs.Common.{List, length, refl, sym, ◌∙◌, ap, subst, arith}
use Rattle.std.proofs.lemmas.Bool.{cases_lt}
use Rattle.ff_theory.specs.Ring.{RingOps, IsCommRing, Elements, power}
use Rattle.ff_theory.specs.Lawful.{Field, Lawful, lawful_field}
use Rattle.ff_theory.specs.Poly.{Poly, polynomials}
use Rattle.ff_theory.specs.Division.{size}
use Rattle.ff_theory.specs.Monomial.{variable}
use Rattle.ff_theory.specs.Planes.{planes, Plane}
use Rattle.ff_theory.specs.Span.{combination}
use Rattle.ff_theory.specs.Values.{IsPlane}
use Rattle.ff_theory.specs.Vector.{vectors_of}
use Rattle.ff_theory.proofs.Solver.{◌⊕◌, ◌⊗◌, neg, nil, unit, ring1, ring2, ring3}
use Rattle.ff_theory.proofs.Sums.{sum-ext, sum-mul}
use Rattle.ff_theory.proofs.Span.{span-same, span-zero, span-more}
use Rattle.ff_charts.specs.Chart.{Chart as ChartOf, at_u, at_theta, IsChart, InPowers}
use Rattle.ff_charts.specs.Lattice.{HasShape, flat, IsResidue, InLattice, IsTimes}
use Rattle.ff_charts.proofs.Flat.{flat_one}
use Rattle.ff_lin.specs.Space.{SpaceParts, InSpace}
use Rattle.ff_elem.specs.Elem.{algebra_in}
use Rattle.ff_data.specs.declared.order.Chart.TheVariants.{Finite, Infinite}
use Rattle.ff_data.specs.Orders.{chart_of, InResidues}
use Rattle.ff_data.specs.Lattices.{IsLattice, InLatticeOf}
use Rattle.ff_data.specs.Combinations.{combination_in, constant_in}
use Rattle.ff_data.proofs.ChartLaws.{algebra_laws, chart_laws}
use Rattle.ff_data.proofs.PlaneCombinations.{planes_combined, combined_flat}
use Rattle.ff_common.specs.Common.{IsImage, IsTimesSpace, HasVectorOver}
use Rattle.ff_common.proofs.BothCharts.{image_into, image_back}
use Rattle.ff_common.proofs.CommonSpace.{residue_combined, power_is}
use Rattle.ff_quotients.proofs.QuotientResidues.{variable_power_size}
use Rattle.ff_functions.specs.Images.{IsImageOf}
use Rattle.ff_functions.specs.Rows.{IsImageBy}

module _ (F : Elements ℕ) (L : Lawful F) (f : List (List ℕ)) (hf : IsPlane F f) (two : 1 < length f)
  where
    abbrev K : Field
    K = lawful_field L

    abbrev A : RingOps
    A = algebra_in L f

    abbrev AL : IsCommRing (algebra_in L f)
    AL = algebra_laws F L f hf two

    abbrev C : ChartOf F.ring (algebra_in L f)
    C = chart_of L f Finite

    abbrev B : ChartOf F.ring (algebra_in L f)
    B = chart_of L f Infinite

    abbrev BL : IsChart F.ring (algebra_in L f) (chart_of L f Infinite)
    BL = chart_laws F L f hf two Infinite

    abbrev X_to : ℕ → Poly F.ring
    X_to m = power (polynomials F.ring) (variable F.ring) m

    -- the image of a numerator is that of the element
    pub image_element : (d : List ℕ) (l h : ℕ) (v image : ℕ → F.carrier)
        (w : (algebra_in L f).carrier) → IsImage L f d l h v image → HasVectorOver L f d l v w
        → IsImageOf L f h w image
    image_element d l h v image w e n = record {
      residue = e.residue;
      is_residue = e.is_residue w (n.1.1.1 ∙ ap (at_theta C) (flat_one (lawful_field L) l
          (chart_of L f Finite).degree n.0 e.plane n.1.0 e.shape
          (λ j. n.1.1.0 j ∙ sym (e.vector j))));
      image_is = e.image_is;
    }

    module _ (h : ℕ) (n : ℕ) (w : ℕ → (algebra_in L f).carrier) (g : ℕ → ℕ → F.carrier)
        (are : (i : ℕ) → i < n → IsImageOf L f h (w i) (g i)) (c : ℕ → F.carrier) where
      abbrev t_power : (algebra_in L f).carrier
      t_power = at_u (chart_of L f Infinite) (power (polynomials F.ring) (variable F.ring) h)

      abbrev pick : (i : ℕ) → (i < n) ⊎ (n ≤ i)
          → Plane (lawful_field L) × (algebra_in L f).carrier
      pick i (inl q) = ((are i q).residue, (are i q).is_residue.rest)
      pick i (inr q) = ((planes (lawful_field L)).zero, (algebra_in L f).zero)

      R : ℕ → Plane (lawful_field L)
      R i = (pick i (cases_lt i n)).0

      rest : ℕ → (algebra_in L f).carrier
      rest i = (pick i (cases_lt i n)).1

      record Known (i : ℕ) (M : Plane (lawful_field L)) (r : (algebra_in L f).carrier)
          : Type 0 where
        pub image : (k : ℕ) → g i k ≡ flat F.ring h M k
        pub small : HasShape F.ring (chart_of L f Infinite).degree
            (pred (size F.ring (power (polynomials F.ring) (variable F.ring) h))) M
        pub in_powers : InPowers (chart_of L f Infinite) r
        pub sum : A.mul t_power (w i)
            ≡ A.add (at_theta (chart_of L f Infinite) M) (A.mul t_power r)

      known : (i : ℕ) → i < n → Known i (R i) (rest i)
      unfolding R rest
      known i q = go (cases_lt i n)
        where
          go : (c : (i < n) ⊎ (n ≤ i)) → Known i (pick i c).0 (pick i c).1
          go (inr k) = absurd (omega (arith, q, k))
          go (inl k) = record {
            image = (are i k).image_is;
            small = (are i k).is_residue.shape;
            in_powers = (are i k).is_residue.in_powers;
            sum = (are i k).is_residue.sum;
          }

      pub image_combined : IsImageOf L f h (combination_in L f n c w) (combination F.ring n c g)
      image_combined = record {
        residue = planes_combined (lawful_field L) c R n;
        is_residue = subst (λ a. IsResidue B (X_to h) a (planes_combined (lawful_field L) c R n))
            (sum-ext A AL n _ _ (λ i q. ring3 A AL (λ c t w. c ⊗ (t ⊗ w)) (λ c t w. t ⊗ (c ⊗ w))
            refl (constant_in L f (c i)) t_power (w i))
            ∙ sum-mul A AL n t_power (λ i. A.mul (constant_in L f (c i)) (w i)))
            (residue_combined K A AL B BL (X_to h) n c (λ i. A.mul t_power (w i)) R rest
            (λ i q. (known i q).small) (λ i q. (known i q).in_powers) (λ i q. (known i q).sum));
        image_is = λ k. sum-ext F.ring L.laws n _ _
            (λ i q. ap (F.mul (c i)) ((known i q).image k))
            ∙ sym (combined_flat K h c R n k);
      }

    -- an element is in the infinite order where its image is in the target
    module _ (t : List ℕ) (o : SpaceParts) (infinite : IsLattice L f Infinite t o) (j : ℕ)
        (room : pred (length t) ≤ suc j) (T : SpaceParts)
        (times : IsTimesSpace L f (power (polynomials F.ring) (variable F.ring)
        (suc j - pred (length t))) (pred (length t)) (suc j) o T)
        (w : (algebra_in L f).carrier) (v : ℕ → F.carrier) (image : IsImageOf L f (suc j) w v) where
      abbrev m : ℕ
      m = pred (length t)

      abbrev V : Plane (lawful_field L) → Type 0
      V = InResidues F (pred (length t)) o

      shape : HasShape F.ring (chart_of L f Infinite).degree (suc j) image.residue
      shape = subst (λ n. HasShape F.ring (chart_of L f Infinite).degree n image.residue)
          (let z : size F.ring (X_to (suc j)) ≡ suc (suc j) = variable_power_size K (suc j) in
          let p : pred (size F.ring (X_to (suc j))) ≡ suc j = omega (arith, z) in p)
          image.is_residue.shape

      length_is : pred (size F.ring (power (polynomials F.ring) (variable F.ring)
          (pred (length t)))) ≡ pred (length t)
      length_is = let z : size F.ring (X_to m) ≡ suc m = variable_power_size K m in
          let p : pred (size F.ring (X_to m)) ≡ m = omega (arith, z) in p

      pub target_into : InSpace F T v → InLatticeOf L f Infinite t o w
      target_into h = subst (λ p. InLattice B p V w) (sym (power_is F L f hf two t o infinite))
          (image_back F L f hf two j w image.residue image.is_residue m room V
          (subst (λ n. IsTimes F.ring B.degree n (X_to (suc j - m)) V image.residue) (sym length_is)
          ((times image.residue shape).0 (span-same F.ring L.laws (length T.basis)
          (vectors_of F T.basis) v (flat F.ring (suc j) image.residue)
          (λ k. sym (image.image_is k)) h))))

      pub target_back : InLatticeOf L f Infinite t o w → InSpace F T v
      target_back h = span-same F.ring L.laws (length T.basis) (vectors_of F T.basis)
          (flat F.ring (suc j) image.residue) v image.image_is
          ((times image.residue shape).1
          (subst (λ n. IsTimes F.ring B.degree n (X_to (suc j - m)) V image.residue) length_is
          (image_into F L f hf two j w image.residue image.is_residue m room V
          (subst (λ p. InLattice B p V w) (power_is F L f hf two t o infinite) h))))

    -- relations of images are combinations of elements in the infinite order
    module _ (t : List ℕ) (o : SpaceParts) (infinite : IsLattice L f Infinite t o) (j : ℕ)
        (room : pred (length t) ≤ suc j) (T : SpaceParts)
        (times : IsTimesSpace L f (power (polynomials F.ring) (variable F.ring)
        (suc j - pred (length t))) (pred (length t)) (suc j) o T)
        (n : ℕ) (w : ℕ → (algebra_in L f).carrier) (g : ℕ → ℕ → F.carrier)
        (are : (i : ℕ) → i < n → IsImageOf L f (suc j) (w i) (g i)) (c : ℕ → F.carrier) where
      pub relation_in_order : IsImageBy F T n g c (λ i. F.zero)
          → InLatticeOf L f Infinite t o (combination_in L f n c w)
      relation_in_order h = target_into t o infinite j room T times (combination_in L f n c w)
          (combination F.ring n c g) (image_combined (suc j) n w g are c)
          (span-same F.ring L.laws (length T.basis) (vectors_of F T.basis)
          (λ i. F.add (F.mul (F.neg F.one) (h.rest i)) F.zero) (combination F.ring n c g)
          (λ i. ring2 F.ring L.laws (λ r s. s) (λ r s. (neg unit ⊗ r ⊕ nil) ⊕ (r ⊕ s)) refl
          (h.rest i) (combination F.ring n c g i)
          ∙ ap (F.add (F.add (F.mul (F.neg F.one) (h.rest i)) F.zero)) (sym (h.sum i))
          ∙ L.laws.add_zero (F.add (F.mul (F.neg F.one) (h.rest i)) F.zero))
          (span-more F.ring L.laws (length T.basis) (vectors_of F T.basis) (F.neg F.one) h.rest
          (λ i. F.zero) h.in_target (span-zero F.ring L.laws (length T.basis)
          (vectors_of F T.basis))))

      pub order_relation : InLatticeOf L f Infinite t o (combination_in L f n c w)
          → IsImageBy F T n g c (λ i. F.zero)
      order_relation h = record {
        rest = λ i. F.add (F.mul (F.neg F.one) (combination F.ring n c g i)) F.zero;
        in_target = span-more F.ring L.laws (length T.basis) (vectors_of F T.basis) (F.neg F.one)
            (combination F.ring n c g) (λ i. F.zero)
            (target_back t o infinite j room T times (combination_in L f n c w)
            (combination F.ring n c g) (image_combined (suc j) n w g are c) h)
            (span-zero F.ring L.laws (length T.basis) (vectors_of F T.basis));
        sum = λ i. ring1 F.ring L.laws (λ s. nil) (λ s. (neg unit ⊗ s ⊕ nil) ⊕ s) refl
            (combination F.ring n c g i);
      }
