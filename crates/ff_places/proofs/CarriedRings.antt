-- The map between the rings of the tables of two pole systems that an isomorphism gives which
-- carries the point of one to that of the other: it keeps sums, products and weights, and takes
-- polynomials in z to polynomials in alpha * z + beta. So w goes to a root of the relation of w
-- with alpha * z + beta in the place of z.
use Rattle.std.proofs.Common.{◌≡◌, ℕ, suc, ◌<◌, List, [], ◌∷◌, length}
use Rattle.std.proofs.Common.{refl, sym, ◌∙◌, ap, ap₂, subst, arith}
use Rattle.ff_theory.specs.Ring.{RingOps, Elements, IsElement, power}
use Rattle.ff_theory.specs.Lawful.{Field, Lawful, lawful_field}
use Rattle.ff_theory.specs.Map.{IsMap}
use Rattle.ff_theory.specs.Sum.{sum_below}
use Rattle.ff_theory.specs.Eval.{eval}
use Rattle.ff_theory.specs.Algebra.{constant}
use Rattle.ff_theory.specs.Poly.{Poly, poly, polynomials}
use Rattle.ff_theory.specs.Division.{size}
use Rattle.ff_theory.specs.Values.{plane_of, IsPlane}
use Rattle.ff_theory.proofs.Solver.{◌⊕◌, neg, nil, ring1, ring2}
use Rattle.ff_theory.proofs.Constants.{constant_map}
use Rattle.ff_factors.specs.Factors.{IsFactored}
use Rattle.ff_table.specs.Coords.{Coords, at}
use Rattle.ff_table.specs.Table.{Table, IsTable, table_ring, WeighsBelow}
use Rattle.ff_table.specs.Weight.{IsUnder}
use Rattle.ff_table.proofs.TableRing.{table_laws, table_domain}
use Rattle.ff_table.proofs.Weights.{bound}
use Rattle.ff_table.proofs.Embedding.{embed}
use Rattle.ff_table.specs.Powers.{IsRelation, Written}
use Rattle.ff_table.proofs.RootsOfMaps.{IsMapOver, map-root, maps-agree}
use Rattle.ff_table.proofs.Substitution.{at_zeta, embed_at, embed_at-nonzero}
use Rattle.ff_elem.specs.Elem.{algebra_in, elem_of}
use Rattle.ff_data.specs.declared.order.Order.{Order}
use Rattle.ff_data.specs.declared.point.Point.{Point}
use Rattle.ff_data.specs.declared.system.System.{System}
use Rattle.ff_data.specs.Systems.{weight_at, IsSystem}
use Rattle.ff_data.proofs.ChartLaws.{algebra_laws}
use Rattle.ff_systems.specs.Places.{IsPlace}
use Rattle.ff_places.proofs.CurvePlaces.{curve_field}
use Rattle.ff_places.proofs.Isomorphisms.{FieldIsomorphism}
use Rattle.ff_places.proofs.CarriedPlaces.{IsCarriedPoint}
use Rattle.ff_places.proofs.SystemRings.{table, elem, elem_map, elem_one, elem_embed, elem_within}
use Rattle.ff_places.proofs.SystemRings.{coords_for}
use Rattle.ff_places.proofs.LinearValues.{linear_value, value_at_zeta, value_carried}

module _ (F : Elements ℕ) (L : Lawful F) (f : List (List ℕ)) (hf : IsPlane F f)
    (two : 1 < length f) (o : Order) (p : Point) (other : Order) (place : IsPlace L f o p other)
    (J : ℕ) (s : System) (y : IsSystem L f o p other J s) where
  -- each element of the ring is in some space
  some_space : (rule : IsTable F.ring (table F L f hf two o p other place J s y))
      (x : Coords (polynomials F.ring) (length s.weights))
      → (j : ℕ) × WeighsBelow F.ring (table F L f hf two o p other place J s y) (suc j) x
  some_space rule x = (b.0, λ l q d k. b.1 l q d (omega (arith, k)))
    where
      b : (b : ℕ) × ((l : ℕ) → l < length s.weights → IsUnder F.ring (length s.weights)
          (weight_at s l) b (at (polynomials F.ring) (length s.weights) x l))
      b = bound F.ring L.laws L.tests (length s.weights) rule.algebra.positive
          (λ i. weight_at s i) rule.classes (at (polynomials F.ring) (length s.weights) x)
          (length s.weights) (omega arith)

module _ (F : Elements ℕ) (L : Lawful F)
    (onto : (s : F.carrier) → (n : ℕ) × IsElement F n × (F.value n ≡ s))
    (f g : List (List ℕ)) (hf : IsPlane F f) (hg : IsPlane F g) (two : 1 < length f)
    (more : 1 < length g) (o : Order) (p : Point) (other : Order) (at_f : IsPlace L f o p other)
    (irreducible : (a b : Poly (polynomials F.ring)) → ¬ IsFactored F.ring (plane_of F g) a b)
    (σ : FieldIsomorphism (lawful_field L) (curve_field F L f hf two at_f.irreducible)
    (curve_field F L g hg more irreducible) (constant (lawful_field L) (plane_of F f))
    (constant (lawful_field L) (plane_of F g)))
    (here there : Order) (q : IsCarriedPoint F L onto f g o p other σ.to here there)
    (I J : ℕ) (s t : System) (y : IsSystem L f o p other I s)
    (z : IsSystem L g here q.point there J t) where
  abbrev K : Field
  K = lawful_field L

  abbrev A : RingOps
  A = algebra_in L f

  abbrev B : RingOps
  B = algebra_in L g

  abbrev pub first : Table F.ring
  first = table F L f hf two o p other at_f I s y

  abbrev pub second : Table F.ring
  second = table F L g hg more here q.point there q.is_place J t z

  abbrev Source : Type 0
  Source = Coords (polynomials F.ring) (length s.weights)

  abbrev Target : Type 0
  Target = Coords (polynomials F.ring) (length t.weights)

  abbrev in_f : Source → A.carrier
  in_f x = elem F L f hf two o p other at_f I s y x

  abbrev in_g : Target → B.carrier
  in_g x = elem F L g hg more here q.point there q.is_place J t z x

  module _ (rule : IsTable F.ring first) (other_rule : IsTable F.ring second) where
    -- the coordinates of the image, found in the space of a bound
    found : (x : Source) → (w : Target) × ((in_g w ≡ σ.to (in_f x))
        × WeighsBelow F.ring second (suc (some_space F L f hf two o p other at_f I s y rule x).0) w)
    found x = coords_for F L g hg more here q.point there q.is_place J t z b.0 (σ.to (in_f x))
        (q.into b.0 (in_f x) (elem_within F L f hf two o p other at_f I s y b.0 x b.1))
      where
        b : (j : ℕ) × WeighsBelow F.ring first (suc j) x
        b = some_space F L f hf two o p other at_f I s y rule x

    pub carried_coords : Coords (polynomials F.ring) (length s.weights)
        → Coords (polynomials F.ring) (length t.weights)
    carried_coords x = (found x).0

    pub carried_is : (x : Coords (polynomials F.ring) (length s.weights))
        → elem F L g hg more here q.point there q.is_place J t z (carried_coords x)
        ≡ σ.to (elem F L f hf two o p other at_f I s y x)
    unfolding carried_coords
    carried_is x = (found x).1.0

    one : (v w : Target) → in_g v ≡ in_g w → v ≡ w
    one = elem_one F L g hg more here q.point there q.is_place J t z

    E : IsMap (table_ring F.ring first) A in_f
    E = elem_map F L f hf two o p other at_f I s y

    G : IsMap (table_ring F.ring second) B in_g
    G = elem_map F L g hg more here q.point there q.is_place J t z

    to_one : σ.to A.one ≡ B.one
    to_one = ap σ.to (sym (constant_map K (plane_of F f)).on_one) ∙ σ.to_constant F.one
        ∙ (constant_map K (plane_of F g)).on_one

    to_zero : σ.to A.zero ≡ B.zero
    to_zero = ap σ.to (sym (constant_map K (plane_of F f)).on_zero) ∙ σ.to_constant F.zero
        ∙ (constant_map K (plane_of F g)).on_zero

    abbrev T : RingOps
    T = table_ring F.ring first

    abbrev S : RingOps
    S = table_ring F.ring second

    -- the sum with the negative is 0
    carried_add : (a b : Source) → carried_coords (T.add a b)
        ≡ S.add (carried_coords a) (carried_coords b)
    carried_add a b = one _ _ (carried_is (T.add a b) ∙ ap σ.to (E.on_add a b)
        ∙ σ.to_add (in_f a) (in_f b) ∙ ap₂ B.add (sym (carried_is a)) (sym (carried_is b))
        ∙ sym (G.on_add _ _))

    carried_zero : carried_coords T.zero ≡ S.zero
    carried_zero = one _ _ (carried_is T.zero ∙ ap σ.to E.on_zero ∙ to_zero ∙ sym G.on_zero)

    pub carried_map : IsMap (table_ring F.ring first) (table_ring F.ring second) carried_coords
    carried_map = record {
      on_zero = carried_zero;
      on_one = one _ _ (carried_is T.one ∙ ap σ.to E.on_one ∙ to_one ∙ sym G.on_one);
      on_add = carried_add;
      on_neg = λ a. let SL = table_laws K second other_rule in
          ring2 S SL (λ n c. n) (λ n c. (n ⊕ c) ⊕ neg c) refl
          (carried_coords (T.neg a)) (carried_coords a)
          ∙ ap (λ r. S.add r (S.neg (carried_coords a))) (sym (carried_add (T.neg a) a)
          ∙ ap carried_coords ((table_laws K first rule).add_comm (T.neg a) a
          ∙ (table_laws K first rule).add_neg a) ∙ carried_zero)
          ∙ ring1 S SL (λ c. nil ⊕ neg c) (λ c. neg c) refl (carried_coords a);
      on_mul = λ a b. one _ _ (carried_is (T.mul a b) ∙ ap σ.to (E.on_mul a b)
          ∙ σ.to_mul (in_f a) (in_f b) ∙ ap₂ B.mul (sym (carried_is a)) (sym (carried_is b))
          ∙ sym (G.on_mul _ _));
    }

    -- it keeps bounds on the weights
    pub carried_light : (j : ℕ) (x : Coords (polynomials F.ring) (length s.weights))
        → WeighsBelow F.ring first (suc j) x → WeighsBelow F.ring second (suc j) (carried_coords x)
    carried_light j x m = subst (WeighsBelow F.ring second (suc j)) (one c.0 (carried_coords x)
        (c.1.0 ∙ sym (carried_is x))) c.1.1
      where
        c : (w : Target) × ((in_g w ≡ σ.to (in_f x)) × WeighsBelow F.ring second (suc j) w)
        c = coords_for F L g hg more here q.point there q.is_place J t z j (σ.to (in_f x))
            (q.into j (in_f x) (elem_within F L f hf two o p other at_f I s y j x m))

    module _ (alpha beta : F.carrier) (linear : size F.ring (poly F.ring (beta ∷ alpha ∷ [])) ≡ 2)
        (z_is : σ.to (elem_of L f s.z) ≡ (algebra_in L g).add ((algebra_in L g).mul
        (constant (lawful_field L) (plane_of F g) alpha) (elem_of L g t.z))
        (constant (lawful_field L) (plane_of F g) beta)) where
      -- and takes p(z) to p(alpha * z + beta)
      pub carried_over : (r : Poly F.ring)
          → carried_coords (embed (lawful_field L) first rule r)
          ≡ embed_at (lawful_field L) (poly F.ring (beta ∷ alpha ∷ [])) linear second other_rule r
      carried_over r = one _ _ (carried_is _
          ∙ ap σ.to (elem_embed F L f hf two o p other at_f I s y rule r)
          ∙ value_carried K A B (constant K (plane_of F f)) (constant K (plane_of F g)) σ.to to_zero
          σ.to_add σ.to_mul σ.to_constant (elem_of L f s.z) r
          ∙ ap (λ w. eval F.ring B (constant K (plane_of F g)) w r) (z_is
          ∙ sym (linear_value K B (algebra_laws F L g hg more) (constant K (plane_of F g))
          (constant_map K (plane_of F g)) (elem_of L g t.z) beta alpha))
          ∙ sym (value_at_zeta K B (algebra_laws F L g hg more) (constant K (plane_of F g))
          (constant_map K (plane_of F g)) (elem_of L g t.z) (poly F.ring (beta ∷ alpha ∷ [])) linear
          r)
          ∙ sym (elem_embed F L g hg more here q.point there q.is_place J t z other_rule
          (at_zeta K (poly F.ring (beta ∷ alpha ∷ [])) linear r)))

      abbrev into : Poly F.ring → Coords (polynomials F.ring) (length t.weights)
      into r = embed_at (lawful_field L)
          (poly F.ring (beta ∷ alpha ∷ [])) linear second other_rule r

      module _ (w : Coords (polynomials F.ring) (length s.weights)) where
        over : IsMapOver K first rule w (table_domain K second other_rule) into carried_coords
        over = record { map = carried_map; over = carried_over }

        -- the image of w is a root of the relation of w with alpha * z + beta in the place of z
        pub carried_root : (r : ℕ → Poly F.ring) → IsRelation F.ring first w r
            → (table_ring F.ring second).add
            (power (table_ring F.ring second) (carried_coords w) (length s.weights))
            (sum_below (table_ring F.ring second) (length s.weights)
            (λ j. (table_ring F.ring second).mul (embed_at (lawful_field L)
            (poly F.ring (beta ∷ alpha ∷ [])) linear second other_rule (r j))
            (power (table_ring F.ring second) (carried_coords w) j)))
            ≡ (table_ring F.ring second).zero
        carried_root = map-root K first rule w
            (table_domain K second other_rule) into carried_coords
            over

        -- and it tells the map, where the basis is written over the powers of w
        pub carried_alone : Written F.ring first w
            → (φ : Coords (polynomials F.ring) (length s.weights)
            → Coords (polynomials F.ring) (length t.weights))
            → IsMapOver (lawful_field L) first rule w
            (table_domain (lawful_field L) second other_rule) (embed_at (lawful_field L)
            (poly F.ring (beta ∷ alpha ∷ [])) linear second other_rule) φ
            → φ w ≡ carried_coords w → (x : Coords (polynomials F.ring) (length s.weights))
            → φ x ≡ carried_coords x
        carried_alone written φ m e = maps-agree K first rule w (table_domain K second other_rule)
            into (embed_at-nonzero K (poly F.ring (beta ∷ alpha ∷ [])) linear second other_rule)
            written φ carried_coords m over e
