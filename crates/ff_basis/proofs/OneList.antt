-- A set has one list, which the calls make from the space of its vectors.
use Rattle.std.proofs.Common.{◌≡◌, ℕ, suc, pred, ◌*◌, ◌<◌, ◌≤◌, Bool, true, false, List, [], ◌∷◌}
use Rattle.std.proofs.Common.{length, get_or, refl, sym, ◌∙◌, ap, subst, arith, All}
use Rattle.std.proofs.lemmas.List.{ext_get_or}
use Rattle.ff_theory.specs.Ring.{RingOps, IsCommRing, Elements, IsElement, power}
use Rattle.ff_theory.specs.Lawful.{Lawful, lawful_field, Field, Domain}
use Rattle.ff_theory.specs.Poly.{Poly, polynomials}
use Rattle.ff_theory.specs.Division.{size}
use Rattle.ff_theory.specs.Monomial.{variable}
use Rattle.ff_theory.specs.Map.{IsMap}
use Rattle.ff_theory.specs.Planes.{Plane}
use Rattle.ff_theory.specs.Vector.{vectors_of}
use Rattle.ff_theory.specs.Values.{IsPlane}
use Rattle.ff_theory.proofs.Solver.{◌⊕◌, ◌⊗◌, neg, ring3, add_cancel}
use Rattle.ff_theory.proofs.Span.{span-one}
use Rattle.ff_theory.proofs.PolyMap.{polynomial_domain}
use Rattle.ff_charts.specs.Chart.{Chart as ChartOf, at_u, at_theta, IsChart}
use Rattle.ff_charts.specs.Lattice.{flat}
use Rattle.ff_charts.proofs.Chart.{at_u_map, cancel_u, powers_at, powers_add, powers_neg}
use Rattle.ff_charts.proofs.Flat.{flat_one}
use Rattle.ff_lin.specs.Space.{SpaceParts, IsSpaceOf, HasExactly}
use Rattle.ff_lin.specs.Kernel.{mirror}
use Rattle.ff_lin.proofs.Mirror.{mirror-mirror}
use Rattle.ff_lin.proofs.Unique.{one_space}
use Rattle.ff_elem.specs.declared.elem.Elem.{Elem}
use Rattle.ff_elem.specs.Elem.{algebra_in, elem_of, IsElem}
use Rattle.ff_elem.proofs.Quotients.{element-one}
use Rattle.ff_data.specs.declared.order.Chart.{Chart}
use Rattle.ff_data.specs.declared.order.Chart.TheVariants.{Finite, Infinite}
use Rattle.ff_data.specs.Orders.{chart_of, y_degree}
use Rattle.ff_basis.specs.OrderList.{IsFraction, Clears, IsLeastDenominator, IsVectorIn}
use Rattle.ff_basis.specs.OrderList.{IsOrderList, numerators_len}
use Rattle.ff_data.proofs.ChartLaws.{algebra_laws, chart_laws}
use Rattle.ff_basis.proofs.Divisors.{difference_size, power_size}

module _ (F : Elements ℕ) (L : Lawful F) (f : List (List ℕ)) (hf : IsPlane F f) (two : 1 < length f)
    (chart : Chart) where
  abbrev K : Field
  K = lawful_field L

  abbrev A : RingOps
  A = algebra_in L f

  abbrev c : ChartOf F.ring (algebra_in L f)
  c = chart_of L f chart

  abbrev P : Domain
  P = polynomial_domain (lawful_field L)

  abbrev AL : IsCommRing (algebra_in L f)
  AL = algebra_laws F L f hf two

  abbrev l : IsChart F.ring (algebra_in L f) (chart_of L f chart)
  l = chart_laws F L f hf two chart

  U : IsMap (polynomials F.ring) A (at_u c)
  U = at_u_map K A AL c l

  -- the difference of two polynomials that clear a set clears it
  difference_clears : (S : A.carrier → Type 0) (D E : Poly F.ring) → Clears L f chart S D
      → Clears L f chart S E → Clears L f chart S (P.add D (P.neg E))
  difference_clears S D E h k w q = powers_at K A AL c l
      (sym (ap (λ t. A.mul t w) (U.on_add D (P.neg E) ∙ ap (A.add (at_u c D)) (U.on_neg E))
      ∙ ring3 A AL (λ d e w. (d ⊕ neg e) ⊗ w) (λ d e w. d ⊗ w ⊕ neg (e ⊗ w)) refl (at_u c D)
      (at_u c E) w))
      (powers_add K A AL c l _ _ (h w q) (powers_neg K A AL c l _ (k w q)))

  -- an element is determined by its vector
  one_value : (D : Poly F.ring) → c.IsModulus D → (v : ℕ → F.carrier) (w z : A.carrier)
      → IsFraction L f chart D v w → IsFraction L f chart D v z → w ≡ z
  one_value D hD v w z p q = cancel_u K A AL c l D (l.modulus_nonzero D hD) w z
      (p.value ∙ ap (at_theta c) same ∙ sym q.value)
    where
      k : ℕ
      k = pred (size F.ring D)

      len : ℕ
      len = y_degree L f * k

      each : (N M : Plane K) → ((j : ℕ) → v j ≡ flat F.ring k N (mirror len j))
          → ((j : ℕ) → v j ≡ flat F.ring k M (mirror len j)) → (j : ℕ)
          → flat F.ring k N j ≡ flat F.ring k M j
      each N M h g j = ap (flat F.ring k N) (sym (mirror-mirror len j))
          ∙ sym (h (mirror len j)) ∙ g (mirror len j)
          ∙ ap (flat F.ring k M) (mirror-mirror len j)

      same : p.nums ≡ q.nums
      same = flat_one K k (y_degree L f) p.nums q.nums p.shape q.shape
          (each p.nums q.nums p.entries q.entries)

module _ (F : Elements ℕ) (L : Lawful F) (f : List (List ℕ)) (hf : IsPlane F f) (two : 1 < length f)
  where
    -- two monic moduli of one degree are equal where their difference is no modulus of a lower one
    same_modulus : (chart : Chart) (S : (algebra_in L f).carrier → Type 0) (D E : Poly F.ring)
        → IsLeastDenominator L f chart S D → IsLeastDenominator L f chart S E
        → size F.ring D ≡ size F.ring E → D ≡ E
    same_modulus Finite S D E p q e = go ((polynomials F.ring).same G
        (polynomials F.ring).zero) refl
      where
        P : Domain
        P = polynomial_domain (lawful_field L)

        G : Poly F.ring
        G = (polynomials F.ring).add D ((polynomials F.ring).neg E)

        go : (b : Bool) → (polynomials F.ring).same G (polynomials F.ring).zero ≡ b → D ≡ E
        go true h = add_cancel P.ring P.laws D E (P.neg E)
            (P.tests.same_true G P.zero h ∙ sym (P.laws.add_neg E))
        go false h = absurd (let s : size F.ring G < size F.ring D = difference_size
            (lawful_field L) D
            E p.monic q.monic e in
            let t : size F.ring D ≤ size F.ring G = p.least G h
            (difference_clears F L f hf two Finite S D E p.clears q.clears) in omega (arith, s, t))
    same_modulus Infinite S D E p q e = p.modulus.1
        ∙ ap (λ i. power_of i) (let s : size F.ring D ≡ suc p.modulus.0 = ap
        (size F.ring) p.modulus.1
        ∙ power_size (lawful_field L) p.modulus.0 in
        let t : size F.ring E ≡ suc q.modulus.0 = ap (size F.ring) q.modulus.1
        ∙ power_size (lawful_field L) q.modulus.0 in
        let z : p.modulus.0 ≡ q.modulus.0 = omega (arith, s, t, e) in z) ∙ sym q.modulus.1
      where
        power_of : ℕ → Poly F.ring
        power_of i = power (polynomials F.ring) (variable F.ring) i

    module _ (one : (a b : ℕ) → IsElement F a → IsElement F b → F.value a ≡ F.value b → a ≡ b)
        (chart : Chart) (S T : (algebra_in L f).carrier → Type 0)
        (into : (w : (algebra_in L f).carrier) → S w → T w)
        (back : (w : (algebra_in L f).carrier) → T w → S w) where
      -- the same, for the same set
      denominator_of : (E : Poly F.ring) → IsLeastDenominator L f chart T E
          → IsLeastDenominator L f chart S E
      denominator_of E q = record {
        modulus = q.modulus;
        monic = q.monic;
        clears = λ w h. q.clears w (into w h);
        least = λ m hm h. q.least m hm (λ w k. h w (back w k));
      }

      -- so its lists are lists of the same set
      pub list_of : (ys : List Elem) → IsOrderList L f chart T ys → IsOrderList L f chart S ys
      list_of ys q = record {
        den = q.den;
        least = denominator_of q.den q.least;
        space = q.space;
        echelon = q.echelon;
        exact = λ v. (
          λ h. let k = (q.exact v).0 h in (k.0, (k.1.0, (back k.1.0 k.1.1.0, k.1.1.1))),
          λ h. (q.exact v).1 (h.0, (h.1.0, (into h.1.0 h.1.1.0, h.1.1.1))),
        );
        count = q.count;
        elements = q.elements;
        values = q.values;
      }

      one_denominator : (D E : Poly F.ring) → IsLeastDenominator L f chart S D
          → IsLeastDenominator L f chart T E → D ≡ E
      one_denominator D E p q = same_modulus chart S D E p r
          (let s : size F.ring D ≤ size F.ring E = p.least E r.modulus r.clears in
          let t : size F.ring E ≤ size F.ring D = r.least D p.modulus p.clears in omega
          (arith, s, t))
        where
          r : IsLeastDenominator L f chart S E
          r = denominator_of E q

      one_basis : (D : Poly F.ring) (s t : SpaceParts) → IsSpaceOf F (numerators_len L f chart D) s
          → IsSpaceOf F (numerators_len L f chart D) t
          → HasExactly F s (IsVectorIn L f chart S D) → HasExactly F t (IsVectorIn L f chart T D)
          → s ≡ t
      one_basis D s t hs ht hS hT = one_space F L.laws L.tests L.finite.field.one_not_zero one s t
          hs.space ht.space lens (record {
            into = λ i q. let h = (hS (vectors_of F s.basis i)).0 (span-one F.ring L.laws
                (length s.basis) (vectors_of F s.basis) i q) in
                (hT (vectors_of F s.basis i)).1 (
                  (λ j m. h.0 j (omega (arith, lens, m))),
                  (h.1.0, (into h.1.0 h.1.1.0, h.1.1.1)),
                );
            back = λ i q. let h = (hT (vectors_of F t.basis i)).0 (span-one F.ring L.laws
                (length t.basis) (vectors_of F t.basis) i q) in
                (hS (vectors_of F t.basis i)).1 (
                  (λ j m. h.0 j (omega (arith, lens, m))),
                  (h.1.0, (back h.1.0 h.1.1.0, h.1.1.1)),
                );
          })
        where
          lens : s.len ≡ t.len
          lens = hs.len ∙ sym ht.len

      lists_equal : (xs ys : List Elem) → length xs ≡ length ys
          → ((i : ℕ) (e : Elem) → i < length xs → get_or xs i e ≡ get_or ys i e) → xs ≡ ys
      lists_equal [] [] e h = refl
      lists_equal [] (y ∷ ys) e h = absurd (omega arith)
      lists_equal (x ∷ xs) ys e h = ext_get_or x (x ∷ xs) ys e (λ i q. h i x q)

      -- lists of one set are equal
      pub one_list : (xs ys : List Elem) → IsOrderList L f chart S xs → IsOrderList L f chart T ys
          → xs ≡ ys
      one_list xs ys p q = lists_equal xs ys lens (λ i e m. element-one F L f one (get_or xs i e)
          (get_or ys i e) (p.elements i e m) (q.elements i e (omega (arith, lens, m)))
          (one_value F L f hf two chart p.den p.least.modulus (vectors_of F p.space.basis i) _ _
          (p.values i e m)
          (subst (λ D. IsFraction L f chart D (vectors_of F p.space.basis i)
          (elem_of L f (get_or ys i e))) (sym dens)
          (subst (λ (s : SpaceParts). IsFraction L f chart q.den (vectors_of F s.basis i)
          (elem_of L f (get_or ys i e))) (sym spaces) (q.values i e (omega (arith, lens, m)))))))
        where
          dens : p.den ≡ q.den
          dens = one_denominator p.den q.den p.least q.least

          spaces : p.space ≡ q.space
          spaces = one_basis p.den p.space q.space p.echelon
              (subst (λ D. IsSpaceOf F (numerators_len L f chart D) q.space) (sym dens) q.echelon)
              p.exact (subst (λ D. HasExactly F q.space (IsVectorIn L f chart T D))
              (sym dens) q.exact)

          lens : length xs ≡ length ys
          lens = p.count ∙ ap (λ (s : SpaceParts). length s.basis) spaces ∙ sym q.count

-- the list that is read back from the basis of the space
pub list_is : (F : Elements ℕ) (L : Lawful F) (f : List (List ℕ)) (chart : Chart)
    (S : (algebra_in L f).carrier → Type 0) (D : Poly F.ring) (s : SpaceParts)
    (basis : List (List ℕ)) (count : ℕ) (elems : List Elem) → IsLeastDenominator L f chart S D
    → IsSpaceOf F (numerators_len L f chart D) s → HasExactly F s (IsVectorIn L f chart S D)
    → basis ≡ s.basis → length basis ≡ count → length elems ≡ count → All (IsElem L f) elems
    → ((i : ℕ) (e : Elem) → i < length elems
    → IsFraction L f chart D (vectors_of F basis i) (elem_of L f (get_or elems i e)))
    → IsOrderList L f chart S elems
list_is F L f chart S D s basis count elems least echelon exact same long total elements values =
    record {
      den = D;
      least = least;
      space = s;
      echelon = echelon;
      exact = exact;
      count = total ∙ sym long ∙ ap length same;
      elements = elements;
      values = λ i e q. subst (λ b. IsFraction L f chart D (vectors_of F b i)
          (elem_of L f (get_or elems i e))) same (values i e q);
    }
