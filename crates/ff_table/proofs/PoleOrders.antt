-- Elements whose pole orders are in different classes modulo e are independent over k[z], where z
-- has the order e; weights are orders.
use Rattle.std.proofs.Common.{◌≡◌, ℕ, zero, suc, ◌+◌, ◌*◌, ◌%◌, ◌<◌, ◌≤◌, ◌⊎◌, inl, inr, IsTrue}
use Rattle.std.proofs.Common.{List}
use Rattle.std.proofs.Common.{true, not, [], ◌∷◌, length, refl, sym, ◌∙◌, ap, ap₂, subst, arith}
use Rattle.std.proofs.lemmas.Bool.{cases_lt, both_ways}
use Rattle.ff_theory.specs.Ring.{RingOps, IsCommRing}
use Rattle.ff_theory.specs.Lawful.{Field, Domain}
use Rattle.ff_theory.specs.Map.{IsMap}
use Rattle.ff_theory.specs.Sum.{sum_below}
use Rattle.ff_theory.specs.Eval.{eval_list, eval}
use Rattle.ff_theory.specs.Poly.{ends_in_nonzero, Poly, polynomials}
use Rattle.ff_theory.specs.Division.{size}
use Rattle.ff_theory.proofs.Solver.{◌⊕◌, ◌⊗◌, neg, nil, unit, ring1, ring2, zero_mul}
use Rattle.ff_theory.proofs.Sums.{sum-ext, sum-zero}
use Rattle.ff_theory.proofs.Gcd.{no_size}
use Rattle.ff_theory.proofs.Division.{top_nonzero}
use Rattle.ff_theory.proofs.Evaluate.{eval_map}
use Rattle.ff_theory.proofs.PolyMap.{polynomial_domain}
use Rattle.ff_table.specs.Weight.{HasWeight}
use Rattle.ff_table.specs.Table.{IsTable}
use Rattle.ff_table.specs.PoleOrders.{IsLess, HasOrderOf, ArePoleSpaces}
use Rattle.ff_charts.proofs.Rows.{exact_size}
use Rattle.ff_table.proofs.Weights.{weigh, below_strictly, grows}
use Rattle.ff_table.proofs.FreeBasis.{table_algebra}

module _ (K : Field) (A : RingOps) (AL : IsCommRing A) (constant : K.carrier → A.carrier)
    (L : ℕ → A.carrier → Type 0) (spaces : ArePoleSpaces K.ring A constant L) where
  abbrev k : RingOps
  k = K.ring

  abbrev P : Domain
  P = polynomial_domain K

  abbrev Less : ℕ → A.carrier → Type 0
  Less j a = IsLess k A constant L j a

  abbrev Has : ℕ → A.carrier → Type 0
  Has j a = HasOrderOf k A constant L j a

  up-zero : (j : ℕ) → L j A.zero
  up-zero j = subst (L j) spaces.constants.on_zero
      (spaces.more 0 j (constant K.zero) (omega arith) (spaces.in_first K.zero))

  up-neg : (j : ℕ) (a : A.carrier) → L j a → L j (A.neg a)
  up-neg j a h = subst (L j) (ap (λ c. A.mul c a) (spaces.constants.on_neg K.one
      ∙ ap A.neg spaces.constants.on_one)
      ∙ ring1 A AL (λ a. neg unit ⊗ a) (λ a. neg a) refl a)
      (let e : 0 + j ≡ j = omega arith in
      subst (λ n. L n (A.mul (constant (K.neg K.one)) a)) e
      (spaces.mul 0 j (constant (K.neg K.one)) a (spaces.in_first (K.neg K.one)) h))

  less-zero : (j : ℕ) → Less j A.zero
  less-zero zero = refl
  less-zero (suc j) = up-zero j

  less-add : (j : ℕ) (a b : A.carrier) → Less j a → Less j b → Less j (A.add a b)
  less-add zero a b h g = ap₂ A.add h g ∙ AL.add_zero A.zero
  less-add (suc j) a b h g = spaces.add j a b h g

  less-neg : (j : ℕ) (a : A.carrier) → Less j a → Less j (A.neg a)
  less-neg zero a h = ap A.neg h ∙ ring1 A AL (λ a. neg nil) (λ a. nil) refl a
  less-neg (suc j) a h = up-neg j a h

  less-up : (j : ℕ) (a : A.carrier) → Less j a → L j a
  less-up zero a h = subst (L 0) (sym h) (up-zero 0)
  less-up (suc j) a h = spaces.more j (suc j) a (omega arith) h

  -- an order below another
  less-of : (i j : ℕ) (a : A.carrier) → i < j → L i a → Less j a
  less-of i zero a l h = absurd (omega arith)
  less-of i (suc j) a l h = spaces.more i j a (omega arith) h

  -- a sum with an element of a lower order
  pub order-add : (j : ℕ) (a b : A.carrier) → HasOrderOf K.ring A constant L j a
      → IsLess K.ring A constant L j b → HasOrderOf K.ring A constant L j (A.add a b)
  order-add j a b h g = record {
    up_to = spaces.add j a b h.up_to (less-up j b g);
    not_less = λ m. h.not_less (subst (Less j)
        (ring2 A AL (λ a b. (a ⊕ b) ⊕ neg b) (λ a b. a) refl a b)
        (less-add j (A.add a b) (A.neg b) m (less-neg j b g)));
  }

  -- an element has one order
  pub one-order : (i j : ℕ) (a : A.carrier) → HasOrderOf K.ring A constant L i a
      → HasOrderOf K.ring A constant L j a → i ≡ j
  one-order i j a h g = go (cases_lt i j) (cases_lt j i)
    where
      go : (i < j) ⊎ (j ≤ i) → (j < i) ⊎ (i ≤ j) → i ≡ j
      go (inl l) b = absurd (g.not_less (less-of i j a l h.up_to))
      go (inr l) (inl b) = absurd (h.not_less (less-of j i a b g.up_to))
      go (inr l) (inr b) = omega arith

  pub constant-order : (c : K.carrier) → ¬ (c ≡ K.zero)
      → HasOrderOf K.ring A constant L 0 (constant c)
  constant-order c n = record {
    up_to = spaces.in_first c;
    not_less = λ z. spaces.proper (sym spaces.constants.on_one
        ∙ ap constant (sym (K.is_field.mul_inverse c n))
        ∙ spaces.constants.on_mul c (K.inverse c)
        ∙ ap (λ x. A.mul x (constant (K.inverse c))) z ∙ zero_mul A AL _);
  }

  module _ (e : ℕ) (positive : 0 < e) (z : A.carrier)
      (z_order : HasOrderOf K.ring A constant L e z) where
    -- p(z)
    abbrev pub at_z : Poly K.ring → A.carrier
    at_z p = eval K.ring A constant z p

    pub at_z-map : IsMap (polynomials K.ring) A at_z
    at_z-map = eval_map k A K.laws K.tests AL constant spaces.constants z

    list-order : (p : List K.carrier) (d : ℕ) → IsTrue (ends_in_nonzero k p) → length p ≡ suc d
        → Has (e * d) (eval_list A constant z p)
    list-order [] d h q = absurd (omega arith)
    list-order (c ∷ []) zero h q = subst (λ n. Has n (eval_list A constant z (c ∷ [])))
        (let m : 0 ≡ e * 0 = omega arith in m)
        (subst (Has 0) (ring2 A AL (λ c z. c) (λ c z. c ⊕ z ⊗ nil) refl (constant c) z)
        (constant-order c (λ z. both_ways (K.same c K.zero) (let n : not (K.same c K.zero)
        ≡ true = h in grind arith) (ap (K.same c) (sym z) ∙ K.tests.same_refl c))))
    list-order (c ∷ []) (suc d) h q = absurd (omega arith)
    list-order (c ∷ b ∷ p) zero h q = absurd (omega arith)
    list-order (c ∷ b ∷ p) (suc d) h q = subst (λ n. Has n (eval_list A constant z (c ∷ b ∷ p)))
        (let m : e + e * d ≡ e * suc d = omega arith in m)
        (subst (Has (e + e * d)) (AL.add_comm _ _)
        (order-add (e + e * d) (A.mul z (eval_list A constant z (b ∷ p))) (constant c)
        (spaces.exact e (e * d) z (eval_list A constant z (b ∷ p)) z_order
        (list-order (b ∷ p) d h (omega arith)))
        (less-of 0 (e + e * d) (constant c) (omega arith) (spaces.in_first c))))

    -- the order of a polynomial in z
    pub poly-order : (p : Poly K.ring) (d : ℕ) → size K.ring p ≡ suc d
        → HasOrderOf K.ring A constant L (e * d) (at_z p)
    unfolding eval
    poly-order p d h = list-order p.coeffs d p.canonical h

    module _ (b : ℕ → A.carrier) (m : ℕ → ℕ) (classes : (i : ℕ) → i < e → m i % e ≡ i)
        (orders : (i : ℕ) → i < e → HasOrderOf K.ring A constant L (m i) (b i)) where
      abbrev pub element_at : (ℕ → Poly K.ring) → A.carrier
      element_at c = sum_below A e (λ l. A.mul (at_z (c l)) (b l))

      -- one term
      term-order : (p : Poly K.ring) (l d : ℕ) → l < e → size k p ≡ suc d
          → Has (e * d + m l) (A.mul (at_z p) (b l))
      term-order p l d q h = spaces.exact (e * d) (m l) (at_z p) (b l) (poly-order p d h)
          (orders l q)

      term-zero : (p : Poly K.ring) (l : ℕ) → size k p ≡ 0 → A.mul (at_z p) (b l) ≡ A.zero
      term-zero p l h = ap (λ p. A.mul (at_z p) (b l))
          (no_size K p h)
          ∙ ap (λ x. A.mul x (b l)) at_z-map.on_zero ∙ zero_mul A AL (b l)

      -- the weight is the order
      pub weight-order : (c : ℕ → Poly K.ring) (w : ℕ) → HasWeight K.ring e m c w
          → HasOrderOf K.ring A constant L w (element_at c)
      weight-order c w h = (both e (omega arith)).0 h.in_range
        where
          own : Has w (A.mul (at_z (c h.place)) (b h.place))
          own = subst (λ n. Has n (A.mul (at_z (c h.place)) (b h.place))) (sym h.level)
              (term-order (c h.place) h.place h.degree h.in_range
              (exact_size k K.laws K.tests (c h.place) h.degree h.nonzero
              (λ i l. h.below h.place h.in_range i
              (omega (arith, h.level, grows e h.degree i l, positive)))))

          other : (l : ℕ) → l < e → ¬ (l ≡ h.place) → Less w (A.mul (at_z (c l)) (b l))
          other l q n = go (size k (c l)) refl
            where
              go : (x : ℕ) → size k (c l) ≡ x → Less w (A.mul (at_z (c l)) (b l))
              go zero z = subst (Less w) (sym (term-zero (c l) l z)) (less-zero w)
              go (suc x) z = pick (cases_lt (e * x + m l) w)
                where
                  pick : (e * x + m l < w) ⊎ (w ≤ e * x + m l)
                      → Less w (A.mul (at_z (c l)) (b l))
                  pick (inl o) = less-of (e * x + m l) w _ o (term-order (c l) l x q z).up_to
                  pick (inr o) = absurd (top_nonzero k K.laws K.tests (c l) x z
                      (below_strictly k e m classes c w h l q n x o))

          both : (n : ℕ) → n ≤ e
              → (h.place < n → Has w (sum_below A n (λ l. A.mul (at_z (c l)) (b l))))
              × (n ≤ h.place → Less w (sum_below A n (λ l. A.mul (at_z (c l)) (b l))))
          both zero q = (λ l. absurd (omega arith), λ l. less-zero w)
          both (suc n) q = step (both n (omega arith)) (cases_lt n h.place) (cases_lt h.place n)
            where
              step : (h.place < n → Has w (sum_below A n (λ l. A.mul (at_z (c l)) (b l))))
                  × (n ≤ h.place → Less w (sum_below A n (λ l. A.mul (at_z (c l)) (b l))))
                  → (n < h.place) ⊎ (h.place ≤ n) → (h.place < n) ⊎ (n ≤ h.place)
                  → (h.place < suc n
                  → Has w (sum_below A (suc n) (λ l. A.mul (at_z (c l)) (b l))))
                  × (suc n ≤ h.place
                  → Less w (sum_below A (suc n) (λ l. A.mul (at_z (c l)) (b l))))
              step r (inl o) i = (
                λ l. absurd (omega arith),
                λ l. less-add w _ _ (r.1 (omega arith))
                    (other n (omega arith) (λ e. absurd (omega arith))),
              )
              step r (inr o) (inl i) = (
                λ l. order-add w _ _ (r.0 i)
                    (other n (omega arith) (λ e. absurd (omega arith))),
                λ l. absurd (omega arith),
              )
              step r (inr o) (inr i) = let e : h.place ≡ n = omega arith in (
                λ l. subst (Has w) (AL.add_comm _ _) (order-add w _ _
                    (subst (λ i. Has w (A.mul (at_z (c i)) (b i))) e own) (r.1 i)),
                λ l. absurd (omega arith),
              )

      -- the b l are independent over k[z]
      pub free : (c : ℕ → Poly K.ring) → element_at c ≡ A.zero → (l : ℕ) → l < e
          → c l ≡ (polynomials K.ring).zero
      free c eq = go (weigh k K.laws K.tests e positive m classes c)
        where
          go : ((w : ℕ) × HasWeight k e m c w) ⊎ ((l : ℕ) → l < e → c l ≡ P.zero)
              → (l : ℕ) → l < e → c l ≡ P.zero
          go (inr z) = z
          go (inl w) = λ l q. absurd ((weight-order c w.0 w.1).not_less
              (subst (Less w.0) (sym eq) (less-zero w.0)))

      -- an element of the order w has coordinates of that weight only
      pub order-weight : (c : ℕ → Poly K.ring) (w : ℕ)
          → HasOrderOf K.ring A constant L w (element_at c) → HasWeight K.ring e m c w
      order-weight c w h = go (weigh k K.laws K.tests e positive m classes c)
        where
          go : ((w : ℕ) × HasWeight k e m c w) ⊎ ((l : ℕ) → l < e → c l ≡ P.zero)
              → HasWeight k e m c w
          go (inl v) = subst (HasWeight k e m c) (one-order v.0 w (element_at c)
              (weight-order c v.0 v.1) h) v.1
          go (inr z) = absurd (h.not_less (subst (Less w) (sym (sum-ext A AL e _ (λ l. A.zero)
              (λ l q. ap (λ p. A.mul (at_z p) (b l)) (z l q)
              ∙ ap (λ x. A.mul x (b l)) at_z-map.on_zero ∙ zero_mul A AL (b l))
              ∙ sum-zero A AL e)) (less-zero w)))

      -- where b 0 is 1 and t writes the products, the table rule holds
      pub system_table : (t : ℕ → ℕ → ℕ → Poly K.ring) → b 0 ≡ A.one
          → ((i j : ℕ) → i < e → j < e → element_at (t i j) ≡ A.mul (b i) (b j))
          → IsTable K.ring (record { rank = e; weight = m; product = t })
      system_table t first products = record {
        algebra = table_algebra K A AL at_z at_z-map e positive b t first products free;
        classes = classes;
        weights = λ i j qi qj. order-weight (t i j) (m i + m j)
            (subst (Has (m i + m j)) (sym (products i j qi qj))
            (spaces.exact (m i) (m j) (b i) (b j) (orders i qi) (orders j qj)));
      }
