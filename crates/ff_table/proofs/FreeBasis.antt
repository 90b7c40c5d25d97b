-- Elements of a ring that are independent over k[z], and whose products are written by a table: the
-- table is that of an algebra, and its ring is a part of the ring.
use Rattle.std.proofs.Common.{◌≡◌, ℕ, ◌<◌, refl, sym, ◌∙◌, ap, ap₂}
use Rattle.ff_theory.specs.Ring.{RingOps, IsCommRing}
use Rattle.ff_theory.specs.Lawful.{Field, Domain}
use Rattle.ff_theory.specs.Map.{IsMap}
use Rattle.ff_theory.specs.Sum.{sum_below}
use Rattle.ff_theory.specs.Span.{unit_at}
use Rattle.ff_theory.specs.Poly.{Poly, polynomials}
use Rattle.ff_theory.proofs.Solver.{◌⊕◌, ◌⊗◌, neg, nil, unit, ring1, ring2, ring3, mul_zero}
use Rattle.ff_theory.proofs.Solver.{zero_mul}
use Rattle.ff_theory.proofs.Span.{unit-same, unit-other}
use Rattle.ff_theory.proofs.Sums.{sum-ext, sum-zero, sum-add, sum-mul, sum-swap, sum-single}
use Rattle.ff_theory.proofs.PolyMap.{polynomial_domain}
use Rattle.ff_table.specs.Coords.{Coords, at, coords_ring, product_at, IsAlgebra}
use Rattle.ff_table.proofs.Coords.{coords_ext}
use Rattle.ff_table.proofs.Laws.{zero_at, one_at, add_at, neg_at, mul_at}
use Rattle.ff_table.proofs.BasisSums.{map-sum}

module _ (K : Field) (A : RingOps) (AL : IsCommRing A) (h : Poly K.ring → A.carrier)
    (h_map : IsMap (polynomials K.ring) A h) (e : ℕ) (positive : 0 < e) (b : ℕ → A.carrier)
    (t : ℕ → ℕ → ℕ → Poly K.ring) where
  abbrev P : Domain
  P = polynomial_domain K

  -- c 0 * b 0 + c 1 * b 1 + .. , e terms
  abbrev pub in_ring : (ℕ → Poly K.ring) → A.carrier
  in_ring c = sum_below A e (λ l. A.mul (h (c l)) (b l))

  in_ring-ext : (c d : ℕ → Poly K.ring) → ((l : ℕ) → l < e → c l ≡ d l) → in_ring c ≡ in_ring d
  in_ring-ext c d eq = sum-ext A AL e _ _ (λ l q. ap (λ p. A.mul (h p) (b l)) (eq l q))

  pub in_ring-add : (c d : ℕ → Poly K.ring) → in_ring (λ l. (polynomials K.ring).add (c l) (d l))
      ≡ A.add (in_ring c) (in_ring d)
  in_ring-add c d = sum-ext A AL e _ _ (λ l q. ap (λ x. A.mul x (b l)) (h_map.on_add (c l) (d l))
      ∙ ring3 A AL (λ x y b. (x ⊕ y) ⊗ b) (λ x y b. x ⊗ b ⊕ y ⊗ b) refl (h (c l)) (h (d l)) (b l))
      ∙ sum-add A AL e (λ l. A.mul (h (c l)) (b l)) (λ l. A.mul (h (d l)) (b l))

  in_ring-neg : (c : ℕ → Poly K.ring) → in_ring (λ l. P.neg (c l)) ≡ A.neg (in_ring c)
  in_ring-neg c = sum-ext A AL e _ _ (λ l q. ap (λ x. A.mul x (b l)) (h_map.on_neg (c l))
      ∙ ring2 A AL (λ x b. neg x ⊗ b) (λ x b. neg unit ⊗ (x ⊗ b)) refl (h (c l)) (b l))
      ∙ sum-mul A AL e (A.neg A.one) (λ l. A.mul (h (c l)) (b l))
      ∙ ring1 A AL (λ x. neg unit ⊗ x) (λ x. neg x) refl (in_ring c)

  -- a combination of rows
  in_ring-rows : (n : ℕ) (x : ℕ → Poly K.ring) (y : ℕ → ℕ → Poly K.ring)
      → in_ring (λ l. sum_below P.ring n (λ i. P.mul (x i) (y i l)))
      ≡ sum_below A n (λ i. A.mul (h (x i)) (in_ring (y i)))
  in_ring-rows n x y = sum-ext A AL e _ _ (λ l q.
      ap (λ u. A.mul u (b l)) (map-sum P.ring A h h_map n (λ i. P.mul (x i) (y i l)))
      ∙ AL.mul_comm _ (b l) ∙ sym (sum-mul A AL n (b l) (λ i. h (P.mul (x i) (y i l))))
      ∙ sum-ext A AL n _ _ (λ i o. ap (A.mul (b l)) (h_map.on_mul (x i) (y i l))
      ∙ ring3 A AL (λ b x y. b ⊗ (x ⊗ y)) (λ b x y. x ⊗ (y ⊗ b)) refl (b l) (h (x i)) (h (y i l))))
      ∙ sum-swap A AL e n (λ l i. A.mul (h (x i)) (A.mul (h (y i l)) (b l)))
      ∙ sum-ext A AL n _ _ (λ i o. sum-mul A AL e (h (x i)) (λ l. A.mul (h (y i l)) (b l)))

  -- one term
  pub in_ring-single : (i : ℕ) → i < e → (p : Poly K.ring)
      → in_ring (λ l. (polynomials K.ring).mul p (unit_at (polynomials K.ring) i l))
      ≡ A.mul (h p) (b i)
  in_ring-single i q p = sum-single A AL e i _ q (λ l o n.
      ap (λ u. A.mul (h (P.mul p u)) (b l)) (unit-other P.ring i l n)
      ∙ ap (λ u. A.mul (h u) (b l)) (mul_zero P.ring P.laws p)
      ∙ ap (λ x. A.mul x (b l)) h_map.on_zero ∙ zero_mul A AL (b l))
      ∙ ap (λ u. A.mul (h (P.mul p u)) (b i)) (unit-same P.ring i)
      ∙ ap (λ u. A.mul (h u) (b i)) (P.laws.mul_one p)

  in_ring-unit : (i : ℕ) → i < e → in_ring (unit_at P.ring i) ≡ b i
  in_ring-unit i q = sum-single A AL e i _ q (λ l o n.
      ap (λ p. A.mul (h p) (b l)) (unit-other P.ring i l n)
      ∙ ap (λ x. A.mul x (b l)) h_map.on_zero ∙ zero_mul A AL (b l))
      ∙ ap (λ p. A.mul (h p) (b i)) (unit-same P.ring i) ∙ ap (λ x. A.mul x (b i)) h_map.on_one
      ∙ ring1 A AL (λ b. unit ⊗ b) (λ b. b) refl (b i)

  module _ (first : b 0 ≡ A.one)
      (products : (i j : ℕ) → i < e → j < e → in_ring (t i j) ≡ A.mul (b i) (b j)) where
    -- the element with given coordinates
    abbrev pub element : Coords (polynomials K.ring) e → A.carrier
    element a = in_ring (at (polynomials K.ring) e a)

    -- products by the table
    in_ring-product : (x y : ℕ → Poly K.ring) → in_ring (product_at P.ring e t x y)
        ≡ A.mul (in_ring x) (in_ring y)
    in_ring-product x y =
        in_ring-ext _ (λ l. sum_below P.ring e (λ i. P.mul (x i) (sum_below P.ring e
        (λ j. P.mul (y j) (t i j l))))) (λ l q. sum-ext P.ring P.laws e _ _ (λ i o.
        sum-mul P.ring P.laws e (x i) (λ j. P.mul (y j) (t i j l))))
        ∙ in_ring-rows e x (λ i l. sum_below P.ring e (λ j. P.mul (y j) (t i j l)))
        ∙ sum-ext A AL e _ (λ i. A.mul (in_ring y) (A.mul (h (x i)) (b i))) (λ i o.
        ap (A.mul (h (x i))) (in_ring-rows e y (t i)
        ∙ sum-ext A AL e _ (λ j. A.mul (b i) (A.mul (h (y j)) (b j))) (λ j r.
        ap (A.mul (h (y j))) (products i j o r)
        ∙ ring3 A AL (λ y c d. y ⊗ (c ⊗ d)) (λ y c d. c ⊗ (y ⊗ d)) refl (h (y j)) (b i) (b j))
        ∙ sum-mul A AL e (b i) (λ j. A.mul (h (y j)) (b j)))
        ∙ ring3 A AL (λ x b y. x ⊗ (b ⊗ y)) (λ x b y. y ⊗ (x ⊗ b)) refl (h (x i)) (b i) (in_ring y))
        ∙ sum-mul A AL e (in_ring y) (λ i. A.mul (h (x i)) (b i))
        ∙ AL.mul_comm (in_ring y) (in_ring x)

    pub element-map : IsMap (coords_ring (polynomials K.ring) e t) A element
    element-map = record {
      on_zero = sum-ext A AL e _ (λ l. A.zero) (λ l q.
          ap (λ p. A.mul (h p) (b l)) (zero_at P.ring P.laws e t l q)
          ∙ ap (λ x. A.mul x (b l)) h_map.on_zero ∙ zero_mul A AL (b l)) ∙ sum-zero A AL e;
      on_one = in_ring-ext _ (unit_at P.ring 0) (λ l q. one_at P.ring P.laws e t l q)
          ∙ in_ring-unit 0 positive ∙ first;
      on_add = λ x y. in_ring-ext _ _ (λ l q. add_at P.ring P.laws e t x y l q)
          ∙ in_ring-add (at P.ring e x) (at P.ring e y);
      on_neg = λ x. in_ring-ext _ _ (λ l q. neg_at P.ring P.laws e t x l q)
          ∙ in_ring-neg (at P.ring e x);
      on_mul = λ x y. in_ring-ext _ _ (λ l q. mul_at P.ring P.laws e t x y l q)
          ∙ in_ring-product (at P.ring e x) (at P.ring e y);
    }

    module _ (free : (c : ℕ → Poly K.ring) → in_ring c ≡ A.zero
        → (l : ℕ) → l < e → c l ≡ (polynomials K.ring).zero) where
      -- different coordinates, different elements
      same : (c d : ℕ → Poly K.ring) → in_ring c ≡ in_ring d → (l : ℕ) → l < e → c l ≡ d l
      same c d eq l q = ring2 P.ring P.laws (λ c d. c) (λ c d. (c ⊕ neg d) ⊕ d) refl (c l) (d l)
          ∙ ap (λ x. P.add x (d l)) (free (λ l. P.add (c l) (P.neg (d l)))
          (in_ring-add c (λ l. P.neg (d l)) ∙ ap₂ A.add eq (in_ring-neg d)
          ∙ AL.add_neg (in_ring d)) l q)
          ∙ ring1 P.ring P.laws (λ d. nil ⊕ d) (λ d. d) refl (d l)

      pub element-one : (x y : Coords (polynomials K.ring) e) → element x ≡ element y → x ≡ y
      element-one x y eq = coords_ext P.ring e x y (same (at P.ring e x) (at P.ring e y) eq)

      pub table_algebra : IsAlgebra (polynomials K.ring) e t
      table_algebra = record {
        positive = positive;
        unit = λ i l qi ql. same (t 0 i) (unit_at P.ring i) (products 0 i positive qi
            ∙ ap (λ x. A.mul x (b i)) first ∙ ring1 A AL (λ b. unit ⊗ b) (λ b. b) refl (b i)
            ∙ sym (in_ring-unit i qi)) l ql;
        symmetric = λ i j l qi qj ql. same (t i j) (t j i)
            (products i j qi qj ∙ AL.mul_comm (b i) (b j) ∙ sym (products j i qj qi)) l ql;
        associative = λ i j m l qi qj qm ql. same _ _
            (in_ring-rows e (t i j) (λ n. t n m)
            ∙ sum-ext A AL e _ (λ n. A.mul (b m) (A.mul (h (t i j n)) (b n))) (λ n qn.
            ap (A.mul (h (t i j n))) (products n m qn qm)
            ∙ ring3 A AL (λ x c d. x ⊗ (c ⊗ d)) (λ x c d. d ⊗ (x ⊗ c)) refl (h (t i j n)) (b n)
            (b m))
            ∙ sum-mul A AL e (b m) (λ n. A.mul (h (t i j n)) (b n))
            ∙ ap (A.mul (b m)) (products i j qi qj)
            ∙ ring3 A AL (λ c a b. c ⊗ (a ⊗ b)) (λ c a b. a ⊗ (b ⊗ c)) refl (b m) (b i) (b j)
            ∙ ap (A.mul (b i)) (sym (products j m qj qm))
            ∙ sym (sum-mul A AL e (b i) (λ n. A.mul (h (t j m n)) (b n)))
            ∙ sum-ext A AL e _ _ (λ n qn.
            ring3 A AL (λ c x d. c ⊗ (x ⊗ d)) (λ c x d. x ⊗ (c ⊗ d)) refl (b i) (h (t j m n)) (b n)
            ∙ ap (A.mul (h (t j m n))) (sym (products i n qi qn)))
            ∙ sym (in_ring-rows e (t j m) (λ n. t i n))) l ql;
      }
