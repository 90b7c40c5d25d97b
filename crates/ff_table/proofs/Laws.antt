-- The coordinates are a commutative ring.
use Rattle.std.proofs.Common.{◌≡◌, ℕ, ◌<◌, refl, sym, ◌∙◌, ap, ap₂}
use Rattle.ff_theory.specs.Ring.{RingOps, IsCommRing}
use Rattle.ff_theory.specs.Sum.{sum_below}
use Rattle.ff_theory.proofs.Solver.{◌⊕◌, ◌⊗◌, unit, ring1, ring4, ring6, mul_zero, zero_mul}
use Rattle.ff_theory.proofs.Sums.{sum-ext, sum-zero, sum-add, sum-mul, sum-swap, sum-single}
use Rattle.ff_theory.specs.Span.{unit_at}
use Rattle.ff_theory.proofs.Span.{unit-same, unit-other}
use Rattle.ff_table.specs.Coords.{Coords, at, product_at, coords_add, coords_neg, coords_mul}
use Rattle.ff_table.specs.Coords.{coords_ring, IsAlgebra}
use Rattle.ff_table.proofs.Coords.{coords_ext, coords-at}

module _ (R : RingOps) (laws : IsCommRing R) (e : ℕ) where
  infixl 60 ◌+◌
  infixl 70 ◌*◌
  open R use {add as ◌+◌, mul as ◌*◌, carrier as C}

  -- a sum over the e places
  abbrev S : (ℕ → C) → C
  S f = sum_below R e f

  ext : (f g : ℕ → C) → ((i : ℕ) → i < e → f i ≡ g i) → S f ≡ S g
  ext f g h = sum-ext R laws e f g h

  swap : (f : ℕ → ℕ → C) → S (λ i. S (f i)) ≡ S (λ j. S (λ i. f i j))
  swap f = sum-swap R laws e e f

  -- the outer sum goes inside two others
  inside : (f : ℕ → ℕ → ℕ → C) → S (λ l. S (λ i. S (f l i))) ≡ S (λ i. S (λ j. S (λ l. f l i j)))
  inside f = swap (λ l i. S (f l i)) ∙ ext _ _ (λ i q. swap (λ l j. f l i j))

  pull2 : (f : ℕ → ℕ → C) (c : C) → S (λ i. S (f i)) * c ≡ S (λ i. S (λ j. f i j * c))
  pull2 f c = laws.mul_comm _ c ∙ sym (sum-mul R laws e c (λ i. S (f i)))
      ∙ ext _ _ (λ i q. sym (sum-mul R laws e c (f i)) ∙ ext _ _ (λ j r. laws.mul_comm c (f i j)))

  module _ (t : ℕ → ℕ → ℕ → C) where
    pub add_at : (a b : Coords R e) (l : ℕ) → l < e → at R e ((coords_ring R e t).add a b) l
        ≡ at R e a l + at R e b l
    unfolding coords_add
    add_at a b l q = coords-at R e (λ l. at R e a l + at R e b l) l q

    pub neg_at : (a : Coords R e) (l : ℕ) → l < e → at R e ((coords_ring R e t).neg a) l
        ≡ R.neg (at R e a l)
    unfolding coords_neg
    neg_at a l q = coords-at R e (λ l. R.neg (at R e a l)) l q

    pub mul_at : (a b : Coords R e) (l : ℕ) → l < e → at R e ((coords_ring R e t).mul a b) l
        ≡ product_at R e t (at R e a) (at R e b) l
    unfolding coords_mul
    mul_at a b l q = coords-at R e (product_at R e t (at R e a) (at R e b)) l q

    pub zero_at : (l : ℕ) → l < e → at R e (coords_ring R e t).zero l ≡ R.zero
    zero_at l q = coords-at R e (λ l. R.zero) l q

    pub one_at : (l : ℕ) → l < e → at R e (coords_ring R e t).one l ≡ unit_at R 0 l
    one_at l q = coords-at R e (unit_at R 0) l q

    product-ext : (a a' b b' : ℕ → C) → ((i : ℕ) → i < e → a i ≡ a' i)
        → ((j : ℕ) → j < e → b j ≡ b' j) → (l : ℕ) → product_at R e t a b l
        ≡ product_at R e t a' b' l
    product-ext a a' b b' h k l = ext _ _
        (λ i q. ext _ _ (λ j r. ap₂ (λ x y. x * (y * t i j l)) (h i q) (k j r)))

    -- (a b) c and a (b c), by the products of three basis vectors
    left : (a b c : ℕ → C) (m : ℕ) → product_at R e t (product_at R e t a b) c m
        ≡ S (λ i. S (λ j. S (λ k. a i * (b j * (c k * S (λ l. t i j l * t l k m))))))
    left a b c m =
        ext _ _ (λ l q. ext _ _ (λ k r. pull2 (λ i j. a i * (b j * t i j l)) (c k * t l k m)))
        ∙ swap (λ l k. S (λ i. S (λ j. a i * (b j * t i j l) * (c k * t l k m))))
        ∙ ext _ _ (λ k r. inside (λ l i j. a i * (b j * t i j l) * (c k * t l k m)))
        ∙ inside (λ k i j. S (λ l. a i * (b j * t i j l) * (c k * t l k m)))
        ∙ ext _ _ (λ i q. ext _ _ (λ j r. ext _ _ (λ k p.
        ext _ _ (λ l o. ring6 R laws (λ a b c t u z. a ⊗ (b ⊗ t) ⊗ (c ⊗ u))
        (λ a b c t u z. a ⊗ (b ⊗ c) ⊗ (t ⊗ u)) refl (a i) (b j) (c k) (t i j l) (t l k m) R.zero)
        ∙ sum-mul R laws e (a i * (b j * c k)) (λ l. t i j l * t l k m)
        ∙ ring4 R laws (λ a b c s. a ⊗ (b ⊗ c) ⊗ s) (λ a b c s. a ⊗ (b ⊗ (c ⊗ s))) refl (a i) (b j)
        (c k) (S (λ l. t i j l * t l k m)))))

    right : (a b c : ℕ → C) (m : ℕ) → product_at R e t a (product_at R e t b c) m
        ≡ S (λ i. S (λ j. S (λ k. a i * (b j * (c k * S (λ l. t j k l * t i l m))))))
    right a b c m = ext _ _ (λ i q.
        ext _ _ (λ l p. laws.mul_comm (a i) _ ∙ laws.mul_assoc _ _ _
        ∙ pull2 (λ j k. b j * (c k * t j k l)) (t i l m * a i))
        ∙ inside (λ l j k. b j * (c k * t j k l) * (t i l m * a i))
        ∙ ext _ _ (λ j r. ext _ _ (λ k p.
        ext _ _ (λ l o. ring6 R laws (λ a b c t u z. b ⊗ (c ⊗ t) ⊗ (u ⊗ a))
        (λ a b c t u z. a ⊗ (b ⊗ c) ⊗ (t ⊗ u)) refl (a i) (b j) (c k) (t j k l) (t i l m) R.zero)
        ∙ sum-mul R laws e (a i * (b j * c k)) (λ l. t j k l * t i l m)
        ∙ ring4 R laws (λ a b c s. a ⊗ (b ⊗ c) ⊗ s) (λ a b c s. a ⊗ (b ⊗ (c ⊗ s))) refl (a i) (b j)
        (c k) (S (λ l. t j k l * t i l m)))))

    module _ (algebra : IsAlgebra R e t) where
      associative_at : (a b c : ℕ → C) (m : ℕ) → m < e → product_at R e t (product_at R e t a b) c m
          ≡ product_at R e t a (product_at R e t b c) m
      associative_at a b c m q = left a b c m
          ∙ ext _ _ (λ i x. ext _ _ (λ j y. ext _ _
          (λ k z. ap (λ s. a i * (b j * (c k * s))) (algebra.associative i j k m x y z q))))
          ∙ sym (right a b c m)

      symmetric_at : (a b : ℕ → C) (l : ℕ) → l < e → product_at R e t a b l ≡ product_at R e t b a l
      symmetric_at a b l q = swap (λ i j. a i * (b j * t i j l)) ∙ ext _ _ (λ j r. ext _ _ (λ i p.
          ap (λ s. a i * (b j * s)) (algebra.symmetric i j l p r q)
          ∙ ring4 R laws (λ a b t z. a ⊗ (b ⊗ t)) (λ a b t z. b ⊗ (a ⊗ t)) refl (a i) (b j)
          (t j i l) R.zero))

      -- times basis vector 0
      unit_product : (a : ℕ → C) (l : ℕ) → l < e → product_at R e t (unit_at R 0) a l ≡ a l
      unit_product a l q =
          sum-single R laws e 0 (λ i. S (λ j. unit_at R 0 i * (a j * t i j l))) algebra.positive
          (λ i p n. ext _ (λ j. R.zero) (λ j r. ap (λ s. s * (a j * t i j l)) (unit-other R 0 i n)
          ∙ zero_mul R laws _) ∙ sum-zero R laws e)
          ∙ ext _ (λ j. a j * unit_at R j l)
          (λ j r. ring1 R laws (λ x. unit ⊗ x) (λ x. x) refl (a j * t 0 j l)
          ∙ ap (λ s. a j * s) (algebra.unit j l r q))
          ∙ sum-single R laws e l (λ j. a j * unit_at R j l) q
          (λ j r n. ap (λ s. a j * s) (unit-other R j l (λ h. n (sym h))) ∙ mul_zero R laws (a j))
          ∙ ap (λ s. a l * s) (unit-same R l) ∙ laws.mul_one (a l)

      sum_product : (a b c : ℕ → C) (l : ℕ) → product_at R e t a (λ j. b j + c j) l
          ≡ product_at R e t a b l + product_at R e t a c l
      sum_product a b c l = ext _ _ (λ i q.
          ext _ _ (λ j r. ring4 R laws (λ a b c t. a ⊗ ((b ⊕ c) ⊗ t))
          (λ a b c t. a ⊗ (b ⊗ t) ⊕ a ⊗ (c ⊗ t)) refl (a i) (b j) (c j) (t i j l))
          ∙ sum-add R laws e (λ j. a i * (b j * t i j l)) (λ j. a i * (c j * t i j l)))
          ∙ sum-add R laws e _ _

      pub coords_laws : IsCommRing (coords_ring R e t)
      coords_laws = record {
        add_assoc = λ a b c. coords_ext R e _ _
            (λ l q. add_at (T.add a b) c l q ∙ ap (λ s. s + at R e c l) (add_at a b l q)
            ∙ laws.add_assoc _ _ _ ∙ sym (add_at a (T.add b c) l q
            ∙ ap (λ s. at R e a l + s) (add_at b c l q)));
        add_comm = λ a b. coords_ext R e _ _
            (λ l q. add_at a b l q ∙ laws.add_comm _ _ ∙ sym (add_at b a l q));
        add_zero = λ a. coords_ext R e _ _
            (λ l q. add_at a T.zero l q ∙ ap (λ s. at R e a l + s) (zero_at l q) ∙ laws.add_zero _);
        add_neg = λ a. coords_ext R e _ _
            (λ l q. add_at a (T.neg a) l q ∙ ap (λ s. at R e a l + s) (neg_at a l q)
            ∙ laws.add_neg _ ∙ sym (zero_at l q));
        mul_assoc = λ a b c. coords_ext R e _ _ (λ l q. mul_at (T.mul a b) c l q
            ∙ product-ext _ _ _ _ (λ i r. mul_at a b i r) (λ j r. refl) l
            ∙ associative_at (at R e a) (at R e b) (at R e c) l q
            ∙ sym (mul_at a (T.mul b c) l q
            ∙ product-ext _ _ _ _ (λ i r. refl) (λ j r. mul_at b c j r) l));
        mul_comm = λ a b. coords_ext R e _ _
            (λ l q. mul_at a b l q ∙ symmetric_at (at R e a) (at R e b) l q ∙ sym (mul_at b a l q));
        mul_one = λ a. coords_ext R e _ _
            (λ l q. mul_at a T.one l q ∙ product-ext _ _ _ _ (λ i r. refl) (λ j r. one_at j r) l
            ∙ symmetric_at (at R e a) (unit_at R 0) l q ∙ unit_product (at R e a) l q);
        mul_add = λ a b c. coords_ext R e _ _
            (λ l q. mul_at a (T.add b c) l q
            ∙ product-ext _ _ _ _ (λ i r. refl) (λ j r. add_at b c j r) l
            ∙ sum_product (at R e a) (at R e b) (at R e c) l
            ∙ sym (add_at (T.mul a b) (T.mul a c) l q
            ∙ ap₂ R.add (mul_at a b l q) (mul_at a c l q)));
      }
        where
          T : RingOps
          T = coords_ring R e t
