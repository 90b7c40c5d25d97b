-- Weights: each element that is not zero has one, and it is that of one coordinate alone.
use Rattle.std.proofs.Common.{◌≡◌, ℕ, zero, suc, ◌+◌, ◌*◌, ◌-◌, ◌/◌, ◌%◌, ◌<◌, ◌≤◌, ◌⊎◌, inl, inr}
use Rattle.std.proofs.Common.{Bool, true, false, refl, sym, ◌∙◌, ap, subst, arith}
use Rattle.std.proofs.lemmas.Bool.{cases_lt}
use Rattle.std.proofs.Math.Nat.{mul-add, mul-one, mul-add-mod_self_left, div-add-mod, mod-lt}
use Rattle.std.proofs.Math.Nat.{zero-mod}
use Rattle.ff_theory.specs.Ring.{RingOps, IsCommRing, IsTested}
use Rattle.ff_theory.specs.Poly.{coeff, Poly, poly, polynomials}
use Rattle.ff_theory.specs.Division.{size}
use Rattle.ff_theory.proofs.Division.{coeff-beyond}
use Rattle.ff_theory.proofs.Poly.{Poly_ext}
use Rattle.ff_theory.proofs.PolyMap.{not_same}
use Rattle.ff_table.specs.Weight.{IsUnder, IsBelow, HasWeight}
use Rattle.ff_table.proofs.Under.{under-more}

-- products with e grow by at least e
pub grows : (e x y : ℕ) → x < y → e * x + e ≤ e * y
grows e x y l = let s : e * y ≡ e * x + e * (y - x) =
    ap (λ n. e * n) (let z : y ≡ x + (y - x) = omega (arith, l) in z) ∙ mul-add e x (y - x) in
    let t : e * (y - x) ≡ e * 1 + e * (y - x - 1) =
    ap (λ n. e * n) (let z : y - x ≡ 1 + (y - x - 1) = omega (arith, l) in z)
    ∙ mul-add e 1 (y - x - 1) in
    let o : e * 1 ≡ e = mul-one e in
    omega (arith, s, t, o)

-- numbers with the same remainder differ by a multiple of e
pub mod_sub : (e : ℕ) → 0 < e → (w v : ℕ) → v ≤ w → w % e ≡ v % e → (w - v) % e ≡ 0
mod_sub e pos w v l h = go (cases_lt (w / e) (v / e))
  where
    go : (w / e < v / e) ⊎ (v / e ≤ w / e) → (w - v) % e ≡ 0
    go (inl q) = absurd (omega (
      arith,
      grows e (w / e) (v / e) q,
      h,
      pos,
      div-add-mod w e,
      div-add-mod v e,
      l,
    ))
    go (inr q) = let s : e * (w / e) ≡ e * (v / e) + e * (w / e - v / e) =
        ap (λ n. e * n) (let z : w / e ≡ v / e + (w / e - v / e) = omega (arith, q) in z)
        ∙ mul-add e (v / e) (w / e - v / e) in
        let f : w - v ≡ e * (w / e - v / e) + 0 =
        omega (arith, s, h, div-add-mod w e, div-add-mod v e, l) in
        ap (λ n. n % e) f ∙ mul-add-mod_self_left e (w / e - v / e) 0 ∙ zero-mod e

pub cancel : (e : ℕ) → 0 < e → (x y : ℕ) → e * x ≡ e * y → x ≡ y
cancel e pos x y h = go (cases_lt x y) (cases_lt y x)
  where
    go : (x < y) ⊎ (y ≤ x) → (y < x) ⊎ (x ≤ y) → x ≡ y
    go (inl l) b = absurd (omega (arith, grows e x y l, h, pos))
    go (inr l) (inl q) = absurd (omega (arith, grows e y x q, h, pos))
    go (inr l) (inr q) = omega arith

module _ (k : RingOps) (e : ℕ) (m : ℕ → ℕ) (classes : (i : ℕ) → i < e → m i % e ≡ i) where
  -- a level tells its coordinate
  pub level_class : (l d : ℕ) → l < e → (e * d + m l) % e ≡ l
  level_class l d h = mul-add-mod_self_left e d (m l) ∙ classes l h

  pub same_class : (l i d x : ℕ) → l < e → i < e → e * d + m l ≡ e * x + m i → l ≡ i
  same_class l i d x hl hi h = sym (level_class l d hl) ∙ ap (λ n. n % e) h ∙ level_class i x hi

  -- the other coordinates stay strictly below the weight
  pub below_strictly : (c : ℕ → Poly k) (w : ℕ) (h : HasWeight k e m c w) (l : ℕ) → l < e
      → ¬ (l ≡ h.place) → IsUnder k e (m l) w (c l)
  below_strictly c w h l q n d r = go (cases_lt w (e * d + m l))
    where
      go : (w < e * d + m l) ⊎ (e * d + m l ≤ w) → coeff k (c l).coeffs d ≡ k.zero
      go (inl s) = h.below l q d (omega arith)
      go (inr s) = let f : e * d + m l ≡ e * h.degree + m h.place = omega (arith, r, s, h.level) in
          absurd (n (same_class l h.place d h.degree q h.in_range f))

  -- the weight is one number
  pub one_weight : (c : ℕ → Poly k) (w v : ℕ) → HasWeight k e m c w → HasWeight k e m c v → w ≡ v
  one_weight c w v h g = go (cases_lt w v) (cases_lt v w)
    where
      lower : (w v : ℕ) → HasWeight k e m c w → HasWeight k e m c v → ¬ (w < v)
      lower w v h g l = absurd (g.nonzero
          (h.below g.place g.in_range g.degree (omega (arith, l, g.level))))

      go : (w < v) ⊎ (v ≤ w) → (v < w) ⊎ (w ≤ v) → w ≡ v
      go (inl l) b = absurd (lower w v h g l)
      go (inr l) (inl q) = absurd (lower v w g h q)
      go (inr l) (inr q) = omega arith

module _ (k : RingOps) (laws : IsCommRing k) (tests : IsTested k) (e : ℕ) (pos : 0 < e) (m : ℕ → ℕ)
    (classes : (i : ℕ) → i < e → m i % e ≡ i) where
  -- from level n down: the greatest level that is not zero, or all are zero
  descend : (c : ℕ → Poly k) (n : ℕ) → IsBelow k e m n c
      → ((w : ℕ) × HasWeight k e m c w) ⊎ IsBelow k e m 0 c
  descend c zero h = inr h
  descend c (suc w) h = at_class (cases_lt w (m (w % e))) (λ b. descend c w b)
    where
      small : w % e < e
      small = mod-lt w pos

      -- a coefficient at the level w stands in the coordinate w % e
      lower : ((d : ℕ) → w ≡ e * d + m (w % e) → coeff k (c (w % e)).coeffs d ≡ k.zero)
          → IsBelow k e m w c
      lower z l q d r = go (cases_lt w (e * d + m l))
        where
          go : (w < e * d + m l) ⊎ (e * d + m l ≤ w) → coeff k (c l).coeffs d ≡ k.zero
          go (inl s) = h l q d (omega arith)
          go (inr s) = let f : w ≡ e * d + m l = omega (arith, r, s) in
              let i : w % e ≡ l = ap (λ n. n % e) f ∙ level_class k e m classes l d q in
              subst (λ j. coeff k (c j).coeffs d ≡ k.zero) i
              (z d (f ∙ ap (λ j. e * d + m j) (sym i)))

      quotient : m (w % e) ≤ w → w ≡ e * ((w - m (w % e)) / e) + m (w % e)
      quotient l = let f : (w - m (w % e)) % e ≡ 0 = rest in
          omega (arith, div-add-mod (w - m (w % e)) e, f, l)
        where
          rest : (w - m (w % e)) % e ≡ 0
          rest = mod_sub e pos w (m (w % e)) l (sym (classes (w % e) small))

      at_class : (w < m (w % e)) ⊎ (m (w % e) ≤ w)
          → (IsBelow k e m w c → ((v : ℕ) × HasWeight k e m c v) ⊎ IsBelow k e m 0 c)
          → ((v : ℕ) × HasWeight k e m c v) ⊎ IsBelow k e m 0 c
      at_class (inl l) rest = rest (lower (λ d f. absurd (omega (arith, l, f))))
      at_class (inr l) rest = test (k.same
          (coeff k (c (w % e)).coeffs ((w - m (w % e)) / e)) k.zero) refl
        where
          level : w ≡ e * ((w - m (w % e)) / e) + m (w % e)
          level = quotient l

          test : (b : Bool) → k.same (coeff k (c (w % e)).coeffs ((w - m (w % e)) / e)) k.zero ≡ b
              → ((v : ℕ) × HasWeight k e m c v) ⊎ IsBelow k e m 0 c
          test false n = inl (
            w,
            record {
              place = w % e;
              degree = (w - m (w % e)) / e;
              in_range =
                  small;
              level = level;
              nonzero = not_same k tests _ _ n;
              below = h;
            },
          )
          test true z = rest (lower (λ d f. ap (coeff k (c (w % e)).coeffs)
              (cancel e pos d ((w - m (w % e)) / e) (omega (arith, f, level)))
              ∙ tests.same_true _ _ z))

  -- every c is below some level
  pub bound : (c : ℕ → Poly k) (n : ℕ) → n ≤ e
      → (b : ℕ) × ((l : ℕ) → l < n → IsUnder k e (m l) b (c l))
  bound c zero q = (0, λ l r. absurd (omega arith))
  bound c (suc n) q = step (bound c n (omega arith))
    where
      last : IsUnder k e (m n) (e * size k (c n) + m n) (c n)
      last d r = go (cases_lt d (size k (c n)))
        where
          go : (d < size k (c n)) ⊎ (size k (c n) ≤ d) → coeff k (c n).coeffs d ≡ k.zero
          go (inl s) = absurd (omega (arith, grows e d (size k (c n)) s, r, pos))
          go (inr s) = coeff-beyond k laws tests (c n).coeffs d s

      step : (b : ℕ) × ((l : ℕ) → l < n → IsUnder k e (m l) b (c l))
          → (b : ℕ) × ((l : ℕ) → l < suc n → IsUnder k e (m l) b (c l))
      step h = (h.0 + (e * size k (c n) + m n), λ l r. pick l r (cases_lt l n))
        where
          pick : (l : ℕ) → l < suc n → (l < n) ⊎ (n ≤ l)
              → IsUnder k e (m l) (h.0 + (e * size k (c n) + m n)) (c l)
          pick l r (inl s) = under-more k laws tests e (m l) h.0 _ (c l) (omega arith) (h.1 l s)
          pick l r (inr s) = let f : n ≡ l = omega arith in
              subst (λ j. IsUnder k e (m j) (h.0 + (e * size k (c n) + m n)) (c j)) f
              (under-more k laws tests e (m n) _ _ (c n) (omega arith) last)

  -- c has a weight, or each of its coordinates is zero
  pub weigh : (c : ℕ → Poly k) → ((w : ℕ) × HasWeight k e m c w) ⊎
      ((l : ℕ) → l < e → c l ≡ (polynomials k).zero)
  unfolding poly
  weigh c = go (descend c b.0 b.1)
    where
      b : (b : ℕ) × ((l : ℕ) → l < e → IsUnder k e (m l) b (c l))
      b = bound c e (omega arith)

      go : ((w : ℕ) × HasWeight k e m c w) ⊎ IsBelow k e m 0 c
          → ((w : ℕ) × HasWeight k e m c w) ⊎ ((l : ℕ) → l < e → c l ≡ (polynomials k).zero)
      go (inl h) = inl h
      go (inr h) = inr (λ l q. Poly_ext k laws tests (c l) (polynomials k).zero
          (λ d. h l q d (omega arith)))

-- what is zero has no weight
pub no_weight : (k : RingOps) (e : ℕ) (m : ℕ → ℕ) (c : ℕ → Poly k) (w : ℕ)
    → ((l : ℕ) → l < e → c l ≡ (polynomials k).zero) → ¬ (HasWeight k e m c w)
unfolding poly
no_weight k e m c w z h = absurd
    (h.nonzero (ap (λ (p : Poly k). coeff k p.coeffs h.degree) (z h.place h.in_range)))
