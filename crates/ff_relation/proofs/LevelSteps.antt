-- Reduction modulo powers: one level, from the highest level down.
use Rattle.std.proofs.Common.{◌≡◌, ℕ, suc, ◌+◌, ◌-◌, ◌*◌, ◌/◌, ◌%◌, ◌<◌, ◌≤◌, ◌⊎◌, inl, inr, Bool}
use Rattle.std.proofs.Common.{true, false, refl, sym, ◌∙◌, ap, subst, arith}
use Rattle.std.proofs.lemmas.Bool.{cases_lt}
use Rattle.std.proofs.Math.Nat.{div-add-mod, mul-add}
use Rattle.ff_theory.specs.Ring.{RingOps, IsCommRing, IsTested, power}
use Rattle.ff_theory.specs.Lawful.{Field, Domain}
use Rattle.ff_theory.specs.Poly.{coeff, Poly, poly, polynomials, list_scale}
use Rattle.ff_theory.specs.Monomial.{monomial, raised}
use Rattle.ff_theory.proofs.Solver.{mul_zero}
use Rattle.ff_theory.proofs.Poly.{Poly_ext, trim-coeff, scale-coeff}
use Rattle.ff_theory.proofs.Monomial.{monomial-mul, raised-below, raised-at}
use Rattle.ff_theory.proofs.PolyMap.{polynomial_domain}
use Rattle.ff_table.specs.Coords.{Coords, at}
use Rattle.ff_table.specs.Table.{Table, IsTable, table_ring, Weighs, WeighsBelow}
use Rattle.ff_table.specs.Leading.{part}
use Rattle.ff_table.specs.Level.{IsLevel, at_level, z_multiple}
use Rattle.ff_table.specs.Reduce.{IsClear}
use Rattle.ff_table.specs.Powers.{IsPrimeTo, is_reached}
use Rattle.ff_table.proofs.Weights.{mod_sub}
use Rattle.ff_table.proofs.One.{one-weight}
use Rattle.ff_table.proofs.Powers.{power-weight}
use Rattle.ff_table.proofs.Scalars.{multiple-at}
use Rattle.ff_table.proofs.Levels.{part-level, weighs-level, weighs-nonzero, is-level}
use Rattle.ff_table.proofs.ReduceSteps.{clear-step}

module _ (R : RingOps) (laws : IsCommRing R) (tests : IsTested R) where
  pub poly-self : (p : Poly R) → poly R p.coeffs ≡ p
  unfolding poly
  poly-self p = Poly_ext R laws tests (poly R p.coeffs) p (λ i. trim-coeff R laws tests p.coeffs i)

  -- the coefficients of a product with a monomial
  monomial-coeff : (x : R.carrier) (n : ℕ) (p : Poly R) (d : ℕ)
      → coeff R ((polynomials R).mul (monomial R x n) p).coeffs d
      ≡ coeff R (raised R n (list_scale R x p.coeffs)) d
  unfolding poly
  monomial-coeff x n p d = ap
      (λ (q : Poly R). coeff R ((polynomials R).mul (monomial R x n) q).coeffs d)
      (sym (poly-self p))
      ∙ ap (λ (q : Poly R). coeff R q.coeffs d) (monomial-mul R laws tests n x p.coeffs)
      ∙ trim-coeff R laws tests (raised R n (list_scale R x p.coeffs)) d

  pub monomial-below : (x : R.carrier) (n : ℕ) (p : Poly R) (d : ℕ) → d < n
      → coeff R ((polynomials R).mul (monomial R x n) p).coeffs d ≡ R.zero
  monomial-below x n p d l = monomial-coeff x n p d
      ∙ raised-below R n (list_scale R x p.coeffs) d l

  pub monomial-at : (x : R.carrier) (n : ℕ) (p : Poly R) (d m : ℕ) → m ≡ n + d
      → coeff R ((polynomials R).mul (monomial R x n) p).coeffs m ≡ R.mul x (coeff R p.coeffs d)
  monomial-at x n p d m e = monomial-coeff x n p m
      ∙ raised-at R n (list_scale R x p.coeffs) d m e
      ∙ scale-coeff R laws tests x p.coeffs d

module _ (K : Field) (s : Table K.ring) (table : IsTable K.ring s) where
  abbrev k : RingOps
  k = K.ring

  abbrev P : Domain
  P = polynomial_domain K

  abbrev T : RingOps
  T = table_ring K.ring s

  abbrev C : Type 0
  C = Coords (polynomials K.ring) s.rank

  -- what is zero at a level too
  pub clear-level : (reached : ℕ → Bool) (t : ℕ) (a : Coords (polynomials K.ring) s.rank)
      → ((l d : ℕ) → l < s.rank → s.rank * d + s.weight l ≡ t → reached t ≡ true
      → part K.ring s l d a ≡ K.zero)
      → IsClear K.ring s reached (suc t) a → IsClear K.ring s reached t a
  clear-level reached t a h clear l d q r on = go (cases_lt t (s.rank * d + s.weight l))
    where
      go : (t < s.rank * d + s.weight l) ⊎ (s.rank * d + s.weight l ≤ t) → part k s l d a ≡ K.zero
      go (inl o) = clear l d q o on
      go (inr o) = let e : s.rank * d + s.weight l ≡ t = omega (arith, o, r) in
          h l d q e (ap reached (sym e) ∙ on)

  pub clear-unreached : (reached : ℕ → Bool) (t : ℕ) (a : Coords (polynomials K.ring) s.rank)
      → reached t ≡ false → IsClear K.ring s reached (suc t) a → IsClear K.ring s reached t a
  clear-unreached reached t a off = clear-level reached t a
      (λ l d q e on. absurd (true-false (sym on ∙ off)))
    where
      true-false : ¬ (true ≡ false)
      true-false h = cc

  pub clear-no_level : (reached : ℕ → Bool) (t : ℕ) (a : Coords (polynomials K.ring) s.rank)
      → t < s.weight (t % s.rank) → IsClear K.ring s reached (suc t) a
      → IsClear K.ring s reached t a
  clear-no_level reached t a low = clear-level reached t a (λ l d q e on. absurd (no l d q e))
    where
      no : (l d : ℕ) → l < s.rank → ¬ (s.rank * d + s.weight l ≡ t)
      no l d q e = let v : IsLevel s t = subst (IsLevel s) e (is-level K s table l d q) in
          absurd (omega (arith, v, low))

  pub clear-zero_at : (reached : ℕ → Bool) (t l d : ℕ) (a : Coords (polynomials K.ring) s.rank)
      → l < s.rank → t ≡ s.rank * d + s.weight l → part K.ring s l d a ≡ K.zero
      → IsClear K.ring s reached (suc t) a → IsClear K.ring s reached t a
  clear-zero_at reached t l d a q e z = clear-level reached t a (λ i x r f on.
      sym (part-level K s table i x r a) ∙ ap (λ n. at_level k s n a) (f ∙ e)
      ∙ part-level K s table l d q a ∙ z)

  -- multiples by monomials
  part-raised : (x : K.carrier) (n : ℕ) (a : Coords (polynomials K.ring) s.rank) (l d m : ℕ)
      → l < s.rank → m ≡ n + d
      → part K.ring s l m (z_multiple K.ring s (monomial K.ring x n) a)
      ≡ K.mul x (part K.ring s l d a)
  part-raised x n a l d m q e = ap (λ (p : Poly K.ring). coeff k p.coeffs m)
      (multiple-at K s (monomial k x n) a l q)
      ∙ monomial-at k K.laws K.tests x n (at P.ring s.rank a l) d m e

  part-before : (x : K.carrier) (n : ℕ) (a : Coords (polynomials K.ring) s.rank) (l d : ℕ)
      → l < s.rank → d < n
      → part K.ring s l d (z_multiple K.ring s (monomial K.ring x n) a) ≡ K.zero
  part-before x n a l d q e = ap (λ (p : Poly K.ring). coeff k p.coeffs d)
      (multiple-at K s (monomial k x n) a l q)
      ∙ monomial-below k K.laws K.tests x n (at P.ring s.rank a l) d e

  raised-weight : (x : K.carrier) (n m t : ℕ) (g : Coords (polynomials K.ring) s.rank)
      → Weighs K.ring s g m → t ≡ s.rank * n + m
      → WeighsBelow K.ring s (suc t) (z_multiple K.ring s (monomial K.ring x n) g)
  raised-weight x n m t g h e l q d r = go (cases_lt d n)
    where
      go : (d < n) ⊎ (n ≤ d)
          → part k s l d (z_multiple k s (monomial k x n) g) ≡ K.zero
      go (inl o) = part-before x n g l d q o
      go (inr o) = let f : d ≡ n + (d - n) = omega (arith, o) in
          let v : s.rank * d ≡ s.rank * n + s.rank * (d - n) =
          ap (λ i. s.rank * i) f ∙ mul-add s.rank n (d - n) in
          part-raised x n g l (d - n) d q f
          ∙ ap (K.mul x) (h.below l q (d - n) (omega (arith, r, e, v))) ∙ mul_zero k K.laws x

  -- a multiple of an element that has the coefficient at a level
  pub take-clear : (reached : ℕ → Bool) (t n m : ℕ) (x : K.carrier)
      (rest g : Coords (polynomials K.ring) s.rank) → Weighs K.ring s g m → t ≡ s.rank * n + m
      → K.mul x (at_level K.ring s m g) ≡ at_level K.ring s t rest
      → IsClear K.ring s reached (suc t) rest
      → IsClear K.ring s reached t ((table_ring K.ring s).add rest
      ((table_ring K.ring s).neg (z_multiple K.ring s (monomial K.ring x n) g)))
  take-clear reached t n m x rest g h e same = clear-step K s table reached t rest
      (z_multiple k s (monomial k x n) g) (raised-weight x n m t g h e)
      (ap (λ i. at_level k s i (z_multiple k s (monomial k x n) g)) level
      ∙ part-level K s table h.place (n + h.degree) h.in_range
      (z_multiple k s (monomial k x n) g)
      ∙ part-raised x n g h.place h.degree (n + h.degree) h.in_range refl
      ∙ ap (K.mul x) (sym (part-level K s table h.place h.degree h.in_range g)
      ∙ ap (λ i. at_level k s i g) (sym h.level)) ∙ same)
    where
      level : t ≡ s.rank * (n + h.degree) + s.weight h.place
      level = let v : s.rank * (n + h.degree) ≡ s.rank * n + s.rank * h.degree =
          mul-add s.rank n h.degree in omega (arith, e, h.level, v)

  module _ (w : Coords (polynomials K.ring) s.rank) (W : ℕ) (weighs : Weighs K.ring s w W) where
    -- j * W is a level of its class
    pub limit-level : (j l d : ℕ) → l < s.rank → (j * W) % s.rank ≡ l
        → (j * W - s.weight l) / s.rank ≤ d
        → s.rank * d + s.weight l ≡ s.rank * (d - (j * W - s.weight l) / s.rank) + j * W
    limit-level j l d q e high = omega (
      arith,
      level,
      split,
      div-add-mod (j * W - s.weight l) s.rank,
      mod_sub s.rank table.algebra.positive (j * W) (s.weight l) level
          (e ∙ sym (table.classes l q)),
    )
      where
        level : s.weight l ≤ j * W
        level = let v : IsLevel s (j * W) = weighs-level K s table (power T w j) (j * W)
            (power-weight K s table w W weighs (one-weight K s table) j) in
            let f : s.weight ((j * W) % s.rank) ≡ s.weight l = ap s.weight e in
            omega (arith, v, f)

        split : s.rank * d ≡ s.rank * ((j * W - s.weight l) / s.rank)
            + s.rank * (d - (j * W - s.weight l) / s.rank)
        split = ap (λ i. s.rank * i) (let f : d ≡ (j * W - s.weight l) / s.rank
            + (d - (j * W - s.weight l) / s.rank) = omega (arith, high) in f)
            ∙ mul-add s.rank ((j * W - s.weight l) / s.rank) (d - (j * W - s.weight l) / s.rank)

    -- one level of a class at which there is a multiple of power j
    pub take-power : (prime : IsPrimeTo s.rank W) (j l d t : ℕ) (i c : K.carrier)
        (rest : Coords (polynomials K.ring) s.rank)
        → l < s.rank → (j * W) % s.rank ≡ l → (j * W - s.weight l) / s.rank ≤ d
        → t ≡ s.rank * d + s.weight l
        → i ≡ K.inverse (at_level K.ring s (j * W) (power (table_ring K.ring s) w j))
        → c ≡ part K.ring s l d rest
        → IsClear K.ring s (is_reached prime) (suc t) rest
        → IsClear K.ring s (is_reached prime) t ((table_ring K.ring s).add rest
        ((table_ring K.ring s).neg (z_multiple K.ring s (monomial K.ring (K.mul c i)
        (d - (j * W - s.weight l) / s.rank)) (power (table_ring K.ring s) w j))))
    take-power prime j l d t i c rest q e high level inv coefficient =
        take-clear (is_reached prime) t (d - (j * W - s.weight l) / s.rank) (j * W) (K.mul c i) rest
        (power T w j) heavy (level ∙ limit-level j l d q e high)
        (K.laws.mul_assoc c i (at_level k s (j * W) (power T w j))
        ∙ ap (K.mul c) (ap (λ v. K.mul v (at_level k s (j * W) (power T w j))) inv
        ∙ K.laws.mul_comm (K.inverse lead) lead
        ∙ K.is_field.mul_inverse lead (weighs-nonzero K s table (power T w j) (j * W) heavy))
        ∙ K.laws.mul_one c ∙ coefficient ∙ sym (part-level K s table l d q rest)
        ∙ ap (λ n. at_level k s n rest) (sym level))
      where
        heavy : Weighs k s (power T w j) (j * W)
        heavy = power-weight K s table w W weighs (one-weight K s table) j

        lead : K.carrier
        lead = at_level k s (j * W) (power T w j)
