-- k[z] as a part of the ring of a table, and the weights of its multiples.
use Rattle.std.proofs.Common.{◌≡◌, ℕ, zero, suc, ◌+◌, ◌*◌, ◌<◌, ◌≤◌, ◌%◌, ◌⊎◌, inl, inr, refl, sym}
use Rattle.std.proofs.Common.{◌∙◌, ap, ap₂, subst, arith}
use Rattle.std.proofs.lemmas.Bool.{cases_lt}
use Rattle.std.proofs.Math.Nat.{zero-mod}
use Rattle.ff_theory.specs.Ring.{RingOps, IsCommRing}
use Rattle.ff_theory.specs.Lawful.{Field, Domain}
use Rattle.ff_theory.specs.Map.{IsMap}
use Rattle.ff_theory.specs.Poly.{coeff, Poly, polynomials}
use Rattle.ff_theory.specs.Division.{size}
use Rattle.ff_theory.specs.Span.{unit_at}
use Rattle.ff_theory.proofs.Solver.{◌⊕◌, ◌⊗◌, neg, unit, ring1, ring2, ring3, mul_zero, zero_mul}
use Rattle.ff_theory.proofs.Division.{top_nonzero, coeff-beyond}
use Rattle.ff_theory.proofs.PolyMap.{polynomial_domain}
use Rattle.ff_table.specs.Coords.{Coords, at}
use Rattle.ff_table.specs.Table.{Table, IsTable, table_ring, Weighs, WeighsBelow}
use Rattle.ff_table.specs.Leading.{part}
use Rattle.ff_table.specs.Level.{z_multiple}
use Rattle.ff_table.proofs.Coords.{coords_ext}
use Rattle.ff_table.proofs.Laws.{add_at, neg_at, zero_at, one_at}
use Rattle.ff_table.proofs.Weights.{grows}
use Rattle.ff_table.proofs.TableRing.{table_laws, weight-mul}
use Rattle.ff_table.proofs.One.{one-weight}
use Rattle.ff_table.proofs.Scalars.{zero-coeff, multiple-at, multiple-mul, part_linear}

module _ (K : Field) (s : Table K.ring) (table : IsTable K.ring s) where
  abbrev k : RingOps
  k = K.ring

  abbrev P : Domain
  P = polynomial_domain K

  abbrev T : RingOps
  T = table_ring K.ring s

  abbrev C : Type 0
  C = Coords (polynomials K.ring) s.rank

  TL : IsCommRing T
  TL = table_laws K s table

  -- p times 1
  abbrev pub embed : Poly K.ring → Coords (polynomials K.ring) s.rank
  embed p = z_multiple K.ring s p (table_ring K.ring s).one

  -- the weight of basis vector 0
  pub weight-zero : s.weight 0 ≡ 0
  weight-zero = let h : Weighs k s T.one 0 = one-weight K s table in
      let z : s.weight h.place ≡ 0 = omega (arith, h.level) in
      let c : s.weight h.place % s.rank ≡ h.place = table.classes h.place h.in_range in
      ap s.weight (sym (zero-mod s.rank) ∙ ap (λ n. n % s.rank) (sym z) ∙ c) ∙ z

  embed-at : (p : Poly K.ring) (l : ℕ) → l < s.rank → at P.ring s.rank (embed p) l
      ≡ P.mul p (unit_at P.ring 0 l)
  embed-at p l q = multiple-at K s p T.one l q
      ∙ ap (P.mul p) (one_at P.ring P.laws s.rank s.product l q)

  embed-zero_at : (p : Poly K.ring) → at P.ring s.rank (embed p) 0 ≡ p
  embed-zero_at p = embed-at p 0 table.algebra.positive ∙ P.laws.mul_one p

  -- the weight of a polynomial in z
  pub embed-weight : (p : Poly K.ring) (d : ℕ) → size K.ring p ≡ suc d
      → Weighs K.ring s (embed p) (s.rank * d)
  embed-weight p d h = record {
    place = 0;
    degree = d;
    in_range = table.algebra.positive;
    level = omega (arith, weight-zero);
    nonzero = λ z. top_nonzero k K.laws K.tests p d h
        (ap (λ (p : Poly K.ring). coeff k p.coeffs d) (sym (embed-zero_at p)) ∙ z);
    below = below;
  }
    where
      below : (l : ℕ) → l < s.rank → (x : ℕ) → suc (s.rank * d) ≤ s.rank * x + s.weight l
          → coeff k (at P.ring s.rank (embed p) l).coeffs x ≡ k.zero
      below zero q x b = ap (λ (p : Poly K.ring). coeff k p.coeffs x) (embed-zero_at p)
          ∙ go (cases_lt d x)
        where
          go : (d < x) ⊎ (x ≤ d) → coeff k p.coeffs x ≡ k.zero
          go (inl l) = coeff-beyond k K.laws K.tests p.coeffs x (omega (arith, h))
          go (inr l) = pick (cases_lt x d)
            where
              pick : (x < d) ⊎ (d ≤ x) → coeff k p.coeffs x ≡ k.zero
              pick (inl o) = absurd (omega (arith, grows s.rank x d o, b, weight-zero))
              pick (inr o) = let e : x ≡ d = omega arith in
                  let f : s.rank * x ≡ s.rank * d = ap (λ n. s.rank * n) e in
                  absurd (omega (arith, f, b, weight-zero))
      below (suc l) q x b = ap (λ (p : Poly K.ring). coeff k p.coeffs x)
          (embed-at p (suc l) q ∙ mul_zero P.ring P.laws p) ∙ zero-coeff k x

  pub multiple-embed : (p : Poly K.ring) (a : Coords (polynomials K.ring) s.rank)
      → z_multiple K.ring s p a ≡ (table_ring K.ring s).mul (embed p) a
  multiple-embed p a = ap (z_multiple k s p) (ring1 T TL (λ a. a) (λ a. unit ⊗ a) refl a)
      ∙ sym (multiple-mul K s p T.one a)

  pub multiple-weight : (p : Poly K.ring) (d : ℕ) → size K.ring p ≡ suc d
      → (a : Coords (polynomials K.ring) s.rank) (w : ℕ) → Weighs K.ring s a w
      → Weighs K.ring s (z_multiple K.ring s p a) (s.rank * d + w)
  multiple-weight p d h a w g = subst (λ b. Weighs k s b (s.rank * d + w))
      (sym (multiple-embed p a))
      (weight-mul K s table (embed p) a (s.rank * d) w (embed-weight p d h) g)

  -- polynomials in z are elements
  pub embed_map : IsMap (polynomials K.ring) (table_ring K.ring s) embed
  embed_map = record {
    on_zero = coords_ext P.ring s.rank _ _ (λ l q. embed-at P.zero l q
        ∙ zero_mul P.ring P.laws _ ∙ sym (zero_at P.ring P.laws s.rank s.product l q));
    on_one = coords_ext P.ring s.rank _ _ (λ l q. multiple-at K s P.one T.one l q
        ∙ ring1 P.ring P.laws (λ a. unit ⊗ a) (λ a. a) refl _);
    on_add = λ p q. coords_ext P.ring s.rank _ _ (λ l r. embed-at (P.add p q) l r
        ∙ ring3 P.ring P.laws (λ p q u. (p ⊕ q) ⊗ u) (λ p q u. p ⊗ u ⊕ q ⊗ u) refl p q
        (unit_at P.ring 0 l)
        ∙ ap₂ P.add (sym (embed-at p l r)) (sym (embed-at q l r))
        ∙ sym (add_at P.ring P.laws s.rank s.product (embed p) (embed q) l r));
    on_neg = λ p. coords_ext P.ring s.rank _ _ (λ l r. embed-at (P.neg p) l r
        ∙ ring2 P.ring P.laws (λ p u. neg p ⊗ u) (λ p u. neg (p ⊗ u)) refl p (unit_at P.ring 0 l)
        ∙ ap P.neg (sym (embed-at p l r))
        ∙ sym (neg_at P.ring P.laws s.rank s.product (embed p) l r));
    on_mul = λ p q. coords_ext P.ring s.rank _ _ (λ l r. embed-at (P.mul p q) l r
        ∙ P.laws.mul_assoc p q (unit_at P.ring 0 l) ∙ ap (P.mul p) (sym (embed-at q l r))
        ∙ sym (multiple-at K s p (embed q) l r)) ∙ multiple-embed p (embed q);
  }

  -- a sum has the weight of the heavier term
  pub weight-add : (a b : Coords (polynomials K.ring) s.rank) (w : ℕ) → Weighs K.ring s a w
      → WeighsBelow K.ring s w b → Weighs K.ring s ((table_ring K.ring s).add a b) w
  weight-add a b w h g = record {
    place = h.place;
    degree = h.degree;
    in_range = h.in_range;
    level = h.level;
    nonzero = λ z. h.nonzero (sym (K.laws.add_zero (part k s h.place h.degree a))
        ∙ ap (K.add (part k s h.place h.degree a))
        (sym (g h.place h.in_range h.degree (omega (arith, h.level))))
        ∙ sym ((part_linear K s h.place h.degree h.in_range).on_add a b) ∙ z);
    below = λ l q d r. (part_linear K s l d q).on_add a b
        ∙ ap₂ K.add (h.below l q d r) (g l q d (omega arith)) ∙ K.laws.add_zero K.zero;
  }
