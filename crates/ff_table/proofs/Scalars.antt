-- Multiples by polynomials in z and by constants; elements by their coefficients at the levels.
use Rattle.std.proofs.Common.{◌≡◌, ℕ, zero, suc, ◌<◌, [], ◌∷◌, refl, sym, ◌∙◌, ap, ap₂}
use Rattle.ff_theory.specs.Ring.{RingOps}
use Rattle.ff_theory.specs.Lawful.{Field, Domain}
use Rattle.ff_theory.specs.Sum.{sum_below}
use Rattle.ff_theory.specs.Poly.{coeff, Poly, poly, polynomials}
use Rattle.ff_theory.proofs.Solver.{◌⊗◌, neg, unit, ring1}
use Rattle.ff_theory.proofs.Sums.{sum-ext, sum-mul}
use Rattle.ff_theory.proofs.Poly.{Poly_ext}
use Rattle.ff_theory.proofs.Division.{const_mul_at, add_at as poly_add_at}
use Rattle.ff_theory.proofs.Division.{neg_at as poly_neg_at}
use Rattle.ff_theory.proofs.PolyMap.{polynomial_domain}
use Rattle.ff_table.specs.Coords.{Coords, at}
use Rattle.ff_table.specs.Table.{Table, table_ring}
use Rattle.ff_table.specs.Leading.{part}
use Rattle.ff_table.specs.Level.{z_multiple, scaled}
use Rattle.ff_table.specs.Shift.{IsLinear}
use Rattle.ff_table.proofs.Coords.{coords_ext, coords-at}
use Rattle.ff_table.proofs.Laws.{add_at, neg_at, mul_at, zero_at}

pub zero-coeff : (k : RingOps) (d : ℕ) → coeff k (polynomials k).zero.coeffs d ≡ k.zero
unfolding poly
zero-coeff k d = refl

module _ (K : Field) (s : Table K.ring) where
  abbrev k : RingOps
  k = K.ring

  abbrev P : Domain
  P = polynomial_domain K

  abbrev T : RingOps
  T = table_ring K.ring s

  abbrev C : Type 0
  C = Coords (polynomials K.ring) s.rank

  abbrev C_at : C → ℕ → Poly K.ring
  C_at a l = at (polynomials K.ring) s.rank a l

  pub multiple-at : (p : Poly K.ring) (a : Coords (polynomials K.ring) s.rank) (l : ℕ) → l < s.rank
      → at (polynomials K.ring) s.rank (z_multiple K.ring s p a) l
      ≡ (polynomials K.ring).mul p (at (polynomials K.ring) s.rank a l)
  unfolding z_multiple
  multiple-at p a l q = coords-at P.ring s.rank (λ l. P.mul p (C_at a l)) l q

  -- k[z] acts on the ring
  pub multiple-mul : (p : Poly K.ring) (a b : Coords (polynomials K.ring) s.rank)
      → (table_ring K.ring s).mul (z_multiple K.ring s p a) b
      ≡ z_multiple K.ring s p ((table_ring K.ring s).mul a b)
  multiple-mul p a b = coords_ext P.ring s.rank _ _
      (λ l q. mul_at P.ring P.laws s.rank s.product (z_multiple k s p a) b l q
      ∙ sum-ext P.ring P.laws s.rank _ _ (λ i r.
      sum-ext P.ring P.laws s.rank _ _
      (λ j o. ap (λ t. P.mul t (P.mul (C_at b j) (s.product i j l)))
      (multiple-at p a i r) ∙ P.laws.mul_assoc _ _ _)
      ∙ sum-mul P.ring P.laws s.rank p _)
      ∙ sum-mul P.ring P.laws s.rank p _
      ∙ ap (P.mul p) (sym (mul_at P.ring P.laws s.rank s.product a b l q))
      ∙ sym (multiple-at p (T.mul a b) l q))

  pub multiple-add : (p : Poly K.ring) (a b : Coords (polynomials K.ring) s.rank)
      → z_multiple K.ring s p ((table_ring K.ring s).add a b)
      ≡ (table_ring K.ring s).add (z_multiple K.ring s p a) (z_multiple K.ring s p b)
  multiple-add p a b = coords_ext P.ring s.rank _ _ (λ l q. multiple-at p (T.add a b) l q
      ∙ ap (P.mul p) (add_at P.ring P.laws s.rank s.product a b l q)
      ∙ P.laws.mul_add _ _ _
      ∙ ap₂ P.add (sym (multiple-at p a l q)) (sym (multiple-at p b l q))
      ∙ sym (add_at P.ring P.laws s.rank s.product (z_multiple k s p a) (z_multiple k s p b) l q))

  -- the coefficient at a level is linear over k
  pub part_linear : (l d : ℕ) → l < s.rank
      → IsLinear (table_ring K.ring s) K.ring (scaled K.ring s) (part K.ring s l d)
  part_linear l d q = record {
    on_add = λ a b. ap (λ (p : Poly K.ring). coeff k p.coeffs d)
        (add_at P.ring P.laws s.rank s.product a b l q) ∙ poly_add_at k K.laws K.tests _ _ d;
    on_scale = λ c a. ap (λ (p : Poly K.ring). coeff k p.coeffs d)
        (multiple-at (poly K.ring (c ∷ [])) a l q) ∙ const_mul_at k K.laws K.tests c _ d;
  }

  pub part-zero : (l d : ℕ) → l < s.rank
      → part K.ring s l d (table_ring K.ring s).zero ≡ K.zero
  unfolding poly
  part-zero l d q = ap (λ (p : Poly K.ring). coeff k p.coeffs d)
      (zero_at P.ring P.laws s.rank s.product l q)

  pub part-neg : (l d : ℕ) → l < s.rank → (a : Coords (polynomials K.ring) s.rank)
      → part K.ring s l d ((table_ring K.ring s).neg a) ≡ K.neg (part K.ring s l d a)
  part-neg l d q a = ap (λ (p : Poly K.ring). coeff k p.coeffs d)
      (neg_at P.ring P.laws s.rank s.product a l q) ∙ poly_neg_at k K.laws K.tests (C_at a l) d

  pub part-sum : (l d : ℕ) → l < s.rank
      → (r : ℕ) (c : ℕ → K.carrier) (f : ℕ → Coords (polynomials K.ring) s.rank)
      → part K.ring s l d (sum_below (table_ring K.ring s) r (λ i. scaled K.ring s (c i) (f i)))
      ≡ sum_below K.ring r (λ i. K.mul (c i) (part K.ring s l d (f i)))
  part-sum l d q zero c f = part-zero l d q
  part-sum l d q (suc r) c f = (part_linear l d q).on_add _ _
      ∙ ap₂ K.add (part-sum l d q r c f) ((part_linear l d q).on_scale (c r) (f r))

  -- elements with the same coefficients are equal
  pub part-ext : (a b : Coords (polynomials K.ring) s.rank)
      → ((l d : ℕ) → l < s.rank → part K.ring s l d a ≡ part K.ring s l d b) → a ≡ b
  part-ext a b h = coords_ext P.ring s.rank a b
      (λ l q. Poly_ext k K.laws K.tests (C_at a l) (C_at b l) (λ d. h l d q))

  pub neg-scaled : (a : Coords (polynomials K.ring) s.rank)
      → scaled K.ring s (K.neg K.one) a ≡ (table_ring K.ring s).neg a
  neg-scaled a = part-ext _ _ (λ l d q. (part_linear l d q).on_scale (K.neg K.one) a
      ∙ ring1 k K.laws (λ x. neg unit ⊗ x) (λ x. neg x) refl _ ∙ sym (part-neg l d q a))
