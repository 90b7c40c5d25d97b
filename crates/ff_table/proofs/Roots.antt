-- A root of H that begins with c * u at the level t makes c a root of the leading polynomial of H.
use Rattle.std.proofs.Common.{◌≡◌, ℕ, suc, ◌+◌, ◌*◌, ◌<◌, ◌≤◌, List, [], ◌∷◌, refl, sym, ◌∙◌, ap}
use Rattle.std.proofs.Common.{arith}
use Rattle.ff_theory.specs.Ring.{RingOps}
use Rattle.ff_theory.specs.Lawful.{Field, Domain}
use Rattle.ff_theory.specs.Poly.{coeff, Poly, poly, polynomials}
use Rattle.ff_theory.proofs.Solver.{◌⊕◌, ◌⊗◌, nil, ring2, ring3}
use Rattle.ff_theory.proofs.PolyMap.{polynomial_domain}
use Rattle.ff_table.specs.Coords.{Coords, at}
use Rattle.ff_table.specs.Level.{scaled}
use Rattle.ff_table.specs.Table.{Table, IsTable, table_ring}
use Rattle.ff_table.specs.Weight.{IsBelow}
use Rattle.ff_table.specs.Leading.{part, IsBelowBy, AreBelow, end, next}
use Rattle.ff_table.specs.Shift.{value_at}
use Rattle.ff_table.specs.Shift.{carry, shift, leading}
use Rattle.ff_table.proofs.Laws.{add_at, mul_at, zero_at}
use Rattle.ff_table.proofs.Under.{under-add, under-zero, under-scale}
use Rattle.ff_table.proofs.Domain.{below-times}
use Rattle.ff_table.proofs.TableRing.{table_laws}
use Rattle.ff_table.proofs.Scalars.{multiple-at, multiple-mul, part_linear}
use Rattle.ff_table.proofs.Shift.{shift-value, leading-shift}

module _ (K : Field) (s : Table K.ring) (table : IsTable K.ring s) where
  abbrev T : RingOps
  T = table_ring K.ring s

  abbrev k : RingOps
  k = K.ring

  abbrev C : Type 0
  C = Coords (polynomials K.ring) s.rank

  abbrev P : Domain
  P = polynomial_domain K

  moved : (o n : ℕ) (c d : ℕ → Poly K.ring) → ((l : ℕ) → l < s.rank → c l ≡ d l)
      → IsBelow k s.rank (λ l. s.weight l + o) n c → IsBelow k s.rank (λ l. s.weight l + o) n d
  moved o n c d e h l q x r = ap (λ (p : Poly K.ring). coeff k p.coeffs x) (sym (e l q)) ∙ h l q x r

  pub below-add : (o n : ℕ) (a b : Coords (polynomials K.ring) s.rank) → IsBelowBy K.ring s o n a
      → IsBelowBy K.ring s o n b → IsBelowBy K.ring s o n ((table_ring K.ring s).add a b)
  below-add o n a b h g = moved o n _ _ (λ l q. sym (add_at P.ring P.laws s.rank s.product a b l q))
      (λ l q. under-add k K.laws K.tests s.rank (s.weight l + o) n _ _ (h l q) (g l q))

  pub below-mul : (o p x y n : ℕ) (a b : Coords (polynomials K.ring) s.rank)
      → IsBelowBy K.ring s o x a → IsBelowBy K.ring s p y b → x + y ≤ n + 1
      → IsBelowBy K.ring s (o + p) n ((table_ring K.ring s).mul a b)
  below-mul o p x y n a b h g r =
      moved (o + p) n _ _ (λ l q. sym (mul_at P.ring P.laws s.rank s.product a b l q))
      (below-times K s table (at P.ring s.rank a) (at P.ring s.rank b) o p x y n h g r)

  pub below-scaled : (o n : ℕ) (c : K.carrier) (a : Coords (polynomials K.ring) s.rank)
      → IsBelowBy K.ring s o n a → IsBelowBy K.ring s o n (scaled K.ring s c a)
  below-scaled o n c a h = moved o n _ _ (λ l q. sym (multiple-at K s (poly K.ring (c ∷ [])) a l q))
      (λ l q. under-scale k K.laws K.tests s.rank (s.weight l + o) n c _ (h l q))

  pub below-zero : (o n : ℕ) → IsBelowBy K.ring s o n T.zero
  below-zero o n = moved o n _ _ (λ l q. sym (zero_at P.ring P.laws s.rank s.product l q))
      (λ l q. under-zero k K.laws K.tests s.rank (s.weight l + o) n)

  -- the same bound without t on both sides
  cancel : (o t n : ℕ) (a : C) → IsBelowBy k s (0 + (o + t)) (n + t) a → IsBelowBy k s o n a
  cancel o t n a h l q d r = h l q d (omega arith)

  multiple : (a x : C) (o t n : ℕ) → IsBelowBy k s 0 (suc t) a → IsBelowBy k s (o + t) n x
      → IsBelowBy k s o n (T.mul a x)
  multiple a x o t n h g = cancel o t n (T.mul a x)
      (below-mul 0 (o + t) (suc t) n (n + t) a x h g (omega arith))

  carry-below : (t o n : ℕ) (a h : C) (p : List C) → IsBelowBy k s 0 (suc t) a → IsBelowBy k s o n h
      → AreBelow k s t (o + t) n p
      → AreBelow k s t o n (carry T a h p)
  carry-below t o n a h [] small top (end o' n') = next o n h [] top (end (o + t) n)
  carry-below t o n a h (x ∷ p) small top (next o' n' x' p' first rest) = next o n _ _
      (below-add o n h (T.mul a x) top (multiple a x o t n small first))
      (carry-below t (o + t) n a x p small first rest)

  -- moving by an element of weight at most t keeps the bounds
  pub shift-below : (t o n : ℕ) (a : Coords (polynomials K.ring) s.rank)
      (p : List (Coords (polynomials K.ring) s.rank))
      → IsBelowBy K.ring s 0 (suc t) a → AreBelow K.ring s t o n p
      → AreBelow K.ring s t o n (shift (table_ring K.ring s) a p)
  shift-below t o n a [] small (end o' n') = end o n
  shift-below t o n a (h ∷ p) small (next o' n' h' p' first rest) =
      carry-below t o n a h (shift T a p) small first (shift-below t (o + t) n a p small rest)

  value-below : (t o n : ℕ) (y : C) (p : List C) → IsBelowBy k s 0 t y → AreBelow k s t o n p
      → IsBelowBy k s o n (value_at T y p)
  value-below t o n y [] small (end o' n') = below-zero o n
  value-below t o n y (h ∷ p) small (next o' n' h' p' first rest) =
      below-add o n h (T.mul y (value_at T y p)) first
      (cancel o t n (T.mul y (value_at T y p))
      (below-mul 0 (o + t) t n (n + t) y (value_at T y p) small
      (value-below t (o + t) n y p small rest) (omega arith)))

  -- at the level w only the first coefficient counts
  value-part : (t w l d : ℕ) (y : C) (p : List C) → l < s.rank → w ≡ s.rank * d + s.weight l
      → IsBelowBy k s 0 t y → AreBelow k s t 0 (suc w) p
      → part k s l d (value_at T y p) ≡ value_at k k.zero (leading T (part k s l d) y p)
  value-part t w l d y [] q e small (end o' n') = below-zero 0 0 l q d (omega arith)
  value-part t w l d y (h ∷ p) q e small (next o' n' h' p' first rest) =
      (part_linear K s l d q).on_add h (T.mul y (value_at T y p))
      ∙ ap (k.add (part k s l d h)) (below-mul 0 (0 + t) t (suc w) (w + t) y (value_at T y p) small
      (value-below t (0 + t) (suc w) y p small rest) (omega arith) l q d (omega (arith, e)))
      ∙ ring2 k K.laws (λ a v. a ⊕ nil) (λ a v. a ⊕ nil ⊗ v) refl (part k s l d h)
      (value_at k k.zero (leading T (λ a. part k s l d (T.mul a y)) y p))

  -- the value at 0 does not depend on u
  value-zero : (phi : C → k.carrier) (u y : C) (p : List C) → value_at k k.zero (leading T phi u p)
      ≡ value_at k k.zero (leading T phi y p)
  value-zero phi u y [] = refl
  value-zero phi u y (h ∷ p) = ring3 k K.laws (λ a v w. a ⊕ nil ⊗ v) (λ a v w. a ⊕ nil ⊗ w) refl
      (phi h)
      (value_at k k.zero (leading T (λ a. phi (T.mul a u)) u p))
      (value_at k k.zero (leading T (λ a. phi (T.mul a y)) y p))

  -- the coefficient of H(c * u + y) at the level w is the value of the leading polynomial at c, for
  -- y of weight below t
  pub leading-value : (t w l d : ℕ) (u y : Coords (polynomials K.ring) s.rank) (c : K.carrier)
      (p : List (Coords (polynomials K.ring) s.rank))
      → l < s.rank → w ≡ s.rank * d + s.weight l → IsBelowBy K.ring s 0 (suc t) u
      → IsBelowBy K.ring s 0 t y → AreBelow K.ring s t 0 (suc w) p
      → part K.ring s l d (value_at (table_ring K.ring s)
      ((table_ring K.ring s).add (scaled K.ring s c u) y) p)
      ≡ value_at K.ring c (leading (table_ring K.ring s) (part K.ring s l d) u p)
  leading-value t w l d u y c p q e hu hy h =
      ap (part k s l d) (sym (shift-value T (table_laws K s table) (scaled K.ring s c u) y p))
      ∙ value-part t w l d y (shift T (scaled K.ring s c u) p) q e hy
      (shift-below t 0 (suc w) (scaled K.ring s c u) p (below-scaled 0 (suc t) c u hu) h)
      ∙ value-zero (part k s l d) y u (shift T (scaled K.ring s c u) p)
      ∙ ap (value_at k k.zero) (leading-shift T k (table_laws K s table) (scaled K.ring s)
      (λ c a b. multiple-mul K s (poly K.ring (c ∷ [])) a b)
      (part k s l d) u c p (part_linear K s l d q))
      ∙ shift-value k K.laws c k.zero (leading T (part k s l d) u p)
      ∙ ap (λ t. value_at k t (leading T (part k s l d) u p)) (K.laws.add_zero c)

  -- so a root of H that begins with c * u makes c a root of the leading polynomial
  pub leading-root : (t w l d : ℕ) (u y : Coords (polynomials K.ring) s.rank) (c : K.carrier)
      (p : List (Coords (polynomials K.ring) s.rank))
      → l < s.rank → w ≡ s.rank * d + s.weight l → IsBelowBy K.ring s 0 (suc t) u
      → IsBelowBy K.ring s 0 t y → AreBelow K.ring s t 0 (suc w) p
      → value_at (table_ring K.ring s) ((table_ring K.ring s).add (scaled K.ring s c u) y) p
      ≡ (table_ring K.ring s).zero
      → value_at K.ring c (leading (table_ring K.ring s) (part K.ring s l d) u p) ≡ K.zero
  leading-root t w l d u y c p q e hu hy h z = sym (leading-value t w l d u y c p q e hu hy h)
      ∙ ap (part k s l d) z ∙ below-zero 0 0 l q d (omega arith)
