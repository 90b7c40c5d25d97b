-- Elements as sums of multiples of the basis vectors; maps of rings on sums.
use Rattle.std.proofs.Common.{◌≡◌, ℕ, zero, suc, ◌<◌, sym, ◌∙◌, ap}
use Rattle.ff_theory.specs.Ring.{RingOps}
use Rattle.ff_theory.specs.Lawful.{Field, Domain}
use Rattle.ff_theory.specs.Map.{IsMap}
use Rattle.ff_theory.specs.Sum.{sum_below}
use Rattle.ff_theory.specs.Span.{unit_at}
use Rattle.ff_theory.specs.Poly.{polynomials}
use Rattle.ff_theory.proofs.Solver.{mul_zero}
use Rattle.ff_theory.proofs.Span.{unit-same, unit-other}
use Rattle.ff_theory.proofs.Sums.{sum-single}
use Rattle.ff_theory.proofs.PolyMap.{polynomial_domain}
use Rattle.ff_table.specs.Coords.{Coords, at}
use Rattle.ff_table.specs.Table.{Table, table_ring}
use Rattle.ff_table.specs.Level.{z_multiple, basis}
use Rattle.ff_table.proofs.Coords.{coords_ext, coords-at}
use Rattle.ff_table.proofs.Laws.{add_at, zero_at}
use Rattle.ff_table.proofs.Scalars.{multiple-at}

-- a map of rings keeps sums
pub map-sum : (S R : RingOps) (f : S.carrier → R.carrier) → IsMap S R f → (n : ℕ)
    (g : ℕ → S.carrier) → f (sum_below S n g) ≡ sum_below R n (λ i. f (g i))
map-sum S R f map zero g = map.on_zero
map-sum S R f map (suc n) g = map.on_add (sum_below S n g) (g n)
    ∙ ap (λ t. R.add t (f (g n))) (map-sum S R f map n g)

module _ (K : Field) (s : Table K.ring) where
  abbrev P : Domain
  P = polynomial_domain K

  abbrev T : RingOps
  T = table_ring K.ring s

  abbrev C : Type 0
  C = Coords (polynomials K.ring) s.rank

  -- coordinate l of a sum
  pub sum-at : (n : ℕ) (f : ℕ → Coords (polynomials K.ring) s.rank) (l : ℕ) → l < s.rank
      → at (polynomials K.ring) s.rank (sum_below (table_ring K.ring s) n f) l
      ≡ sum_below (polynomials K.ring) n (λ i. at (polynomials K.ring) s.rank (f i) l)
  sum-at zero f l q = zero_at P.ring P.laws s.rank s.product l q
  sum-at (suc n) f l q = add_at P.ring P.laws s.rank s.product (sum_below T n f) (f n) l q
      ∙ ap (λ t. P.add t (at P.ring s.rank (f n) l)) (sum-at n f l q)

  pub basis-sum : (a : Coords (polynomials K.ring) s.rank)
      → a ≡ sum_below (table_ring K.ring s) s.rank
      (λ l. z_multiple K.ring s (at (polynomials K.ring) s.rank a l) (basis K.ring s l))
  basis-sum a = coords_ext P.ring s.rank _ _ (λ l q. sym (
      sum-at s.rank (λ i. z_multiple K.ring s (at P.ring s.rank a i) (basis K.ring s i)) l q
      ∙ sum-single P.ring P.laws s.rank l _ q (λ i r n. entry i l q
      ∙ ap (P.mul (at P.ring s.rank a i)) (unit-other P.ring i l (λ e. n (sym e)))
      ∙ mul_zero P.ring P.laws _)
      ∙ entry l l q ∙ ap (P.mul (at P.ring s.rank a l)) (unit-same P.ring l) ∙ P.laws.mul_one _))
    where
      entry : (i l : ℕ) → l < s.rank
          → at P.ring s.rank (z_multiple K.ring s (at P.ring s.rank a i) (basis K.ring s i)) l
          ≡ P.mul (at P.ring s.rank a i) (unit_at P.ring i l)
      entry i l q = multiple-at K s (at P.ring s.rank a i) (basis K.ring s i) l q
          ∙ ap (P.mul (at P.ring s.rank a i))
          (coords-at P.ring s.rank (unit_at P.ring i) l q)
