-- Each element that is not zero divides a polynomial in z that is not zero.
use Rattle.std.proofs.Common.{◌≡◌, ℕ, zero, [], ◌∷◌, suc, ◌+◌, ◌<◌, ◌≤◌, refl, sym, ◌∙◌, ap, ap₂}
use Rattle.ff_theory.specs.Ring.{RingOps, IsCommRing, power}
use Rattle.ff_theory.specs.Lawful.{Field, Domain}
use Rattle.ff_theory.specs.Sum.{sum_below}
use Rattle.ff_theory.specs.Poly.{coeff, Poly, poly, polynomials}
use Rattle.ff_theory.specs.Monomial.{variable}
use Rattle.ff_theory.proofs.Solver.{◌⊕◌, ◌⊗◌, nil, ring2, ring4, ring6, mul_zero}
use Rattle.ff_theory.proofs.Sums.{sum-single}
use Rattle.ff_theory.proofs.Division.{const, const_mul_at}
use Rattle.ff_theory.proofs.PolyMap.{polynomial_domain}
use Rattle.ff_theory.specs.Span.{unit_at}
use Rattle.ff_theory.proofs.Span.{unit-same, unit-other}
use Rattle.ff_table.specs.Coords.{Coords, at}
use Rattle.ff_table.specs.Table.{Table, IsTable, table_ring}
use Rattle.ff_table.specs.Level.{z_multiple, scaled}
use Rattle.ff_table.specs.Table.{Weighs}
use Rattle.ff_table.proofs.Coords.{coords_ext}
use Rattle.ff_table.proofs.Laws.{add_at, zero_at}
use Rattle.ff_table.proofs.Under.{coeff-sum}
use Rattle.ff_table.proofs.TableRing.{table_laws}
use Rattle.ff_table.proofs.Scalars.{multiple-at, multiple-mul, multiple-add}
use Rattle.ff_table.proofs.Monomials.{power-coeff}
use Rattle.ff_table.proofs.Division.{TableDivision, divide}
use Rattle.ff_table.proofs.LinearRelation.{LinearRelation, linear_relation}

-- p * 1 is a multiple of a, for a polynomial p that is not zero
pub record DividesPoly (K : Field) (s : Table K.ring)
    (a : Coords (polynomials K.ring) s.rank) : Type 0 where
  pub poly : Poly K.ring
  pub degree : ℕ
  pub nonzero : ¬ (coeff K.ring poly.coeffs degree ≡ K.zero)
  pub quotient : Coords (polynomials K.ring) s.rank
  pub product : z_multiple K.ring s poly (table_ring K.ring s).one
      ≡ (table_ring K.ring s).mul a quotient

module _ (K : Field) (s : Table K.ring) (table : IsTable K.ring s) where
  abbrev T : RingOps
  T = table_ring K.ring s

  abbrev k : RingOps
  k = K.ring

  abbrev C : Type 0
  C = Coords (polynomials K.ring) s.rank

  abbrev P : Domain
  P = polynomial_domain K

  TL : IsCommRing T
  TL = table_laws K s table

  -- z^i
  abbrev pub z_power : ℕ → Poly K.ring
  z_power i = power (polynomials K.ring) (variable K.ring) i

  -- the polynomial with n coefficients c
  abbrev pub of_coefficients : ℕ → (ℕ → K.carrier) → Poly K.ring
  of_coefficients n c = sum_below (polynomials K.ring) n
      (λ i. (polynomials K.ring).mul (const K.ring K.laws K.tests (c i)) (z_power i))

  pub coefficient : (n i : ℕ) (c : ℕ → K.carrier) → i < n
      → coeff K.ring (of_coefficients n c).coeffs i ≡ c i
  coefficient n i c l = coeff-sum k K.laws K.tests n n
      (λ j. P.mul (const k K.laws K.tests (c j)) (z_power j)) i
      ∙ sum-single k K.laws n i (λ j. coeff k
      (P.mul (const k K.laws K.tests (c j)) (z_power j)).coeffs i) l
      (λ j q m. term j ∙ ap (K.mul (c j)) (unit-other k j i (λ e. m (sym e)))
      ∙ mul_zero k K.laws (c j))
      ∙ term i ∙ ap (K.mul (c i)) (unit-same k i) ∙ K.laws.mul_one (c i)
    where
      term : (j : ℕ) → coeff k (P.mul (const k K.laws K.tests (c j)) (z_power j)).coeffs i
          ≡ K.mul (c j) (unit_at k j i)
      term j = const_mul_at k K.laws K.tests (c j) (z_power j) i
          ∙ ap (K.mul (c j)) (power-coeff K s table j i)

  -- its product with a, as a combination of the elements z^i * a
  pub spread : (n : ℕ) (c : ℕ → K.carrier) (a : Coords (polynomials K.ring) s.rank)
      → z_multiple K.ring s (of_coefficients n c) a
      ≡ sum_below (table_ring K.ring s) n
      (λ i. scaled K.ring s (c i) (z_multiple K.ring s (z_power i) a))
  spread zero c a = coords_ext P.ring s.rank _ _ (λ l q. multiple-at K s P.zero a l q
      ∙ ring2 P.ring P.laws (λ a b. nil ⊗ a) (λ a b. nil) refl (at P.ring s.rank a l) P.zero
      ∙ sym (zero_at P.ring P.laws s.rank s.product l q))
  spread (suc n) c a = coords_ext P.ring s.rank _ _ (λ l q.
      multiple-at K s (of_coefficients (suc n) c) a l q
      ∙ ring4 P.ring P.laws (λ a b d o. (a ⊕ b ⊗ d) ⊗ o) (λ a b d o. a ⊗ o ⊕ b ⊗ (d ⊗ o)) refl
      (of_coefficients n c) (const k K.laws K.tests (c n)) (z_power n) (at P.ring s.rank a l)
      ∙ ap₂ P.add (sym (multiple-at K s (of_coefficients n c) a l q))
      (ap (P.mul (const k K.laws K.tests (c n))) (sym (multiple-at K s (z_power n) a l q))
      ∙ sym (multiple-at K s (poly K.ring (c n ∷ [])) (z_multiple K.ring s (z_power n) a) l q))
      ∙ sym (add_at P.ring P.laws s.rank s.product (z_multiple K.ring s (of_coefficients n c) a)
      (scaled K.ring s (c n) (z_multiple K.ring s (z_power n) a)) l q))
      ∙ ap (λ t. T.add t (scaled K.ring s (c n) (z_multiple K.ring s (z_power n) a)))
      (spread n c a)

  -- combinations of a * q_i + rest_i
  combine : (a : C) (n : ℕ) (c : ℕ → K.carrier) (f q rest : ℕ → C)
      → ((i : ℕ) → f i ≡ T.add (T.mul a (q i)) (rest i))
      → sum_below T n (λ i. scaled K.ring s (c i) (f i))
      ≡ T.add (T.mul a (sum_below T n (λ i. scaled K.ring s (c i) (q i))))
      (sum_below T n (λ i. scaled K.ring s (c i) (rest i)))
  combine a zero c f q rest h = sym
      (ap (λ t. T.add t T.zero) (mul_zero T TL a) ∙ TL.add_zero T.zero)
  combine a (suc n) c f q rest h =
      ap₂ T.add (combine a n c f q rest h)
      (ap (scaled K.ring s (c n)) (h n)
      ∙ multiple-add K s (poly K.ring (c n ∷ [])) (T.mul a (q n)) (rest n)
      ∙ ap (λ t. T.add t (scaled K.ring s (c n) (rest n)))
      (ap (scaled K.ring s (c n)) (TL.mul_comm a (q n))
      ∙ sym (multiple-mul K s (poly K.ring (c n ∷ [])) (q n) a)
      ∙ TL.mul_comm _ a))
      ∙ regroup T TL a (sum_below T n (λ i. scaled K.ring s (c i) (q i)))
      (sum_below T n (λ i. scaled K.ring s (c i) (rest i))) (scaled K.ring s (c n) (q n))
      (scaled K.ring s (c n) (rest n))
    where
      regroup : (R : RingOps) (laws : IsCommRing R) (a x y u v : R.carrier)
          → R.add (R.add (R.mul a x) y) (R.add (R.mul a u) v)
          ≡ R.add (R.mul a (R.add x u)) (R.add y v)
      regroup R laws a x y u v = ring6 R laws (λ a x y u v z. (a ⊗ x ⊕ y) ⊕ (a ⊗ u ⊕ v))
          (λ a x y u v z. a ⊗ (x ⊕ u) ⊕ (y ⊕ v)) refl a x y u v v

  pub divides_poly : (M : ℕ) → ((i : ℕ) → i < s.rank → s.weight i ≤ M)
      → (a : Coords (polynomials K.ring) s.rank) (w : ℕ) → Weighs K.ring s a w → DividesPoly K s a
  divides_poly M high a w h = record {
    poly = of_coefficients (suc (w + M)) r.coefficients;
    degree = r.place;
    nonzero = λ e. r.nonzero (sym (coefficient (suc (w + M)) r.place r.coefficients r.below) ∙ e);
    quotient = sum_below T (suc (w + M)) (λ i. scaled K.ring s (r.coefficients i) (d i).quotient);
    product = spread (suc (w + M)) r.coefficients T.one
        ∙ combine a (suc (w + M)) r.coefficients (λ i. z_multiple K.ring s (z_power i) T.one)
        (λ i. (d i).quotient) (λ i. (d i).rest) (λ i. (d i).sum)
        ∙ ap (T.add _) r.sum ∙ TL.add_zero _;
  }
    where
      d : (i : ℕ) → TableDivision K s table a (z_multiple K.ring s (z_power i) T.one) (w + M)
      d i = divide K s table M high a w h (z_multiple K.ring s (z_power i) T.one)

      r : LinearRelation K s (suc (w + M)) (λ i. (d i).rest)
      r = linear_relation K s table (w + M) (λ i. (d i).rest) (λ i l. (d i).small)
