-- Bivariate polynomials modulo a polynomial in x, and the elements of E(g) that they stand for.
use Rattle.std.proofs.Common.{◌≡◌, ℕ, zero, suc, ◌+◌, ◌<◌, ◌≤◌, Bool, true, false, ◌∷◌, [], refl}
use Rattle.std.proofs.Common.{sym, ◌∙◌, ap, ap₂, subst, arith}
use Rattle.ff_theory.specs.Ring.{RingOps, IsCommRing, IsTested, power}
use Rattle.ff_theory.specs.Lawful.{Domain, Field}
use Rattle.ff_theory.specs.Sum.{sum_below}
use Rattle.ff_theory.specs.Poly.{coeff, Poly, poly, polynomials}
use Rattle.ff_theory.specs.Division.{size}
use Rattle.ff_theory.proofs.Solver.{◌⊕◌, ◌⊗◌, ring3, ring4, mul_zero}
use Rattle.ff_theory.specs.Map.{IsMap}
use Rattle.ff_theory.proofs.Poly.{trim-coeff, polynomial_laws, polynomial_tests}
use Rattle.ff_theory.proofs.Sums.{sum-ext, sum-add, sum-mul}
use Rattle.ff_theory.proofs.Division.{x, add_at, const_mul_at, size-add, size-neg, size-mul-le}
use Rattle.ff_theory.proofs.Division.{size_le}
use Rattle.ff_theory.proofs.Evaluate.{is_eval, const_map}
use Rattle.ff_theory.proofs.PolyMap.{polynomial_domain, not_same}
use Rattle.ff_theory.proofs.Horner.{eval-horner, horner-sum}
use Rattle.ff_theory.specs.Planes.{planes, Plane, row_of}
use Rattle.ff_theory.specs.Algebra.{algebra_of, value_of, y_of}
use Rattle.ff_theory.proofs.Element.{algebra_is_ring, value_map}
use Rattle.ff_theory.proofs.ElementEuclid.{value-nonzero, zero_plane_size}
use Rattle.ff_theory.specs.Divides.{Divides}
use Rattle.ff_subst.specs.Congruence.{IsCongruent, IsValueResidue, IsFactorResidue}
use Rattle.ff_subst.specs.Columns.{plane_combination}
use Rattle.ff_subst.proofs.Congruences.{congruent-equal, congruent-add, congruent-mul}
use Rattle.ff_subst.proofs.Congruences.{congruent-neg, congruent-back, congruent-zero}

module _ (F : Field) where
  abbrev D : Domain
  D = polynomial_domain F

  abbrev P : RingOps
  P = planes F

  pub planes_laws : IsCommRing (planes F)
  planes_laws = polynomial_laws D.ring D.laws D.tests

  pub row_map : IsMap (polynomials F.ring) (planes F) (row_of F.ring)
  row_map = const_map D.ring D.laws D.tests

  pub row_size-le : (c : Poly F.ring) → size (polynomials F.ring) (row_of F.ring c) ≤ 1
  unfolding poly
  row_size-le c = size_le D.ring D.laws D.tests (row_of F.ring c) 1
      (λ i l. trim-coeff D.ring D.laws D.tests (c ∷ []) i ∙ go i l)
    where
      go : (i : ℕ) → 1 ≤ i → coeff D.ring (c ∷ []) i ≡ D.zero
      go zero l = absurd (omega arith)
      go (suc i) l = refl

  pub product-size : (c : Poly F.ring) (N : Plane F)
      → size (polynomials F.ring) ((planes F).mul (row_of F.ring c) N) ≤ size (polynomials F.ring) N
  product-size c N = size-mul-le D.ring D.laws D.tests (row_of F.ring c) N (size D.ring N)
      (omega (arith, row_size-le c))

  -- a map of planes that keeps the operations: by the rows
  pub by_rows : (R : RingOps) (laws : IsCommRing R) (φ : Plane F → R.carrier) → IsMap (planes F) R φ
      → (N : Plane F) (n : ℕ) → size (polynomials F.ring) N ≤ n
      → φ N ≡ sum_below R n (λ j. R.mul (φ (row_of F.ring (coeff (polynomials F.ring) N.coeffs j)))
      (power R (φ (x (polynomials F.ring) (polynomial_domain F).laws
      (polynomial_domain F).tests)) j))
  by_rows R laws φ h N n l = is_eval D.ring R D.laws D.tests φ h N
      ∙ eval-horner D.ring R laws (λ c. φ (row_of F.ring c)) (ap φ row_map.on_zero ∙ h.on_zero)
      (φ (x D.ring D.laws D.tests)) N n l
      ∙ horner-sum R laws (φ (x D.ring D.laws D.tests))
      (λ j. φ (row_of F.ring (coeff D.ring N.coeffs j))) n

  module _ (m : Poly F.ring) where
    -- row by row
    pub congruent-rows : (M N : Plane F)
        → ((j : ℕ) → IsCongruent (polynomials F.ring) m (coeff (polynomials F.ring) M.coeffs j)
        (coeff (polynomials F.ring) N.coeffs j)) → IsCongruent (planes F) (row_of F.ring m) M N
    congruent-rows M N h = record {
      quotient = sum_below P n (λ j. P.mul (row_of F.ring (h
          j).quotient) (power P Y j));
      sum = total;
    }
      where
        n : ℕ
        n = size D.ring M + size D.ring N

        Y : Plane F
        Y = x D.ring D.laws D.tests

        id_map : IsMap (planes F) (planes F) (λ N. N)
        id_map = record {
          on_zero = refl;
          on_one = refl;
          on_add = λ a b. refl;
          on_neg = λ a. refl;
          on_mul = λ a b. refl;
        }

        total : M ≡ P.add N (P.mul (row_of F.ring m)
            (sum_below P n (λ j. P.mul (row_of F.ring (h j).quotient) (power P Y j))))
        total = by_rows P planes_laws (λ N. N) id_map M n (omega arith)
            ∙ sum-ext P planes_laws n (λ j. P.mul (row_of F.ring (coeff D.ring M.coeffs j)) (power P
            Y j)) (λ j. P.add (P.mul (row_of F.ring (coeff D.ring N.coeffs j)) (power P Y j))
            (P.mul (row_of F.ring m) (P.mul (row_of F.ring (h j).quotient) (power P Y j))))
            (λ j l. ap (λ c. P.mul (row_of F.ring c) (power P Y j)) (h j).sum
            ∙ ap (λ t. P.mul t (power P Y j))
            (row_map.on_add (coeff D.ring N.coeffs j) (D.mul m (h j).quotient)
            ∙ ap (P.add (row_of F.ring (coeff D.ring N.coeffs j)))
            (row_map.on_mul m (h j).quotient))
            ∙ ring4 P planes_laws (λ c m q y. (c ⊕ m ⊗ q) ⊗ y) (λ c m q y. c ⊗ y ⊕ m ⊗ (q ⊗ y)) refl
            (row_of F.ring (coeff D.ring N.coeffs j)) (row_of F.ring m)
            (row_of F.ring (h j).quotient) (power P Y j))
            ∙ sum-add P planes_laws n (λ j. P.mul (row_of F.ring (coeff D.ring N.coeffs j)) (power P
            Y j)) (λ j. P.mul (row_of F.ring m)
            (P.mul (row_of F.ring (h j).quotient) (power P Y j)))
            ∙ ap₂ P.add (sym (by_rows P planes_laws (λ N. N) id_map N n (omega arith)))
            (sum-mul P planes_laws n (row_of F.ring m)
            (λ j. P.mul (row_of F.ring (h j).quotient) (power P Y j)))

    pub rows-congruent : (M N : Plane F) → IsCongruent (planes F) (row_of F.ring m) M N → (j : ℕ)
        → IsCongruent (polynomials F.ring) m (coeff (polynomials F.ring) M.coeffs j)
        (coeff (polynomials F.ring) N.coeffs j)
    rows-congruent M N h j = record {
      quotient = coeff D.ring h.quotient.coeffs j;
      sum = ap (λ (N : Plane F). coeff D.ring N.coeffs j) h.sum
          ∙ add_at D.ring D.laws D.tests N (P.mul (row_of F.ring m) h.quotient) j
          ∙ ap (D.add (coeff D.ring N.coeffs j))
          (const_mul_at D.ring D.laws D.tests m h.quotient j);
    }

  module _ (G : Plane F) where
    abbrev A : RingOps
    A = algebra_of F G

    AL : IsCommRing (algebra_of F G)
    AL = algebra_is_ring F G

    V : IsMap (planes F) (algebra_of F G) (value_of F G)
    V = value_map F G

    PT : IsTested (planes F)
    PT = polynomial_tests D.ring D.laws D.tests

    -- planes with fewer rows than G are equal where their values are
    small-zero : (N : Plane F) → size (polynomials F.ring) N < size (polynomials F.ring) G
        → value_of F G N ≡ (algebra_of F G).zero → N ≡ (planes F).zero
    small-zero N l e = go (P.same N P.zero) refl
      where
        go : (b : Bool) → P.same N P.zero ≡ b → N ≡ P.zero
        go true s = PT.same_true N P.zero s
        go false s = absurd (value-nonzero F G N (λ z. absurd (omega (arith, z, l))) l
            (not_same P PT N P.zero s) e)

    module _ (m : Poly F.ring) where
      pub residue-equal : (N : Plane F) (u v : (algebra_of F G).carrier) → u ≡ v
          → IsValueResidue F G m N u → IsValueResidue F G m N v
      residue-equal N u v e h = record
          { exact = h.exact; small = h.small; value = h.value ∙ e; congruent = h.congruent }

      pub residue-plane : (M N : Plane F) (u : (algebra_of F G).carrier) → M ≡ N
          → IsValueResidue F G m M u → IsValueResidue F G m N u
      residue-plane M N u e h = subst (λ M. IsValueResidue F G m M u) e h

      pub residue-congruent : (M N : Plane F) (u : (algebra_of F G).carrier)
          → IsCongruent (planes F) (row_of F.ring m) M N → IsValueResidue F G m M u
          → IsValueResidue F G m N u
      residue-congruent M N u e h = record {
        exact = h.exact;
        small = h.small;
        value = h.value;
        congruent = congruent-back P
            planes_laws (row_of F.ring m) M N h.exact e h.congruent;
      }

      pub residue-zero : 0 < size (polynomials F.ring) G → (u : (algebra_of F G).carrier) → u
          ≡ (algebra_of F G).zero → IsValueResidue F G m (planes F).zero u
      residue-zero pos u e = record {
        exact = P.zero;
        small = omega (arith, zero_plane_size F, pos);
        value = V.on_zero ∙ sym e;
        congruent = congruent-equal P planes_laws (row_of F.ring m)
            P.zero P.zero refl;
      }

      pub residue-add : (M N : Plane F) (u v : (algebra_of F G).carrier) → IsValueResidue F G m M u
          → IsValueResidue F G m N v → IsValueResidue F G m ((planes F).add M N) ((algebra_of F
          G).add u v)
      residue-add M N u v h k = record {
        exact = P.add h.exact k.exact;
        small = below (size D.ring G) refl;
        value = V.on_add h.exact k.exact ∙ ap₂ A.add h.value k.value;
        congruent = congruent-add P planes_laws (row_of F.ring m) M h.exact N k.exact h.congruent
            k.congruent;
      }
        where
          below : (n : ℕ) → size D.ring G ≡ n → size D.ring (P.add h.exact k.exact) < size D.ring G
          below zero e = absurd (omega (arith, h.small, e))
          below (suc n) e = omega (
            arith,
            e,
            size-add D.ring D.laws D.tests h.exact k.exact n (omega
                (arith, h.small, e)) (omega (arith, k.small, e)),
          )

      pub residue-neg : (N : Plane F) (u : (algebra_of F G).carrier) → IsValueResidue F G m N u
          → IsValueResidue F G m ((planes F).neg N) ((algebra_of F G).neg u)
      residue-neg N u h = record {
        exact = P.neg h.exact;
        small = omega (arith, h.small, size-neg D.ring D.laws D.tests h.exact);
        value = V.on_neg h.exact ∙ ap A.neg h.value;
        congruent = congruent-neg P planes_laws (row_of F.ring m) N h.exact h.congruent;
      }

      -- a product with a polynomial in x
      pub residue-times : (p e : Poly F.ring) (N : Plane F) (u : (algebra_of F G).carrier)
          → IsCongruent (polynomials F.ring) m p e → IsValueResidue F G m N u
          → IsValueResidue F G m ((planes F).mul (row_of F.ring p) N)
          ((algebra_of F G).mul (value_of F G (row_of F.ring e)) u)
      residue-times p e N u h k = record {
        exact = P.mul (row_of F.ring e) k.exact;
        small = omega (arith, k.small, product-size e k.exact);
        value = V.on_mul (row_of F.ring e) k.exact
            ∙ ap (A.mul (value_of F G (row_of F.ring e))) k.value;
        congruent = congruent-mul P planes_laws (row_of F.ring m) (row_of F.ring p)
            (row_of F.ring e) N k.exact lifted k.congruent;
      }
        where
          lifted : IsCongruent P (row_of F.ring m) (row_of F.ring p) (row_of F.ring e)
          lifted = record {
            quotient = row_of F.ring h.quotient;
            sum = ap (row_of F.ring) h.sum
                ∙ row_map.on_add e (D.mul m h.quotient)
                ∙ ap (P.add (row_of F.ring e)) (row_map.on_mul m h.quotient);
          }

      pub residue-factor : (p : Poly F.ring) (t : (algebra_of F G).carrier) (N : Plane F)
          (u : (algebra_of F G).carrier) → IsFactorResidue F G m p t → IsValueResidue F G m N u
          → IsValueResidue F G m ((planes F).mul (row_of F.ring p) N) ((algebra_of F G).mul t u)
      residue-factor p t N u h k = residue-equal (P.mul (row_of F.ring p) N)
          (A.mul (value_of F G (row_of F.ring h.exact)) u) (A.mul t u) (ap (λ t. A.mul t u) h.value)
          (residue-times p h.exact N u h.congruent k)

      -- products of factors
      pub factor-known : (p : Poly F.ring) → (polynomials F.ring).same p (polynomials F.ring).zero
          ≡ false → IsFactorResidue F G m p (value_of F G (row_of F.ring p))
      factor-known p n = record {
        exact = p;
        nonzero = n;
        value = refl;
        congruent = congruent-equal
            D.ring D.laws m p p refl;
      }

      pub factor-one : (p : Poly F.ring) → p ≡ (polynomials F.ring).one
          → IsFactorResidue F G m p (algebra_of F G).one
      factor-one p e = record {
        exact = D.one;
        nonzero = D.proper;
        value = ap (value_of F G)
            row_map.on_one ∙ V.on_one;
        congruent = congruent-equal D.ring D.laws m p D.one e;
      }

      pub factor-mul : (p q : Poly F.ring) (s t : (algebra_of F G).carrier)
          → IsFactorResidue F G m p s → IsFactorResidue F G m q t
          → IsFactorResidue F G m ((polynomials F.ring).mul p q) ((algebra_of F G).mul s t)
      factor-mul p q s t h k = record {
        exact = D.mul h.exact k.exact;
        nonzero = D.no_divisors h.exact k.exact h.nonzero k.nonzero;
        value = ap (value_of F G) (row_map.on_mul h.exact k.exact)
            ∙ V.on_mul (row_of F.ring h.exact) (row_of F.ring k.exact) ∙ ap₂ A.mul h.value k.value;
        congruent = congruent-mul D.ring D.laws m p h.exact q k.exact h.congruent k.congruent;
      }

      pub factor-congruent : (p q : Poly F.ring) (t : (algebra_of F G).carrier)
          → IsCongruent (polynomials F.ring) m p q → IsFactorResidue F G m p t
          → IsFactorResidue F G m q t
      factor-congruent p q t e h = record {
        exact = h.exact;
        nonzero = h.nonzero;
        value = h.value;
        congruent = congruent-back D.ring
            D.laws m p q h.exact e h.congruent;
      }

      -- sums of products with polynomials in x
      pub residue-combination : 0 < size (polynomials F.ring) G
          → (n : ℕ) (c e : ℕ → Poly F.ring) (M : ℕ → Plane F) (d : (algebra_of F G).carrier)
          (z : ℕ → (algebra_of F G).carrier)
          → ((j : ℕ) → j < n → IsCongruent (polynomials F.ring) m (c j) (e j))
          → ((j : ℕ) → j < n → IsValueResidue F G m (M j) ((algebra_of F G).mul d (z j)))
          → IsValueResidue F G m (plane_combination F.ring n c M)
          ((algebra_of F G).mul d (sum_below (algebra_of F G) n (λ j. (algebra_of F G).mul
          (value_of F G (row_of F.ring (e j))) (z j))))
      residue-combination pos zero c e M d z h k = residue-zero pos _ (mul_zero A AL d)
      residue-combination pos (suc n) c e M d z h k =
          residue-equal _ _ _ (ring4 A AL (λ d s v z. d ⊗ s ⊕ v ⊗ (d ⊗ z))
          (λ d s v z. d ⊗ (s ⊕ v ⊗ z)) refl d
          (sum_below A n (λ j. A.mul (value_of F G (row_of F.ring (e j))) (z j)))
          (value_of F G (row_of F.ring (e n))) (z n))
          (residue-add _ _ _ _ (residue-combination pos n c e M d z (λ j l. h j (omega arith))
          (λ j l. k j (omega arith))) (residue-times (c n) (e n) (M n) (A.mul d (z n)) (h n
          (omega arith)) (k n (omega arith))))

      -- a matrix that is applied to a plane: the product
      pub residue-applied : (n : ℕ) (c : ℕ → Poly F.ring) (M : ℕ → Plane F) (S : Plane F)
          (d v u : (algebra_of F G).carrier) → n + 1 ≡ size (polynomials F.ring) G
          → ((j : ℕ) → c j ≡ coeff (polynomials F.ring) S.coeffs j)
          → ((j : ℕ) → j < n → IsValueResidue F G m (M j)
          ((algebra_of F G).mul d ((algebra_of F G).mul v (power (algebra_of F G) (y_of F G)
          j)))) → IsValueResidue F G m S u
          → IsValueResidue F G m (plane_combination F.ring n c M)
          ((algebra_of F G).mul d ((algebra_of F G).mul v u))
      unfolding y_of
      residue-applied n c M S d v u whole same matrix h = residue-equal _ _ _ (ap (A.mul d) total)
          (residue-combination (omega (arith, whole)) n c (λ j. coeff D.ring h.exact.coeffs j) M d
          (λ j. A.mul v (power A Y j))
          (λ j l. subst (λ p. IsCongruent D.ring m p (coeff D.ring h.exact.coeffs j)) (sym (same j))
          (rows-congruent m S h.exact h.congruent j)) matrix)
        where
          Y : A.carrier
          Y = value_of F G (x D.ring D.laws D.tests)

          total : sum_below A n (λ j. A.mul (value_of F G (row_of F.ring (coeff D.ring
              h.exact.coeffs j))) (A.mul v (power A Y j))) ≡ A.mul v u
          total = sum-ext A AL n (λ j. A.mul (value_of F G (row_of F.ring (coeff D.ring
              h.exact.coeffs j))) (A.mul v (power A Y j)))
              (λ j. A.mul v (A.mul (value_of F G (row_of F.ring (coeff D.ring h.exact.coeffs j)))
              (power A Y j)))
              (λ j l. ring3 A AL (λ r v y. r ⊗ (v ⊗ y)) (λ r v y. v ⊗ (r ⊗ y)) refl
              (value_of F G (row_of F.ring (coeff D.ring h.exact.coeffs j))) v (power A Y j))
              ∙ sum-mul A AL n v (λ j. A.mul
              (value_of F G (row_of F.ring (coeff D.ring h.exact.coeffs j))) (power A Y j))
              ∙ ap (A.mul v) (sym (by_rows A AL (value_of F G) V h.exact n
              (omega (arith, h.small, whole))) ∙ h.value)

      -- a value of 0
      pub zero-residue : (N : Plane F) (u : (algebra_of F G).carrier) → u ≡ (algebra_of F G).zero
          → IsValueResidue F G m N u → Divides (planes F) (row_of F.ring m) N
      zero-residue N u e h = congruent-zero P planes_laws (row_of F.ring m) N
          (subst (IsCongruent P (row_of F.ring m) N) (small-zero h.exact h.small (h.value ∙ e))
          h.congruent)
