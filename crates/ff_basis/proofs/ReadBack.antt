-- Elements that are read back from the blocks of a vector.
use Rattle.std.proofs.Common.{◌≡◌, ℕ, zero, suc, pred, ◌+◌, ◌-◌, ◌*◌, ◌<◌, ◌≤◌, List, length, refl}
use Rattle.std.proofs.Common.{[], sym, ◌∙◌, ap, ap₂, arith}
use Rattle.std.proofs.lemmas.Nat.{mul-add-lt}
use Rattle.ff_theory.specs.Ring.{RingOps, IsCommRing, Elements, power}
use Rattle.ff_theory.specs.Lawful.{Lawful, lawful_field, Field, Domain}
use Rattle.ff_theory.specs.Sum.{sum_below}
use Rattle.ff_theory.specs.Poly.{Poly, poly, polynomials}
use Rattle.ff_theory.specs.Division.{size}
use Rattle.ff_theory.specs.Monomial.{variable}
use Rattle.ff_theory.specs.Reversal.{reversal}
use Rattle.ff_theory.specs.Map.{IsMap}
use Rattle.ff_theory.specs.Eval.{eval}
use Rattle.ff_theory.specs.Planes.{row_of}
use Rattle.ff_theory.specs.Algebra.{value_of}
use Rattle.ff_theory.specs.Vector.{vector_of, IsVector}
use Rattle.ff_theory.specs.Values.{plane_of, IsPlane}
use Rattle.ff_theory.proofs.Solver.{◌⊗◌, unit, ring1, ring6, mul_zero}
use Rattle.ff_theory.proofs.Sums.{sum-ext, sum-mul}
use Rattle.ff_theory.proofs.Horner.{horner, from_index, horner-step, horner-ext, horner-sum}
use Rattle.ff_theory.proofs.Horner.{eval-zero}
use Rattle.ff_theory.proofs.FrobeniusPoly.{map-power}
use Rattle.ff_theory.proofs.PolyMap.{polynomial_domain}
use Rattle.ff_charts.specs.Chart.{Chart as ChartOf, at_u, IsChart}
use Rattle.ff_charts.proofs.Chart.{at_u_map}
use Rattle.ff_charts.proofs.Rows.{polynomial_of, polynomial_at, polynomial_size, value_of_listed}
use Rattle.ff_charts.proofs.Flat.{plane_with, plane_with_shape, plane_with_flat}
use Rattle.ff_charts.proofs.FiniteChart.{at_is}
use Rattle.ff_charts.proofs.InfiniteChart.{t_inverts}
use Rattle.ff_charts.proofs.InvertedChart.{at_x}
use Rattle.ff_charts.proofs.Reversal.{power-inverse, reversal_value}
use Rattle.ff_lin.specs.Kernel.{mirror}
use Rattle.ff_lin.proofs.Mirror.{mirror-below, mirror-past, mirror-mirror}
use Rattle.ff_lin.proofs.Steps.{past}
use Rattle.ff_elem.specs.Elem.{algebra_in, x_in}
use Rattle.ff_data.specs.declared.order.Chart.{Chart}
use Rattle.ff_data.specs.declared.order.Chart.TheVariants.{Finite, Infinite}
use Rattle.ff_data.specs.Orders.{chart_of, y_degree}
use Rattle.ff_basis.specs.Blocks.{block, sum_of_blocks, IsFactor}
use Rattle.ff_basis.specs.OrderList.{IsFraction}
use Rattle.ff_data.proofs.ChartLaws.{algebra_laws, chart_laws, has}
use Rattle.ff_basis.proofs.Divisors.{power_size}
use Rattle.ff_basis.proofs.Pieces.{listed-ext}

-- The sum by Horner's rule, the last term first.
module _ (R : RingOps) (y : R.carrier) (g : ℕ → R.carrier) (n : ℕ) where
  -- the sum after b terms
  abbrev pub partial_sum : ℕ → R.carrier
  partial_sum b = horner R y (from_index (n - b) (λ i. g (n - 1 - i))) b

module _ (R : RingOps) (laws : IsCommRing R) (y : R.carrier) (g : ℕ → R.carrier) (n : ℕ) where
  pub partial_step : (b : ℕ) → b < n → R.add (g b) (R.mul y (partial_sum R y g n b))
      ≡ partial_sum R y g n (b + 1)
  partial_step b l = let e : n - b ≡ suc (n - (b + 1)) = omega arith in
      let i : b ≡ n - 1 - (n - (b + 1)) = omega arith in
      let s : suc b ≡ b + 1 = omega arith in
      ap₂ (λ t m. R.add t (R.mul y (horner R y (from_index m (λ i. g (n - 1 - i))) b))) (ap g i) e
      ∙ sym (horner-step R laws y (λ i. g (n - 1 - i)) (n - (b + 1)) b)
      ∙ ap (horner R y (from_index (n - (b + 1)) (λ i. g (n - 1 - i)))) s

  pub partial_end : (b : ℕ) → b ≡ n → partial_sum R y g n b
      ≡ sum_below R n (λ i. R.mul (g (n - 1 - i)) (power R y i))
  partial_end b e = ap (λ b. horner R y (from_index (n - b) (λ i. g (n - 1 - i))) b) e
      ∙ horner-ext R laws y (from_index (n - n) (λ i. g (n - 1 - i))) (λ i. g (n - 1 - i)) n
      (λ i l. let z : n - n + i ≡ i = omega arith in ap (λ i. g (n - 1 - i)) z)
      ∙ horner-sum R laws y (λ i. g (n - 1 - i)) n

distribute : (i m k : ℕ) → (i + m) * k ≡ i * k + m * k
distribute zero m k = let e : 0 + m ≡ m = omega arith in let z : 0 * k ≡ 0 = omega arith in
    ap (λ t. t * k) e ∙ (let w : m * k ≡ 0 * k + m * k = omega (arith, z) in w)
distribute (suc i) m k = let h : (i + m) * k ≡ i * k + m * k = distribute i m k in
    let e : suc i + m ≡ suc (i + m) = omega arith in
    let f : suc (i + m) * k ≡ k + (i + m) * k = omega arith in
    let g : suc i * k ≡ k + i * k = omega arith in
    ap (λ t. t * k) e ∙ (let w : suc (i + m) * k ≡ suc i * k + m * k = omega (arith, h, f, g) in w)

-- block n - 1 - i of a vector lists the entries of row i from the last one
block_start : (n k i : ℕ) → i < n → (n - 1 - i) * k + k + i * k ≡ n * k
block_start n k i l = let m : n ≡ suc (i + (n - 1 - i)) = omega arith in
    let e : suc (i + (n - 1 - i)) * k ≡ k + (i + (n - 1 - i)) * k = omega arith in
    let d : (i + (n - 1 - i)) * k ≡ i * k + (n - 1 - i) * k = distribute i (n - 1 - i) k in
    let a : n * k ≡ suc (i + (n - 1 - i)) * k = ap (λ t. t * k) m in omega (arith, e, d, a)

block_index : (n k i j : ℕ) → i < n → j < k
    → mirror (n * k) (i * k + j) ≡ (n - 1 - i) * k + (k - 1 - j)
block_index n k i j l q = mirror-below (n * k) (i * k + j) (let a : i * k + j < k * n =
    mul-add-lt i k
    j n l q in let b : k * n ≡ n * k = omega arith in omega (arith, a, b))
    ∙ (let s : (n - 1 - i) * k + k + i * k ≡ n * k = block_start n k i l in
    let e : n * k - 1 - (i * k + j) ≡ (n - 1 - i) * k + (k - 1 - j) = omega (arith, s, q) in e)

module _ (F : Elements ℕ) (L : Lawful F) (f : List (List ℕ)) (hf : IsPlane F f) (two : 1 < length f)
  where
    abbrev K : Field
    K = lawful_field L

    abbrev A : RingOps
    A = algebra_in L f

    abbrev P : Domain
    P = polynomial_domain (lawful_field L)

    abbrev AL : IsCommRing (algebra_in L f)
    AL = algebra_laws F L f hf two

    abbrev n : ℕ
    n = y_degree L f

    -- row i of the numerators of a vector
    abbrev row : (k : ℕ) → (ℕ → F.carrier) → ℕ → Poly F.ring
    row k v i = polynomial_of F.ring L.laws L.tests k (λ j. v (mirror (n * k) (i * k + j)))

    abbrev value : Poly F.ring → A.carrier
    value h = value_of K (plane_of F f) (row_of F.ring h)

    -- block n - 1 - i in the finite chart is row i
    block_finite : (k : ℕ) (v : ℕ → F.carrier) (i : ℕ) → i < n
        → block F.ring Finite v k (n - 1 - i) ≡ row k v i
    block_finite k v i l = ap (poly F.ring) (listed-ext k _ _ (λ j q. ap v (sym
        (block_index n k i j l
        q))))

    -- and in the infinite chart its reversal
    block_infinite : (m : ℕ) (v : ℕ → F.carrier) (i : ℕ) → i < n
        → block F.ring Infinite v (suc m) (n - 1 - i) ≡ reversal F.ring m (row (suc m) v i)
    unfolding reversal
    block_infinite m v i l = ap (poly F.ring) (listed-ext (suc m) _ _ (λ j q.
        sym (polynomial_at F.ring L.laws L.tests (suc m)
        (λ j. v (mirror (n * suc m) (i * suc m + j))) (m - j) (omega arith)
        ∙ ap v (block_index n (suc m) i (m - j) l (omega arith)
        ∙ (let e : suc m - 1 - (m - j) ≡ j = omega (arith, q) in
        ap (λ t. (n - 1 - i) * suc m + t) e)))))

    -- the powers of t and x cancel
    raised : (e m : ℕ) → e ≡ suc m → (x t a : A.carrier) → A.mul t x ≡ A.one
        → A.mul (A.mul (power A t e) x) (A.mul (power A x m) a) ≡ a
    raised e m s x t a h = ap (λ e. A.mul (A.mul (power A t e) x) (A.mul (power A x m) a)) s
        ∙ ring6 A AL (λ t p x q a z. ((t ⊗ p) ⊗ x) ⊗ (q ⊗ a)) (λ t p x q a z. (t ⊗ x) ⊗
        ((q ⊗ p) ⊗ a))
        refl t (power A t m) x (power A x m) a a
        ∙ ap₂ (λ s u. A.mul s (A.mul u a)) h (power-inverse A AL x t h m)
        ∙ ring1 A AL (λ a. unit ⊗ (unit ⊗ a)) (λ a. a) refl a

    row_value : (chart : Chart) (D : Poly F.ring) → (chart_of L f chart).IsModulus D
        → (w : A.carrier) → IsFactor L f chart D w → (v : ℕ → F.carrier) (i : ℕ) → i < n
        → A.mul (A.mul (at_u (chart_of L f chart) D) w)
        (value (block F.ring chart v (pred (size F.ring D)) (n - 1 - i)))
        ≡ at_u (chart_of L f chart) (row (pred (size F.ring D)) v i)
    row_value Finite D hD w hw v i l = ap₂ A.mul hw
        (ap value (block_finite (pred (size F.ring D)) v i l)
        ∙ at_is K (plane_of F f) (length f - 1) (has F L f hf two) (row (pred (size F.ring D)) v i))
        ∙ ring1 A AL (λ a. unit ⊗ a) (λ a. a) refl _
    row_value Infinite D hD w hw v i l = go (pred (size F.ring D)) k_is
      where
        C : ChartOf F.ring (algebra_in L f)
        C = chart_of L f Infinite

        CL : IsChart F.ring (algebra_in L f) (chart_of L f Infinite)
        CL = chart_laws F L f hf two Infinite

        x : A.carrier
        x = x_in L f

        k_is : pred (size F.ring D) ≡ hD.0
        k_is = ap pred (ap (size F.ring) hD.1 ∙ power_size K hD.0)

        power_value : at_u C D ≡ power A C.u hD.0
        power_value = ap (at_u C) hD.1
            ∙ map-power P.ring A (at_u C) (at_u_map K A AL C CL) (variable F.ring) hD.0
            ∙ ap (λ s. power A s hD.0)
            (at_x F.ring L.laws L.tests A AL C.constant CL.constants C.u)

        inverse : A.mul C.u x ≡ A.one
        inverse = t_inverts K (plane_of F f) (length f - 1) (has F L f hf two)

        go : (k : ℕ) → k ≡ hD.0 → A.mul (A.mul (at_u C D) w) (value (block F.ring Infinite v k
            (n - 1 - i))) ≡ at_u C (row k v i)
        go zero e = ap (A.mul (A.mul (at_u C D) w))
            (at_is K (plane_of F f) (length f - 1) (has F L f hf two) (poly F.ring [])
            ∙ eval-zero F.ring A C.constant x)
            ∙ mul_zero A AL (A.mul (at_u C D) w) ∙ sym (eval-zero F.ring A C.constant C.u)
        go (suc m) e = ap₂ A.mul (ap₂ A.mul power_value hw)
            (at_is K (plane_of F f) (length f - 1) (has F L f hf two)
            (block F.ring Infinite v (suc m) (n - 1 - i))
            ∙ ap (eval F.ring A C.constant x) (block_infinite m v i l)
            ∙ sym (reversal_value K A AL C.constant CL.constants x C.u inverse m (row (suc m) v i)
            (polynomial_size F.ring L.laws L.tests (suc m)
            (λ j. v (mirror (n * suc m) (i * suc m + j))))))
            ∙ raised hD.0 m (sym e) x C.u (at_u C (row (suc m) v i)) inverse

    module _ (chart : Chart) (D : Poly F.ring) (hD : (chart_of L f chart).IsModulus D) where
      abbrev c : ChartOf F.ring (algebra_in L f)
      c = chart_of L f chart

      abbrev k : ℕ
      k = pred (size F.ring D)

      U : IsMap (polynomials F.ring) (algebra_in L f) (at_u (chart_of L f chart))
      U = at_u_map K A AL c (chart_laws F L f hf two chart)

      -- the factor times the sum of the blocks is the element of the vector
      pub read_fraction : (v : List ℕ)
          → IsVector F (y_degree L f * pred (size F.ring D)) v
          → (w theta sum result : (algebra_in L f).carrier) → IsFactor L f chart D w
          → theta ≡ (chart_of L f chart).theta
          → sum ≡ sum_of_blocks L f chart theta (vector_of F v) (pred (size F.ring D))
          (y_degree L f)
          → result ≡ (algebra_in L f).mul w sum → IsFraction L f chart D (vector_of F v) result
      read_fraction v hv w theta sum result hw ht hs hr = record {
        nums = plane_with K k n u;
        shape = plane_with_shape K k n u;
        entries = λ j. sym (plane_with_flat K k n u ends (mirror (n * k) j)
            ∙ ap (vector_of F v) (mirror-mirror (n * k) j));
        value = ap (A.mul (at_u c D)) (hr ∙ ap (A.mul w) (hs
            ∙ ap (λ y. sum_of_blocks L f chart y (vector_of F v) k n) ht))
            ∙ sym (AL.mul_assoc (at_u c D) w _)
            ∙ sym (sum-mul A AL n (A.mul (at_u c D) w) _)
            ∙ sum-ext A AL n _ (λ i. A.mul (at_u c (row k (vector_of F v) i)) (power A c.theta i))
            (λ i l. sym (AL.mul_assoc (A.mul (at_u c D) w) _ (power A c.theta i))
            ∙ ap (λ t. A.mul t (power A c.theta i)) (row_value chart D hD w hw (vector_of F v) i l))
            ∙ sym (value_of_listed (polynomials F.ring) P.laws P.tests A AL
            (at_u c) U.on_zero c.theta
            n (row k (vector_of F v)));
      }
        where
          u : ℕ → F.carrier
          u j = vector_of F v (mirror (n * k) j)

          ends : (j : ℕ) → n * k ≤ j → u j ≡ F.zero
          ends j q = ap (vector_of F v) (mirror-past (n * k) j q) ∙ past F (n * k) v j hv q
