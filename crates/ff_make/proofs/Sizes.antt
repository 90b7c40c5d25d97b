-- A hyperelliptic curve in shifted coordinates is within the limits of an equation.
use Rattle.std.proofs.Common.{◌≡◌, ℕ, zero, suc, ◌-◌, ◌*◌, ◌<◌, ◌≤◌, ◌⊎◌, inl, inr, List, [], ◌∷◌}
use Rattle.std.proofs.Common.{length, map, get_or, refl, sym, ◌∙◌, ap, ap₂, arith}
use Rattle.std.proofs.lemmas.Bool.{cases_lt}
use Rattle.std.proofs.lemmas.List.{length-map}
use Rattle.ff_theory.specs.Ring.{RingOps, Elements, power}
use Rattle.ff_theory.specs.Lawful.{Domain, Lawful, lawful_field}
use Rattle.ff_theory.specs.Poly.{Poly, coeff, poly, polynomials}
use Rattle.ff_theory.specs.Division.{size}
use Rattle.ff_theory.specs.Planes.{row_of}
use Rattle.ff_theory.specs.Values.{poly_of, plane_of, IsPoly, IsPlane, x_size}
use Rattle.ff_theory.proofs.Solver.{◌⊕◌, ◌⊗◌, nil, unit, ring1}
use Rattle.ff_theory.proofs.Series.{series_mul, tail}
use Rattle.ff_theory.proofs.Poly.{trim_same}
use Rattle.ff_theory.proofs.PolyMap.{polynomial_domain}
use Rattle.ff_theory.proofs.Product.{poly-coeff}
use Rattle.ff_theory.proofs.Booleans.{differ}
use Rattle.ff_theory.proofs.Division.{zero_from, add_at, mul_at, size-add, size-neg, size-mul-le}
use Rattle.ff_poly.specs.Limits.{IsEquation, IsWithinLimits}
use Rattle.ff_poly.proofs.LongDivision.{poly-size, poly-size-le}
use Rattle.ff_poly.proofs.RowLists.{row-value}
use Rattle.ff_make.specs.Curve.{x_plus, y_plus, right_side, curve}

-- ---- Lists of rows

-- the greatest length of a row
pub x_size_le : (rows : List (List ℕ)) (n : ℕ)
    → ((i : ℕ) → i < length rows → length (get_or rows i []) ≤ n) → x_size rows ≤ n
x_size_le [] n h = omega arith
x_size_le (p ∷ rows) n h = let first : length p ≤ n = h 0 (omega arith) in
    let rest : x_size rows ≤ n = x_size_le rows n (λ i l. h (suc i) (omega arith)) in
    omega (arith, first, rest)

-- a product with a factor of at most one
few_times : (a b n : ℕ) → a ≤ 1 → b ≤ n → a * b ≤ n
few_times zero b n h k = omega arith
few_times (suc zero) b n h k = omega (arith, k)
few_times (suc (suc a)) b n h k = absurd (omega (arith, h))

-- two or three rows of at most twelve coefficients are within the limits
pub short_rows : (rows : List (List ℕ)) → length rows ≤ 3
    → ((i : ℕ) → i < length rows → length (get_or rows i []) ≤ 12) → 1 < length rows
    → IsWithinLimits rows
short_rows rows three twelve two = record {
  y = omega (arith, three);
  x = let h : x_size rows ≤ 12 = x_size_le rows 12 twelve in omega (arith, h);
  monic = λ i l nonzero. let row : length (get_or rows i []) ≤ 12 = twelve i (omega (arith, l)) in
      let top : length (get_or rows (length rows - 1) []) ≤ 12 =
      twelve (length rows - 1) (omega (arith, two)) in
      let times : (length rows - 2 - i) * (length (get_or rows (length rows - 1) []) - 1) ≤ 12 =
      few_times (length rows - 2 - i) (length (get_or rows (length rows - 1) []) - 1) 12
      (omega (arith, three)) (omega (arith, top)) in omega (arith, row, times);
}

-- ---- The curve

module _ (K : Elements ℕ) (L : Lawful K) where
  abbrev D : Domain
  D = polynomial_domain (lawful_field L)

  abbrev P : RingOps
  P = polynomials K.ring

  one_size : size K.ring P.one ≤ 1
  one_size = poly-size-le K.ring L.laws L.tests (λ c. c) (K.one ∷ [])

  zero_size : size K.ring P.zero ≤ 0
  zero_size = poly-size-le K.ring L.laws L.tests (λ c. c) []

  power_size : (a : Poly K.ring) (n : ℕ) → size K.ring a ≤ 2
      → size K.ring (power P a n) ≤ suc n
  power_size a zero h = one_size
  power_size a (suc n) h = let rest : size K.ring (power P a n) ≤ suc n = power_size a n h in
      size-mul-le K.ring L.laws L.tests a (power P a n) (suc (suc n)) (omega (arith, h, rest))

  right_size : (s : K.carrier) (m : ℕ) → m ≤ 11
      → size K.ring (P.neg (right_side K s m)) ≤ 12
  right_size s m few = let linear : size K.ring (x_plus K s) ≤ 2 =
      poly-size-le K.ring L.laws L.tests (λ c. c) (s ∷ K.one ∷ []) in
      let top : size K.ring (power P (x_plus K s) m) ≤ suc m = power_size (x_plus K s) m linear in
      let sum : size K.ring (right_side K s m) ≤ 12 =
      size-add K.ring L.laws L.tests (power P (x_plus K s) m) P.one 12 (omega (arith, top, few))
      (omega (arith, one_size)) in
      let negative : size K.ring (P.neg (right_side K s m)) ≤ size K.ring (right_side K s m) =
      size-neg K.ring L.laws L.tests (right_side K s m) in omega (arith, sum, negative)

  -- a coefficient of a product of polynomials in y with small coefficients
  series_size : (f g : ℕ → Poly K.ring) → ((i : ℕ) → size K.ring (f i) ≤ 6)
      → ((i : ℕ) → size K.ring (g i) ≤ 6) → (n : ℕ) → size K.ring (series_mul P f g n) ≤ 11
  series_size f g hf hg zero =
      size-mul-le K.ring L.laws L.tests (f 0) (g 0) 11 (omega (arith, hf 0, hg 0))
  series_size f g hf hg (suc n) = size-add K.ring L.laws L.tests (P.mul (f 0) (g (suc n)))
      (series_mul P (tail f) g n) 11
      (size-mul-le K.ring L.laws L.tests (f 0) (g (suc n)) 11 (omega (arith, hf 0, hg (suc n))))
      (series_size (tail f) g (λ i. hf (suc i)) hg n)

  module _ (h c : Poly K.ring) (hs : size K.ring h ≤ 6) (cs : size K.ring c ≤ 12) where
    abbrev Y : Poly P
    Y = y_plus K h

    abbrev square : Poly P
    square = (polynomials P).mul Y Y

    abbrev whole : Poly P
    whole = (polynomials P).add square (row_of K.ring c)

    y_at : (i : ℕ) → coeff P Y.coeffs i ≡ coeff P (h ∷ P.one ∷ []) i
    y_at i = poly-coeff P D.laws D.tests (h ∷ P.one ∷ []) i

    y_size : (i : ℕ) → size K.ring (coeff P Y.coeffs i) ≤ 6
    y_size i = let e : size K.ring (coeff P Y.coeffs i)
        ≡ size K.ring (coeff P (h ∷ P.one ∷ []) i) = ap (size K.ring) (y_at i) in
        let l : size K.ring (coeff P (h ∷ P.one ∷ []) i) ≤ 6 = go i in omega (arith, e, l)
      where
        go : (i : ℕ) → size K.ring (coeff P (h ∷ P.one ∷ []) i) ≤ 6
        go zero = hs
        go (suc zero) = omega (arith, one_size)
        go (suc (suc i)) = omega (arith, zero_size)

    row_at : (i : ℕ) → coeff P (row_of K.ring c).coeffs i ≡ coeff P (c ∷ []) i
    row_at i = poly-coeff P D.laws D.tests (c ∷ []) i

    row_small : (i : ℕ) → size K.ring (coeff P (row_of K.ring c).coeffs i) ≤ 12
    row_small i = let e : size K.ring (coeff P (row_of K.ring c).coeffs i)
        ≡ size K.ring (coeff P (c ∷ []) i) = ap (size K.ring) (row_at i) in
        let l : size K.ring (coeff P (c ∷ []) i) ≤ 12 = go i in omega (arith, e, l)
      where
        go : (i : ℕ) → size K.ring (coeff P (c ∷ []) i) ≤ 12
        go zero = cs
        go (suc i) = omega (arith, zero_size)

    square_at : (i : ℕ) → coeff P square.coeffs i
        ≡ series_mul P (coeff P Y.coeffs) (coeff P Y.coeffs) i
    square_at i = mul_at P D.laws D.tests Y Y i

    square_small : (i : ℕ) → size K.ring (coeff P square.coeffs i) ≤ 12
    square_small i = let e : size K.ring (coeff P square.coeffs i)
        ≡ size K.ring (series_mul P (coeff P Y.coeffs) (coeff P Y.coeffs) i) =
        ap (size K.ring) (square_at i) in
        let l : size K.ring (series_mul P (coeff P Y.coeffs) (coeff P Y.coeffs) i) ≤ 11 =
        series_size (coeff P Y.coeffs) (coeff P Y.coeffs) y_size y_size i in omega (arith, e, l)

    whole_at : (i : ℕ) → coeff P whole.coeffs i
        ≡ P.add (coeff P square.coeffs i) (coeff P (row_of K.ring c).coeffs i)
    whole_at i = add_at P D.laws D.tests square (row_of K.ring c) i

    whole_small : (i : ℕ) → size K.ring (coeff P whole.coeffs i) ≤ 12
    whole_small i = let e : size K.ring (coeff P whole.coeffs i) ≡ size K.ring
        (P.add (coeff P square.coeffs i) (coeff P (row_of K.ring c).coeffs i)) =
        ap (size K.ring) (whole_at i) in
        let l : size K.ring
        (P.add (coeff P square.coeffs i) (coeff P (row_of K.ring c).coeffs i)) ≤ 12 =
        size-add K.ring L.laws L.tests (coeff P square.coeffs i)
        (coeff P (row_of K.ring c).coeffs i) 12 (square_small i) (row_small i) in
        omega (arith, e, l)

    whole_few : size P whole ≤ 3
    whole_few = size-add P D.laws D.tests square (row_of K.ring c) 3
        (let y : size P Y ≤ 2 = poly-size-le P D.laws D.tests (λ c. c) (h ∷ P.one ∷ []) in
        size-mul-le P D.laws D.tests Y Y 3 (omega (arith, y)))
        (let r : size P (row_of K.ring c) ≤ 1 =
        poly-size-le P D.laws D.tests (λ c. c) (c ∷ []) in omega (arith, r))

    -- the coefficient of y^2 is 1
    top_at : coeff P whole.coeffs 2 ≡ P.one
    top_at = whole_at 2 ∙ ap₂ P.add (square_at 2 ∙ products) (row_at 2)
        ∙ ring1 P D.laws (λ a. a ⊕ nil) (λ a. a) refl P.one
      where
        products : series_mul P (coeff P Y.coeffs) (coeff P Y.coeffs) 2 ≡ P.one
        products = ap₂ (λ a b. P.add (P.mul (coeff P Y.coeffs 0) a)
            (P.add (P.mul b b) (P.mul a (coeff P Y.coeffs 0)))) (y_at 2) (y_at 1)
            ∙ ring1 P D.laws (λ a. a ⊗ nil ⊕ (unit ⊗ unit ⊕ nil ⊗ a)) (λ a. unit) refl
            (coeff P Y.coeffs 0)

    whole_two : 1 < size P whole
    whole_two = go (cases_lt 1 (size P whole))
      where
        go : (1 < size P whole) ⊎ (size P whole ≤ 1) → 1 < size P whole
        go (inl l) = l
        go (inr l) = differ (P.same P.one P.zero)
            (ap (P.same P.one) (sym (zero_from P D.laws D.tests whole 2 (omega (arith, l)))
            ∙ top_at) ∙ D.tests.same_refl P.one) D.proper

-- the rows of such a curve
module _ (K : Elements ℕ) (L : Lawful K) (rows : List (List ℕ)) (plane : IsPlane K rows) where
  rows_size : size (polynomials K.ring) (plane_of K rows) ≡ length rows
  unfolding poly
  rows_size = let D = polynomial_domain (lawful_field L) in
      ap length (trim_same D.ring D.laws D.tests (map (λ p. poly_of K p) rows) plane.canonical)
      ∙ length-map rows (λ p. poly_of K p)

  row_size : (i : ℕ) → i < length rows → length (get_or rows i [])
      ≡ size K.ring (coeff (polynomials K.ring) (plane_of K rows).coeffs i)
  row_size i l = let D = polynomial_domain (lawful_field L) in
      sym (poly-size K.ring L.laws L.tests K.value (get_or rows i []) (plane.each i [] l).canonical)
      ∙ ap (size K.ring) (row-value K rows i
      ∙ sym (poly-coeff D.ring D.laws D.tests (map (λ p. poly_of K p) rows) i))

  pub is_equation : (h c : Poly K.ring) → size K.ring h ≤ 6 → size K.ring c ≤ 12
      → plane_of K rows ≡ (polynomials (polynomials K.ring)).add
      ((polynomials (polynomials K.ring)).mul (y_plus K h) (y_plus K h)) (row_of K.ring c)
      → IsEquation K rows
  is_equation h c hs cs e = record {
    plane = plane;
    has_y = two;
    within = short_rows rows three twelve two;
  }
    where
      total : length rows ≡ size (polynomials K.ring) (whole K L h c hs cs)
      total = sym rows_size ∙ ap (size (polynomials K.ring)) e

      two : 1 < length rows
      two = omega (arith, total, whole_two K L h c hs cs)

      three : length rows ≤ 3
      three = omega (arith, total, whole_few K L h c hs cs)

      twelve : (i : ℕ) → i < length rows → length (get_or rows i []) ≤ 12
      twelve i l = let s : length (get_or rows i [])
          ≡ size K.ring (coeff (polynomials K.ring) (whole K L h c hs cs).coeffs i) =
          row_size i l ∙ ap (λ (t : Poly (polynomials K.ring)).
          size K.ring (coeff (polynomials K.ring) t.coeffs i)) e in
          omega (arith, s, whole_small K L h c hs cs i)

-- a curve in shifted coordinates
pub curve_is_equation : (K : Elements ℕ) (L : Lawful K) (rows : List (List ℕ)) (h : List ℕ)
    (s : K.carrier) (m : ℕ) → IsPlane K rows → length h ≤ 6 → m ≤ 11
    → plane_of K rows ≡ curve K (poly_of K h) s m → IsEquation K rows
curve_is_equation K L rows h s m plane hs few e =
    let small : size K.ring (poly_of K h) ≤ length h =
    poly-size-le K.ring L.laws L.tests K.value h in
    is_equation K L rows plane (poly_of K h) ((polynomials K.ring).neg (right_side K s m))
    (omega (arith, small, hs)) (right_size K L s m few) e

-- a polynomial has no more coefficients than a list that gives it
pub short_poly : (K : Elements ℕ) (L : Lawful K) (r cs : List ℕ) (n : ℕ) → IsPoly K r
    → poly_of K r ≡ poly_of K cs → length cs ≤ n → length r ≤ n
short_poly K L r cs n h e l =
    let whole : size K.ring (poly_of K r) ≡ length r =
    poly-size K.ring L.laws L.tests K.value r h.canonical in
    let same : size K.ring (poly_of K r) ≡ size K.ring (poly_of K cs) = ap (size K.ring) e in
    let most : size K.ring (poly_of K cs) ≤ length cs =
    poly-size-le K.ring L.laws L.tests K.value cs in omega (arith, whole, same, most, l)
