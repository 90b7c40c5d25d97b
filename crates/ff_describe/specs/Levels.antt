-- The elements z^a * b_l within a weight, class by class, for an equation f over a field whose laws
-- are L. This project's own.
use Rattle.std.specs.Prelude.{◌≡◌, ℕ, zero, suc, ◌+◌, ◌*◌, ◌<◌, ◌≤◌, ◌↔◌, List, length, get_or}
use Rattle.ff_theory.specs.Ring.{Elements, power}
use Rattle.ff_theory.specs.Lawful.{Lawful}
use Rattle.ff_elem.specs.declared.elem.Elem.{Elem}
use Rattle.ff_elem.specs.Elem.{algebra_in, elem_of}
use Rattle.ff_data.specs.Combinations.{AreElems, elems_of}

-- exactly the powers of z below n have, times an element of weight m, a weight within the bound
abbrev pub IsCount : ℕ → ℕ → ℕ → ℕ → Type 0
IsCount e m bound n = (d : ℕ) → (d < n) ↔ (e * d + m ≤ bound)

-- such a number for each weight
pub record AreCounts (e bound : ℕ) (weights counts : List ℕ) : Type 0 where
  pub count : length counts ≡ length weights
  pub each : (l : ℕ) → l < length weights
      → IsCount e (get_or weights l 0) bound (get_or counts l 0)

-- the sum of the first m counts
abbrev pub offset : List ℕ → ℕ → ℕ
offset counts zero = 0
offset counts (suc m) = offset counts m + get_or counts m 0

-- how many products b_i * b_j there are with i up to j, and j below m
abbrev pub triangle : ℕ → ℕ
triangle zero = 0
triangle (suc m) = triangle m + suc m

module _ {F : Elements ℕ} (L : Lawful F) (f : List (List ℕ)) where
  -- z^a * w
  abbrev pub raised : Elem → Elem → ℕ → (algebra_in L f).carrier
  raised z w a = (algebra_in L f).mul (power (algebra_in L f) (elem_of L f z) a) (elem_of L f w)

  -- b_i * b_j
  abbrev pub product_of : List Elem → ℕ → ℕ → (algebra_in L f).carrier
  product_of b i j = (algebra_in L f).mul (elems_of L f b i) (elems_of L f b j)

  -- the old elements, and then v 0, .., v (n - 1)
  pub record Extends (old : List Elem) (n : ℕ) (v : ℕ → (algebra_in L f).carrier)
      (new : List Elem) : Type 0 where
    pub elems : AreElems L f new
    pub len : length new ≡ length old + n
    pub before : (i : ℕ) → i < length old → elems_of L f new i ≡ elems_of L f old i
    pub value : (a : ℕ) → a < n → elems_of L f new (length old + a) ≡ v a

  -- the old elements, and then for each l below m the first powers of z times b_l
  pub record HasLevels (old : List Elem) (z : Elem) (b : List Elem) (counts : List ℕ) (m : ℕ)
      (new : List Elem) : Type 0 where
    pub elems : AreElems L f new
    pub len : length new ≡ length old + offset counts m
    pub before : (i : ℕ) → i < length old → elems_of L f new i ≡ elems_of L f old i
    pub value : (l a : ℕ) → l < m → a < get_or counts l 0
        → elems_of L f new (length old + (offset counts l + a))
        ≡ (algebra_in L f).mul (power (algebra_in L f) (elem_of L f z) a) (elems_of L f b l)

  -- the products b_i * b_j with i up to j, for each j below m
  pub record AreProducts (b : List Elem) (m : ℕ) (list : List Elem) : Type 0 where
    pub elems : AreElems L f list
    pub len : length list ≡ triangle m
    pub value : (i j : ℕ) → i ≤ j → j < m → elems_of L f list (triangle j + i) ≡ product_of b i j

  -- z^m * w, .., z * w, w
  pub record AreDescending (z w : Elem) (m : ℕ) (list : List Elem) : Type 0 where
    pub elems : AreElems L f list
    pub len : length list ≡ suc m
    pub value : (i j : ℕ) → i + j ≡ m → elems_of L f list i ≡ raised z w j
