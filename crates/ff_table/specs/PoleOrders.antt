-- Orders of poles at one point, as they are used: spaces L_0, L_1, .. of elements of a ring.
use Rattle.std.specs.Prelude.{◌≡◌, ℕ, zero, suc, ◌+◌, ◌≤◌, ◌⊎◌}
use Rattle.ff_theory.specs.Ring.{RingOps}
use Rattle.ff_theory.specs.Map.{IsMap}

module _ (k A : RingOps) (constant : k.carrier → A.carrier) (L : ℕ → A.carrier → Type 0) where
  -- a is in L_(j-1), where L_(-1) has 0 alone
  abbrev pub IsLess : ℕ → A.carrier → Type 0
  IsLess zero a = a ≡ A.zero
  IsLess (suc j) a = L j a

  -- a is in L_j and not in L_(j-1)
  pub record HasOrderOf (j : ℕ) (a : A.carrier) : Type 0 where
    pub up_to : L j a
    pub not_less : ¬ IsLess j a

  -- the spaces grow, L_0 are the constants, and orders of products add up
  pub record ArePoleSpaces : Type 0 where
    pub constants : IsMap k A constant
    pub proper : ¬ (A.one ≡ A.zero)
    pub in_first : (c : k.carrier) → L 0 (constant c)
    pub more : (i j : ℕ) (a : A.carrier) → i ≤ j → L i a → L j a
    pub add : (j : ℕ) (a b : A.carrier) → L j a → L j b → L j (A.add a b)
    pub mul : (i j : ℕ) (a b : A.carrier) → L i a → L j b → L (i + j) (A.mul a b)
    pub exact : (i j : ℕ) (a b : A.carrier) → HasOrderOf i a → HasOrderOf j b
        → HasOrderOf (i + j) (A.mul a b)

  -- each space has one dimension more than the one before it, at most
  pub record AreSteps : Type 0 where
    pub only : (a : A.carrier) → L 0 a → (c : k.carrier) × (a ≡ constant c)
    pub next : (j : ℕ) (a b : A.carrier) → L (suc j) a → HasOrderOf (suc j) b
        → (c : k.carrier) × L j (A.add a (A.neg (A.mul (constant c) b)))
    pub decide : (j : ℕ) (a : A.carrier) → L (suc j) a → L j a ⊎ ¬ (L j a)
