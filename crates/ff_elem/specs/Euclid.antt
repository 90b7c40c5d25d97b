-- Euclid's algorithm on an equation f and an element of E(f), without fractions.
use Rattle.std.specs.Prelude.{◌≡◌, ℕ, ◌<◌, ◌≤◌, ◌-◌, List, [], get_or, length, false}
use Rattle.ff_theory.specs.Ring.{Elements}
use Rattle.ff_theory.specs.Lawful.{Lawful}
use Rattle.ff_theory.specs.Poly.{Poly}
use Rattle.ff_theory.specs.Values.{plane_of, polys_over, planes_over, IsPlane}
use Rattle.ff_theory.specs.Planes.{row_of}
use Rattle.ff_elem.specs.Elem.{algebra_in, plane_in}
use Rattle.ff_elem.specs.declared.euclid.Multiple.{Multiple}

-- the last row
abbrev pub top : List (List ℕ) → List ℕ
top rows = get_or rows (length rows - 1) []

module _ (F : Elements ℕ) where
  -- both parts are polynomials in x and y
  pub record ArePlanes (m : Multiple) : Type 0 where
    pub value : IsPlane F m.value
    pub factor : IsPlane F m.factor

  -- g * next is e * last + q * by for some q and some g and e in x that are not 0,
  -- for the values and for the factors
  pub record IsStep (last by next : Multiple) : Type 0 where
    pub g : Poly F.ring
    pub g_nonzero : (polys_over F).same g (polys_over F).zero ≡ false
    pub e : Poly F.ring
    pub e_nonzero : (polys_over F).same e (polys_over F).zero ≡ false
    pub q : Poly (polys_over F)
    pub values : (planes_over F).mul (row_of F.ring g) (plane_of F next.value)
        ≡ (planes_over F).add ((planes_over F).mul (row_of F.ring e) (plane_of F last.value))
        ((planes_over F).mul q (plane_of F by.value))
    pub factors : (planes_over F).mul (row_of F.ring g) (plane_of F next.factor)
        ≡ (planes_over F).add ((planes_over F).mul (row_of F.ring e) (plane_of F last.factor))
        ((planes_over F).mul q (plane_of F by.factor))

  -- c * f is d * h * g for some c and d in x that are not 0
  pub record AreCofactors (f g h : List (List ℕ)) : Type 0 where
    pub c : Poly F.ring
    pub c_nonzero : (polys_over F).same c (polys_over F).zero ≡ false
    pub d : Poly F.ring
    pub d_nonzero : (polys_over F).same d (polys_over F).zero ≡ false
    pub product : (planes_over F).mul (row_of F.ring c) (plane_of F f)
        ≡ (planes_over F).mul (row_of F.ring d)
        ((planes_over F).mul (plane_of F h) (plane_of F g))

module _ {F : Elements ℕ} (L : Lawful F) (f a : List (List ℕ)) where
  -- The end of the algorithm: the value is the product of the factor and a, and has one row at
  -- most; where it has none, the factor is not 0 and has fewer rows than f.
  pub record IsEnd (m : Multiple) : Type 0 where
    pub planes : ArePlanes F m
    pub short : length m.value ≤ 1
    pub value : (algebra_in L f).mul (plane_in L f m.factor) (plane_in L f a)
        ≡ plane_in L f m.value
    pub divisor : length m.value ≡ 0 → (0 < length m.factor) × (length m.factor < length f)

  -- The last two multiples: the value before the last one has positive degree in y; where the last
  -- one is 0, that value and the last factor are cofactors of f.
  pub record AreLast (before last : Multiple) : Type 0 where
    pub planes : ArePlanes F before
    pub has_y : 1 < length before.value
    pub end : IsEnd last
    pub cofactors : length last.value ≡ 0 → AreCofactors F f before.value last.factor
