-- Polynomials in z at alpha * z + beta, and combinations and quotients of coordinates.
use Rattle.std.specs.Prelude.{◌≡◌, ℕ, ◌<◌, List, [], ◌∷◌, length, map, get_or}
use Rattle.ff_theory.specs.Ring.{Elements, power}
use Rattle.ff_theory.specs.Poly.{Poly, poly}
use Rattle.ff_theory.specs.Sum.{sum_below}
use Rattle.ff_theory.specs.Eval.{eval, eval_list}
use Rattle.ff_theory.specs.Divides.{Divides}
use Rattle.ff_theory.specs.Monomial.{variable}
use Rattle.ff_theory.specs.Values.{poly_of, polys_over, ArePolys}
use Rattle.ff_ring.specs.Entries.{entry_at}

-- the polynomial c * z ^ n
abbrev pub term_poly : (F : Elements ℕ) → ℕ → ℕ → Poly F.ring
term_poly F c n = (polys_over F).mul (power (polys_over F) (variable F.ring) n)
    (poly F.ring (F.value c ∷ []))

-- the value at y of the polynomial with a list of coefficients
abbrev pub value_of_list : (F : Elements ℕ) → Poly F.ring → List ℕ → Poly F.ring
value_of_list F y p = eval_list (polys_over F) (λ c. poly F.ring (c ∷ [])) y (map F.value p)

-- the polynomial alpha * z + beta, and p at it
abbrev pub line : (F : Elements ℕ) → ℕ → ℕ → Poly F.ring
line F alpha beta = poly_of F (beta ∷ alpha ∷ [])

abbrev pub affine_at : (F : Elements ℕ) → ℕ → ℕ → Poly F.ring → Poly F.ring
affine_at F alpha beta p = eval F.ring (polys_over F) (λ c. poly F.ring (c ∷ []))
    (line F alpha beta) p

-- coordinate h of the sum of the products of c_l(alpha * z + beta), l < n, and entry l of the list
abbrev pub sum_at_line : (F : Elements ℕ) → ℕ → ℕ → List (List ℕ) → List (List (List ℕ)) → ℕ → ℕ
    → Poly F.ring
sum_at_line F alpha beta c list n h = sum_below (polys_over F) n (λ l.
    (polys_over F).mul (affine_at F alpha beta (entry_at F c l)) (entry_at F (get_or list l []) h))

-- the quotients of the first n polynomials by q
pub record AreQuotients (F : Elements ℕ) (a : List (List ℕ)) (q : List ℕ) (n : ℕ)
    (c : List (List ℕ)) : Type 0 where
  pub each : ArePolys F c
  pub count : length c ≡ n
  pub value : (l : ℕ) → l < n
      → entry_at F a l ≡ (polys_over F).mul (entry_at F c l) (poly_of F q)

-- q divides each of the polynomials
abbrev pub DividesEach : (F : Elements ℕ) → List (List ℕ) → List ℕ → Type 0
DividesEach F a q = (l : ℕ) → l < length a
    → Divides (polys_over F) (poly_of F q) (entry_at F a l)
