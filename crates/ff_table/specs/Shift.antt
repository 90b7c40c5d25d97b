-- Polynomials over a ring by their lists of coefficients, moved by an element, and their leading
-- polynomials.
use Rattle.std.specs.Prelude.{◌≡◌, ℕ, ◌<◌, List, [], ◌∷◌}
use Rattle.ff_theory.specs.Ring.{RingOps}
use Rattle.ff_theory.specs.Poly.{coeff}
use Rattle.ff_theory.specs.Eval.{eval_list}

-- the value of a list of coefficients
abbrev pub value_at : (R : RingOps) → R.carrier → List R.carrier → R.carrier
value_at R y p = eval_list R (λ c. c) y p

-- h + (a + Z) * p, for a polynomial p in Z
abbrev pub carry : (R : RingOps) → R.carrier → R.carrier → List R.carrier → List R.carrier
carry R a h [] = h ∷ []
carry R a h (x ∷ p) = R.add h (R.mul a x) ∷ carry R a x p

-- the coefficients of p(a + Z)
abbrev pub shift : (R : RingOps) → R.carrier → List R.carrier → List R.carrier
shift R a [] = []
shift R a (h ∷ p) = carry R a h (shift R a p)

-- phi h_0, phi (h_1 * u), phi (h_2 * u * u), ..
abbrev pub leading : {A : Type 0} (R : RingOps) → (R.carrier → A) → R.carrier → List R.carrier
    → List A
leading R phi u [] = []
leading R phi u (h ∷ p) = phi h ∷ leading R (λ a. phi (R.mul a u)) u p

-- a map of R to k that keeps sums, and multiples by elements of k
pub record IsLinear (R k : RingOps) (scale : k.carrier → R.carrier → R.carrier)
    (phi : R.carrier → k.carrier) : Type 0 where
  pub on_add : (a b : R.carrier) → phi (R.add a b) ≡ k.add (phi a) (phi b)
  pub on_scale : (c : k.carrier) (a : R.carrier) → phi (scale c a) ≡ k.mul c (phi a)

-- p is monic of that degree
pub record IsMonicList (R : RingOps) (p : List R.carrier) (degree : ℕ) : Type 0 where
  pub leading : coeff R p degree ≡ R.one
  pub past : (i : ℕ) → degree < i → coeff R p i ≡ R.zero
