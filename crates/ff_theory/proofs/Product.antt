-- Products of polynomials as sums over coefficients.
use Rattle.std.proofs.Common.{◌≡◌, ℕ, zero, suc, ◌<◌, ◌≤◌, List, [], ◌∷◌, ◌++◌, length, map, get_or}
use Rattle.std.proofs.Common.{take, refl, sym, ◌∙◌, ap, arith}
use Rattle.std.proofs.lemmas.List.{take_all}
use Rattle.ff_theory.specs.Ring.{RingOps, IsCommRing, IsTested, power}
use Rattle.ff_theory.specs.Poly.{coeff, Poly, poly, polynomials, list_scale}
use Rattle.ff_theory.proofs.Solver.{◌⊕◌, ◌⊗◌, nil, unit, ring1, ring2, ring4, zero_add}
use Rattle.ff_theory.proofs.Poly.{trim-coeff, polynomial_laws, scale-coeff}
use Rattle.ff_theory.proofs.Coeffs.{poly_ext, add_by_coeffs}
use Rattle.ff_theory.specs.Monomial.{raised, monomial, variable}
use Rattle.ff_theory.proofs.Monomial.{monomial-mul}

module _ (R : RingOps) (laws : IsCommRing R) (tests : IsTested R) where
  PL : IsCommRing (polynomials R)
  PL = polynomial_laws R laws tests

  pub poly-coeff : (p : List R.carrier) (i : ℕ) → coeff R (poly R p).coeffs i ≡ coeff R p i
  unfolding poly
  poly-coeff p i = trim-coeff R laws tests p i

  -- equal polynomials have equal coefficients
  pub coeff_of : (p q : List R.carrier) → poly R p ≡ poly R q → (i : ℕ) → coeff R p i ≡ coeff R q i
  coeff_of p q e i = sym (poly-coeff p i) ∙ ap (λ (t : Poly R). coeff R t.coeffs i) e
      ∙ poly-coeff q i

  -- the first n + 1 entries are the first n and a monomial
  pub take-suc : {E : Type 0} (f : E → R.carrier) (p : List E) (n m : ℕ) (x : E) → n < length p → x
      ≡ get_or p n x → m ≡ suc n → poly R (map f (take m p))
      ≡ (polynomials R).add (poly R (map f (take n p))) (monomial R (f x) n)
  take-suc {E = E} f p n m x l e k = ap (λ m. poly R (map f (take m p))) k
      ∙ add_by_coeffs R laws tests (map f (take n p)) (raised R n (f x ∷ []))
      (map f (take (suc n) p)) (go p n l (ap f (sym e)))
    where
      go : (p : List E) (n : ℕ) → n < length p → f (get_or p n x) ≡ f x → (i : ℕ)
          → coeff R (map f (take (suc n) p)) i
          ≡ R.add (coeff R (map f (take n p)) i) (coeff R (raised R n (f x ∷ [])) i)
      go [] n l h i = absurd (omega arith)
      go (a ∷ p) zero l h zero = h ∙ sym (zero_add R laws (f x))
      go (a ∷ p) zero l h (suc i) = sym (laws.add_zero R.zero)
      go (a ∷ p) (suc n) l h zero = sym (laws.add_zero (f a))
      go (a ∷ p) (suc n) l h (suc i) = go p n (omega arith) h i

  -- a product taken row by row
  pub rows-start : {E : Type 0} (f : E → R.carrier) (s b : Poly R) (p : List E) → s
      ≡ (polynomials R).add s ((polynomials R).mul (poly R (map f (take 0 p))) b)
  rows-start f s b p = ring2 (polynomials R) PL (λ s b. s) (λ s b. s ⊕ nil ⊗ b) refl s b

  pub rows-step : (old s t m a c b : Poly R) → t ≡ (polynomials R).add s ((polynomials R).mul m b)
      → s ≡ (polynomials R).add old ((polynomials R).mul a b) → c ≡ (polynomials R).add a m
      → t ≡ (polynomials R).add old ((polynomials R).mul c b)
  rows-step old s t m a c b ht hs hc = ht
      ∙ ap (λ u. (polynomials R).add u ((polynomials R).mul m b)) hs
      ∙ ring4 (polynomials R) PL (λ o a b m. (o ⊕ a ⊗ b) ⊕ m ⊗ b) (λ o a b m. o ⊕ (a ⊕ m) ⊗ b) refl
      old a b m ∙ ap (λ u. (polynomials R).add old ((polynomials R).mul u b)) (sym hc)

  pub rows-end : {E : Type 0} (f : E → R.carrier) (old s b : Poly R) (p : List E) (n : ℕ)
      → length p ≤ n → s ≡ (polynomials R).add old ((polynomials R).mul (poly R (map f (take n p)))
      b)
      → s ≡ (polynomials R).add old ((polynomials R).mul (poly R (map f p)) b)
  rows-end f old s b p n l h = h
      ∙ ap (λ q. (polynomials R).add old ((polynomials R).mul (poly R (map f q)) b))
      (take_all n p l)

  pub add_mul_comm : (s a b : Poly R) → (polynomials R).add s ((polynomials R).mul b a)
      ≡ (polynomials R).add s ((polynomials R).mul a b)
  add_mul_comm s a b = ap ((polynomials R).add s) (PL.mul_comm b a)

  -- zeros, one after another
  pub zeros-push : {E : Type 0} (f : E → R.carrier) (p : List E) (y : E)
      → ((i : ℕ) → coeff R (map f p) i ≡ R.zero) → f y ≡ R.zero → (i : ℕ)
      → coeff R (map f (p ++ y ∷ [])) i ≡ R.zero
  zeros-push f [] y h e zero = e
  zeros-push f [] y h e (suc i) = refl
  zeros-push f (x ∷ p) y h e zero = h zero
  zeros-push f (x ∷ p) y h e (suc i) = zeros-push f p y (λ i. h (suc i)) e i

  pub zeros_poly : (p : List R.carrier) → ((i : ℕ) → coeff R p i ≡ R.zero) → poly R p
      ≡ (polynomials R).zero
  zeros_poly p h = poly_ext R laws tests p [] h

  pub add_to_zeros : (s a b : Poly R) → s ≡ (polynomials R).zero
      → (polynomials R).add s ((polynomials R).mul a b) ≡ (polynomials R).mul a b
  add_to_zeros s a b e = ap (λ t. (polynomials R).add t ((polynomials R).mul a b)) e
      ∙ zero_add (polynomials R) PL ((polynomials R).mul a b)

  pub zero_times : (b : Poly R) → (polynomials R).zero ≡ (polynomials R).mul (polynomials R).zero b
  zero_times b = ring1 (polynomials R) PL (λ b. nil) (λ b. nil ⊗ b) refl b

  pub times_zero : (a : Poly R) → (polynomials R).zero ≡ (polynomials R).mul a (polynomials R).zero
  times_zero a = ring1 (polynomials R) PL (λ a. nil) (λ a. a ⊗ nil) refl a

  -- times x, and times a power of x
  variable-mul : (p : List R.carrier) → (polynomials R).mul (variable R) (poly R p)
      ≡ poly R (R.zero ∷ p)
  variable-mul p = monomial-mul R laws tests 1 R.one p
      ∙ poly_ext R laws tests (R.zero ∷ list_scale R R.one p) (R.zero ∷ p) go
    where
      go : (i : ℕ) → coeff R (R.zero ∷ list_scale R R.one p) i ≡ coeff R (R.zero ∷ p) i
      go zero = refl
      go (suc i) = scale-coeff R laws tests R.one p i ∙ ring1 R laws (λ a. unit ⊗ a) (λ a. a) refl
          (coeff R p i)

  pub power-mul : (n : ℕ) (p : List R.carrier)
      → (polynomials R).mul (power (polynomials R) (variable R) n) (poly R p)
      ≡ poly R (raised R n p)
  power-mul zero p = ring1 (polynomials R) PL (λ a. unit ⊗ a) (λ a. a) refl (poly R p)
  power-mul (suc n) p = PL.mul_assoc (variable R) (power (polynomials R) (variable R) n) (poly R p)
      ∙ ap ((polynomials R).mul (variable R)) (power-mul n p) ∙ variable-mul (raised R n p)

  -- zeros put before a list
  pub zeros_before : {E : Type 0} (f : E → R.carrier) (z p r : List E) (n : ℕ) → r ≡ z ++ p
      → length z ≡ n → poly R (map f z) ≡ (polynomials R).zero
      → poly R (map f r) ≡ (polynomials R).mul (power (polynomials R) (variable R) n)
      (poly R (map f p))
  zeros_before {E = E} f z p r n e l h = ap (λ r. poly R (map f r)) e
      ∙ poly_ext R laws tests (map f (z ++ p)) (raised R n (map f p))
      (go z n l (λ i. coeff_of (map f z) [] h i)) ∙ sym (power-mul n (map f p))
    where
      go : (z : List E) (n : ℕ) → length z ≡ n → ((i : ℕ) → coeff R (map f z) i ≡ R.zero) → (i : ℕ)
          → coeff R (map f (z ++ p)) i ≡ coeff R (raised R n (map f p)) i
      go [] zero l h i = refl
      go [] (suc n) l h i = absurd (omega arith)
      go (x ∷ z) zero l h i = absurd (omega arith)
      go (x ∷ z) (suc n) l h zero = h zero
      go (x ∷ z) (suc n) l h (suc i) = go z n (omega arith) (λ i. h (suc i)) i
