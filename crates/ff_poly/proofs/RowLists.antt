use Rattle.std.proofs.Common.{◌≡◌, ℕ, zero, suc, ◌+◌, ◌-◌, ◌<◌, ◌≤◌, max, List, [], ◌∷◌, length}
use Rattle.std.proofs.Common.{map, get_or, take, refl, sym, ◌∙◌, ap, ap₂, arith, All}
use Rattle.std.proofs.lemmas.Grind.{common_steps}
use Rattle.std.specs.Ordering.{ord_max}
use Rattle.std.proofs.Common.{nat_cmp}
use Rattle.ff_theory.specs.Ring.{RingOps, IsCommRing, IsTested, Elements, IsElement}
use Rattle.ff_theory.specs.Poly.{coeff, poly, polynomials, list_scale}
use Rattle.ff_theory.specs.Sum.{sum_below}
use Rattle.ff_theory.proofs.Series.{series_mul}
use Rattle.ff_theory.proofs.Sums.{series_mul-sum}
use Rattle.ff_theory.proofs.Poly.{polynomial_laws}
use Rattle.ff_theory.specs.Values.{poly_of, IsPoly, x_size}
use Rattle.ff_theory.proofs.Monomial.{monomial-mul}
use Rattle.ff_poly.proofs.Negative.{neg_by_coeffs, neg-zero}

-- the row read at a place, none past the end
pub row-length : {E : Type 0} (rows : List (List E)) (i : ℕ)
    → length (get_or rows i []) ≤ x_size rows
row-length [] i = omega arith
row-length (p ∷ rows) zero = omega arith
row-length (p ∷ rows) (suc i) = omega (arith, row-length rows i)

pub item-length : {E : Type 0} (rows : List (List E)) (i : ℕ) (p : List E) → i < length rows → p
    ≡ get_or rows i p → length p ≤ x_size rows
item-length {E = E} rows i p l e = let h : length (get_or rows i p) ≤ x_size rows = go rows i l in
    omega (arith, h, ap length e)
  where
    go : (rows : List (List E)) (i : ℕ) → i < length rows → length (get_or rows i p) ≤ x_size rows
    go [] i l = absurd (omega arith)
    go (q ∷ rows) zero l = omega arith
    go (q ∷ rows) (suc i) l = omega (arith, go rows i (omega arith))

pub ord_max-max : (a b : ℕ) → ord_max nat_cmp a b ≡ max a b
ord_max-max a b = grind (arith, common_steps)

pub x_size-take : {E : Type 0} (rows : List (List E)) (i m : ℕ) (d : List E) → i < length rows → m
    ≡ suc i → max (x_size (take i rows)) (length (get_or rows i d)) ≡ x_size (take m rows)
x_size-take {E = E} rows i m d l e = go rows i l ∙ ap (λ n. x_size (take n rows)) (sym e)
  where
    go : (rows : List (List E)) (i : ℕ) → i < length rows
        → max (x_size (take i rows)) (length (get_or rows i d)) ≡ x_size (take (suc i) rows)
    go [] i l = absurd (omega arith)
    go (p ∷ rows) zero l = omega arith
    go (p ∷ rows) (suc i) l = omega (arith, go rows i (omega arith))

module _ {E : Type 0} (K : Elements E) where
  pub row-value : (rows : List (List E)) (i : ℕ) → poly_of K (get_or rows i [])
      ≡ coeff (polynomials K.ring) (map (λ p. poly_of K p) rows) i
  row-value [] i = refl
  row-value (p ∷ rows) zero = refl
  row-value (p ∷ rows) (suc i) = row-value rows i

  pub row-each : (rows : List (List E)) (i : ℕ) → All (λ p. IsPoly K p) rows
      → All (IsElement K) (get_or rows i [])
  row-each [] i h = λ k d l. absurd (omega arith)
  row-each (p ∷ rows) zero h = (h zero [] (omega arith)).each
  row-each (p ∷ rows) (suc i) h = row-each rows i (λ k d l. h (suc k) d (omega arith))

  -- row i of a product, summed up by its index
  pub product-step : IsCommRing K.ring → IsTested K.ring
      → (a b : List (List E)) (i j m : ℕ) (o s t : List E) → m ≡ suc j
      → poly_of K t ≡ (polynomials K.ring).add (poly_of K s)
      ((polynomials K.ring).mul (poly_of K (get_or a j [])) (poly_of K (get_or b (i - j) [])))
      → poly_of K s ≡ (polynomials K.ring).add (poly_of K o)
      (sum_below (polynomials K.ring) j (λ j. (polynomials K.ring).mul
      (coeff (polynomials K.ring) (map (λ p. poly_of K p) a) j)
      (coeff (polynomials K.ring) (map (λ p. poly_of K p) b) (i - j))))
      → poly_of K t ≡ (polynomials K.ring).add (poly_of K o)
      (sum_below (polynomials K.ring) m (λ j. (polynomials K.ring).mul
      (coeff (polynomials K.ring) (map (λ p. poly_of K p) a) j)
      (coeff (polynomials K.ring) (map (λ p. poly_of K p) b) (i - j))))
  product-step laws tests a b i j m o s t e ht hs =
      ht ∙ ap₂ (polynomials K.ring).add hs
      (ap₂ (polynomials K.ring).mul (row-value a j) (row-value b (i - j)))
      ∙ (polynomial_laws K.ring laws tests).add_assoc (poly_of K o) _ _
      ∙ ap (λ n. (polynomials K.ring).add (poly_of K o)
      (sum_below (polynomials K.ring) n (λ j. (polynomials K.ring).mul
      (coeff (polynomials K.ring) (map (λ p. poly_of K p) a) j)
      (coeff (polynomials K.ring) (map (λ p. poly_of K p) b) (i - j))))) (sym e)

  pub product_row : IsCommRing K.ring → IsTested K.ring → (a b : List (List E)) (i : ℕ) (r : List E)
      → poly_of K r ≡ sum_below (polynomials K.ring) (i + 1)
      (λ j. (polynomials K.ring).mul (coeff (polynomials K.ring) (map (λ p. poly_of K p) a) j)
      (coeff (polynomials K.ring) (map (λ p. poly_of K p) b) (i - j)))
      → poly_of K r ≡ series_mul (polynomials K.ring)
      (coeff (polynomials K.ring) (map (λ p. poly_of K p) a))
      (coeff (polynomials K.ring) (map (λ p. poly_of K p) b)) i
  product_row laws tests a b i r h =
      h ∙ ap (λ n. sum_below (polynomials K.ring) n
      (λ j. (polynomials K.ring).mul (coeff (polynomials K.ring) (map (λ p. poly_of K p) a) j)
      (coeff (polynomials K.ring) (map (λ p. poly_of K p) b) (i - j))))
      (let e : i + 1 ≡ suc i = omega arith in e)
      ∙ sym (series_mul-sum (polynomials K.ring) (polynomial_laws K.ring laws tests)
      (coeff (polynomials K.ring) (map (λ p. poly_of K p) a))
      (coeff (polynomials K.ring) (map (λ p. poly_of K p) b)) i)

-- a list of which each entry is the negative of an entry
module _ (R : RingOps) (laws : IsCommRing R) (tests : IsTested R) where
  pub neg_by_map : {A B : Type 0} (f : A → R.carrier) (g : B → R.carrier) (p : List A) (q : List B)
      → map g q ≡ map (λ a. R.neg (f a)) p → poly R (map g q)
      ≡ (polynomials R).neg (poly R (map f p))
  neg_by_map {A = A} f g p q e = neg_by_coeffs R laws tests (map f p) (map g q)
      (λ i. ap (λ t. coeff R t i) e ∙ go p i)
    where
      go : (p : List A) (i : ℕ) → coeff R (map (λ a. R.neg (f a)) p) i ≡ R.neg (coeff R (map f p) i)
      go [] i = sym (neg-zero R laws)
      go (a ∷ p) zero = refl
      go (a ∷ p) (suc i) = go p i

  -- and one of which each entry is c times an entry
  pub mul_by_map : {A B : Type 0} (f : A → R.carrier) (g : B → R.carrier) (c : R.carrier)
      (p : List A) (q : List B) → map g q ≡ map (λ a. R.mul c (f a)) p
      → poly R (map g q) ≡ (polynomials R).mul (poly R (c ∷ [])) (poly R (map f p))
  mul_by_map {A = A} f g c p q e = ap (poly R) (e ∙ go p)
      ∙ sym (monomial-mul R laws tests 0 c (map f p))
    where
      go : (p : List A) → map (λ a. R.mul c (f a)) p ≡ list_scale R c (map f p)
      go [] = refl
      go (a ∷ p) = ap (λ t. R.mul c (f a) ∷ t) (go p)
