-- Zeros that are added to a list, and powers to the characteristic with zeros between.
use Rattle.std.proofs.Common.{◌≡◌, ℕ, zero, suc, ◌+◌, ◌-◌, ◌*◌, ◌<◌, List, [], ◌∷◌, ◌++◌, length}
use Rattle.std.proofs.Common.{map, get_or, take, refl, sym, ◌∙◌, ap, arith, append_assoc}
use Rattle.std.proofs.Common.{length-append}
use Rattle.std.proofs.lemmas.List.{map-append, length-map, length-take-le}
use Rattle.std.proofs.Math.Seq.{take-suc}
use Rattle.ff_theory.specs.Ring.{RingOps, IsCommRing, IsTested, power}
use Rattle.ff_theory.specs.Poly.{coeff, poly, polynomials}
use Rattle.ff_theory.proofs.Coeffs.{poly_ext}
use Rattle.ff_theory.proofs.Frobenius.{HasCharacteristic}
use Rattle.ff_theory.proofs.FrobeniusPoly.{frobenius-push}
use Rattle.ff_theory.proofs.Product.{zeros-push}
use Rattle.ff_elem.specs.Zeros.{AddsZeros}

append-nil : {X : Type 0} (xs : List X) → xs ++ [] ≡ xs
append-nil [] = refl
append-nil (x ∷ xs) = ap (λ t. x ∷ t) (append-nil xs)

module _ (R : RingOps) (laws : IsCommRing R) (tests : IsTested R) {X : Type 0} (f : X → R.carrier)
  where
    pub no-zeros : (old : List X) → AddsZeros R f old old 0
    no-zeros old = record {
      zeros = [];
      added = sym (append-nil old);
      count = refl;
      nothing = λ i.
          refl;
    }

    pub more-zeros : (old list new : List X) (z : X) (n : ℕ) → new ≡ list ++ z ∷ [] → f z ≡ R.zero
        → AddsZeros R f old list n → AddsZeros R f old new (n + 1)
    more-zeros old list new z n push is before = record {
      zeros = before.zeros ++ z ∷ [];
      added = push ∙ ap (λ t. t ++ z ∷ []) before.added ∙ append_assoc old before.zeros (z ∷ []);
      count = length-append before.zeros (z ∷ []) ∙ ap (λ m. m + 1) before.count;
      nothing = zeros-push R laws tests f before.zeros z before.nothing is;
    }

    -- they add none to the sum
    pub zeros-value : (old new : List X) (n : ℕ) → AddsZeros R f old new n → poly R (map f new)
        ≡ poly R (map f old)
    zeros-value old new n h = ap (λ t. poly R (map f t)) h.added
        ∙ poly_ext R laws tests (map f (old ++ h.zeros)) (map f old) (go old)
      where
        go : (old : List X) (i : ℕ) → coeff R (map f (old ++ h.zeros)) i ≡ coeff R (map f old) i
        go [] i = h.nothing i
        go (x ∷ old) zero = refl
        go (x ∷ old) (suc i) = go old i

    pub zeros-length : (old new : List X) (n : ℕ) → AddsZeros R f old new n → length new
        ≡ length old + n
    zeros-length old new n h = ap length h.added ∙ length-append old h.zeros
        ∙ ap (λ m. length old + m) h.count

    -- one entry more, and the zeros that follow it
    pub frobenius-step : (p : ℕ) → HasCharacteristic (polynomials R) p
        → (xs list mid new : List X) (i : ℕ) (x c : X) → i < length xs → x ≡ get_or xs i x → mid
        ≡ list ++ c ∷ [] → AddsZeros R f mid new (p - 1) → f c ≡ power R (f x) p
        → length list ≡ p * i → poly R (map f list)
        ≡ power (polynomials R) (poly R (map f (take i xs))) p
        → (length new ≡ p * (i + 1)) × (poly R (map f new) ≡ power (polynomials R) (poly R (map f
        (take (i + 1) xs))) p)
    frobenius-step p char xs list mid new i x c l e push zeros is len before = (
      count,
      ap (λ t. poly R (map f t)) whole ∙ ap (poly R) (map-append f list (c ∷ zeros.zeros))
          ∙ frobenius-push R laws tests p char (map f (take i xs)) (map f list) (map f zeros.zeros)
          (f x) (f c) long zeros.nothing before is
          ∙ ap (λ t. power (polynomials R) (poly R t) p) front,
    )
      where
        whole : new ≡ list ++ c ∷ zeros.zeros
        whole = zeros.added ∙ ap (λ t. t ++ zeros.zeros) push
            ∙ append_assoc list (c ∷ []) zeros.zeros

        count : length new ≡ p * (i + 1)
        count = let a : length new ≡ length list + suc (length zeros.zeros) = ap length whole
            ∙ length-append list (c ∷ zeros.zeros) in let z = zeros.count in let pos = char.positive
            in omega (arith, a, z, pos, len)

        long : length (map f list) ≡ p * length (map f (take i xs))
        long = length-map list f ∙ len
            ∙ ap (λ m. p * m) (sym (length-map (take i xs) f ∙ length-take-le i xs (omega arith)))

        front : map f (take i xs) ++ f x ∷ [] ≡ map f (take (i + 1) xs)
        front = sym (ap (λ m. map f (take m xs)) (let n : i + 1 ≡ suc i = omega arith in n)
            ∙ ap (map f) (take-suc xs i x l ∙ ap (λ q. take i xs ++ q ∷ []) (sym e))
            ∙ map-append f (take i xs) (x ∷ []))
