-- Meets and sums of spaces are exact.
use Rattle.std.proofs.Common.{◌≡◌, ℕ, zero, suc, ◌+◌, ◌<◌, ◌↔◌, List, [], ◌++◌, length, map, refl}
use Rattle.std.proofs.Common.{sym, ◌∙◌, ap, arith, subst}
use Rattle.std.proofs.lemmas.Bool.{cond_below, cond_above}
use Rattle.std.proofs.lemmas.List.{get_or_append_left, get_or-append-add, length-append, length-map}
use Rattle.std.proofs.Math.Dec.{ltb}
use Rattle.std.proofs.Math.Bool.{cond}
use Rattle.ff_theory.specs.Ring.{RingOps, IsCommRing, Elements}
use Rattle.ff_theory.specs.Sum.{sum_below}
use Rattle.ff_theory.proofs.Sums.{sum-ext}
use Rattle.ff_theory.proofs.Solver.{◌⊕◌, ◌⊗◌, unit, ring2}
use Rattle.ff_theory.specs.Span.{combination, EndsAt, InSpan, SameSpan}
use Rattle.ff_theory.specs.Vector.{vector_of, vectors_of, combination_of}
use Rattle.ff_lin.specs.Space.{SpaceParts, InSpace, HasExactly, SameSpace, IsSum, combinations_of}
use Rattle.ff_theory.proofs.Span.{span-same, span-inside, span-one, span-more}
use Rattle.ff_lin.proofs.Kernel.{product-combination}

module _ (R : RingOps) (laws : IsCommRing R) where
  infixl 60 ◌⊞◌
  infixl 70 ◌*◌
  open R use {add as ◌⊞◌, mul as ◌*◌, carrier as C}

  pub sum-split : (q n : ℕ) (f : ℕ → C) → sum_below R (q + n) f
      ≡ sum_below R q f ⊞ sum_below R n (λ i. f (q + i))
  sum-split q zero f = ap (λ k. sum_below R k f) (let e : q + zero ≡ q = omega arith in e)
      ∙ sym (laws.add_zero (sum_below R q f))
  sum-split q (suc n) f = ap (λ k. sum_below R k f)
      (let e : q + suc n ≡ suc (q + n) = omega arith in e)
      ∙ ap (λ t. t ⊞ f (q + n)) (sum-split q n f)
      ∙ laws.add_assoc (sum_below R q f) (sum_below R n (λ i. f (q + i))) (f (q + n))

  -- the first r entries, and zeros
  abbrev pub cut : ℕ → (ℕ → C) → ℕ → C
  cut r c i = cond (ltb i r) (c i) R.zero

  pub cut-below : (r : ℕ) (c : ℕ → C) (i : ℕ) → i < r → cut r c i ≡ c i
  cut-below r c i l = sym (cond_below i r (c i) R.zero l)

  pub cut-ends : (r : ℕ) (c : ℕ → C) → EndsAt R r (cut r c)
  cut-ends r c i l = sym (cond_above i r (c i) R.zero R.zero l refl)

  pub combination-cut : (r : ℕ) (c : ℕ → C) (w : ℕ → ℕ → C) (j : ℕ) → combination R r (cut r c) w j
      ≡ combination R r c w j
  combination-cut r c w j = sum-ext R laws r (λ i. cut r c i * w i j) (λ i. c i * w i j)
      (λ i l. ap (λ t. t * w i j) (cut-below r c i l))

  pub combination-combination : (r q : ℕ) (e : ℕ → C) (d u : ℕ → ℕ → C) (j : ℕ)
      → combination R r (combination R q e d) u j
      ≡ combination R q e (λ l. combination R r (d l) u) j
  combination-combination r q e d u j = product-combination R laws r q e d (λ i. u i j)

module _ (K : Elements ℕ) (laws : IsCommRing K.ring) where
  -- the combinations of the basis of a whose coefficients give vectors of b span the common vectors
  pub meet-exact : (a b c s : SpaceParts) → c.len ≡ length a.basis
      → HasExactly K c (λ v. InSpace K b (combination_of K a.basis v))
      → SameSpan K.ring (length s.basis) (vectors_of K s.basis) (length c.basis)
      (combinations_of K a.basis c.basis) → (v : ℕ → K.carrier)
      → InSpace K s v ↔ (InSpace K a v × InSpace K b v)
  meet-exact a b c s len exact same v = (λ h. let k = into h in (in_a k, in_b k), λ h. out h.0 h.1)
    where
      into : InSpace K s v → InSpan K.ring (length c.basis) (combinations_of K a.basis c.basis) v
      into = span-inside K.ring laws (length s.basis) (vectors_of K s.basis) (length c.basis)
          (combinations_of K a.basis c.basis) v same.into

      in_a : InSpan K.ring (length c.basis) (combinations_of K a.basis c.basis) v → InSpace K a v
      in_a = span-inside K.ring laws (length c.basis) (combinations_of K a.basis c.basis)
          (length a.basis) (vectors_of K a.basis) v
          (λ i l. record { coefficients = vectors_of K c.basis i; sum = λ j. refl })

      in_b : InSpan K.ring (length c.basis) (combinations_of K a.basis c.basis) v → InSpace K b v
      in_b = span-inside K.ring laws (length c.basis) (combinations_of K a.basis c.basis)
          (length b.basis) (vectors_of K b.basis) v
          (λ i l. ((exact (vectors_of K c.basis i)).0
          (span-one K.ring laws (length c.basis) (vectors_of K c.basis) i l)).1)

      out : InSpace K a v → InSpace K b v → InSpace K s v
      out h k = span-inside K.ring laws (length c.basis) (combinations_of K a.basis c.basis)
          (length s.basis) (vectors_of K s.basis) v same.back (record {
            coefficients = e.coefficients;
            sum = λ j. is j ∙ sum-ext K.ring laws (length a.basis)
                (λ i. K.mul (d i) (vectors_of K a.basis i j))
                (λ i. K.mul (combination K.ring (length c.basis) e.coefficients
                (vectors_of K c.basis)
                i) (vectors_of K a.basis i j))
                (λ i l. ap (λ t. K.mul t (vectors_of K a.basis i j)) (e.sum i))
                ∙ combination-combination K.ring laws (length a.basis) (length c.basis)
                e.coefficients
                (vectors_of K c.basis) (vectors_of K a.basis) j;
          })
        where
          d : ℕ → K.carrier
          d = cut K.ring laws (length a.basis) h.coefficients

          is : (j : ℕ) → v j ≡ combination_of K a.basis d j
          is j = h.sum j ∙ sym (combination-cut K.ring laws (length a.basis) h.coefficients
              (vectors_of K a.basis) j)

          e : InSpace K c d
          e = (exact d).1 (
            (λ i l. cut-ends K.ring laws (length a.basis) h.coefficients i
                (omega (arith, l, len))),
            span-same K.ring laws (length b.basis)
                (vectors_of K b.basis) v (combination_of K a.basis d) (λ j. sym (is j)) k,
          )

  -- combinations of two lists of rows
  module _ (a b : List (List ℕ)) (v : ℕ → K.carrier) where
    left-is : (i j : ℕ) → i < length a → vectors_of K (a ++ b) i j ≡ vectors_of K a i j
    left-is i j l = ap (λ t. vector_of K t j) (get_or_append_left a b [] i l)

    right-is : (i j : ℕ) → vectors_of K (a ++ b) (length a + i) j ≡ vectors_of K b i j
    right-is i j = ap (λ t. vector_of K t j) (get_or-append-add a b i [])

    pub append-apart : InSpan K.ring (length (a ++ b)) (vectors_of K (a ++ b)) v
        → IsSum K (InSpan K.ring (length a) (vectors_of K a))
        (InSpan K.ring (length b) (vectors_of K b)) v
    append-apart h = record {
      left = combination K.ring (length a) h.coefficients (vectors_of K a);
      right = combination K.ring (length b) (λ i. h.coefficients (length a + i)) (vectors_of K b);
      in_left = record { coefficients = h.coefficients; sum = λ j. refl };
      in_right = record { coefficients = λ i. h.coefficients (length a + i); sum = λ j. refl };
      sum = λ j. h.sum j ∙ ap (λ n. combination K.ring n h.coefficients (vectors_of K (a ++ b)) j)
          (length-append a b)
          ∙ sum-split K.ring laws (length a) (length b)
          (λ i. K.mul (h.coefficients i) (vectors_of K (a ++ b) i j))
          ∙ ap (λ t. K.add t (sum_below K.ring (length b)
          (λ i. K.mul (h.coefficients (length a + i))
          (vectors_of K (a ++ b) (length a + i) j))))
          (sum-ext K.ring laws (length a)
          (λ i. K.mul (h.coefficients i) (vectors_of K (a ++ b) i j))
          (λ i. K.mul (h.coefficients i) (vectors_of K a i j))
          (λ i l. ap (K.mul (h.coefficients i)) (left-is i j l)))
          ∙ ap (K.add (combination K.ring (length a) h.coefficients (vectors_of K a) j))
          (sum-ext K.ring laws (length b)
          (λ i. K.mul (h.coefficients (length a + i)) (vectors_of K (a ++ b) (length a + i) j))
          (λ i. K.mul (h.coefficients (length a + i)) (vectors_of K b i j))
          (λ i l. ap (K.mul (h.coefficients (length a + i))) (right-is i j)));
    }

    pub append-together : IsSum K (InSpan K.ring (length a) (vectors_of K a))
        (InSpan K.ring (length b) (vectors_of K b)) v
        → InSpan K.ring (length (a ++ b)) (vectors_of K (a ++ b)) v
    append-together h = span-same K.ring laws (length (a ++ b)) (vectors_of K (a ++ b))
        (λ j. K.add (K.mul K.one (h.left j)) (h.right j)) v
        (λ j. h.sum j ∙ ring2 K.ring laws (λ a b. a ⊕ b) (λ a b. unit ⊗ a ⊕ b) refl (h.left j)
        (h.right j))
        (span-more K.ring laws (length (a ++ b)) (vectors_of K (a ++ b)) K.one h.left h.right
        (span-inside K.ring laws (length a) (vectors_of K a) (length (a ++ b))
        (vectors_of K (a ++ b)) h.left
        (λ i l. span-same K.ring laws (length (a ++ b)) (vectors_of K (a ++ b))
        (vectors_of K (a ++ b) i) (vectors_of K a i) (λ j. sym (left-is i j l))
        (span-one K.ring laws (length (a ++ b)) (vectors_of K (a ++ b)) i
        (omega (arith, l, length-append a b)))) h.in_left)
        (span-inside K.ring laws (length b) (vectors_of K b) (length (a ++ b))
        (vectors_of K (a ++ b)) h.right
        (λ i l. span-same K.ring laws (length (a ++ b)) (vectors_of K (a ++ b))
        (vectors_of K (a ++ b) (length a + i)) (vectors_of K b i) (λ j. sym (right-is i j))
        (span-one K.ring laws (length (a ++ b)) (vectors_of K (a ++ b)) (length a + i)
        (omega (arith, l, length-append a b)))) h.in_right))

  -- s has the combinations of the basis of t, which is that of a, and of the basis of b
  pub sum-exact : (a b t s : SpaceParts) → SameSpace K t.basis a.basis
      → SameSpace K s.basis (t.basis ++ b.basis) → (v : ℕ → K.carrier)
      → InSpace K s v ↔ IsSum K (InSpace K a) (InSpace K b) v
  sum-exact a b t s same all v = (
    λ h. let k = append-apart t.basis b.basis v
        (span-inside K.ring laws (length s.basis) (vectors_of K s.basis)
        (length (t.basis ++ b.basis)) (vectors_of K (t.basis ++ b.basis)) v all.into h) in
        record {
          left = k.left;
          right = k.right;
          in_left = span-inside K.ring laws (length t.basis)
              (vectors_of K t.basis) (length a.basis) (vectors_of K a.basis) k.left same.into
              k.in_left;
          in_right = k.in_right;
          sum = k.sum;
        },
    λ h. span-inside K.ring laws (length (t.basis ++ b.basis)) (vectors_of K (t.basis ++ b.basis))
        (length s.basis) (vectors_of K s.basis) v all.back
        (append-together t.basis b.basis v
        (record {
          left = h.left;
          right = h.right;
          in_left = span-inside K.ring laws
              (length a.basis) (vectors_of K a.basis) (length t.basis) (vectors_of K t.basis) h.left
              same.back h.in_left;
          in_right = h.in_right;
          sum = h.sum;
        })),
  )

  -- the same, as the code has it
  pub meet_code : {V : Type 0} (items : V → List ℕ) (a b c : SpaceParts) (given old rows : List V)
      → given ≡ old → map items old ≡ a.basis → c.len ≡ length given
      → HasExactly K c (λ v. InSpace K b (combination_of K (map items given) v)) → map items rows
      ≡ c.basis
      → (s : SpaceParts) → SameSpan K.ring (length s.basis) (vectors_of K s.basis) (length rows)
      (combinations_of K a.basis (map items rows)) → (v : ℕ → K.carrier)
      → InSpace K s v ↔ (InSpace K a v × InSpace K b v)
  meet_code items a b c given old rows hgiven hold len exact hrows s same =
      meet-exact a b c s (len ∙ sym (length-map given items) ∙ ap length given_is)
      (subst (λ r. HasExactly K c (λ v. InSpace K b (combination_of K r v))) given_is exact)
      (subst (λ r. SameSpan K.ring (length s.basis) (vectors_of K s.basis) (length r)
      (combinations_of K a.basis r)) hrows
      (subst (λ n. SameSpan K.ring (length s.basis) (vectors_of K s.basis) n
      (combinations_of K a.basis (map items rows))) (sym (length-map rows items)) same))
    where
      given_is : map items given ≡ a.basis
      given_is = ap (map items) hgiven ∙ hold
