-- The combinations of a basis that have a property.
use Rattle.std.proofs.Common.{◌≡◌, ℕ, ◌↔◌, List, length, refl, sym, ◌∙◌, ap, arith, map, subst}
use Rattle.std.proofs.Common.{Vec, Global}
use Rattle.std.proofs.lemmas.List.{length-map}
use Rattle.ff_theory.specs.Ring.{Elements}
use Rattle.ff_theory.specs.Lawful.{Lawful}
use Rattle.ff_theory.specs.Span.{combination, InSpan, SameSpan}
use Rattle.ff_theory.specs.Vector.{vectors_of, combination_of}
use Rattle.ff_theory.proofs.Span.{span-inside}
use Rattle.ff_theory.proofs.Sums.{sum-ext}
use Rattle.ff_lin.specs.Space.{SpaceParts, InSpace, SpansFamily, HasExactly, combinations_of}
use Rattle.ff_lin.proofs.MeetSum.{cut, cut-ends, combination-cut, combination-combination}

module _ (F : Elements ℕ) (L : Lawful F) where
  -- the span of combinations, as the calls make it
  pub kept-spans : (basis lists : List (Vec ℕ Global)) (old new s : SpaceParts)
      → map (λ v. v.items) basis ≡ old.basis → map (λ v. v.items) lists ≡ new.basis
      → SpansFamily F s.basis (length lists)
      (combinations_of F (map (λ v. v.items) basis) (map (λ v. v.items) lists))
      → SameSpan F.ring (length s.basis) (vectors_of F s.basis) (length new.basis)
      (combinations_of F old.basis new.basis)
  kept-spans basis lists old new s hb hl h =
      subst (λ b. SpansFamily F s.basis (length new.basis) (combinations_of F b new.basis)) hb
      (subst (λ l. SpansFamily F s.basis (length l) (combinations_of F (map items basis) l)) hl
      (subst (λ n. SpansFamily F s.basis n (combinations_of F (map items basis) (map items lists)))
      (sym (length-map lists items)) h))
    where
      items : Vec ℕ Global → List ℕ
      items v = v.items

  -- the combinations of the basis of a whose coefficients give vectors with the property P span the
  -- vectors of a that have it
  pub kept-exact : (a c s : SpaceParts) (P : (ℕ → F.carrier) → Type 0)
      → ((v w : ℕ → F.carrier) → ((j : ℕ) → w j ≡ v j) → P v → P w)
      → c.len ≡ length a.basis → HasExactly F c (λ v. P (combination_of F a.basis v))
      → SameSpan F.ring (length s.basis) (vectors_of F s.basis) (length c.basis)
      (combinations_of F a.basis c.basis) → (v : ℕ → F.carrier)
      → InSpace F s v ↔ (InSpace F a v × P v)
  kept-exact a c s P carried len exact same v = (λ h. both (into h), λ h. out h.0 h.1)
    where
      into : InSpace F s v → InSpan F.ring (length c.basis) (combinations_of F a.basis c.basis) v
      into = span-inside F.ring L.laws (length s.basis) (vectors_of F s.basis) (length c.basis)
          (combinations_of F a.basis c.basis) v same.into

      both : InSpan F.ring (length c.basis) (combinations_of F a.basis c.basis) v
          → InSpace F a v × P v
      both h = (
        record { coefficients = d; sum = is },
        carried (combination_of F a.basis d) v is
            ((exact d).0 (record { coefficients = h.coefficients; sum = λ j. refl })).1,
      )
        where
          d : ℕ → F.carrier
          d = combination F.ring (length c.basis) h.coefficients (vectors_of F c.basis)

          is : (j : ℕ) → v j ≡ combination_of F a.basis d j
          is j = h.sum j ∙ sym (combination-combination F.ring L.laws (length a.basis)
              (length c.basis) h.coefficients (vectors_of F c.basis) (vectors_of F a.basis) j)

      out : InSpace F a v → P v → InSpace F s v
      out h k = span-inside F.ring L.laws (length c.basis) (combinations_of F a.basis c.basis)
          (length s.basis) (vectors_of F s.basis) v same.back (record {
            coefficients = e.coefficients;
            sum = λ j. is j ∙ sum-ext F.ring L.laws (length a.basis) _ _
                (λ i l. ap (λ t. F.mul t (vectors_of F a.basis i j)) (e.sum i))
                ∙ combination-combination F.ring L.laws (length a.basis) (length c.basis)
                e.coefficients (vectors_of F c.basis) (vectors_of F a.basis) j;
          })
        where
          d : ℕ → F.carrier
          d = cut F.ring L.laws (length a.basis) h.coefficients

          is : (j : ℕ) → v j ≡ combination_of F a.basis d j
          is j = h.sum j ∙ sym (combination-cut F.ring L.laws (length a.basis) h.coefficients
              (vectors_of F a.basis) j)

          e : InSpace F c d
          e = (exact d).1 (
            (λ i l. cut-ends F.ring L.laws (length a.basis) h.coefficients i
                (omega (arith, l, len))),
            carried v (combination_of F a.basis d) (λ j. sym (is j)) k,
          )
