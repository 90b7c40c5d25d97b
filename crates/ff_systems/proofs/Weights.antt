-- Weights of lists of coordinates: by their coefficients, and those of the products of the
-- functions of a system.
use Rattle.std.proofs.Common.{◌≡◌, ℕ, suc, ◌-◌, ◌*◌, ◌<◌, ◌≤◌, ◌⊎◌, inl, inr, List, []}
use Rattle.std.proofs.Common.{map, length, get_or, sym, ◌∙◌, ap, arith}
use Rattle.std.proofs.lemmas.Bool.{cases_lt}
use Rattle.std.proofs.lemmas.List.Elements.{All-get_or}
use Rattle.ff_theory.specs.Ring.{Elements}
use Rattle.ff_theory.specs.Lawful.{Lawful}
use Rattle.ff_theory.specs.Poly.{coeff, Poly, polynomials}
use Rattle.ff_theory.specs.Values.{poly_of, IsPoly}
use Rattle.ff_theory.specs.Vector.{vector_of}
use Rattle.ff_theory.proofs.Coeffs.{coeff-map, coeff-past}
use Rattle.ff_theory.proofs.Product.{poly-coeff}
use Rattle.ff_poly.proofs.Scaling.{lead-nonzero}
use Rattle.ff_conductor.proofs.Integral.{times-mono}
use Rattle.ff_table.specs.Weight.{HasWeight as HasWeightOf, IsBelow}
use Rattle.ff_data.specs.declared.system.System.{System}
use Rattle.ff_data.specs.Systems.{weight_at, term_weight, IsWithinWeight, HasWeight, AreCoords}

module _ (F : Elements ℕ) (L : Lawful F) (s : System) (c : List (List ℕ))
    (coords : AreCoords F s c) where
  abbrev entries : ℕ → Poly F.ring
  entries l = coeff (polynomials F.ring) (map (λ q. poly_of F q) c) l

  -- a coefficient of an entry
  entry-at : (l d : ℕ) → l < s.e → coeff F.ring (entries l).coeffs d
      ≡ vector_of F (get_or c l []) d
  entry-at l d q = ap (λ (p : Poly F.ring). coeff F.ring p.coeffs d)
      (coeff-map (polynomials F.ring) (λ q. poly_of F q) c l [] (omega (arith, q, coords.count)))
      ∙ poly-coeff F.ring L.laws L.tests (map F.value (get_or c l [])) d

  pub within_below : (w : ℕ) → IsWithinWeight s w c
      → IsBelow F.ring s.e (λ i. weight_at s i) (suc w) (λ l. coeff (polynomials F.ring)
      (map (λ q. poly_of F q) c) l)
  within_below w h l q d r = entry-at l d q
      ∙ coeff-past F.ring F.value (get_or c l []) d (go (cases_lt d (length (get_or c l []))))
    where
      go : (d < length (get_or c l [])) ⊎ (length (get_or c l []) ≤ d)
          → length (get_or c l []) ≤ d
      go (inr m) = m
      go (inl m) = absurd (let a : term_weight s c l ≤ w = h l (omega (arith, q, coords.count))
          (omega (arith, m)) in
          let b : s.e * d ≤ s.e * (length (get_or c l []) - 1) = times-mono s.e d
          (length (get_or c l []) - 1) (omega (arith, m)) in omega (arith, a, b, r))

  pub below_within : (w : ℕ) → IsBelow F.ring s.e (λ i. weight_at s i) (suc w)
      (λ l. coeff (polynomials F.ring) (map (λ q. poly_of F q) c) l) → IsWithinWeight s w c
  below_within w h l q some = go (cases_lt w (term_weight s c l))
    where
      go : (w < term_weight s c l) ⊎ (term_weight s c l ≤ w) → term_weight s c l ≤ w
      go (inr m) = m
      go (inl m) = absurd (lead-nonzero F L (get_or c l [])
          (All-get_or (IsPoly F) c l [] q coords.each) some
          (sym (entry-at l (length (get_or c l []) - 1) (omega (arith, q, coords.count)))
          ∙ h l (omega (arith, q, coords.count)) (length (get_or c l []) - 1) (omega (arith, m))))

  -- the weight by coefficients is that of the list
  pub weight_of_list : (w : ℕ) → HasWeightOf F.ring s.e (λ i. weight_at s i)
      (λ l. coeff (polynomials F.ring) (map (λ q. poly_of F q) c) l) w → HasWeight s w c
  weight_of_list w h = record {
    within = within;
    term = h.place;
    below = omega (arith, h.in_range, coords.count);
    nonzero = omega (arith, long (cases_lt h.degree (length (get_or c h.place []))));
    attained = let a : term_weight s c h.place ≤ w = within h.place (omega (
      arith,
      h.in_range,
      coords.count,
    )) (omega (arith, long (cases_lt h.degree (length (get_or c h.place []))))) in
        let b : s.e * h.degree ≤ s.e * (length (get_or c h.place []) - 1) = times-mono s.e h.degree
        (length (get_or c h.place []) - 1)
        (omega (arith, long (cases_lt h.degree (length (get_or c h.place []))))) in
        omega (arith, a, b, h.level);
  }
    where
      within : IsWithinWeight s w c
      within = below_within w h.below

      long : (h.degree < length (get_or c h.place [])) ⊎ (length (get_or c h.place []) ≤ h.degree)
          → h.degree < length (get_or c h.place [])
      long (inl m) = m
      long (inr m) = absurd (h.nonzero (entry-at h.place h.degree h.in_range
          ∙ coeff-past F.ring F.value (get_or c h.place []) h.degree m))
