-- A map between the rings of two tables with the same weights, that keeps constants and the weights
-- of the polynomials in z, is one to one and onto.
use Rattle.std.proofs.Common.{◌≡◌, ℕ, suc, ◌+◌, ◌*◌, ◌%◌, ◌<◌, ◌⊎◌, inl, inr, Bool, true}
use Rattle.std.proofs.Common.{nat_lt, refl}
use Rattle.std.proofs.Common.{[], ◌∷◌, sym, ◌∙◌, ap, ap₂, subst, arith}
use Rattle.std.proofs.lemmas.Bool.{lt-ltb, ltb-true}
use Rattle.ff_theory.specs.Ring.{RingOps, IsCommRing}
use Rattle.ff_theory.specs.Lawful.{Field}
use Rattle.ff_theory.specs.Map.{IsMap}
use Rattle.ff_theory.specs.Poly.{Poly, poly, polynomials}
use Rattle.ff_theory.specs.Division.{size}
use Rattle.ff_theory.proofs.Solver.{◌⊕◌, neg, nil, ring2}
use Rattle.ff_table.specs.Coords.{Coords}
use Rattle.ff_table.specs.Table.{Table, IsTable, table_ring, Weighs}
use Rattle.ff_table.specs.Level.{IsLevel, scaled, monomial_at}
use Rattle.ff_table.specs.Reduce.{Pivot, Reduction}
use Rattle.ff_table.proofs.TableRing.{table_laws, weigh_element, zero_weight}
use Rattle.ff_table.proofs.Scalars.{part-zero, part-ext}
use Rattle.ff_table.proofs.Levels.{is-level, class-below}
use Rattle.ff_table.proofs.Monomials.{monomial-weight}
use Rattle.ff_table.proofs.Reduce.{reduce}
use Rattle.ff_table.proofs.Embedding.{embed, multiple-embed}
use Rattle.ff_table.proofs.KeepsWeights.{keeps-weight}

module _ (K : Field) (s : Table K.ring) (table : IsTable K.ring s) (s' : Table K.ring)
    (table' : IsTable K.ring s')
    (f : Coords (polynomials K.ring) s.rank → Coords (polynomials K.ring) s'.rank)
    (map : IsMap (table_ring K.ring s) (table_ring K.ring s') f)
    (on_z : (p : Poly K.ring) (d : ℕ) → size K.ring p ≡ suc d
    → Weighs K.ring s' (f (embed K s table p)) (s.rank * d)) where
  abbrev k : RingOps
  k = K.ring

  abbrev T : RingOps
  T = table_ring K.ring s

  abbrev T' : RingOps
  T' = table_ring K.ring s'

  abbrev C : Type 0
  C = Coords (polynomials K.ring) s.rank

  abbrev C' : Type 0
  C' = Coords (polynomials K.ring) s'.rank

  TL : IsCommRing T
  TL = table_laws K s table

  -- different elements have different images
  pub one_one : (a b : Coords (polynomials K.ring) s.rank) → f a ≡ f b → a ≡ b
  one_one a b e = ring2 T TL (λ a b. a) (λ a b. (a ⊕ neg b) ⊕ b) refl a b
      ∙ ap (λ t. T.add t b) (go (weigh_element K s table (T.add a (T.neg b))))
      ∙ ring2 T TL (λ a b. nil ⊕ b) (λ a b. b) refl a b
    where
      image : f (T.add a (T.neg b)) ≡ T'.zero
      image = map.on_add a (T.neg b) ∙ ap₂ T'.add e (map.on_neg b)
          ∙ (table_laws K s' table').add_neg (f b)

      go : ((w : ℕ) × Weighs k s (T.add a (T.neg b)) w) ⊎ (T.add a (T.neg b) ≡ T.zero)
          → T.add a (T.neg b) ≡ T.zero
      go (inr z) = z
      go (inl h) = absurd (zero_weight K s' table' h.0 (subst (λ x. Weighs k s' x h.0) image
          (keeps-weight K s table s' table' f map on_z (T.add a (T.neg b)) h.0 h.1)))

  module _ (same_rank : s.rank ≡ s'.rank)
      (same_weights : (i : ℕ) → i < s.rank → s.weight i ≡ s'.weight i)
      (constants : (c : K.carrier) → f (embed K s table (poly K.ring (c ∷ [])))
      ≡ embed K s' table' (poly K.ring (c ∷ []))) where
    -- the images
    abbrev IsImage : C' → Type 0
    IsImage b = (a : C) × (b ≡ f a)

    abbrev reached : ℕ → Bool
    reached t = nat_lt (s'.weight (t % s'.rank)) (suc t)

    image-scaled : (c : K.carrier) (b : C') → IsImage b → IsImage (scaled k s' c b)
    image-scaled c b h = (
      scaled k s c h.0,
      multiple-embed K s' table' (poly k (c ∷ [])) b ∙ ap₂ T'.mul (sym (constants c)) h.1
          ∙ sym (map.on_mul (embed K s table (poly k (c ∷ []))) h.0)
          ∙ ap f (sym (multiple-embed K s table (poly k (c ∷ [])) h.0)),
    )

    pivot : (t : ℕ) → nat_lt (s'.weight (t % s'.rank)) (suc t) ≡ true → Pivot k s' IsImage t
    pivot t on = record {
      element = f (monomial_at k s t);
      inside = (monomial_at k s t, refl);
      weight = keeps-weight K s table s' table' f map on_z (monomial_at k s t) t
          (monomial-weight K s table t (omega (
            arith,
            ltb-true (s'.weight (t % s'.rank)) (suc t) on,
            same_weights (t % s.rank) (class-below K s table t),
            ap (λ r. s'.weight (t % r)) same_rank,
          )));
    }

    -- each element is an image
    pub onto : (b : Coords (polynomials K.ring) s'.rank)
        → (a : Coords (polynomials K.ring) s.rank) × (b ≡ f a)
    onto b = (
      d.inside.0,
      d.sum ∙ ap (T'.add d.multiple) zero_rest
          ∙ (table_laws K s' table').add_zero d.multiple ∙ d.inside.1,
    )
      where
        d : Reduction k s' IsImage reached b
        d = reduce K s' table' IsImage (T.zero, sym map.on_zero)
            (λ x y g h. (T.add g.0 h.0, ap₂ T'.add g.1 h.1 ∙ sym (map.on_add g.0 h.0)))
            image-scaled reached pivot b

        zero_rest : d.rest ≡ T'.zero
        zero_rest = part-ext K s' d.rest T'.zero (λ l x q. d.clear l x q (omega arith)
            (lt-ltb (s'.weight ((s'.rank * x + s'.weight l) % s'.rank))
            (suc (s'.rank * x + s'.weight l))
            (let v : IsLevel s' (s'.rank * x + s'.weight l) = is-level K s' table' l x q in
            omega (arith, v))) ∙ sym (part-zero K s' l x q))
