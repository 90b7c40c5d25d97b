-- Each map of the ring of a table gives a root of the relation of w, and this root tells the map.
use Rattle.std.proofs.Common.{◌≡◌, ℕ, ◌<◌, false, sym, ◌∙◌, ap, ap₂}
use Rattle.ff_theory.specs.Ring.{RingOps, power}
use Rattle.ff_theory.specs.Lawful.{Field, Domain}
use Rattle.ff_theory.specs.Map.{IsMap}
use Rattle.ff_theory.specs.Sum.{sum_below}
use Rattle.ff_theory.specs.Poly.{Poly, polynomials}
use Rattle.ff_theory.proofs.Sums.{sum-ext}
use Rattle.ff_theory.proofs.FrobeniusPoly.{map-power}
use Rattle.ff_theory.proofs.LowestTerms.{cancel}
use Rattle.ff_theory.proofs.PolyMap.{polynomial_domain}
use Rattle.ff_table.specs.Coords.{Coords, at}
use Rattle.ff_table.specs.Table.{Table, IsTable, table_ring}
use Rattle.ff_table.specs.Level.{z_multiple, basis}
use Rattle.ff_table.specs.Powers.{power_sum, IsRelation, Written}
use Rattle.ff_table.proofs.Embedding.{embed, multiple-embed}
use Rattle.ff_table.proofs.BasisSums.{map-sum, basis-sum}

module _ (K : Field) (s : Table K.ring) (table : IsTable K.ring s)
    (w : Coords (polynomials K.ring) s.rank) (D : Domain) (h : Poly K.ring → D.carrier) where
  abbrev P : Domain
  P = polynomial_domain K

  abbrev T : RingOps
  T = table_ring K.ring s

  abbrev k : RingOps
  k = K.ring

  -- a map of the rings that takes p in k[z] to h p
  pub record IsMapOver (f : Coords (polynomials K.ring) s.rank → D.carrier) : Type 0 where
    pub map : IsMap (table_ring K.ring s) D.ring f
    pub over : (p : Poly K.ring) → f (embed K s table p) ≡ h p

  module _ (f : Coords (polynomials K.ring) s.rank → D.carrier) (m : IsMapOver f) where
    pub map-multiple : (p : Poly K.ring) (a : Coords (polynomials K.ring) s.rank)
        → f (z_multiple K.ring s p a) ≡ D.mul (h p) (f a)
    map-multiple p a = ap f (multiple-embed K s table p a) ∙ m.map.on_mul _ _
        ∙ ap (λ t. D.mul t (f a)) (m.over p)

    pub map-power_sum : (n : ℕ) (A : ℕ → Poly K.ring) → f (power_sum K.ring s w n A)
        ≡ sum_below D.ring n (λ j. D.mul (h (A j)) (power D.ring (f w) j))
    map-power_sum n A = map-sum T D.ring f m.map n _ ∙ sum-ext D.ring D.laws n _ _ (λ j l.
        map-multiple (A j) (power T w j) ∙ ap (D.mul (h (A j))) (map-power T D.ring f m.map w j))

    -- the image of w is a root of its relation
    pub map-root : (r : ℕ → Poly K.ring) → IsRelation K.ring s w r
        → D.add (power D.ring (f w) s.rank)
        (sum_below D.ring s.rank (λ j. D.mul (h (r j)) (power D.ring (f w) j))) ≡ D.zero
    map-root r relation = ap₂ D.add (sym (map-power T D.ring f m.map w s.rank))
        (sym (map-power_sum s.rank r)) ∙ sym (m.map.on_add _ _) ∙ ap f relation.vanishes
        ∙ m.map.on_zero

  -- two maps with the same image of w are equal, where the basis is written over its powers
  pub maps-agree : (h_nonzero : (p : Poly K.ring)
      → (polynomials K.ring).same p (polynomials K.ring).zero ≡ false
      → D.same (h p) D.zero ≡ false) → Written K.ring s w
      → (f g : Coords (polynomials K.ring) s.rank → D.carrier) → IsMapOver f → IsMapOver g
      → f w ≡ g w → (a : Coords (polynomials K.ring) s.rank) → f a ≡ g a
  maps-agree h_nonzero b f g mf mg e a =
      ap f (basis-sum K s a) ∙ map-sum T D.ring f mf.map s.rank _
      ∙ sum-ext D.ring D.laws s.rank _ _ (λ l o.
      map-multiple f mf (at P.ring s.rank a l) (basis k s l)
      ∙ ap (D.mul (h (at P.ring s.rank a l))) (each l o)
      ∙ sym (map-multiple g mg (at P.ring s.rank a l) (basis k s l)))
      ∙ sym (map-sum T D.ring g mg.map s.rank _) ∙ ap g (sym (basis-sum K s a))
    where
      each : (l : ℕ) → l < s.rank → f (basis k s l) ≡ g (basis k s l)
      each l o = cancel D _ _ (h (b.q l)) (h_nonzero (b.q l) (b.nonzero l o))
          (D.laws.mul_comm _ _ ∙ sym (map-multiple f mf (b.q l) (basis k s l)) ∙ ap f (b.writes l o)
          ∙ map-power_sum f mf s.rank (b.coefficients l)
          ∙ ap (λ t. sum_below D.ring s.rank
          (λ j. D.mul (h (b.coefficients l j)) (power D.ring t j))) e
          ∙ sym (map-power_sum g mg s.rank (b.coefficients l)) ∙ ap g (sym (b.writes l o))
          ∙ map-multiple g mg (b.q l) (basis k s l) ∙ D.laws.mul_comm _ _)
