-- A root of the relation of w with z replaced by zeta, and images of the basis, give a map between
-- the rings of two tables of one rank, which keeps weights; where the weights of the tables are the
-- same, it is one to one and onto.
use Rattle.std.proofs.Common.{◌≡◌, ℕ, suc, ◌*◌, ◌<◌, [], ◌∷◌, sym, ◌∙◌, ap, subst}
use Rattle.ff_theory.specs.Ring.{RingOps, power}
use Rattle.ff_theory.specs.Lawful.{Field}
use Rattle.ff_theory.specs.Map.{IsMap}
use Rattle.ff_theory.specs.Sum.{sum_below}
use Rattle.ff_theory.specs.Poly.{Poly, poly, polynomials}
use Rattle.ff_theory.specs.Division.{size}
use Rattle.ff_table.specs.Coords.{Coords}
use Rattle.ff_table.specs.Table.{Table, IsTable, table_ring, Weighs}
use Rattle.ff_table.specs.Powers.{IsPrimeTo, IsRelation, Written}
use Rattle.ff_table.proofs.TableRing.{table_domain}
use Rattle.ff_table.proofs.Embedding.{embed}
use Rattle.ff_table.proofs.Images.{Images, image_of, image_of-map, image_of-embed}
use Rattle.ff_table.proofs.KeepsWeights.{keeps-weight}
use Rattle.ff_table.proofs.Onto.{one_one, onto}
use Rattle.ff_table.proofs.Substitution.{embed_at, embed_at-map, embed_at-weight, embed_at-nonzero}
use Rattle.ff_table.proofs.Substitution.{at_zeta-constant}

module _ (K : Field) (s : Table K.ring) (table : IsTable K.ring s)
    (w : Coords (polynomials K.ring) s.rank) (W : ℕ) (weighs : Weighs K.ring s w W)
    (prime : IsPrimeTo s.rank W) (r : ℕ → Poly K.ring) (relation : IsRelation K.ring s w r)
    (s' : Table K.ring) (table' : IsTable K.ring s') (same_rank : s.rank ≡ s'.rank)
    (zeta : Poly K.ring) (linear : size K.ring zeta ≡ 2)
    (rho : Coords (polynomials K.ring) s'.rank)
    (root : (table_ring K.ring s').add (power (table_ring K.ring s') rho s.rank)
    (sum_below (table_ring K.ring s') s.rank
    (λ j. (table_ring K.ring s').mul (embed_at K zeta linear s' table' (r j))
    (power (table_ring K.ring s') rho j))) ≡ (table_ring K.ring s').zero)
    (written : Written K.ring s w) (images : Images K s w written (table_domain K s' table')
    (embed_at K zeta linear s' table') rho) where
  abbrev k : RingOps
  k = K.ring

  -- the map
  abbrev pub candidate : Coords (polynomials K.ring) s.rank → Coords (polynomials K.ring) s'.rank
  candidate a = image_of K s table w W weighs prime r relation (table_domain K s' table')
      (embed_at K zeta linear s' table') (embed_at-map K zeta linear s' table')
      (embed_at-nonzero K zeta linear s' table') rho root written images a

  pub candidate-map : IsMap (table_ring K.ring s) (table_ring K.ring s') candidate
  candidate-map = image_of-map K s table w W weighs prime r relation (table_domain K s' table')
      (embed_at K zeta linear s' table') (embed_at-map K zeta linear s' table')
      (embed_at-nonzero K zeta linear s' table') rho root written images

  candidate-embed : (p : Poly K.ring) → candidate (embed K s table p)
      ≡ embed_at K zeta linear s' table' p
  candidate-embed p = image_of-embed K s table w W weighs prime r relation
      (table_domain K s' table') (embed_at K zeta linear s' table')
      (embed_at-map K zeta linear s' table') (embed_at-nonzero K zeta linear s' table') rho root
      written images p

  on_z : (p : Poly K.ring) (d : ℕ) → size k p ≡ suc d
      → Weighs k s' (candidate (embed K s table p)) (s.rank * d)
  on_z p d h = subst (λ a. Weighs k s' a (s.rank * d)) (sym (candidate-embed p))
      (subst (Weighs k s' (embed_at K zeta linear s' table' p))
      (ap (λ e. e * d) (sym same_rank)) (embed_at-weight K zeta linear s' table' p d h))

  pub candidate-weight : (a : Coords (polynomials K.ring) s.rank) (t : ℕ) → Weighs K.ring s a t
      → Weighs K.ring s' (candidate a) t
  candidate-weight a t h = keeps-weight K s table s' table' candidate candidate-map on_z a t h

  pub candidate-one_one : (a b : Coords (polynomials K.ring) s.rank) → candidate a ≡ candidate b
      → a ≡ b
  candidate-one_one a b e = one_one K s table s' table' candidate candidate-map on_z a b e

  pub candidate-onto : ((i : ℕ) → i < s.rank → s.weight i ≡ s'.weight i)
      → (b : Coords (polynomials K.ring) s'.rank)
      → (a : Coords (polynomials K.ring) s.rank) × (b ≡ candidate a)
  candidate-onto same_weights b = onto K s table s' table' candidate candidate-map on_z same_rank
      same_weights (λ c. candidate-embed (poly k (c ∷ []))
      ∙ ap (embed K s' table') (at_zeta-constant K zeta linear c)) b
