-- Keys of pairs, and isomorphism lists.
use Rattle.std.specs.Prelude.{◌≡◌, ℕ, ◌+◌, ◌<◌, List, ◌++◌, length, slice_index_or as get_or}
use Rattle.std.specs.declared.cmp.Ordering.TheVariants.{Less}
use Rattle.std.specs.List.{All, Any}
use Rattle.ff_theory.specs.Ring.{Elements}
use Rattle.ff_theory.specs.Lawful.{Lawful}
use Rattle.ff_elem.specs.Key.{elem_key, key_cmp}
use Rattle.ff_data.specs.declared.pair.Pair.{Pair}
use Rattle.ff_data.specs.declared.pair.Entry.{Entry}
use Rattle.ff_data.specs.Pairs.{IsPair, IsInversePair}

-- the key of X, and then that of Y
abbrev pub pair_key : Elements ℕ → Pair → List ℕ
pair_key F p = elem_key F p.x ++ elem_key F p.y

-- the key of the pair of entry i
abbrev pub key_at : Elements ℕ → List Entry → ℕ → Entry → List ℕ
key_at F entries i d = pair_key F (get_or entries i d).pair

module _ {F : Elements ℕ} (L : Lawful F) (f g : List (List ℕ)) where
  -- a pair of E(g) that satisfies f, with its inverse pair of E(f)
  pub record IsEntry (e : Entry) : Type 0 where
    pub pair : IsPair L g e.pair
    pub back : IsPair L f e.back
    pub inverse : IsInversePair L f g e.pair e.back

  -- The isomorphism list of (f, g): each entry is a satisfying pair with its inverse pair,
  -- the keys of the pairs rise strictly,
  -- and each satisfying pair that has an inverse pair stands in an entry.
  pub record IsIsoList (entries : List Entry) : Type 0 where
    pub each : All IsEntry entries
    pub rising : (i : ℕ) (d : Entry) → i + 1 < length entries
        → key_cmp (key_at F entries i d) (key_at F entries (i + 1) d) ≡ Less
    pub all : (pair back : Pair) → IsPair L g pair → IsPair L f back
        → IsInversePair L f g pair back → Any (λ (e : Entry). e.pair ≡ pair) entries
