-- The order of the keys of pairs: that of X, and then that of Y.
use Rattle.std.proofs.Common.{◌≡◌, ℕ, ◌<◌, true, false, List, [], ◌∷◌, ◌++◌, length}
use Rattle.std.proofs.Common.{refl, sym, ◌∙◌, ap, arith, append_assoc}
use Rattle.std.specs.declared.cmp.Ordering.{Ordering}
use Rattle.std.specs.declared.cmp.Ordering.TheVariants.{Less, Equal, Greater}
use Rattle.std.specs.Ordering.{ordering_then, ordering_reverse, is_ne}
use Rattle.std.specs.Cmp.Lexicographic.{nat_list_cmp_total}
use Rattle.ff_theory.specs.Ring.{Elements}
use Rattle.ff_theory.specs.Lawful.{Lawful}
use Rattle.ff_theory.specs.Values.{IsPlane}
use Rattle.ff_elem.specs.declared.elem.Elem.{Elem}
use Rattle.ff_elem.specs.Elem.{IsElem}
use Rattle.ff_elem.specs.Key.{poly_key, rows_key, elem_key, key_cmp}
use Rattle.ff_elem.proofs.KeyLemmas.{poly_key-then}
use Rattle.ff_elem.proofs.Quotients.{element-count}
use Rattle.ff_data.specs.declared.pair.Pair.{Pair}
use Rattle.ff_data.specs.Lists.{pair_key}
use Rattle.ff_data.specs.Pairs.{IsPair}

then-assoc : (o p q : Ordering) → ordering_then o (ordering_then p q)
    ≡ ordering_then (ordering_then o p) q
then-assoc Less p q = refl
then-assoc Equal p q = refl
then-assoc Greater p q = refl

then-ne : (o p : Ordering) → is_ne o ≡ true → o ≡ ordering_then o p
then-ne Less p h = refl
then-ne Equal p h = cc
then-ne Greater p h = refl

then-eq : (o p : Ordering) → is_ne o ≡ false → p ≡ ordering_then o p
then-eq Less p h = cc
then-eq Equal p h = refl
then-eq Greater p h = cc

-- the greater one comes after
pub greater-less : (a b : List ℕ) → key_cmp a b ≡ Greater → key_cmp b a ≡ Less
greater-less a b e = nat_list_cmp_total.antisymm b a ∙ ap ordering_reverse e

module _ (F : Elements ℕ) where
  rows-then : (a b : List (List ℕ)) (u v : List ℕ) → length a ≡ length b
      → key_cmp (rows_key F a ++ u) (rows_key F b ++ v)
      ≡ ordering_then (key_cmp (rows_key F a) (rows_key F b)) (key_cmp u v)
  rows-then [] [] u v e = refl
  rows-then [] (q ∷ b) u v e = absurd (omega arith)
  rows-then (p ∷ a) [] u v e = absurd (omega arith)
  rows-then (p ∷ a) (q ∷ b) u v e =
      ap (λ t. key_cmp t (rows_key F (q ∷ b) ++ v)) (append_assoc (poly_key F p) (rows_key F a) u)
      ∙ ap (λ t. key_cmp (poly_key F p ++ (rows_key F a ++ u)) t)
      (append_assoc (poly_key F q) (rows_key F b) v)
      ∙ poly_key-then F p q (rows_key F a ++ u) (rows_key F b ++ v)
      ∙ ap (ordering_then (key_cmp (poly_key F p) (poly_key F q)))
      (rows-then a b u v (omega arith))
      ∙ then-assoc (key_cmp (poly_key F p) (poly_key F q)) (key_cmp (rows_key F a) (rows_key F b))
      (key_cmp u v)
      ∙ ap (λ o. ordering_then o (key_cmp u v))
      (sym (poly_key-then F p q (rows_key F a) (rows_key F b)))

  elem-then : (a b : Elem) (u v : List ℕ) → length a.num ≡ length b.num
      → key_cmp (elem_key F a ++ u) (elem_key F b ++ v)
      ≡ ordering_then (key_cmp (elem_key F a) (elem_key F b)) (key_cmp u v)
  elem-then a b u v e =
      ap (λ t. key_cmp t (elem_key F b ++ v))
      (append_assoc (poly_key F a.den) (rows_key F a.num) u)
      ∙ ap (λ t. key_cmp (poly_key F a.den ++ (rows_key F a.num ++ u)) t)
      (append_assoc (poly_key F b.den) (rows_key F b.num) v)
      ∙ poly_key-then F a.den b.den (rows_key F a.num ++ u) (rows_key F b.num ++ v)
      ∙ ap (ordering_then (key_cmp (poly_key F a.den) (poly_key F b.den)))
      (rows-then a.num b.num u v e)
      ∙ then-assoc (key_cmp (poly_key F a.den) (poly_key F b.den))
      (key_cmp (rows_key F a.num) (rows_key F b.num)) (key_cmp u v)
      ∙ ap (λ o. ordering_then o (key_cmp u v))
      (sym (poly_key-then F a.den b.den (rows_key F a.num) (rows_key F b.num)))

  module _ (L : Lawful F) (f : List (List ℕ)) (plane : IsPlane F f) (has_y : 1 < length f) where
    as-long : (a b : Elem) → IsElem L f a → IsElem L f b → length a.num ≡ length b.num
    as-long a b ha hb = let m = element-count F L f a plane has_y ha in
        let n = element-count F L f b plane has_y hb in omega (arith, m, n)

    -- where the keys of X differ
    pub x-differs : (p q : Pair) (o : Ordering) → IsPair L f p → IsPair L f q
        → o ≡ key_cmp (elem_key F p.x) (elem_key F q.x) → is_ne o ≡ true
        → o ≡ key_cmp (pair_key F p) (pair_key F q)
    x-differs p q o hp hq is ne = then-ne o (key_cmp (elem_key F p.y) (elem_key F q.y)) ne
        ∙ ap (λ t. ordering_then t (key_cmp (elem_key F p.y) (elem_key F q.y))) is
        ∙ sym (elem-then p.x q.x (elem_key F p.y) (elem_key F q.y) (as-long p.x q.x hp.x hq.x))

    -- where they agree
    pub x-agrees : (p q : Pair) (o r : Ordering) → IsPair L f p → IsPair L f q
        → o ≡ key_cmp (elem_key F p.x) (elem_key F q.x) → is_ne o ≡ false
        → r ≡ key_cmp (elem_key F p.y) (elem_key F q.y)
        → r ≡ key_cmp (pair_key F p) (pair_key F q)
    x-agrees p q o r hp hq is eq rest = rest
        ∙ then-eq o (key_cmp (elem_key F p.y) (elem_key F q.y)) eq
        ∙ ap (λ t. ordering_then t (key_cmp (elem_key F p.y) (elem_key F q.y))) is
        ∙ sym (elem-then p.x q.x (elem_key F p.y) (elem_key F q.y) (as-long p.x q.x hp.x hq.x))
