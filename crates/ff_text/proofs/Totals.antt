-- The sum of terms, as a loop over them adds it up.
use Rattle.std.proofs.Common.{◌≡◌, ℕ, zero, suc, ◌+◌, ◌%◌, ◌<◌, ◌≤◌, Bool, true, false, cond, eqb}
use Rattle.std.proofs.Common.{ltb, ◌&&◌, List, [], ◌∷◌, ◌++◌, length, take, get_or}
use Rattle.std.proofs.Common.{Option, Some, refl, sym, ap, subst, ◌∙◌, arith, below_more, ◌⊎◌, inl}
use Rattle.std.proofs.Common.{inr}
use Rattle.std.specs.Option.{unwrap_or}
use Rattle.std.specs.List.{sum_by, Any, All}
use Rattle.std.proofs.lemmas.List.{length-append, get_or_append_left}
use Rattle.std.proofs.lemmas.List.Elements.{All-push}
use Rattle.std.proofs.lemmas.List.Quantifiers.{Any-push}
use Rattle.std.specs.Ordering.{is_eq, ordering_then, nat_cmp}
use Rattle.std.specs.declared.cmp.Ordering.{Ordering}
use Rattle.std.specs.declared.cmp.Ordering.TheVariants.{Less, Equal, Greater}
use Rattle.std.proofs.Common.{BTreeMap}
use Rattle.std.specs.BTreeMap.{get, is_at}
use Rattle.std.proofs.lemmas.Bool.{eqb-true, ltb-true, cases_lt}
use Rattle.std.proofs.lemmas.List.Sums.{sum_by_more, sum_by-cons}
use Rattle.std.proofs.Math.Nat.{mod-add-mod, zero-mod}
use Rattle.ff_theory.proofs.Booleans.{both}
use Rattle.ff_text.specs.declared.reader.Monomial.{Monomial}
use Rattle.ff_text.specs.Sums.{share, total, HasPowers, IsCollected, powers_cmp}

nat_same : (a b : ℕ) → is_eq (nat_cmp a b) ≡ eqb a b
nat_same a b = go (ltb a b) (eqb a b) refl refl
  where
    go : (l e : Bool) → ltb a b ≡ l → eqb a b ≡ e → is_eq (cond l Less (cond e Equal Greater)) ≡ e
    go true true l e = let h : a < b = ltb-true _ _ l in let k : a
        ≡ b = eqb-true _ _ e in absurd (omega arith)
    go true false l e = refl
    go false true l e = refl
    go false false l e = refl

pub powers_same : (a b i j : ℕ) → is_eq (powers_cmp (a, b) (i, j)) ≡ (eqb a i && eqb b j)
powers_same a b i j = then_same (nat_cmp a i) (nat_cmp b j)
    ∙ ap (λ t. t && is_eq (nat_cmp b j)) (nat_same a i) ∙ ap (λ t. eqb a i && t) (nat_same b j)
  where
    then_same : (o q : Ordering) → is_eq (ordering_then o q) ≡ (is_eq o && is_eq q)
    then_same Less q = refl
    then_same Equal q = refl
    then_same Greater q = refl

-- one term more
total_more : (p : ℕ) (ms : List Monomial) (k : ℕ) (d : Monomial) (i j so_far : ℕ) → k < length ms
    → so_far ≡ total p (take k ms) i j
    → cond (eqb (get_or ms k d).x i && eqb (get_or ms k d).y j)
    ((so_far + (get_or ms k d).coefficient) % p) so_far ≡ total p (take (k + 1) ms) i j
total_more p ms k d i j so_far lt h =
    go (eqb (get_or ms k d).x i && eqb (get_or ms k d).y j) (sum_by_more (share i j) ms k d lt)
  where
    go : (b : Bool) → sum_by (share i j) (take (k + 1) ms)
        ≡ sum_by (share i j) (take k ms) + cond b (get_or ms k d).coefficient 0
        → cond b ((so_far + (get_or ms k d).coefficient) % p) so_far ≡ total p (take (k + 1) ms) i j
    go true s = ap (λ t. (t + (get_or ms k d).coefficient) % p) h
        ∙ mod-add-mod (sum_by (share i j) (take k ms)) p (get_or ms k d).coefficient
        ∙ ap (λ t. t % p) (sym s)
    go false s = h ∙ ap (λ t. t % p)
        (let e : sum_by (share i j) (take k ms)
        ≡ sum_by (share i j) (take (k + 1) ms) = omega arith in e)

unwrap_or-cond : (b : Bool) (v : ℕ) (o : Option ℕ) → unwrap_or (cond b (Some v) o) 0
    ≡ cond b v (unwrap_or o 0)
unwrap_or-cond true v o = refl
unwrap_or-cond false v o = refl

-- a map of the totals so far, with a term added to it
pub totals_more : (p : ℕ) (ms : List Monomial) (k : ℕ) (d : Monomial)
    (sums new : BTreeMap (ℕ × ℕ) ℕ) (so_far : ℕ) → k < length ms
    → so_far ≡ unwrap_or (get powers_cmp sums ((get_or ms k d).x, (get_or ms k d).y)) 0
    → ((q : ℕ × ℕ) → get powers_cmp new q
    ≡ cond (is_at (powers_cmp ((get_or ms k d).x, (get_or ms k d).y)) q)
    (Some ((so_far + (get_or ms k d).coefficient) % p)) (get powers_cmp sums q))
    → ((i j : ℕ) → unwrap_or (get powers_cmp sums (i, j)) 0 ≡ total p (take k ms) i j)
    → (i j : ℕ) → unwrap_or (get powers_cmp new (i, j)) 0 ≡ total p (take (k + 1) ms) i j
totals_more p ms k d sums new so_far lt e updates h i j =
    let m = get_or ms k d in
    let x = unwrap_or (get powers_cmp sums (i, j)) 0 in
    let v = (so_far + m.coefficient) % p in
    ap (λ o. unwrap_or o 0) (updates (i, j))
    ∙ unwrap_or-cond (is_at (powers_cmp (m.x, m.y)) (i, j)) v (get powers_cmp sums (i, j))
    ∙ ap (λ b. cond b v x) (powers_same m.x m.y i j) ∙ go (eqb m.x i && eqb m.y j) refl
    ∙ total_more p ms k d i j x lt (h i j)
  where
    go : (b : Bool) → (eqb (get_or ms k d).x i && eqb (get_or ms k d).y j) ≡ b
        → cond b ((so_far + (get_or ms k d).coefficient) % p)
        (unwrap_or (get powers_cmp sums (i, j)) 0)
        ≡ cond b ((unwrap_or (get powers_cmp sums (i, j)) 0 + (get_or ms k d).coefficient) % p)
        (unwrap_or (get powers_cmp sums (i, j)) 0)
    go true t =
        let q = both (eqb (get_or ms k d).x i) (eqb (get_or ms k d).y j) t in
        ap (λ s. (s + (get_or ms k d).coefficient) % p)
        (e ∙ ap (λ a. unwrap_or (get powers_cmp sums (a, (get_or ms k d).y)) 0)
        (eqb-true _ _ q.0) ∙ ap (λ b. unwrap_or (get powers_cmp sums (i, b)) 0)
        (eqb-true _ _ q.1))
    go false t = refl

-- ---- The terms of the sum

abbrev pub none : Monomial
none = record { coefficient = 0; x = 0; y = 0 }

-- the terms of the sum at the powers of the first k terms
pub record Collects (p : ℕ) (ms : List Monomial) (k : ℕ) (cs : List Monomial) : Type 0 where
  pub each : All (λ m. (m.coefficient ≡ total p ms m.x m.y) × (0 < m.coefficient)) cs
  pub all : (j : ℕ) → j < k → 0 < total p ms (get_or ms j none).x (get_or ms j none).y
      → Any (HasPowers (get_or ms j none).x (get_or ms j none).y) cs

pub collects_none : (p : ℕ) (ms : List Monomial) → Collects p ms 0 []
collects_none p ms = record {
  each = λ k d h. absurd (omega arith);
  all = λ j h. absurd (omega
      arith);
}

Any-append : (P : Monomial → Type 0) (xs ys : List Monomial) → Any P xs → Any P (xs ++ ys)
Any-append P xs ys a = (
  a.0,
  a.1,
  omega (arith, length-append xs ys, a.2),
  get_or_append_left xs ys
      a.1 a.0 a.2 ∙ a.3,
  a.4,
)

pub collects_push : (p : ℕ) (ms : List Monomial) (k : ℕ) (cs : List Monomial) (c : ℕ)
    → k < length ms → Collects p ms k cs
    → c ≡ total p ms (get_or ms k none).x (get_or ms k none).y → 0 < c
    → Collects p ms (k + 1) (cs ++ record {
      coefficient = c;
      x = (get_or ms k none).x;
      y = (get_or ms k none).y;
    } ∷ [])
collects_push p ms k cs c lt h e pos =
    let new : Monomial = record {
      coefficient = c;
      x = (get_or ms k none).x;
      y = (get_or ms k
          none).y;
    } in
    record {
      each = All-push (λ m. (m.coefficient ≡ total p ms m.x m.y) × (0 < m.coefficient)) cs new
          h.each (e, pos);
      all = below_more _ _ (λ j l t. Any-append
          (HasPowers (get_or ms j none).x (get_or ms j none).y) cs (new ∷ []) (h.all j l t))
          (λ t. Any-push (HasPowers (get_or ms k none).x (get_or ms k none).y) cs new (refl, refl));
    }

pub collects_skip : (p : ℕ) (ms : List Monomial) (k : ℕ) (cs : List Monomial) (c : ℕ)
    → Collects p ms k cs
    → c ≡ total p ms (get_or ms k none).x (get_or ms k none).y → c ≤ 0 → Collects p ms (k + 1) cs
collects_skip p ms k cs c h e small = record
    { each = h.each; all = below_more _ _ h.all (λ t. absurd (omega arith)) }

-- a coefficient that is not 0 has a term
total_positive : (p : ℕ) (ms : List Monomial) (i j : ℕ) → 0 < total p ms i j → (k : ℕ)
    × (k < length ms) × HasPowers i j (get_or ms k none)
total_positive p ms i j h = sum_positive ms (go (sum_by (share i j) ms) h)
  where
    go : (s : ℕ) → 0 < s % p → 0 < s
    go zero h = absurd (let e : 0 % p ≡ 0 = zero-mod p in omega (arith, e, h))
    go (suc s) h = omega arith

    share_positive : (b : Bool) (c : ℕ) → 0 < cond b c 0 → b ≡ true
    share_positive true c h = refl
    share_positive false c h = absurd (omega arith)

    sum_positive : (ms : List Monomial) → 0 < sum_by (share i j) ms → (k : ℕ) × (k < length ms)
        × HasPowers i j (get_or ms k none)
    sum_positive [] h = absurd (omega arith)
    sum_positive (m ∷ ms) h = here (cases_lt 0 (share i j m)) (sum_positive ms)
      where
        here : (0 < share i j m) ⊎ (share i j m ≤ 0)
            → (0 < sum_by (share i j) ms → (k : ℕ) × (k < length ms)
            × HasPowers i j (get_or ms k none)) → (k : ℕ) × (k < length (m ∷ ms))
            × HasPowers i j (get_or (m ∷ ms) k none)
        here (inl lt) rest = let b = both (eqb m.x i) (eqb m.y j)
            (share_positive (eqb m.x i && eqb m.y j) m.coefficient lt) in
            (0, omega arith, (eqb-true _ _ b.0, eqb-true _ _ b.1))
        here (inr le) rest = let r = rest (omega (arith, sum_by-cons (share i j) m ms, h)) in
            (suc r.0, omega arith, r.2)

pub collects_all : (p : ℕ) (ms : List Monomial) (k : ℕ) (cs : List Monomial) → length ms ≤ k
    → Collects p ms k cs → IsCollected p ms cs
collects_all p ms k cs le h = record {
  each = h.each;
  all = λ i j t.
      let a = total_positive p ms i j t in
      subst (λ x. Any (HasPowers x j) cs) a.2.0
      (subst (λ y. Any (HasPowers (get_or ms a.0 none).x y) cs) a.2.1
      (h.all a.0 (omega arith) (subst (λ x. 0 < total p ms x (get_or ms a.0 none).y) (sym a.2.0)
      (subst (λ y. 0 < total p ms i y) (sym a.2.1) t))));
}
