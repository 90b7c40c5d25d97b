use Rattle.std.proofs.Common.{◌≡◌, ℕ, ◌+◌, ◌<◌, ◌≤◌, suc, length, get_or, []}
use Rattle.std.proofs.Common.{sym, ◌∙◌, ap, subst, arith}
use Rattle.std.proofs.lemmas.List.Elements.{All-push}
use Rattle.ff_theory.specs.Values.{IsPoly, ArePolys}
use Rattle.ff_theory.specs.Vector.{vector_of}
use Rattle.ff_describe.specs.Levels.{offset}
use Rattle.ff_describe.proofs.LevelSums.{offset-next}
use Rattle.ff_describe.proofs.RowLemmas.{pushed-at}
use Rattle.ff_describe.proofs.coordinates.coordinates.Goals as goal

pub negative_poly-requires : goal.negative_poly-requires
negative_poly-requires g c =
    let counts = c.args.counts.now in
    let l = c.loop-l.l in
    let next : offset counts l + get_or counts l 0 ≤ offset counts (length counts)
    = offset-next counts (length counts) l (omega (arith, c.loop-l-test.true)) in
    record {
      row = c.requires.row;
      room = omega (arith, c.loop-l.invariant.at, next, c.requires.room);
    }

pub overflow_add-at : goal.overflow_add-at
overflow_add-at g c =
    let counts = c.args.counts.now in
    let l = c.loop-l.l in
    let next : offset counts l + get_or counts l 0 ≤ offset counts (length counts)
    = offset-next counts (length counts) l (omega (arith, c.loop-l-test.true)) in
    omega (arith, c.loop-l.invariant.at, next, c.requires.room, c.well_formed)

pub loop-l-preserved : goal.loop-l-preserved
loop-l-preserved g c =
    let F = g.K.Ring.elements c.args.k.now in
    let counts = c.args.counts.now in
    let row = c.args.row.now in
    let start = c.args.start in
    let l = c.loop-l.l in
    let p = c.in_ok-negative_poly.field-0 in
    let new = c.push.new.self.items in
    let e = c.in_ok-push.ensures.items in
    let old = c.loop-l.invariant in
    let s : suc l ≡ l + 1 = omega arith in
    let t : offset counts l + get_or counts l 0 ≡ offset counts (l + 1) = ap (offset counts) s in
    record {
      at = omega (arith, old.at, t);
      len = omega (arith, c.in_ok-push.ensures.len, old.len);
      each = subst (ArePolys F) (sym e) (All-push (IsPoly F) c.loop-l.list.items p old.each
          c.in_ok-negative_poly.ensures.poly);
      short = pushed-at (λ i q. length q ≤ get_or counts i 0) [] c.loop-l.list.items p new l e
          old.len old.short c.in_ok-negative_poly.ensures.short;
      value = pushed-at (λ i q. (a : ℕ) → a < get_or counts i 0 → vector_of F q a
          ≡ F.neg (vector_of F row (start + (offset counts i + a)))) [] c.loop-l.list.items p new l
          e old.len old.value (λ a h. c.in_ok-negative_poly.ensures.value a h
          ∙ ap (λ j. F.neg (vector_of F row j))
          (let u : c.loop-l.at + a ≡ start + (offset counts l + a) = omega (arith, old.at) in u));
    }

pub returns : goal.returns
returns g c =
    let whole : c.loop-l.l ≡ length c.args.counts.now = omega (
      arith,
      c.loop-l-test.false,
      c.loop-l.auto.l-end,
    ) in
    record {
      each = c.loop-l.invariant.each;
      count = omega (arith, c.loop-l.invariant.len, whole);
      short = λ l h. c.loop-l.invariant.short l (omega (arith, h, whole));
      value = λ l a h k. c.loop-l.invariant.value l (omega (arith, h, whole)) a k;
    }
