use Rattle.std.proofs.Common.{◌≡◌, ℕ, ◌+◌, ◌-◌, ◌/◌, ◌%◌, ◌<◌, length, sym, ◌∙◌, subst, arith, All}
use Rattle.std.proofs.lemmas.List.Elements.{All-push}
use Rattle.ff_theory.specs.Ring.{IsElement}
use Rattle.ff_theory.specs.Vector.{vector_of}
use Rattle.ff_theory.specs.Values.{polys_of}
use Rattle.ff_basis.specs.Blocks.{entry_in}
use Rattle.ff_basis.proofs.Lengths.{entry_read}
use Rattle.ff_basis.proofs.Pieces.{quotient_below, pushed_at}
use Rattle.ff_basis.proofs.parts.reversed_vector.Goals as goal

pub loop-j-preserved : goal.loop-j-preserved
loop-j-preserved g c =
    let F = g.K.Ring.elements c.args.k.now in
    let rows = c.args.rows.now in
    let n = c.args.n in
    let l = c.args.l in
    let j = c.loop-j.j in
    let h = c.loop-j.invariant in
    let old = c.loop-j.v.items in
    let x = c.coeff.result in
    let e = c.in_ok-push.ensures.items in
    let i = c.args.len - 1 - j in
    let want = λ (t : ℕ). entry_in F.ring (polys_of F rows) c.args.from l (c.args.len - 1 - t) in
    let row : i / l < n = quotient_below i n l (omega
    (arith, c.loop-j-test.true, c.requires.len)) in
    let inside : c.args.from + i / l < length rows = omega (arith, row, c.requires.room) in
    let new : F.value x ≡ want j = c.coeff.ensures.value
    ∙ entry_read F (g.K.Ring.lawful c.args.k.now) rows (c.args.from + i / l) (i % l)
    c.index-rows-from.result inside c.index-rows-from.is in
    record {
      vector = record {
        each = subst (All (IsElement F)) (sym e) (All-push (IsElement F) old x h.vector.each
            c.coeff.ensures.element);
        len = omega (arith, c.in_ok-push.ensures.len, h.vector.len);
      };
      value = λ t q. subst (λ v. vector_of F v t ≡ want t) (sym e)
          (pushed_at F.ring F.value old x (λ t r. r ≡ want t) j h.vector.len h.value new t q);
    }
