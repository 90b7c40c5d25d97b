use Rattle.std.proofs.Common.{◌+◌, ◌<◌, length, sym, subst, arith, All}
use Rattle.std.proofs.lemmas.List.Elements.{All-push}
use Rattle.ff_poles.specs.Spaces.{AreLeastIndices}
use Rattle.ff_poles.proofs.IndexLemmas.{indices_more}
use Rattle.ff_poles.proofs.numbers.least_numbers.Goals as goal

pub loop-i-preserved : goal.loop-i-preserved
loop-i-preserved c =
    let spaces = c.args.spaces.now in
    let list = c.loop-i.numbers.items in
    let m = c.least_number-m.result in
    let e = sym c.in_ok-push.ensures.items in
    record {
      count = omega (arith, c.in_ok-push.ensures.len, c.loop-i.invariant.count);
      within = subst (All (λ m. m < length spaces)) e (All-push (λ m. m < length spaces) list m
          c.loop-i.invariant.within (omega (arith, c.if-m-spaces.false)));
      least = subst (AreLeastIndices spaces c.args.e (c.loop-i.i + 1)) e
          (indices_more spaces c.args.e c.loop-i.i list m c.loop-i.invariant.count
          c.loop-i.invariant.least c.least_number-m.ensures);
    }
