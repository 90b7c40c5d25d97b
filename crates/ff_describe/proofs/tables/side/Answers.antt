use Rattle.std.proofs.Common.{◌≡◌, ap, subst, arith, length}
use Rattle.ff_describe.specs.Readings.{IsSide}
use Rattle.ff_describe.proofs.ReadingLemmas.{side-more}
use Rattle.ff_describe.proofs.tables.side.Goals as goal

pub side_entry-requires : goal.side_entry-requires
side_entry-requires c = record {
  shape = c.requires.shape;
  row = c.requires.row;
  index = omega (arith, c.loop-j-test.true);
}

pub loop-j-init : goal.loop-j-init
loop-j-init c = record {
  count = ap length c.in_ok-items.ensures.items;
  lower = λ j l. absurd (omega (arith, l));
  upper = λ j l. absurd (omega (arith, l));
}

pub loop-j-preserved : goal.loop-j-preserved
loop-j-preserved c = side-more c.args.lists.now c.args.i c.loop-j.j c.loop-j.items.items
    c.push.new.self.items c.in_ok-side_entry.field-0 c.loop-j.invariant
    c.in_ok-side_entry.ensures.lower c.in_ok-side_entry.ensures.upper
    c.in_ok-push.ensures.items

pub returns : goal.returns
returns c =
    let whole : c.loop-j.j ≡ length c.args.lists.now = omega (
      arith,
      c.loop-j-test.false,
      c.loop-j.auto.j-end,
    ) in
    subst (λ m. IsSide c.args.lists.now c.args.i m c.loop-j.items.items) whole c.loop-j.invariant
