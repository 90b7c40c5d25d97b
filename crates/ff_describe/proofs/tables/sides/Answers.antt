use Rattle.std.proofs.Common.{◌≡◌, ap, subst, arith, length}
use Rattle.ff_describe.specs.Readings.{AreSides}
use Rattle.ff_describe.proofs.ReadingLemmas.{sides-more}
use Rattle.ff_describe.proofs.tables.sides.Goals as goal

pub side-requires : goal.side-requires
side-requires c = record {
  shape = c.requires;
  row = omega (arith, c.loop-i-test.true);
}

pub loop-i-init : goal.loop-i-init
loop-i-init c = record {
  count = ap length c.in_ok-rows.ensures.items;
  side = λ i l. absurd (omega (arith, l));
}

pub loop-i-preserved : goal.loop-i-preserved
loop-i-preserved c = sides-more c.args.lists.now c.loop-i.rows.items c.push.new.self.items
    c.loop-i.i c.in_ok-side.field-0 c.loop-i.invariant c.in_ok-side.ensures
    c.in_ok-push.ensures.items

pub returns : goal.returns
returns c =
    let whole : c.loop-i.i ≡ length c.args.lists.now = omega (
      arith,
      c.loop-i-test.false,
      c.loop-i.auto.i-end,
    ) in
    subst (λ m. AreSides c.args.lists.now m c.loop-i.rows.items) whole c.loop-i.invariant
