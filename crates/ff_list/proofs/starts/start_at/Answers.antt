use Rattle.std.proofs.Common.{arith}
use Rattle.ff_list.proofs.GapBound.{gaps-small}
use Rattle.ff_list.proofs.PlaceForms.{kept-system}
use Rattle.ff_list.proofs.starts.start_at.Goals as goal

pub gap_number-requires-clause-room : goal.gap_number-requires-clause-room
gap_number-requires-clause-room g c =
    let h = c.requires.system in
    gaps-small c.args.found.system h.limit h.form.weights

pub returns-then-gap_number-le1-clause-fault : goal.returns-then-gap_number-le1-clause-fault
returns-then-gap_number-le1-clause-fault g c =
    let curve = c.args.curve.now in
    let r = c.args.found in (
      record {
        positive = c.requires.system.limit.positive;
        small = omega (arith, c.gap_number.ensures, c.if-gap_number-le1.true);
      },
      kept-system (g.K.Ring.lawful curve.alg.k) curve.alg.f curve.finite curve.infinite
          c.requires.places.orders c.args.places.items c.requires.places r.index r.system
          c.requires.index c.requires.first,
    )
