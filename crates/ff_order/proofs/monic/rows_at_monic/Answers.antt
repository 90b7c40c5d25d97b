use Rattle.std.proofs.Common.{length, sym, ap, subst, arith}
use Rattle.ff_theory.specs.Values.{ArePolys}
use Rattle.ff_elem.proofs.Quotients.{element-count}
use Rattle.ff_order.proofs.ChartLemmas.{at-monic, den-length}
use Rattle.ff_order.proofs.monic.rows_at_monic.Goals as goal

pub quotients_by-requires : goal.quotients_by-requires
quotients_by-requires g c =
    let F = g.K.Ring.elements c.args.alg.now.k in
    record {
      rows = subst (ArePolys F) (sym c.rows.ensures) c.requires.w.num;
      den = c.requires.w.den;
      lead = c.leading.ensures.poly;
      den_nonzero = den-length F (g.K.Ring.lawful c.args.alg.now.k) c.args.alg.now.f
          c.args.alg.now.plane c.args.alg.now.has_y c.args.w.now c.requires.w;
      lead_nonzero = c.leading.ensures.nonzero;
    }

pub returns-clause-rows : goal.returns-clause-rows
returns-clause-rows g c =
    omega (
      arith,
      c.from_vec.ensures.len,
      c.in_ok-quotients.ensures.len,
      ap length c.rows.ensures,
      element-count (g.K.Ring.elements c.args.alg.now.k) (g.K.Ring.lawful c.args.alg.now.k)
          c.args.alg.now.f c.args.w.now c.args.alg.now.plane c.args.alg.now.has_y c.requires.w,
    )

pub returns-clause-value : goal.returns-clause-value
returns-clause-value g c =
    at-monic (g.K.Ring.elements c.args.alg.now.k) (g.K.Ring.lawful c.args.alg.now.k)
    c.args.alg.now.f c.args.alg.now.plane c.args.alg.now.has_y c.args.w.now c.leading.result.now
    c.in_ok-quotients.quotients.items c.rows.result.now c.from_vec.result c.requires.w
    c.requires.in_powers c.leading.ensures.value c.rows.ensures c.in_ok-quotients.ensures.len
    c.in_ok-quotients.ensures.value c.from_vec.ensures.value
