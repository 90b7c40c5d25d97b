use Rattle.std.proofs.Common.{◌-◌, length, sym, ap, subst, arith}
use Rattle.ff_theory.specs.Values.{ArePolys}
use Rattle.ff_elem.proofs.Quotients.{element-count}
use Rattle.ff_value.proofs.MonicRows.{den_length, over_value}
use Rattle.ff_value.proofs.monic.over_monic.Goals as goal

pub overflow_sub-rows : goal.overflow_sub-rows
overflow_sub-rows g c = omega (arith, ap length c.rows.ensures, c.args.alg.now.has_y)

pub times_power-requires : goal.times_power-requires
times_power-requires g c = record { row = c.requires.den; base = c.leading-lead.ensures.poly }

pub raised_rows-requires : goal.raised_rows-requires
raised_rows-requires g c = record {
  rows = subst (ArePolys (g.K.Ring.elements c.args.alg.now.k)) (sym c.rows-2.ensures)
      c.requires.num;
  base = c.leading-lead.ensures.poly;
}

pub returns-clause-nonzero : goal.returns-clause-nonzero
returns-clause-nonzero g c =
    den_length (g.K.Ring.elements c.args.alg.now.k) (g.K.Ring.lawful c.args.alg.now.k)
    c.args.alg.now.f c.args.alg.now.plane c.args.alg.now.has_y c.args.w.now c.requires
    c.leading-lead.result.now c.in_ok-den.den _ c.leading-lead.ensures.value
    c.in_ok-den.ensures.value

pub returns-clause-few : goal.returns-clause-few
returns-clause-few g c =
    omega (
      arith,
      c.from_vec.ensures.len,
      c.in_ok-rows.ensures.len,
      ap length c.rows-2.ensures,
      element-count (g.K.Ring.elements c.args.alg.now.k) (g.K.Ring.lawful c.args.alg.now.k)
          c.args.alg.now.f c.args.w.now c.args.alg.now.plane c.args.alg.now.has_y c.requires,
    )

pub returns-clause-over : goal.returns-clause-over
returns-clause-over g c =
    over_value (g.K.Ring.elements c.args.alg.now.k) (g.K.Ring.lawful c.args.alg.now.k)
    c.args.alg.now.f c.args.alg.now.plane c.args.alg.now.has_y c.args.w.now c.requires
    c.leading-lead.result.now c.in_ok-den.den _ (ap (λ r. length r - 1) c.rows.ensures)
    c.leading-lead.ensures.value c.in_ok-den.ensures.value c.rows-2.result.now
    c.in_ok-rows.rows.items c.from_vec.result c.rows-2.ensures c.in_ok-rows.ensures.len
    c.in_ok-rows.ensures.value c.from_vec.ensures.value
