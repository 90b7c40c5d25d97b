use Rattle.std.proofs.Common.{◌≡◌, suc, ◌-◌, length, sym, ◌∙◌, ap, ap₂, subst, arith}
use Rattle.ff_theory.specs.Values.{poly_of, polys_over, IsPlane}
use Rattle.ff_elem.proofs.Reduction.{last-row}
use Rattle.ff_elem.proofs.EuclidSteps.{top-is}
use Rattle.ff_elem.proofs.euclid.cancel_top.Goals as goal

pub multipliers-requires : goal.multipliers-requires
multipliers-requires g c =
    let F = g.K.Ring.elements c.args.k.now in
    let L = g.K.Ring.lawful c.args.k.now in
    let R = c.rows-rows.result.now in
    let S = c.rows-by_rows.result.now in
    let long : length R ≡ suc (length R - 1) = omega
    (arith, ap length c.rows-rows.ensures, c.requires.nonzero, c.requires.longer) in
    let by_long : length S ≡ suc (length S - 1) = omega (
      arith,
      ap length c.rows-by_rows.ensures,
      c.requires.nonzero,
    ) in
    let t = last-row F L R (length R - 1) c.index-rows-rows.result
    (subst (IsPlane F) (sym c.rows-rows.ensures) c.requires.a.value) long c.index-rows-rows.is
    in
    let l = last-row F L S (length S - 1) c.index-by_rows-by_rows.result
    (subst (IsPlane F) (sym c.rows-by_rows.ensures) c.requires.by.value) by_long
    c.index-by_rows-by_rows.is in
    record { top = t.0; lead = l.0; nonzero = l.1 }

pub cancel_by-requires : goal.cancel_by-requires
cancel_by-requires g c =
    let F = g.K.Ring.elements c.args.k.now in
    let L = g.K.Ring.lawful c.args.k.now in
    let P = polys_over F in
    let e = c.in_ok-e.ensures in
    let t = top-is F L c.rows-rows.result.now c.args.a.now.value c.index-rows-rows.result
    c.rows-rows.ensures (omega (arith, c.requires.nonzero, c.requires.longer))
    c.index-rows-rows.is in
    let l = top-is F L c.rows-by_rows.result.now c.args.by.now.value c.index-by_rows-by_rows.result
    c.rows-by_rows.ensures c.requires.nonzero c.index-by_rows-by_rows.is in
    record {
      e = e.factor;
      a = c.requires.a;
      q = e.multiple;
      by = c.requires.by;
      nonzero = c.requires.nonzero;
      longer = c.requires.longer;
      factor = e.nonzero;
      cancel = sym (ap₂ (λ p q. P.add (P.mul (poly_of F c.in_ok-e.e) (poly_of F p))
          (P.mul (poly_of F c.in_ok-e.q) (poly_of F q))) t l) ∙ e.value;
    }
