use Rattle.std.proofs.Common.{sym, subst, ◌↔◌}
use Rattle.ff_theory.specs.Values.{poly_of}
use Rattle.ff_elem.specs.Elem.{algebra_in}
use Rattle.ff_data.specs.declared.point.Point.{Point}
use Rattle.ff_data.specs.Orders.{chart_of}
use Rattle.ff_data.specs.Lattices.{InLatticeOf}
use Rattle.ff_data.specs.Points.{IsPoint}
use Rattle.ff_data.specs.Poles.{InModule}
use Rattle.ff_frac.proofs.module.pole_module.Goals as goal

pub returns-clause-form : goal.returns-clause-form
returns-clause-form g c =
    let F = g.K.Ring.elements c.args.alg.now.k in
    let L = g.K.Ring.lawful c.args.alg.now.k in
    let f = c.args.alg.now.f in
    let h = c.in_ok-d.ensures.lattice in
    let d = c.in_ok-d.d in
    record {
      d = h.poly;
      modulus = subst (λ (p : Point). (chart_of L f p.chart).IsModulus (poly_of F d))
          (sym c.in_ok-point.ensures)
          (subst (λ chart. (chart_of L f chart).IsModulus (poly_of F d))
          (sym c.requires.point.chart) h.modulus);
      space = h.space;
    }

pub returns-clause-exact : goal.returns-clause-exact
returns-clause-exact g c place =
    let L = g.K.Ring.lawful c.args.alg.now.k in
    let f = c.args.alg.now.f in
    let o = c.args.order.now in
    let p = c.args.point.now in
    let j = c.args.j in
    let d = c.in_ok-d.d in
    let space = c.in_ok-d.space in
    let same = sym c.in_ok-point.ensures in
    record {
      form = returns-clause-form g c;
      point = subst (IsPoint L f o) same place.point;
      exact = subst (λ (q : Point). (w : (algebra_in L f).carrier) → InLatticeOf L f q.chart d
          space w ↔ InModule L f o q j w) same (subst (λ chart. (w : (algebra_in L f).carrier)
          → InLatticeOf L f chart d space w ↔ InModule L f o p j w) (sym place.point.chart)
          (c.in_ok-d.ensures.exact place));
    }
