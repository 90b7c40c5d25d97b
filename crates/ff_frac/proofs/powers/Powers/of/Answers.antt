use Rattle.std.proofs.Common.{◌≡◌, ◌<◌, ◌+◌, length, sym, subst, arith}
use Rattle.ff_theory.specs.Values.{poly_of, plane_of}
use Rattle.ff_data.specs.Orders.{chart_of, y_degree}
use Rattle.ff_data.proofs.ChartLaws.{chart_laws}
use Rattle.ff_data.proofs.NumeratorLemmas.{order_length}
use Rattle.ff_frac.proofs.FractionLemmas.{product_length, listed_shape}
use Rattle.ff_frac.proofs.PowerLemmas.{first_power}
use Rattle.ff_frac.proofs.powers.Powers.of.Goals as goal

pub residues-requires-clause-nonzero : goal.residues-requires-clause-nonzero
residues-requires-clause-nonzero g c =
    let F = g.K.Ring.elements c.args.alg.now.k in
    let L = g.K.Ring.lawful c.args.alg.now.k in
    let o = c.requires.order in
    let pos = order_length F L c.args.alg.now.f c.args.alg.now.plane c.args.alg.now.has_y
    c.args.order.now o in
    let e = product_length F L c.args.order.now.d c.args.root c.in_ok-modulus.modulus o.d
    c.requires.root c.in_ok-modulus.ensures.poly pos c.requires.degree
    c.in_ok-modulus.ensures.value in
    omega (arith, e)

pub returns-clause-form : goal.returns-clause-form
returns-clause-form g c =
    let F = g.K.Ring.elements c.args.alg.now.k in
    let L = g.K.Ring.lawful c.args.alg.now.k in
    let f = c.args.alg.now.f in
    let o = c.requires.order in
    let d = c.args.order.now.d in
    let m = c.in_ok-modulus in
    let pos = order_length F L f c.args.alg.now.plane c.args.alg.now.has_y c.args.order.now o in
    let l = chart_laws F L f c.args.alg.now.plane c.args.alg.now.has_y c.args.order.now.chart in
    record {
      root = c.requires.root;
      root_size = c.requires.degree;
      root_modulus = c.requires.modulus;
      multiplier = c.requires.multiplier;
      equation = c.in_ok-equation.ensures.plane;
      equation_is = c.in_ok-equation.ensures.value;
      size = product_length F L d c.args.root m.modulus o.d c.requires.root m.ensures.poly pos
          c.requires.degree m.ensures.value;
      power = record {
        poly = m.ensures.poly;
        modulus = subst (chart_of L f c.args.order.now.chart).IsModulus (sym m.ensures.value)
            (l.modulus_product (poly_of F d) (poly_of F c.args.root) o.modulus
            c.requires.modulus);
        plane = c.in_ok-power.ensures.plane;
        shape = listed_shape F L m.modulus m.ensures.poly (y_degree L f) c.args.multiplier
            (plane_of F c.in_ok-power.power) c.in_ok-power.ensures.value c.requires.few;
      };
    }

pub returns-clause-exact : goal.returns-clause-exact
returns-clause-exact g c p place root multiplier =
    first_power (g.K.Ring.elements c.args.alg.now.k) (g.K.Ring.lawful c.args.alg.now.k)
    c.args.alg.now.f c.args.alg.now.plane c.args.alg.now.has_y c.args.order.now p place _
    (returns-clause-form g c) root multiplier c.in_ok-modulus.ensures.value
    c.in_ok-power.ensures.value
