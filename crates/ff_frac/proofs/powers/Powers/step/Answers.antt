use Rattle.std.proofs.Common.{◌≡◌, ◌<◌, ◌+◌, ℕ, length, refl, sym, subst, arith}
use Rattle.ff_theory.specs.Values.{poly_of}
use Rattle.ff_data.specs.Orders.{chart_of}
use Rattle.ff_data.proofs.ChartLaws.{chart_laws}
use Rattle.ff_data.proofs.NumeratorLemmas.{order_length}
use Rattle.ff_frac.proofs.FractionLemmas.{product_length}
use Rattle.ff_frac.proofs.PowerLemmas.{next_power}
use Rattle.ff_frac.proofs.powers.Powers.step.Goals as goal

pub next-requires : goal.next-requires
next-requires g c =
    let F = g.K.Ring.elements c.args.alg.now.k in
    let L = g.K.Ring.lawful c.args.alg.now.k in
    let h = c.requires.form in
    let s = c.args.self in
    let d = order_length F L c.args.alg.now.f c.args.alg.now.plane c.args.alg.now.has_y
    c.args.order.now c.requires.order in
    let e = product_length F L s.modulus s.root c.in_ok-modulus.modulus h.power.poly h.root
    c.in_ok-modulus.ensures.poly (omega (arith, h.size, d)) h.root_size
    c.in_ok-modulus.ensures.value in
    record {
      order = c.requires.order;
      form = h;
      modulus = c.in_ok-modulus.ensures.poly;
      nonzero = omega (arith, e);
    }

pub returns-clause-form : goal.returns-clause-form
returns-clause-form g c =
    let F = g.K.Ring.elements c.args.alg.now.k in
    let L = g.K.Ring.lawful c.args.alg.now.k in
    let f = c.args.alg.now.f in
    let h = c.requires.form in
    let s = c.args.self in
    let m = c.in_ok-modulus in
    let d = order_length F L f c.args.alg.now.plane c.args.alg.now.has_y c.args.order.now
    c.requires.order in
    let l = chart_laws F L f c.args.alg.now.plane c.args.alg.now.has_y c.args.order.now.chart in
    let e = product_length F L s.modulus s.root m.modulus h.power.poly h.root m.ensures.poly
    (omega (arith, h.size, d)) h.root_size m.ensures.value in
    record {
      root = h.root;
      root_size = h.root_size;
      root_modulus = h.root_modulus;
      multiplier = h.multiplier;
      equation = h.equation;
      equation_is = h.equation_is;
      size = omega (arith, e, h.size);
      power = record {
        poly = m.ensures.poly;
        modulus = subst (chart_of L f c.args.order.now.chart).IsModulus (sym m.ensures.value)
            (l.modulus_product (poly_of F s.modulus) (poly_of F s.root) h.power.modulus
            h.root_modulus);
        plane = c.in_ok-power.ensures.plane;
        shape = c.in_ok-power.ensures.shape;
      };
    }

pub returns-clause-exact : goal.returns-clause-exact
returns-clause-exact g c p place k =
    next_power (g.K.Ring.elements c.args.alg.now.k) (g.K.Ring.lawful c.args.alg.now.k)
    c.args.alg.now.f c.args.alg.now.plane c.args.alg.now.has_y c.args.order.now p place
    c.args.self _ c.in_ok-modulus.ensures.value c.in_ok-power.ensures.value c.args.i
    c.requires.form k refl refl
