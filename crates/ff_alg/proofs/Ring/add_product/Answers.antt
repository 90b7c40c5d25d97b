use Rattle.std.proofs.Common.{◌∙◌, ◌+◌, take, refl, arith}
use Rattle.ff_theory.specs.Values.{poly_of}
use Rattle.ff_theory.specs.Monomial.{monomial}
use Rattle.ff_theory.proofs.Product.{take-suc, rows-start, rows-step, rows-end}
use Rattle.ff_alg.proofs.Ring.add_product.Goals as goal

pub loop-i-init : goal.loop-i-init
loop-i-init g c =
    let K = g.Self.Ring.elements c.args.self.now in
    record {
      len = refl;
      each = c.requires.sum;
      value = rows-start K.ring (g.met.Self.Ring.laws c.args.self.now)
          (g.met.Self.Ring.tests c.args.self.now) K.value (poly_of K c.args.sum.now)
          (poly_of K c.args.b.now) c.args.a.now;
    }

pub loop-i-preserved : goal.loop-i-preserved
loop-i-preserved g c =
    let K = g.Self.Ring.elements c.args.self.now in
    let laws = g.met.Self.Ring.laws c.args.self.now in
    let tests = g.met.Self.Ring.tests c.args.self.now in
    let i = c.loop-i.i in
    let x = c.index-a-i.result in
    record {
      len = c.add_scaled.ensures.len ∙ c.loop-i.invariant.len;
      each = c.add_scaled.ensures.each;
      value = rows-step K.ring laws tests (poly_of K c.args.sum.now) (poly_of K c.loop-i.sum)
          (poly_of K c.add_scaled.new.sum) (monomial K.ring (K.value x) i)
          (poly_of K (take i c.args.a.now)) (poly_of K (take (i + 1) c.args.a.now))
          (poly_of K c.args.b.now)
          c.add_scaled.ensures.value c.loop-i.invariant.value
          (take-suc K.ring laws tests K.value c.args.a.now i (i + 1) x (omega arith) c.index-a-i.is
          (omega arith));
    }

pub returns-clause-value : goal.returns-clause-value
returns-clause-value g c =
    let K = g.Self.Ring.elements c.args.self.now in
    rows-end K.ring (g.met.Self.Ring.laws c.args.self.now) (g.met.Self.Ring.tests c.args.self.now)
    K.value (poly_of K c.args.sum.now) (poly_of K c.loop-i.sum) (poly_of K c.args.b.now)
    c.args.a.now c.loop-i.i (omega arith) c.loop-i.invariant.value
