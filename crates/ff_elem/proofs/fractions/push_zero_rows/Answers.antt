use Rattle.std.proofs.Common.{ap}
use Rattle.ff_theory.specs.Poly.{polynomials}
use Rattle.ff_theory.proofs.Poly.{polynomial_laws, polynomial_tests}
use Rattle.ff_theory.specs.Values.{poly_of, IsPoly}
use Rattle.ff_elem.proofs.RowLemmas.{pushed-each, zero-poly}
use Rattle.ff_elem.proofs.ZeroLemmas.{no-zeros, more-zeros}
use Rattle.ff_elem.proofs.fractions.push_zero_rows.Goals as goal

pub loop-i-init : goal.loop-i-init
loop-i-init g c =
    let K = g.K.Ring.elements c.args.k.now in
    let laws = g.met.K.Ring.laws c.args.k.now in
    let tests = g.met.K.Ring.tests c.args.k.now in
    record {
      each = c.requires;
      zeros = no-zeros (polynomials K.ring) (polynomial_laws K.ring laws tests)
          (polynomial_tests K.ring laws tests) (λ p. poly_of K p) c.args.rows.now.items;
    }

pub loop-i-preserved : goal.loop-i-preserved
loop-i-preserved g c =
    let K = g.K.Ring.elements c.args.k.now in
    let laws = g.met.K.Ring.laws c.args.k.now in
    let tests = g.met.K.Ring.tests c.args.k.now in
    let e = c.in_ok-push.ensures.items in
    record {
      each = pushed-each (λ p. IsPoly K p) c.loop-i.rows.items c.zero.result c.push.new.self.items e
          c.loop-i.invariant.each (zero-poly K c.zero.result c.zero.ensures);
      zeros = more-zeros (polynomials K.ring) (polynomial_laws K.ring laws tests)
          (polynomial_tests K.ring laws tests) (λ p. poly_of K p) c.args.rows.now.items
          c.loop-i.rows.items c.push.new.self.items c.zero.result c.loop-i._i e
          (ap (poly_of K) c.zero.ensures) c.loop-i.invariant.zeros;
    }
