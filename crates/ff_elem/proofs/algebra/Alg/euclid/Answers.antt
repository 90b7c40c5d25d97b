use Rattle.std.proofs.Common.{length, ◌∙◌, ap, arith}
use Rattle.ff_theory.specs.Values.{plane_of}
use Rattle.ff_elem.proofs.EuclidLoop.{state-start, state-step, state-last}
use Rattle.ff_elem.proofs.algebra.Alg.euclid.Goals as goal

pub euclid-init : goal.euclid-init
euclid-init g c =
    let F = g.K.Ring.elements c.args.self.now.k in
    let large = c.in_ok-large.ensures in
    let small = c.in_ok-small.ensures in
    state-start F (g.K.Ring.lawful c.args.self.now.k) c.args.self.now.f c.args.a.now
    c.in_ok-large.large c.in_ok-small.small c.args.self.now.plane c.args.self.now.has_y
    large.planes small.planes
    (large.value ∙ ap (plane_of F) c.rows.ensures) large.factor small.value small.factor

pub remainder-requires : goal.remainder-requires
remainder-requires g c =
    let h = c.euclid.invariant in
    record {
      a = h.large_planes;
      by = h.small_planes;
      nonzero = omega
          (arith, c.euclid-test.true, ap length c.rows-in-euclid.ensures);
    }

pub euclid-preserved : goal.euclid-preserved
euclid-preserved g c =
    let e = c.in_ok-next.ensures in
    state-step (g.K.Ring.elements c.args.self.now.k) (g.K.Ring.lawful c.args.self.now.k)
    c.args.self.now.f c.args.a.now c.euclid.large c.euclid.small c.in_ok-next.next
    c.euclid.invariant (omega (arith, c.euclid-test.true, ap length c.rows-in-euclid.ensures))
    e.planes e.step

pub euclid-smaller : goal.euclid-smaller
euclid-smaller g c = c.in_ok-next.ensures.shorter

pub returns : goal.returns
returns g c =
    state-last (g.K.Ring.elements c.args.self.now.k) (g.K.Ring.lawful c.args.self.now.k)
    c.args.self.now.f c.args.a.now c.euclid.large c.euclid.small c.euclid.invariant
    c.args.self.now.plane c.args.self.now.has_y
    (omega (arith, c.euclid-test.false, ap length c.rows-in-euclid.ensures))
