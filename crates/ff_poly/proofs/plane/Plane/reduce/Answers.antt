use Rattle.std.proofs.Common.{◌≡◌, ◌∙◌, ap, subst, arith}
use Rattle.ff_theory.specs.Values.{poly_of, plane_of}
use Rattle.ff_theory.specs.Planes.{IsPseudoDivision}
use Rattle.ff_poly.proofs.PseudoDivision.{pseudo_start, pseudo_next, product_nonzero}
use Rattle.ff_poly.proofs.plane.Plane.reduce.Goals as goal

pub reduce-init : goal.reduce-init
reduce-init g c =
    let K = g.K.Ring.elements c.args.k.now in
    record {
      factor = c.in_ok-factor.ensures.poly;
      nonzero = omega (arith, c.in_ok-factor.ensures.len);
      rest = c.in_ok-rest.ensures.plane;
      value = pseudo_start K.ring (g.met.K.Ring.laws c.args.k.now) (g.met.K.Ring.tests c.args.k.now)
          (poly_of K c.in_ok-factor.factor) (plane_of K c.args.self.now) (plane_of K c.args.f.now)
          (plane_of K c.in_ok-rest.rest) c.in_ok-factor.ensures.value
          (c.in_ok-rest.ensures.value ∙ ap (plane_of K) c.rows.ensures);
    }

pub reduce-preserved : goal.reduce-preserved
reduce-preserved g c =
    let K = g.K.Ring.elements c.args.k.now in
    let laws = g.met.K.Ring.laws c.args.k.now in
    let tests = g.met.K.Ring.tests c.args.k.now in
    let factor = c.in_ok-factor-2.factor in
    let rest : c.rows-in-reduce-3.result.now ≡ c.reduce.rest = c.rows-in-reduce-3.ensures in
    let step = subst (λ p. IsPseudoDivision K.ring (poly_of K c.in_ok-c.c) (plane_of K p)
    (plane_of K c.args.f.now) (plane_of K c.in_ok-c.next)) rest
    (subst (λ p. IsPseudoDivision K.ring (poly_of K c.in_ok-c.c)
    (plane_of K c.rows-in-reduce-3.result.now) (plane_of K p) (plane_of K c.in_ok-c.next))
    c.rows-in-reduce-4.ensures c.in_ok-c.ensures.value) in
    record {
      factor = c.in_ok-factor-2.ensures.poly;
      nonzero = product_nonzero (g.K.Ring.lawful c.args.k.now) c.in_ok-c.c
          c.reduce.factor factor c.in_ok-c.ensures.factor c.reduce.invariant.factor
          c.in_ok-factor-2.ensures.poly c.in_ok-factor-2.ensures.value c.in_ok-c.ensures.nonzero
          c.reduce.invariant.nonzero;
      rest = c.in_ok-c.ensures.rest;
      value = pseudo_next K.ring laws tests (poly_of K c.reduce.factor) (poly_of K c.in_ok-c.c)
          (poly_of K factor) (plane_of K c.args.self.now) (plane_of K c.args.f.now)
          (plane_of K c.reduce.rest) (plane_of K c.in_ok-c.next) c.in_ok-factor-2.ensures.value
          c.reduce.invariant.value step;
    }

pub reduce-preserved-in_ok-factor-2 : goal.reduce-preserved-in_ok-factor-2
reduce-preserved-in_ok-factor-2 g c =
    let K = g.K.Ring.elements c.args.k.now in
    let laws = g.met.K.Ring.laws c.args.k.now in
    let tests = g.met.K.Ring.tests c.args.k.now in
    let factor = c.in_ok-factor-2.factor in
    let rest : c.rows-in-reduce-3.result.now ≡ c.reduce.rest = c.rows-in-reduce-3.ensures in
    let step = subst (λ p. IsPseudoDivision K.ring (poly_of K c.in_ok-c.c) (plane_of K p)
    (plane_of K c.args.f.now) (plane_of K c.in_ok-c.next)) rest
    (subst (λ p. IsPseudoDivision K.ring (poly_of K c.in_ok-c.c)
    (plane_of K c.rows-in-reduce-3.result.now) (plane_of K p) (plane_of K c.in_ok-c.next))
    c.rows-in-reduce-4.ensures c.in_ok-c.ensures.value) in
    record {
      factor = c.in_ok-factor-2.ensures.poly;
      nonzero = product_nonzero (g.K.Ring.lawful c.args.k.now) c.in_ok-c.c
          c.reduce.factor factor c.in_ok-c.ensures.factor c.reduce.invariant.factor
          c.in_ok-factor-2.ensures.poly c.in_ok-factor-2.ensures.value c.in_ok-c.ensures.nonzero
          c.reduce.invariant.nonzero;
      rest = c.in_ok-c.ensures.rest;
      value = pseudo_next K.ring laws tests (poly_of K c.reduce.factor) (poly_of K c.in_ok-c.c)
          (poly_of K factor) (plane_of K c.args.self.now) (plane_of K c.args.f.now)
          (plane_of K c.reduce.rest) (plane_of K c.in_ok-c.next) c.in_ok-factor-2.ensures.value
          c.reduce.invariant.value step;
    }
