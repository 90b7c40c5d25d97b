use Rattle.std.proofs.Common.{refl}
use Rattle.ff_theory.specs.Poly.{polynomials}
use Rattle.ff_theory.specs.Values.{plane_of}
use Rattle.ff_theory.proofs.Poly.{polynomial_laws, polynomial_tests}
use Rattle.ff_lattice.proofs.Remainders.{congruent_self, congruent_trans}
use Rattle.ff_lattice.proofs.division.remainder_of.Goals as goal

pub reduce-init : goal.reduce-init
reduce-init g c =
    let F = g.K.Ring.elements c.args.k.now in
    let laws = g.met.K.Ring.laws c.args.k.now in
    let tests = g.met.K.Ring.tests c.args.k.now in
    let a = plane_of F c.args.a in
    record {
      plane = c.requires.a;
      value = congruent_self (polynomials F.ring) (polynomial_laws F.ring laws tests)
          (polynomial_tests F.ring laws tests) (plane_of F c.args.by.now) a a refl;
    }

pub reduce-preserved : goal.reduce-preserved
reduce-preserved g c =
    let F = g.K.Ring.elements c.args.k.now in
    let laws = g.met.K.Ring.laws c.args.k.now in
    let tests = g.met.K.Ring.tests c.args.k.now in
    record {
      plane = c.in_ok-rest.ensures.plane;
      value = congruent_trans (polynomials F.ring) (polynomial_laws F.ring laws tests)
          (polynomial_tests F.ring laws tests) (plane_of F c.args.by.now) (plane_of F c.args.a)
          (plane_of F c.reduce.rest) (plane_of F c.in_ok-rest.rest)
          c.reduce.invariant.value c.in_ok-rest.ensures.value;
    }
