use Rattle.std.proofs.Common.{◌≡◌, suc, ◌-◌, length, arith}
use Rattle.ff_theory.specs.Lawful.{lawful_field}
use Rattle.ff_theory.proofs.Element.{algebra_is_ring, form}
use Rattle.ff_theory.proofs.ElementEuclid.{one-nonzero}
use Rattle.ff_theory.specs.Values.{plane_of}
use Rattle.ff_elem.proofs.Reduction.{plane-size}
use Rattle.ff_elem.proofs.Quotients.{not-empty}
use Rattle.ff_elem.proofs.algebra.Alg.new.Goals as goal

pub returns-clause-ring : goal.returns-clause-ring
returns-clause-ring g c =
    let K = g.K.Ring.elements c.args.k in
    algebra_is_ring (lawful_field (g.K.Ring.lawful c.args.k)) (plane_of K c.args.f.now)

pub returns-clause-forms : goal.returns-clause-forms
returns-clause-forms g c =
    let K = g.K.Ring.elements c.args.k in
    form (lawful_field (g.K.Ring.lawful c.args.k)) (plane_of K c.args.f.now)

pub returns-clause-proper : goal.returns-clause-proper
returns-clause-proper g c =
    let K = g.K.Ring.elements c.args.k in
    let L = g.K.Ring.lawful c.args.k in
    let f = c.args.f.now in
    let n = length f - 1 in
    let long : length f ≡ suc n = omega (arith, c.requires.has_y) in
    one-nonzero (lawful_field L) (plane_of K f) (not-empty K L f n c.requires.plane long)
    (omega (arith, plane-size K L f c.requires.plane, c.requires.has_y))
