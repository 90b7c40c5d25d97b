use Rattle.std.proofs.Common.{ap, arith, refl, subst, sym, ◌∙◌}
use Rattle.ff_theory.specs.Ring.{power}
use Rattle.ff_theory.specs.Lawful.{lawful_field}
use Rattle.ff_theory.specs.Values.{plane_of}
use Rattle.ff_theory.proofs.Element.{algebra_is_ring}
use Rattle.ff_elem.specs.Elem.{IsElem, algebra_in, elem_of}
use Rattle.ff_subst.proofs.blocks.first_power.Goals as goal

pub returns : goal.returns
returns g c =
    let K = g.K.Ring.elements c.args.alg.now.k in
    let L = g.K.Ring.lawful c.args.alg.now.k in
    let f = c.args.alg.now.f in
    let A = algebra_in L f in
    let X = elem_of L f c.args.x.now in
    record {
      list = record {
        cleared = c.in_ok-list.ensures.cleared;
        some = omega (arith, c.in_ok-list.ensures.count);
        next = subst (IsElem L f) (sym c.in_ok-next.ensures) c.requires;
      };
      powers = c.in_ok-list.ensures.element (power A X) refl;
      next = ap (elem_of L f) c.in_ok-next.ensures
          ∙ sym ((algebra_is_ring (lawful_field L) (plane_of K f)).mul_one X)
          ∙ ap (power A X) (sym c.in_ok-list.ensures.count);
    }
