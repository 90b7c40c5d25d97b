use Rattle.std.proofs.Common.{ap, subst, sym, ◌∙◌}
use Rattle.ff_theory.specs.Ring.{power}
use Rattle.ff_theory.specs.Lawful.{lawful_field}
use Rattle.ff_theory.specs.Values.{plane_of}
use Rattle.ff_theory.proofs.Element.{algebra_is_ring}
use Rattle.ff_elem.specs.Elem.{IsElem, algebra_in, elem_of}
use Rattle.ff_subst.proofs.powers.first_power.Goals as goal

pub returns-clause-reduced : goal.returns-clause-reduced
returns-clause-reduced g c =
    let L = g.K.Ring.lawful c.args.alg.now.k in
    record {
      list = c.in_ok-list.ensures.reduced;
      next = subst (IsElem L c.args.alg.now.f) (sym c.in_ok-next.ensures) c.requires;
    }

pub returns-clause-count : goal.returns-clause-count
returns-clause-count g c = c.in_ok-list.ensures.count

pub returns-clause-powers : goal.returns-clause-powers
returns-clause-powers g c =
    let K = g.K.Ring.elements c.args.alg.now.k in
    let L = g.K.Ring.lawful c.args.alg.now.k in
    let f = c.args.alg.now.f in
    let A = algebra_in L f in
    let u = elem_of L f c.args.e.now in
    λ m. record {
      list = c.in_ok-list.ensures.residues m (λ j. A.mul u (power A u j));
      next = ap (elem_of L f) c.in_ok-next.ensures
          ∙ sym ((algebra_is_ring (lawful_field L) (plane_of K f)).mul_one u)
          ∙ ap (λ n. A.mul u (power A u n)) (sym c.in_ok-list.ensures.count);
    }
