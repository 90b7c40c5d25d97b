use Rattle.std.proofs.Common.{ap, subst, sym, ◌∙◌}
use Rattle.ff_theory.specs.Ring.{power}
use Rattle.ff_theory.specs.Lawful.{lawful_field}
use Rattle.ff_theory.specs.Values.{plane_of}
use Rattle.ff_theory.proofs.Element.{algebra_is_ring}
use Rattle.ff_elem.specs.Elem.{algebra_in}
use Rattle.ff_subst.specs.Residues.{IsReduced, IsResidue}
use Rattle.ff_subst.proofs.ResidueLemmas.{residue-is}
use Rattle.ff_subst.proofs.powers.first_multiple.Goals as goal

pub returns-clause-reduced : goal.returns-clause-reduced
returns-clause-reduced g c =
    let K = g.K.Ring.elements c.args.alg.now.k in
    record {
      list = c.in_ok-list.ensures.reduced;
      next = subst (IsReduced K) (sym c.in_ok-next.ensures) c.requires;
    }

pub returns-clause-count : goal.returns-clause-count
returns-clause-count g c = c.in_ok-list.ensures.count

pub returns-clause-multiples : goal.returns-clause-multiples
returns-clause-multiples g c =
    let K = g.K.Ring.elements c.args.alg.now.k in
    let L = g.K.Ring.lawful c.args.alg.now.k in
    let f = c.args.alg.now.f in
    let A = algebra_in L f in
    λ m u v h. record {
      list = c.in_ok-list.ensures.residues m (λ j. A.mul u (power A v j));
      next = residue-is K L f m u _ c.in_ok-next.next
          (sym ((algebra_is_ring (lawful_field L) (plane_of K f)).mul_one u)
          ∙ ap (λ n. A.mul u (power A v n)) (sym c.in_ok-list.ensures.count))
          (subst (IsResidue L f m u) (sym c.in_ok-next.ensures) h);
    }
