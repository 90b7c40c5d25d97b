use Rattle.std.proofs.Common.{ap, length, sym, ◌∙◌}
use Rattle.ff_theory.specs.Ring.{power}
use Rattle.ff_elem.specs.Elem.{algebra_in, elem_of}
use Rattle.ff_subst.proofs.ResidueLemmas.{next-multiple}
use Rattle.ff_subst.proofs.powers.more_powers.Goals as goal

pub append_element-requires : goal.append_element-requires
append_element-requires g c =
    record { m = c.requires.m; list = c.requires.at.list; e = c.requires.at.next }

pub mul-requires : goal.mul-requires
mul-requires g c = record { a = c.requires.e; b = c.requires.at.next }

pub returns-clause-reduced : goal.returns-clause-reduced
returns-clause-reduced g c =
    record { list = c.in_ok-list.ensures.reduced; next = c.in_ok-next.ensures.element }

pub returns-clause-count : goal.returns-clause-count
returns-clause-count g c = c.in_ok-list.ensures.count

pub returns-clause-powers : goal.returns-clause-powers
returns-clause-powers g c =
    let K = g.K.Ring.elements c.args.alg.now.k in
    let L = g.K.Ring.lawful c.args.alg.now.k in
    let f = c.args.alg.now.f in
    let A = algebra_in L f in
    let u = elem_of L f c.args.e.now in
    let at = c.args.at.now in
    λ h. record {
      list = c.in_ok-list.ensures.residues (λ j. A.mul u (power A u j)) h.list h.next;
      next = c.in_ok-next.ensures.value
          ∙ next-multiple K L f c.args.m.now u u (elem_of L f at.next) (length at.list.planes)
          h.next ∙ ap (λ n. A.mul u (power A u n)) (sym c.in_ok-list.ensures.count);
    }
