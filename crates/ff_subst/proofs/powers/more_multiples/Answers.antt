use Rattle.std.proofs.Common.{ap, length, refl, sym, ◌∙◌}
use Rattle.ff_theory.specs.Ring.{power}
use Rattle.ff_elem.specs.Elem.{algebra_in}
use Rattle.ff_subst.proofs.ResidueLemmas.{next-multiple, residue-is}
use Rattle.ff_subst.proofs.powers.more_multiples.Goals as goal

pub append-requires : goal.append-requires
append-requires g c =
    record { m = c.requires.m; list = c.requires.at.list; last = c.requires.at.next }

pub apply-requires : goal.apply-requires
apply-requires g c =
    record { m = c.requires.m; matrix = c.requires.by; r = c.requires.at.next }

pub returns-clause-reduced : goal.returns-clause-reduced
returns-clause-reduced g c =
    record { list = c.in_ok-list.ensures.reduced; next = c.in_ok-next.ensures.reduced }

pub returns-clause-count : goal.returns-clause-count
returns-clause-count g c = c.in_ok-list.ensures.count

pub returns-clause-multiples : goal.returns-clause-multiples
returns-clause-multiples g c =
    let K = g.K.Ring.elements c.args.alg.now.k in
    let L = g.K.Ring.lawful c.args.alg.now.k in
    let f = c.args.alg.now.f in
    let A = algebra_in L f in
    let m = c.args.m.now in
    let n = length c.args.at.now.list.planes in
    λ u v k h. record {
      list = c.in_ok-list.ensures.residues (λ j. A.mul u (power A v j)) h.list h.next;
      next = residue-is K L f m _ _ c.in_ok-next.next
          (next-multiple K L f m u v (A.mul u (power A v n)) n refl
          ∙ ap (λ n. A.mul u (power A v n)) (sym c.in_ok-list.ensures.count))
          (c.in_ok-next.ensures.residue (A.mul u (power A v n)) v k h.next);
    }
