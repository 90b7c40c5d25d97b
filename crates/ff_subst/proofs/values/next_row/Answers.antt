use Rattle.std.proofs.Common.{subst}
use Rattle.std.specs.Prelude.{IfOk, ◌≡◌}
use Rattle.ff_elem.specs.Elem.{algebra_in, elem_of}
use Rattle.ff_subst.proofs.values.next_row.Goals as goal

pub value_of_poly-requires : goal.value_of_poly-requires
value_of_poly-requires g c =
    record { at = c.requires.at.list; p = c.requires.row }

pub next-requires : goal.next-requires
next-requires g c =
    record {
      value = c.requires.value;
      by = c.requires.y;
      next = c.in_ok-row.ensures.element;
    }

pub returns-clause-value : goal.returns-clause-value
returns-clause-value g c =
    let L = g.K.Ring.lawful c.args.alg.now.k in
    let f = c.args.alg.now.f in
    let A = algebra_in L f in
    let X = elem_of L f c.args.pair.now.x in
    let last = A.mul (elem_of L f c.args.pair.now.y) (elem_of L f c.args.value.now) in
    subst (λ p. IfOk c.next.result (λ r. elem_of L f r ≡ A.add p last))
    (c.in_ok-row.ensures.value X c.requires.at) c.next.ensures.value
