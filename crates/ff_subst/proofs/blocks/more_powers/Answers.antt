use Rattle.std.proofs.Common.{ap, arith, length, suc, sym, ◌+◌, ◌∙◌, ◌≡◌}
use Rattle.ff_theory.specs.Ring.{power}
use Rattle.ff_elem.specs.Elem.{algebra_in, elem_of}
use Rattle.ff_subst.proofs.blocks.more_powers.Goals as goal

pub append-requires : goal.append-requires
append-requires g c =
    record { list = c.requires.at.list.cleared; e = c.requires.at.list.next }

pub mul-requires : goal.mul-requires
mul-requires g c = record { a = c.requires.x; b = c.requires.at.list.next }

pub returns : goal.returns
returns g c =
    let L = g.K.Ring.lawful c.args.alg.now.k in
    let f = c.args.alg.now.f in
    let A = algebra_in L f in
    let X = elem_of L f c.args.x.now in
    let n = length c.args.at.list.planes in
    let q : suc n ≡ n + 1 = omega arith in
    record {
      list = record {
        cleared = c.in_ok-list.ensures.cleared;
        some = omega (arith, c.in_ok-list.ensures.count);
        next = c.in_ok-next.ensures.element;
      };
      powers = c.in_ok-list.ensures.elements (power A X) c.requires.at.powers c.requires.at.next;
      next = c.in_ok-next.ensures.value ∙ ap (A.mul X) c.requires.at.next
          ∙ ap (power A X) (q ∙ sym c.in_ok-list.ensures.count);
    }
