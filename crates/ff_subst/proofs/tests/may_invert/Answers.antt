use Rattle.std.proofs.Common.{IsTrue, ap, length, ◌∙◌}
use Rattle.ff_theory.proofs.Results.{ok_map}
use Rattle.ff_elem.specs.Elem.{elem_of}
use Rattle.ff_data.specs.declared.pair.Pair.{Pair}
use Rattle.ff_subst.specs.Powers.{IsSubstitution}
use Rattle.ff_subst.specs.Inverse.{IsOneSided}
use Rattle.ff_subst.proofs.tests.may_invert.Goals as goal

pub may_invert_at-requires : goal.may_invert_at-requires
may_invert_at-requires g c =
    record {
      m = c.requires.m;
      at = c.in_ok-at.ensures.reduced;
      matrix = c.in_ok-at.ensures.pair.by_y;
      f = c.requires.f;
      count = c.in_ok-at.ensures.count ∙ ap length c.rows.ensures;
      back = c.requires.back;
    }

pub returns : goal.returns
returns g c =
    let L = g.K.Ring.lawful c.args.alg.now.k in
    let f = c.args.alg.now.f in
    let m = c.args.m.now in
    let pair = c.args.pair.now in
    let back = c.args.back.now in
    ok_map (λ r. (p : Pair) → IsSubstitution L f m (elem_of L f p.x) (elem_of L f p.y) c.in_ok-at.at
    → IsOneSided L c.args.f.now f p back → IsTrue r)
    (λ r. IsOneSided L c.args.f.now f pair back → IsTrue r) c.may_invert_at.result
    (λ r h u. h pair c.in_ok-at.ensures.pair u) c.may_invert_at.ensures
