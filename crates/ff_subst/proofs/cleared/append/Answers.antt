use Rattle.ff_elem.proofs.PolyLemmas.{nonzero-length}
use Rattle.ff_elem.proofs.Quotients.{element-nonzero}
use Rattle.ff_subst.proofs.cleared.append.Goals as goal

pub common_multiple-requires : goal.common_multiple-requires
common_multiple-requires g c =
    let K = g.K.Ring.elements c.args.alg.now.k in
    let L = g.K.Ring.lawful c.args.alg.now.k in
    let e = c.args.e.now in
    record {
      a = c.requires.list.den;
      some_a = c.requires.list.nonzero;
      b = c.requires.e.den;
      some_b = nonzero-length K L e.den (element-nonzero K L c.args.alg.now.f e c.requires.e);
    }

pub append_multiple-requires : goal.append_multiple-requires
append_multiple-requires g c =
    record { list = c.requires.list; e = c.requires.e; common = c.in_ok-c.ensures }
