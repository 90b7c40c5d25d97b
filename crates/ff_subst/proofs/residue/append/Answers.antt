use Rattle.ff_subst.proofs.ResidueLemmas.{more-residues}
use Rattle.ff_subst.proofs.residue.append.Goals as goal

pub product-requires : goal.product-requires
product-requires g c =
    record { m = c.requires.m; a = c.requires.last.factor; b = c.requires.list.factor }

pub returns-clause-residues : goal.returns-clause-residues
returns-clause-residues g c =
    let K = g.K.Ring.elements c.args.alg.now.k in
    let L = g.K.Ring.lawful c.args.alg.now.k in
    let f = c.args.alg.now.f in
    λ u h l. more-residues K L f c.args.m.now u c.args.list.now _ c.args.last.now
    c.in_ok-factor.ensures.congruent c.in_ok-items.ensures.count c.in_ok-items.ensures.appended
    h l
