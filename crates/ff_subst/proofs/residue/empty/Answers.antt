use Rattle.std.proofs.Common.{ap, arith, length, subst, sym}
use Rattle.ff_subst.specs.Congruence.{ArePlanes}
use Rattle.ff_subst.proofs.ResidueLemmas.{no-residues}
use Rattle.ff_subst.proofs.residue.empty.Goals as goal

pub returns-clause-reduced : goal.returns-clause-reduced
returns-clause-reduced g c =
    let K = g.K.Ring.elements c.args.alg.now.k in
    record {
      factor = c.in_ok-factor.ensures.poly;
      planes = subst (ArePlanes K)
          (sym c.new-items.ensures.items) (λ k d l. absurd (omega arith));
    }

pub returns-clause-count : goal.returns-clause-count
returns-clause-count g c =
    ap length c.new-items.ensures.items

pub returns-clause-residues : goal.returns-clause-residues
returns-clause-residues g c =
    let K = g.K.Ring.elements c.args.alg.now.k in
    let L = g.K.Ring.lawful c.args.alg.now.k in
    let f = c.args.alg.now.f in
    λ m u. no-residues K L f m u _ c.in_ok-factor.ensures.value
    (ap length c.new-items.ensures.items)
