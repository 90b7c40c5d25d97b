use Rattle.std.proofs.Common.{ap, arith, length, subst, sym}
use Rattle.ff_subst.specs.Congruence.{ArePlanes}
use Rattle.ff_subst.proofs.cleared.nothing.Goals as goal

pub returns-clause-cleared : goal.returns-clause-cleared
returns-clause-cleared g c =
    let K = g.K.Ring.elements c.args.k.now in
    record {
      den = c.in_ok-den.ensures.poly;
      nonzero = omega (arith, c.in_ok-den.ensures.len);
      planes = subst (ArePlanes K)
          (sym c.new-items.ensures.items) (λ k d l. absurd (omega arith));
    }

pub returns-clause-count : goal.returns-clause-count
returns-clause-count g c = ap length c.new-items.ensures.items
