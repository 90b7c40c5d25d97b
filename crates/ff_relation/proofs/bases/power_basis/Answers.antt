use Rattle.std.proofs.Common.{sym, subst}
use Rattle.ff_table.specs.Powers.{IsPrimeTo}
use Rattle.ff_relation.specs.InRing.{AreLimits, HaveGaps, ArePowersOf}
use Rattle.ff_relation.proofs.bases.power_basis.Goals as goal

pub returns-clause-exact : goal.returns-clause-exact
returns-clause-exact g c = λ rule w h prime powers.
    let F = g.K.Ring.elements c.args.k.now in
    let L = g.K.Ring.lawful c.args.k.now in
    let s = c.args.s.now in
    let W = c.args.weight in
    record {
      rule = rule;
      weight = W;
      weighs = h;
      prime = prime;
      powers = powers;
      exponents = c.in_ok-exponents.ensures.class
          (subst (λ n. IsPrimeTo n W) c.requires.table.weights prime);
      limits = subst (λ t. AreLimits s W t c.in_ok-limits.limits.items) c.deref.ensures.value
          c.in_ok-limits.ensures.value;
      inverses = c.in_ok-inverses.ensures.value rule c.requires.table w W h
          (subst (ArePowersOf F s w) (sym c.deref-3.ensures.value) powers);
      gaps = subst (λ t. HaveGaps t c.in_ok-gaps.gaps.items) c.deref-2.ensures.value
          c.in_ok-gaps.ensures.all;
    }
