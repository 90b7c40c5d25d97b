use Rattle.std.proofs.Common.{◌%◌, sym, ◌∙◌, ap, subst, arith}
use Rattle.ff_data.specs.Systems.{weight_at}
use Rattle.ff_ring.specs.Ring.{element_in}
use Rattle.ff_relation.specs.InRing.{PowersOf}
use Rattle.ff_relation.proofs.Coprime.{prime-exists}
use Rattle.ff_relation.proofs.relations.relation.Goals as goal

pub returns-clause-exact : goal.returns-clause-exact
returns-clause-exact g c = λ rule.
    let F = g.K.Ring.elements c.args.alg.now.k in
    let s = c.args.s.now in
    let rank = c.requires.weights in
    let some = prime-exists s.e (weight_at s) c.requires.positive
    (λ i q. ap (λ n. weight_at s i % n) (sym rank) ∙ rule.classes i (omega (arith, q, rank))) in
    c.relation_of.ensures.exact (subst (λ x. PowersOf F s (element_in F s x) c.in_ok-p.p)
    c.rows.ensures (c.in_ok-p.ensures.exact rule
    (ap (element_in F s) c.rows.ensures ∙ c.in_ok-w.ensures.exact rank)
    (c.choice-i.ensures.prime some.0 some.1 some.2)))

pub returns-clause-back : goal.returns-clause-back
returns-clause-back g c = λ rule.
    let F = g.K.Ring.elements c.args.alg.now.k in
    let s = c.args.s.now in
    let rank = c.requires.weights in
    let some = prime-exists s.e (weight_at s) c.requires.positive
    (λ i q. ap (λ n. weight_at s i % n) (sym rank) ∙ rule.classes i (omega (arith, q, rank))) in
    c.relation_of.ensures.back (subst (λ x. PowersOf F s (element_in F s x) c.in_ok-p.p)
    c.rows.ensures (c.in_ok-p.ensures.exact rule
    (ap (element_in F s) c.rows.ensures ∙ c.in_ok-w.ensures.exact rank)
    (c.choice-i.ensures.prime some.0 some.1 some.2)))
