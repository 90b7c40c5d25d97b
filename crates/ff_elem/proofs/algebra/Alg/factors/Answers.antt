use Rattle.std.proofs.Common.{subst}
use Rattle.ff_elem.specs.Euclid.{AreLast}
use Rattle.ff_elem.proofs.Cofactors.{ok_four, ends-with-zero, factor-some, factors-of-end}
use Rattle.ff_elem.proofs.algebra.Alg.factors.Goals as goal

pub normalised_parts-requires-clause-b_nonzero : goal.normalised_parts-requires-clause-b_nonzero
normalised_parts-requires-clause-b_nonzero g c =
    let F = g.K.Ring.elements c.args.self.now.k in
    let L = g.K.Ring.lawful c.args.self.now.k in
    let f = c.args.self.now.f in
    let a = c.args.a.now in
    let last = c.in_ok-before.last in
    let ends = subst (λ n. AreLast L f n c.in_ok-before.before last) c.rows.ensures
    c.in_ok-before.ensures in
    factor-some F L f c.args.self.now.plane c.args.self.now.has_y a c.requires.a
    c.in_ok-before.before last ends c.requires.nonzero
    (ends-with-zero F L f c.args.self.now.plane c.args.self.now.has_y a c.requires.a
    c.in_ok-before.before last ends c.requires.none)

pub returns : goal.returns
returns g c =
    let F = g.K.Ring.elements c.args.self.now.k in
    let L = g.K.Ring.lawful c.args.self.now.k in
    let f = c.args.self.now.f in
    let a = c.args.a.now in
    let last = c.in_ok-before.last in
    let ends = subst (λ n. AreLast L f n c.in_ok-before.before last) c.rows.ensures
    c.in_ok-before.ensures in
    let e = c.normalised_parts.ensures in
    record {
      factors = ok_four _ _ _ _ _ c.normalised_parts.result
          (λ r p q s t. factors-of-end F L f c.args.self.now.plane c.args.self.now.has_y a
          c.requires.a c.in_ok-before.before last ends c.requires.nonzero
          (ends-with-zero F L f c.args.self.now.plane c.args.self.now.has_y a c.requires.a
          c.in_ok-before.before last ends c.requires.none) r.0 r.1 p q s t)
          e.first e.second e.first_part e.second_part;
    }
