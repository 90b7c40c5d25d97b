use Rattle.std.proofs.Common.{◌≡◌, ◌-◌, ◌<◌, [], length, ◌∙◌, ap, ap₂, arith}
use Rattle.std.proofs.lemmas.List.{get_or_default, with_items_is}
use Rattle.ff_theory.specs.Monomial.{monomial}
use Rattle.ff_theory.specs.Span.{unit_at}
use Rattle.ff_theory.specs.Values.{polys_over}
use Rattle.ff_lin.specs.Space.{rows_of}
use Rattle.ff_ring.specs.Entries.{entry_at}
use Rattle.ff_relation.specs.InRing.{number_at}
use Rattle.ff_relation.proofs.SplitLemmas.{split-take, number-read}
use Rattle.ff_relation.proofs.reduce.take.Goals as goal

pub returns-clause-exact : goal.returns-clause-exact
returns-clause-exact g c = λ w b rank high coefficient t level a old.
    let F = g.K.Ring.elements c.args.k.now in
    let L = g.K.Ring.lawful c.args.k.now in
    let P = polys_over F in
    let s = c.args.s.now in
    let p = c.args.p.now in
    let rows = c.args.rows.now in
    let l = c.args.l in
    let j = c.index-j.result.now in
    let at = c.saturating_sub-at.result in
    let x = c.mul-factor.result in
    let y = c.neg.result in
    let form = c.requires.p in
    let fj : j ≡ number_at p.exponents.items l = number-read p.exponents.items l j
    (omega (arith, c.requires.l, form.exponent_count)) c.index-j.ensures in
    let low : j < s.e = omega (
      arith,
      fj,
      form.exponents l 0 (omega (arith, c.requires.l, form.exponent_count)),
    ) in
    let limit : c.index.result.now ≡ number_at p.limits.items l =
    number-read p.limits.items l c.index.result.now
    (omega (arith, c.requires.l, form.limit_count)) c.index.ensures in
    let inverse : c.index-2.result.now ≡ number_at p.inverses.items j =
    number-read p.inverses.items j c.index-2.result.now
    (omega (arith, low, form.inverses.len)) c.index-2.ensures in
    let quotient = with_items_is rows.quotient c.add_factor.new.rows
    (c.add_factor.ensures.count ∙ c.deref_mut.ensures.len) in
    let rest = with_items_is rows.rest c.add_multiple.new.rest
    (c.add_multiple.ensures.count ∙ c.deref_mut-2.ensures.len) in
    split-take F L s rank b a t l c.args.d j at c.args.c x y (rows_of rows.quotient.items) _
    (rows_of rows.rest.items) _ form c.requires.l high fj
    (let e : at ≡ c.args.d - c.index.result.now = c.saturating_sub-at.ensures in
    e ∙ ap (λ n. c.args.d - n) limit) level coefficient
    (c.mul-factor.ensures.value ∙ ap (λ n. F.mul (F.value c.args.c) (F.value n)) inverse)
    c.neg.ensures.value
    (λ i q. ap (λ t. entry_at F (rows_of t) i) quotient
    ∙ c.add_factor.ensures.value i
    (omega (arith, q, ap length c.deref_mut.ensures.value, c.requires.rows.quotient.count))
    ∙ ap (λ t. P.add (entry_at F (rows_of t) i)
    (P.mul (monomial F.ring (F.value x) at) (unit_at P j i))) c.deref_mut.ensures.value)
    (λ i q. ap (λ t. entry_at F (rows_of t) i) rest
    ∙ c.add_multiple.ensures.value i
    (omega (arith, q, ap length c.deref_mut-2.ensures.value, c.requires.rows.rest.count))
    ∙ ap₂ (λ t u. P.add (entry_at F (rows_of t) i)
    (P.mul (monomial F.ring (F.value y) at) (entry_at F u i))) c.deref_mut-2.ensures.value
    (c.rows.ensures ∙ c.index-3.ensures
    ∙ get_or_default p.list.items j c.index-3.result.now []
    (omega (arith, low, form.list.count)))) old
