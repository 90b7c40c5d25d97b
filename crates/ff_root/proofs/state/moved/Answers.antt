use Rattle.std.proofs.Common.{◌≡◌, ◌∙◌, sym}
use Rattle.ff_theory.proofs.Results.{ok_map}
use Rattle.ff_table.specs.Shift.{shift}
use Rattle.ff_ring.specs.Ring.{ring_in, elements_in, monomial_in}
use Rattle.ff_root.proofs.StateLemmas.{moved-nothing}
use Rattle.ff_root.proofs.state.moved.Goals as goal

pub returns-then-is_zero-clause-value : goal.returns-then-is_zero-clause-value
returns-then-is_zero-clause-value g c = λ rule.
    let F = g.K.Ring.elements c.args.k.now in
    let L = g.K.Ring.lawful c.args.k.now in
    let s = c.args.s.now in
    let a = c.args.a.now in
    let p = c.args.p.now in
    ok_map (λ (r : _). r.items ≡ p)
    (λ (r : _). elements_in F s r.items ≡ shift (ring_in F s) (monomial_in F s a)
    (elements_in F s p))
    c.copies.result
    (λ r h. moved-nothing F L s rule a p r.items
    (L.tests.same_true _ _ (sym c.is_zero.ensures ∙ c.if-is_zero.true)) h)
    c.copies.ensures

pub returns-clause-value : goal.returns-clause-value
returns-clause-value g c = λ rule. c.ring_shift.ensures.value
