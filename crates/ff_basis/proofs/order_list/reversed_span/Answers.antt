use Rattle.std.proofs.Common.{ℕ}
use Rattle.std.proofs.Common.{Vec, Global}
use Rattle.ff_theory.proofs.Results.{ok_map}
use Rattle.ff_basis.proofs.Lengths.{reversed_spans}
use Rattle.ff_basis.proofs.order_list.reversed_span.Goals as goal

pub returns-in_ok-vectors-in-Some-clause-same : goal.returns-in_ok-vectors-in-Some-clause-same
returns-in_ok-vectors-in-Some-clause-same g c =
    let F = g.K.Ring.elements c.args.k.now in
    let items : Vec ℕ Global → _ = λ v. v.items in
    let h = c.in_ok-vectors-in-Some.ensures in
    ok_map _ _ c.span.result (λ s e. reversed_spans F (g.K.Ring.lawful c.args.k.now) c.args.rows.now
    c.args.count c.args.n c.args.l c.requires.room c.requires.few items
    c.in_ok-vectors-in-Some.vectors.items c.deref.result.now c.in-Some.len c.deref.ensures.value
    c.in-Some.ensures.1 h.len h.vectors h.value s e) c.span.ensures.same
