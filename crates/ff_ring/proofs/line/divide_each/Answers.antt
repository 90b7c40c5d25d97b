use Rattle.std.proofs.Common.{◌≡◌, refl, ◌∙◌, ap, arith, subst, sym, IfSome, IfNone}
use Rattle.ff_theory.specs.Divides.{Divides}
use Rattle.ff_theory.specs.Values.{poly_of, polys_over, IsPoly}
use Rattle.ff_ring.specs.Entries.{entry_at}
use Rattle.ff_ring.proofs.EntryLemmas.{entry-read}
use Rattle.ff_ring.proofs.QuotientLemmas.{quotients-push}
use Rattle.ff_ring.proofs.line.divide_each.Goals as goal

pub returns-in-None-clause-none : goal.returns-in-None-clause-none
returns-in-None-clause-none g c =
    let F = g.K.Ring.elements c.args.k.now in
    let P = polys_over F in
    let q = poly_of F c.args.q.now in
    let i = c.loop-i.i in
    let x = c.index-a-i.result in
    λ h. subst (λ o. IfNone o (¬ Divides P q (poly_of F x))) c.in-None.is
    c.in_ok-quotient.ensures.none
    (subst (Divides P q) (sym (ap (poly_of F) c.index-a-i.is
    ∙ entry-read F c.args.a.now i x (omega (arith, c.loop-i-test.true))))
    (h i (omega (arith, c.loop-i-test.true))))

pub loop-i-preserved : goal.loop-i-preserved
loop-i-preserved g c =
    let F = g.K.Ring.elements c.args.k.now in
    let P = polys_over F in
    let a = c.args.a.now in
    let q = c.args.q.now in
    let i = c.loop-i.i in
    let x = c.index-a-i.result in
    quotients-push F a q c.loop-i.items.items c.in-Some.quotient c.push.new.self.items (poly_of F x)
    i _ c.in_ok-push-in-Some.ensures.items refl c.loop-i.invariant
    (subst (λ o. IfSome o (IsPoly F)) c.in-Some.is c.in_ok-quotient.ensures.poly)
    (ap (poly_of F) c.index-a-i.is ∙ entry-read F a i x (omega (arith, c.loop-i-test.true)))
    (subst (λ o. IfSome o (λ r. poly_of F x ≡ P.mul (poly_of F r) (poly_of F q))) c.in-Some.is
    c.in_ok-quotient.ensures.value)
