use Rattle.std.proofs.Common.{ℕ}
use Rattle.std.proofs.Common.{length, sym, ◌∙◌, ap, subst}
use Rattle.std.proofs.Common.{Option, IfSome, MatchOption}
use Rattle.std.specs.Global.{Vec}
use Rattle.std.proofs.lemmas.List.{length-map}
use Rattle.ff_theory.specs.Vector.{vector_of, IsVector}
use Rattle.ff_theory.proofs.Results.{ok_map}
use Rattle.ff_lin.specs.Space.{rows_of, IsSolution}
use Rattle.ff_relation.proofs.annihilator.combination.Goals as goal

pub returns-in-Some-clause-exact : goal.returns-in-Some-clause-exact
returns-in-Some-clause-exact g c = λ h.
    let F = g.K.Ring.elements c.args.k.now in
    let before = c.args.before.now in
    let rows = rows_of before in
    let last = c.args.last.now in
    let coefficients = c.in-Some.c.items in
    let vector : IsVector F (length before) coefficients = subst
    (λ (o : Option (Vec ℕ)). IfSome o (λ v. IsVector F (length before) v.items)) c.in-Some.is
    c.in_ok-c.ensures.vector in
    let solution : IsSolution F rows last (vector_of F coefficients) = subst
    (λ (o : Option (Vec ℕ)). MatchOption o ((v : ℕ → F.carrier) → ¬ (IsSolution F rows last v))
    (λ v. IsSolution F rows last (vector_of F v.items))) c.in-Some.is c.in_ok-c.ensures.answer in
    let v = c.deref.ensures.value in
    ok_map _ _ c.monic_less.result (λ r k. record {
      coefficients = c.deref.result.now;
      count = ap length v ∙ vector.len ∙ sym (length-map before (λ (x : Vec ℕ). x.items));
      solution = subst (λ t. IsSolution F rows last (vector_of F t)) (sym v) solution;
      monic = k;
    }) c.monic_less.ensures.value

pub returns-in-None-clause-exact : goal.returns-in-None-clause-exact
returns-in-None-clause-exact g c = λ h.
    let F = g.K.Ring.elements c.args.k.now in
    let rows = rows_of c.args.before.now in
    let last = c.args.last.now in
    let none : (v : ℕ → F.carrier) → ¬ (IsSolution F rows last v) = subst
    (λ (o : Option (Vec ℕ)). MatchOption o ((v : ℕ → F.carrier) → ¬ (IsSolution F rows last v))
    (λ v. IsSolution F rows last (vector_of F v.items))) c.in-None.is c.in_ok-c.ensures.answer in
    absurd (none h.coefficients (λ j. sym (h.sum j)))
