use Rattle.std.proofs.Common.{◌≡◌, ◌∙◌, true, false, arith, sym}
use Rattle.std.proofs.lemmas.List.{length-map}
use Rattle.ff_lin.specs.Space.{rows_of}
use Rattle.ff_poles.proofs.PickLemmas.{in_first, first_in, inside_more}
use Rattle.ff_poles.proofs.pick.first_outside.Goals as goal

pub loop-i-init : goal.loop-i-init
loop-i-init g c = λ j a l. absurd (omega (arith, a, l))

pub loop-i-preserved : goal.loop-i-preserved
loop-i-preserved g c =
    let F = g.K.Ring.elements c.args.k.now in
    let L = g.K.Ring.lawful c.args.k.now in
    let vectors = c.args.vectors.now in
    inside_more F (rows_of vectors) c.args.n c.loop-i.i c.loop-i.invariant
    (in_first F L vectors c.args.n c.requires.within c.in_ok-space.space.basis
    c.in_ok-space.ensures.same c.loop-i.i c.index-vectors-i.result c.index-vectors-i.is
    c.loop-i-test.true c.deref.result.now c.deref.ensures.value
    (c.contains.ensures.0 c.if-not-contains.false))

pub returns-then-not-contains : goal.returns-then-not-contains
returns-then-not-contains g c =
    let F = g.K.Ring.elements c.args.k.now in
    let L = g.K.Ring.lawful c.args.k.now in
    let vectors = c.args.vectors.now in
    record {
      outside = record {
        after = λ l. omega (arith, c.loop-i.auto);
        outside = λ l h. absurd (let k = c.contains.ensures.1 (first_in F L vectors c.args.n
            c.requires.within c.in_ok-space.space.basis c.in_ok-space.ensures.same c.loop-i.i
            c.index-vectors-i.result c.index-vectors-i.is c.loop-i-test.true c.deref.result.now
            c.deref.ensures.value h) in
            let e : false ≡ true = sym c.if-not-contains.true ∙ k in cc);
        inside = λ j a l m. c.loop-i.invariant j a l;
      };
    }

pub returns : goal.returns
returns g c =
    let n = length-map c.args.vectors.now (λ v. v.items) in
    record {
      outside = record {
        after = λ l. absurd (omega (arith, l, n));
        outside = λ l h. absurd (omega (arith, l, n));
        inside = λ j a l m. c.loop-i.invariant j a (omega (arith, l, c.loop-i-test.false));
      };
    }
