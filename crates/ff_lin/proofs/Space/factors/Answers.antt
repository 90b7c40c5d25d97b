use Rattle.std.proofs.Common.{◌<◌, length, get_or, sym, ◌∙◌, ap, arith, subst, All}
use Rattle.std.proofs.lemmas.List.Elements.{All-push}
use Rattle.ff_theory.specs.Ring.{IsElement}
use Rattle.ff_theory.proofs.Coeffs.{coeff-push}
use Rattle.ff_lin.specs.Space.{SpaceParts, pivot}
use Rattle.ff_theory.specs.Vector.{vector_of}
use Rattle.ff_lin.proofs.Steps.{pivot_entry}
use Rattle.ff_lin.proofs.Space.factors.Goals as goal

pub loop-i-preserved : goal.loop-i-preserved
loop-i-preserved g c =
    let K = g.K.Ring.elements c.args.k.now in
    let s = c.args.self.now in
    let e = c.in_ok-push.ensures.items in
    let li : c.loop-i.i < length s.basis = omega
    (arith, c.requires.space.count, ap (λ (t : SpaceParts). length t.pivots) c.self.view_is) in
    record {
      len = omega (arith, c.in_ok-push.ensures.len);
      each = subst (All (IsElement K)) (sym e)
          (All-push (IsElement K) c.loop-i.factors.items c.neg.result c.loop-i.invariant.each
          c.neg.ensures.element);
      value = λ j l. ap (λ p. vector_of K p j) e
          ∙ coeff-push K.ring K.value c.loop-i.factors.items c.neg.result
          (λ j. K.neg (vector_of K c.args.v.now (pivot s j))) c.loop-i.i c.loop-i.invariant.len
          c.loop-i.invariant.value
          (c.neg.ensures.value ∙ ap K.neg
          (pivot_entry K s c.args.v.now c.loop-i.i c.index.result.now c.requires.space
          c.requires.v li
          (c.index.ensures ∙ ap (λ (t : SpaceParts). get_or t.pivots c.loop-i.i c.index.result.now)
          c.self.view_is))) j l;
    }

pub returns-clause-vector : goal.returns-clause-vector
returns-clause-vector g c = record {
  each = c.loop-i.invariant.each;
  len = omega (
    arith,
    c.loop-i.invariant.len,
    c.requires.space.count,
    ap
        (λ (t : SpaceParts). length t.pivots) c.self.view_is,
  );
}

pub returns-clause-value : goal.returns-clause-value
returns-clause-value g c i l =
    c.loop-i.invariant.value i (omega (
      arith,
      l,
      c.requires.space.count,
      ap (λ (t : SpaceParts).
          length t.pivots) c.self.view_is,
    ))
