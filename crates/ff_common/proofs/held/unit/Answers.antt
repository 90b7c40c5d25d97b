use Rattle.std.proofs.Common.{sym, ◌∙◌, ap, arith, subst, All}
use Rattle.std.proofs.lemmas.List.Elements.{All-push}
use Rattle.ff_theory.specs.Ring.{IsElement}
use Rattle.ff_theory.specs.Span.{unit_at}
use Rattle.ff_theory.specs.Vector.{vector_of}
use Rattle.ff_theory.proofs.Coeffs.{coeff-push}
use Rattle.ff_common.proofs.HeldSpaces.{unit_whole}
use Rattle.ff_common.proofs.held.unit.Goals as goal

pub loop-j-preserved : goal.loop-j-preserved
loop-j-preserved g c =
    let F = g.K.Ring.elements c.args.k.now in
    let e = c.in_ok-push.ensures.items in
    record {
      len = omega (arith, c.in_ok-push.ensures.len, c.loop-j.invariant.len);
      each = subst (All (IsElement F)) (sym e)
          (All-push (IsElement F) c.loop-j.unit.items c.unit_entry.result c.loop-j.invariant.each
          c.unit_entry.ensures.element);
      value = λ j l. ap (λ p. vector_of F p j) e
          ∙ coeff-push F.ring F.value c.loop-j.unit.items c.unit_entry.result
          (unit_at F.ring c.args.s) c.loop-j.j c.loop-j.invariant.len c.loop-j.invariant.value
          c.unit_entry.ensures.value j l;
    }

pub returns-clause-vector : goal.returns-clause-vector
returns-clause-vector g c = record {
  each = c.loop-j.invariant.each;
  len = omega (arith, c.loop-j.invariant.len, c.loop-j-test.false, c.loop-j.auto.j-end);
}

pub returns-clause-value : goal.returns-clause-value
returns-clause-value g c =
    unit_whole (g.K.Ring.elements c.args.k.now) c.loop-j.unit.items c.loop-j.j c.args.s
    c.loop-j.invariant.len
    (omega (arith, c.requires, c.loop-j-test.false, c.loop-j.auto.j-end)) c.loop-j.invariant.value
