use Rattle.std.proofs.Common.{◌≡◌, sym, ◌∙◌, ap, subst, arith, All}
use Rattle.std.proofs.lemmas.List.Elements.{All-push}
use Rattle.ff_theory.specs.Ring.{IsElement}
use Rattle.ff_theory.specs.Vector.{vector_of}
use Rattle.ff_theory.specs.Values.{plane_of}
use Rattle.ff_theory.proofs.Coeffs.{coeff-push}
use Rattle.ff_charts.specs.Lattice.{flat}
use Rattle.ff_lattice.proofs.vectors.entries.Goals as goal

pub loop-j-preserved : goal.loop-j-preserved
loop-j-preserved g c =
    let F = g.K.Ring.elements c.args.k.now in
    let e = c.in_ok-push.ensures.items in
    let old = c.loop-j.entries.items in
    let h = c.loop-j.invariant in
    record {
      len = omega (arith, c.in_ok-push.ensures.len, h.len);
      each = subst (All (IsElement F)) (sym e)
          (All-push (IsElement F) old c.entry.result h.each c.entry.ensures.element);
      value = λ i l. ap (λ p. vector_of F p i) e
          ∙ coeff-push F.ring F.value old c.entry.result
          (flat F.ring c.args.l (plane_of F c.args.rows.now)) c.loop-j.j h.len h.value
          c.entry.ensures.value i l;
    }

pub returns-clause-value : goal.returns-clause-value
returns-clause-value g c =
    let all : c.loop-j.j ≡ c.args.len =
    omega (arith, c.loop-j-test.false, c.loop-j.auto.j-end) in
    λ i l. c.loop-j.invariant.value i (omega (arith, all, l))
