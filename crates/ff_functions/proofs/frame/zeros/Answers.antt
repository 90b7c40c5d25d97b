use Rattle.std.proofs.Common.{◌≡◌, ℕ, length, sym, ap, subst, arith, All}
use Rattle.std.proofs.lemmas.List.Elements.{All-push}
use Rattle.ff_theory.specs.Ring.{IsElement}
use Rattle.ff_theory.specs.Vector.{vector_of}
use Rattle.ff_functions.proofs.HeldImages.{zero_push}
use Rattle.ff_functions.proofs.frame.zeros.Goals as goal

pub loop-j-init : goal.loop-j-init
loop-j-init g c =
    let F = g.K.Ring.elements c.args.k.now in
    let e = c.in_ok-zeros.ensures.items in
    record {
      vector = record {
        each = λ i d l. absurd (omega (arith, l, ap length e));
        len = ap length e;
      };
      value = λ i. ap (λ t. vector_of F t i) e;
    }

pub loop-j-preserved : goal.loop-j-preserved
loop-j-preserved g c =
    let F = g.K.Ring.elements c.args.k.now in
    let h = c.loop-j.invariant in
    let p = c.in_ok-push.ensures in
    record {
      vector = record {
        each = subst (All (IsElement F)) (sym p.items)
            (All-push (IsElement F) c.loop-j.zeros.items c.zero.result h.vector.each
            c.zero.ensures.element);
        len = omega (arith, p.len, h.vector.len);
      };
      value = subst (λ t. (i : ℕ) → vector_of F t i ≡ F.zero) (sym p.items)
          (zero_push F (g.K.Ring.lawful c.args.k.now) c.loop-j.zeros.items c.zero.result h.value
          c.zero.ensures.value);
    }

pub returns-clause-vector : goal.returns-clause-vector
returns-clause-vector g c =
    let h = c.loop-j.invariant.vector in
    record { each = h.each; len = omega (arith, h.len, c.loop-j-test.false, c.loop-j.auto._j-end) }

pub returns-clause-value : goal.returns-clause-value
returns-clause-value g c = c.loop-j.invariant.value
