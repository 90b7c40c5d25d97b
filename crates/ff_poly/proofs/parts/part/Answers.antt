use Rattle.std.proofs.Common.{◌≡◌, ◌+◌, ◌*◌, length, sym, ◌∙◌, ap, subst, arith, All}
use Rattle.std.proofs.lemmas.List.Elements.{All-push}
use Rattle.ff_theory.specs.Ring.{IsElement}
use Rattle.ff_poly.proofs.PthRoots.{roots-push, roots-end}
use Rattle.ff_poly.proofs.parts.part.Goals as goal

pub loop-at-preserved : goal.loop-at-preserved
loop-at-preserved g c =
    let K = g.K.Ring.elements c.args.k.now in
    let laws = g.met.K.Ring.laws c.args.k.now in
    let tests = g.met.K.Ring.tests c.args.k.now in
    let positive = (g.met.K.FiniteField.is_finite_field c.args.k.now).least.positive in
    let old = c.loop-at.roots.items in
    let new = c.push.new.self.items in
    let e = c.in_ok-push.ensures.ok in
    let n : length new ≡ length old + 1 = omega (arith, c.in_ok-push.ensures.len) in
    let more : length new * c.args.p ≡ length old * c.args.p + c.args.p = ap (λ m. m * c.args.p) n
    ∙ (let w : (length old + 1) * c.args.p ≡ length old * c.args.p + c.args.p = omega arith in w) in
    record {
      at = omega (arith, c.loop-at.invariant.at, more);
      each = subst (All (IsElement K)) (sym e)
          (All-push (IsElement K) old c.root.result c.loop-at.invariant.each
          c.root.ensures.element);
      roots = roots-push K laws tests K.characteristic positive c.args.c.now old new c.args.i
          c.args.p c.loop-at.at c.root.result 0 e c.loop-at.invariant.at c.loop-at-test.true
          c.root.ensures.value c.loop-at.invariant.roots;
    }

pub returns-then-c-at-clause-value : goal.returns-then-c-at-clause-value
returns-then-c-at-clause-value g c =
    let K = g.K.Ring.elements c.args.k.now in
    let laws = g.met.K.Ring.laws c.args.k.now in
    let tests = g.met.K.Ring.tests c.args.k.now in
    let positive = (g.met.K.FiniteField.is_finite_field c.args.k.now).least.positive in
    let old = c.loop-at.roots.items in
    let new = c.push.new.self.items in
    let e = c.in_ok-push.ensures.ok in
    let n : length new ≡ length old + 1 = omega (arith, c.in_ok-push.ensures.len) in
    let more : length new * c.args.p ≡ length old * c.args.p + c.args.p = ap (λ m. m * c.args.p) n
    ∙ (let w : (length old + 1) * c.args.p ≡ length old * c.args.p + c.args.p = omega arith in w) in
    roots-end K laws tests K.characteristic positive c.args.c.now new c.trim.result c.args.i
    c.args.p c.trim.ensures.value (omega (arith, c.loop-at.invariant.at, more, c.if-c-at.true))
    (roots-push K laws tests K.characteristic positive c.args.c.now old new c.args.i c.args.p
    c.loop-at.at c.root.result 0 e c.loop-at.invariant.at c.loop-at-test.true c.root.ensures.value
    c.loop-at.invariant.roots)

pub returns-clause-value : goal.returns-clause-value
returns-clause-value g c =
    let K = g.K.Ring.elements c.args.k.now in
    roots-end K (g.met.K.Ring.laws c.args.k.now) (g.met.K.Ring.tests c.args.k.now) K.characteristic
    (g.met.K.FiniteField.is_finite_field c.args.k.now).least.positive
    c.args.c.now c.loop-at.roots.items c.trim-2.result c.args.i c.args.p c.trim-2.ensures.value
    (omega (arith, c.loop-at.invariant.at, c.loop-at-test.false)) c.loop-at.invariant.roots
