use Rattle.std.proofs.Common.{List, [], ap, arith, get_or, length, subst, sym, ℕ, ◌∙◌}
use Rattle.std.proofs.lemmas.List.{get_or_default}
use Rattle.ff_theory.specs.Values.{IsPlane}
use Rattle.ff_elem.proofs.RowLemmas.{pushed-each, pushed-length}
use Rattle.ff_subst.specs.Congruence.{ArePlanes}
use Rattle.ff_subst.specs.Cleared.{IsMultipleBy}
use Rattle.ff_subst.proofs.Remainders.{pushed}
use Rattle.ff_subst.proofs.cleared.products.Goals as goal

pub scale-requires : goal.scale-requires
scale-requires g c =
    let K = g.K.Ring.elements c.args.k.now in
    record {
      c = c.requires.c;
      a = subst (IsPlane K) (sym c.plane-item.is)
          (c.requires.planes c.loop-plane.plane-index c.plane-item.result c.loop-plane-test.true);
    }

pub loop-plane-init : goal.loop-plane-init
loop-plane-init g c =
    let K = g.K.Ring.elements c.args.k.now in
    record {
      count = ap length c.in_ok-products.ensures.items;
      each = subst (ArePlanes K) (sym c.in_ok-products.ensures.items)
          (λ k d l. absurd (omega arith));
      value = λ j l. absurd (omega arith);
    }

pub loop-plane-preserved : goal.loop-plane-preserved
loop-plane-preserved g c =
    let K = g.K.Ring.elements c.args.k.now in
    let L = g.K.Ring.lawful c.args.k.now in
    let i = c.loop-plane.plane-index in
    let N = c.plane-item.result in
    let r = c.in_ok-scale.field-0 in
    let xs = c.loop-plane.products.items in
    let new = c.in_ok-push.ensures.items in
    let p = c.args.c.now in
    let planes = c.args.planes.now in
    record {
      count = pushed-length xs r _ i new c.loop-plane.invariant.count;
      each = pushed-each (IsPlane K) xs r _ new c.loop-plane.invariant.each
          c.in_ok-scale.ensures.plane;
      value = λ j l. subst (λ (ys : List (List (List ℕ))). IsMultipleBy K p
          (get_or planes j []) (get_or ys j [])) (sym new)
          (pushed K L (λ j q. IsMultipleBy K p (get_or planes j []) q) xs r [] i
          (sym c.loop-plane.invariant.count) c.loop-plane.invariant.value
          (subst (λ q. IsMultipleBy K p q r)
          (c.plane-item.is ∙ get_or_default planes i N [] c.loop-plane-test.true)
          c.in_ok-scale.ensures.value) j l);
    }

pub returns-clause-value : goal.returns-clause-value
returns-clause-value g c =
    λ j l. c.loop-plane.invariant.value j (omega (arith, c.loop-plane-test.false, l))
