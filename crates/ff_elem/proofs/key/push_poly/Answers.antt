use Rattle.std.proofs.Common.{◌≡◌, suc, ◌-◌, length, get_or, refl, sym, subst, arith, All}
use Rattle.std.proofs.lemmas.List.{get_or_default}
use Rattle.ff_theory.specs.Ring.{IsElement}
use Rattle.ff_elem.proofs.KeyLemmas.{key-start, key-step, key-end}
use Rattle.ff_elem.proofs.key.push_poly.Goals as goal

pub index-requires : goal.index-requires
index-requires g c =
    let K = g.K.Ring.elements c.args.k.now in
    subst (All (IsElement K)) (sym c.coeffs-coeffs.ensures) c.requires.each (c.loop-i.i - 1) 0
    (omega (arith, c.loop-i.invariant.inside))

pub loop-i-init : goal.loop-i-init
loop-i-init g c =
    let K = g.K.Ring.elements c.args.k.now in
    let xs = c.coeffs-coeffs.result.now in
    record {
      inside = omega arith;
      key = key-start (λ x. K.index (K.value x)) c.args.key.now.items c.push.new.self.items xs
          (length xs) refl c.in_ok-push.ensures.items;
    }

pub loop-i-preserved : goal.loop-i-preserved
loop-i-preserved g c =
    let K = g.K.Ring.elements c.args.k.now in
    let i = c.loop-i.i - 1 in
    let next : c.loop-i.i ≡ suc i = omega arith in
    let xs = c.coeffs-coeffs.result.now in
    record {
      inside = omega (arith, c.loop-i.invariant.inside);
      key = key-step (λ x. K.index (K.value x)) c.args.key.now.items c.loop-i.key.items
          c.push-in-loop-i.new.self.items xs i c.loop-i.i c.index.result (get_or xs i 0) next
          (omega (arith, c.loop-i.invariant.inside))
          (get_or_default xs i 0 (get_or xs i 0) (omega (arith, c.loop-i.invariant.inside)))
          c.index.ensures c.in_ok-push-2.ensures.items c.loop-i.invariant.key;
    }

pub returns : goal.returns
returns g c =
    let K = g.K.Ring.elements c.args.k.now in
    key-end (λ x. K.index (K.value x)) c.args.key.now.items c.loop-i.key.items
    c.coeffs-coeffs.result.now c.args.p.now c.loop-i.i (omega arith) c.coeffs-coeffs.ensures
    c.loop-i.invariant.key
