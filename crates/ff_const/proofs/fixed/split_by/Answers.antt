use Rattle.std.proofs.Common.{◌≡◌, ℕ, ◌<◌, length, get_or, [], sym}
use Rattle.std.proofs.Common.{◌∙◌}
use Rattle.std.proofs.Common.{ap, subst, arith}
use Rattle.std.proofs.lemmas.List.{length-map}
use Rattle.std.specs.Global.{Vec}
use Rattle.ff_theory.specs.Vector.{vector_of, vectors_of, IsVector}
use Rattle.ff_lin.specs.Space.{rows_of}
use Rattle.ff_data.specs.Combinations.{combination_in, elems_of}
use Rattle.ff_const.specs.Fixed.{IsConstant, IsFixed, IsSplitBy}
use Rattle.ff_const.proofs.FixedLemmas.{row-is, more-below, basis-fixed, all-constants}
use Rattle.ff_const.proofs.FixedLemmas.{split-at}
use Rattle.ff_const.proofs.fixed.split_by.Goals as goal

pub split_one-requires : goal.split_one-requires
split_one-requires g c =
    let K = g.K.Ring.elements c.args.alg.now.k in
    let L = g.K.Ring.lawful c.args.alg.now.k in
    let f = c.args.alg.now.f in
    let ws = c.args.list.now in
    let vs = c.basis-c-items.result.now in
    let i = c.loop-c.c-index in
    let s = c.in_ok-space.space in
    let basis = c.basis-c-items.ensures in
    let below : i < length s.basis = omega (
      arith,
      c.loop-c-test.true,
      ap length basis,
      length-map vs (λ (v : Vec ℕ). v.items),
    ) in
    let row : get_or s.basis i [] ≡ c.deref.result.now = ap (λ r. get_or r i []) (sym basis)
    ∙ row-is vs i c.c-item.result c.loop-c-test.true c.c-item.is ∙ sym c.deref.ensures.value in
    let h = c.in_ok-space.ensures.space in
    record {
      list = c.requires;
      c = subst (λ n. IsVector K n c.deref.result.now) h.len
          (subst (IsVector K s.len) row (h.space.rows i [] below));
      fixed = subst (λ r. IsFixed L f (combination_in L f (length ws) (vector_of K r)
          (elems_of L f ws))) row
          (basis-fixed K L f ws s h.len c.in_ok-space.ensures.exact i below);
    }

pub loop-c-init : goal.loop-c-init
loop-c-init g c = record { constants = λ j h. absurd (omega (arith, h)) }

pub loop-c-preserved : goal.loop-c-preserved
loop-c-preserved g c =
    let K = g.K.Ring.elements c.args.alg.now.k in
    let L = g.K.Ring.lawful c.args.alg.now.k in
    let f = c.args.alg.now.f in
    let ws = c.args.list.now in
    let vs = c.basis-c-items.result.now in
    let i = c.loop-c.c-index in
    let s = c.in_ok-space.space in
    let basis = c.basis-c-items.ensures in
    let row : get_or (rows_of vs) i [] ≡ c.deref.result.now = row-is vs i c.c-item.result
    c.loop-c-test.true c.c-item.is ∙ sym c.deref.ensures.value in
    record {
      constants = more-below (λ j. IsConstant L f (combination_in L f (length ws)
          (vectors_of K (rows_of vs) j) (elems_of L f ws))) i c.loop-c.invariant.constants
          (subst (λ r. IsConstant L f (combination_in L f (length ws) (vector_of K r)
          (elems_of L f ws))) (sym row) c.in-Ok.ensures.constant);
    }

pub returns-in-Err-clause-split : goal.returns-in-Err-clause-split
returns-in-Err-clause-split g c =
    let K = g.K.Ring.elements c.args.alg.now.k in
    let L = g.K.Ring.lawful c.args.alg.now.k in
    let f = c.args.alg.now.f in
    let ws = c.args.list.now in
    let vs = c.basis-c-items.result.now in
    let i = c.loop-c.c-index in
    let s = c.in_ok-space.space in
    let basis = c.basis-c-items.ensures in
    let below : i < length s.basis = omega (
      arith,
      c.loop-c-test.true,
      ap length basis,
      length-map vs (λ (v : Vec ℕ). v.items),
    ) in
    let row : get_or s.basis i [] ≡ c.deref.result.now = ap (λ r. get_or r i []) (sym basis)
    ∙ row-is vs i c.c-item.result c.loop-c-test.true c.c-item.is ∙ sym c.deref.ensures.value in
    split-at K L f ws s c.in_ok-space.ensures.space.len c.in_ok-space.ensures.exact i below
    c.in-Err.fault (subst (λ r. IsSplitBy L f (combination_in L f (length ws) (vector_of K r)
    (elems_of L f ws)) c.in-Err.fault) (sym row) c.in-Err.ensures.factors)

pub returns-clause-constants : goal.returns-clause-constants
returns-clause-constants g c =
    let K = g.K.Ring.elements c.args.alg.now.k in
    let L = g.K.Ring.lawful c.args.alg.now.k in
    let f = c.args.alg.now.f in
    let ws = c.args.list.now in
    let vs = c.basis-c-items.result.now in
    let s = c.in_ok-space.space in
    let basis = c.basis-c-items.ensures in
    let count = length-map vs (λ (v : Vec ℕ). v.items) in
    all-constants K L f ws s c.in_ok-space.ensures.space.len c.in_ok-space.ensures.exact
    (λ j l. subst (λ r. IsConstant L f (combination_in L f (length ws) (vectors_of K r j)
    (elems_of L f ws))) basis (c.loop-c.invariant.constants j
    (omega (arith, l, ap length basis, count, c.loop-c-test.false))))
