use Rattle.std.proofs.Common.{◌≡◌, ◌-◌, ◌+◌, [], length, get_or, sym, ◌∙◌, ap, subst, arith}
use Rattle.std.proofs.lemmas.List.{get_or_default}
use Rattle.ff_order.specs.Level.{IsTestPlane}
use Rattle.ff_order.proofs.ResidueVectors.{pushed}
use Rattle.ff_order.proofs.different.planes_by_theta.Goals as goal

pub next_plane-requires-clause-a : goal.next_plane-requires-clause-a
next_plane-requires-clause-a g c =
    let planes = c.loop-i.planes.items in
    let i = c.loop-i.i - 1 in
    let h = c.loop-i.invariant in
    subst (IsTestPlane (g.K.Ring.lawful c.args.alg.now.k) c.args.alg.now.f c.args.chart i)
    (sym (c.index.ensures ∙ get_or_default planes i c.index.result.now []
    (omega (arith, h.len, c.loop-i.auto.i))))
    (h.each i (omega (arith, c.loop-i.auto.i)))

pub loop-i-init : goal.loop-i-init
loop-i-init g c =
    let L = g.K.Ring.lawful c.args.alg.now.k in
    let e = c.in_ok-push.ensures.items in
    let old = c.in_ok-planes.planes.items in
    let len : length old ≡ 0 = ap length c.in_ok-planes.ensures.items in
    record {
      len = omega (arith, c.in_ok-push.ensures.len, len);
      each = λ j l. subst (λ t. IsTestPlane L c.args.alg.now.f c.args.chart j (get_or t j []))
          (sym e) (pushed old c.in_ok-first_plane.field-0 []
          (IsTestPlane L c.args.alg.now.f c.args.chart) 0 len (λ k q. absurd (omega (arith, q)))
          c.in_ok-first_plane.ensures j l);
    }

pub loop-i-preserved : goal.loop-i-preserved
loop-i-preserved g c =
    let L = g.K.Ring.lawful c.args.alg.now.k in
    let f = c.args.alg.now.f in
    let e = c.in_ok-push-2.ensures.items in
    let h = c.loop-i.invariant in
    let i = c.loop-i.i in
    let next = c.in_ok-next_plane.field-0 in
    let s : i - 1 + 1 ≡ i = omega (arith, c.loop-i.auto.i) in
    record {
      len = omega (arith, c.in_ok-push-2.ensures.len, h.len);
      each = λ j l. subst (λ t. IsTestPlane L f c.args.chart j (get_or t j [])) (sym e)
          (pushed c.loop-i.planes.items next [] (IsTestPlane L f c.args.chart) i h.len h.each
          (subst (λ n. IsTestPlane L f c.args.chart n next) s c.in_ok-next_plane.ensures) j l);
    }

pub returns : goal.returns
returns g c =
    let n = ap length c.rows.ensures in
    let all : c.loop-i.i ≡ length c.args.alg.now.f - 1 =
    omega (arith, n, c.args.alg.now.has_y, c.loop-i-test.false, c.loop-i.auto.i-end) in
    let h = c.loop-i.invariant in
    record {
      len = omega (arith, h.len, all);
      each = λ i l. h.each i (omega (arith, l, h.len));
    }
