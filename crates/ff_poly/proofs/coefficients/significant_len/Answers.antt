use Rattle.std.proofs.Common.{◌≡◌, ◌-◌, true, false, ◌∙◌, ap, arith, map, take, get_or}
use Rattle.ff_theory.specs.Values.{poly_of}
use Rattle.ff_theory.proofs.Coeffs.{kept_ends, kept_same, poly_ext}
use Rattle.ff_poly.proofs.coefficients.significant_len.Goals as goal

pub returns-then-not-is_zero-clause-canonical : goal.returns-then-not-is_zero-clause-canonical
returns-then-not-is_zero-clause-canonical g c =
    let K = g.K.Ring.elements c.args.k.now in
    let d = get_or c.args.list.now (c.loop-n.n - 1) 0 in
    let test : K.same (K.value d) K.zero ≡ false = cc in
    kept_ends K.ring K.value c.args.list.now c.loop-n.n 0 (omega arith) (omega arith) test

pub loop-n-preserved : goal.loop-n-preserved
loop-n-preserved g c =
    let K = g.K.Ring.elements c.args.k.now in
    let laws = g.met.K.Ring.laws c.args.k.now in
    let tests = g.met.K.Ring.tests c.args.k.now in
    let list = c.args.list.now in
    let n = c.loop-n.n in
    let d = get_or c.args.list.now (c.loop-n.n - 1) 0 in
    let test : K.same (K.value d) K.zero ≡ true = cc in
    record {
      below = omega arith;
      value = poly_ext K.ring laws tests (map K.value (take (n - 1) list))
          (map K.value (take n list)) (kept_same K.ring tests K.value list n 0 (omega arith)
          (omega arith) test) ∙ c.loop-n.invariant.value;
    }

pub returns-clause-value : goal.returns-clause-value
returns-clause-value g c =
    let none : 0 ≡ c.loop-n.n = omega arith in
    ap (λ n. poly_of (g.K.Ring.elements c.args.k.now) (take n c.args.list.now)) none
    ∙ c.loop-n.invariant.value
