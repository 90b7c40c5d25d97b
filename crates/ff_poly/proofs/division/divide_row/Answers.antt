use Rattle.std.proofs.Common.{arith, ◌≡◌, ◌<◌, ◌+◌, ◌-◌, length, drop, ◌++◌, refl, ap, ◌∙◌, get_or}
use Rattle.std.proofs.lemmas.List.{length-set, length-take-le, length-append, length-drop}
use Rattle.std.proofs.lemmas.List.{get_or_default}
use Rattle.std.proofs.lemmas.List.Elements.{All-set, All-append, All-drop}
use Rattle.ff_theory.specs.Ring.{IsElement}
use Rattle.ff_theory.specs.Values.{poly_of}
use Rattle.ff_poly.proofs.LongDivision.{divide-start, divide-step, divide-end, last_nonzero}
use Rattle.ff_poly.proofs.division.divide_row.Goals as goal

pub returns-then-row-degree-clause-value : goal.returns-then-row-degree-clause-value
returns-then-row-degree-clause-value g c =
    let K = g.K.Ring.elements c.args.k.now in
    divide-start K.ring (g.met.K.Ring.laws c.args.k.now) (g.met.K.Ring.tests c.args.k.now) K.value
    c.args.b.now c.args.row.now 0 (length c.args.row.now) (omega arith)

pub inv-inverse-requires-clause-nonzero : goal.inv-inverse-requires-clause-nonzero
inv-inverse-requires-clause-nonzero g c =
    let K = g.K.Ring.elements c.args.k.now in
    last_nonzero K.ring (g.met.K.Ring.laws c.args.k.now) (g.met.K.Ring.tests c.args.k.now) K.value
    c.args.b.now (get_or c.args.b.now (length c.args.b.now - 1) 0) (length c.args.b.now - 1)
    c.requires.b.canonical (omega arith)
    (get_or_default c.args.b.now (length c.args.b.now - 1) 0
    (get_or c.args.b.now (length c.args.b.now - 1) 0) (omega arith))

pub loop-at-init : goal.loop-at-init
loop-at-init g c =
    let K = g.K.Ring.elements c.args.k.now in
    let degree = length c.args.b.now - 1 in
    let n = length c.args.row.now - degree in
    record {
      len = refl;
      each = c.requires.row;
      value = divide-start K.ring (g.met.K.Ring.laws c.args.k.now) (g.met.K.Ring.tests c.args.k.now)
          K.value c.args.b.now c.args.row.now n (n + degree) (omega arith);
    }

pub loop-at-preserved : goal.loop-at-preserved
loop-at-preserved g c =
    let K = g.K.Ring.elements c.args.k.now in
    let degree = length c.args.b.now - 1 in
    let at = c.loop-at.at - 1 in
    let top = at + degree in
    let row = c.loop-at.row in
    let low = c.add_scaled.new.sum in
    let lead = get_or c.args.b.now degree 0 in
    let lead-is = get_or_default c.args.b.now degree 0 lead (omega arith) in
    let high = get_or row top 0 in
    let nonzero = last_nonzero K.ring (g.met.K.Ring.laws c.args.k.now)
    (g.met.K.Ring.tests c.args.k.now) K.value c.args.b.now lead degree c.requires.b.canonical
    (omega arith) lead-is in
    let bound : top < length row = omega
    (arith, c.loop-at.auto.at, c.loop-at.invariant.len, c.loop-at-test.true) in
    let whole : length low ≡ top = c.add_scaled.ensures.len
    ∙ length-take-le top row (omega arith) in
    record {
      len = length-set (low ++ drop top row) top c.mul-digit.result
          ∙ omega (
            arith,
            length-append low (drop top row),
            length-drop top row,
            whole,
            bound,
            c.loop-at.invariant.len,
          );
      each = All-set (IsElement K) (low ++ drop top row) top c.mul-digit.result
          c.mul-digit.ensures.element (All-append (IsElement K) low (drop top row)
          c.add_scaled.ensures.each (All-drop (IsElement K) top row c.loop-at.invariant.each));
      value = divide-step K.ring (g.met.K.Ring.laws c.args.k.now) (g.met.K.Ring.tests c.args.k.now)
          K.value (poly_of K c.args.row.now) row low c.args.b.now c.loop-at.at at degree top high
          c.mul-digit.result lead (K.value c.neg.result) (K.value c.inv-inverse.result)
          (omega arith) refl (omega arith) whole bound (get_or_default row top 0 high bound) lead-is
          c.mul-digit.ensures.value (ap (K.mul (K.value lead)) c.inv-inverse.ensures.value
          ∙ (g.met.K.Field.is_field c.args.k.now).mul_inverse (K.value lead) nonzero)
          c.neg.ensures.value c.add_scaled.ensures.value c.loop-at.invariant.value;
    }

pub returns-clause-value : goal.returns-clause-value
returns-clause-value g c =
    let K = g.K.Ring.elements c.args.k.now in
    divide-end K.ring (g.met.K.Ring.laws c.args.k.now) (g.met.K.Ring.tests c.args.k.now) K.value
    (poly_of K c.args.row.now) c.args.b.now c.loop-at.row c.loop-at.at (length c.args.b.now - 1)
    (omega arith) c.loop-at.invariant.value
