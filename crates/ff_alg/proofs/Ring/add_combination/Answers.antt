use Rattle.std.proofs.Common.{◌≡◌, ℕ, ◌+◌, ◌<◌, ◌≤◌, List, [], length, map, get_or, refl, sym, ◌∙◌}
use Rattle.std.proofs.Common.{ap, arith, Vec, Global}
use Rattle.std.proofs.lemmas.List.Elements.{All-set}
use Rattle.std.proofs.lemmas.List.{length-set, get_or-map}
use Rattle.ff_theory.specs.Ring.{IsElement}
use Rattle.ff_theory.specs.Span.{combination}
use Rattle.ff_theory.specs.Vector.{vector_of, vectors_of, IsVector}
use Rattle.ff_theory.proofs.Coeffs.{coeff-past}
use Rattle.ff_theory.proofs.InPlace.{written-below, written-above}
use Rattle.ff_theory.proofs.Values.{entry}
use Rattle.ff_theory.proofs.Combination.{combination-step, combination-row}
use Rattle.ff_alg.proofs.Ring.add_combination.Goals as goal

pub loop-j-preserved : goal.loop-j-preserved
loop-j-preserved g c =
    let K = g.Self.Ring.elements c.args.self.now in
    let laws = g.met.Self.Ring.laws c.args.self.now in
    let items : Vec g.row.Self-E.Denot Global → List g.row.Self-E.Denot = λ r. r.items in
    let rows = c.args.rows.now in
    let row = c.index-rows-i.result in
    let i = c.loop-i.i in
    let j = c.loop-j.j in
    let sum = c.loop-j.sum in
    let factors = vector_of K c.args.factors.now in
    let old = vector_of K c.args.sum.now in
    let w = vectors_of K (map items rows) in
    let bound : j < length sum = omega (
      arith,
      c.loop-j.invariant.vector.len,
      (c.requires.rows i row (omega arith)).len,
      ap
          (λ r. length (items r)) c.index-rows-i.is,
    ) in
    let product : K.value c.mul.result ≡ K.mul (factors i) (w i j) =
    c.mul.ensures.value ∙ ap (λ t. K.mul t (K.value c.index.result.now))
    (entry K c.args.factors.now i c.index-factors-i.result
    (omega (arith, c.requires.factors.len)) c.index-factors-i.is)
    ∙ ap (K.mul (factors i)) (entry K (items row) j c.index.result.now (omega arith) c.index.ensures
    ∙ ap (λ t. vector_of K t j) (ap items c.index-rows-i.is ∙ sym (get_or-map items rows i row []
    (omega arith))))
    in
    record {
      vector = record {
        each = All-set (IsElement K) sum j c.add.result c.add.ensures.element
            c.loop-j.invariant.vector.each;
        len = length-set sum j c.add.result
            ∙ c.loop-j.invariant.vector.len;
      };
      below = written-below K.ring K.value sum j (j + 1) c.add.result
          (λ n. K.add (old n) (combination K.ring (i + 1) factors w n)) bound refl
          c.loop-j.invariant.below
          (c.add.ensures.value
          ∙ ap (λ t. K.add t (K.value c.mul.result))
          (entry K sum j c.index-sum-j.result bound c.index-sum-j.is
          ∙ c.loop-j.invariant.above j (omega arith))
          ∙ ap (K.add (K.add (old j) (combination K.ring i factors w j))) product
          ∙ combination-step K.ring laws factors w (old j) i j);
      above = written-above K.ring K.value sum j (j + 1) c.add.result
          (λ n. K.add (old n) (combination K.ring i factors w n)) refl c.loop-j.invariant.above;
    }

pub loop-i-preserved : goal.loop-i-preserved
loop-i-preserved g c =
    let K = g.Self.Ring.elements c.args.self.now in
    let laws = g.met.Self.Ring.laws c.args.self.now in
    let items : Vec g.row.Self-E.Denot Global → List g.row.Self-E.Denot = λ r. r.items in
    let rows = c.args.rows.now in
    let row = c.index-rows-i.result in
    let i = c.loop-i.i in
    let factors = vector_of K c.args.factors.now in
    let old = vector_of K c.args.sum.now in
    let w = vectors_of K (map items rows) in
    let past : (n : ℕ) → c.loop-j.j ≤ n → w i n ≡ K.zero =
    (λ n l. ap (λ t. vector_of K t n)
    (get_or-map items rows i row [] (omega arith) ∙ ap items (sym c.index-rows-i.is))
    ∙ coeff-past K.ring K.value (items row) n (omega (arith, l)))
    in
    record {
      vector = c.loop-j.invariant.vector;
      value = combination-row K.ring laws factors w (vector_of K c.loop-j.sum) old i c.loop-j.j
          c.loop-j.invariant.below c.loop-j.invariant.above past;
    }
