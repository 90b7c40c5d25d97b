use Rattle.std.proofs.Common.{◌≡◌, ℕ, [], length, get_or, sym, ◌∙◌, ap, ap₂, arith, refl}
use Rattle.std.proofs.Common.{below_more}
use Rattle.std.specs.Global.{Vec}
use Rattle.ff_theory.specs.Span.{product}
use Rattle.ff_theory.specs.Vector.{vector_of, vectors_of}
use Rattle.ff_lin.specs.Space.{rows_of}
use Rattle.ff_lin.proofs.Entries.{entry}
use Rattle.ff_lin.proofs.Compare.{true-is-false}
use Rattle.ff_characters.proofs.CharacterLemmas.{row-read}
use Rattle.ff_characters.proofs.functionals.is_eigenvector.Goals as goal

pub returns-then-not-same : goal.returns-then-not-same
returns-then-not-same g c =
    let F = g.K.Ring.elements c.args.k.now in
    let m = c.args.matrix.now in
    let v = c.args.v.now in
    let j = c.loop-j.j in
    let read : get_or (rows_of m) j [] ≡ c.deref.result.now = row-read m j
    c.index-matrix-j.result c.index-matrix-j.result (omega (arith, c.loop-j-test.true))
    c.index-matrix-j.is ∙ sym c.deref.ensures.value in
    let long : length c.deref.result.now ≡ length m = ap length c.deref.ensures.value
    ∙ ap (λ (r : Vec ℕ). length r.items) c.index-matrix-j.is
    ∙ (c.requires.matrix j c.index-matrix-j.result (omega (arith, c.loop-j-test.true))).len in (
      λ h. absurd (cc),
      λ h. absurd (true-is-false _ (sym c.same.ensures ∙ c.if-not-same.true)
          (ap₂ F.same (c.dot.ensures.value
          ∙ ap₂ (λ n r. product F.ring n (vector_of F r) (vector_of F v)) long (sym read)
          ∙ h j (omega (arith, c.loop-j-test.true))
          ∙ ap (F.mul (F.value c.args.c)) (entry F v j (omega (
            arith,
            c.loop-j-test.true,
            c.requires.v.len,
          ))) ∙ sym c.mul.ensures.value) refl
          ∙ (g.met.K.Ring.tests c.args.k.now).same_refl (F.value c.mul.result))),
    )

pub loop-j-preserved : goal.loop-j-preserved
loop-j-preserved g c =
    let F = g.K.Ring.elements c.args.k.now in
    let m = c.args.matrix.now in
    let v = c.args.v.now in
    let j = c.loop-j.j in
    let read : get_or (rows_of m) j [] ≡ c.deref.result.now = row-read m j
    c.index-matrix-j.result c.index-matrix-j.result (omega (arith, c.loop-j-test.true))
    c.index-matrix-j.is ∙ sym c.deref.ensures.value in
    let long : length c.deref.result.now ≡ length m = ap length c.deref.ensures.value
    ∙ ap (λ (r : Vec ℕ). length r.items) c.index-matrix-j.is
    ∙ (c.requires.matrix j c.index-matrix-j.result (omega (arith, c.loop-j-test.true))).len in
    below_more (λ j. product F.ring (length m) (vectors_of F (rows_of m) j) (vector_of F v)
    ≡ F.mul (F.value c.args.c) (vector_of F v j)) j c.loop-j.invariant
    (ap₂ (λ n r. product F.ring n (vector_of F r) (vector_of F v)) (sym long) read
    ∙ sym c.dot.ensures.value
    ∙ (g.met.K.Ring.tests c.args.k.now).same_true _ _ (sym c.same.ensures ∙ c.if-not-same.false)
    ∙ c.mul.ensures.value ∙ ap (F.mul (F.value c.args.c)) (sym (entry F v j
    (omega (arith, c.loop-j-test.true, c.requires.v.len)))))
