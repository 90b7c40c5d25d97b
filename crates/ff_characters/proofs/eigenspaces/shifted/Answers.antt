use Rattle.std.proofs.Common.{◌≡◌, ℕ, [], length, get_or, sym, ◌∙◌, ap, ap₂, subst, arith, All}
use Rattle.std.proofs.lemmas.List.Elements.{All-push}
use Rattle.std.specs.Global.{Vec}
use Rattle.ff_theory.specs.Span.{product}
use Rattle.ff_theory.specs.Vector.{vector_of, vectors_of, IsVector}
use Rattle.ff_lin.specs.Space.{rows_of}
use Rattle.ff_characters.proofs.CharacterLemmas.{pushed-row, row-read}
use Rattle.ff_characters.proofs.eigenspaces.shifted.Goals as goal

pub shifted_row-requires : goal.shifted_row-requires
shifted_row-requires g c =
    let F = g.K.Ring.elements c.args.k.now in
    let m = c.args.matrix.now in
    let i = c.loop-i.i in
    let row : IsVector F (length m) c.deref.result.now = subst (λ r. IsVector F (length m) r)
    (sym c.deref.ensures.value) (subst (λ (r : Vec ℕ). IsVector F (length m) r.items)
    (sym c.index-matrix-i.is) (c.requires.matrix i c.index-matrix-i.result
    (omega (arith, c.loop-i-test.true)))) in
    record {
      row = row.each;
      index = omega (arith, row.len, c.loop-i-test.true);
      c = c.requires.c;
    }

pub loop-i-preserved : goal.loop-i-preserved
loop-i-preserved g c =
    let F = g.K.Ring.elements c.args.k.now in
    let m = c.args.matrix.now in
    let n = length m in
    let i = c.loop-i.i in
    let e = c.in_ok-push.ensures.items in
    let new = c.in_ok-shifted_row.field-0 in
    let row : IsVector F (length m) c.deref.result.now = subst (λ r. IsVector F (length m) r)
    (sym c.deref.ensures.value) (subst (λ (r : Vec ℕ). IsVector F (length m) r.items)
    (sym c.index-matrix-i.is) (c.requires.matrix i c.index-matrix-i.result
    (omega (arith, c.loop-i-test.true)))) in
    let read : get_or (rows_of m) i [] ≡ c.deref.result.now = row-read m i
    c.index-matrix-i.result c.index-matrix-i.result (omega (arith, c.loop-i-test.true))
    c.index-matrix-i.is ∙ sym c.deref.ensures.value in
    record {
      len = omega (arith, c.in_ok-push.ensures.len, c.loop-i.invariant.len);
      vectors = subst (All (λ v. IsVector F n v.items)) (sym e)
          (All-push (λ (v : Vec ℕ). IsVector F n v.items) c.loop-i.rows.items new
          c.loop-i.invariant.vectors (subst (λ l. IsVector F l new.items) row.len
          c.in_ok-shifted_row.ensures.vector));
      value = pushed-row (λ i r. (v : ℕ → F.carrier) → product F.ring n v (vector_of F r)
          ≡ F.add (product F.ring n (vectors_of F (rows_of m) i) v)
          (F.neg (F.mul (F.value c.args.c) (v i)))) c.loop-i.rows.items new c.push.new.self.items i
          e c.loop-i.invariant.len c.loop-i.invariant.value
          (λ v. ap (λ l. product F.ring l v (vector_of F new.items)) (sym row.len)
          ∙ c.in_ok-shifted_row.ensures.value v
          ∙ ap₂ (λ l r. F.add (product F.ring l (vector_of F r) v)
          (F.neg (F.mul (F.value c.args.c) (v i)))) row.len (sym read));
    }

pub returns-clause-value : goal.returns-clause-value
returns-clause-value g c v i l = c.loop-i.invariant.value i
    (omega (arith, c.loop-i-test.false, c.loop-i.auto.i-end, l)) v
