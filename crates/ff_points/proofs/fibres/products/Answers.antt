use Rattle.std.proofs.Common.{◌≡◌, ℕ, [], length, get_or, sym, ◌∙◌, ap, ap₂, subst, arith, All}
use Rattle.std.proofs.lemmas.List.{get_or-map}
use Rattle.std.proofs.lemmas.List.Elements.{All-push}
use Rattle.std.specs.Global.{Vec}
use Rattle.ff_theory.specs.Ring.{IsElement}
use Rattle.ff_theory.specs.Span.{product}
use Rattle.ff_theory.specs.Vector.{IsVector, vector_of, vectors_of}
use Rattle.ff_theory.proofs.Coeffs.{coeff-push}
use Rattle.ff_lin.specs.Space.{rows_of}
use Rattle.ff_points.proofs.fibres.products.Goals as goal

pub dot-requires : goal.dot-requires
dot-requires g c =
    let F = g.K.Ring.elements c.args.k.now in
    let items = λ (r : Vec ℕ). r.items in
    let n = length c.args.chi.now in
    let row : IsVector F n c.deref.result.now = subst (IsVector F n)
    (sym (c.deref.ensures.value ∙ ap items c.v-item.is))
    (c.requires.vectors c.loop-v.v-index c.v-item.result c.loop-v-test.true) in
    record {
      v = row.each;
      w = record { each = c.requires.chi; len = sym row.len };
    }

pub loop-v-preserved : goal.loop-v-preserved
loop-v-preserved g c =
    let F = g.K.Ring.elements c.args.k.now in
    let items = λ (r : Vec ℕ). r.items in
    let chi = c.args.chi.now in
    let n = length chi in
    let vs = c.args.vectors.now in
    let i = c.loop-v.v-index in
    let e = c.in_ok-push.ensures.items in
    let h = c.loop-v.invariant in
    let x = c.dot.result in
    let row : IsVector F n c.deref.result.now = subst (IsVector F n)
    (sym (c.deref.ensures.value ∙ ap items c.v-item.is))
    (c.requires.vectors i c.v-item.result c.loop-v-test.true) in
    let same : c.deref.result.now ≡ get_or (rows_of vs) i [] =
    c.deref.ensures.value ∙ ap items c.v-item.is
    ∙ sym (get_or-map items vs i c.v-item.result [] c.loop-v-test.true) in
    record {
      len = omega (arith, c.in_ok-push.ensures.len, h.len);
      each = subst (All (IsElement F)) (sym e)
          (All-push (IsElement F) c.loop-v.products.items x h.each c.dot.ensures.element);
      value = λ j l. ap (λ p. vector_of F p j) e
          ∙ coeff-push F.ring F.value c.loop-v.products.items x
          (λ i. product F.ring n (vectors_of F (rows_of vs) i) (vector_of F chi)) i h.len h.value
          (c.dot.ensures.value ∙ ap₂ (λ m r. product F.ring m (vector_of F r) (vector_of F chi))
          row.len same) j l;
    }

pub returns-clause-vector : goal.returns-clause-vector
returns-clause-vector g c = record {
  each = c.loop-v.invariant.each;
  len = omega (
    arith,
    c.loop-v.invariant.len,
    c.loop-v-test.false,
    c.loop-v.auto.v-index-end,
  );
}

pub returns-clause-value : goal.returns-clause-value
returns-clause-value g c i l = c.loop-v.invariant.value i (omega (arith, l, c.loop-v-test.false))
