use Rattle.std.proofs.Common.{◌≡◌, ◌∙◌, ◌+◌, ◌*◌, ◌≤◌, List, ℕ, length, sym, ap}
use Rattle.std.proofs.Common.{subst, arith, All}
use Rattle.std.specs.Global.{Vec}
use Rattle.std.proofs.lemmas.List.{length-map}
use Rattle.ff_theory.proofs.Results.{ok_map}
use Rattle.ff_lin.specs.Space.{rows_of}
use Rattle.ff_elem.specs.Elem.{IsElem}
use Rattle.ff_data.specs.Combinations.{AreElems}
use Rattle.ff_forms.specs.declared.functions.Functions.{Functions}
use Rattle.ff_describe.specs.Levels.{offset, triangle}
use Rattle.ff_describe.proofs.RowLemmas.{rows-vectors}
use Rattle.ff_describe.proofs.Options.{some-map, none-map}
use Rattle.ff_describe.proofs.TableLemmas.{triangle-read}
use Rattle.ff_describe.proofs.ReadRows.{enough-rows, readable-rows}
use Rattle.ff_describe.proofs.SystemLemmas.{frame-parts}
use Rattle.ff_describe.proofs.tables.triangle_of.Goals as goal

pub level_counts-requires : goal.level_counts-requires
level_counts-requires g c = record {
  positive = omega (
    arith,
    c.requires.positive,
    ap (λ (t : Functions). t.e) c.functions.view_is,
  );
}

pub products-requires : goal.products-requires
products-requires g c =
    let L = g.K.Ring.lawful c.args.alg.now.k in
    subst (AreElems L c.args.alg.now.f) (sym (c.as_slice-b.ensures.value
    ∙ ap (λ (t : Functions). t.b) c.functions.view_is)) c.requires.b

pub push_levels-requires : goal.push_levels-requires
push_levels-requires g c =
    let L = g.K.Ring.lawful c.args.alg.now.k in
    let f = c.args.alg.now.f in
    let b = c.as_slice-b.ensures.value ∙ ap (λ (t : Functions). t.b) c.functions.view_is in
    let w = c.as_slice-weights.ensures.value
    ∙ ap (λ (t : Functions). t.weights) c.functions.view_is in
    record {
      z = subst (IsElem L f) (sym (ap (λ (t : Functions). t.z) c.functions.view_is)) c.requires.z;
      b = subst (AreElems L f) (sym b) c.requires.b;
      count = ap length c.deref.ensures.value ∙ c.in_ok-counts.ensures.count ∙ ap length w
          ∙ c.requires.weights ∙ sym c.requires.count ∙ sym (ap length b);
      list = c.in_ok-list.ensures.elems;
    }

pub relations_of-requires : goal.relations_of-requires
relations_of-requires g c =
    let L = g.K.Ring.lawful c.args.alg.now.k in
    subst (AreElems L c.args.alg.now.f) (sym c.deref-2.ensures.value) c.in_ok-list-2.ensures.elems

pub triangle_rows-requires : goal.triangle_rows-requires
triangle_rows-requires g c =
    let F = g.K.Ring.elements c.args.alg.now.k in
    let s = c.in_ok-relations.relations in
    let b = c.as_slice-b.ensures.value ∙ ap (λ (t : Functions). t.b) c.functions.view_is in
    let w = c.as_slice-weights.ensures.value
    ∙ ap (λ (t : Functions). t.weights) c.functions.view_is in
    let within : All (λ m. m ≤ c.args.limit) c.as_slice-weights.result.now
    = subst (All (λ m. m ≤ c.args.limit)) (sym w) c.requires.within in
    let n : c.len-n.result ≡ length c.in_ok-list.list.items = omega (
      arith,
      c.len-n.ensures,
      c.in_ok-list.list.ok.0,
    ) in
    let many : length c.as_slice-b.result.now ≡ length c.as_slice-weights.result.now = ap length b
    ∙ c.requires.count ∙ sym c.requires.weights ∙ sym (ap length w) in
    record {
      small = λ i d l. let t = within i d l in omega (arith, t, c.requires.small);
      count = ap length c.deref-3.ensures.value ∙ c.in_ok-counts.ensures.count;
      rows = rows-vectors F
          (c.len-n.result + offset c.deref-3.result.now (length c.deref-3.result.now)) s
          c.basis-rows.result.now c.in_ok-relations.ensures.space.space c.basis-rows.ensures
          (subst (λ (r : List ℕ). s.len ≡ c.len-n.result + offset r (length r))
          (c.deref.ensures.value ∙ sym c.deref-3.ensures.value)
          (c.in_ok-relations.ensures.space.len ∙ ap length c.deref-2.ensures.value
          ∙ c.in_ok-list-2.ensures.len
          ∙ ap (λ m. m + offset c.deref.result.now (length c.deref.result.now)) (sym n)));
      all = omega (arith, c.if-rows-n.false);
      products = n ∙ c.in_ok-list.ensures.len ∙ ap triangle many;
    }

pub returns-then-rows-n-clause-none : goal.returns-then-rows-n-clause-none
returns-then-rows-n-clause-none g c h =
    let K = g.K.Ring.elements c.args.alg.now.k in
    let L = g.K.Ring.lawful c.args.alg.now.k in
    let f = c.args.alg.now.f in
    let p = c.args.functions.now in
    let s = c.in_ok-relations.relations in
    let heads = c.in_ok-list.list.items in
    let e = ap (λ (t : Functions). t.e) c.functions.view_is in
    let z = ap (λ (t : Functions). t.z) c.functions.view_is in
    let b = c.as_slice-b.ensures.value ∙ ap (λ (t : Functions). t.b) c.functions.view_is in
    let w = c.as_slice-weights.ensures.value
    ∙ ap (λ (t : Functions). t.weights) c.functions.view_is in
    let n : c.len-n.result ≡ length heads = omega (
      arith,
      c.len-n.ensures,
      c.in_ok-list.list.ok.0,
    ) in
    let t : c.len-n.result ≤ length (rows_of c.basis-rows.result.now) = enough-rows
    K L f p _ c.greatest.result
    _ c.as_slice-b.result.now c.as_slice-weights.result.now
    c.in_ok-counts.counts.items c.deref.result.now heads c.in_ok-list-2.list.items
    c.deref-2.result.now s (rows_of c.basis-rows.result.now) c.len-n.result
    (frame-parts p _ _ _ _ e z b w) (ap length b ∙ c.requires.count ∙ sym e)
    (ap length w ∙ c.requires.weights ∙ sym e) c.in_ok-counts.ensures c.in_ok-list.ensures
    c.deref.ensures.value c.in_ok-list-2.ensures c.deref-2.ensures.value
    c.in_ok-relations.ensures.space.space c.in_ok-relations.ensures.space.len
    c.in_ok-relations.ensures.exact c.basis-rows.ensures n c.greatest.ensures.above h in
    absurd (omega (
      arith,
      t,
      c.if-rows-n.true,
      length-map c.basis-rows.result.now (λ (v : Vec ℕ). v.items),
    ))

pub returns-clause-none : goal.returns-clause-none
returns-clause-none g c =
    let K = g.K.Ring.elements c.args.alg.now.k in
    let L = g.K.Ring.lawful c.args.alg.now.k in
    let f = c.args.alg.now.f in
    let p = c.args.functions.now in
    let s = c.in_ok-relations.relations in
    let heads = c.in_ok-list.list.items in
    let e = ap (λ (t : Functions). t.e) c.functions.view_is in
    let z = ap (λ (t : Functions). t.z) c.functions.view_is in
    let b = c.as_slice-b.ensures.value ∙ ap (λ (t : Functions). t.b) c.functions.view_is in
    let w = c.as_slice-weights.ensures.value
    ∙ ap (λ (t : Functions). t.weights) c.functions.view_is in
    let n : c.len-n.result ≡ length heads = omega (
      arith,
      c.len-n.ensures,
      c.in_ok-list.list.ok.0,
    ) in
    ok_map _ _ c.triangle_rows.result (λ o k. none-map o _ _ (λ no h.
    no (readable-rows K L f p _ c.greatest.result
    _ c.as_slice-b.result.now c.as_slice-weights.result.now
    c.in_ok-counts.counts.items c.deref.result.now heads c.in_ok-list-2.list.items
    c.deref-2.result.now s (rows_of c.basis-rows.result.now) c.len-n.result
    (frame-parts p _ _ _ _ e z b w) (ap length b ∙ c.requires.count ∙ sym e)
    (ap length w ∙ c.requires.weights ∙ sym e) c.in_ok-counts.ensures c.in_ok-list.ensures
    c.deref.ensures.value c.in_ok-list-2.ensures c.deref-2.ensures.value
    c.in_ok-relations.ensures.space.space c.in_ok-relations.ensures.space.len
    c.in_ok-relations.ensures.exact c.basis-rows.ensures n c.greatest.ensures.above h
    c.deref-3.result.now c.deref-3.ensures.value)) k)
    c.triangle_rows.ensures.none

pub returns-clause-some : goal.returns-clause-some
returns-clause-some g c =
    let K = g.K.Ring.elements c.args.alg.now.k in
    let L = g.K.Ring.lawful c.args.alg.now.k in
    let f = c.args.alg.now.f in
    let p = c.args.functions.now in
    let s = c.in_ok-relations.relations in
    let heads = c.in_ok-list.list.items in
    let e = ap (λ (t : Functions). t.e) c.functions.view_is in
    let z = ap (λ (t : Functions). t.z) c.functions.view_is in
    let b = c.as_slice-b.ensures.value ∙ ap (λ (t : Functions). t.b) c.functions.view_is in
    let w = c.as_slice-weights.ensures.value
    ∙ ap (λ (t : Functions). t.weights) c.functions.view_is in
    let n : c.len-n.result ≡ length heads = omega (
      arith,
      c.len-n.ensures,
      c.in_ok-list.list.ok.0,
    ) in
    let all : c.len-n.result ≤ length (rows_of c.basis-rows.result.now) = omega (
      arith,
      c.if-rows-n.false,
      length-map c.basis-rows.result.now (λ (v : Vec ℕ). v.items),
    ) in
    ok_map _ _ c.triangle_rows.result (λ o h. some-map o _ _
    (λ v k. triangle-read K L f p _ (2 * c.greatest.result) _ c.as_slice-b.result.now
    c.as_slice-weights.result.now c.in_ok-counts.counts.items c.deref.result.now
    c.deref-3.result.now heads c.in_ok-list-2.list.items c.deref-2.result.now s
    (rows_of c.basis-rows.result.now) c.len-n.result v.items (frame-parts p _ _ _ _ e z b w)
    (ap length b ∙ c.requires.count ∙ sym e) (ap length w ∙ c.requires.weights ∙ sym e)
    c.in_ok-counts.ensures c.in_ok-list.ensures c.deref.ensures.value c.in_ok-list-2.ensures
    c.deref-2.ensures.value c.in_ok-relations.ensures.exact c.basis-rows.ensures n all
    c.deref-3.ensures.value k) h)
    c.triangle_rows.ensures.some
