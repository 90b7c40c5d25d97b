use Rattle.std.proofs.Common.{ℕ, ◌*◌, List, get_or, map, sym, ◌∙◌, ap, subst, arith}
use Rattle.std.specs.Global.{Vec}
use Rattle.std.proofs.lemmas.List.{get_or_default}
use Rattle.ff_theory.specs.Vector.{vector_of, vectors_of, IsVector}
use Rattle.ff_elem.proofs.RowLemmas.{pushed-length, pushed-each}
use Rattle.ff_data.specs.Orders.{y_degree}
use Rattle.ff_common.specs.Common.{IsReversed}
use Rattle.ff_common.proofs.TimesSpaces.{row_pushed}
use Rattle.ff_common.proofs.images.reversed_vectors.Goals as goal

pub loop-rows-preserved : goal.loop-rows-preserved
loop-rows-preserved g c =
    let F = g.K.Ring.elements c.args.alg.now.k in
    let L = g.K.Ring.lawful c.args.alg.now.k in
    let items : Vec ℕ → List ℕ = λ v. v.items in
    let lists = c.args.lists.now in
    let i = c.loop-rows.rows-index in
    let old = c.loop-rows.vectors.items in
    let new = c.push.new.self.items in
    let row = c.in_ok-reversed_vector.field-0 in
    let e = c.in_ok-push.ensures.items in
    let h = c.loop-rows.invariant in
    let n = y_degree L c.args.alg.now.f * c.args.h in
    let P : ℕ → (ℕ → F.carrier) → Type 0 = λ i r. (d : Vec (List ℕ))
    → IsReversed F c.args.h (get_or lists i d).items r in
    record {
      len = pushed-length old row new i e h.len;
      vectors = pushed-each (λ (v : Vec ℕ). IsVector F n v.items) old row new e h.vectors
          c.in_ok-reversed_vector.ensures.vector;
      value = λ j l. subst (λ t. P j (vectors_of F (map items t) j)) (sym e)
          (row_pushed F items old row P i h.len h.value
          (λ d. subst (λ t. IsReversed F c.args.h t (vector_of F row.items))
          (c.deref.ensures.value ∙ ap (λ (v : Vec (List ℕ)). v.items) (c.rows-item.is
          ∙ get_or_default lists i c.rows-item.result d c.loop-rows-test.true))
          c.in_ok-reversed_vector.ensures.value) j l);
    }

pub returns-clause-value : goal.returns-clause-value
returns-clause-value g c = λ i d l. c.loop-rows.invariant.value i
    (omega (arith, l, c.loop-rows-test.false)) d
