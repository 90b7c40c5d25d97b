use Rattle.std.proofs.Common.{ℕ, List, [], map, sym, ◌∙◌, ap, subst, arith}
use Rattle.std.specs.Global.{Vec}
use Rattle.std.proofs.lemmas.List.{length-map, get_or-map}
use Rattle.ff_theory.specs.Values.{poly_of}
use Rattle.ff_theory.specs.Vector.{vector_of, vectors_of}
use Rattle.ff_elem.proofs.RowLemmas.{pushed-length}
use Rattle.ff_data.proofs.ListLemmas.{pushed-at}
use Rattle.ff_common.specs.Common.{AreQuotients}
use Rattle.ff_common.proofs.images.quotients_of.Goals as goal

pub loop-v-preserved : goal.loop-v-preserved
loop-v-preserved g c =
    let F = g.K.Ring.elements c.args.alg.now.k in
    let L = g.K.Ring.lawful c.args.alg.now.k in
    let f = c.args.alg.now.f in
    let items : Vec ℕ → List ℕ = λ v. v.items in
    let basis = map items c.args.vectors.now in
    let by = poly_of F c.args.by.now in
    let i = c.loop-v.v-index in
    let old = c.loop-v.lists.items in
    let new = c.push.new.self.items in
    let q = c.in_ok-quotient_rows.field-0 in
    let e = c.in_ok-push.ensures.items in
    let h = c.loop-v.invariant in
    record {
      count = pushed-length old q new i e h.count;
      each = λ d. pushed-at (λ j (u : Vec (List ℕ)). AreQuotients L f by c.args.l
          (vectors_of F basis j) u.items) d old q new i e h.count (h.each d)
          (subst (λ t. AreQuotients L f by c.args.l (vector_of F t) q.items)
          (c.deref.ensures.value ∙ ap items c.v-item.is
          ∙ sym (get_or-map items c.args.vectors.now i c.v-item.result [] (omega arith)))
          c.in_ok-quotient_rows.ensures);
    }

pub returns : goal.returns
returns g c =
    let items : Vec ℕ → List ℕ = λ v. v.items in
    let count = length-map c.args.vectors.now items in
    let h = c.loop-v.invariant in
    record {
      count = omega (arith, count, h.count, c.loop-v-test.false, c.loop-v.auto.v-index-end);
      each = λ i d l. h.each d i (omega (arith, l, count, c.loop-v-test.false));
    }
