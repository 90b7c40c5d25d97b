use Rattle.std.proofs.Common.{◌≡◌, ◌+◌, ◌-◌, pred, length, subst, arith, IfSome}
use Rattle.ff_theory.specs.Vector.{vector_of, IsVector}
use Rattle.ff_functions.specs.declared.search.Search.{Search}
use Rattle.ff_functions.specs.Searches.{AreRows, HasTrailForm}
use Rattle.ff_functions.proofs.SearchImages.{search_more}
use Rattle.ff_functions.proofs.SearchLemmas.{rows_more, numbers_more}
use Rattle.ff_functions.proofs.search.Search.with_image.Goals as goal

pub insert-requires : goal.insert-requires
insert-requires g c =
    let F = g.K.Ring.elements c.args.alg.now.k in
    let len = length c.args.image.items in
    let rows = c.args.self.echelon.rows.items in
    let o = c.requires.origin in
    record {
      rows = rows_more F len (c.args.c + pred c.args.j) (length c.args.origin.items)
          (omega (arith, o.len, c.requires.positive)) rows c.requires.form.rows;
      v = c.requires.image;
      c = o.each;
    }

pub with_relation-requires : goal.with_relation-requires
with_relation-requires g c =
    let F = g.K.Ring.elements c.args.alg.now.k in
    let j = c.args.j in
    let numbers = c.args.self.numbers.items in
    record {
      numbers = numbers_more F c.args.c (pred j) j (omega arith) numbers c.requires.form.numbers;
      positive = c.requires.positive;
      relation = subst (λ n. IfSome c.in_ok-echelon.relation (λ r. IsVector F n r.items))
          c.requires.origin.len c.in_ok-echelon.ensures.relation;
    }

pub noted-requires : goal.noted-requires
noted-requires g c =
    let L = g.K.Ring.lawful c.args.alg.now.k in
    let j = c.args.j in
    let e : pred j ≡ j - 1 = omega arith in
    record {
      form = subst (λ m. HasTrailForm L c.args.alg.now.f c.args.order.now j m c.args.self.trail) e
          c.requires.form.trail;
    }

pub returns : goal.returns
returns g c =
    let F = g.K.Ring.elements c.args.alg.now.k in
    let L = g.K.Ring.lawful c.args.alg.now.k in
    let f = c.args.alg.now.f in
    let o = c.args.order.now in
    let j = c.args.j in
    let len = length c.args.image.items in
    let new : Search = record {
      echelon = c.in_ok-echelon.echelon;
      trail = c.in_ok-trail.trail;
      numbers = c.in_ok-numbers.numbers;
    } in
    let e : j - 1 + 1 ≡ j = omega (arith, c.requires.positive) in
    record {
      form = record {
        rows = subst (λ m. AreRows F len m c.in_ok-echelon.echelon.rows.items)
            c.requires.origin.len c.in_ok-echelon.ensures.rows;
        trail = subst (λ m. HasTrailForm L f o j m c.in_ok-trail.trail) e
            c.in_ok-trail.ensures.form;
        numbers = c.in_ok-numbers.ensures.form;
      };
      held = λ p h image t first held. search_more F L f o p h c.args.c j len c.requires.positive t
          first c.args.self new (vector_of F c.args.image.items) (vector_of F c.args.origin.items)
          c.in_ok-echelon.relation c.args.self.trail.powers.power c.requires.form.rows
          c.requires.unit c.in_ok-echelon.ensures.value c.in_ok-trail.ensures.passed
          c.in_ok-trail.ensures.powers
          c.requires.form.trail.count c.requires.form.numbers
          (λ images v h. c.in_ok-numbers.ensures.numbers t images v h) c.in_ok-numbers.is_number
          (λ images v. c.in_ok-numbers.ensures.decided t images v) c.in_ok-numbers.ensures.form
          image held;
    }
