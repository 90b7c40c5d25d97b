use Rattle.std.proofs.Common.{◌≡◌, [], suc, get_or, ◌+◌, ◌*◌, ℕ, length, sym, ◌∙◌, ap, subst}
use Rattle.std.proofs.Common.{arith, Vec, Global}
use Rattle.std.proofs.lemmas.List.{get_or-map}
use Rattle.ff_theory.specs.Vector.{vector_of}
use Rattle.ff_lin.specs.Space.{rows_of}
use Rattle.ff_common.specs.Common.{IsImage}
use Rattle.ff_data.specs.Orders.{y_degree}
use Rattle.ff_functions.specs.Images.{IsShortOver}
use Rattle.ff_functions.specs.Searches.{AreRows}
use Rattle.ff_functions.proofs.NumeratorImages.{numerator_more}
use Rattle.ff_functions.proofs.SearchLemmas.{rows_more}
use Rattle.ff_functions.proofs.frame.Frame.with_numerator.Goals as goal

pub insert-requires : goal.insert-requires
insert-requires g c =
    let F = g.K.Ring.elements c.args.alg.now.k in
    let L = g.K.Ring.lawful c.args.alg.now.k in
    let len = y_degree L c.args.alg.now.f * c.args.self.now.h in
    let i = c.args.i in
    let rows = c.args.echelon.rows.items in
    let image = c.in_ok-image.ensures.vector in
    let unit = c.in_ok-unit.ensures.vector in
    record {
      rows = subst (λ n. AreRows F n (length c.in_ok-unit.unit.items) rows) (sym image.len)
          (subst (λ m. AreRows F len m rows) (sym unit.len)
          (rows_more F len i (i + 1) (omega arith) rows c.requires.rows));
      v = image.each;
      c = unit.each;
    }

pub returns-clause-rows : goal.returns-clause-rows
returns-clause-rows g c =
    let F = g.K.Ring.elements c.args.alg.now.k in
    let L = g.K.Ring.lawful c.args.alg.now.k in
    let len = y_degree L c.args.alg.now.f * c.args.self.now.h in
    let rows = c.in_ok-next.next.rows.items in
    subst (λ m. AreRows F len m rows) c.in_ok-unit.ensures.vector.len
    (subst (λ n. AreRows F n (length c.in_ok-unit.unit.items) rows)
    c.in_ok-image.ensures.vector.len c.in_ok-next.ensures.rows)

pub returns-clause-held : goal.returns-clause-held
returns-clause-held g c = λ o held.
    let F = g.K.Ring.elements c.args.alg.now.k in
    let L = g.K.Ring.lawful c.args.alg.now.k in
    let f = c.args.alg.now.f in
    let s = c.args.self.now in
    let d = c.args.d.now in
    let i = c.args.i in
    let e : i + 1 ≡ suc i = omega arith in
    let items : Vec ℕ Global → _ = λ v. v.items in
    let at : c.deref.result.now ≡ get_or (rows_of s.numerators.items) i [] =
    c.deref.ensures.value ∙ ap items c.index-v.ensures
    ∙ sym (get_or-map items s.numerators.items i c.index-v.result.now [] c.requires.index) in
    let image = c.in_ok-image.image.items in
    numerator_more F L f s d o (y_degree L f * s.h) i (i + 1) (vector_of F image)
    (vector_of F c.in_ok-unit.unit.items) c.args.echelon.rows.items c.in_ok-next.next.rows.items
    c.in_ok-next._relation e c.requires.rows c.in_ok-unit.ensures.value c.in_ok-next.ensures.value
    (subst (λ t. IsShortOver L f d s.l s.h (vector_of F t)
    → IsImage L f d s.l s.h (vector_of F t) (vector_of F image)) at c.in_ok-image.ensures.value)
    held
