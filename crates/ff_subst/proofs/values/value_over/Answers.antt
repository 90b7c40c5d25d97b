use Rattle.std.proofs.Common.{ap, subst, sym, ◌∙◌, ◌≡◌}
use Rattle.ff_theory.specs.Lawful.{lawful_field}
use Rattle.ff_theory.specs.Values.{ArePolys, plane_of}
use Rattle.ff_theory.proofs.Results.{ok_map}
use Rattle.ff_elem.specs.Elem.{algebra_in, elem_of}
use Rattle.ff_data.specs.Substitution.{plane_at_pair}
use Rattle.ff_subst.specs.Inverse.{numerator_at}
use Rattle.ff_subst.proofs.values.value_over.Goals as goal

pub value_of_rows-requires : goal.value_of_rows-requires
value_of_rows-requires g c =
    let K = g.K.Ring.elements c.args.alg.now.k in
    record {
      at = c.requires.at;
      pair = c.requires.pair;
      rows = subst (ArePolys K) (sym c.rows.ensures) c.requires.num;
    }

pub mul-requires : goal.mul-requires
mul-requires g c =
    record { a = c.in_ok-num.ensures.element; b = c.requires.inverse }

pub returns-clause-element : goal.returns-clause-element
returns-clause-element g c = c.mul.ensures.element

pub returns-clause-value : goal.returns-clause-value
returns-clause-value g c =
    let K = g.K.Ring.elements c.args.alg.now.k in
    let L = g.K.Ring.lawful c.args.alg.now.k in
    let f = c.args.alg.now.f in
    let A = algebra_in L f in
    let s = c.args.s.now in
    let pair = c.args.pair.now in
    let i = elem_of L f c.args.inverse.now in
    ok_map (λ r. elem_of L f r ≡ A.mul (elem_of L f c.in_ok-num.num) i)
    (λ r. elem_of L f r ≡ A.mul (numerator_at L f s pair) i) c.mul.result
    (λ r h. h ∙ ap (λ n. A.mul n i) (c.in_ok-num.ensures.value
    ∙ ap (λ rows. plane_at_pair (lawful_field L) (plane_of K f) (elem_of L f pair.x)
    (elem_of L f pair.y) (plane_of K rows)) c.rows.ensures)) c.mul.ensures.value
