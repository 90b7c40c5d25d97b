use Rattle.std.proofs.Common.{[], ap, ap₂, arith, length, refl, subst, sym, ℕ, ◌-◌, ◌<◌, ◌∙◌}
use Rattle.std.proofs.lemmas.List.{get_or_default}
use Rattle.ff_theory.specs.Lawful.{lawful_field}
use Rattle.ff_theory.specs.Poly.{coeff, polynomials}
use Rattle.ff_theory.specs.Values.{IsPoly, plane_of, poly_of}
use Rattle.ff_elem.specs.Elem.{algebra_in, elem_of}
use Rattle.ff_data.specs.Substitution.{poly_at}
use Rattle.ff_subst.proofs.HornerLemmas.{horner-next, horner-none, row-entry, rows-whole}
use Rattle.ff_subst.proofs.values.value_of_rows.Goals as goal

pub next_row-requires : goal.next_row-requires
next_row-requires g c =
    let K = g.K.Ring.elements c.args.alg.now.k in
    record {
      at = c.requires.at;
      y = c.requires.pair.y;
      value = c.loop-j.invariant.element;
      row = subst (IsPoly K) (sym c.index-rows-j.is)
          (c.requires.rows (c.loop-j.j - 1) c.index-rows-j.result
          (omega (arith, c.loop-j.invariant.below, c.loop-j-test.true)));
    }

pub loop-j-init : goal.loop-j-init
loop-j-init g c =
    let K = g.K.Ring.elements c.args.alg.now.k in
    let L = g.K.Ring.lawful c.args.alg.now.k in
    let f = c.args.alg.now.f in
    let rows = c.args.rows.now in
    record {
      below = omega arith;
      element = c.in_ok-value.ensures.element;
      value = c.in_ok-value.ensures.value
          ∙ sym (horner-none K L f (elem_of L f c.args.pair.now.y)
          (λ j. poly_at (lawful_field L) (plane_of K f) (elem_of L f c.args.pair.now.x)
          (coeff (polynomials K.ring) (plane_of K rows).coeffs j)) (length rows));
    }

pub loop-j-preserved : goal.loop-j-preserved
loop-j-preserved g c =
    let K = g.K.Ring.elements c.args.alg.now.k in
    let L = g.K.Ring.lawful c.args.alg.now.k in
    let f = c.args.alg.now.f in
    let A = algebra_in L f in
    let F = lawful_field L in
    let G = plane_of K f in
    let rows = c.args.rows.now in
    let j = c.loop-j.j in
    let k = j - 1 in
    let X = elem_of L f c.args.pair.now.x in
    let Y = elem_of L f c.args.pair.now.y in
    let cs : ℕ → A.carrier = λ j. poly_at F G X
    (coeff (polynomials K.ring) (plane_of K rows).coeffs j) in
    let pos : 0 < j = omega (arith, c.loop-j-test.true) in
    let old = c.loop-j.invariant in
    let row = c.index-rows-j.result in
    record {
      below = omega (arith, old.below);
      element = c.in_ok-value-2.ensures.element;
      value = c.in_ok-value-2.ensures.value
          ∙ ap₂ (λ a b. A.add a (A.mul Y b))
          (ap (λ p. poly_at F G X (poly_of K p))
          (c.index-rows-j.is ∙ get_or_default rows k row [] (omega (arith, old.below, pos)))
          ∙ row-entry K L f X rows k) old.value
          ∙ horner-next K L f Y cs (length rows) j k pos old.below refl;
    }

pub returns-clause-value : goal.returns-clause-value
returns-clause-value g c =
    let K = g.K.Ring.elements c.args.alg.now.k in
    let L = g.K.Ring.lawful c.args.alg.now.k in
    let f = c.args.alg.now.f in
    c.loop-j.invariant.value ∙ rows-whole K L f (elem_of L f c.args.pair.now.x) (elem_of L f
    c.args.pair.now.y) c.args.rows.now c.loop-j.j (omega (arith, c.loop-j-test.false))
