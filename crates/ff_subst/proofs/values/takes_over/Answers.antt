use Rattle.std.proofs.Common.{IsTrue, ap, subst, sym, true, ◌↔◌, ◌∙◌, ◌≡◌}
use Rattle.ff_theory.specs.Lawful.{lawful_field}
use Rattle.ff_theory.specs.Values.{plane_of, poly_of}
use Rattle.ff_theory.proofs.Results.{ok_map}
use Rattle.ff_elem.specs.Elem.{algebra_in, elem_of}
use Rattle.ff_data.specs.Pairs.{ValueIs}
use Rattle.ff_subst.specs.Inverse.{HasInverse}
use Rattle.ff_subst.proofs.PairValues.{of-value, value-of}
use Rattle.ff_subst.proofs.values.takes_over.Goals as goal

pub is_multiple-requires : goal.is_multiple-requires
is_multiple-requires g c =
    record {
      at = c.requires.at;
      pair = c.requires.pair;
      num = c.requires.num;
      v = c.requires.v;
      den = c.requires.den.element;
    }

pub returns-then-not-equal : goal.returns-then-not-equal
returns-then-not-equal g c =
    let K = g.K.Ring.elements c.args.alg.now.k in
    let L = g.K.Ring.lawful c.args.alg.now.k in
    let f = c.args.alg.now.f in
    let A = algebra_in L f in
    let s = c.args.s.now in
    let X = elem_of L f c.args.pair.now.x in
    let Y = elem_of L f c.args.pair.now.y in
    let v = elem_of L f c.args.v.now in (
      λ e. absurd cc,
      λ h. absurd (let t : c.in_ok-equal.equal ≡ true = c.in_ok-equal.ensures.1
          (ap (A.mul v) c.requires.den.value
          ∙ of-value (lawful_field L) (plane_of K f) (poly_of K s.den) (plane_of K s.num) X Y v
          h) in cc),
    )

pub returns : goal.returns
returns g c =
    let K = g.K.Ring.elements c.args.alg.now.k in
    let L = g.K.Ring.lawful c.args.alg.now.k in
    let f = c.args.alg.now.f in
    let F = lawful_field L in
    let G = plane_of K f in
    let A = algebra_in L f in
    let s = c.args.s.now in
    let X = elem_of L f c.args.pair.now.x in
    let Y = elem_of L f c.args.pair.now.y in
    let v = elem_of L f c.args.v.now in
    let d = c.requires.den.value in
    let yes : c.in_ok-equal.equal ≡ true = cc in
    let equal = ap (A.mul v) (sym d) ∙ c.in_ok-equal.ensures.0 yes in
    ok_map (λ r. IsTrue r ↔ HasInverse L f (elem_of L f c.args.den.now))
    (λ r. IsTrue r ↔ ValueIs L f s c.args.pair.now v) c.has_inverse.result
    (λ r h. (
      λ t. let i = subst (HasInverse L f) d (h.0 t) in value-of F G
          (poly_of K s.den) (plane_of K s.num) X Y v
          (record { inverse = i.inverse; inverts = i.inverts }) equal,
      λ k. h.1 (subst (HasInverse L f) (sym d)
          (record { inverse = k.inverse; inverts = k.inverts })),
    ))
    c.has_inverse.ensures
