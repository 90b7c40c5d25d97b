use Rattle.std.proofs.Common.{◌≡◌, suc, ◌-◌, ◌<◌, length, sym, ◌∙◌, ap, subst, arith}
use Rattle.std.proofs.lemmas.List.Elements.{All-append}
use Rattle.ff_theory.specs.Lawful.{lawful_field}
use Rattle.ff_theory.specs.LowestTerms.{IsLowest}
use Rattle.ff_theory.specs.Poly.{coeff}
use Rattle.ff_theory.specs.Values.{poly_of, polys_of, polys_over, IsPoly, ArePolys, IsPlane}
use Rattle.ff_theory.proofs.Results.{ok_map}
use Rattle.ff_elem.proofs.Reduction.{last-row}
use Rattle.ff_elem.proofs.EuclidSteps.{top-is}
use Rattle.ff_elem.proofs.euclid.lowest_rows.Goals as goal

pub lowest-requires : goal.lowest-requires
lowest-requires g c =
    let F = g.K.Ring.elements c.args.k.now in
    let v = c.rows-value.result.now in
    let long : length v ≡ suc (length v - 1) = omega
    (arith, ap length c.rows-value.ensures, c.requires.nonzero) in
    let last = last-row F (g.K.Ring.lawful c.args.k.now) v (length v - 1) c.index-value-value.result
    (subst (IsPlane F) (sym c.rows-value.ensures) c.requires.a.value) long
    c.index-value-value.is in
    record {
      den = last.0;
      nonzero = last.1;
      nums = subst (ArePolys F) (sym (c.deref.ensures.value ∙ c.in_ok-rows.ensures))
          (All-append (IsPoly F) c.args.a.now.value c.args.a.now.factor c.requires.a.value.each
          c.requires.a.factor.each);
    }

pub returns-clause-lowest : goal.returns-clause-lowest
returns-clause-lowest g c =
    let F = g.K.Ring.elements c.args.k.now in
    ok_map _ _ c.lowest.result
    (λ r h. subst (λ rows. IsLowest (lawful_field (g.K.Ring.lawful c.args.k.now)) (length rows)
    (poly_of F r.0) (polys_of F r.1.items)) (c.deref.ensures.value ∙ c.in_ok-rows.ensures) h)
    c.lowest.ensures.lowest

pub returns-clause-equal : goal.returns-clause-equal
returns-clause-equal g c =
    let F = g.K.Ring.elements c.args.k.now in
    let P = polys_over F in
    let list = c.deref.ensures.value ∙ c.in_ok-rows.ensures in
    let t = top-is F (g.K.Ring.lawful c.args.k.now) c.rows-value.result.now c.args.a.now.value
    c.index-value-value.result c.rows-value.ensures c.requires.nonzero c.index-value-value.is in
    ok_map _ _ c.lowest.result
    (λ r h i l. sym (ap (λ p. P.mul (coeff P (polys_of F r.1.items) i) (poly_of F p)) t)
    ∙ h i (subst (λ rows. i < length rows) (sym list) l)
    ∙ ap (λ rows. P.mul (coeff P (polys_of F rows) i) (poly_of F r.0)) list) c.lowest.ensures.equal
