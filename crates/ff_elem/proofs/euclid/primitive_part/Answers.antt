use Rattle.std.proofs.Common.{◌≡◌, suc, ◌-◌, ◌≤◌, ◌++◌, length, take, drop, refl, sym, ◌∙◌, ap}
use Rattle.std.proofs.Common.{subst, arith, length-append, length-drop}
use Rattle.std.proofs.lemmas.List.{take_all, length-take-le}
use Rattle.std.proofs.lemmas.List.Elements.{All-take, All-drop}
use Rattle.ff_theory.specs.Values.{IsPoly, ArePolys, plane_of}
use Rattle.ff_theory.proofs.Results.{ok_both}
use Rattle.ff_elem.specs.Euclid.{top}
use Rattle.ff_elem.proofs.Reduction.{last-row}
use Rattle.ff_elem.proofs.EuclidSteps.{plane-short, top-of}
use Rattle.ff_elem.proofs.CommonRows.{lowest-count, primitive-step}
use Rattle.ff_elem.proofs.euclid.primitive_part.Goals as goal

pub multiple_of-requires : goal.multiple_of-requires
multiple_of-requires g c =
    let F = g.K.Ring.elements c.args.k.now in
    let n = length c.rows-n.result.now in
    let Q = c.deref.result.now in
    let R = c.deref-2.result.now in
    let e = c.in_ok-_den.ensures in
    record {
      value = All-take (IsPoly F) n Q (subst (ArePolys F) (sym c.deref.ensures.value) e.rows);
      factor = All-take (IsPoly F) (length R - n) (drop n R)
          (All-drop (IsPoly F) n R (subst (ArePolys F) (sym c.deref-2.ensures.value) e.rows));
    }

pub returns-clause-short : goal.returns-clause-short
returns-clause-short g c =
    let F = g.K.Ring.elements c.args.k.now in
    let L = g.K.Ring.lawful c.args.k.now in
    let a = c.args.a.now in
    let n = length c.rows-n.result.now in
    let Q = c.deref.result.now in
    let count = lowest-count F L (length (a.value ++ a.factor)) c.in_ok-_den._den
    c.in_ok-_den.rows.items c.in_ok-_den.ensures.lowest in
    let inside : n ≤ length Q = omega (
      arith,
      count,
      ap length c.deref.ensures.value,
      length-append a.value a.factor,
      ap length
          c.rows-n.ensures,
    ) in
    ok_both _ _ _ c.multiple_of.result
    (λ r planes value. omega (
      arith,
      plane-short F L (take n Q) r.value planes.value value,
      length-take-le n Q inside,
      ap length c.rows-n.ensures,
    )) c.multiple_of.ensures.planes
    c.multiple_of.ensures.value

pub returns-clause-step : goal.returns-clause-step
returns-clause-step g c =
    let F = g.K.Ring.elements c.args.k.now in
    let L = g.K.Ring.lawful c.args.k.now in
    let a = c.args.a.now in
    let n = length c.rows-n.result.now in
    let R = c.deref-2.result.now in
    let e = c.in_ok-_den.ensures in
    let long : length a.value ≡ suc (length a.value - 1) = omega (arith, c.requires.nonzero) in
    let last = last-row F L a.value (length a.value - 1) (top a.value) c.requires.a.value long
    (top-of F L a.value a.value refl c.requires.nonzero) in
    ok_both _ _ _ c.multiple_of.result
    (λ r value factor by. primitive-step F L a by r n (a.value ++ a.factor) c.in_ok-_den.rows.items
    (top a.value) c.in_ok-_den._den refl (ap length c.rows-n.ensures) last.0 last.1 e.lowest
    e.equal
    (value ∙ ap (λ q. plane_of F (take n q)) c.deref.ensures.value)
    (factor ∙ ap (plane_of F) (take_all (length R - n) (drop n R) (omega (arith, length-drop n R)))
    ∙ ap (λ q. plane_of F (drop n q)) c.deref-2.ensures.value)) c.multiple_of.ensures.value
    c.multiple_of.ensures.factor
