use Rattle.std.proofs.Common.{ℕ, length, map, refl, sym, ◌∙◌, ap, subst, Vec, Global}
use Rattle.std.proofs.lemmas.List.{length-map}
use Rattle.ff_theory.specs.Values.{poly_of}
use Rattle.ff_theory.proofs.Results.{ok_map}
use Rattle.ff_lin.specs.Space.{SameSpace}
use Rattle.ff_lin.proofs.InsertRow.{basis_vectors}
use Rattle.ff_order.specs.Steps.{AreScaled}
use Rattle.ff_order.proofs.turn.scaled_space.Goals as goal

pub scaled_rows-requires-clause-basis : goal.scaled_rows-requires-clause-basis
scaled_rows-requires-clause-basis g c =
    basis_vectors (g.K.Ring.elements c.args.alg.now.k) (λ v. v.items) c.basis.result.now
    c.basis.result.now c.args.space.now _ refl c.basis.ensures (sym c.requires.space.len)
    c.requires.space.space

pub returns-clause-value : goal.returns-clause-value
returns-clause-value g c =
    let F = g.K.Ring.elements c.args.alg.now.k in
    let L = g.K.Ring.lawful c.args.alg.now.k in
    let f = c.args.alg.now.f in
    let items : Vec ℕ Global → _ = λ v. v.items in
    let powers = c.args.powers.now in
    let scaled = c.in_ok-scaled.scaled.items in
    let basis = c.basis.result.now in
    ok_map _ _ c.span.result
    (λ s h. (
      map items scaled,
      (
        length-map scaled items ∙ c.in_ok-scaled.ensures.len ∙ sym (length-map basis items)
            ∙ ap length c.basis.ensures,
        (
          subst (λ b. AreScaled L f c.args.chart c.args.rows.now.d powers.top
              (poly_of F powers.below) b (map items scaled)) c.basis.ensures
              c.in_ok-scaled.ensures.value,
          subst (λ t. SameSpace F s.basis (map items t)) c.deref.ensures.value h,
        ),
      ),
    )) c.span.ensures.same
