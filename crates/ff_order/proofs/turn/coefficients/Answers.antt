use Rattle.std.proofs.Common.{ℕ, ◌*◌, pred, length, map, refl, sym, ◌∙◌, ap, subst, Vec, Global}
use Rattle.std.proofs.lemmas.List.{length-map}
use Rattle.ff_theory.specs.Vector.{combination_of}
use Rattle.ff_theory.proofs.Results.{ok_map}
use Rattle.ff_lin.specs.Space.{AreVectors, HasExactly, InSpace, frobenius}
use Rattle.ff_lin.proofs.InsertRow.{basis_vectors}
use Rattle.ff_data.specs.Orders.{y_degree}
use Rattle.ff_order.proofs.Combinations.{images-exact}
use Rattle.ff_order.proofs.turn.coefficients.Goals as goal

pub semi_combinations-requires : goal.semi_combinations-requires
semi_combinations-requires g c =
    let F = g.K.Ring.elements c.args.alg.now.k in
    let L = g.K.Ring.lawful c.args.alg.now.k in
    let powers = c.args.powers.now in
    record {
      rows = subst (λ n. AreVectors F n c.deref.result.now)
          (sym (c.len.ensures ∙ c.in_ok-target.ensures.space.len))
          (subst (AreVectors F (y_degree L c.args.alg.now.f * pred (length powers.top)))
          (sym c.deref.ensures.value) c.requires.powers.vectors);
      lists = basis_vectors F (λ v. v.items) c.basis-basis.result.now c.basis-basis.result.now
          c.args.space.now (length c.deref.result.now) refl c.basis-basis.ensures
          (ap length c.deref.ensures.value ∙ c.requires.powers.count
          ∙ sym c.requires.space.len) c.requires.space.space;
    }

pub semi_preimage-requires : goal.semi_preimage-requires
semi_preimage-requires g c =
    let F = g.K.Ring.elements c.args.alg.now.k in
    record {
      space = c.in_ok-target.ensures.space.space;
      images = subst (AreVectors F c.in_ok-target.target.len) (sym c.deref-2.ensures.value)
          (subst (λ n. AreVectors F n c.in_ok-images.images.items) c.len.ensures
          c.in_ok-images.ensures.vectors);
    }

pub returns-clause-space : goal.returns-clause-space
returns-clause-space g c =
    let items : Vec ℕ Global → _ = λ v. v.items in
    ok_map _ _ c.semi_preimage.result
    (λ s h. record {
      space = h.space;
      len = h.len ∙ ap length c.deref-2.ensures.value ∙ c.in_ok-images.ensures.len
          ∙ sym (length-map c.basis-basis.result.now items) ∙ ap length c.basis-basis.ensures;
    }) c.semi_preimage.ensures.space

pub returns-clause-exact : goal.returns-clause-exact
returns-clause-exact g c =
    let F = g.K.Ring.elements c.args.alg.now.k in
    let L = g.K.Ring.lawful c.args.alg.now.k in
    let items : Vec ℕ Global → _ = λ v. v.items in
    let target = c.in_ok-target.target in
    let old = c.args.space.now in
    ok_map _ _ c.semi_preimage.result
    (λ s h. (
      target,
      (
        c.in_ok-target.ensures.value,
        subst (λ t. HasExactly F s (λ v. InSpace F target
            (combination_of F (map items t) (frobenius F (combination_of F old.basis v)))))
            c.deref.ensures.value
            (images-exact F L c.deref.result.now c.basis-basis.result.now
            c.in_ok-images.images.items old target s
            c.basis-basis.ensures c.in_ok-images.ensures.len c.in_ok-images.ensures.value
            (subst (λ t. HasExactly F s (λ v. InSpace F target
            (combination_of F (map items t) (frobenius F v)))) c.deref-2.ensures.value h)),
      ),
    ))
    c.semi_preimage.ensures.exact
