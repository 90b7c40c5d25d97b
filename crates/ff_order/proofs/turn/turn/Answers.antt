use Rattle.std.proofs.Common.{ℕ, length, refl, sym, ◌∙◌, ap, Vec, Global}
use Rattle.std.proofs.lemmas.List.{length-map}
use Rattle.ff_theory.proofs.Results.{ok_map}
use Rattle.ff_lin.proofs.InsertRow.{basis_vectors}
use Rattle.ff_quotients.proofs.KeptVectors.{kept-spans}
use Rattle.ff_order.proofs.ScaledRows.{turn_is}
use Rattle.ff_order.proofs.turn.turn.Goals as goal

pub combinations-requires : goal.combinations-requires
combinations-requires g c =
    let F = g.K.Ring.elements c.args.alg.now.k in
    let items : Vec ℕ Global → _ = λ v. v.items in
    record {
      coefficients = basis_vectors F items c.basis.result.now c.basis.result.now
          c.in_ok-lists.lists (length c.basis-2.result.now) refl c.basis.ensures
          (sym (length-map c.basis-2.result.now items) ∙ ap length c.basis-2.ensures
          ∙ sym c.in_ok-lists.ensures.space.len) c.in_ok-lists.ensures.space.space;
      vectors = basis_vectors F items c.basis-2.result.now c.basis-2.result.now c.args.space.now
          c.len.result refl c.basis-2.ensures c.len.ensures c.requires.space.space;
    }

pub returns-clause-space : goal.returns-clause-space
returns-clause-space g c =
    ok_map _ _ c.combinations.result
    (λ s h. record {
      space = h.space;
      len = h.len ∙ c.len.ensures ∙ c.requires.space.len;
    }) c.combinations.ensures.space

pub returns-clause-exact : goal.returns-clause-exact
returns-clause-exact g c =
    let F = g.K.Ring.elements c.args.alg.now.k in
    let L = g.K.Ring.lawful c.args.alg.now.k in
    let lists = c.in_ok-lists.lists in
    let old = c.args.space.now in
    ok_map _ _ c.combinations.result
    (λ s h. turn_is F L c.args.alg.now.f c.args.alg.now.plane c.args.alg.now.has_y c.args.chart
    c.args.rows.now c.requires.rows c.args.powers.now c.requires.powers old lists s
    c.in_ok-lists.ensures.exact c.in_ok-lists.ensures.space.len
    (kept-spans F L c.basis-2.result.now c.basis.result.now old lists s c.basis-2.ensures
    c.basis.ensures h)) c.combinations.ensures.same
