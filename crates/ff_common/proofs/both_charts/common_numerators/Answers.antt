use Rattle.std.proofs.Common.{ℕ, length, refl, sym, ◌∙◌, ap, Vec, Global}
use Rattle.std.proofs.lemmas.List.{length-map}
use Rattle.ff_theory.specs.Values.{poly_of}
use Rattle.ff_lin.proofs.InsertRow.{basis_vectors}
use Rattle.ff_elem.proofs.PolyLemmas.{nonzero-length}
use Rattle.ff_data.specs.declared.order.Chart.TheVariants.{Infinite}
use Rattle.ff_data.proofs.ChartLaws.{chart_laws}
use Rattle.ff_common.proofs.CommonSpace.{common_space}
use Rattle.ff_quotients.proofs.KeptVectors.{kept-spans}
use Rattle.ff_common.proofs.both_charts.common_numerators.Goals as goal

pub held_numerators-requires : goal.held_numerators-requires
held_numerators-requires g c =
    let F = g.K.Ring.elements c.args.alg.now.k in
    let L = g.K.Ring.lawful c.args.alg.now.k in
    let t = c.args.t.now in
    record {
      finite = c.requires.finite;
      nonzero = nonzero-length F L t ((chart_laws F L c.args.alg.now.f c.args.alg.now.plane
          c.args.alg.now.has_y Infinite).modulus_nonzero (poly_of F t)
          c.requires.infinite.modulus);
    }

pub kept_coefficients-requires : goal.kept_coefficients-requires
kept_coefficients-requires g c =
    let F = g.K.Ring.elements c.args.alg.now.k in
    let L = g.K.Ring.lawful c.args.alg.now.k in
    record {
      d = c.requires.finite.poly;
      nonzero = nonzero-length F L c.args.d.now c.requires.finite.modulus;
      held = (c.in_ok-l.ensures c.args.other.now c.requires.infinite).space;
      infinite = c.requires.infinite;
    }

pub combinations-requires : goal.combinations-requires
combinations-requires g c =
    let F = g.K.Ring.elements c.args.alg.now.k in
    let items : Vec ℕ Global → _ = λ v. v.items in
    let held = c.in_ok-l.ensures c.args.other.now c.requires.infinite in
    record {
      coefficients = basis_vectors F items c.basis.result.now c.basis.result.now
          c.in_ok-kept.kept (length c.basis-2.result.now) refl c.basis.ensures
          (sym (length-map c.basis-2.result.now items) ∙ ap length c.basis-2.ensures
          ∙ sym c.in_ok-kept.ensures.space.len) c.in_ok-kept.ensures.space.space;
      vectors = basis_vectors F items c.basis-2.result.now c.basis-2.result.now c.in_ok-l.held
          c.len.result refl c.basis-2.ensures c.len.ensures held.space.space;
    }

pub returns : goal.returns
returns g c =
    let F = g.K.Ring.elements c.args.alg.now.k in
    let L = g.K.Ring.lawful c.args.alg.now.k in
    let held = c.in_ok-l.ensures c.args.other.now c.requires.infinite in
    let kept = c.in_ok-kept.kept in
    let common = c.in_ok-common.common in
    common_space F L c.args.alg.now.f c.args.alg.now.plane c.args.alg.now.has_y c.args.d.now
    c.requires.finite.modulus c.args.t.now c.args.other.now c.requires.infinite c.in_ok-l.l
    c.args.space.now c.in_ok-l.held kept common held c.in_ok-kept.ensures.space.len
    (record {
      space = c.in_ok-common.ensures.space.space;
      len = c.in_ok-common.ensures.space.len ∙ c.len.ensures ∙ held.space.len;
    }) c.in_ok-kept.ensures.exact
    (kept-spans F L c.basis-2.result.now c.basis.result.now c.in_ok-l.held kept common
    c.basis-2.ensures c.basis.ensures c.in_ok-common.ensures.same)
