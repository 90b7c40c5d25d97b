use Rattle.std.proofs.Common.{◌≡◌, ℕ, pred, ◌*◌, ◌-◌, length, refl, sym, ◌∙◌, ap, subst, arith}
use Rattle.std.proofs.Common.{map, Vec, Global}
use Rattle.std.proofs.lemmas.List.{length-map}
use Rattle.ff_theory.proofs.Results.{ok_map}
use Rattle.ff_theory.specs.Ring.{power}
use Rattle.ff_theory.specs.Poly.{polynomials}
use Rattle.ff_theory.specs.Monomial.{variable}
use Rattle.ff_theory.specs.Values.{poly_of}
use Rattle.ff_lin.specs.Space.{AreVectors, IsSpaceOf}
use Rattle.ff_lin.proofs.InsertRow.{basis_vectors}
use Rattle.ff_elem.proofs.PolyLemmas.{poly-nonzero, nonzero-length}
use Rattle.ff_data.specs.declared.order.Chart.TheVariants.{Infinite}
use Rattle.ff_data.specs.Orders.{y_degree}
use Rattle.ff_data.proofs.ChartLaws.{chart_laws}
use Rattle.ff_common.specs.Common.{AreImages, IsTimesSpace}
use Rattle.ff_common.proofs.CommonSpace.{kept_by_images}
use Rattle.ff_common.proofs.both_charts.kept_coefficients.Goals as goal

pub overflow_sub-m : goal.overflow_sub-m
overflow_sub-m g c =
    let F = g.K.Ring.elements c.args.alg.now.k in
    let L = g.K.Ring.lawful c.args.alg.now.k in
    let t = c.args.t.now in
    omega (
      arith,
      nonzero-length F L t ((chart_laws F L c.args.alg.now.f c.args.alg.now.plane
          c.args.alg.now.has_y Infinite).modulus_nonzero (poly_of F t) c.requires.infinite.modulus),
      ap length c.coeffs.ensures,
    )

pub images-requires : goal.images-requires
images-requires g c =
    let F = g.K.Ring.elements c.args.alg.now.k in
    let items : Vec ℕ Global → _ = λ v. v.items in
    record {
      d = c.requires.d;
      nonzero = c.requires.nonzero;
      vectors = basis_vectors F items c.basis.result.now c.basis.result.now c.args.held.now _ refl
          c.basis.ensures (sym c.requires.held.len) c.requires.held.space;
    }

pub power_times_space-requires : goal.power_times_space-requires
power_times_space-requires g c =
    let F = g.K.Ring.elements c.args.alg.now.k in
    let L = g.K.Ring.lawful c.args.alg.now.k in
    let len : length c.coeffs.result.now - 1 ≡ pred (length c.args.t.now) =
    omega (arith, ap length c.coeffs.ensures) in
    record {
      room = c.in_ok-h.ensures.room;
      space = subst (λ m. IsSpaceOf F (y_degree L c.args.alg.now.f * m) c.args.other.now)
          (sym len) c.requires.infinite.space;
    }

pub preimage-requires : goal.preimage-requires
preimage-requires g c =
    let F = g.K.Ring.elements c.args.alg.now.k in
    record {
      space = c.in_ok-target.ensures.space.space;
      images = subst (λ n. AreVectors F n c.deref.result.now)
          (sym c.in_ok-target.ensures.space.len) (subst (AreVectors F _)
          (sym c.deref.ensures.value) c.in_ok-h.ensures.vectors);
    }

pub returns-clause-space : goal.returns-clause-space
returns-clause-space g c =
    let F = g.K.Ring.elements c.args.alg.now.k in
    let items : Vec ℕ Global → _ = λ v. v.items in
    ok_map _ _ c.preimage.result
    (λ r h. subst (λ n. IsSpaceOf F n r) (ap length c.deref.ensures.value ∙ c.in_ok-h.ensures.len
    ∙ sym (length-map c.basis.result.now items) ∙ ap length c.basis.ensures) h)
    c.preimage.ensures.space

pub returns-clause-exact : goal.returns-clause-exact
returns-clause-exact g c =
    let F = g.K.Ring.elements c.args.alg.now.k in
    let L = g.K.Ring.lawful c.args.alg.now.k in
    let f = c.args.alg.now.f in
    let e = c.in_ok-h.ensures in
    let same = c.deref.ensures.value in
    let len : length c.coeffs.result.now - 1 ≡ pred (length c.args.t.now) =
    omega (arith, ap length c.coeffs.ensures) in
    let items : Vec ℕ Global → _ = λ v. v.items in
    ok_map _ _ c.preimage.result
    (λ r h. kept_by_images F L f c.args.alg.now.plane c.args.alg.now.has_y
    c.args.d.now (poly-nonzero F L c.args.d.now c.requires.d c.requires.nonzero) c.args.t.now
    c.args.other.now c.requires.infinite c.args.l c.in_ok-h.h e.positive
    (omega (arith, e.room, ap length c.coeffs.ensures)) c.args.held.now c.in_ok-target.target
    c.basis.result.now c.deref.result.now c.basis.ensures (ap length same ∙ e.len)
    (subst (λ xs. AreImages L f c.args.d.now c.args.l c.in_ok-h.h (map items c.basis.result.now)
    (map items xs)) (sym same) e.images)
    (subst (λ m. IsTimesSpace L f (power (polynomials F.ring) (variable F.ring) (c.in_ok-h.h - m))
    m c.in_ok-h.h c.args.other.now c.in_ok-target.target) len c.in_ok-target.ensures.times) r h)
    c.preimage.ensures.exact
