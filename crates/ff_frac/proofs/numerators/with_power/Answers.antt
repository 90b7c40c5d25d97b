use Rattle.std.proofs.Common.{◌≡◌, ◌≤◌, ◌+◌, ◌*◌, ◌-◌, ℕ, pred, length, sym, ap, subst, arith}
use Rattle.std.proofs.Common.{All, Vec, Global, ◌∙◌, [], ◌∷◌, ◌++◌}
use Rattle.std.proofs.lemmas.List.{length-map}
use Rattle.std.proofs.lemmas.List.Elements.{All-push}
use Rattle.ff_theory.specs.Values.{poly_of, plane_of}
use Rattle.ff_theory.specs.Vector.{IsVector}
use Rattle.ff_charts.specs.Lattice.{HasShape}
use Rattle.ff_lin.specs.Space.{rows_of, AreVectors}
use Rattle.ff_data.specs.Orders.{y_degree}
use Rattle.ff_data.proofs.NumeratorLemmas.{order_length}
use Rattle.ff_frac.specs.Numerators.{IsWithPlane}
use Rattle.ff_frac.proofs.NumeratorLemmas.{pushed_plane}
use Rattle.ff_frac.proofs.numerators.with_power.Goals as goal

pub overflow_sub-l : goal.overflow_sub-l
overflow_sub-l g c = omega (arith, ap length c.coeffs.ensures, c.requires.powers.size)

pub overflow_sub-short : goal.overflow_sub-short
overflow_sub-short g c =
    let F = g.K.Ring.elements c.args.alg.now.k in
    let L = g.K.Ring.lawful c.args.alg.now.k in
    let d = order_length F L c.args.alg.now.f c.args.alg.now.plane c.args.alg.now.has_y
    c.args.order.now c.requires.order in
    omega (arith, ap length c.coeffs.ensures, c.requires.powers.size, d)

pub vector_of_plane-requires : goal.vector_of_plane-requires
vector_of_plane-requires g c =
    let F = g.K.Ring.elements c.args.alg.now.k in
    let h = c.requires.powers.power in
    let s = c.args.powers.now in
    let N = plane_of F s.power in
    let rows : length c.args.alg.now.f - 1 ≡ length c.rows.result.now - 1 =
    ap (λ x. length x - 1) (sym c.rows.ensures) in
    let l : pred (length s.modulus) ≡ length c.coeffs.result.now - 1 =
    omega (arith, ap length c.coeffs.ensures) in
    record {
      a = h.plane;
      shape = subst (λ n. HasShape F.ring n (length c.coeffs.result.now - 1) N) rows
          (subst (λ l. HasShape F.ring (length c.args.alg.now.f - 1) l N) l h.shape);
    }

pub times_vectors-requires : goal.times_vectors-requires
times_vectors-requires g c =
    let F = g.K.Ring.elements c.args.alg.now.k in
    let L = g.K.Ring.lawful c.args.alg.now.k in
    let h = c.requires.powers in
    let n = y_degree L c.args.alg.now.f in
    let short : pred (length c.args.order.now.d + c.args.i) ≡ length c.coeffs.result.now - 1 - 1 =
    omega (arith, ap length c.coeffs.ensures, h.size) in
    record {
      factor = h.root;
      room = let d = order_length F L c.args.alg.now.f c.args.alg.now.plane
          c.args.alg.now.has_y c.args.order.now c.requires.order in
          omega (arith, h.root_size, ap length c.coeffs.ensures, h.size, d);
      vectors = subst (λ l. AreVectors F (n * l) c.args.vectors.now) short c.requires.vectors;
    }

pub returns-clause-vectors : goal.returns-clause-vectors
returns-clause-vectors g c =
    let F = g.K.Ring.elements c.args.alg.now.k in
    let L = g.K.Ring.lawful c.args.alg.now.k in
    let n = y_degree L c.args.alg.now.f in
    let l = pred (length c.args.powers.now.modulus) in
    let m = length c.coeffs.result.now - 1 in
    let e : m ≡ l = omega (arith, ap length c.coeffs.ensures) in
    let items : Vec ℕ Global → _ = λ v. v.items in
    let row = subst (λ r. IsVector F ((length r - 1) * m) c.in_ok-power.power.items)
    c.rows.ensures c.in_ok-power.ensures.vector in
    subst (λ l. AreVectors F (n * l) c.push.new.self.items) e
    (subst (All (λ v. IsVector F (n * m) (items v))) (sym c.in_ok-push.ensures.items)
    (All-push (λ v. IsVector F (n * m) (items v)) c.in_ok-list.list.items c.in_ok-power.power
    c.in_ok-list.ensures.vectors row))

pub returns-clause-value : goal.returns-clause-value
returns-clause-value g c =
    let F = g.K.Ring.elements c.args.alg.now.k in
    let L = g.K.Ring.lawful c.args.alg.now.k in
    let f = c.args.alg.now.f in
    let s = c.args.powers.now in
    let G = poly_of F s.root in
    let N = plane_of F s.power in
    let old = rows_of c.args.vectors.now in
    let h = pred (length s.modulus) in
    let l = pred (length c.args.order.now.d + c.args.i) in
    let long : length c.coeffs.result.now - 1 ≡ h = omega (arith, ap length c.coeffs.ensures) in
    let short : length c.coeffs.result.now - 1 - 1 ≡ l =
    omega (arith, ap length c.coeffs.ensures, c.requires.powers.size) in
    let count : length old ≡ length c.args.vectors.now =
    length-map c.args.vectors.now (λ (r : Vec ℕ Global). r.items) in
    let list = c.in_ok-list.list.items in
    subst (λ rows. IsWithPlane L f G l h N old (rows_of rows)) (sym c.in_ok-push.ensures.items)
    (subst (λ h. IsWithPlane L f G l h N old (rows_of (list ++ c.in_ok-power.power ∷ []))) long
    (subst (λ l. IsWithPlane L f G l (length c.coeffs.result.now - 1) N old
    (rows_of (list ++ c.in_ok-power.power ∷ []))) short
    (pushed_plane F L f G (length c.coeffs.result.now - 1 - 1) (length c.coeffs.result.now - 1) N
    old list c.in_ok-power.power (c.in_ok-list.ensures.len ∙ sym count)
    (λ t q. c.in_ok-list.ensures.value t (omega (arith, q, count)))
    c.in_ok-power.ensures.value)))
