use Rattle.std.proofs.Common.{◌≡◌, ◌*◌, ◌-◌, pred, length, refl, sym, ◌∙◌, ap, ap₂, subst}
use Rattle.std.proofs.Common.{ℕ, arith, Vec, Global}
use Rattle.std.proofs.lemmas.List.{length-map}
use Rattle.ff_theory.specs.Values.{plane_of}
use Rattle.ff_theory.specs.Vector.{IsVector, vector_of}
use Rattle.ff_theory.proofs.Results.{ok_map}
use Rattle.ff_charts.specs.Lattice.{HasShape}
use Rattle.ff_lin.proofs.InsertRow.{basis_vectors}
use Rattle.ff_data.proofs.NumeratorLemmas.{order_length, solved_vector, unsolved_vector}
use Rattle.ff_data.proofs.NumeratorLemmas.{if_some, match_some, match_none}
use Rattle.ff_frac.proofs.values.coefficients.Goals as goal

pub overflow_sub-l : goal.overflow_sub-l
overflow_sub-l g c =
    let F = g.K.Ring.elements c.args.alg.now.k in
    let L = g.K.Ring.lawful c.args.alg.now.k in
    let pos = order_length F L c.args.alg.now.f c.args.alg.now.plane c.args.alg.now.has_y
    c.args.order.now c.requires.order in
    omega (arith, ap length c.coeffs.ensures, pos)

pub vector_of_plane-requires : goal.vector_of_plane-requires
vector_of_plane-requires g c =
    let F = g.K.Ring.elements c.args.alg.now.k in
    let low = plane_of F c.args.low.now in
    let rows : length c.args.alg.now.f - 1 ≡ length c.rows.result.now - 1 =
    ap (λ x. length x - 1) (sym c.rows.ensures) in
    let l : pred (length c.args.order.now.d) ≡ length c.coeffs.result.now - 1 =
    omega (arith, ap length c.coeffs.ensures) in
    record {
      a = c.requires.low;
      shape = subst (λ n. HasShape F.ring n (length c.coeffs.result.now - 1) low) rows
          (subst (λ l. HasShape F.ring (length c.args.alg.now.f - 1) l low) l c.requires.shape);
    }

pub solve-requires : goal.solve-requires
solve-requires g c =
    let F = g.K.Ring.elements c.args.alg.now.k in
    let items : Vec ℕ Global → _ = λ v. v.items in
    let order = c.requires.order in
    let rows : length c.rows.result.now - 1 ≡ length c.args.alg.now.f - 1 =
    ap (λ x. length x - 1) c.rows.ensures in
    let l : length c.coeffs.result.now - 1 ≡ pred (length c.args.order.now.d) =
    omega (arith, ap length c.coeffs.ensures) in
    record {
      cols = basis_vectors F items c.basis.result.now c.basis.result.now
          c.args.order.now.space c.len.result refl c.basis.ensures c.len.ensures
          order.space.space;
      rhs = subst (IsVector F c.len.result) (sym c.deref.ensures.value)
          (subst (λ n. IsVector F n c.in_ok-v.v.items)
          (ap₂ (λ a b. a * b) rows l ∙ sym order.space.len ∙ sym c.len.ensures)
          c.in_ok-v.ensures.vector);
    }

pub returns : goal.returns
returns g c =
    let F = g.K.Ring.elements c.args.alg.now.k in
    let items : Vec ℕ Global → _ = λ v. v.items in
    let o = c.args.order.now in
    let N = plane_of F c.args.low.now in
    let l : length c.coeffs.result.now - 1 ≡ pred (length o.d) =
    omega (arith, ap length c.coeffs.ensures) in
    let v = c.in_ok-v.v.items in
    let same = c.deref.ensures.value in
    let value = c.in_ok-v.ensures.value in
    record {
      vector = ok_map _ _ c.solve.result
          (λ r h. if_some r _ _ (λ x k. subst (λ n. IsVector F n x.items)
          (sym (length-map c.basis.result.now items) ∙ ap length c.basis.ensures) k) h)
          c.solve.ensures.vector;
      some = ok_map _ _ c.solve.result
          (λ r h. match_some r _ _ _ (λ x k. solved_vector F o N _ (length c.coeffs.result.now - 1)
          v _ c.basis.ensures l same value (vector_of F x.items) k) h)
          c.solve.ensures.answer;
      none = ok_map _ _ c.solve.result
          (λ r h. match_none r _ _ _ (λ n. unsolved_vector F o N _
          (length c.coeffs.result.now - 1) v _ c.basis.ensures l same value n) h)
          c.solve.ensures.answer;
    }
