use Rattle.std.proofs.Common.{◌≡◌, ℕ, pred, length, sym, ◌∙◌, ap}
use Rattle.ff_theory.specs.Vector.{vector_of, vectors_of}
use Rattle.ff_theory.specs.Values.{plane_of}
use Rattle.ff_theory.proofs.Span.{span-same}
use Rattle.ff_charts.specs.Lattice.{flat}
use Rattle.ff_order.proofs.closure.holds.Goals as goal

pub returns : goal.returns
returns g c =
    let F = g.K.Ring.elements c.args.alg.now.k in
    let L = g.K.Ring.lawful c.args.alg.now.k in
    let basis = c.args.space.now.basis in
    let given = c.deref.result.now in
    let v = flat F.ring (pred (length c.args.rows.now.d)) (plane_of F c.args.residue.now) in
    let same : (j : ℕ) → vector_of F given j ≡ v j = λ j.
    ap (λ t. vector_of F t j) c.deref.ensures.value ∙ c.in_ok-v.ensures.value j in (
      λ t. span-same F.ring L.laws (length basis) (vectors_of F basis) (vector_of F given) v
          (λ j. sym (same j)) (c.contains.ensures.0 t),
      λ h. c.contains.ensures.1 (span-same F.ring L.laws (length basis) (vectors_of F basis) v
          (vector_of F given) same h),
    )
