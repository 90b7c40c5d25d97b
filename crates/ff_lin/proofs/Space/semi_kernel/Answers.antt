use Rattle.std.proofs.Common.{ℕ, ◌↔◌, map, Vec, Global}
use Rattle.ff_lin.specs.Space.{IsSpaceOf, HasExactly, InSpace, IsRelation, frobenius}
use Rattle.ff_lin.proofs.Growth.{ok_map2}
use Rattle.ff_lin.proofs.Relations.{semi-exact}
use Rattle.ff_lin.proofs.Space.semi_kernel.Goals as goal

pub returns-clause-exact : goal.returns-clause-exact
returns-clause-exact g c =
    let K = g.K.Ring.elements c.args.k.now in
    let items : Vec ℕ Global → _ = λ v. v.items in
    let s = c.in_ok-relations.relations in
    let images = map items c.args.images.now in
    ok_map2 (IsSpaceOf K s.len) (λ t. (v : ℕ → K.carrier) → InSpace K t v ↔ InSpace K s (frobenius K
    v)) (λ t. HasExactly K t (λ v. IsRelation K images (frobenius K v))) c.roots.result
    (λ t h exact. semi-exact K (g.met.K.Ring.laws c.args.k.now)
    (g.met.K.FiniteField.is_finite_field c.args.k.now) s t (IsRelation K images) h.len
    c.in_ok-relations.ensures.exact exact)
    c.roots.ensures.space c.roots.ensures.exact
