use Rattle.std.proofs.Common.{◌≡◌, length, sym, ◌∙◌, ap, subst}
use Rattle.ff_theory.specs.Vector.{vector_of, IsVector}
use Rattle.ff_theory.proofs.Results.{ok_map}
use Rattle.ff_lin.specs.Space.{IsSpaceOf}
use Rattle.ff_characters.specs.Characters.{IsTable, tables_of}
use Rattle.ff_frac.specs.Places.{HaveNumeratorValues}
use Rattle.ff_frac.specs.Socle.{IsSocleSpace}
use Rattle.ff_frac.proofs.SoclePlace.{first_numerator, some_basis}
use Rattle.ff_frac.proofs.socle.socle.Goals as goal

pub socle_space-requires : goal.socle_space-requires
socle_space-requires g c =
    let F = g.K.Ring.elements c.args.alg.now.k in
    let s = c.args.fibre.now in
    let h = c.requires.form.table in
    let t = c.deref-2.ensures.value in
    let n : length s.planes.items ≡ length c.deref-2.result.now =
    sym h.count ∙ ap length (sym t) in
    record {
      table = subst (λ n. IsTable F n c.deref-2.result.now) n
          (subst (IsTable F (length s.planes.items)) (sym t) h);
      chi = subst (IsVector F (length c.deref-2.result.now)) (sym c.deref-3.ensures.value)
          (subst (λ n. IsVector F n c.in_ok-chi.chi.items) (ap length c.deref.ensures.value ∙ n)
          c.in_ok-chi.ensures.vector);
    }

pub returns-clause-value : goal.returns-clause-value
returns-clause-value g c place =
    let F = g.K.Ring.elements c.args.alg.now.k in
    let L = g.K.Ring.lawful c.args.alg.now.k in
    let f = c.args.alg.now.f in
    let o = c.args.order.now in
    let p = c.args.point.now in
    let s = c.args.fibre.now in
    let chi = c.in_ok-chi.chi.items in
    let space = c.in_ok-space.space in
    let planes = c.deref.ensures.value in
    let t = c.deref-2.ensures.value in
    let count : length s.table.items ≡ length s.planes.items = c.requires.form.table.count in
    let n : length c.deref-2.result.now ≡ length s.planes.items = ap length t ∙ count in
    let hs = subst (λ n. IsSpaceOf F n space) n c.in_ok-space.ensures.space in
    let exact = subst (λ n. IsSocleSpace F n (tables_of s.table.items) (vector_of F chi) space)
    count (subst (λ e. IsSocleSpace F (length s.table.items) (tables_of s.table.items)
    (vector_of F e) space) c.deref-3.ensures.value (subst (λ t. IsSocleSpace F (length t)
    (tables_of t) (vector_of F c.deref-3.result.now) space) t c.in_ok-space.ensures.exact)) in
    let vector = subst (λ n. IsVector F n chi) (ap length planes) c.in_ok-chi.ensures.vector in
    let values = subst (λ N. HaveNumeratorValues L f o p N chi) planes
    c.in_ok-chi.ensures.value in
    ok_map _ _ c.first_plane.result (λ N k. first_numerator F L f c.args.alg.now.plane
    c.args.alg.now.has_y o p place s c.requires.fibre chi vector values space hs exact N
    (λ q. k)) (c.first_plane.ensures.value (some_basis F L f c.args.alg.now.plane
    c.args.alg.now.has_y o p place s c.requires.fibre chi vector values space hs exact))
