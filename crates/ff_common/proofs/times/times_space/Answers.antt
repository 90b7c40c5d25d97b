use Rattle.std.proofs.Common.{ℕ, ◌+◌, ◌≤◌, map, refl, sym, subst, arith, Vec, Global}
use Rattle.ff_theory.proofs.Results.{ok_map}
use Rattle.ff_theory.specs.Division.{size}
use Rattle.ff_theory.specs.Values.{poly_of}
use Rattle.ff_lin.specs.Space.{SameSpace}
use Rattle.ff_lin.proofs.InsertRow.{basis_vectors}
use Rattle.ff_poly.proofs.LongDivision.{poly-size}
use Rattle.ff_common.proofs.TimesSpaces.{times_space_is}
use Rattle.ff_common.proofs.times.times_space.Goals as goal

pub times_vectors-requires : goal.times_vectors-requires
times_vectors-requires g c =
    let F = g.K.Ring.elements c.args.alg.now.k in
    let items : Vec ℕ Global → _ = λ v. v.items in
    record {
      factor = c.requires.factor;
      room = c.requires.room;
      vectors = basis_vectors F items c.basis.result.now c.basis.result.now c.args.space.now _ refl
          c.basis.ensures (sym c.requires.space.len) c.requires.space.space;
    }

pub returns-in-Some-clause-times : goal.returns-in-Some-clause-times
returns-in-Some-clause-times g c =
    let F = g.K.Ring.elements c.args.alg.now.k in
    let L = g.K.Ring.lawful c.args.alg.now.k in
    let f = c.args.alg.now.f in
    let items : Vec ℕ Global → _ = λ v. v.items in
    let e = c.in_ok-list.ensures in
    let rows = c.in_ok-list.list.items in
    let factor = c.args.factor.now in
    let len = poly-size F.ring L.laws L.tests F.value factor c.requires.factor.canonical in
    let room : size F.ring (poly_of F factor) + c.args.m ≤ c.args.h + 1 =
    omega (arith, len, c.requires.room) in
    ok_map _ _ c.span.result
    (λ s h. times_space_is F L f (poly_of F factor) c.args.m c.args.h room c.args.space.now s
    c.basis.result.now rows c.basis.ensures e.len e.value
    (subst (λ xs. SameSpace F s.basis (map items xs)) c.deref.ensures.value h))
    c.span.ensures.same
