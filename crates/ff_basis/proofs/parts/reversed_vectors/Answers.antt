use Rattle.std.proofs.Common.{◌≡◌, ℕ, ◌-◌, ◌*◌, ◌<◌, map, sym, subst, arith, All}
use Rattle.std.proofs.Common.{Vec, Global}
use Rattle.std.proofs.lemmas.List.Elements.{All-push}
use Rattle.ff_theory.specs.Vector.{vectors_of, IsVector}
use Rattle.ff_theory.specs.Values.{polys_of}
use Rattle.ff_basis.specs.Blocks.{entry_in}
use Rattle.ff_basis.proofs.Pieces.{row_pushed, row_room}
use Rattle.ff_basis.proofs.parts.reversed_vectors.Goals as goal

pub reversed_vector-requires-clause-room : goal.reversed_vector-requires-clause-room
reversed_vector-requires-clause-room g c =
    let room = row_room c.args.count c.args.n c.loop-a.a c.loop-a-test.true in
    omega (arith, room, c.requires.room)

pub loop-a-preserved : goal.loop-a-preserved
loop-a-preserved g c =
    let F = g.K.Ring.elements c.args.k.now in
    let items : Vec ℕ Global → _ = λ v. v.items in
    let len = c.args.len in
    let h = c.loop-a.invariant in
    let old = c.loop-a.list.items in
    let new = c.in_ok-reversed_vector.field-0 in
    let e = c.in_ok-push.ensures.items in
    let want = λ (a : ℕ) (v : ℕ → F.carrier). (j : ℕ) → j < len → v j
    ≡ entry_in F.ring (polys_of F c.args.rows.now) (a * c.args.n) c.args.l (len - 1 - j) in
    record {
      len = omega (arith, c.in_ok-push.ensures.len, h.len);
      vectors = subst (All (λ v. IsVector F len (items v))) (sym e)
          (All-push (λ v. IsVector F len (items v)) old new h.vectors
          c.in_ok-reversed_vector.ensures.vector);
      value = λ a j q s. subst (λ t. want a (vectors_of F (map items t) a)) (sym e)
          (row_pushed F items old new want c.loop-a.a h.len (λ a q j s. h.value a j q s)
          c.in_ok-reversed_vector.ensures.value a q) j s;
    }
