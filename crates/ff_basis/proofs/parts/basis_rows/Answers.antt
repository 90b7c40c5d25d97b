use Rattle.std.proofs.Common.{◌≡◌, ℕ, ◌/◌, ◌%◌, ◌*◌, ◌<◌, length, map, sym, ◌∙◌, ap, subst, arith}
use Rattle.std.proofs.Common.{Vec, Global}
use Rattle.std.proofs.lemmas.Nat.{mod_below}
use Rattle.std.proofs.lemmas.List.Elements.{All-push}
use Rattle.ff_theory.specs.Poly.{coeff, polynomials}
use Rattle.ff_theory.specs.Vector.{vector_of, vectors_of}
use Rattle.ff_theory.specs.Values.{poly_of, polys_of, IsPoly, ArePolys}
use Rattle.ff_basis.specs.Blocks.{piece, row_in}
use Rattle.ff_basis.proofs.Pieces.{quotient_below, factor_positive, row_room, pushed_at}
use Rattle.ff_basis.proofs.Pieces.{vector_read}
use Rattle.ff_basis.proofs.parts.basis_rows.Goals as goal

pub overflow_mul-s : goal.overflow_mul-s
overflow_mul-s g c =
    let F = g.K.Ring.elements c.args.k.now in
    let items : Vec ℕ Global → _ = λ v. v.items in
    let n = c.args.n in
    let s = c.loop-s.s in
    let below : s < length c.args.basis.now * n = omega
    (arith, c.loop-s-test.true, c.requires.count)
    in
    let pos : 0 < n = factor_positive (length c.args.basis.now) n s below in
    let room = row_room n c.args.l (s % n) (mod_below s n pos) in
    let v = vector_read F items c.args.basis.now (n * c.args.l) (s / n) c.index-basis-s.result
    c.deref.result.now c.requires.basis (quotient_below s (length c.args.basis.now) n below)
    c.index-basis-s.is c.deref.ensures.value in
    omega (arith, room, v.0.len, c.deref.type_inv.0)

pub piece-requires-clause-v : goal.piece-requires-clause-v
piece-requires-clause-v g c =
    let F = g.K.Ring.elements c.args.k.now in
    let items : Vec ℕ Global → _ = λ v. v.items in
    let n = c.args.n in
    let s = c.loop-s.s in
    let below : s < length c.args.basis.now * n = omega
    (arith, c.loop-s-test.true, c.requires.count)
    in
    let v = vector_read F items c.args.basis.now (n * c.args.l) (s / n) c.index-basis-s.result
    c.deref.result.now c.requires.basis (quotient_below s (length c.args.basis.now) n below)
    c.index-basis-s.is c.deref.ensures.value in
    v.0.each

pub piece-requires-clause-room : goal.piece-requires-clause-room
piece-requires-clause-room g c =
    let F = g.K.Ring.elements c.args.k.now in
    let items : Vec ℕ Global → _ = λ v. v.items in
    let n = c.args.n in
    let s = c.loop-s.s in
    let below : s < length c.args.basis.now * n = omega
    (arith, c.loop-s-test.true, c.requires.count)
    in
    let pos : 0 < n = factor_positive (length c.args.basis.now) n s below in
    let room = row_room n c.args.l (s % n) (mod_below s n pos) in
    let v = vector_read F items c.args.basis.now (n * c.args.l) (s / n) c.index-basis-s.result
    c.deref.result.now c.requires.basis (quotient_below s (length c.args.basis.now) n below)
    c.index-basis-s.is c.deref.ensures.value in
    omega (arith, room, v.0.len)

pub loop-s-preserved : goal.loop-s-preserved
loop-s-preserved g c =
    let F = g.K.Ring.elements c.args.k.now in
    let P = polynomials F.ring in
    let items : Vec ℕ Global → _ = λ v. v.items in
    let basis = c.args.basis.now in
    let n = c.args.n in
    let l = c.args.l in
    let s = c.loop-s.s in
    let h = c.loop-s.invariant in
    let old = c.loop-s.rows.items in
    let row = c.in_ok-piece.field-0 in
    let e = c.in_ok-push.ensures.items in
    let below : s < length basis * n = omega (arith, c.loop-s-test.true, c.requires.count) in
    let v = vector_read F items basis (n * l) (s / n) c.index-basis-s.result
    c.deref.result.now c.requires.basis (quotient_below s (length basis) n below)
    c.index-basis-s.is c.deref.ensures.value in
    let want = λ (j : ℕ). row_in F.ring (vectors_of F (map items basis)) n l j in
    let new : poly_of F row ≡ want s = c.in_ok-piece.ensures.value
    ∙ ap (λ v. piece F.ring (vector_of F v) (s % n * l) l) v.1 in
    record {
      len = omega (arith, c.in_ok-push.ensures.len, h.len);
      each = subst (ArePolys F) (sym e) (All-push (IsPoly F) old row h.each
          c.in_ok-piece.ensures.poly);
      value = λ j q. subst (λ p. coeff P (polys_of F p) j ≡ want j) (sym e)
          (pushed_at P (λ p. poly_of F p) old row (λ j r. r ≡ want j) s h.len h.value new j q);
    }
