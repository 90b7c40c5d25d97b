use Rattle.std.proofs.Common.{ℕ, ◌<◌, List, length, get_or, ◌∙◌, ap, arith, Vec, Global}
use Rattle.ff_theory.specs.Vector.{IsVector}
use Rattle.ff_lin.specs.Space.{SpaceParts}
use Rattle.ff_lin.proofs.Steps.{pivot_inside, row_vector, element_at, row_is, index_in}
use Rattle.ff_lin.proofs.Steps.{combined_step}
use Rattle.ff_lin.proofs.Space.combination_entry.Goals as goal

pub loop-i-preserved : goal.loop-i-preserved
loop-i-preserved g c =
    let K = g.K.Ring.elements c.args.k.now in
    let s = c.args.self.now in
    let li : c.loop-i.i < length s.basis = index_in (λ v. v.items) c.self.inside.basis.items s.basis
    c.loop-i.i (ap (λ (t : SpaceParts). t.basis) c.self.view_is) (omega arith) in
    record {
      element = c.add-sum.ensures.element;
      value = combined_step K s c.args.v.now c.loop-i.i c.args.j c.index.result.now
          c.index-in-loop-i.result.now.items c.index-in-loop-i-2.result.now c.mul.result
          c.loop-i.sum c.add-sum.result
          c.requires.space c.requires.v c.requires.index li
          (c.index.ensures ∙ ap (λ (t : SpaceParts). get_or t.pivots c.loop-i.i c.index.result.now)
          c.self.view_is)
          (row_is K (λ v. v.items) c.self.inside.basis.items s.basis c.loop-i.i
          c.index-in-loop-i.result.now (ap (λ (t : SpaceParts). t.basis) c.self.view_is) li
          c.index-in-loop-i.ensures)
          c.index-in-loop-i-2.ensures c.loop-i.invariant.value c.mul.ensures.value
          c.add-sum.ensures.value;
    }

pub bounds-v-index : goal.bounds-v-index
bounds-v-index g c =
    let K = g.K.Ring.elements c.args.k.now in
    let s = c.args.self.now in
    let inside : c.index.result.now < s.len =
    pivot_inside K s c.loop-i.i c.index.result.now c.requires.space
    (index_in (λ v. v.items) c.self.inside.basis.items s.basis c.loop-i.i
    (ap (λ (t : SpaceParts). t.basis) c.self.view_is) (omega arith))
    (c.index.ensures ∙ ap (λ (t : SpaceParts). get_or t.pivots c.loop-i.i c.index.result.now)
    c.self.view_is)
    in
    omega (arith, inside, c.requires.v.len)

pub index-requires-in-loop-i-2 : goal.index-requires-in-loop-i-2
index-requires-in-loop-i-2 g c =
    let K = g.K.Ring.elements c.args.k.now in
    let items : Vec ℕ Global → List ℕ = λ v. v.items in
    let row = c.index-in-loop-i.result.now in
    let vec : IsVector K c.args.self.now.len (items row) =
    row_vector K items c.self.inside.basis.items c.args.self.now c.loop-i.i row c.requires.space
    (ap (λ (t : SpaceParts). t.basis) c.self.view_is) (omega arith) c.index-in-loop-i.ensures
    in
    omega (arith, vec.len, c.requires.index)

pub mul-requires : goal.mul-requires
mul-requires g c =
    let K = g.K.Ring.elements c.args.k.now in
    let s = c.args.self.now in
    let items : Vec ℕ Global → List ℕ = λ v. v.items in
    let row = c.index-in-loop-i.result.now in
    let vec : IsVector K s.len (items row) =
    row_vector K items c.self.inside.basis.items s c.loop-i.i row c.requires.space
    (ap (λ (t : SpaceParts). t.basis) c.self.view_is) (omega arith) c.index-in-loop-i.ensures
    in
    let inside : c.index.result.now < s.len =
    pivot_inside K s c.loop-i.i c.index.result.now c.requires.space
    (index_in items c.self.inside.basis.items s.basis c.loop-i.i
    (ap (λ (t : SpaceParts). t.basis) c.self.view_is) (omega arith))
    (c.index.ensures ∙ ap (λ (t : SpaceParts). get_or t.pivots c.loop-i.i c.index.result.now)
    c.self.view_is)
    in
    record {
      a = c.requires.v.each c.index.result.now 0 (omega (arith, inside, c.requires.v.len));
      b = element_at K (items row) c.args.j c.index-in-loop-i-2.result.now vec.each
          (omega (arith, vec.len, c.requires.index)) c.index-in-loop-i-2.ensures;
    }
