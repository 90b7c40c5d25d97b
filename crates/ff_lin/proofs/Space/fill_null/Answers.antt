use Rattle.std.proofs.Common.{◌≡◌, ℕ, ◌-◌, ◌<◌, length, get_or, ◌∙◌, ap, arith, Vec, Global}
use Rattle.std.proofs.lemmas.List.Elements.{All-set}
use Rattle.std.proofs.lemmas.List.{length-set}
use Rattle.ff_theory.specs.Ring.{IsElement}
use Rattle.ff_lin.specs.Space.{SpaceParts}
use Rattle.ff_theory.specs.Vector.{IsVector}
use Rattle.ff_lin.proofs.Steps.{row_is, row_vector, index_in, element_at, pivot_is}
use Rattle.ff_lin.proofs.Nulls.{null-first, null-next}
use Rattle.ff_lin.proofs.Space.fill_null.Goals as goal

pub loop-i-init : goal.loop-i-init
loop-i-init g c =
    let K = g.K.Ring.elements c.args.k.now in
    record {
      vector = record {
        each = All-set (IsElement K) c.args.v.now c.args.f c.one.result
            c.one.ensures.element c.requires.v.each;
        len = length-set c.args.v.now c.args.f
            c.one.result ∙ c.requires.v.len;
      };
      value = null-first K (g.met.K.Ring.laws c.args.k.now) c.args.self.now c.args.v.now c.args.f
          c.one.result (omega (arith, c.requires.index, c.requires.v.len)) c.requires.zeros
          c.one.ensures.value;
    }

pub index-requires-in-loop-i-2 : goal.index-requires-in-loop-i-2
index-requires-in-loop-i-2 g c =
    let K = g.K.Ring.elements c.args.k.now in
    let items : Vec ℕ Global → _ = λ v. v.items in
    let row = c.index-in-loop-i.result.now in
    let vec : IsVector K c.args.self.now.len (items row) = row_vector K items
    c.self.inside.basis.items c.args.self.now c.loop-i.i row c.requires.space
    (ap (λ (t : SpaceParts). t.basis) c.self.view_is) (omega arith) c.index-in-loop-i.ensures in
    omega (arith, vec.len, c.requires.index, ap (λ (t : SpaceParts). t.len) c.self.view_is)

pub sub-requires-clause-b : goal.sub-requires-clause-b
sub-requires-clause-b g c =
    let K = g.K.Ring.elements c.args.k.now in
    let items : Vec ℕ Global → _ = λ v. v.items in
    let row = c.index-in-loop-i.result.now in
    let vec : IsVector K c.args.self.now.len (items row) = row_vector K items
    c.self.inside.basis.items c.args.self.now c.loop-i.i row c.requires.space
    (ap (λ (t : SpaceParts). t.basis) c.self.view_is) (omega arith) c.index-in-loop-i.ensures in
    element_at K (items row) (c.self.inside.len - 1 - c.args.f) c.index-in-loop-i-2.result.now
    vec.each (omega (
      arith,
      vec.len,
      c.requires.index,
      ap (λ (t : SpaceParts). t.len)
          c.self.view_is,
    )) c.index-in-loop-i-2.ensures

pub loop-i-preserved : goal.loop-i-preserved
loop-i-preserved g c =
    let K = g.K.Ring.elements c.args.k.now in
    let items : Vec ℕ Global → _ = λ v. v.items in
    let s = c.args.self.now in
    let n : c.self.inside.len ≡ s.len = ap (λ (t : SpaceParts). t.len) c.self.view_is in
    let p = c.self.inside.len - 1 - c.index.result.now in
    let li : c.loop-i.i < length s.basis = index_in items c.self.inside.basis.items s.basis
    c.loop-i.i (ap (λ (t : SpaceParts). t.basis) c.self.view_is) (omega arith) in
    record {
      vector = record {
        each = All-set (IsElement K) c.loop-i.v p c.sub.result c.sub.ensures.element
            c.loop-i.invariant.vector.each;
        len = length-set c.loop-i.v p c.sub.result
            ∙ c.loop-i.invariant.vector.len;
      };
      value = null-next K (g.met.K.Ring.laws c.args.k.now) s c.loop-i.v
          c.index-in-loop-i.result.now.items c.args.f c.loop-i.i p c.index-in-loop-i-2.result.now
          c.sub.result
          c.requires.space c.loop-i.invariant.vector li c.requires.index
          (ap (λ m. m - 1 - c.index.result.now) n
          ∙ ap (λ q. s.len - 1 - q) (pivot_is s c.self.inside.pivots.items c.loop-i.i
          c.index.result.now (ap (λ (t : SpaceParts). t.pivots) c.self.view_is)
          (omega (arith, li, c.requires.space.count)) c.index.ensures))
          (row_is K items c.self.inside.basis.items s.basis c.loop-i.i c.index-in-loop-i.result.now
          (ap (λ (t : SpaceParts). t.basis) c.self.view_is) li c.index-in-loop-i.ensures)
          (c.index-in-loop-i-2.ensures ∙ ap (λ m. get_or c.index-in-loop-i.result.now.items (m - 1 -
          c.args.f) c.index-in-loop-i-2.result.now) n) c.sub.ensures.value
          c.loop-i.invariant.value;
    }
