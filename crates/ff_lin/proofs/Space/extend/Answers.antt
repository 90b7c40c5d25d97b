use Rattle.std.proofs.Common.{ℕ, [], ◌++◌, length, map, refl, sym, ◌∙◌, ap, arith, subst, Vec}
use Rattle.std.proofs.Common.{Global}
use Rattle.std.proofs.lemmas.List.{get_or-map, length-map, length-append}
use Rattle.ff_theory.specs.Span.{SameSpan}
use Rattle.ff_theory.specs.Vector.{vectors_of}
use Rattle.ff_lin.proofs.Growth.{extend-first, extend-step}
use Rattle.ff_lin.proofs.Space.extend.Goals as goal

pub loop-row-init : goal.loop-row-init
loop-row-init g c =
    let K = g.K.Ring.elements c.args.k.now in
    let items : Vec ℕ Global → _ = λ v. v.items in
    record {
      space = record { space = c.requires.space; len = refl };
      same = extend-first K (g.met.K.Ring.laws c.args.k.now) c.args.self.basis
          (map items c.args.rows.now);
    }

pub loop-row-preserved : goal.loop-row-preserved
loop-row-preserved g c =
    let K = g.K.Ring.elements c.args.k.now in
    let items : Vec ℕ Global → _ = λ v. v.items in
    record {
      space = record {
        space = c.in_ok-space.ensures.space.space;
        len = c.in_ok-space.ensures.space.len ∙ c.loop-row.invariant.space.len;
      };
      same = extend-step K (g.met.K.Ring.laws c.args.k.now) c.in_ok-space.space.basis
          c.loop-row.space.basis c.args.self.basis (map items c.args.rows.now)
          c.in_ok-from_slice.field-0.items c.loop-row.row-index
          (c.in_ok-from_slice.ensures.items ∙ c.deref.ensures.value ∙ ap items c.row-item.is
          ∙ sym (get_or-map items c.args.rows.now c.loop-row.row-index c.row-item.result []
          (omega arith)))
          c.in_ok-space.ensures.same c.loop-row.invariant.same;
    }

pub returns-clause-same : goal.returns-clause-same
returns-clause-same g c =
    let K = g.K.Ring.elements c.args.k.now in
    let items : Vec ℕ Global → _ = λ v. v.items in
    let rows = map items c.args.rows.now in
    subst (λ n. SameSpan K.ring (length c.loop-row.space.basis)
    (vectors_of K c.loop-row.space.basis) n (vectors_of K (c.args.self.basis ++ rows)))
    (omega (arith, length-map c.args.rows.now items, length-append c.args.self.basis rows))
    c.loop-row.invariant.same
