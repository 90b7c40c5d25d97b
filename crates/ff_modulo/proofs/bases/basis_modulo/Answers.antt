use Rattle.std.proofs.Common.{◌≡◌, ℕ, ◌+◌, [], ◌∷◌, ◌++◌, get_or, sym, ◌∙◌, ap, subst, arith}
use Rattle.std.proofs.Common.{All}
use Rattle.std.proofs.lemmas.List.{get_or-map, map_push, length-map}
use Rattle.std.specs.Global.{Vec}
use Rattle.ff_theory.specs.Vector.{IsVector}
use Rattle.ff_lin.specs.Space.{rows_of, SpaceParts, SameSpace, IsSpaceOf}
use Rattle.ff_lin.proofs.InsertRow.{all-unmap}
use Rattle.ff_lin.proofs.Compare.{true-is-false}
use Rattle.ff_modulo.proofs.ModuloLemmas.{IsStage, stage-first, stage-same, stage-more}
use Rattle.ff_modulo.proofs.bases.basis_modulo.Goals.{then-not-contains+in_ok-from_slice+in_ok-sum-2+in_ok-from_slice-2+in_ok-push}
use Rattle.ff_modulo.proofs.bases.basis_modulo.Goals.{else-not-contains}
use Rattle.ff_modulo.proofs.bases.basis_modulo.Goals as goal

pub span-requires : goal.span-requires
span-requires g c =
    let F = g.K.Ring.elements c.args.k.now in
    let s = c.args.space.now in
    let items = λ (r : Vec ℕ). r.items in
    record {
      rows = all-unmap (IsVector F c.len.result) items c.basis.result.now
          (subst (All (IsVector F c.len.result)) (sym c.basis.ensures)
          (subst (λ n. All (IsVector F n) s.basis) (sym c.len.ensures) c.requires.space.rows));
    }

pub loop-v-init : goal.loop-v-init
loop-v-init g c =
    let F = g.K.Ring.elements c.args.k.now in
    let s = c.args.space.now in
    let sum = c.in_ok-sum.sum in
    subst (λ xs. IsStage (g.K.Ring.lawful c.args.k.now) s (rows_of c.args.vectors.now) sum
    (rows_of xs) 0)
    (sym c.new-basis.ensures.items)
    (stage-first (g.K.Ring.lawful c.args.k.now) s (rows_of c.args.vectors.now) sum
    (subst (λ n. IsSpaceOf F n sum) c.len.ensures c.in_ok-sum.ensures.space)
    (subst (λ b. SameSpace F sum.basis b) c.basis.ensures c.in_ok-sum.ensures.same))

pub contains-requires-clause-v : goal.contains-requires-clause-v
contains-requires-clause-v g c =
    let F = g.K.Ring.elements c.args.k.now in
    let n = c.args.space.now.len in
    subst (λ m. IsVector F m c.deref.result.now) (sym c.loop-v.invariant.space.len)
    (subst (IsVector F n) (sym c.deref.ensures.value)
    (subst (λ (r : Vec ℕ). IsVector F n r.items) (sym c.v-item.is)
    (c.requires.vectors c.loop-v.v-index c.v-item.result (omega (arith, c.loop-v-test.true)))))

pub loop-v-preserved : goal.loop-v-preserved
loop-v-preserved g c =
    let F = g.K.Ring.elements c.args.k.now in
    let L = g.K.Ring.lawful c.args.k.now in
    let s = c.args.space.now in
    let i = c.loop-v.v-index in
    let items = λ (r : Vec ℕ). r.items in
    let vs = rows_of c.args.vectors.now in
    let xs = rows_of c.loop-v.basis.items in
    let x = c.deref.result.now in
    let row : get_or vs i [] ≡ x = get_or-map items c.args.vectors.now i c.v-item.result []
    (omega (arith, c.loop-v-test.true)) ∙ sym (ap items c.v-item.is)
    ∙ sym c.deref.ensures.value in
    let vec : IsVector F s.len x = subst (IsVector F s.len) (sym c.deref.ensures.value)
    (subst (λ (r : Vec ℕ). IsVector F s.len r.items) (sym c.v-item.is)
    (c.requires.vectors i c.v-item.result (omega (arith, c.loop-v-test.true)))) in
    elim c.if-not-contains.branch [
      | then-not-contains+in_ok-from_slice+in_ok-sum-2+in_ok-from_slice-2+in_ok-push w ↦
          subst (λ t. IsStage L s vs t (rows_of c.if-not-contains.basis.items)
          (i + 1)) (sym w.sum-is)
          (subst (λ ys. IsStage L s vs w.in_ok-sum-2.sum ys (i + 1))
          (sym (ap (λ (b : Vec (Vec ℕ)). rows_of b.items) w.basis-is
          ∙ ap rows_of w.in_ok-push.ensures.items
          ∙ map_push items c.loop-v.basis.items w.in_ok-from_slice-2.field-0
          ∙ ap (λ t. xs ++ t ∷ []) (w.in_ok-from_slice-2.ensures.items
          ∙ w.deref-then-not-contains-2.ensures.value ∙ sym c.deref.ensures.value)))
          (stage-more L s vs c.loop-v.sum w.in_ok-sum-2.sum xs i x
          c.loop-v.invariant (omega (
            arith,
            c.loop-v-test.true,
            length-map c.args.vectors.now items,
          ))
          row (λ k. true-is-false _ w.if-not-contains.true (c.contains.ensures.1 k)) vec
          (subst (λ n. IsSpaceOf F n w.in_ok-sum-2.sum)
          (ap (λ (t : SpaceParts). t.len) c.sum.view_is ∙ c.loop-v.invariant.space.len)
          w.in_ok-sum-2.ensures.space)
          (subst (λ t. SameSpace F w.in_ok-sum-2.sum.basis (t ∷ c.loop-v.sum.basis))
          (w.in_ok-from_slice.ensures.items ∙ w.deref-then-not-contains.ensures.value
          ∙ sym c.deref.ensures.value)
          (subst (λ (t : SpaceParts). SameSpace F w.in_ok-sum-2.sum.basis
          (w.in_ok-from_slice.field-0.items ∷ t.basis)) c.sum.view_is
          w.in_ok-sum-2.ensures.same))))
      | else-not-contains w ↦
          subst (λ t. IsStage L s vs t (rows_of c.if-not-contains.basis.items)
          (i + 1)) (sym w.sum-is)
          (subst (λ (ys : Vec (Vec ℕ)). IsStage L s vs c.loop-v.sum
          (rows_of ys.items) (i + 1)) (sym w.basis-is)
          (stage-same L s vs c.loop-v.sum xs i x c.loop-v.invariant row
          (c.contains.ensures.0 w.if-not-contains.false)))
    ]

pub returns-clause-vectors : goal.returns-clause-vectors
returns-clause-vectors g c =
    let F = g.K.Ring.elements c.args.k.now in
    all-unmap (IsVector F c.args.space.now.len) (λ (r : Vec ℕ). r.items) c.loop-v.basis.items
    c.loop-v.invariant.each

pub returns-clause-basis : goal.returns-clause-basis
returns-clause-basis g c =
    record {
      chosen = c.loop-v.invariant.chosen;
      independent = c.loop-v.invariant.independent;
      spans = λ t l. c.loop-v.invariant.spans t (omega (
        arith,
        l,
        c.loop-v-test.false,
        length-map c.args.vectors.now (λ (r : Vec ℕ). r.items),
      ));
    }
