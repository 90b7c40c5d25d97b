use Rattle.std.proofs.Common.{ℕ, List, sym, arith, subst, All, Vec, Global}
use Rattle.ff_theory.specs.Ring.{IsElement}
use Rattle.ff_theory.specs.PrimeTable.{prime_elements}
use Rattle.ff_theory.specs.Vector.{IsVector}
use Rattle.ff_lin.proofs.InsertRow.{all-unmap}
use Rattle.ff_tests_base.proofs.lin.has_basis.Goals as goal

pub has_entries-requires : goal.has_entries-requires
has_entries-requires c =
    let F = prime_elements c.args.k.now.number in
    let n = c.args.space.now.len in
    let basis = c.basis-basis.result.now in
    let v = c.index-basis-i.result in
    let items : Vec ℕ Global → List ℕ = λ v. v.items in
    let all : All (λ v. IsVector F n (items v)) basis = all-unmap (IsVector F n) items basis
    (subst (All (IsVector F n)) (sym c.basis-basis.ensures) c.requires.rows) in
    let vec : IsVector F n (items v) = subst (λ v. IsVector F n (items v))
    (sym c.index-basis-i.is) (all c.loop-i.i v (omega arith)) in
    subst (All (IsElement F)) (sym c.deref.ensures.value) vec.each
