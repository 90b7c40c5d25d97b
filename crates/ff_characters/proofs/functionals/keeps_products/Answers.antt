use Rattle.std.proofs.Common.{◌<◌, [], length, get_or, arith, below_more}
use Rattle.ff_theory.specs.Vector.{vector_of}
use Rattle.ff_lin.proofs.Entries.{entry}
use Rattle.ff_lin.proofs.Compare.{true-is-false}
use Rattle.ff_characters.specs.Characters.{tables_of, IsEigenvector}
use Rattle.ff_characters.proofs.CharacterLemmas.{eigen-read}
use Rattle.ff_characters.proofs.functionals.keeps_products.Goals as goal

pub returns-then-not-is_eigenvector : goal.returns-then-not-is_eigenvector
returns-then-not-is_eigenvector g c =
    let F = g.K.Ring.elements c.args.k.now in
    let chi = c.args.chi.now in
    let i = c.loop-i.i in
    let l : i < length chi = omega (arith, c.loop-i-test.true) in (
      λ h. absurd (cc),
      λ h. absurd (true-is-false _ c.if-not-is_eigenvector.true (c.is_eigenvector.ensures.1
          ((eigen-read F (length chi) c.args.table.now c.requires.table i c.index-table-i.result
          c.deref.result.now (F.value (get_or chi i 0)) (vector_of F chi i) (vector_of F chi) l
          c.index-table-i.is c.deref.ensures.value (entry F chi i l)).1 (h i l)))),
    )

pub loop-i-preserved : goal.loop-i-preserved
loop-i-preserved g c =
    let F = g.K.Ring.elements c.args.k.now in
    let chi = c.args.chi.now in
    let i = c.loop-i.i in
    let l : i < length chi = omega (arith, c.loop-i-test.true) in
    below_more (λ i. IsEigenvector F (length chi) (get_or (tables_of c.args.table.now) i [])
    (vector_of F chi i) (vector_of F chi)) i c.loop-i.invariant
    ((eigen-read F (length chi) c.args.table.now c.requires.table i c.index-table-i.result
    c.deref.result.now (F.value (get_or chi i 0)) (vector_of F chi i) (vector_of F chi) l
    c.index-table-i.is c.deref.ensures.value (entry F chi i l)).0
    (c.is_eigenvector.ensures.0 c.if-not-is_eigenvector.false))
