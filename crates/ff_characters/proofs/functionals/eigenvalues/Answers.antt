use Rattle.std.proofs.Common.{◌≡◌, [], length, get_or, sym, ◌∙◌, subst, arith, All}
use Rattle.std.proofs.lemmas.List.Elements.{All-push}
use Rattle.ff_theory.specs.Ring.{IsElement}
use Rattle.ff_theory.specs.Vector.{vector_of}
use Rattle.ff_lin.proofs.Entries.{entry}
use Rattle.ff_characters.specs.Characters.{tables_of, IsEigenvector}
use Rattle.ff_characters.proofs.CharacterLemmas.{pushed-entry, eigenvalue-read}
use Rattle.ff_characters.proofs.functionals.eigenvalues.Goals as goal

pub inv-factor-requires-clause-nonzero : goal.inv-factor-requires-clause-nonzero
inv-factor-requires-clause-nonzero g c z =
    let F = g.K.Ring.elements c.args.k.now in
    c.requires.nonzero (entry F c.args.v.now c.args.p c.requires.index ∙ z)

pub loop-i-preserved : goal.loop-i-preserved
loop-i-preserved g c =
    let F = g.K.Ring.elements c.args.k.now in
    let v = c.args.v.now in
    let e = c.in_ok-push.ensures.items in
    record {
      len = omega (arith, c.in_ok-push.ensures.len, c.loop-i.invariant.len);
      each = subst (All (IsElement F)) (sym e) (All-push (IsElement F) c.loop-i.values.items
          c.mul.result c.loop-i.invariant.each c.mul.ensures.element);
      value = pushed-entry F (λ i x. (a : F.carrier) → IsEigenvector F (length v)
          (get_or (tables_of c.args.table.now) i []) a (vector_of F v) → x ≡ a)
          c.loop-i.values.items c.mul.result c.push.new.self.items c.loop-i.i e
          c.loop-i.invariant.len c.loop-i.invariant.value
          (eigenvalue-read F (g.met.K.Ring.laws c.args.k.now) (g.met.K.Field.is_field c.args.k.now)
          v c.args.table.now c.requires.table c.loop-i.i c.args.p c.index-table-i.result
          c.index.result.now c.deref.result.now (get_or v c.args.p 0) c.inv-factor.result
          c.dot.result c.mul.result (omega (arith, c.loop-i-test.true)) c.requires.index
          c.index-table-i.is c.index.ensures c.deref.ensures.value c.inv-factor.ensures.value
          c.requires.nonzero (entry F v c.args.p c.requires.index) c.dot.ensures.value
          c.mul.ensures.value);
    }

pub returns-clause-value : goal.returns-clause-value
returns-clause-value g c i a l e = c.loop-i.invariant.value i
    (omega (arith, c.loop-i-test.false, c.loop-i.auto.i-end, l)) a e
