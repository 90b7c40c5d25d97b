use Rattle.std.proofs.Common.{◌+◌, [], ◌∷◌}
use Rattle.std.proofs.Common.{length, sym, ◌∙◌, ap, subst}
use Rattle.std.proofs.Common.{All}
use Rattle.std.proofs.lemmas.List.{length-append}
use Rattle.std.proofs.lemmas.List.Elements.{All-push}
use Rattle.ff_data.specs.Systems.{AreOverMonic}
use Rattle.ff_relation.specs.InRing.{IsWritten}
use Rattle.ff_relation.proofs.RelationLemmas.{written-push}
use Rattle.ff_relation.proofs.relations.back.Goals as goal

pub loop-i-preserved : goal.loop-i-preserved
loop-i-preserved g c =
    let F = g.K.Ring.elements c.args.k.now in
    let L = g.K.Ring.lawful c.args.k.now in
    let s = c.args.s.now in
    let old = c.loop-i.items.items in
    let x = c.in_ok-written.field-0 in
    let e = c.in_ok-push.ensures.items in
    let n = c.loop-i.invariant.count in
    record {
      count = ap length e ∙ length-append old (x ∷ []) ∙ ap (λ n. n + 1) n;
      each = subst (All (AreOverMonic F s)) (sym e)
          (All-push (AreOverMonic F s) old x c.loop-i.invariant.each c.in_ok-written.ensures.form);
      exact = λ w b h. written-push F L s c.requires.table.weights b old c.push.new.self.items x e
          (c.loop-i.invariant.exact w b h)
          (subst (λ n. IsWritten F s w n x) (sym n)
          (c.in_ok-written.ensures.exact w b (h c.loop-i.i c.loop-i-test.true)));
    }

pub returns-clause-exact : goal.returns-clause-exact
returns-clause-exact g c = c.loop-i.invariant.exact
