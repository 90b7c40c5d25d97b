use Rattle.std.proofs.Common.{length, sym, ◌∙◌, ap, subst}
use Rattle.std.proofs.lemmas.List.{with_items_is}
use Rattle.ff_relation.specs.InRing.{AreExponents}
use Rattle.ff_relation.proofs.BaseLemmas.{exponents-whole}
use Rattle.ff_relation.proofs.bases.exponents.Goals as goal

pub returns-clause-class : goal.returns-clause-class
returns-clause-class c = λ prime. subst (AreExponents c.args.e c.args.weight)
    (sym (with_items_is c.in_ok-exponents.exponents c.enter_exponents.new.exponents
    (c.enter_exponents.ensures.count ∙ sym c.in_ok-exponents.ensures.count
    ∙ sym (ap length c.deref_mut.ensures.value) ∙ c.deref_mut.ensures.len)))
    (exponents-whole c.args.e c.args.weight c.enter_exponents.new.exponents prime
    c.enter_exponents.ensures.class)
