use Rattle.std.proofs.Common.{◌≡◌, true, false, IsTrue, ℕ, ◌<◌, length, arith, subst, below_more}
use Rattle.std.proofs.lemmas.List.{get_or_default}
use Rattle.ff_functions.specs.declared.numbers.PoleNumber.{PoleNumber}
use Rattle.ff_functions.specs.Searches.{HasClass}
use Rattle.ff_functions.proofs.numbers.is_complete.Goals as goal

pub class_index-requires : goal.class_index-requires
class_index-requires c = c.requires 0 c.index-numbers-0.result (omega arith)

pub loop-i-init : goal.loop-i-init
loop-i-init c = λ s l. absurd (omega (arith, l))

pub loop-i-preserved : goal.loop-i-preserved
loop-i-preserved c = below_more _ _ c.loop-i.invariant (c.class_index.ensures.class
    (omega (arith, c.class_index.ensures.within, c.if-class_index-numbers.false)))

pub returns : goal.returns
returns c =
    let numbers = c.args.numbers.now in
    let some : 0 < length numbers = omega arith in
    record {
      yes = λ _. record {
        nonempty = some;
        classes = λ d. subst (λ (p : PoleNumber). (i : ℕ) → i < p.j → HasClass numbers p.j i)
            (get_or_default numbers 0 c.index-numbers-0.result d some)
            (λ i l. c.loop-i.invariant i (omega (arith, l, c.loop-i-test.false)));
      };
      no = λ (e : true ≡ false). cc;
    }

pub returns-then-numbers-eq0 : goal.returns-then-numbers-eq0
returns-then-numbers-eq0 c = record {
  yes = λ (e : IsTrue false). cc;
  no = λ e h. absurd (omega (arith, h.nonempty, c.if-numbers-eq0.true));
}

pub returns-then-class_index-numbers : goal.returns-then-class_index-numbers
returns-then-class_index-numbers c = record {
  yes = λ (e : IsTrue false). cc;
  no = λ e h. absurd (omega (
    arith,
    c.class_index.ensures.found (h.classes c.index-numbers-0.result c.loop-i.i
        c.loop-i-test.true),
    c.if-class_index-numbers.true,
  ));
}
