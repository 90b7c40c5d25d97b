use Rattle.std.proofs.Common.{◌≡◌, ◌<◌, ◌%◌, length, sym, subst, arith, true, false}
use Rattle.std.proofs.lemmas.Bool.{eqb-true, eqb-false}
use Rattle.std.proofs.lemmas.List.{get_or_default}
use Rattle.ff_functions.specs.declared.numbers.PoleNumber.{PoleNumber}
use Rattle.ff_functions.specs.Searches.{HasClass}
use Rattle.ff_functions.proofs.numbers.is_first.Goals as goal

pub class_index-requires : goal.class_index-requires
class_index-requires c = c.requires 0 c.index-numbers-0.result (omega arith)

pub returns-then-numbers-eq0 : goal.returns-then-numbers-eq0
returns-then-numbers-eq0 c = record {
  yes = λ e l. absurd (omega (arith, l, c.if-numbers-eq0.true));
  some = λ (e : true ≡ false). cc;
  no = λ (e : true ≡ false). cc;
}

pub returns : goal.returns
returns c =
    let numbers = c.args.numbers.now in
    let j = c.args.j in
    let first = c.index-numbers-0.result in
    let i = c.class_index.result in
    let some : 0 < length numbers = omega arith in
    let at = λ (d : PoleNumber). get_or_default numbers 0 first d some in
    record {
      yes = λ e l d h. absurd (omega (
        arith,
        eqb-true i (length numbers) e,
        c.class_index.ensures.found
            (subst (λ (p : PoleNumber). HasClass numbers p.j (j % p.j)) (sym (at d)) h),
      ));
      some = λ e. some;
      no = λ e d. subst (λ (p : PoleNumber). HasClass numbers p.j (j % p.j)) (at d)
          (c.class_index.ensures.class (let n = eqb-false i (length numbers) e in
          omega (arith, n, c.class_index.ensures.within)));
    }
