use Rattle.std.proofs.Common.{ℕ, ◌+◌, ◌<◌, length, refl, sym, subst, arith, All, IfSome, Vec}
use Rattle.std.proofs.Common.{Global}
use Rattle.std.proofs.lemmas.List.Elements.{All-push}
use Rattle.ff_theory.specs.Vector.{IsVector}
use Rattle.ff_functions.specs.declared.numbers.PoleNumber.{PoleNumber}
use Rattle.ff_functions.specs.Searches.{IsNumber, IsVerdict, AreNumbers}
use Rattle.ff_functions.proofs.NumberLemmas.{numbers_none, numbers_first, numbers_kept}
use Rattle.ff_functions.proofs.NumberLemmas.{relation_dependent}
use Rattle.ff_functions.proofs.numbers.with_relation.Goals as goal
use Rattle.ff_functions.proofs.numbers.with_relation.Goals.{
  then-is_first+in_ok-push-in-Some,
  else-is_first,
}

pub is_first-requires : goal.is_first-requires
is_first-requires g c =
    subst (All (λ (p : PoleNumber). 0 < p.j)) (sym c.deref.ensures.value)
    (λ i d l. (c.requires.numbers i d l).positive)

pub returns-in-None : goal.returns-in-None
returns-in-None g c =
    let F = g.K.Ring.elements c.args.k.now in
    let j = c.args.j in
    let numbers = c.args.numbers.items in
    record {
      form = c.requires.numbers;
      numbers = λ t images v h. numbers_none F t c.args.c images j c.requires.positive numbers h
          (λ s d l. (c.requires.numbers s d l).within)
          (subst (IsVerdict F t c.args.c images j) c.in-None.is v);
      decided = λ t images v. subst (IsVerdict F t c.args.c images j) c.in-None.is v;
    }

pub returns-after-is_first : goal.returns-after-is_first
returns-after-is_first g c =
    let F = g.K.Ring.elements c.args.k.now in
    let L = g.K.Ring.lawful c.args.k.now in
    let j = c.args.j in
    let n = c.args.c in
    let numbers = c.args.numbers.items in
    let r = c.in-Some.relation in
    let P : PoleNumber → Type 0 = IsNumber F c.args.c c.args.j in
    let within = λ (s : ℕ) (d : PoleNumber) (l : s < length numbers).
    (c.requires.numbers s d l).within in
    record {
      form = elim c.if-is_first.branch [
        | then-is_first+in_ok-push-in-Some w ↦
            subst (λ (v : Vec PoleNumber Global). All P v.items) (sym w.numbers-is)
            (subst (All P) (sym w.in_ok-push-in-Some.ensures.items)
            (All-push P c.args.numbers.items _ c.requires.numbers record {
              positive = c.requires.positive;
              within = omega arith;
              relation = subst (λ o. IfSome o (λ r. IsVector F (c.args.c + c.args.j) r.items))
                  c.in-Some.is c.requires.relation;
            }))
        | else-is_first w ↦
            subst (λ (v : Vec PoleNumber Global). All P v.items) (sym w.numbers-is)
            c.requires.numbers
      ];
      numbers = λ t images v h.
          let relation = subst (IsVerdict F t n images j) c.in-Some.is v in
          elim c.if-is_first.branch [
            | then-is_first+in_ok-push-in-Some w ↦
                subst (λ (v : Vec PoleNumber Global). AreNumbers F t n images j v.items)
                (sym w.numbers-is)
                (subst (AreNumbers F t n images j) (sym w.in_ok-push-in-Some.ensures.items)
                (numbers_first F L t n images j c.requires.positive numbers c.deref.result.now
                c.deref.ensures.value r.items relation within h
                (record { j = j; relation = r }) refl refl
                (c.is_first.ensures.yes w.if-is_first.true)))
            | else-is_first w ↦
                subst (λ (v : Vec PoleNumber Global). AreNumbers F t n images j v.items)
                (sym w.numbers-is)
                (numbers_kept F L t n images j c.requires.positive numbers c.deref.result.now
                c.deref.ensures.value r.items relation within h
                (c.is_first.ensures.some w.if-is_first.false)
                (c.is_first.ensures.no w.if-is_first.false))
          ];
      decided = λ t images v. relation_dependent F L t n images j c.requires.positive r.items
          (subst (IsVerdict F t n images j) c.in-Some.is v);
    }
