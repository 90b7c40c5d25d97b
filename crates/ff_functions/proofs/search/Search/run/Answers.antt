use Rattle.std.proofs.Common.{◌≡◌, ◌+◌, ◌*◌, ◌<◌, pred, length, sym, ◌∙◌, subst, refl, arith}
use Rattle.std.proofs.Common.{All}
use Rattle.ff_data.specs.Orders.{y_degree}
use Rattle.ff_functions.specs.declared.numbers.PoleNumber.{PoleNumber}
use Rattle.ff_functions.specs.Searches.{IsComplete, HoldSearch}
use Rattle.ff_functions.proofs.SearchLemmas.{search_same, incomplete_none}
use Rattle.ff_functions.proofs.search.Search.run.Goals as goal

pub look-requires : goal.look-requires
look-requires g c = record {
  order = c.requires.order;
  frame = c.requires.frame;
  positive = omega (arith, c.loop-j-test.true, c.loop-j.auto);
  room = λ e. let room = c.requires.room e in omega (arith, room, c.loop-j-test.true);
  form = c.loop-j.invariant.form;
}

pub agrees-requires : goal.agrees-requires
agrees-requires g c = c.requires.like

pub is_complete-requires : goal.is_complete-requires
is_complete-requires g c =
    subst (All (λ (p : PoleNumber). 0 < p.j)) (sym c.deref.ensures.value)
    (λ i d l. (c.in_ok-next.ensures.form.numbers i d l).positive)

pub advance-requires : goal.advance-requires
advance-requires g c = record {
  order = c.requires.order;
  form = c.in_ok-next.ensures.form;
}

pub loop-j-init : goal.loop-j-init
loop-j-init g c = record {
  form = c.requires.form;
  held = λ p t first h. h;
  incomplete = incomplete_none (g.K.Ring.elements c.args.alg.now.k)
      (length c.args.frame.now.numerators.items) c.args.self.numbers.items c.requires.form.numbers;
}

pub loop-j-preserved : goal.loop-j-preserved
loop-j-preserved g c =
    let L = g.K.Ring.lawful c.args.alg.now.k in
    let f = c.args.alg.now.f in
    let j = c.loop-j.j in
    let frame = c.args.frame.now in
    let n = y_degree L f * frame.h in
    let d = length frame.numerators.items in
    let e : j ≡ pred (j + 1) = omega arith in
    record {
      form = search_same L f c.args.order.now c.in_ok-search.search n n d d (j + 1) j
          (pred (j + 1)) refl refl e c.in_ok-search.ensures.form;
      held = λ p t first h. subst (λ m. HoldSearch L f c.args.order.now p frame.h d (j + 1) m t
          first c.in_ok-search.search) e (c.in_ok-search.ensures.held p t first
          (c.in_ok-next.ensures.held p t first (c.loop-j.invariant.held p t first h)).held);
      incomplete = subst (λ numbers. ¬ IsComplete numbers) (c.deref.ensures.value
          ∙ sym c.in_ok-search.ensures.numbers) (c.is_complete.ensures.no c.if-is_complete.false);
    }

pub returns-then-is_complete-clause-held : goal.returns-then-is_complete-clause-held
returns-then-is_complete-clause-held g c = λ p t first h. (
  c.loop-j.j,
  (
    omega (arith, c.loop-j-test.true),
    (c.in_ok-next.ensures.held p t first (c.loop-j.invariant.held p t first h)).held,
  ),
)

pub returns-then-not-agrees-clause-held : goal.returns-then-not-agrees-clause-held
returns-then-not-agrees-clause-held g c = λ p t first h. record {
  m = c.loop-j.j;
  positive = omega (arith, c.loop-j.auto);
  within = omega (arith, c.loop-j-test.true);
  search = c.in_ok-next.next;
  is_number = c.in_ok-next.is_number;
  held = c.in_ok-next.ensures.held p t first (c.loop-j.invariant.held p t first h);
  unlike = c.agrees.ensures c.if-not-agrees.true;
}

pub returns-clause-held : goal.returns-clause-held
returns-clause-held g c = λ p t first h.
    let L = g.K.Ring.lawful c.args.alg.now.k in
    let frame = c.args.frame.now in
    let e : pred c.loop-j.j ≡ c.args.bound = omega (
      arith,
      c.loop-j-test.false,
      c.loop-j.auto.j-end (omega arith),
    ) in
    let n : c.loop-j.j ≡ c.args.bound + 1 = omega (arith, e, c.loop-j.auto) in (
      c.loop-j.search,
      (
        subst (λ m. HoldSearch L c.args.alg.now.f c.args.order.now p frame.h
            (length frame.numerators.items) m c.args.bound t first c.loop-j.search) n
            (subst (λ m. HoldSearch L c.args.alg.now.f c.args.order.now p frame.h
            (length frame.numerators.items) c.loop-j.j m t first c.loop-j.search) e
            (c.loop-j.invariant.held p t first h)),
        c.loop-j.invariant.incomplete,
      ),
    )

pub returns-then-is_complete-clause-form : goal.returns-then-is_complete-clause-form
returns-then-is_complete-clause-form g c = record {
  bound = c.loop-j.j;
  within = omega (arith, c.loop-j-test.true, c.requires.bound);
  trail = c.in_ok-next.ensures.form.trail;
  numbers = c.in_ok-next.ensures.form.numbers;
  complete = subst IsComplete c.deref.ensures.value
      (c.is_complete.ensures.yes c.if-is_complete.true);
}
