use Rattle.std.proofs.Common.{ℕ, ◌<◌, ◌≤◌, length, refl, sym, subst, arith, All}
use Rattle.ff_forms.specs.declared.functions.TheConstants.{POLE_LIMIT}
use Rattle.ff_functions.specs.declared.numbers.PoleNumber.{PoleNumber}
use Rattle.ff_functions.specs.Searches.{HasClass}
use Rattle.ff_functions.specs.Combined.{AreClassWeights}
use Rattle.ff_functions.proofs.FunctionLists.{number_at}
use Rattle.ff_functions.proofs.FoundLemmas.{found_trail, found_number, found_within}
use Rattle.ff_functions.proofs.assembly.assembled.Goals as goal

pub function-requires : goal.function-requires
function-requires g c =
    let L = g.K.Ring.lawful c.args.alg.now.k in
    let f = c.args.alg.now.f in
    let s = c.args.search.now in
    let o = c.args.order.now in
    let d = length c.args.frame.now.numerators.items in
    let found = c.requires.found in
    record {
      order = c.requires.order;
      own = c.requires.own;
      frame = c.requires.frame;
      trail = found_trail L f o s d found;
      number = found_number L f o s d found 0 c.index-first.result.now found.complete.nonempty
          c.index-first.ensures;
    }

pub basis-requires : goal.basis-requires
basis-requires g c =
    let L = g.K.Ring.lawful c.args.alg.now.k in
    let s = c.args.search.now in
    let d = length c.args.frame.now.numerators.items in
    let found = c.requires.found in
    let p = c.index-first.result.now in
    record {
      order = c.requires.order;
      own = c.requires.own;
      frame = c.requires.frame;
      found = found;
      positive = (found_number L c.args.alg.now.f c.args.order.now s d found 0 p
          found.complete.nonempty c.index-first.ensures).positive;
      classes = subst (λ (p : PoleNumber). (i : ℕ) → i < p.j → HasClass s.numbers.items p.j i)
          (sym c.index-first.ensures) (found.complete.classes p);
    }

pub weights-requires : goal.weights-requires
weights-requires g c =
    let L = g.K.Ring.lawful c.args.alg.now.k in
    let s = c.args.search.now in
    let d = length c.args.frame.now.numerators.items in
    let found = c.requires.found in
    let p = c.index-first.result.now in
    let same = sym c.deref.ensures.value in
    record {
      numbers = subst (All (λ (p : PoleNumber). p.j ≤ POLE_LIMIT)) same
          (found_within L c.args.alg.now.f c.args.order.now s d found);
      positive = (found_number L c.args.alg.now.f c.args.order.now s d found 0 p
          found.complete.nonempty c.index-first.ensures).positive;
      classes = subst (λ t. (i : ℕ) → i < p.j → HasClass t p.j i) same
          (subst (λ (p : PoleNumber). (i : ℕ) → i < p.j → HasClass s.numbers.items p.j i)
          (sym c.index-first.ensures) (found.complete.classes p));
    }

pub returns : goal.returns
returns g c =
    let L = g.K.Ring.lawful c.args.alg.now.k in
    let s = c.args.search.now in
    let d = length c.args.frame.now.numerators.items in
    let found = c.requires.found in
    let n = found_number L c.args.alg.now.f c.args.order.now s d found 0 c.index-first.result.now
    found.complete.nonempty c.index-first.ensures in
    let e = c.index-first.result.now.j in
    record {
      form = record {
        positive = n.positive;
        e = omega (arith, n.within, found.trail.count, found.within);
        z = c.in_ok-z.ensures.elem;
        b = c.in_ok-items.ensures.elems;
        count = c.in_ok-items.ensures.count;
        weights = c.in_ok-items-2.ensures.count;
        within = c.in_ok-items-2.ensures.within;
      };
      assembled = record {
        first = c.index-first.result.now;
        at = number_at s.numbers.items 0 c.index-first.result.now found.complete.nonempty
            c.index-first.ensures;
        e = refl;
        z = c.in_ok-z.ensures.value;
        b = c.in_ok-items.ensures.functions;
        weights = subst (λ t. AreClassWeights t e e c.in_ok-items-2.items.items)
            c.deref.ensures.value c.in_ok-items-2.ensures.weights;
      };
    }
