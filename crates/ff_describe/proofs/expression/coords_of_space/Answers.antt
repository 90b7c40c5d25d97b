use Rattle.std.proofs.Common.{◌≡◌, ◌∙◌, List, ℕ, [], get_or, sym, subst, arith}
use Rattle.ff_theory.specs.Vector.{vector_of, IsVector}
use Rattle.ff_describe.specs.Readings.{IsWrittenBy}
use Rattle.ff_describe.proofs.RowLemmas.{basis-row}
use Rattle.ff_describe.proofs.expression.coords_of_space.Goals as goal

pub last_led-requires : goal.last_led-requires
last_led-requires g c = record {
  space = c.requires.space;
  room = omega (arith, c.requires.room);
}

pub coords_of_row-requires : goal.coords_of_row-requires
coords_of_row-requires g c =
    let F = g.K.Ring.elements c.args.k.now in
    let s = c.args.space.now in
    let i = c.in-Some.i in
    let e : get_or s.basis i [] ≡ c.deref.result.now = basis-row s c.basis.result.now i
    c.index-basis-i.result c.deref.result.now c.basis.ensures c.in-Some.ensures.some
    c.index-basis-i.is c.deref.ensures.value in
    let v : IsVector F s.len c.deref.result.now = subst (IsVector F s.len) e
    (c.requires.space.rows i [] c.in-Some.ensures.some) in
    record {
      row = v.each;
      room = v.len ∙ c.requires.room;
    }

pub returns-in_ok-coords-in-Some-clause-some : goal.returns-in_ok-coords-in-Some-clause-some
returns-in_ok-coords-in-Some-clause-some g c =
    let F = g.K.Ring.elements c.args.k.now in
    let s = c.args.space.now in
    let i = c.in-Some.i in
    let e : get_or s.basis i [] ≡ c.deref.result.now = basis-row s c.basis.result.now i
    c.index-basis-i.result c.deref.result.now c.basis.ensures c.in-Some.ensures.some
    c.index-basis-i.is c.deref.ensures.value in
    record {
      index = i;
      below = c.in-Some.ensures.some;
      led = c.in-Some.ensures.led;
      written = subst (λ (v : List ℕ). IsWrittenBy F c.args.n c.args.counts.now (vector_of F v)
          c.in_ok-coords-in-Some.coords) (sym e) c.in_ok-coords-in-Some.ensures;
    }

pub returns-in-None-clause-none : goal.returns-in-None-clause-none
returns-in-None-clause-none g c = c.in-None.ensures.none
