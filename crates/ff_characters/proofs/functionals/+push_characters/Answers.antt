use Rattle.std.proofs.Common.{◌≡◌, ◌<◌, length, sym, ◌∙◌, ap}
use Rattle.std.proofs.Common.{subst, arith, rules}
use Rattle.ff_lin.specs.Space.{IsSpaceOf}
use Rattle.ff_characters.specs.Characters.{IsMatrix, HasVector}
use Rattle.ff_characters.proofs.CharacterLemmas.{no-character, part-scaled, part-character}
use Rattle.ff_characters.proofs.CharacterLemmas.{by-index}
use Rattle.ff_characters.proofs.functionals.+push_characters.Goals as goal

pub returns-then-dim-eq0-clause-all : goal.returns-then-dim-eq0-clause-all
returns-then-dim-eq0-clause-all g t c chi k h =
    absurd (no-character (g.K.Ring.elements c.args.k.now) (g.met.K.Ring.laws c.args.k.now)
    (g.met.K.Ring.tests c.args.k.now) (g.met.K.Field.is_field c.args.k.now)
    (length c.args.one.now) _ c.args.one.now c.args.space.now
    (sym c.dim.ensures ∙ c.if-dim-eq0.true) chi k h)

pub push_characters-requires : goal.push_characters-requires
push_characters-requires g t c κs within =
    let F = g.K.Ring.elements c.args.k.now in
    let n = length c.args.one.now in
    let i = c.args.i in
    let table = c.args.table.now in
    let below : i < n = omega (arith, c.requires.index, c.if-i-one.false) in
    let m = c.index-table-i.result in
    let long : length c.deref.result.now ≡ n = ap length c.deref.ensures.value
    ∙ (subst (IsMatrix F n) (sym c.index-table-i.is)
    (c.requires.table.each i m (omega (arith, below, c.requires.table.count)))).count in (
      search rules,
      (
        search rules,
        (
          c.requires.table,
          (
            c.requires.one,
            (
              subst (λ n. IsSpaceOf F n c.in_ok-part.part) long c.in_ok-part.ensures.space,
              (
                omega (arith, below),
                (
                  part-scaled F n table c.requires.table i m c.deref.result.now
                      (F.value c.nth.result) below c.index-table-i.is c.deref.ensures.value
                      c.args.space.now c.in_ok-part.part c.in_ok-part.ensures.exact
                      c.requires.scaled,
                  c.loop-j.invariant.each,
                ),
              ),
            ),
          ),
        ),
      ),
    )

pub returns-then-is_same-clause-kept : goal.returns-then-is_same-clause-kept
returns-then-is_same-clause-kept g t c v h =
    c.in_ok-push_characters.ensures.kept v (c.loop-j.invariant.kept v h)

pub loop-j-preserved : goal.loop-j-preserved
loop-j-preserved g t c =
    let F = g.K.Ring.elements c.args.k.now in
    let n = length c.args.one.now in
    let i = c.args.i in
    let below : i < n = omega (arith, c.requires.index, c.if-i-one.false) in
    record {
      each = c.in_ok-push_characters.ensures.each;
      kept = λ v h. c.in_ok-push_characters.ensures.kept v (c.loop-j.invariant.kept v h);
      all = λ chi k h l. by-index F (g.met.K.FiniteField.is_finite_field c.args.k.now)
          (HasVector F c.push_characters.new.list.items chi) (chi i) c.loop-j.j
          (F.value c.nth.result) c.nth.ensures.value l
          (λ q. c.in_ok-push_characters.ensures.kept chi (c.loop-j.invariant.all chi k h q))
          (λ e. c.in_ok-push_characters.ensures.all chi (part-character F n c.args.table.now
          c.requires.table i c.index-table-i.result c.deref.result.now
          (F.value c.nth.result) below c.index-table-i.is c.deref.ensures.value
          c.args.space.now c.in_ok-part.part c.in_ok-part.ensures.exact c.args.one.now chi k h e)
          h);
    }
