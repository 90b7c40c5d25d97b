use Rattle.std.proofs.Common.{ℕ, ◌<◌, ◌+◌, sym, ◌∙◌, subst, arith}
use Rattle.ff_theory.specs.Span.{unit_at}
use Rattle.ff_lin.specs.Space.{IsSpaceOf, InSpace}
use Rattle.ff_lin.proofs.Compare.{true-is-false}
use Rattle.ff_common.specs.Common.{IsShortAt}
use Rattle.ff_common.proofs.HeldSpaces.{unit_inserted, unit_skipped, short_rows_are}
use Rattle.ff_common.proofs.held.short_rows.Goals as goal
use Rattle.ff_common.proofs.held.short_rows.Goals.{then-is_short_at+in_ok-unit+in_ok-space}
use Rattle.ff_common.proofs.held.short_rows.Goals.{else-is_short_at}

pub loop-j-preserved : goal.loop-j-preserved
loop-j-preserved g c =
    let F = g.K.Ring.elements c.args.k.now in
    let L = g.K.Ring.lawful c.args.k.now in
    let h = c.loop-j.invariant in
    let w = c.args.w in
    let e = c.args.e in
    let j = c.loop-j.j in
    let old = c.loop-j.space in
    elim c.if-is_short_at.branch [
      | then-is_short_at+in_ok-unit+in_ok-space b ↦ record {
        space = subst (IsSpaceOf F c.args.n) (sym b.space-is) (record {
          space = b.in_ok-space.ensures.space.space;
          len = b.in_ok-space.ensures.space.len ∙ h.space.len;
        });
        each = subst (λ s. (i : ℕ) → i < j + 1 → IsShortAt w e i
            → InSpace F s (unit_at F.ring i)) (sym b.space-is)
            (unit_inserted F L w e j old b.in_ok-space.space b.in_ok-unit.field-0.items h.each
            b.in_ok-space.ensures.same b.in_ok-unit.ensures.value);
      }
      | else-is_short_at b ↦ record {
        space = subst (IsSpaceOf F c.args.n) (sym b.space-is) h.space;
        each = subst (λ s. (i : ℕ) → i < j + 1 → IsShortAt w e i
            → InSpace F s (unit_at F.ring i)) (sym b.space-is)
            (unit_skipped F L w e j old h.each (λ q. true-is-false c.is_short_at.result
            b.if-is_short_at.false (c.is_short_at.ensures.1 q)));
      }
    ]

pub returns-clause-whole : goal.returns-clause-whole
returns-clause-whole g c =
    short_rows_are (g.K.Ring.elements c.args.k.now) (g.K.Ring.lawful c.args.k.now) c.args.n
    c.args.w c.args.e c.loop-j.space
    (λ i l h. c.loop-j.invariant.each i (omega (arith, l, c.loop-j-test.false)) h)
