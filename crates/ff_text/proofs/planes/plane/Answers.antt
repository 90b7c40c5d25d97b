use Rattle.std.proofs.Common.{subst, sym}
use Rattle.ff_theory.specs.PrimeTable.{prime_elements}
use Rattle.ff_theory.specs.Values.{ArePolys}
use Rattle.ff_text.proofs.Rows.{rows_push, plane_answers}
use Rattle.ff_text.proofs.planes.plane.Goals as goal

pub loop-j-preserved : goal.loop-j-preserved
loop-j-preserved c =
    rw c.in_ok-push.ensures.items (rows_push c.args.k.now.number c.args.terms.now c.args.width
    c.loop-j.j c.loop-j.rows.items c.in_ok-row.field-0 c.loop-j.invariant
    c.in_ok-row.ensures.poly c.in_ok-row.ensures.same)

pub from_rows-requires : goal.from_rows-requires
from_rows-requires c = subst (ArePolys (prime_elements c.args.k.now.number))
    (sym c.deref.ensures.value) c.loop-j.invariant.each

pub returns : goal.returns
returns c =
    plane_answers c.args.k.now.number c.args.k.now.known c.from_rows.result c.args.terms.now
    c.args.width c.args.height c.loop-j.j c.deref.result.now c.loop-j.rows.items
    c.requires.width c.requires.height c.loop-j.invariant c.loop-j-test.false c.deref.ensures.value
    c.from_rows.ensures.plane c.from_rows.ensures.value
