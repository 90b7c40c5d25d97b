use Rattle.std.proofs.Common.{arith, length, refl, sym, ℕ, ◌-◌, ◌<◌}
use Rattle.ff_theory.specs.Lawful.{lawful_field}
use Rattle.ff_theory.specs.Values.{plane_of}
use Rattle.ff_theory.proofs.Horner.{from_index, horner}
use Rattle.ff_elem.specs.Elem.{algebra_in}
use Rattle.ff_subst.specs.Columns.{column_of}
use Rattle.ff_subst.proofs.ResidueLemmas.{residue-is}
use Rattle.ff_subst.proofs.HornerLemmas.{columns-whole, horner-next, horner-none}
use Rattle.ff_poly.proofs.RowLists.{row-length}
use Rattle.ff_subst.proofs.evaluation.evaluate.Goals as goal

pub step-requires : goal.step-requires
step-requires g c =
    record {
      m = c.requires.m;
      at = c.requires.at;
      rows = c.requires.rows;
      enough = c.requires.enough;
      value = c.loop-i.invariant.reduced;
    }

pub loop-i-init : goal.loop-i-init
loop-i-init g c =
    let K = g.K.Ring.elements c.args.alg.now.k in
    let L = g.K.Ring.lawful c.args.alg.now.k in
    let f = c.args.alg.now.f in
    let m = c.args.m.now in
    let rows = c.args.rows.now in
    let w = c.width-width.result in
    record {
      below = omega arith;
      reduced = c.in_ok-value.ensures.reduced;
      residue = λ X Y h. residue-is K L f m _ _ c.in_ok-value.value
          (sym (horner-none K L f X (column_of (lawful_field L) (plane_of K f) Y (plane_of K rows)
          (length rows)) w)) c.in_ok-value.ensures.residue;
    }

pub loop-i-preserved : goal.loop-i-preserved
loop-i-preserved g c =
    let K = g.K.Ring.elements c.args.alg.now.k in
    let L = g.K.Ring.lawful c.args.alg.now.k in
    let f = c.args.alg.now.f in
    let A = algebra_in L f in
    let m = c.args.m.now in
    let rows = c.args.rows.now in
    let w = c.width-width.result in
    let i = c.loop-i.i in
    let k = i - 1 in
    let pos : 0 < i = omega (arith, c.loop-i-test.true) in
    let old = c.loop-i.invariant in
    record {
      below = omega (arith, old.below);
      reduced = c.in_ok-value-2.ensures.reduced;
      residue = λ X Y h.
          let col : ℕ → A.carrier = λ i. column_of (lawful_field L) (plane_of K f) Y
          (plane_of K rows) (length rows) i in
          residue-is K L f m _ _ c.in_ok-value-2.value
          (horner-next K L f X col w i k pos old.below refl)
          (c.in_ok-value-2.ensures.residue X Y (horner A X (from_index i col) (w - i)) h
          (old.residue X Y h));
    }

pub returns-clause-value : goal.returns-clause-value
returns-clause-value g c =
    let K = g.K.Ring.elements c.args.alg.now.k in
    let L = g.K.Ring.lawful c.args.alg.now.k in
    let f = c.args.alg.now.f in
    let m = c.args.m.now in
    let rows = c.args.rows.now in
    λ X Y h. residue-is K L f m _ _ c.loop-i.value
    (columns-whole K L f X Y rows c.width-width.result c.loop-i.i
    (omega (arith, c.loop-i-test.false))
    (λ j. omega (arith, row-length rows j, c.width-width.ensures)))
    (c.loop-i.invariant.residue X Y h)
