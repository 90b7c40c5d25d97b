use Rattle.std.proofs.Common.{◌≡◌, ◌+◌, length, ap, subst, arith}
use Rattle.ff_theory.specs.Vector.{vector_of}
use Rattle.ff_lin.specs.Space.{rows_of}
use Rattle.ff_characters.specs.Characters.{tables_of}
use Rattle.ff_frac.specs.Socle.{AreSocleRows}
use Rattle.ff_frac.proofs.SocleRows.{no_socle_rows, whole_socle_rows}
use Rattle.ff_frac.proofs.socle.shifted_rows.Goals as goal

pub with_rows-requires : goal.with_rows-requires
with_rows-requires g c = record {
  table = c.requires.table;
  chi = c.requires.chi;
  row = omega (arith, c.loop-j-test.true, c.requires.chi.len);
  rows = c.loop-j.invariant.vectors;
  value = c.loop-j.invariant.value;
}

pub loop-j-init : goal.loop-j-init
loop-j-init g c =
    let F = g.K.Ring.elements c.args.k.now in
    let table = c.args.table.now in
    record {
      vectors = λ i d q. absurd (omega (arith, q, ap length c.new-rows.ensures.items));
      value = no_socle_rows F (length table) (tables_of table) (vector_of F c.args.chi.now) _
          (ap (λ rows. length (rows_of rows)) c.new-rows.ensures.items);
    }

pub loop-j-preserved : goal.loop-j-preserved
loop-j-preserved g c =
    let F = g.K.Ring.elements c.args.k.now in
    let table = c.args.table.now in
    let h = c.in_ok-rows.ensures in
    record {
      vectors = h.vectors;
      value = whole_socle_rows F (length table) (tables_of table) (vector_of F c.args.chi.now)
          c.loop-j.j _ h.value;
    }

pub returns : goal.returns
returns g c =
    let F = g.K.Ring.elements c.args.k.now in
    let h = c.loop-j.invariant in
    let n = length c.args.table.now in
    let e : c.loop-j.j ≡ n = omega (
      arith,
      c.loop-j-test.false,
      c.loop-j.auto.j-end,
      c.requires.chi.len,
    ) in
    record {
      vectors = h.vectors;
      value = subst (λ j. AreSocleRows F n (tables_of c.args.table.now)
          (vector_of F c.args.chi.now) j 0 (rows_of c.loop-j.rows.items)) e h.value;
    }
