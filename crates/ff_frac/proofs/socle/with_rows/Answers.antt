use Rattle.std.proofs.Common.{◌≡◌, ◌+◌, ℕ, length, sym, ◌∙◌, ap, subst, arith, All, Vec, Global}
use Rattle.std.proofs.lemmas.List.Elements.{All-push}
use Rattle.ff_theory.specs.Vector.{IsVector, vector_of}
use Rattle.ff_lin.specs.Space.{rows_of}
use Rattle.ff_lin.proofs.Entries.{entry}
use Rattle.ff_characters.specs.Characters.{tables_of}
use Rattle.ff_frac.specs.Socle.{IsSocleRow, AreSocleRows}
use Rattle.ff_frac.proofs.SocleRows.{pushed_socle_rows}
use Rattle.ff_frac.proofs.socle.with_rows.Goals as goal

pub loop-l-preserved : goal.loop-l-preserved
loop-l-preserved g c =
    let F = g.K.Ring.elements c.args.k.now in
    let table = c.args.table.now in
    let n = length table in
    let chi = c.args.chi.now in
    let j = c.args.j in
    let l = c.loop-l.l in
    let h = c.loop-l.invariant in
    let row = c.in_ok-shifted_row.field-0 in
    let e = c.in_ok-push.ensures.items in
    let own : IsSocleRow F n (tables_of table) (vector_of F chi j) j l (vector_of F row.items) =
    subst (λ s. IsSocleRow F n (tables_of table) s j l (vector_of F row.items))
    (sym (entry F chi j (omega (arith, c.requires.row, c.requires.chi.len))))
    c.in_ok-shifted_row.ensures.value in
    record {
      vectors = subst (All (λ (v : Vec ℕ Global). IsVector F n v.items)) (sym e)
          (All-push (λ (v : Vec ℕ Global). IsVector F n v.items) c.loop-l.rows.items row h.vectors
          c.in_ok-shifted_row.ensures.vector);
      value = subst (λ rows. AreSocleRows F n (tables_of table) (vector_of F chi) j (l + 1)
          (rows_of rows)) (sym e) (pushed_socle_rows F n (tables_of table) (vector_of F chi) j l
          c.requires.row c.loop-l-test.true c.loop-l.rows.items row h.value own);
    }

pub returns : goal.returns
returns g c =
    let F = g.K.Ring.elements c.args.k.now in
    let h = c.loop-l.invariant in
    let n = length c.args.table.now in
    let e : c.loop-l.l ≡ n = omega (arith, c.loop-l-test.false, c.loop-l.auto.l-end) in
    record {
      vectors = h.vectors;
      value = subst (λ l. AreSocleRows F n (tables_of c.args.table.now)
          (vector_of F c.args.chi.now) c.args.j l (rows_of c.loop-l.rows.items)) e h.value;
    }
