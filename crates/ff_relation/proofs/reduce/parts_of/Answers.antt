use Rattle.std.proofs.Common.{length, ◌∙◌, ap, arith}
use Rattle.ff_lin.specs.Space.{rows_of}
use Rattle.ff_ring.specs.Entries.{entry_at}
use Rattle.ff_relation.proofs.SplitLemmas.{split-same}
use Rattle.ff_relation.proofs.reduce.parts_of.Goals as goal

pub returns-clause-exact : goal.returns-clause-exact
returns-clause-exact g c = λ rank w b a t h.
    let F = g.K.Ring.elements c.args.k.now in
    let L = g.K.Ring.lawful c.args.k.now in
    let rows = c.args.rows.now in
    split-same F L c.args.s.now rank b a t (rows_of rows.quotient.items) _
    (rows_of rows.rest.items) _
    (λ l q. c.in_ok-quotient.ensures.value l (omega (
      arith,
      q,
      ap length c.deref.ensures.value,
      c.requires.rows.quotient.count,
    )) ∙ ap (λ t. entry_at F (rows_of t) l) c.deref.ensures.value)
    (λ l q. c.in_ok-rest.ensures.value l (omega (
      arith,
      q,
      ap length c.deref-2.ensures.value,
      c.requires.rows.rest.count,
    )) ∙ ap (λ t. entry_at F (rows_of t) l) c.deref-2.ensures.value) h
