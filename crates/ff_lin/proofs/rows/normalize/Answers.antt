use Rattle.std.proofs.Common.{sym, ◌∙◌, ap}
use Rattle.std.proofs.lemmas.List.{with_items_is}
use Rattle.ff_theory.specs.Vector.{vector_of}
use Rattle.ff_lin.proofs.Entries.{entry_read}
use Rattle.ff_lin.proofs.rows.normalize.Goals as goal

pub inv-c-requires-clause-nonzero : goal.inv-c-requires-clause-nonzero
inv-c-requires-clause-nonzero g c e =
    let K = g.K.Ring.elements c.args.k.now in
    c.requires.nonzero (entry_read K c.args.v.items c.args.p c.index.result.now c.requires.index
    c.index.ensures ∙ e)

pub returns-clause-value : goal.returns-clause-value
returns-clause-value g c j =
    let K = g.K.Ring.elements c.args.k.now in
    ap (λ t. vector_of K t j) (with_items_is c.args.v c.scale.new.v (c.scale.ensures.vector.len
    ∙ c.deref_mut.ensures.len))
    ∙ c.scale.ensures.value j
    ∙ ap (λ t. K.mul (K.value c.inv-c.result) (vector_of K t j)) c.deref_mut.ensures.value
    ∙ ap (λ t. K.mul t (vector_of K c.args.v.items j))
    (c.inv-c.ensures.value ∙ ap K.inverse (sym (entry_read K c.args.v.items c.args.p
    c.index.result.now c.requires.index c.index.ensures)))
