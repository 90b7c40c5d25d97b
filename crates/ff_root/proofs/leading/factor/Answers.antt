use Rattle.std.proofs.Common.{◌∙◌, ap, get_or}
use Rattle.ff_theory.specs.Values.{leading}
use Rattle.ff_data.specs.declared.system.System.{System}
use Rattle.ff_root.proofs.LeadLemmas.{table-read}
use Rattle.ff_root.proofs.leading.factor.Goals as goal

pub returns-clause-value : goal.returns-clause-value
returns-clause-value g c =
    let F = g.K.Ring.elements c.args.k.now in
    let L = g.K.Ring.lawful c.args.k.now in
    let s = c.args.s.now in
    let i = c.args.i in
    let j = c.args.j in
    let l = c.args.l in
    let a = c.index.result.now in
    let b = c.index-2.result.now in
    let p = c.index-3.result.now in
    c.leading_coefficient.ensures.value
    ∙ ap (leading F) (table-read F L s c.requires.table a b p i j l
    c.requires.i c.requires.j c.requires.l
    (c.index.ensures ∙ ap (λ (t : System). get_or t.table i a) c.s.view_is)
    (c.index-2.ensures ∙ ap (λ t. get_or t j b) c.behind-s.view_is)
    (c.index-3.ensures ∙ ap (λ t. get_or t l p) c.behind-index.view_is))
