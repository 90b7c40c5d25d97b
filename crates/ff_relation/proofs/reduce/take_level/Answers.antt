use Rattle.std.proofs.Common.{◌+◌, ◌-◌, ◌*◌, ◌/◌, ◌%◌, sym, ◌∙◌, ap, arith}
use Rattle.ff_data.specs.Systems.{weight_at}
use Rattle.ff_relation.proofs.SplitLemmas.{split-no_level, level-below, level-parts}
use Rattle.ff_relation.proofs.reduce.take_level.Goals as goal

pub returns-then-t-m-clause-exact : goal.returns-then-t-m-clause-exact
returns-then-t-m-clause-exact g c = λ enough w b a h.
    let F = g.K.Ring.elements c.args.k.now in
    let L = g.K.Ring.lawful c.args.k.now in
    split-no_level F L c.args.s.now c.requires.table.weights b a c.args.t _ _
    (omega (arith, c.if-t-m.true, c.weight_of-m.ensures)) h

pub returns-then-d-n-clause-exact : goal.returns-then-d-n-clause-exact
returns-then-d-n-clause-exact g c = λ enough w b a h.
    absurd (level-below c.args.s.now.e c.args.t c.weight_of-m.result c.args.n enough c.if-d-n.true)

pub returns-clause-exact : goal.returns-clause-exact
returns-clause-exact g c = λ enough w b a h.
    let F = g.K.Ring.elements c.args.k.now in
    let L = g.K.Ring.lawful c.args.k.now in
    let s = c.args.s.now in
    let t = c.args.t in
    c.take_at.ensures.exact w b c.requires.table.weights t
    (level-parts F L s c.requires.table.weights b t
    (omega (arith, c.if-t-m.false, c.weight_of-m.ensures))
    ∙ ap (λ m. s.e * ((t - m) / s.e) + weight_at s (t % s.e)) (sym c.weight_of-m.ensures)) a h
