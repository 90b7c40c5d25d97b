use Rattle.std.proofs.Common.{◌≡◌, ℕ, length, ap, ◌∙◌}
use Rattle.std.proofs.lemmas.List.{length-map}
use Rattle.std.specs.Global.{Vec}
use Rattle.ff_theory.specs.Span.{product}
use Rattle.ff_theory.specs.Vector.{vectors_of}
use Rattle.ff_theory.proofs.Results.{ok_map}
use Rattle.ff_lin.specs.Space.{rows_of}
use Rattle.ff_characters.proofs.CharacterLemmas.{eigen-exact}
use Rattle.ff_characters.proofs.eigenspaces.eigenspace.Goals as goal

pub returns-clause-exact : goal.returns-clause-exact
returns-clause-exact g c =
    let F = g.K.Ring.elements c.args.k.now in
    let n = length c.args.matrix.now in
    let m = rows_of c.args.matrix.now in
    let eqs = c.deref.result.now in
    let e : eqs ≡ c.in_ok-equations.equations.items = c.deref.ensures.value in
    let a = F.value c.args.c in
    ok_map _ _ c.meet.result (λ s h. eigen-exact F (g.met.K.Ring.laws c.args.k.now)
    (g.met.K.Ring.tests c.args.k.now) n c.args.space.now c.in_ok-whole.whole s m (rows_of eqs) a
    c.requires.space c.in_ok-whole.ensures.space
    (length-map eqs (λ (v : Vec ℕ). v.items) ∙ ap length e ∙ c.in_ok-equations.ensures.len)
    (λ v i l. ap (λ t. product F.ring n v (vectors_of F (rows_of t) i)) e
    ∙ c.in_ok-equations.ensures.value v i l)
    c.in_ok-whole.ensures.exact h) c.meet.ensures.exact
