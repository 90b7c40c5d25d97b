use Rattle.std.proofs.Common.{ℕ, map, Vec, Global}
use Rattle.ff_lin.specs.Space.{HasExactly, IsRelation}
use Rattle.ff_lin.specs.Kernel.{IsSolvedBy}
use Rattle.ff_lin.proofs.Relations.{relations_code}
use Rattle.ff_theory.proofs.Results.{ok_map}
use Rattle.ff_lin.proofs.Space.relations.Goals as goal

pub returns-clause-exact : goal.returns-clause-exact
returns-clause-exact g c =
    let K = g.K.Ring.elements c.args.k.now in
    let items : Vec ℕ Global → _ = λ v. v.items in
    let s = c.in_ok-equations.equations in
    ok_map (IsSolvedBy K s) (λ t. HasExactly K t (IsRelation K (map items c.args.images.now)))
    c.solutions.result
    (relations_code K (g.met.K.Ring.laws c.args.k.now) items s c.args.m c.args.images.now
    c.in_ok-equations.ensures.space.len c.requires.images c.in_ok-equations.ensures.same)
    c.solutions.ensures.exact
