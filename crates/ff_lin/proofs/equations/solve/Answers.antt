use Rattle.std.proofs.Common.{ℕ, map, Vec, Global}
use Rattle.std.specs.Option.{MatchOption}
use Rattle.ff_theory.specs.Vector.{vector_of}
use Rattle.ff_lin.specs.Space.{IsSolution}
use Rattle.ff_lin.specs.Kernel.{BeginsLater, IsTailOfFirst}
use Rattle.ff_theory.proofs.Results.{ok_map}
use Rattle.ff_lin.proofs.Augmented.{solve_code}
use Rattle.ff_lin.proofs.equations.solve.Goals as goal

pub returns-clause-answer : goal.returns-clause-answer
returns-clause-answer g c =
    let K = g.K.Ring.elements c.args.k.now in
    let items : Vec ℕ Global → _ = λ v. v.items in
    let t = c.in_ok-relations.relations in
    let cols = map items c.args.cols.now in
    ok_map (λ o. MatchOption o (BeginsLater t) (λ v. IsTailOfFirst t (items v)))
    (λ o. MatchOption o ((v : ℕ → K.carrier) → ¬ (IsSolution K cols c.args.rhs.now v))
    (λ v. IsSolution K cols c.args.rhs.now (vector_of K (items v)))) c.tail_of_first.result
    (solve_code K (g.met.K.Ring.laws c.args.k.now) (g.met.K.Field.is_field c.args.k.now) items t
    c.in_ok-images.images.items c.deref.result.now c.args.cols.now c.args.rhs.now
    c.in_ok-relations.ensures.space.space c.deref.ensures.value c.in_ok-images.ensures.len
    c.in_ok-relations.ensures.space.len c.in_ok-images.ensures.value
    c.in_ok-relations.ensures.exact)
    c.tail_of_first.ensures
