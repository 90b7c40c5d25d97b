use Rattle.std.proofs.Common.{ℕ, length, map, Vec, Global}
use Rattle.std.proofs.lemmas.List.{length-map}
use Rattle.ff_lin.specs.Space.{HasExactly, IsOrthogonal}
use Rattle.ff_lin.specs.Kernel.{IsSolvedBy}
use Rattle.ff_lin.proofs.Relations.{kernel_code}
use Rattle.ff_theory.proofs.Results.{ok_map}
use Rattle.ff_lin.proofs.Space.kernel.Goals as goal

pub returns-clause-exact : goal.returns-clause-exact
returns-clause-exact g c =
    let K = g.K.Ring.elements c.args.k.now in
    let items : Vec ℕ Global → _ = λ v. v.items in
    let rows = map items c.args.rows.now in
    let s = c.in_ok-equations.equations in
    ok_map (IsSolvedBy K s) (λ t. HasExactly K t (IsOrthogonal K c.args.n rows)) c.solutions.result
    (kernel_code K (g.met.K.Ring.laws c.args.k.now) s c.args.n (length c.args.rows.now) rows
    c.in_ok-equations.ensures.space.len (length-map c.args.rows.now items)
    c.in_ok-equations.ensures.same)
    c.solutions.ensures.exact
