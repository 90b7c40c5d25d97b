use Rattle.std.proofs.Common.{◌∙◌, ap, length}
use Rattle.ff_theory.specs.Poly.{polynomials}
use Rattle.ff_theory.specs.Values.{poly_of}
use Rattle.ff_theory.proofs.Poly.{polynomial_laws}
use Rattle.ff_theory.proofs.Solver.{zero_add}
use Rattle.ff_poly.proofs.ListHalves.{replicate-zero}
use Rattle.ff_poly.proofs.halves.set_padded.Goals as goal

pub returns-clause-value : goal.returns-clause-value
returns-clause-value g c =
    let K = g.K.Ring.elements c.args.k.now in
    let laws = g.met.K.Ring.laws c.args.k.now in
    let tests = g.met.K.Ring.tests c.args.k.now in
    c.add_to.ensures.value
    ∙ ap (λ t. (polynomials K.ring).add t (poly_of K c.args.a.now))
    (ap (poly_of K) (c.fill.ensures.after (λ y e. e))
    ∙ replicate-zero K.ring laws tests K.value (length c.args.out.now) c.zero.result
    c.zero.ensures.value)
    ∙ zero_add (polynomials K.ring) (polynomial_laws K.ring laws tests) (poly_of K c.args.a.now)
