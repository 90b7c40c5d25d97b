use Rattle.std.proofs.Common.{◌≡◌, ◌∙◌, ap, take}
use Rattle.ff_theory.specs.Values.{poly_of}
use Rattle.ff_poly.proofs.poly.Poly.trim.Goals as goal

pub returns-clause-value : goal.returns-clause-value
returns-clause-value g c =
    let K = g.K.Ring.elements c.args.k.now in
    let e : c.truncate.new.self.items ≡ take c.significant_len-n.result c.as_slice.result.now = cc
    in
    ap (poly_of K) e ∙ c.significant_len-n.ensures.value ∙ ap (poly_of K) c.as_slice.ensures
