use Rattle.std.proofs.Common.{◌++◌, ◌∙◌, ap, ap₂}
use Rattle.ff_elem.specs.Key.{poly_key, rows_key}
use Rattle.ff_elem.proofs.algebra.Alg.key.Goals as goal

pub returns : goal.returns
returns g c =
    let K = g.K.Ring.elements c.args.self.now.k in
    c.in_ok-push_rows.ensures ∙ ap₂ (λ s t. s ++ rows_key K t) (c.in_ok-push_poly.ensures ∙ ap (λ t.
    t ++ poly_key K c.args.a.now.den) c.new-key.ensures.items) c.rows.ensures
