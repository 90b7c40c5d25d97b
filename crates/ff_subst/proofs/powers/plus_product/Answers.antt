use Rattle.std.proofs.Common.{◌≡◌, get_or, [], sym, ◌∙◌, ap, subst, arith}
use Rattle.std.proofs.lemmas.List.{get_or_default}
use Rattle.ff_theory.specs.Poly.{polynomials}
use Rattle.ff_theory.specs.Values.{poly_of, plane_of, IsPoly}
use Rattle.ff_theory.specs.Planes.{row_of}
use Rattle.ff_theory.proofs.Results.{ok_map}
use Rattle.ff_subst.proofs.HornerLemmas.{no-product}
use Rattle.ff_subst.proofs.powers.plus_product.Goals as goal

pub scale-requires : goal.scale-requires
scale-requires g c =
    let K = g.K.Ring.elements c.args.k.now in
    let L = g.K.Ring.lawful c.args.k.now in
    record {
      c = subst (IsPoly K) (sym c.index-rows-j.is)
          (c.requires.rows c.args.j c.index-rows-j.result (omega arith));
      a = c.requires.plane;
    }

pub returns-then-j-rows-clause-value : goal.returns-then-j-rows-clause-value
returns-then-j-rows-clause-value g c =
    let K = g.K.Ring.elements c.args.k.now in
    let L = g.K.Ring.lawful c.args.k.now in
    no-product K L c.args.rows.now c.args.j (plane_of K c.args.sum) (plane_of K c.args.plane.now)
    (omega arith)

pub returns-clause-value : goal.returns-clause-value
returns-clause-value g c =
    let K = g.K.Ring.elements c.args.k.now in
    let L = g.K.Ring.lawful c.args.k.now in
    let P = polynomials (polynomials K.ring) in
    let N = plane_of K c.args.plane.now in
    let row = c.index-rows-j.result in
    ok_map (λ r. plane_of K r ≡ P.add (plane_of K c.args.sum) (plane_of K c.in_ok-term.term))
    (λ r. plane_of K r ≡ P.add (plane_of K c.args.sum)
    (P.mul (row_of K.ring (poly_of K (get_or c.args.rows.now c.args.j []))) N)) c.add.result
    (λ r h. h ∙ ap (P.add (plane_of K c.args.sum))
    (c.in_ok-term.ensures.value ∙ ap (λ p. P.mul (row_of K.ring (poly_of K p)) N)
    (c.index-rows-j.is ∙ get_or_default c.args.rows.now c.args.j row [] (omega arith))))
    c.add.ensures.value
