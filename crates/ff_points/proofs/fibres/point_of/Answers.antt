use Rattle.std.proofs.Common.{ℕ, refl, sym, ◌∙◌, ap, subst, arith}
use Rattle.std.proofs.lemmas.List.{length-map}
use Rattle.std.specs.Global.{Vec}
use Rattle.ff_theory.specs.Span.{product}
use Rattle.ff_theory.specs.Vector.{IsVector, vector_of}
use Rattle.ff_points.proofs.fibres.point_of.Goals as goal

pub products-requires : goal.products-requires
products-requires g c = record { vectors = c.requires.basis; chi = c.requires.chi }

pub dot-requires : goal.dot-requires
dot-requires g c = record {
  v = c.requires.theta.each;
  w = record { each = c.requires.chi; len = sym c.requires.theta.len };
}

pub returns : goal.returns
returns g c =
    let F = g.K.Ring.elements c.args.k.now in
    record {
      form = record {
        chart = refl;
        a = c.requires.a;
        theta = c.dot.ensures.element;
        values = subst (λ n. IsVector F n c.in_ok-items.items.items) c.requires.count
            c.in_ok-items.ensures.vector;
        at_infinity = c.requires.at_infinity;
      };
      a_is = refl;
      theta_is = c.dot.ensures.value ∙ ap (λ n. product F.ring n (vector_of F c.args.theta.now)
          (vector_of F c.args.chi.now)) c.requires.theta.len;
      values_are = λ i l. c.in_ok-items.ensures.value i
          (omega (arith, l, length-map c.args.basis.now (λ (r : Vec ℕ). r.items)));
    }
