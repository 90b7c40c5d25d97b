use Rattle.std.proofs.Common.{◌≡◌, ℕ, subst, sym, arith, All}
use Rattle.std.proofs.lemmas.List.Elements.{All-push}
use Rattle.ff_theory.specs.Ring.{IsElement}
use Rattle.ff_theory.specs.Span.{unit_at}
use Rattle.ff_theory.specs.Vector.{vector_of}
use Rattle.ff_functions.proofs.HeldImages.{unit_push}
use Rattle.ff_functions.proofs.frame.unit.Goals as goal

pub returns : goal.returns
returns g c =
    let F = g.K.Ring.elements c.args.k.now in
    let z = c.in_ok-unit.ensures in
    record {
      vector = record {
        each = subst (All (IsElement F)) (sym c.in_ok-push.ensures.items)
            (All-push (IsElement F) c.in_ok-unit.unit.items c.one.result z.vector.each
            c.one.ensures.element);
        len = omega (arith, c.in_ok-push.ensures.len, z.vector.len);
      };
      value = subst (λ t. (i : ℕ) → vector_of F t i ≡ unit_at F.ring c.args.n i)
          (sym c.in_ok-push.ensures.items)
          (unit_push F (g.K.Ring.lawful c.args.k.now) c.in_ok-unit.unit.items c.one.result c.args.n
          z.vector.len z.value c.one.ensures.value);
    }
