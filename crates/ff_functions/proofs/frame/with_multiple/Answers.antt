use Rattle.std.proofs.Common.{ℕ, refl, sym, subst, Vec, Global}
use Rattle.std.proofs.lemmas.List.Elements.{All-push}
use Rattle.ff_theory.specs.Vector.{IsVector}
use Rattle.ff_lin.specs.Space.{AreVectors}
use Rattle.ff_functions.specs.Elements.{IsGrown}
use Rattle.ff_functions.proofs.frame.with_multiple.Goals as goal

pub returns : goal.returns
returns g c =
    let F = g.K.Ring.elements c.args.k.now in
    record {
      vectors = subst (AreVectors F c.args.len) (sym c.in_ok-push.ensures.items)
          (All-push (λ (v : Vec ℕ Global). IsVector F c.args.len v.items) c.args.list.items
          c.in_ok-v.v c.requires.list c.in_ok-v.ensures.vector);
      grown = subst (λ b. IsGrown F c.args.d.now c.args.at b c.args.list.items
          c.push.new.self.items) (sym c.if-not-wanted.false)
          (c.in_ok-v.v, (c.in_ok-push.ensures.items, c.in_ok-v.ensures.value));
    }

pub returns-then-not-wanted : goal.returns-then-not-wanted
returns-then-not-wanted g c = record {
  vectors = c.requires.list;
  grown = subst (λ b. IsGrown (g.K.Ring.elements c.args.k.now) c.args.d.now c.args.at b
      c.args.list.items c.args.list.items) (sym c.if-not-wanted.true) refl;
}
