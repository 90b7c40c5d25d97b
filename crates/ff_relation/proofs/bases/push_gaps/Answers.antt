use Rattle.std.proofs.Common.{◌+◌, ◌<◌, [], ◌∷◌, refl, sym, subst}
use Rattle.std.proofs.Common.{All}
use Rattle.std.specs.List.{Contains}
use Rattle.std.proofs.lemmas.List.Elements.{All-push, Contains-append_left}
use Rattle.ff_relation.specs.declared.bases.Gap.{Gap}
use Rattle.ff_relation.proofs.BaseLemmas.{gaps-push}
use Rattle.ff_relation.proofs.bases.push_gaps.Goals as goal

pub loop-degree-preserved : goal.loop-degree-preserved
loop-degree-preserved c =
    let old = c.loop-degree.gaps.items in
    let x : Gap = record { class = c.args.class; degree = c.loop-degree.degree } in
    let e = c.in_ok-push.ensures.items in
    record {
      form = subst (All (λ (g : Gap). g.class < c.args.e)) (sym e)
          (All-push (λ (g : Gap). g.class < c.args.e) old x c.loop-degree.invariant.form
          c.requires.class);
      kept = λ h k. subst (λ t. Contains t h) (sym e)
          (Contains-append_left old (x ∷ []) h (c.loop-degree.invariant.kept h k));
      new = gaps-push old c.push.new.self.items c.args.class c.loop-degree.degree
          (c.loop-degree.degree + 1) x e refl refl c.loop-degree.invariant.new;
    }
