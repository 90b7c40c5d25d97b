use Rattle.std.proofs.Common.{[], ◌+◌, length, refl, sym, ap, subst, get_or}
use Rattle.ff_functions.specs.Searches.{IsPowerImage}
use Rattle.ff_functions.proofs.search.Search.advance.Goals as goal

pub returns : goal.returns
returns g c =
    let L = g.K.Ring.lawful c.args.alg.now.k in
    record {
      form = record {
        rows = c.requires.form.rows;
        trail = c.in_ok-step.ensures.form;
        numbers = c.requires.form.numbers;
      };
      held = λ p t first h. record {
        power = c.in_ok-step.ensures.exact p h.power;
        images = h.images;
        before = h.before;
        powers = λ i l. subst (λ N. IsPowerImage L c.args.alg.now.f c.args.order.now
            p c.args.frame.now.h (i + 1) N
            (h.images (length c.args.frame.now.numerators.items + i)))
            (ap (λ t. get_or t i []) (sym c.in_ok-step.ensures.passed)) (h.powers i l);
        hold = h.hold;
        form = h.form;
        numbers = h.numbers;
      };
      numbers = refl;
    }
