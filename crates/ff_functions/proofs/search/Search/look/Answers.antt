use Rattle.std.proofs.Common.{◌≡◌, ◌+◌, ◌-◌, ◌*◌, pred, length, refl, sym, ◌∙◌, ap, subst}
use Rattle.std.proofs.Common.{arith}
use Rattle.ff_theory.proofs.Results.{ok_map}
use Rattle.ff_theory.specs.Span.{unit_at}
use Rattle.ff_theory.specs.Vector.{IsVector}
use Rattle.ff_data.specs.Orders.{y_degree}
use Rattle.ff_functions.specs.Searches.{HasTrailForm, HoldSearch, HoldDecided}
use Rattle.ff_functions.proofs.SearchLemmas.{search_same}
use Rattle.ff_functions.proofs.search.Search.look.Goals as goal

pub image-requires : goal.image-requires
image-requires g c =
    let L = g.K.Ring.lawful c.args.alg.now.k in
    let j = c.args.j in
    let e : pred j ≡ j - 1 = omega arith in
    record {
      order = c.requires.order;
      frame = c.requires.frame;
      form = subst (λ m. HasTrailForm L c.args.alg.now.f c.args.order.now j m c.args.self.trail) e
          c.requires.form.trail;
      room = c.requires.room;
    }

pub with_image-requires : goal.with_image-requires
with_image-requires g c =
    let F = g.K.Ring.elements c.args.alg.now.k in
    let L = g.K.Ring.lawful c.args.alg.now.k in
    let f = c.args.alg.now.f in
    let j = c.args.j in
    let frame = c.args.frame.now in
    let image = c.in_ok-image in
    let d : length frame.numerators.items ≡ c.len-c.result =
    omega (arith, c.len-c.ensures) in
    let e : c.len-c.result + c.len.result + 1 ≡ c.len-c.result + j =
    omega (arith, c.len.ensures, c.requires.form.trail.count, c.requires.positive) in
    record {
      positive = c.requires.positive;
      form = search_same L f c.args.order.now c.args.self (y_degree L f * frame.h)
          (length image.image.items) (length frame.numerators.items) c.len-c.result j (pred j)
          (pred j) (sym image.ensures.vector.len) d refl c.requires.form;
      image = image.ensures.vector.each;
      origin = subst (λ n. IsVector F n c.in_ok-origin.origin.items) e
          c.in_ok-origin.ensures.vector;
      unit = λ i. c.in_ok-origin.ensures.value i
          ∙ ap (λ n. unit_at F.ring n i)
          (omega (arith, c.len.ensures, c.requires.form.trail.count));
    }

pub returns : goal.returns
returns g c =
    let L = g.K.Ring.lawful c.args.alg.now.k in
    let f = c.args.alg.now.f in
    let o = c.args.order.now in
    let j = c.args.j in
    let frame = c.args.frame.now in
    let image = c.in_ok-image in
    let d : c.len-c.result ≡ length frame.numerators.items =
    omega (arith, c.len-c.ensures) in
    record {
      form = ok_map _ _ c.with_image.result
          (λ r h. search_same L f o r.0 (length image.image.items)
          (y_degree L f * frame.h) c.len-c.result (length frame.numerators.items) j j j
          image.ensures.vector.len d refl h) c.with_image.ensures.form;
      held = ok_map _ _ c.with_image.result
          (λ r held p t first. subst (λ n. HoldSearch L f o p frame.h n j (pred j) t first
          c.args.self → HoldDecided L f o p frame.h n j t first r.0 r.1) d
          (λ h. held p frame.h (image.ensures.value p h.power) t first h))
          c.with_image.ensures.held;
    }
