use Rattle.std.proofs.Common.{◌≡◌, ℕ, [], length, get_or, sym, ◌∙◌, ap, subst, arith}
use Rattle.std.proofs.lemmas.List.{get_or-map}
use Rattle.std.specs.Global.{Vec}
use Rattle.ff_theory.specs.Vector.{IsVector}
use Rattle.ff_lin.specs.Space.{rows_of, AreVectors}
use Rattle.ff_points.specs.PointLists.{IsPointBy, AreWithCharacters}
use Rattle.ff_points.proofs.PointListLemmas.{point_elements, forms_elements}
use Rattle.ff_points.proofs.PointListLemmas.{by_none, by_next}
use Rattle.ff_points.proofs.fibres.insert_points.Goals as goal

pub loop-chi-init : goal.loop-chi-init
loop-chi-init g c = by_none (g.K.Ring.elements c.args.k.now) c.args.order.now c.args.a
    c.args.theta.now (rows_of c.args.basis.now) (rows_of c.args.characters.now)
    c.args.list.now.items c.requires.list c.requires.rising

pub point_of-requires : goal.point_of-requires
point_of-requires g c =
    let F = g.K.Ring.elements c.args.k.now in
    let items = λ (r : Vec ℕ). r.items in
    let n = length c.args.theta.now in
    let row : IsVector F n c.deref.result.now = subst (IsVector F n)
    (sym (c.deref.ensures.value ∙ ap items c.chi-item.is))
    (c.requires.characters c.loop-chi.chi-index c.chi-item.result c.loop-chi-test.true) in
    record {
      a = c.requires.a;
      at_infinity = c.requires.at_infinity;
      theta = record { each = c.requires.theta; len = sym row.len };
      basis = subst (λ m. AreVectors F m c.args.basis.now) (sym row.len) c.requires.basis;
      count = c.requires.count;
      chi = row.each;
    }

pub insert-requires : goal.insert-requires
insert-requires g c =
    let F = g.K.Ring.elements c.args.k.now in
    let o = c.args.order.now in
    let h = c.in_ok-p.ensures.form in
    record {
      p = point_elements F o c.in_ok-p.p h;
      list = forms_elements F o (length c.in_ok-p.p.values) h.values.len c.loop-chi.list.items
          c.loop-chi.invariant.form;
      chart = λ i d l. (c.loop-chi.invariant.form i d l).chart ∙ sym h.chart;
    }

pub loop-chi-preserved : goal.loop-chi-preserved
loop-chi-preserved g c =
    let F = g.K.Ring.elements c.args.k.now in
    let o = c.args.order.now in
    let a = c.args.a in
    let theta = c.args.theta.now in
    let basis = rows_of c.args.basis.now in
    let items = λ (r : Vec ℕ). r.items in
    let vs = c.args.characters.now in
    let i = c.loop-chi.chi-index in
    let h = c.loop-chi.invariant in
    let p = c.in_ok-p.p in
    let old = c.loop-chi.list.items in
    let new = c.insert.new.list.items in
    let same : c.deref.result.now ≡ get_or (rows_of vs) i [] =
    c.deref.ensures.value ∙ ap items c.chi-item.is
    ∙ sym (get_or-map items vs i c.chi-item.result [] c.loop-chi-test.true) in
    by_next F o a theta basis (rows_of vs) i c.args.list.now.items old new p h
    (subst (λ r. IsPointBy F o a theta basis r p) same c.in_ok-p.ensures) c.in_ok-insert.ensures

pub returns : goal.returns
returns g c =
    let F = g.K.Ring.elements c.args.k.now in
    let e : c.loop-chi.chi-index ≡ length c.args.characters.now =
    omega (arith, c.loop-chi-test.false, c.loop-chi.auto.chi-index-end) in
    subst (λ m. AreWithCharacters F c.args.order.now c.args.a c.args.theta.now
    (rows_of c.args.basis.now) (rows_of c.args.characters.now) m c.args.list.now.items
    c.loop-chi.list.items) e c.loop-chi.invariant
