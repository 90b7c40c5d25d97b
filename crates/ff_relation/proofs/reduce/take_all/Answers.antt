use Rattle.std.proofs.Common.{suc, arith, subst, ◌≡◌, ◌-◌}
use Rattle.ff_relation.specs.InRing.{IsSplitBy}
use Rattle.ff_relation.proofs.reduce.take_all.Goals as goal

pub loop-t-init : goal.loop-t-init
loop-t-init g c = record {
  form = c.requires.rows;
  within = omega arith;
  exact = λ enough w b a h. h;
}

pub loop-t-preserved : goal.loop-t-preserved
loop-t-preserved g c =
    let F = g.K.Ring.elements c.args.k.now in
    let t = c.loop-t.t in
    record {
      form = c.take_level.ensures.form;
      within = omega (arith, c.loop-t.invariant.within);
      exact = λ enough w b a h. subst (λ n. IsSplitBy F c.args.s.now b a n c.take_level.new.rows)
          (let e : t ≡ suc (t - 1) = omega (arith, c.loop-t-test.true) in e)
          (c.take_level.ensures.exact (omega (arith, enough, c.loop-t.invariant.within)) w b a
          (c.loop-t.invariant.exact enough w b a h));
    }

pub returns-clause-exact : goal.returns-clause-exact
returns-clause-exact g c = λ enough w b a h.
    let F = g.K.Ring.elements c.args.k.now in
    let t = c.loop-t.t in
    c.take_level-2.ensures.exact (omega (arith, enough)) w b a
    (subst (λ n. IsSplitBy F c.args.s.now b a n c.loop-t.rows)
    (let e : suc t ≡ 1 = omega (arith, c.loop-t-test.false) in e)
    (c.loop-t.invariant.exact enough w b a h))
