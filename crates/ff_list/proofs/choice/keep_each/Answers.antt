use Rattle.std.proofs.Common.{arith}
use Rattle.ff_forms.specs.Forms.{HasCandidateForm}
use Rattle.ff_list.proofs.Popped.{popped, left}
use Rattle.ff_list.proofs.choice.keep_each.Goals as goal

pub loop-c-init : goal.loop-c-init
loop-c-init g c = record {
  rest = c.requires.candidates;
  list = c.requires.list;
  tests = omega arith;
}

pub keep-requires : goal.keep-requires
keep-requires g c =
    let L = g.K.Ring.lawful c.args.alg2.now.k in
    record {
      field = c.requires.field;
      systems = c.requires.systems;
      candidate = popped (HasCandidateForm L c.args.alg2.now.f c.args.s2.now) c.loop-c.rest.items
          c.pop.new.self.items c.in-Some.c c.loop-c.invariant.rest c.in-Some.ensures.items;
      list = c.loop-c.invariant.list;
    }

pub loop-c-preserved : goal.loop-c-preserved
loop-c-preserved g c =
    let L = g.K.Ring.lawful c.args.alg2.now.k in
    record {
      rest = left (HasCandidateForm L c.args.alg2.now.f c.args.s2.now) c.loop-c.rest.items
          c.pop.new.self.items c.in-Some.c c.loop-c.invariant.rest c.in-Some.ensures.items;
      list = c.in_ok-keep.ensures.list;
      tests = omega (arith, c.loop-c.invariant.tests, c.in_ok-keep.ensures.tests);
    }

pub returns : goal.returns
returns g c = record { list = c.loop-c.invariant.list; tests = c.loop-c.invariant.tests }
