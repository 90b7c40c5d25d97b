use Rattle.ff_theory.specs.Ring.{IsElement}
use Rattle.ff_elem.proofs.RowLemmas.{pushed-each}
use Rattle.ff_elem.proofs.ZeroLemmas.{no-zeros, more-zeros}
use Rattle.ff_elem.proofs.frobenius.push_zeros.Goals as goal

pub loop-i-init : goal.loop-i-init
loop-i-init g c =
    let K = g.K.Ring.elements c.args.k.now in
    record {
      each = c.requires;
      zeros = no-zeros K.ring (g.met.K.Ring.laws c.args.k.now) (g.met.K.Ring.tests c.args.k.now)
          K.value c.args.list.now.items;
    }

pub loop-i-preserved : goal.loop-i-preserved
loop-i-preserved g c =
    let K = g.K.Ring.elements c.args.k.now in
    let e = c.in_ok-push.ensures.items in
    record {
      each = pushed-each (IsElement K) c.loop-i.list.items c.zero.result c.push.new.self.items e
          c.loop-i.invariant.each c.zero.ensures.element;
      zeros = more-zeros K.ring (g.met.K.Ring.laws c.args.k.now) (g.met.K.Ring.tests c.args.k.now)
          K.value c.args.list.now.items c.loop-i.list.items c.push.new.self.items c.zero.result
          c.loop-i._i e c.zero.ensures.value c.loop-i.invariant.zeros;
    }
