use Rattle.std.proofs.Common.{◌≡◌, ◌%◌, refl, take, replicate}
use Rattle.std.proofs.lemmas.List.Elements.{All-replicate, All-take}
use Rattle.ff_theory.specs.Ring.{IsElement}
use Rattle.ff_poly.proofs.ZeroLists.{grown-len, grown-all, all_zeros}
use Rattle.ff_poly.proofs.poly.Poly.zeros.Goals as goal

pub loop-i-preserved : goal.loop-i-preserved
loop-i-preserved g c =
    let K = g.K.Ring.elements c.args.k.now in
    let z = c.zero-block.result in
    let new = c.extend_from_slice.new.self.items in
    let old = c.loop-i.zeros.items in
    let e = c.in_ok-extend_from_slice.ensures.ok in
    record {
      len = grown-len new old (replicate 32 z) c.loop-i._i 32 e c.loop-i.invariant.len refl;
      each = grown-all (IsElement K) new old (replicate 32 z) e c.loop-i.invariant.each
          (All-replicate (IsElement K) 32 z c.zero-block.ensures.element);
      zeros = grown-all (λ e. K.value e ≡ K.zero) new old (replicate 32 z) e
          c.loop-i.invariant.zeros
          (All-replicate (λ e. K.value e ≡ K.zero) 32 z c.zero-block.ensures.value);
    }

pub returns-clause-each : goal.returns-clause-each
returns-clause-each g c =
    let K = g.K.Ring.elements c.args.k.now in
    let z = c.zero-block.result in
    let block = take (c.args.n % 32) (replicate 32 z) in
    grown-all (IsElement K) c.extend_from_slice-2.new.self.items c.loop-i.zeros.items block
    c.in_ok-extend_from_slice-2.ensures.ok c.loop-i.invariant.each
    (All-take (IsElement K) (c.args.n % 32) (replicate 32 z)
    (All-replicate (IsElement K) 32 z c.zero-block.ensures.element))

pub returns-clause-value : goal.returns-clause-value
returns-clause-value g c =
    let K = g.K.Ring.elements c.args.k.now in
    let z = c.zero-block.result in
    let new = c.extend_from_slice-2.new.self.items in
    let block = take (c.args.n % 32) (replicate 32 z) in
    all_zeros (g.K.Ring.lawful c.args.k.now) new
    (grown-all (λ e. K.value e ≡ K.zero) new c.loop-i.zeros.items block
    c.in_ok-extend_from_slice-2.ensures.ok c.loop-i.invariant.zeros
    (All-take (λ e. K.value e ≡ K.zero) (c.args.n % 32) (replicate 32 z)
    (All-replicate (λ e. K.value e ≡ K.zero) 32 z c.zero-block.ensures.value)))
