use Rattle.std.proofs.Common.{◌+◌, ◌*◌, ◌%◌, get_or}
use Rattle.std.proofs.Common.{◌∙◌, ap}
use Rattle.std.proofs.Math.Nat.{mod-mod}
use Rattle.std.proofs.lemmas.List.Elements.{All-from_get_or}
use Rattle.ff_theory.specs.Ring.{IsElement}
use Rattle.ff_theory.specs.PrimeTable.{prime_elements}
use Rattle.ff_theory.proofs.Prime.{prime_ring_laws, prime_tests}
use Rattle.ff_prime.proofs.Kernels.{each-entry, poly-accumulated}
use Rattle.ff_prime.proofs.prime.PrimeRing.add_scaled.Goals as goal

pub returns-clause-each : goal.returns-clause-each
returns-clause-each c =
    let p = c.args.self.now.number in
    let at = c.args.at in
    let b = c.args.b.now in
    let old = c.args.sum.now in
    let new = c.add_multiple_at.new.sum in
    let e = c.add_multiple_at.ensures in
    All-from_get_or (IsElement (prime_elements p)) new 0
    (each-entry p c.args.self.now.known old new b at c.args.c e.len
    e.before e.entries e.after (λ i l. c.requires.sum i 0 l))

pub returns-clause-value : goal.returns-clause-value
returns-clause-value c =
    let k = c.args.self.now in
    let p = k.number in
    let old = c.args.sum.now in
    let new = c.add_multiple_at.new.sum in
    let e = c.add_multiple_at.ensures in
    poly-accumulated p (prime_ring_laws p k.known) (prime_tests p) new old c.args.b.now c.args.at
    c.args.c e.len c.requires.room e.before
    (λ j l. ap (λ n. n % p) (e.entries j l)
    ∙ mod-mod (get_or old (c.args.at + j) 0 + c.args.c * get_or c.args.b.now j 0) p) e.after
