use Rattle.std.proofs.Common.{◌≡◌, ℕ, ◌+◌, ◌*◌, ◌%◌, ◌<◌, ◌≤◌, length, get_or, take, refl, sym}
use Rattle.std.proofs.Common.{◌∙◌, ap, arith, subst, IsTrue, nat_lt}
use Rattle.std.proofs.Math.Nat.{mod-mod}
use Rattle.std.proofs.lemmas.Bool.{ltb-true}
use Rattle.std.proofs.lemmas.List.{get_or_default}
use Rattle.std.proofs.lemmas.List.Elements.{All-from_get_or}
use Rattle.ff_theory.specs.Ring.{IsElement}
use Rattle.ff_theory.specs.PrimeTable.{prime_elements}
use Rattle.ff_theory.specs.Residue.{residue}
use Rattle.ff_theory.specs.Values.{poly_of, polys_over}
use Rattle.ff_theory.specs.Monomial.{monomial}
use Rattle.ff_theory.proofs.Product.{take-suc, rows-start, rows-step, rows-end}
use Rattle.ff_theory.proofs.Prime.{prime_ring_laws, prime_tests, prime_product, prime_element}
use Rattle.ff_theory.proofs.Prime.{prime_remainder}
use Rattle.ff_prime.proofs.Kernels.{poly-remainders, poly-accumulated, accumulated-bound}
use Rattle.ff_prime.proofs.prime.PrimeRing.add_product.Goals as goal

pub loop-i-init : goal.loop-i-init
loop-i-init c =
    let k = c.args.self.now in
    let K = prime_elements k.number in
    record {
      len = refl;
      terms = omega arith;
      bound = λ j l. prime_element k.number (get_or c.args.sum.now j 0) k.known
          (c.requires.sum j 0 l);
      value = rows-start K.ring (prime_ring_laws k.number k.known) (prime_tests k.number) K.value
          (poly_of K c.args.sum.now) (poly_of K c.args.b.now) c.args.a.now;
    }

pub loop-i-preserved : goal.loop-i-preserved
loop-i-preserved c =
    let k = c.args.self.now in
    let p = k.number in
    let K = prime_elements p in
    let P = polys_over K in
    let laws = prime_ring_laws p k.known in
    let tests = prime_tests p in
    let a = c.args.a.now in
    let b = c.args.b.now in
    let i = c.loop-i.i in
    let x = get_or a i 0 in
    let old = c.loop-i.sum in
    let mid = c.make_room-terms.new.sum in
    let new = c.accumulate_at.new.sum in
    let e = c.accumulate_at.ensures in
    let room : i + length b ≤ length mid = omega
    (arith, c.requires.room, c.make_room-terms.ensures.len, c.loop-i.invariant.len) in
    let kept : poly_of K mid ≡ poly_of K old = poly-remainders p laws tests mid old
    c.make_room-terms.ensures.len c.make_room-terms.ensures.remainders in
    let added = poly-accumulated p laws tests new mid b i x e.len room e.before
    (λ j l. ap (λ n. n % p) (e.entries j l)) e.after in
    let product : (j : ℕ) → j < length b → x * get_or b j 0 ≤ 9216 = λ j l. prime_product p x
    (get_or b j 0) k.known (ltb-true x p (c.requires.a i 0 (omega arith)))
    (ltb-true (get_or b j 0) p (c.requires.b j 0 l)) in
    record {
      len = e.len ∙ c.make_room-terms.ensures.len ∙ c.loop-i.invariant.len;
      terms = omega (arith, c.make_room-terms.ensures.terms);
      bound = λ j l. let m : j < length mid = omega (arith, l, e.len) in
          omega (
            arith,
            accumulated-bound mid new b i x product e.before e.entries e.after j,
            c.make_room-terms.ensures.bound j (omega (arith, m, c.make_room-terms.ensures.len)),
          );
      value = rows-step K.ring laws tests (poly_of K c.args.sum.now) (poly_of K mid) (poly_of K new)
          (monomial K.ring (residue p x) i) (poly_of K (take i a)) (poly_of K (take (i + 1) a))
          (poly_of K b)
          added (kept ∙ c.loop-i.invariant.value)
          (take-suc K.ring laws tests K.value a i (i + 1) x (omega arith)
          (get_or_default a i 0 x (omega arith)) (omega arith));
    }

pub returns-clause-len : goal.returns-clause-len
returns-clause-len c = c.reduce.ensures.len ∙ c.loop-i.invariant.len

pub returns-clause-each : goal.returns-clause-each
returns-clause-each c =
    let k = c.args.self.now in
    let new = c.reduce.new.sum in
    All-from_get_or (IsElement (prime_elements k.number)) new 0
    (λ i l. subst (λ n. IsTrue (nat_lt n k.number))
    (sym (c.reduce.ensures.entries i (omega (arith, l, c.reduce.ensures.len))))
    (prime_remainder k.number (get_or c.loop-i.sum i 0) k.known))

pub returns-clause-value : goal.returns-clause-value
returns-clause-value c =
    let k = c.args.self.now in
    let p = k.number in
    let K = prime_elements p in
    let laws = prime_ring_laws p k.known in
    let tests = prime_tests p in
    poly-remainders p laws tests c.reduce.new.sum c.loop-i.sum c.reduce.ensures.len
    (λ i l. ap (λ n. n % p) (c.reduce.ensures.entries i l) ∙ mod-mod (get_or c.loop-i.sum i 0) p)
    ∙ rows-end K.ring laws tests K.value (poly_of K c.args.sum.now) (poly_of K c.loop-i.sum)
    (poly_of K c.args.b.now) c.args.a.now c.loop-i.i (omega arith) c.loop-i.invariant.value
