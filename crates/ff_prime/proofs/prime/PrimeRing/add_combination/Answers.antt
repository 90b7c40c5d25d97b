use Rattle.std.proofs.Common.{◌≡◌, ℕ, ◌*◌, ◌%◌, ◌<◌, ◌≤◌, List, [], length, map, get_or, refl, sym}
use Rattle.std.proofs.Common.{◌∙◌, ap, arith, subst, IsTrue, nat_lt, Vec, Global}
use Rattle.std.proofs.Math.Nat.{mod-mod}
use Rattle.std.proofs.lemmas.Bool.{ltb-true}
use Rattle.std.proofs.lemmas.List.{get_or-map, length-map}
use Rattle.std.proofs.lemmas.List.Elements.{All-from_get_or}
use Rattle.ff_theory.specs.Ring.{IsElement}
use Rattle.ff_theory.specs.PrimeTable.{prime_elements}
use Rattle.ff_theory.specs.Residue.{residue}
use Rattle.ff_theory.specs.Span.{combination}
use Rattle.ff_theory.specs.Vector.{vector_of, vectors_of, IsVector}
use Rattle.ff_theory.proofs.Combination.{combination-step}
use Rattle.ff_theory.proofs.Prime.{prime_ring_laws, prime_product, prime_element, prime_remainder}
use Rattle.ff_prime.proofs.Kernels.{vector-at, vector-remainders, vector-accumulated}
use Rattle.ff_prime.proofs.prime.PrimeRing.add_combination.Goals as goal

pub loop-i-init : goal.loop-i-init
loop-i-init c =
    let k = c.args.self.now in
    record {
      len = refl;
      terms = omega arith;
      bound = λ j l. prime_element k.number (get_or c.args.sum.now j 0) k.known
          (c.requires.sum j 0 l);
      value = λ j. sym ((prime_ring_laws k.number k.known).add_zero
          (vector_of (prime_elements k.number) c.args.sum.now j));
    }

pub loop-i-preserved : goal.loop-i-preserved
loop-i-preserved c =
    let k = c.args.self.now in
    let p = k.number in
    let K = prime_elements p in
    let items : Vec ℕ Global → List ℕ = λ r. r.items in
    let rows = c.args.rows.now in
    let row = c.index-rows-i.result in
    let i = c.loop-i.i in
    let x = get_or c.args.factors.now i 0 in
    let b = c.deref.result.now in
    let factors = vector_of K c.args.factors.now in
    let w = vectors_of K (map items rows) in
    let old = vector_of K c.args.sum.now in
    let old_sum = c.loop-i.sum in
    let mid = c.make_room-terms.new.sum in
    let new = c.accumulate.new.sum in
    let vec : IsVector K (length c.args.sum.now) (items row) = subst
    (λ r. IsVector K (length c.args.sum.now) (items r)) (sym c.index-rows-i.is)
    (c.requires.rows i row (omega arith)) in
    let long : length b ≡ length mid = ap length c.deref.ensures.value ∙ vec.len
    ∙ sym (c.make_room-terms.ensures.len ∙ c.loop-i.invariant.len) in
    let product : (j : ℕ) → j < length mid → x * get_or b j 0 ≤ 9216 =
    (λ j l. prime_product p x (get_or b j 0) k.known
    (ltb-true x p (c.requires.factors.each i 0 (omega (arith, c.requires.factors.len))))
    (ltb-true (get_or b j 0) p (subst (λ t. IsTrue (nat_lt (get_or t j 0) p)) (sym
    c.deref.ensures.value) (vec.each j 0 (omega (
      arith,
      l,
      long,
      ap length
          c.deref.ensures.value,
    ))))))
    in
    record {
      len = c.accumulate.ensures.len ∙ c.make_room-terms.ensures.len ∙ c.loop-i.invariant.len;
      terms = omega (arith, c.make_room-terms.ensures.terms);
      bound = λ j l. let m : j < length mid = omega (arith, l, c.accumulate.ensures.len) in
          omega (
            arith,
            c.accumulate.ensures.entries j m,
            product j m,
            c.make_room-terms.ensures.bound j (omega (arith, m, c.make_room-terms.ensures.len)),
          );
      value = λ j. vector-accumulated p (prime_ring_laws p k.known) new mid b x
          c.accumulate.ensures.len long c.accumulate.ensures.entries j
          ∙ ap (λ t. K.add t (K.mul (residue p x) (vector_of K b j)))
          (vector-remainders p mid old_sum c.make_room-terms.ensures.len
          c.make_room-terms.ensures.remainders j ∙ c.loop-i.invariant.value j)
          ∙ ap (λ t. K.add (K.add (old j) (combination K.ring i factors w j))
          (K.mul t (vector_of K b j))) (sym (vector-at p c.args.factors.now i (omega (
            arith,
            c.requires.factors.len,
          ))))
          ∙ ap (λ t. K.add (K.add (old j) (combination K.ring i factors w j))
          (K.mul (factors i) (vector_of K t j)))
          (c.deref.ensures.value ∙ ap items c.index-rows-i.is
          ∙ sym (get_or-map items rows i row [] (omega arith)))
          ∙ combination-step K.ring (prime_ring_laws p k.known) factors w (old j) i j;
    }

pub returns-clause-vector : goal.returns-clause-vector
returns-clause-vector c =
    let k = c.args.self.now in
    let new = c.reduce.new.sum in
    record {
      each = All-from_get_or (IsElement (prime_elements k.number)) new 0
          (λ i l. subst (λ n. IsTrue (nat_lt n k.number))
          (sym (c.reduce.ensures.entries i (omega (arith, l, c.reduce.ensures.len))))
          (prime_remainder k.number (get_or c.loop-i.sum i 0) k.known));
      len = c.reduce.ensures.len ∙ c.loop-i.invariant.len;
    }

pub returns-clause-value : goal.returns-clause-value
returns-clause-value c j =
    let k = c.args.self.now in
    let K = prime_elements k.number in
    let items : Vec ℕ Global → List ℕ = λ r. r.items in
    vector-remainders k.number c.reduce.new.sum c.loop-i.sum c.reduce.ensures.len
    (λ i l. ap (λ n. n % k.number) (c.reduce.ensures.entries i l)
    ∙ mod-mod (get_or c.loop-i.sum i 0) k.number) j
    ∙ c.loop-i.invariant.value j
    ∙ ap (λ n. K.add (vector_of K c.args.sum.now j)
    (combination K.ring n (vector_of K c.args.factors.now)
    (vectors_of K (map items c.args.rows.now)) j))
    (omega (arith, length-map c.args.rows.now items))
