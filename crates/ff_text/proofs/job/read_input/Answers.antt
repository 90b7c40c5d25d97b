use Rattle.std.proofs.Common.{◌≡◌, true, false, IsTrue, length, Some, None, subst, sym, ap, ◌∙◌}
use Rattle.std.proofs.Common.{arith}
use Rattle.std.specs.List.{All}
use Rattle.ff_theory.specs.PrimeTable.{primes, is_in}
use Rattle.ff_theory.proofs.PrimeField.{above_one}
use Rattle.ff_text.specs.declared.fault.TextFault.TheVariants as fault
use Rattle.ff_text.specs.Limits.{first_fault}
use Rattle.ff_text.specs.Ratios.{AreRatios}
use Rattle.ff_text.specs.Parts.{IsReduced}
use Rattle.ff_prime.specs.Number.{number_of}
use Rattle.ff_text.proofs.Faults.{reads_derives}
use Rattle.ff_text.proofs.Answered.{entries_length, number_same, sums_of_text, ratios_length}
use Rattle.ff_text.proofs.Answered.{ratios_reduced, not_prime_first, fault_answers, no_syntax}
use Rattle.ff_text.proofs.Answered.{job_answers}
use Rattle.ff_text.proofs.Within.{equations_of}
use Rattle.ff_text.proofs.job.read_input.Goals as goal

pub check_lines-requires : goal.check_lines-requires
check_lines-requires c =
    let p = c.into_parts-number.result.0 in
    let fs = c.into_parts-number.result.1.items in
    let l = entries_length c.args.mode c.args.bytes.now c.in_ok-read.field-0 c.in_ok-read.ensures p
    fs c.into_parts-number.ensures.number c.into_parts-number.ensures.entries in
    let h = ratios_length p c.deref.result.now c.in_ok-sums.sums.items c.in_ok-sums.ensures in
    omega (arith, l.1, h, ap length c.deref.ensures.value, ap length c.deref-2.ensures.value)

pub returns-in_default-clause-text : goal.returns-in_default-clause-text
returns-in_default-clause-text c = λ v d.
    let w = number_same c.args.mode c.args.bytes.now c.in_ok-read.field-0 c.in_ok-read.ensures
    c.into_parts-number.result.0 c.into_parts-number.result.1.items
    c.into_parts-number.ensures.number c.into_parts-number.ensures.entries v d in
    not_prime_first v (λ known. let f : false
    ≡ true = c.in_default.ensures.some.1 (subst (λ n. IsTrue (is_in n primes)) (sym w) known) in
    cc)

pub returns-in_default-clause-derived : goal.returns-in_default-clause-derived
returns-in_default-clause-derived c = λ u. reads_derives c.args.mode c.args.bytes.now
    c.in_ok-read.field-0 c.in_ok-read.ensures

pub returns-in-Err-clause-syntax : goal.returns-in-Err-clause-syntax
returns-in-Err-clause-syntax c = λ at e. no_syntax c.deref-2.result.now at
    (c.in-Err.ensures ∙ (let f : Some c.in-Err.fault ≡ Some (fault.Syntax at) = cc in f))

pub returns-in-Err-clause-text : goal.returns-in-Err-clause-text
returns-in-Err-clause-text c = λ v d.
    let p = c.into_parts-number.result.0 in
    let fs = c.into_parts-number.result.1.items in
    let known : IsTrue (is_in p primes) = subst (λ n. IsTrue (is_in n primes))
    c.in-Some.ensures.number c.in-Some.prime.known in
    let h = subst (λ xs. AreRatios p xs c.deref-2.result.now) c.deref.ensures.value
    (subst (AreRatios p c.deref.result.now) (sym c.deref-2.ensures.value) c.in_ok-sums.ensures)
    in
    let w = number_same c.args.mode c.args.bytes.now c.in_ok-read.field-0 c.in_ok-read.ensures p fs
    c.into_parts-number.ensures.number c.into_parts-number.ensures.entries v d in
    let z = sums_of_text c.args.mode c.args.bytes.now c.in_ok-read.field-0 c.in_ok-read.ensures p fs
    c.into_parts-number.ensures.number c.into_parts-number.ensures.entries v d known
    c.deref-2.result.now h in
    fault_answers v p c.deref-2.result.now c.in-Err.fault w known z c.in-Err.ensures

pub returns-in-Err-clause-derived : goal.returns-in-Err-clause-derived
returns-in-Err-clause-derived c = λ u. reads_derives c.args.mode c.args.bytes.now
    c.in_ok-read.field-0 c.in_ok-read.ensures

pub of-requires-in-Ok-clause-some : goal.of-requires-in-Ok-clause-some
of-requires-in-Ok-clause-some c =
    let p = c.into_parts-number.result.0 in
    let fs = c.into_parts-number.result.1.items in
    let l = entries_length c.args.mode c.args.bytes.now c.in_ok-read.field-0 c.in_ok-read.ensures p
    fs c.into_parts-number.ensures.number c.into_parts-number.ensures.entries in
    let h = ratios_length p c.deref.result.now c.in_ok-sums.sums.items c.in_ok-sums.ensures in
    omega (arith, l.0, h, ap length c.deref.ensures.value, ap length c.deref-in-Ok.ensures.value)

pub of-requires-in-Ok-clause-reduced : goal.of-requires-in-Ok-clause-reduced
of-requires-in-Ok-clause-reduced c =
    let p = c.into_parts-number.result.0 in
    let known : IsTrue (is_in p primes) = subst (λ n. IsTrue (is_in n primes))
    c.in-Some.ensures.number c.in-Some.prime.known in
    subst (λ n. All (IsReduced n) c.deref-in-Ok.result.now) (sym c.in-Some.ensures.number)
    (subst (All (IsReduced p)) (sym c.deref-in-Ok.ensures.value)
    (ratios_reduced p c.deref.result.now c.in_ok-sums.sums.items
    (let a = above_one p known in omega arith) c.in_ok-sums.ensures))

pub returns-clause-text : goal.returns-clause-text
returns-clause-text c = λ v d.
    let p = c.into_parts-number.result.0 in
    let fs = c.into_parts-number.result.1.items in
    let rs = c.deref-in-Ok.result.now in
    let number = c.in-Some.ensures.number in
    let known : IsTrue (is_in p primes) = subst (λ n. IsTrue (is_in n primes)) number
    c.in-Some.prime.known in
    let h = subst (λ xs. AreRatios p xs rs) c.deref.ensures.value
    (subst (AreRatios p c.deref.result.now) (sym c.deref-in-Ok.ensures.value)
    c.in_ok-sums.ensures) in
    let w = number_same c.args.mode c.args.bytes.now c.in_ok-read.field-0 c.in_ok-read.ensures p fs
    c.into_parts-number.ensures.number c.into_parts-number.ensures.entries v d in
    let z = sums_of_text c.args.mode c.args.bytes.now c.in_ok-read.field-0 c.in_ok-read.ensures p fs
    c.into_parts-number.ensures.number c.into_parts-number.ensures.entries v d known rs h in
    let l = entries_length c.args.mode c.args.bytes.now c.in_ok-read.field-0 c.in_ok-read.ensures p
    fs c.into_parts-number.ensures.number c.into_parts-number.ensures.entries in
    let none = subst (λ ys. first_fault ys ≡ None)
    (c.deref-2.ensures.value ∙ sym c.deref-in-Ok.ensures.value) c.in-Ok.ensures in
    job_answers v c.in-Some.prime.number rs c.in_ok-of-in-Ok.field-0 (number ∙ w)
    (ap number_of c.in_ok-of-in-Ok.ensures.prime) c.in-Some.prime.known z
    (omega (arith, l.0, ratios_length p fs rs h)) none c.in_ok-of-in-Ok.ensures.first
    c.in_ok-of-in-Ok.ensures.second c.in_ok-of-in-Ok.ensures.elems

pub returns-clause-equations : goal.returns-clause-equations
returns-clause-equations c =
    let d = reads_derives c.args.mode c.args.bytes.now c.in_ok-read.field-0 c.in_ok-read.ensures in
    equations_of d.0 c.in_ok-of-in-Ok.field-0 (returns-clause-text c d.0 d.1)

pub returns-clause-derived : goal.returns-clause-derived
returns-clause-derived c = λ u. reads_derives c.args.mode c.args.bytes.now c.in_ok-read.field-0
    c.in_ok-read.ensures
