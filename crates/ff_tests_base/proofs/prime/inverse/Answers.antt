use Rattle.std.proofs.Common.{sym, ◌∙◌}
use Rattle.ff_theory.specs.Residue.{residues}
use Rattle.ff_theory.proofs.Prime.{prime_tests}
use Rattle.ff_theory.proofs.PolyMap.{not_same}
use Rattle.ff_tests_base.proofs.prime.inverse.Goals as goal

pub inv-requires-clause-nonzero : goal.inv-requires-clause-nonzero
inv-requires-clause-nonzero c =
    let p = c.args.k.now.number in
    not_same (residues p) (prime_tests p) _ _ (sym c.is_zero.ensures ∙ c.if-is_zero.false)
