use Rattle.std.proofs.Common.{◌≡◌, ℕ, take}
use Rattle.std.specs.Option.{unwrap_or}
use Rattle.std.specs.BTreeMap.{get}
use Rattle.ff_text.specs.Sums.{total, powers_cmp}
use Rattle.ff_text.proofs.sums.coefficients.Given as goal

abbrev pub invariant-loop-m : goal.invariant-loop-m
invariant-loop-m l = (i j : ℕ) → unwrap_or (get powers_cmp l.sums (i, j)) 0
    ≡ total l.p (take l.m-index l.terms) i j
