use Rattle.ff_alg.proofs.+pow.Given as goal

abbrev pub decreases-pow : goal.decreases-pow
decreases-pow g l = l.n
