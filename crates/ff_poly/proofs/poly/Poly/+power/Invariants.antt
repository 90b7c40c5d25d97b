use Rattle.ff_poly.proofs.poly.Poly.+power.Given as goal

abbrev pub decreases-power : goal.decreases-power
decreases-power g l = l.n
