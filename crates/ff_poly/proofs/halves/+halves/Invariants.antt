use Rattle.std.proofs.Common.{◌+◌, length}
use Rattle.ff_poly.proofs.halves.+halves.Given as goal

abbrev pub decreases-set_middle : goal.decreases-set_middle
decreases-set_middle g l = l.h + l.h

abbrev pub decreases-set_product : goal.decreases-set_product
decreases-set_product g l = length l.a.now + 1
