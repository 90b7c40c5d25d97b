-- The ledger of the counter.
use Rattle.ff_tests.proofs.subst.inverse.Given as goal

abbrev pub ghosts-inverse_counted : goal.ghosts-inverse_counted
ghosts-inverse_counted a = record { name = a.blank.name; parts = a.blank.parts }
