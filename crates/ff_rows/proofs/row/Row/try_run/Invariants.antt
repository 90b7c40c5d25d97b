-- The ledgers of the counters.
use Rattle.ff_rows.proofs.row.Row.try_run.Given as goal

abbrev pub ghosts-run_with_counters-L-Ledger : goal.ghosts-run_with_counters-L-Ledger
ghosts-run_with_counters-L-Ledger a = record { name = a.tests.name; parts = a.tests.parts }

abbrev pub ghosts-run_with_counters-M-Ledger : goal.ghosts-run_with_counters-M-Ledger
ghosts-run_with_counters-M-Ledger a = record { name = a.nodes.name; parts = a.nodes.parts }
