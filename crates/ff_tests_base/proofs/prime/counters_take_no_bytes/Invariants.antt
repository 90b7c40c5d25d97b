-- The ledger of the counter.
use Rattle.ff_tests_base.proofs.prime.counters_take_no_bytes.Given as goal

abbrev pub ghosts-bytes_of_counter : goal.ghosts-bytes_of_counter
ghosts-bytes_of_counter g a = record { name = a.blank.name; parts = a.blank.parts }
