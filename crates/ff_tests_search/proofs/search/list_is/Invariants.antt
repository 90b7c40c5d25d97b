use Rattle.ff_tests_search.proofs.search.list_is.Given as goal

abbrev pub ghosts-listed-L-Ledger : goal.ghosts-listed-L-Ledger
ghosts-listed-L-Ledger a = record { name = a.blank.name; parts = a.blank.parts }

abbrev pub ghosts-listed-M-Ledger : goal.ghosts-listed-M-Ledger
ghosts-listed-M-Ledger a = record { name = a.other.name; parts = a.other.parts }
