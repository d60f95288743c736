use Rattle.shared_words_tests.proofs.hart_tests.both.Given as goal

abbrev pub ghosts-run_at : goal.ghosts-run_at
ghosts-run_at a = record { table = a.words.now.table.shared.table_id }
