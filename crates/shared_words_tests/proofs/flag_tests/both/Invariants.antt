use Rattle.shared_words_tests.proofs.flag_tests.both.Given as goal

abbrev pub ghosts-done_at : goal.ghosts-done_at
ghosts-done_at a = record { table = a.words.now.table.shared.table_id }
