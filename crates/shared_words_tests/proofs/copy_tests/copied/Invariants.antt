use Rattle.shared_words_tests.proofs.copy_tests.copied.Given as goal

abbrev pub ghosts-stored_at : goal.ghosts-stored_at
ghosts-stored_at a = record { table = a.words.now.table.shared.table_id }
