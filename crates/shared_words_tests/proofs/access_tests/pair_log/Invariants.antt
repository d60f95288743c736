use Rattle.shared_words_tests.proofs.access_tests.pair_log.Given as goal

abbrev pub ghosts-pair : goal.ghosts-pair
ghosts-pair a = record { table = a.words.now.table.shared.table_id }
