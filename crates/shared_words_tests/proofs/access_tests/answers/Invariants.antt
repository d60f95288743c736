use Rattle.shared_words_tests.proofs.access_tests.answers.Given as goal

abbrev pub ghosts-taken : goal.ghosts-taken
ghosts-taken a = record { table = a.words.now.table.shared.table_id }
