use Rattle.shared_words_tests.proofs.thread_tests.added.Given as goal

abbrev pub ghosts-add_by_two : goal.ghosts-add_by_two
ghosts-add_by_two g a = record { table = a.words.now.table.shared.table_id }
