use Rattle.thread_racer.proofs.pass.race_pass.Given as goal

abbrev pub ghosts-race_on : goal.ghosts-race_on
ghosts-race_on g a = record { table = a.words.now.table.shared.table_id }
