use Rattle.job_board.proofs.board.Board.new.Given as goal

abbrev pub ghosts-sized : goal.ghosts-sized
ghosts-sized g a = record { jobs = a.limit; workers = a.workers }
