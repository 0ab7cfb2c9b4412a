use Rattle.job_board.proofs.board.Board.split.Given as goal

abbrev pub ghosts-split_token : goal.ghosts-split_token
ghosts-split_token g a = record { part = a.part }
