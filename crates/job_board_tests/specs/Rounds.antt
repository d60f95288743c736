-- What goes into a round, and what is returned.
use Rattle.std.specs.Prelude.{◌≡◌, ℕ, ◌≤◌, [], length}
use Rattle.job_board.specs.declared.board.Board.{Board}
use Rattle.job_board.specs.Passes.{AreWorkersOf, IsCollectorOf, IsPublisherOf, IsReceiptOf, published}
use Rattle.stop_word.specs.declared.stop_word.StopWord.{StopWord}
use Rattle.stop_word.specs.Seats.{IsStopperOf}
use Rattle.job_board_tests.specs.declared.crew.Crew.{Crew}
use Rattle.job_board_tests.specs.declared.crew.Finished.{Finished}
use Rattle.job_board_tests.specs.Crews.{ArePasses}

module _ {J V : Type 0} where
  pub record IsReady (b : Board J V) (s : StopWord) (c : Crew J V) : Type 0 where
    pub publisher : IsPublisherOf b c.publisher
    pub nothing : published c.publisher ≡ []
    pub jobs : length c.jobs.items ≤ b.limit
    pub passes : ArePasses b s 1 c.passes.items
    pub few : length c.passes.items ≤ 64
    pub collector : IsCollectorOf b c.collector
    pub stopper : IsStopperOf s c.stopper

  pub record IsFinished (b : Board J V) (n : ℕ) (f : Finished J V) : Type 0 where
    pub receipt : IsReceiptOf b f.receipt
    pub workers : AreWorkersOf b 1 f.workers.items
    pub count : length f.workers.items ≡ n
    pub collector : IsCollectorOf b f.collector
