use Rattle.std.proofs.Common.{◌≤◌, ◌+◌, length}
use Rattle.std.specs.Prelude.{vec_len}
use Rattle.job_board.specs.Passes.{IsPublisherOf, published}
use Rattle.job_board_tests.proofs.publishing.publish_all.Given as goal

abbrev pub invariant-jobs : goal.invariant-jobs
invariant-jobs g l = record {
  publisher : IsPublisherOf l.board l.publisher;
  few : length (published l.publisher) + length l.jobs.items ≤ l.board.limit;
}

abbrev pub decreases-jobs : goal.decreases-jobs
decreases-jobs g l = vec_len l.jobs
