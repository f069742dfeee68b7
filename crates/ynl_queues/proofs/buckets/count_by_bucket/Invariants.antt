use Rattle.std.proofs.Common.{ℕ, ◌≡◌, ◌<◌, length, get_or, take}
use Rattle.ynl_queues.specs.Buckets.{count_in_bucket}
use Rattle.ynl_queues.proofs.buckets.count_by_bucket.Given as goal

abbrev pub invariant-loop-row : goal.invariant-loop-row
invariant-loop-row l = record {
  long : length l.counts ≡ 4096;
  counted : (k : ℕ) → k < 4096 → get_or l.counts k 0 ≡ count_in_bucket (take l.row-index l.rows) k;
}
