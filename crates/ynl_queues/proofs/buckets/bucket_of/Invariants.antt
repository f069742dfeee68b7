use Rattle.std.proofs.Common.{◌≡◌, ◌<◌, take}
use Rattle.ynl_queues.specs.Buckets.{bucket_of}
use Rattle.ynl_queues.proofs.buckets.bucket_of.Given as goal

abbrev pub invariant-loop-b : goal.invariant-loop-b
invariant-loop-b l = record {
  within : l.bucket < 4096;
  so_far : l.bucket ≡ bucket_of (take l.b-index l.text);
}
