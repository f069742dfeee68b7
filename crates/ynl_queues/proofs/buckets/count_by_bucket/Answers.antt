use Rattle.std.proofs.Common.{refl}
use Rattle.std.proofs.lemmas.List.{get_or-replicate}
use Rattle.ynl_queues.proofs.buckets.count_by_bucket.Goals as goal

pub loop-row-init : goal.loop-row-init
loop-row-init c = record { long = refl; counted = λ k within. get_or-replicate 4096 k 0 0 within }
