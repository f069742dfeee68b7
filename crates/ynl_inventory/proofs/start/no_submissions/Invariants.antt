-- Each tenant so far has no submissions.
use Rattle.std.proofs.Common.{◌≡◌, [], map}
use Rattle.std.specs.Prelude.{replicate}
use Rattle.ynl_inventory.proofs.start.no_submissions.Given as goal

abbrev pub invariant-loop-i : goal.invariant-loop-i
invariant-loop-i l = map (λ listing. listing.entries) l.tenants.items ≡ replicate l._i []
