use Rattle.std.proofs.Common.{◌≡◌, ◌≤◌, ◌<◌, ℕ, Bool, Vec, [], vec_len}
use Rattle.std.specs.Prelude.{slice_index_or, if◌then◌else◌}
use Rattle.std.specs.declared.alloc.Global.{Global}
use Rattle.ynl_resource.specs.declared.names.Name.{Name}
use Rattle.ynl_workers.specs.session.Handed.{AreNotHalted}
use Rattle.ynl_workers.proofs.session.handing.leave_out.Given as goal

-- up to here the nodes are left out, and from here on all are as before
abbrev pub invariant-loop-k : goal.invariant-loop-k
invariant-loop-k l =
    (vec_len l.lists ≡ vec_len l.fn.lists)
    × ((j : ℕ) (list : Vec Name Global) (is : Bool) → j < l.k → (slice_index_or l.lists.items j list).items ≡ (if slice_index_or l.halted j is then [] else (slice_index_or l.fn.lists.items j list).items))
    × ((j : ℕ) (list : Vec Name Global) → l.k ≤ j → slice_index_or l.lists.items j list ≡ slice_index_or l.fn.lists.items j list)
    × (AreNotHalted l.halted → l.lists.items ≡ l.fn.lists.items)
