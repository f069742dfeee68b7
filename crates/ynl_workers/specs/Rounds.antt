-- What the workers of a round did.
use Rattle.std.specs.Prelude.{◌≡◌, ℕ, ◌≤◌, List, [], Some, slice_get, Vec, vec_capacity}
use Rattle.std.specs.declared.alloc.Global.{Global}
use Rattle.ynl_resource.specs.declared.names.Name.{Name}
use Rattle.ynl_live.specs.Seats.{Standing}
use Rattle.ynl_workers.specs.declared.working.WorkerEnd.{WorkerEnd}
use Rattle.ynl_workers.specs.Works.{IsWork, AreCallsOn}

-- a worker that has not begun, with memory for so many receipts
pub record IsReady (most : ℕ) (worker : WorkerEnd) : Type 0 where
  pub empty : worker.receipts.items ≡ []
  pub reserved : most ≤ vec_capacity worker.receipts

-- what a worker tells that was given this seat and these nodes: its receipts are as many as the calls on its seat, their places
-- rise, from where the seat stood to where it stands then, and they are those of its turns
pub record IsWorkOf (free : Type 0) (seat : Standing) (nodes : List Name) (worker : WorkerEnd) : Type 0 where
  pub calls : AreCallsOn seat worker.seat worker.receipts.items
  pub work : IsWork free nodes worker.receipts.items worker.end

-- what each worker did, on its seat and over its nodes
abbrev pub IsRound : Type 0 → List Standing → List (Vec Name Global) → List WorkerEnd → Type 0
IsRound free seats lists workers =
    (k : ℕ) (seat : Standing) (nodes : Vec Name Global) (worker : WorkerEnd) → slice_get seats k ≡ Some seat → slice_get lists k ≡ Some nodes → slice_get workers k ≡ Some worker
    → IsWorkOf free seat nodes.items worker
