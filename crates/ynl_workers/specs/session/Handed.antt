-- What rounds of workers hand in.
use Rattle.std.specs.Prelude.{◌≡◌, ℕ, ◌*◌, ◌≤◌, ◌<◌, Bool, true, false, ◌||◌, if◌then◌else◌, List, [], ◌++◌, All, count_by, length, slice_index_or, Option, Some, option_and_then, IsTrue, Vec}
use Rattle.std.specs.List.{Any}
use Rattle.std.specs.declared.alloc.Global.{Global}
use Rattle.ynl_resource.specs.declared.names.Name.{Name}
use Rattle.ynl_resource.specs.Names.{same_name}
use Rattle.ynl_model.specs.declared.events.Event.{Event}
use Rattle.ynl_model.specs.declared.events.Event.TheVariants.{Propose, Commit}
use Rattle.ynl_model.specs.declared.proposals.Proposal.{Proposal}
use Rattle.ynl_model.specs.declared.entries.Entry.{Entry}
use Rattle.ynl_journal.specs.Same.{same_proposal}
use Rattle.ynl_live.specs.declared.receipts.Receipt.{Receipt}
use Rattle.ynl_live.specs.Receipts.{all_receipts, entry_of}
use Rattle.ynl_workers.specs.declared.working.End.{End}
use Rattle.ynl_workers.specs.declared.working.End.TheVariants.{Behind, Halted}
use Rattle.ynl_workers.specs.declared.working.WorkerEnd.{WorkerEnd}
use Rattle.ynl_workers.specs.Turns.{proposal_in}
use Rattle.ynl_workers.specs.session.Dealt.{times_in}

-- the events that workers call
abbrev pub is_workers : Event → Bool
is_workers (Propose node) = true
is_workers (Commit proposal) = true
is_workers _ = false

-- a propose on this node
abbrev pub asks : Name → Event → Bool
asks node (Propose other) = same_name other node
asks node _ = false

-- a commit of this proposal
abbrev pub commits : Proposal → Event → Bool
commits proposal (Commit other) = same_proposal other proposal
commits proposal _ = false

-- a propose that was answered this proposal
abbrev pub answered_in : Proposal → Event → Option Proposal → Bool
answered_in proposal (Propose node) (Some found) = same_proposal found proposal
answered_in proposal _ _ = false

-- an entry of a propose that was answered this proposal
abbrev pub answers : Proposal → Entry → Bool
answers proposal e = answered_in proposal e.event (option_and_then proposal_in e.reply)

-- a worker was told that its seat is of another scheduler
abbrev pub WasBehind : WorkerEnd → Type 0
WasBehind worker = (entered : ℕ) × (worker.end ≡ Behind entered)

-- one of the workers was
abbrev pub OneWasBehind : List WorkerEnd → Type 0
OneWasBehind workers = Any WasBehind workers

-- none of the workers was halted
abbrev pub AreNotHalted : List Bool → Type 0
AreNotHalted halted = All (λ one. one ≡ false) halted

-- a worker ended as halted
abbrev pub is_halted : End → Bool
is_halted Halted = true
is_halted _ = false

-- the nodes of workers, without those of the halted ones
abbrev pub LeavesOut : List Bool → List (Vec Name Global) → List (Vec Name Global) → Type 0
LeavesOut halted old new = (k : ℕ) (list : Vec Name Global) (is : Bool) → k < length old → (slice_index_or new k list).items ≡ (if slice_index_or halted k is then [] else (slice_index_or old k list).items)

-- halted are those who were before, and those who ended so
abbrev pub NotesHalted : List WorkerEnd → List Bool → List Bool → Type 0
NotesHalted ends old new = (k : ℕ) (worker : WorkerEnd) (is : Bool) → k < length old → slice_index_or new k is ≡ (slice_index_or old k is || is_halted (slice_index_or ends k worker).end)

-- The lists with those of so many rounds more: all calls are workers', and no proposal is committed more often than it was answered. Where no
-- worker is halted, each node was asked about once a round for each time that it stands in the list, and each proposal committed as often as answered.
pub record AddsRounds (free : Type 0) (nodes : List Name) (rounds : ℕ) (old new : List (List Receipt)) : Type 0 where
  pub more : List (List Receipt)
  pub all : new ≡ old ++ more
  pub workers : All (λ receipt. IsTrue (is_workers receipt.event)) (all_receipts more)
  pub idle : rounds ≡ 0 → more ≡ []
  pub asked : free → (node : Name) → count_by (λ receipt. asks node receipt.event) (all_receipts more) ≡ rounds * times_in node nodes
  pub answered : (proposal : Proposal) → count_by (λ receipt. commits proposal receipt.event) (all_receipts more) ≤ count_by (λ receipt. answers proposal (entry_of receipt)) (all_receipts more)
  pub committed : free → (proposal : Proposal) → count_by (λ receipt. commits proposal receipt.event) (all_receipts more) ≡ count_by (λ receipt. answers proposal (entry_of receipt)) (all_receipts more)
