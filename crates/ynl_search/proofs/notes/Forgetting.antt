-- What is noted of queues, one after another.
use Rattle.std.proofs.Common.{◌≡◌, ℕ, ◌<◌, cond, List, length, take}
use Rattle.std.specs.Prelude.{slice_index_or}
use Rattle.ynl_laws.specs.Ways.{has_number}
use Rattle.ynl_resource.specs.declared.amounts.Resource.{Resource}
use Rattle.ynl_search.specs.declared.notes.noted.Noted.{Noted}
use Rattle.ynl_search.specs.notes.Notes.{nothing_noted, with_more}

-- ---- all of them

pub record IsCleared (n : ℕ) (old new : List Noted) : Type 0 where
  pub len : length new ≡ length old
  pub none : (q : ℕ) → q < n → slice_index_or new q nothing_noted ≡ nothing_noted

-- ---- some

pub record IsChanged (queues : List ℕ) (i : ℕ) (low : Resource) (old new : List Noted) : Type 0 where
  pub len : length new ≡ length old
  pub each : (q : ℕ) → slice_index_or new q nothing_noted ≡ cond (has_number (take i queues) q) (with_more low (slice_index_or old q nothing_noted)) (slice_index_or old q nothing_noted)
