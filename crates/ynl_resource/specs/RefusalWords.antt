-- The refusal that a word names.
use Rattle.std.specs.Prelude.{ℕ, List, [], ◌∷◌, Option, find}
use Rattle.std.specs.Str.{bytes_eq}
use Rattle.ynl_resource.specs.Refusals.{Refusal, word, NoSuchLabel, NodeExists, NoSuchNode, SameLabel, PartitionFull, NoSuchQueue, NotALeaf, QueueStopped, RootQueue, LabelNotAccessible, TooLarge, NameUsed, TooManyApplications, NoSuchApplication, LabelMismatch, TooManyAsks, NoSuchContainer, IsMaster, ClockSpent, Stale, NotAccessible, NoSuchAsk, NoRoom, PartitionBusy, OverMaximum, OverUserLimit, OverMasterShare, BelowCapacity}

-- all refusals, in the order of their numbers
abbrev pub all_refusals : List Refusal
all_refusals =
    NoSuchLabel ∷ NodeExists ∷ NoSuchNode ∷ SameLabel ∷ PartitionFull ∷ NoSuchQueue ∷ NotALeaf ∷
    QueueStopped ∷ RootQueue ∷ LabelNotAccessible ∷ TooLarge ∷ NameUsed ∷ TooManyApplications ∷ NoSuchApplication ∷
    LabelMismatch ∷ TooManyAsks ∷ NoSuchContainer ∷ IsMaster ∷ ClockSpent ∷ Stale ∷ NotAccessible ∷
    NoSuchAsk ∷ NoRoom ∷ PartitionBusy ∷ OverMaximum ∷ OverUserLimit ∷ OverMasterShare ∷ BelowCapacity ∷ []

-- the refusal that is printed as this word, if one is
unfoldable pub refusal_of : List ℕ → Option Refusal
refusal_of text = find (λ r. bytes_eq (word r) text) all_refusals
