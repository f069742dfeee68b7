-- The word of each refusal names it.
use Rattle.std.proofs.Common.{◌≡◌, Some, refl}
use Rattle.ynl_resource.specs.Refusals.{Refusal, word}
use Rattle.ynl_resource.specs.declared.refusals.Refusal.TheVariants.{NoSuchLabel, NodeExists, NoSuchNode, SameLabel, PartitionFull, NoSuchQueue, NotALeaf, QueueStopped, RootQueue, LabelNotAccessible, TooLarge, NameUsed, TooManyApplications, NoSuchApplication, LabelMismatch, TooManyAsks, NoSuchContainer, IsMaster, ClockSpent, Stale, NotAccessible, NoSuchAsk, NoRoom, PartitionBusy, OverMaximum, OverUserLimit, OverMasterShare, BelowCapacity}
use Rattle.ynl_resource.specs.RefusalWords.{refusal_of}

pub refusal_back : (r : Refusal) → refusal_of (word r) ≡ Some r
unfolding refusal_of
refusal_back NoSuchLabel = refl
refusal_back NodeExists = refl
refusal_back NoSuchNode = refl
refusal_back SameLabel = refl
refusal_back PartitionFull = refl
refusal_back NoSuchQueue = refl
refusal_back NotALeaf = refl
refusal_back QueueStopped = refl
refusal_back RootQueue = refl
refusal_back LabelNotAccessible = refl
refusal_back TooLarge = refl
refusal_back NameUsed = refl
refusal_back TooManyApplications = refl
refusal_back NoSuchApplication = refl
refusal_back LabelMismatch = refl
refusal_back TooManyAsks = refl
refusal_back NoSuchContainer = refl
refusal_back IsMaster = refl
refusal_back ClockSpent = refl
refusal_back Stale = refl
refusal_back NotAccessible = refl
refusal_back NoSuchAsk = refl
refusal_back NoRoom = refl
refusal_back PartitionBusy = refl
refusal_back OverMaximum = refl
refusal_back OverUserLimit = refl
refusal_back OverMasterShare = refl
refusal_back BelowCapacity = refl
