-- How many an ask may ask for: an ask of an event, and the asks of live applications.
use Rattle.std.specs.Prelude.{◌≤◌, ⊤, List}
use Rattle.std.specs.List.{AllByRecursion}
use Rattle.ynl_resource.specs.Ranges.{most_count}
use Rattle.ynl_model.specs.Applications.{Application, LeafApps}
use Rattle.ynl_model.specs.declared.applications.AskRow.{AskRow}
use Rattle.ynl_model.specs.declared.events.Event.{Event}
use Rattle.ynl_model.specs.declared.events.Event.TheVariants.{Ask}

-- what holds of the ask that an event sets, where it sets one
abbrev pub OfAsk : (AskRow → Type 0) → Event → Type 0
OfAsk A (Ask tenant app label priority count size) = A (record { label = label; priority = priority; count = count; size = size })
OfAsk A _ = ⊤

-- an ask counts no more than an ask may
abbrev pub IsWithin : AskRow → Type 0
IsWithin ask = ask.count ≤ most_count

-- so does the one that an event sets
abbrev pub IsCounted : Event → Type 0
IsCounted event = OfAsk IsWithin event

-- so do all asks of the live applications of some leaves
abbrev pub AllWithin : List LeafApps → Type 0
AllWithin leaves = AllByRecursion (λ (row : LeafApps). AllByRecursion (λ (app : Application). AllByRecursion IsWithin app.asks) row.apps) leaves
