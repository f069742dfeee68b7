use Rattle.std.proofs.Common.{◌≡◌, ℕ, ◌<◌, ◌++◌, length, drop, All}
use Rattle.ynl_model.specs.View.{view, view_from, events_of, places_of}
use Rattle.ynl_view.proofs.viewing.view.Given as goal

abbrev pub invariant-loop-i : goal.invariant-loop-i
invariant-loop-i l = record {
  events : l.seen.items ++ events_of (view_from l.tenant l.label l.config l.i l.track (drop l.i l.events)) ≡ events_of (view l.config l.events l.tenant l.label);
  places : l.places.items ++ places_of (view_from l.tenant l.label l.config l.i l.track (drop l.i l.events)) ≡ places_of (view l.config l.events l.tenant l.label);
  within : All (λ (place : ℕ). place < length l.events) l.places.items;
}
