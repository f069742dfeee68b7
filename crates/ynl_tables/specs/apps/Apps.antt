-- The live applications, as a contract sees them.
use Rattle.std.specs.Prelude.{ℕ, List, map, nat_eq, None, if◌then◌else◌}
use Rattle.ynl_slots.specs.Slots.{Numbered}
use Rattle.ynl_tables.specs.declared.apps.app.AppRow.{AppRow}
use Rattle.ynl_tables.specs.declared.apps.app.Tickets.{Tickets}

-- no tickets yet
abbrev pub no_tickets : Tickets
no_tickets = record { home = None; default = None }

-- the row under a number changes
abbrev pub with_change : {X : Type 0} → ℕ → (X → X) → List (ℕ × X) → List (ℕ × X)
with_change number change entries = map (λ e. if nat_eq number e.0 then (e.0, change e.1) else e) entries

-- the application under a number changes, and all else stays
abbrev pub with_app : ℕ → (AppRow → AppRow) → Numbered AppRow → Numbered AppRow
with_app number change apps = record apps { entries = with_change number change apps.entries }
