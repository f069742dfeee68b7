-- What becomes of what is noted when a cluster changes.
use Rattle.std.specs.Prelude.{◌≡◌, ℕ, Bool, true, false, ◌&&◌, nat_eq, IfSome, Option, None, Some}
use Rattle.ynl_resource.specs.Amounts.{fits_in}
use Rattle.ynl_resource.specs.Names.{is_within}
use Rattle.ynl_resource.specs.declared.labels.Label.TheVariants.{Unlabelled}
use Rattle.ynl_model.specs.Service.{asks_for, items_for}
use Rattle.ynl_tables.specs.declared.containers.container.Role.{Role}
use Rattle.ynl_tables.specs.declared.containers.container.Role.TheVariants.{Master, Ask as Asked}
use Rattle.ynl_inventory.specs.layout.Paths.{HasNumber}
use Rattle.ynl_cluster.specs.Cluster.{ClusterView, IsCell, label_of, path_of, state_in}
use Rattle.ynl_search.specs.declared.notes.noted.Noted.{Noted}
use Rattle.ynl_search.specs.notes.Notes.{Notes, Row, Table, noted_at, noted_in}
use Rattle.ynl_search.specs.notes.Shut.{AreAtLeast, AreShut}

-- whether a partition is the one, if there is one, and else any
abbrev pub is_on : Option ℕ → ℕ → Bool
is_on None p = true
is_on (Some only) p = nat_eq p only

-- the partition on which requests change with a container there, if it is one alone: with a master its application's asks do, on all
abbrev pub changed_on : Role → ℕ → Option ℕ
changed_on Master p = None
changed_on (Asked asked priority) p = Some p

-- whether a queue stands on the way to a leaf, on one of some partitions
abbrev pub is_on_way : ClusterView → ℕ → (ℕ → Bool) → ℕ → ℕ → Bool
is_on_way w leaf on p q = on p && is_within (path_of w q) (path_of w leaf)

-- no room is noted anew and no least is raised; of a queue on the way to the leaf no room is left, and the leaf's requests are for what is left of the least at least
pub record IsLeft (w : ClusterView) (leaf : ℕ) (on : ℕ → Bool) (p q : ℕ) (before after : Noted) : Type 0 where
  pub room : IfSome after.room (λ room. (before.room ≡ Some room) × (is_on_way w leaf on p q ≡ false))
  pub below : fits_in after.least before.least ≡ true
  pub own : is_on_way w leaf on p q ≡ true → AreAtLeast (items_for (state_in w) (label_of w p)) (path_of w leaf) after.least

-- so it is of all queues on all partitions
abbrev pub AreLeft : ClusterView → ℕ → (ℕ → Bool) → Table → Table → Type 0
AreLeft w leaf on old new = (p q : ℕ) → IsCell w p q → IsLeft w leaf on p q (noted_at old p q) (noted_at new p q)

-- and of what is noted of guests
pub record IsGuestLeft (w : ClusterView) (leaf q : ℕ) (before after : Noted) : Type 0 where
  pub below : fits_in after.least before.least ≡ true
  pub own : is_within (path_of w q) (path_of w leaf) ≡ true → AreAtLeast (asks_for (state_in w) Unlabelled) (path_of w leaf) after.least

abbrev pub AreGuestsLeft : ClusterView → ℕ → Row → Row → Type 0
AreGuestsLeft w leaf old new = (q : ℕ) → HasNumber w.rows.paths q → IsGuestLeft w leaf q (noted_in old q) (noted_in new q)

-- where the notes were right before a change they are afterwards
abbrev pub StayRight : ClusterView → ClusterView → Notes → Notes → Type 0
StayRight old new before after = AreShut old before → AreShut new after
