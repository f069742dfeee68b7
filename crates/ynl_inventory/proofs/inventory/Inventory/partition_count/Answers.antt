-- Each part has its row, the rows are sound, and the containers of nodes fit.
use Rattle.std.proofs.Common.{◌≡◌, length, sym, ap, subst, ◌∙◌}
use Rattle.std.proofs.lemmas.List.{length-map}
use Rattle.ynl_inventory.specs.Parts.{Held, IsFitting, partition_row}
use Rattle.ynl_inventory.specs.declared.partition.Partition.{Partition}
use Rattle.ynl_inventory.specs.Sound.{IsSound}
use Rattle.ynl_inventory.proofs.FreeRead.{fitting}
use Rattle.ynl_inventory.proofs.inventory.Inventory.partition_count.Goals as goal

pub returns-clause-count : goal.returns-clause-count
returns-clause-count c = c.len.ensures ∙ c.self.inside.partitions.ok.0 ∙ sym (length-map c.self.inside.partitions.items partition_row) ∙ ap (λ (h : Held). length h.rows.partitions) c.self.view_is

pub returns-clause-rooms : goal.returns-clause-rooms
returns-clause-rooms c =
    subst (λ (h : Held). length h.rooms ≡ length h.rows.partitions) c.self.view_is
    (length-map c.self.inside.partitions.items (λ (part : Partition). part.containers.room) ∙ sym (length-map c.self.inside.partitions.items partition_row))

pub returns-clause-sound : goal.returns-clause-sound
returns-clause-sound c = subst (λ (h : Held). IsSound h.rows) c.self.view_is c.self.invariant.sound

pub returns-clause-fitting : goal.returns-clause-fitting
returns-clause-fitting c = subst (λ (h : Held). IsFitting h.rows) c.self.view_is (fitting c.self.inside c.self.invariant)
