-- The clock of a partition is set: its containers stay.
use Rattle.std.proofs.Common.{◌≡◌, slice_get, Some, sym, ap, subst, refl, ◌∙◌}
use Rattle.std.specs.Prelude.{slice_set}
use Rattle.ynl_inventory.specs.Changes.{with_clock}
use Rattle.ynl_inventory.specs.Parts.{Held}
use Rattle.ynl_inventory.specs.Sound.{CanShow}
use Rattle.ynl_inventory.proofs.RoomParts.{part-read}
use Rattle.ynl_inventory.proofs.TimeParts.{clock-held, clock-linked, clock-rows-sound}
use Rattle.ynl_inventory.proofs.inventory.Inventory.set_clock.Goals as goal

-- the partition that is there
at : (c : goal.After-self-1) → slice_get c.self.inside.partitions.items c.args.p ≡ Some c.index_mut-part.result.now
at c = part-read c.self.inside c.args.self.now c.args.p c.self.view_is c.requires.there c.index_mut-part.result.now c.index_mut-part.ensures.value

pub invariant_of-self : goal.invariant_of-self
invariant_of-self c = record {
  sound =
      clock-rows-sound c.self.inside c.args.p c.args.clock c.index_mut-part.result.now (at c) c.self.invariant
      (subst (λ (h : Held). CanShow h.rows c.args.p c.args.clock) (sym c.self.view_is) c.requires.can);
  linked = clock-linked c.self.inside c.args.p c.args.clock c.index_mut-part.result.now (at c) c.self.invariant;
}

pub returns : goal.returns
returns c =
    clock-held c.self.inside c.args.p c.args.clock c.index_mut-part.result.now (at c)
    (slice_set c.self.inside.partitions.items c.args.p (record c.index_mut-part.result.now { clock = c.args.clock })) refl
    ∙ ap (λ (h : Held). record h { rows = with_clock c.args.p c.args.clock h.rows }) c.self.view_is
