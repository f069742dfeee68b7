-- The row of a new application has no chains, and places for two.
use Rattle.std.proofs.Common.{sym, ap, subst, ◌∙◌}
use Rattle.ynl_slots.specs.Slots.{IsLive}
use Rattle.ynl_tables.specs.declared.apps.app.AppRow.{AppRow as AppPart}
use Rattle.ynl_tables.specs.apps.Chains.{chain_of}
use Rattle.ynl_inventory.specs.Parts.{app_row}
use Rattle.ynl_inventory.proofs.ChainPlaces.{place-adds}
use Rattle.ynl_inventory.proofs.submission.new_row.Goals as goal

pub returns : goal.returns
returns c = record {
  row_is = ap app_row c.new-row.ensures;
  master = ap (λ (r : AppPart). r.master) c.new-row.ensures;
  chains = λ p. c.reserve-2.ensures.same p ∙ c.reserve.ensures.same p ∙ ap (λ (r : AppPart). chain_of p r.chains) c.new-row.ensures;
  home = subst (IsLive c.args.new.now.home) (sym c.in_ok-reserve-2.ensures.ok) ((place-adds 0 c.reserve.new.self).live c.args.new.now.home c.in_ok-reserve.ensures.place);
  default = c.in_ok-reserve-2.ensures.place;
}
