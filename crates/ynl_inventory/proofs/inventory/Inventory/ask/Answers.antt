-- An application asks, with the places that it needs: the parts go together, and mean the ask.
use Rattle.std.proofs.Common.{◌≡◌, ◌<◌, ℕ, IfSome, List, nat_eq, sym, ap, subst, ◌∙◌}
use Rattle.std.specs.Map.{lookup}
use Rattle.ynl_slots.specs.Slots.{Numbered}
use Rattle.ynl_tables.specs.declared.apps.app.AppRow.{AppRow as AppPart}
use Rattle.ynl_tables.specs.declared.apps.asks.Ask.{Ask}
use Rattle.ynl_inventory.specs.declared.partition.Partition.{Partition}
use Rattle.ynl_inventory.specs.Changes.{with_asked}
use Rattle.ynl_inventory.specs.Sound.{CanAsk}
use Rattle.ynl_inventory.specs.Parts.{Held, HasGuestPlaces}
use Rattle.ynl_inventory.proofs.AppParts.{app-live}
use Rattle.ynl_inventory.proofs.ChainPlaces.{more-again, more-live, no-more}
use Rattle.ynl_inventory.proofs.Results.{on-err}
use Rattle.ynl_inventory.proofs.AskParts.{placed-held, placed-inventory, asked-rows, asked-inventory}
use Rattle.ynl_inventory.proofs.inventory.Inventory.ask.Goals as goal

pub reserve_for_ask-requires : goal.reserve_for_ask-requires
reserve_for_ask-requires c = app-live c.self.inside c.args.app (subst (λ (h : Held). CanAsk h.rows c.args.app c.args.ask) (sym c.self.view_is) c.requires).0

pub invariant_of-self : goal.invariant_of-self
invariant_of-self c = placed-inventory c.self.inside c.self.invariant c.args.app c.reserve_for_ask.new.apps c.reserve_for_ask.ensures.more

pub set_ask-requires : goal.set_ask-requires
set_ask-requires c =
    more-live c.args.app c.self.inside.apps c.reserve_for_ask.new.apps c.reserve_for_ask.ensures.more
    (app-live c.self.inside c.args.app (subst (λ (h : Held). CanAsk h.rows c.args.app c.args.ask) (sym c.self.view_is) c.requires).0)

pub invariant_of-self-in_err-set_ask : goal.invariant_of-self-in_err-set_ask
invariant_of-self-in_err-set_ask c =
    placed-inventory c.self.inside c.self.invariant c.args.app c.set_ask.new.self
    (more-again c.args.app c.self.inside.apps c.reserve_for_ask.new.apps c.set_ask.new.self c.reserve_for_ask.ensures.more
    (no-more c.args.app c.reserve_for_ask.new.apps c.set_ask.new.self c.in_err-set_ask.ensures.err))

-- the partitions that were read are the parts
guests-there : (app : ℕ) (ask : Ask) (apps : Numbered AppPart) (items partitions : List Partition) → items ≡ partitions
    → (0 < ask.count → ask.partition ≡ 0 → IfSome (lookup (nat_eq app) apps.entries) (λ r. HasGuestPlaces items r.chains))
    → 0 < ask.count → ask.partition ≡ 0 → IfSome (lookup (nat_eq app) apps.entries) (λ r. HasGuestPlaces partitions r.chains)
guests-there app ask apps items partitions same places some zero = subst (λ items. IfSome (lookup (nat_eq app) apps.entries) (λ (r : AppPart). HasGuestPlaces items r.chains)) same (places some zero)

pub invariant_of-self-2 : goal.invariant_of-self-2
invariant_of-self-2 c =
    asked-inventory c.self.inside c.self.invariant c.args.app c.reserve_for_ask.new.apps c.reserve_for_ask.ensures.more c.args.ask
    (subst (λ (h : Held). CanAsk h.rows c.args.app c.args.ask) (sym c.self.view_is) c.requires)
    (guests-there c.args.app c.args.ask c.reserve_for_ask.new.apps c.deref.result.now c.self.inside.partitions.items c.deref.ensures.value c.in_ok-reserve_for_ask.ensures.places)
    c.set_ask.new.self c.in_ok-set_ask.ensures.ok

pub returns-clause-ok : goal.returns-clause-ok
returns-clause-ok c =
    asked-rows c.self.inside c.self.invariant c.args.app c.reserve_for_ask.new.apps c.reserve_for_ask.ensures.more c.args.ask
    (subst (λ (h : Held). CanAsk h.rows c.args.app c.args.ask) (sym c.self.view_is) c.requires)
    (guests-there c.args.app c.args.ask c.reserve_for_ask.new.apps c.deref.result.now c.self.inside.partitions.items c.deref.ensures.value c.in_ok-reserve_for_ask.ensures.places)
    c.set_ask.new.self c.in_ok-set_ask.ensures.ok
    ∙ ap (λ (h : Held). with_asked c.args.app c.args.ask h.rows) c.self.view_is

pub returns-in_err-reserve_for_ask-clause-err : goal.returns-in_err-reserve_for_ask-clause-err
returns-in_err-reserve_for_ask-clause-err c =
    on-err _
    (ap (λ (h : Held). h.rows) (placed-held c.self.inside c.self.invariant c.args.app c.reserve_for_ask.new.apps c.reserve_for_ask.ensures.more ∙ c.self.view_is))
    c.from_residual.result

pub returns-in_err-set_ask-clause-err : goal.returns-in_err-set_ask-clause-err
returns-in_err-set_ask-clause-err c =
    on-err _
    (ap (λ (h : Held). h.rows)
    (placed-held c.self.inside c.self.invariant c.args.app c.set_ask.new.self
    (more-again c.args.app c.self.inside.apps c.reserve_for_ask.new.apps c.set_ask.new.self c.reserve_for_ask.ensures.more
    (no-more c.args.app c.reserve_for_ask.new.apps c.set_ask.new.self c.in_err-set_ask.ensures.err))
    ∙ c.self.view_is))
    c.from_residual-in_err-set_ask.result
