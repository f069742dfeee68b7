use Rattle.std.proofs.Common.{◌≡◌, ◌<◌, [], length, nat_eq, Some, sym, ap, subst, ◌∙◌}
use Rattle.std.specs.Prelude.{slice_index_or}
use Rattle.std.specs.Map.{lookup}
use Rattle.std.proofs.lemmas.Option.{same_Some}
use Rattle.ynl_inventory.specs.Rows.{AppRow}
use Rattle.ynl_inventory.specs.Parts.{Held, app_row}
use Rattle.ynl_sights.specs.Copying.{shown_as}
use Rattle.ynl_sights.proofs.Gathered.{name-is, read-at}
use Rattle.ynl_sights.proofs.gathering.offered_of.Goals as goal

pub user_name-requires : goal.user_name-requires
user_name-requires c =
    let is = c.inventory-inventory.ensures in
    subst (λ (h : Held). c.app-row.result.now.user < length h.rows.users) (sym is.value)
    (is.sound.apps c.args.app (app_row c.app-row.result.now) (rw is.value at c.app-row.ensures)).user

pub returns : goal.returns
returns c = λ row at.
    let w = c.args.cluster.now in
    let is = c.inventory-inventory.ensures in
    let mine = app_row c.app-row.result.now in
    let found : lookup (nat_eq c.args.app) w.rows.apps ≡ Some mine = rw is.value at c.app-row.ensures in
    let user : slice_index_or w.rows.users mine.user [] ≡ c.user_name.result.now =
    read-at w.rows.users mine.user c.user_name.result.now [] (rw is.value at c.user_name.ensures) in
    let name = name-is w c.args.app mine found c.inventory-inventory.result.now is.value c.app_name.result.now c.app_name.ensures in
    let used = c.used_by-user_used.ensures.value mine found in
    (λ i. (used i, record { place = c.args.place; size = c.args.size; priority = c.args.priority; app = name i; user = sym user i }))
    ∙ ap (λ (r : AppRow). shown_as w.rows c.args.p c.args.place r c.args.size c.args.priority) (same_Some mine row (sym found ∙ at))
