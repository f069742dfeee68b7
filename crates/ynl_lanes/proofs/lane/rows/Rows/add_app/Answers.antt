use Rattle.std.proofs.Common.{ℕ, List, ◌++◌, ◌∷◌, [], ap, sym, ◌∙◌}
use Rattle.ynl_lanes.specs.declared.lane.levels.Level.TheVariants.{Lane}
use Rattle.ynl_lanes.proofs.lane.Listing.{seat-comes, none-comes}
use Rattle.ynl_lanes.proofs.lane.rows.Rows.add_app.Goals as goal

pub seat_at-requires : goal.seat_at-requires
seat_at-requires c = c.requires.lines Lane

pub returns-in_ok-push : goal.returns-in_ok-push
returns-in_ok-push c = λ so_far.
    c.in_ok-push.ensures.items
    ∙ ap (λ (apps : List ℕ). apps ++ c.in-Some.row.app ∷ []) so_far
    ∙ sym (seat-comes c.args.self.now c.requires c.args.slot c.in-Some._ticket c.in-Some.row c.in-Some.ensures.found)

pub returns-in_default : goal.returns-in_default
returns-in_default c = λ so_far. so_far ∙ sym (none-comes c.args.self.now c.requires c.args.slot c.in_default.ensures.none)
