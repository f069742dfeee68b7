use Rattle.std.proofs.Common.{set, ◌∙◌, refl, sym, ap}
use Rattle.std.proofs.lemmas.Option.{same_Some}
use Rattle.ynl_lanes.specs.declared.lane.rows.SeatRow.{SeatRow}
use Rattle.ynl_lanes.specs.declared.lane.levels.Level.TheVariants.{Lane}
use Rattle.ynl_lanes.specs.declared.lows.users.UserLow.{UserLow}
use Rattle.ynl_lanes.specs.lane.Lines.{values_of}
use Rattle.ynl_lanes.proofs.lane.Standing.{slot_inside}
use Rattle.ynl_lanes.proofs.lane.Stood.{changes_set, stood_put}
use Rattle.ynl_lanes.proofs.lane.rows.Rows.put_least.Goals as goal

pub set-requires : goal.set-requires
set-requires c = slot_inside c.args.self.now c.requires.seated c.args.kind c.args.ticket c.index.result.now c.index.ensures

pub returns-clause-line : goal.returns-clause-line
returns-clause-line c =
    let same = same_Some _ _ (sym c.index.ensures ∙ c.requires.first.found) in
    changes_set c.args.user c.args.kind c.args.self.now.seats.entries c.args.self.now.line c.set.new.self c.args.ticket c.index.result.now _ (c.requires.seated.lines Lane) c.index.ensures (ap (λ (x : SeatRow). x.user) same ∙ c.requires.first.own) c.set.ensures.tickets c.set.ensures.value c.set.ensures.other

pub returns-clause-stood : goal.returns-clause-stood
returns-clause-stood c =
    let same = same_Some _ _ (sym c.index.ensures ∙ c.requires.first.found) in
    let least : UserLow = record { low = c.root.result; used = c.index-row.result.now.used } in
    stood_put c.args.user c.args.kind c.args.self.now (record c.args.self.now { line = c.set.new.self }) c.requires.seated refl refl
    (changes_set c.args.user c.args.kind c.args.self.now.seats.entries c.args.self.now.line c.set.new.self c.args.ticket c.index.result.now least (c.requires.seated.lines Lane) c.index.ensures (ap (λ (x : SeatRow). x.user) same ∙ c.requires.first.own) c.set.ensures.tickets c.set.ensures.value c.set.ensures.other)
    c.requires.others c.args.ticket c.requires.first c.index-row.result.now c.index-row.ensures least c.root.ensures refl
    (c.set.ensures.value ∙ ap (λ (x : SeatRow). set (values_of c.args.kind c.args.self.now.line) x.slot least) same)
