use Rattle.std.proofs.Common.{◌≡◌, true, false, None, cond, Some, sym, ap, subst, ◌∙◌}
use Rattle.std.specs.Prelude.{is_some}
use Rattle.std.specs.Option.{option_or}
use Rattle.ynl_resource.specs.Names.{same_path}
use Rattle.ynl_resource.specs.declared.paths.Path.{Path}
use Rattle.ynl_queues.specs.Index.{place_in}
use Rattle.ynl_queues.proofs.PlaceMaps.{place_stays, place_added}
use Rattle.ynl_queues.proofs.index.add_place.Goals as goal

pub returns-then-contains_key : goal.returns-then-contains_key
returns-then-contains_key c =
    let places = c.args.places.now in
    let there = subst (λ (q : Path). is_some (place_in places q) ≡ true) c.names.ensures.names (sym c.contains_key.ensures ∙ c.if-contains_key.true) in
    place_stays places c.args.queue.now c.args.place there

pub returns : goal.returns
returns c = λ other.
    let old = c.args.places.now in
    let new = c.insert.new.self in
    let key = c.in_ok-key.key in
    let named : key.items ≡ c.args.queue.now = c.in_ok-key.ensures.items ∙ c.names-2.ensures.names in
    let absent = subst (λ (q : Path). is_some (place_in old q) ≡ false) (c.names.ensures.names ∙ sym named) (sym c.contains_key.ensures ∙ c.if-contains_key.false) in
    place_added old new key c.args.place c.in_ok-insert.ensures.entries absent other
    ∙ ap (λ (q : Path). option_or (place_in old other) (cond (same_path q other) (Some c.args.place) None)) named
