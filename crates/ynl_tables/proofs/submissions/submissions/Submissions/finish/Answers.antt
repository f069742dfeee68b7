use Rattle.std.proofs.Common.{◌<◌, ◌-◌, ◌^◌, ℕ, List, length, min, subst, sym, ap, ◌∙◌}
use Rattle.std.specs.HashMap.{spare}
use Rattle.ynl_resource.specs.declared.names.Name.{Name}
use Rattle.indexmap.proofs.CallerLemmas.{index_map_len-with_value_at}
use Rattle.ynl_tables.specs.declared.submissions.submissions.Submission.{Submission}
use Rattle.ynl_tables.specs.submissions.Submissions.{Listing, with_finished}
use Rattle.ynl_tables.proofs.submissions.Turns.{set-finished, length-finished}
use Rattle.ynl_tables.proofs.submissions.submissions.Submissions.finish.Goals as goal

with_finished_in : ℕ → Listing → Listing
with_finished_in turn t = record t { entries = with_finished turn t.entries }

pub invariant_of-self : goal.invariant_of-self
invariant_of-self c = subst (λ (n : ℕ). n < 2 ^ 32) (sym (index_map_len-with_value_at c.self.inside.by_name c.args.turn _)) c.self.invariant

pub returns : goal.returns
unfolding with_finished_in
returns c =
    let map = c.self.inside.by_name in
    let listing : List (Name × Submission) → ℕ → Listing = λ entries len. record { entries = entries; room = min (spare map) (2 ^ 32 - 1 - len) } in
    ap (λ (entries : List (Name × Submission)). listing entries (length entries)) (set-finished map.entries c.args.turn c.index_mut-submission.result.now c.index_mut-submission.ensures.value)
    ∙ ap (listing (with_finished c.args.turn map.entries)) (length-finished c.args.turn map.entries)
    ∙ ap (with_finished_in c.args.turn) c.self.view_is
