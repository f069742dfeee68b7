-- No ask of what lines tell counts more than an ask may, where none does that they tell.
use Rattle.std.proofs.Common.{◌≡◌, true, List, [], ◌∷◌, Some, refl, sym, ap, subst}
use Rattle.std.specs.List.{AllByRecursion}
use Rattle.std.specs.Option.{option_map_or}
use Rattle.std.specs.Prelude.{IsTrue}
use Rattle.ynl_model.specs.Accepted.{is_accepted}
use Rattle.ynl_model.specs.Applications.{Application, find_app, in_leaf, new_app, with_app}
use Rattle.ynl_model.specs.Cluster.{State}
use Rattle.ynl_model.specs.Queues.{Config}
use Rattle.ynl_saved.specs.Restoring.{Restored, is_sound_line, may_ask, nothing_restored, restored_by, restored_with, with_line}
use Rattle.ynl_saved.specs.declared.lines.StateLine.TheVariants.{Begin, Partition, Node, Live, Ask, Finished, Container, Stopped, Maximum, End}
use Rattle.ynl_saved.specs.declared.lines.StateLine.{StateLine}
use Rattle.ynl_saved.specs.Asks.{AllWithin}
use Rattle.ynl_saved.specs.Lines.{IsCountedLine, IsSizedLine}
use Rattle.ynl_saved.proofs.Asked.{adds}
use Rattle.ynl_saved.proofs.Counts.{within-asks, within-closed, within-comes, within-opening}
use Rattle.ynl_saved.proofs.Restored.{IsRestored, first-sound, found-test, restored-first, restored-more}

-- before any line there is none
pub within-first : (c : Config) → AllWithin (nothing_restored c).state.leaves
within-first c = within-opening c

-- it stays so with each line that is sound, and tells of none that does
pub within-more : (c : Config) → IsTrue (is_accepted c) → (r : Restored) (line : StateLine) → IsRestored c r → IsCountedLine line → is_sound_line c r line ≡ true → AllWithin (r.state).leaves →
    AllWithin (with_line line r.state).leaves
unfolding is_sound_line with_line
within-more c accepted r Begin h counted sound within = within
within-more c accepted r (Partition label shown) h counted sound within = within
within-more c accepted r (Node node) h counted sound within = within
within-more c accepted r (Live queue app user label master) h counted sound within = within-comes (new_app queue app user label master) (r.state).leaves refl within
within-more c accepted r (Ask tenant name ask) h counted sound within =
    let saveable = h.saveable in
    let tellable = saveable.tellable in
    let base = tellable.base in
    let found = found-test (may_ask c ask) (find_app (r.state).leaves tenant name) sound in
    let app : Application = found.0 in
    let after : State = record r.state { leaves = in_leaf app.leaf (with_app name (adds ask)) (r.state).leaves } in
    let same : with_line (Ask tenant name ask) r.state ≡ after = ap (λ o. option_map_or (λ
    (found : Application). record r.state { leaves = in_leaf found.leaf (with_app name (adds ask)) (r.state).leaves }) o r.state) found.1 in
    subst (λ (s : State). AllWithin s.leaves) (sym same) (within-asks c accepted r.state tenant name app ask base.finds found.1 counted within)
within-more c accepted r (Finished queue name) h counted sound within = within-closed queue name (r.state).leaves within
within-more c accepted r (Container k) h counted sound within = within
within-more c accepted r (Stopped queue) h counted sound within = within
within-more c accepted r (Maximum queue label share) h counted sound within = within
within-more c accepted r (End lines) h counted sound within = within

-- and with any such lines
within-on : (c : Config) → IsTrue (is_accepted c) → (lines : List StateLine) (r : Restored) → IsRestored c r → AllByRecursion IsSizedLine lines → AllByRecursion IsCountedLine lines → (new : Restored) →
    restored_by c r lines ≡ Some new → AllWithin (r.state).leaves → AllWithin (new.state).leaves
within-on c accepted [] r h sized counted new e within = let same : r ≡ new = cc in subst (λ (r : Restored). AllWithin (r.state).leaves) same within
within-on c accepted (line ∷ lines) r h sized counted new e within =
    let first = first-sound c r line lines new e in
    within-on c accepted lines (restored_with line r) (restored-more c accepted r line h sized.0 first.0) sized.1 counted.1 new first.1 (within-more c accepted r line h counted.0 first.0 within)

-- and so of what they tell of nothing
pub within-all : (c : Config) → IsTrue (is_accepted c) → (lines : List StateLine) (r : Restored) → AllByRecursion IsSizedLine lines → AllByRecursion IsCountedLine lines →
    restored_by c (nothing_restored c) lines ≡ Some r → AllWithin (r.state).leaves
within-all c accepted lines r sized counted e = within-on c accepted lines (nothing_restored c) (restored-first c accepted) sized counted r e (within-first c)
