use Rattle.std.proofs.Common.{◌≡◌, ◌-◌, ◌<◌, length, drop, false, get_or, arith, sym, ap₂, ◌∙◌, Some}
use Rattle.std.proofs.lemmas.Grind.{common_steps}
use Rattle.std.proofs.lemmas.List.{take_all}
use Rattle.std.proofs.lemmas.List.Sums.{prefix_len-drop_yes}
use Rattle.ynl_resource.specs.NameText.{is_name_byte}
use Rattle.ynl_resource.proofs.NameFronts.{front_ends, front_long, front_none, front_some, kept_front, kept_more, kept_named}
use Rattle.ynl_resource.proofs.names.Name.in_front.Goals as goal
use Rattle.ynl_resource.proofs.names.Name.in_front.Goals.{then-bytes-test+else-is_name_byte, else-bytes-test}

pub returns-then-len-eq64 : goal.returns-then-len-eq64
returns-then-len-eq64 c =
    let more = prefix_len-drop_yes is_name_byte c.args.bytes.now c.bytes.len 0 (omega arith) (sym c.if-is_name_byte.ensures) in
    sym (front_long c.args.bytes.now (omega (arith, more, c.bytes.invariant.front)))

pub bytes-preserved : goal.bytes-preserved
bytes-preserved c =
    let more = prefix_len-drop_yes is_name_byte c.args.bytes.now c.bytes.len 0 (omega arith) (sym c.if-is_name_byte.ensures) in
    record {
      inside = omega arith;
      small = omega arith;
      kept = rw c.bytes.invariant.kept (kept_more c.args.bytes.now c.bytes.len (omega arith) (omega arith));
      front = omega (arith, more, c.bytes.invariant.front);
    }

pub returns-then-len-eq0 : goal.returns-then-len-eq0
returns-then-len-eq0 c =
    let other : c.bytes.len < length c.args.bytes.now → is_name_byte (get_or c.args.bytes.now c.bytes.len 0) ≡ false = elim c.bytes-test.branch [ then-bytes-test+else-is_name_byte w ↦ λ _. sym w.if-is_name_byte.ensures | else-bytes-test w ↦ λ lt. absurd (omega arith) ] in
    sym (front_none c.args.bytes.now c.bytes.len (front_ends c.args.bytes.now c.bytes.len c.bytes.invariant.front other) (omega arith))

pub invariant_of-name : goal.invariant_of-name
invariant_of-name c =
    let other : c.bytes.len < length c.args.bytes.now → is_name_byte (get_or c.args.bytes.now c.bytes.len 0) ≡ false = elim c.bytes-test.branch [ then-bytes-test+else-is_name_byte w ↦ λ _. sym w.if-is_name_byte.ensures | else-bytes-test w ↦ λ lt. absurd (omega arith) ] in
    kept_named c.args.bytes.now c.bytes.kept c.bytes.len c.bytes.invariant.inside c.bytes.invariant.kept (front_ends c.args.bytes.now c.bytes.len c.bytes.invariant.front other) (omega arith) c.bytes.invariant.small

pub returns : goal.returns
returns c =
    let bytes = c.args.bytes.now in
    let len = c.bytes.len in
    let other : c.bytes.len < length c.args.bytes.now → is_name_byte (get_or c.args.bytes.now c.bytes.len 0) ≡ false = elim c.bytes-test.branch [ then-bytes-test+else-is_name_byte w ↦ λ _. sym w.if-is_name_byte.ensures | else-bytes-test w ↦ λ lt. absurd (omega arith) ] in
    ap₂ (λ a b. Some (a, b)) (kept_front bytes c.bytes.kept len c.bytes.invariant.inside c.bytes.invariant.kept) (take_all (length bytes - len) (drop len bytes) (grind (arith, common_steps)))
    ∙ sym (front_some bytes len (front_ends bytes len c.bytes.invariant.front other) (omega arith) c.bytes.invariant.small)
