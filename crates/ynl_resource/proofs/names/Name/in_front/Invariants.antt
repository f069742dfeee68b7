use Rattle.std.proofs.Common.{◌≡◌, ◌≤◌, ◌+◌, ◌-◌, ◌++◌, length, take, drop, replicate}
use Rattle.std.specs.List.{prefix_len}
use Rattle.ynl_resource.specs.NameText.{is_name_byte}
use Rattle.ynl_resource.proofs.names.Name.in_front.Given as goal

abbrev pub invariant-bytes : goal.invariant-bytes
invariant-bytes l = record {
  inside : l.len ≤ length l.bytes;
  small : l.len ≤ 64;
  kept : l.kept ≡ take l.len l.bytes ++ replicate (64 - l.len) 0;
  front : prefix_len is_name_byte l.bytes ≡ l.len + prefix_len is_name_byte (drop l.len l.bytes);
}

abbrev pub decreases-bytes : goal.decreases-bytes
decreases-bytes l = length l.bytes - l.len
