use Rattle.std.proofs.Common.{◌≡◌, map, true}
use Rattle.std.specs.List.{list_all}
use Rattle.ynl_resource.specs.Texts.{read_path}
use Rattle.ynl_queues.specs.Written.{is_below_root, row_of}
use Rattle.ynl_queues.proofs.building.read_rows.Given as goal

abbrev pub invariant-loop-row : goal.invariant-loop-row
invariant-loop-row l = record {
  paths : list_all (λ row. is_below_root (read_path row.path)) l.yielded ≡ true;
  rows : l.read.items ≡ map row_of l.yielded;
}
