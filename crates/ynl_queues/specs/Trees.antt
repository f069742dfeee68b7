-- Queues that are a tree.
use Rattle.std.specs.Prelude.{◌≡◌, true, map}
use Rattle.std.specs.List.{list_all}
use Rattle.ynl_resource.specs.Names.{same_name, same_path}
use Rattle.ynl_model.specs.Queues.{Config, is_queue}
use Rattle.ynl_model.specs.Accepted.{all_differ, all_queues, parent_of}

-- no two labels have one name, no two queues have one path and none has root's, and each queue's parent is root or a queue
pub record HasTree (c : Config) : Type 0 where
  pub labels : all_differ same_name (map (λ row. row.name) c.labels.rows) ≡ true
  pub paths : all_differ same_path (all_queues c) ≡ true
  pub parents : list_all (λ row. is_queue c (parent_of row.path)) c.queues ≡ true
