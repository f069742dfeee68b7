-- What can be seen of a desk.
use Rattle.std.specs.Prelude.{ℕ, List, [], ◌++◌, Option, Some, None, codes}
use Rattle.ynl_config.specs.declared.faults.ConfigFault.{ConfigFault}
use Rattle.ynl_config.specs.Earliest.{fault_word}
use Rattle.ynl_core.specs.World.{World, opened, beaten}
use Rattle.ynl_lines.specs.Writing.{reply_text, fault_text}
use Rattle.ynl_lines.specs.declared.faults.InputFault.TheVariants.{Script}
use Rattle.ynl_model.specs.declared.containers.Placed.{Placed}
use Rattle.ynl_model.specs.Queues.{Config as Configured}
use Rattle.ynl_c.specs.declared.desk.desk.Desk.{Desk}
use Rattle.ynl_c.specs.declared.desk.outcome.Outcome.{Outcome}
use Rattle.ynl_c.specs.declared.desk.outcome.Outcome.TheVariants.{Silent, Reply, Beat, Line, Config}

-- the line that the program writes of a text which is no configuration, without its newline
abbrev pub config_text : ConfigFault → List ℕ
config_text fault = codes "ynl: config: " ++ fault_word fault

-- the text of what a call came to, beside the containers that the last heartbeat placed
abbrev pub outcome_text : Outcome → List Placed → List ℕ
outcome_text Silent placed = []
outcome_text (Reply reply) placed = reply_text reply
outcome_text (Beat refused) placed = reply_text (beaten refused placed)
outcome_text (Line fault number) placed = fault_text (Script fault) number
outcome_text (Config fault) placed = config_text fault

-- a cluster, if there is one, how many lines it was told, and the text that is there to be copied
pub record Standing : Type 0 where
  pub cluster : Option World
  pub lines : ℕ
  pub text : List ℕ

-- what can be seen of a desk
abbrev pub standing : Desk → Standing
standing desk = record { cluster = desk.core; lines = desk.lines; text = outcome_text desk.outcome desk.placed.items }

-- where nothing was opened yet
abbrev pub no_cluster : Standing
no_cluster = record { cluster = None; lines = 0; text = [] }

-- where a cluster of this configuration was just opened
abbrev pub opening_of : Configured → Standing
opening_of config = record { cluster = Some (opened config); lines = 0; text = [] }
