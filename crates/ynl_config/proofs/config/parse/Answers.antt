use Rattle.toml.specs.Errors.{IsMemory}
use Rattle.toml.specs.View.{table_view}
use Rattle.toml.specs.Parse.{parse_document}
use Rattle.ynl_resource.proofs.ReadBytes.{read_found}
use Rattle.ynl_config.proofs.config.parse.Goals as goal

pub returns : goal.returns
returns c =
    read_found parse_document table_view IsMemory c.args.bytes.now c.table_from_slice.result c.found.result c.table_from_slice.ensures.ok c.table_from_slice.ensures.refused c.found.ensures.table c.found.ensures.none c.found.ensures.memory
