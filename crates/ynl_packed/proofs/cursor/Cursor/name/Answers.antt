use Rattle.std.proofs.Common.{sym}
use Rattle.ynl_packed.proofs.NameFields.{no_kind, no_front, name_found, name_other}
use Rattle.ynl_packed.proofs.cursor.Cursor.name.Goals as goal

pub returns-in_default : goal.returns-in_default
returns-in_default c = no_kind c.args.self.now.rest.now c.in_default.ensures

pub returns-in_default-front : goal.returns-in_default-front
returns-in_default-front c = no_front c.args.self.now.rest.now _ _ c.in-Some.ensures c.in_default-front.ensures.gives

pub returns-in-Ok : goal.returns-in-Ok
returns-in-Ok c = name_found c.args.self.now.rest.now _ _ _ _ c.in-Ok.name c.in-Some.ensures c.in-Some-front.ensures.gives (sym c.in-Ok.ensures)

pub returns-in-Err : goal.returns-in-Err
returns-in-Err c = name_other c.args.self.now.rest.now _ _ _ _ c.in-Err.field-0 c.in-Some.ensures c.in-Some-front.ensures.gives (sym c.in-Err.ensures)
