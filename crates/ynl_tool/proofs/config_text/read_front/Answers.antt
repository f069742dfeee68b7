use Rattle.std.proofs.Common.{◌≡◌, ◌++◌, IfSome, take, subst}
use Rattle.std.specs.Prelude.{option_map}
use Rattle.ynl_commands.proofs.Fronts.{read_front as front_read}
use Rattle.ynl_tool.proofs.config_text.read_front.Goals as goal

pub returns-in-Ok-clause-text : goal.returns-in-Ok-clause-text
returns-in-Ok-clause-text g c =
    front_read (g.F.Read.remaining c.args.file.now) c.take-front.result.limit c.args.most c.args.text.now.items c.read_to_end.new.buf.items c.take-front.ensures.limit
    (subst (λ f. IfSome (option_map (take c.take-front.result.limit) (g.F.Read.remaining f.now)) (λ xs. c.read_to_end.new.buf.items ≡ c.args.text.now.items ++ xs))
    c.take-front.ensures.inner c.in-Ok.ensures.bytes)
