use Rattle.std.proofs.Common.{◌≡◌, ◌++◌, ◌∷◌, IfOk, Ok, string_bytes, ap, ◌∙◌}
use Rattle.std.proofs.lemmas.Result.{IfOk-weaker}
use Rattle.std.specs.Fmt.{decimal}
use Rattle.ynl_resource.specs.Texts.{read_id, id_text}
use Rattle.ynl_resource.proofs.IdTexts.{reads_id}
use Rattle.ynl_resource.proofs.ids.Id.text.Goals as goal

pub returns-clause-text : goal.returns-clause-text
returns-clause-text c =
    let h : IfOk c.format.result (λ t. string_bytes t ≡ c.as_str-label.result.now ++ 35 ∷ decimal c.args.self.now.clock) = c.format.ensures.ok in
    rw c.as_str-label.ensures.text at h

pub returns-clause-reads : goal.returns-clause-reads
returns-clause-reads c = λ some small.
    let id = c.args.self.now in
    let h : IfOk c.format.result (λ t. string_bytes t ≡ id_text id) = returns-clause-text c in
    IfOk-weaker c.format.result (λ t. string_bytes t ≡ id_text id) (λ t. read_id (string_bytes t) ≡ Ok id) (λ t e. ap read_id e ∙ reads_id id c.as_str-label.result.now some small c.as_str-label.ensures.text c.as_str-label.ensures.reads) h
