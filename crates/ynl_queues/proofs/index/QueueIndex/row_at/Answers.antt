use Rattle.std.proofs.Common.{◌≡◌, ℕ, ◌<◌, List, [], length, get_or, map, Option, Some, None, IfSome, Bor, sym, ap, ◌∙◌, arith}
use Rattle.std.specs.Prelude.{is_some, nat_lt}
use Rattle.std.proofs.lemmas.Bool.Decides.{nat_tests}
use Rattle.std.proofs.lemmas.List.{get_or-map, length-map}
use Rattle.ynl_resource.specs.declared.paths.Path.{Path}
use Rattle.ynl_model.specs.Queues.{QueueRow}
use Rattle.ynl_queues.specs.declared.index.IndexRow.{IndexRow}
use Rattle.ynl_queues.proofs.index.QueueIndex.row_at.Goals as goal

kept-path : IndexRow → Path
kept-path row = row.path

row-path : QueueRow → Path
row-path row = row.path

path-read : (kept : List IndexRow) (rows : List QueueRow) (place : ℕ) (d : QueueRow) (row : IndexRow) → place < length kept → row ≡ get_or kept place row → map kept-path kept ≡ map row-path rows → kept-path row ≡ row-path (get_or rows place d)
path-read kept rows place d row inside read same =
    let within : place < length rows = omega (arith, inside, length-map kept kept-path, ap length same, length-map rows row-path) in
    ap kept-path read ∙ sym (get_or-map kept-path kept place row [] inside) ∙ ap (λ (paths : List Path). get_or paths place []) same ∙ get_or-map row-path rows place d [] within

found-path : (kept : List IndexRow) (rows : List QueueRow) (place : ℕ) (d : QueueRow) (found : Option (Bor IndexRow)) → is_some found ≡ nat_lt place (length kept) → IfSome found (λ row. row.now ≡ get_or kept place row.now) → map kept-path kept ≡ map row-path rows
    → IfSome found (λ row. kept-path row.now ≡ row-path (get_or rows place d))
found-path kept rows place d None some read same = tt
found-path kept rows place d (Some row) some read same = path-read kept rows place d row.now (grind (arith, nat_tests)) read same

pub returns-clause-path : goal.returns-clause-path
unfolding kept-path row-path
returns-clause-path c = λ rows d same.
    found-path c.deref.result.now rows c.args.place d c.get.result c.get.ensures.lookup.0 c.get.ensures.lookup.1 (ap (map kept-path) c.deref.ensures.value ∙ same)
