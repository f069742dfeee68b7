-- Texts for a reader, put together from pieces.
use Rattle.std.specs.Prelude.{ℕ, ◌==◌, List, ◌++◌, decimal, codes, if◌then◌else◌}
use Rattle.ynl_resource.specs.declared.amounts.Resource.{Resource}
use Rattle.ynl_resource.specs.declared.labels.Label.{Label}
use Rattle.ynl_resource.specs.declared.labels.Label.TheVariants.{Unlabelled, Named as Labelled}
use Rattle.ynl_explain.specs.declared.pieces.Piece.{Piece}
use Rattle.ynl_explain.specs.declared.pieces.Piece.TheVariants.{Word, Named, Partition, Number, Nodes, Amount, Size}

-- the word for one thing, or for so many of them
abbrev pub word_for : ℕ → List ℕ → List ℕ → List ℕ
word_for n one more = if n == 1 then one else more

-- so many nodes
abbrev pub nodes_text : ℕ → List ℕ
nodes_text n = decimal n ++ word_for n (codes " node") (codes " nodes")

-- so many virtual cores
abbrev pub vcores_text : ℕ → List ℕ
vcores_text n = decimal n ++ word_for n (codes " vcore") (codes " vcores")

-- an amount
abbrev pub amount_text : Resource → List ℕ
amount_text r = decimal r.memory ++ (codes " MB and " ++ vcores_text r.vcores)

-- the name of a partition
abbrev pub partition_name : Label → List ℕ
partition_name Unlabelled = codes "DEFAULT"
partition_name (Labelled name) = name

-- the text of a piece
abbrev pub piece_text : Piece → List ℕ
piece_text (Word text) = text.now
piece_text (Named name) = name.now
piece_text (Partition label) = partition_name label.now
piece_text (Number n) = decimal n
piece_text (Nodes n) = nodes_text n
piece_text (Amount amount) = amount_text amount
piece_text (Size size) = amount_text size.now
