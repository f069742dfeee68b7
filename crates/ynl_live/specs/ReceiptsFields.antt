-- What the fields of a list of receipts mean.
use Rattle.std.specs.Prelude.{◌≡◌, ℕ, List, [], ◌∷◌, All, length}
use Rattle.std.specs.Option.{option_map_or}
use Rattle.ynl_model.specs.declared.entries.Entry.{Entry}
use Rattle.ynl_model.specs.declared.replies.Reply.TheVariants.{Done}
use Rattle.ynl_live.specs.declared.receipts.Receipt.{Receipt}
use Rattle.ynl_live.specs.declared.receipts.Receipts.TheInside.{Inside}
use Rattle.ynl_live.specs.Receipts.{entry_of}

-- the receipt of a place and an entry; an entry without a reply is never seen
abbrev pub receipt_at : ℕ → Entry → Receipt
receipt_at place e = record { place = place; event = e.event; reply = option_map_or (λ r. r) e.reply Done }

abbrev pub receipts_from : List ℕ → List Entry → List Receipt
receipts_from [] entries = []
receipts_from (place ∷ places) [] = []
receipts_from (place ∷ places) (e ∷ es) = receipt_at place e ∷ receipts_from places es

abbrev pub receipts_of : Inside → List Receipt
receipts_of r = receipts_from r.places.items r.entries

-- an entry has a reply
abbrev pub IsAnswered : Entry → Type 0
IsAnswered e = entry_of (receipt_at 0 e) ≡ e

-- there is an entry for each place, and each has a reply
pub record AreKept (r : Inside) : Type 0 where
  pub counted : length r.entries ≡ length r.places.items
  pub answered : All IsAnswered r.entries
