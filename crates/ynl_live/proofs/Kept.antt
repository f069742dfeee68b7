-- Receipts that are kept as places and entries.
use Rattle.std.proofs.Common.{◌≡◌, ℕ, zero, suc, ◌<◌, List, [], ◌∷◌, ◌++◌, length, get_or, refl, sym, ap, ◌∙◌, arith}
use Rattle.std.specs.Prelude.{All}
use Rattle.std.proofs.lemmas.List.Elements.{All-get_or}
use Rattle.ynl_model.specs.declared.entries.Entry.{Entry}
use Rattle.ynl_model.specs.declared.events.Event.TheVariants.{Heartbeat}
use Rattle.ynl_model.specs.declared.replies.Reply.TheVariants.{Done}
use Rattle.ynl_live.specs.declared.receipts.Receipt.{Receipt}
use Rattle.ynl_live.specs.Receipts.{entry_of}
use Rattle.ynl_live.specs.ReceiptsFields.{receipt_at, receipts_from, IsAnswered}

pub receipts_len : (places : List ℕ) (entries : List Entry) → length entries ≡ length places → length (receipts_from places entries) ≡ length places
receipts_len [] entries same = refl
receipts_len (p ∷ ps) [] same = absurd (omega (arith, same))
receipts_len (p ∷ ps) (e ∷ es) same = ap suc (receipts_len ps es (omega (arith, same)))

pub receipts_push : (places : List ℕ) (entries : List Entry) (receipt : Receipt) → length entries ≡ length places →
    receipts_from (places ++ receipt.place ∷ []) (entries ++ entry_of receipt ∷ []) ≡ receipts_from places entries ++ receipt ∷ []
receipts_push [] [] receipt same = refl
receipts_push [] (e ∷ es) receipt same = absurd (omega (arith, same))
receipts_push (p ∷ ps) [] receipt same = absurd (omega (arith, same))
receipts_push (p ∷ ps) (e ∷ es) receipt same = ap (λ (rest : List Receipt). receipt_at p e ∷ rest) (receipts_push ps es receipt (omega (arith, same)))

-- the place of the receipt of a number
pub place_at : (places : List ℕ) (entries : List Entry) (i : ℕ) (d : Receipt) (e : ℕ) → length entries ≡ length places → i < length places → get_or places i e ≡ (get_or (receipts_from places entries) i d).place
place_at [] entries i d e same lt = absurd (omega (arith, lt))
place_at (p ∷ ps) [] i d e same lt = absurd (omega (arith, same))
place_at (p ∷ ps) (x ∷ xs) zero d e same lt = refl
place_at (p ∷ ps) (x ∷ xs) (suc i) d e same lt = place_at ps xs i d e (omega (arith, same)) (omega (arith, lt))

-- the entry that it tells of
told_at : (places : List ℕ) (entries : List Entry) (i : ℕ) (d : Receipt) (e : Entry) → length entries ≡ length places → i < length places → entry_of (get_or (receipts_from places entries) i d) ≡ entry_of (receipt_at 0 (get_or entries i e))
told_at [] entries i d e same lt = absurd (omega (arith, lt))
told_at (p ∷ ps) [] i d e same lt = absurd (omega (arith, same))
told_at (p ∷ ps) (x ∷ xs) zero d e same lt = refl
told_at (p ∷ ps) (x ∷ xs) (suc i) d e same lt = told_at ps xs i d e (omega (arith, same)) (omega (arith, lt))

pub entry_at : (places : List ℕ) (entries : List Entry) (i : ℕ) (d : Receipt) (e : Entry) → length entries ≡ length places → All IsAnswered entries → i < length places →
    get_or entries i e ≡ entry_of (get_or (receipts_from places entries) i d)
entry_at places entries i d e same answered lt = sym (told_at places entries i d e same lt ∙ All-get_or IsAnswered entries i e (omega (arith, same, lt)) answered)

-- stands for a receipt that is not there
pub any_receipt : Receipt
any_receipt = record { place = 0; event = Heartbeat []; reply = Done }
