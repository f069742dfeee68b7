-- The lists of receipts of all seats.
use Rattle.std.proofs.Common.{◌≡◌, ℕ, ◌+◌, ◌<◌, sym, ap, ◌∙◌, arith, List, [], ◌∷◌, ◌++◌, Bool, length, take, get_or, subst, append-nil, All, Some, Result, Ok, Err}
use Rattle.std.specs.Prelude.{map, sum, IfErr}
use Rattle.std.specs.Result.{IsErrAnd}
use Rattle.std.proofs.lemmas.List.{take_more, get_or-map, length-map}
use Rattle.std.proofs.lemmas.Option.{slice_get-get_or}
use Rattle.std.proofs.lemmas.Grind.{same_number_lists}
use Rattle.std.proofs.lemmas.List.Sums.{sum-map}
use Rattle.std.proofs.lemmas.List.Concat.{flat_map-append, length-flat_map}
use Rattle.std.proofs.lemmas.List.Elements.{All-more}
use Rattle.ynl_model.specs.declared.entries.Entry.{Entry}
use Rattle.ynl_live.specs.declared.receipts.Receipt.{Receipt}
use Rattle.ynl_live.specs.Seats.{Standing}
use Rattle.ynl_live.specs.Receipts.{all_receipts, EachOnce, ListFits, calls_on, IsOneForEach}
use Rattle.ynl_live.specs.Marks.{IsMarked}
use Rattle.ynl_live.specs.Misfits.{IsFirstMisfit, IsMisfit}
use Rattle.ynl_live.proofs.Marks.{EachOnce-from_marks}

-- the receipts of one list more
pub all_receipts-more : (lists : List (List Receipt)) (i : ℕ) (v : List Receipt) → i < length lists → v ≡ get_or lists i v → all_receipts (take (i + 1) lists) ≡ all_receipts (take i lists) ++ v
all_receipts-more lists i v inside at =
    let more : take (i + 1) lists ≡ take i lists ++ v ∷ [] = take_more lists i v inside ∙ ap (λ (x : List Receipt). take i lists ++ x ∷ []) (sym at) in
    let one : all_receipts (v ∷ []) ≡ v = append-nil v in
    ap all_receipts more ∙ flat_map-append (λ (x : List Receipt). x) (take i lists) (v ∷ []) ∙ ap (λ (xs : List Receipt). all_receipts (take i lists) ++ xs) one

-- the lists that fit the seats have as many receipts as the seats made calls
pub length-all_receipts : (seats : List Standing) (lists : List (List Receipt)) → IsOneForEach seats lists → length (all_receipts lists) ≡ calls_on seats
length-all_receipts seats lists fit =
    length-flat_map (λ (v : List Receipt). v) lists ∙ sym (sum-map (λ (v : List Receipt). length v) lists) ∙ ap sum fit ∙ sum-map (λ (s : Standing). s.calls) seats

-- how long the list of the seat i is
pub list_len_at : (lists : List (List Receipt)) (i : ℕ) (v : List Receipt) → i < length lists → v ≡ get_or lists i v → get_or (map (λ (x : List Receipt). length x) lists) i 0 ≡ length v
list_len_at lists i v inside at =
    get_or-map (λ (x : List Receipt). length x) lists i v 0 inside ∙ ap (λ (x : List Receipt). length x) (sym at)

-- how many calls the seat i has
pub calls_at : (seats : List Standing) (i : ℕ) (s : Standing) → i < length seats → s ≡ get_or seats i s → get_or (map (λ (x : Standing). x.calls) seats) i 0 ≡ s.calls
calls_at seats i s inside at = get_or-map (λ (x : Standing). x.calls) seats i s 0 inside ∙ ap (λ (x : Standing). x.calls) (sym at)

-- there is one list for each seat where each is as long as its seat's calls
pub IsOneForEach-from_each : (seats : List Standing) (lists : List (List Receipt)) → length lists ≡ length seats → ((k : ℕ) → k < length seats → get_or (map (λ (v : List Receipt). length v) lists) k 0 ≡ get_or (map (λ (s : Standing). s.calls) seats) k 0) → IsOneForEach seats lists
IsOneForEach-from_each seats lists len each =
    let a = length-map lists (λ (v : List Receipt). length v) in
    let b = length-map seats (λ (s : Standing). s.calls) in
    same_number_lists _ _ (a ∙ len ∙ sym b) (λ k inside. each k (omega arith))

-- the lists up to a place are marked, and so are those up to the next
pub lists_marked : (entries : List Entry) (met now : List Bool) (lists : List (List Receipt)) (i : ℕ) (v : List Receipt) (items : List Receipt) → i < length lists → v ≡ get_or lists i v → items ≡ v → All (λ w. ListFits entries w) (take i lists) → IsMarked met (all_receipts (take i lists)) → ListFits entries items → ((seen : List Receipt) → IsMarked met seen → IsMarked now (seen ++ items)) → All (λ w. ListFits entries w) (take (i + 1) lists) × IsMarked now (all_receipts (take (i + 1) lists))
lists_marked entries met now lists i v items inside at is fit marked fits marks =
    let P : List Receipt → Type 0 = λ w. ListFits entries w in
    let N : List Receipt → Type 0 = λ xs. IsMarked now xs in
    let F : List Receipt → Type 0 = λ xs. ListFits entries xs in
    let here : P (get_or lists i v) = subst P at (subst F is fits) in
    let more : all_receipts (take i lists) ++ items ≡ all_receipts (take (i + 1) lists) = ap (λ (xs : List Receipt). all_receipts (take i lists) ++ xs) is ∙ sym (all_receipts-more lists i v inside at) in
    (All-more P lists i v inside fit here, subst N more (marks (all_receipts (take i lists)) marked))

-- where the receipts of all lists are marked, and are as many as the places, each place is in exactly one
pub EachOnce-at_close : (marks : List Bool) (seats : List Standing) (lists : List (List Receipt)) (n : ℕ) → IsMarked marks (all_receipts lists) → IsOneForEach seats lists → calls_on seats ≡ n → length marks ≡ n → EachOnce n (all_receipts lists)
EachOnce-at_close marks seats lists n marked fit calls len =
    let E : ℕ → Type 0 = λ k. EachOnce k (all_receipts lists) in
    subst E len (EachOnce-from_marks marks (all_receipts lists) marked (length-all_receipts seats lists fit ∙ calls ∙ sym len))

-- the first misfit of a list is the first of all, where the lists before it fit
pub IsMisfit-in_list : (entries : List Entry) (met : List Bool) (lists : List (List Receipt)) (i : ℕ) (v : List Receipt) (items : List Receipt) (place : ℕ) → i < length lists → v ≡ get_or lists i v → items ≡ v → All (λ w. ListFits entries w) (take i lists) → IsMarked met (all_receipts (take i lists)) → ((seen : List Receipt) → IsMarked met seen → IsFirstMisfit entries seen items place) → IsMisfit entries lists place
IsMisfit-in_list entries met lists i v items place inside at is fit marked misfit =
    let F : List Receipt → Type 0 = λ xs. IsFirstMisfit entries (all_receipts (take i lists)) xs place in
    record {
      before = i;
      list = v;
      at = slice_get-get_or lists i v inside ∙ ap (λ (x : List Receipt). Some x) (sym at);
      fit = fit;
      first = subst F is (misfit (all_receipts (take i lists)) marked);
    }

-- what is told of an error holds of the result
pub IfErr-told : {T E : Type 0} (r : Result T E) (P : E → Type 0) (e : E) → P e → IsErrAnd r (λ x. x ≡ e) → IfErr r P
IfErr-told (Ok x) P e p told = tt
IfErr-told (Err x) P e p told = subst P (sym told) p
