-- Where not too many texts stand together, not too many queues stand just below one.
use Rattle.std.proofs.Common.{◌≡◌, ℕ, ◌≤◌, Bool, true, false, cond, List, [], ◌∷◌, ◌++◌, length, map, refl, sym, ap, ◌∙◌, subst, arith, nat_lt, Ok, Err, Result, codes}
use Rattle.std.specs.Prelude.{◌||◌, ◌&&◌}
use Rattle.std.specs.List.{list_any, list_all, filter, slice_split, join_with_byte}
use Rattle.std.proofs.lemmas.Bool.{and_parts}
use Rattle.std.proofs.lemmas.Bool.Decides.{nat_tests}
use Rattle.std.proofs.lemmas.List.{length-map}
use Rattle.std.proofs.lemmas.List.Splits.{join_with_byte-slice_split}
use Rattle.std.proofs.lemmas.Slice.Eq.{bytes_eq-Decides}
use Rattle.ynl_resource.specs.NameText.{is_name}
use Rattle.ynl_resource.specs.Names.{same_name, same_path}
use Rattle.ynl_resource.specs.Texts.{is_dot, read_path, path_of}
use Rattle.ynl_resource.specs.Ranges.{most_names}
use Rattle.ynl_resource.specs.declared.names.Name.{Name}
use Rattle.ynl_resource.specs.declared.paths.Path.{Path}
use Rattle.ynl_resource.specs.declared.paths.PathFault.{PathFault}
use Rattle.ynl_resource.specs.declared.paths.PathFault.TheVariants.{TooDeep, BadPath}
use Rattle.ynl_resource.proofs.Bytes.{list_any-Lacks, list_any-at}
use Rattle.ynl_resource.proofs.IdTexts.{is_name_lacks}
use Rattle.ynl_resource.proofs.PathTexts.{join_push}
use Rattle.ynl_model.specs.Nodes.{Labels}
use Rattle.ynl_model.specs.Queues.{QueueRow, Config}
use Rattle.ynl_model.specs.Accepted.{parent_of, children, all_queues}
use Rattle.ynl_queues.specs.Written.{WrittenRow, above, stand_together, are_too_many, is_below_root, row_of, configured, is_crowded, or_root}

-- ---- texts of paths

-- two paths that are the same
same_path_is : (p q : Path) → same_path p q ≡ true → p ≡ q
same_path_is [] [] h = refl
same_path_is [] (y ∷ q) h = absurd cc
same_path_is (x ∷ p) [] h = absurd cc
same_path_is (x ∷ p) (y ∷ q) h =
    let parts = and_parts (same_name x y) (same_path p q) h in
    let first : x ≡ y = (bytes_eq-Decides x y).0 parts.0 in
    let rest : p ≡ q = same_path_is p q parts.1 in
    λ i. first i ∷ rest i

-- what stands before the last part of a text
above-join : (text part : List ℕ) → list_any is_dot part ≡ false → above (text ++ 46 ∷ part) ≡ text
above-join [] part none = rw none
above-join (b ∷ text) part none = rw (list_any-at 46 text part) (ap (λ t. b ∷ t) (above-join text part none))

-- a path of names has a last name below its parent
last_of : (name : Name) (path : Path) → list_all is_name (name ∷ path) ≡ true → (last : Name) × ((name ∷ path) ≡ parent_of (name ∷ path) ++ last ∷ []) × (is_name last ≡ true)
last_of name [] h = (name, refl, (and_parts (is_name name) true h).0)
last_of name (next ∷ path) h =
    let rest = last_of next path (and_parts (is_name name) _ h).1 in
    (rest.0, ap (λ p. name ∷ p) rest.1, rest.2)

-- the text of a path, without its last name, is its parent's
above-text : (name : Name) (path : Path) → list_all is_name (name ∷ path) ≡ true → above (join_with_byte 46 (codes "root" ∷ (name ∷ path))) ≡ join_with_byte 46 (codes "root" ∷ parent_of (name ∷ path))
above-text name path h =
    let last = last_of name path h in
    ap (λ p. above (join_with_byte 46 (codes "root" ∷ p))) last.1
    ∙ ap above (join_push 46 (codes "root") (parent_of (name ∷ path)) last.0)
    ∙ above-join (join_with_byte 46 (codes "root" ∷ parent_of (name ∷ path))) last.0 (list_any-Lacks 46 last.0 (is_name_lacks 46 refl last.0 last.2))

-- what the parts of a text say of it, where they are a path
parts_read : (text : List ℕ) (parts : List (List ℕ)) (path : Path) → slice_split is_dot text ≡ parts → path_of parts ≡ Ok path → (text ≡ join_with_byte 46 (codes "root" ∷ path)) × (list_all is_name path ≡ true)
parts_read text [] path h read = absurd cc
parts_read text (first ∷ names) path h read = chosen (same_name first (codes "root")) (list_all is_name names) refl refl read
  where
    chosen : (a b : Bool) → same_name first (codes "root") ≡ a → list_all is_name names ≡ b → cond (a && b) (Ok names) (Err BadPath) ≡ Ok path → (text ≡ join_with_byte 46 (codes "root" ∷ path)) × (list_all is_name path ≡ true)
    chosen true true e f g =
        let same : names ≡ path = cc in
        let named : first ≡ codes "root" = (bytes_eq-Decides first (codes "root")).0 e in
        (sym (join_with_byte-slice_split 46 text) ∙ ap (join_with_byte 46) h ∙ (λ i. join_with_byte 46 (named i ∷ same i)), subst (λ ns. list_all is_name ns ≡ true) same f)
    chosen true false e f g = absurd cc
    chosen false b e f g = absurd cc

-- a text that is read as a path is the path's text
path_read : (text : List ℕ) (path : Path) → read_path text ≡ Ok path → (text ≡ join_with_byte 46 (codes "root" ∷ path)) × (list_all is_name path ≡ true)
unfolding read_path
path_read text path h = by_depth (nat_lt most_names (length (slice_split is_dot text))) h
  where
    by_depth : (b : Bool) → cond b (Err TooDeep) (path_of (slice_split is_dot text)) ≡ Ok path → (text ≡ join_with_byte 46 (codes "root" ∷ path)) × (list_all is_name path ≡ true)
    by_depth true h = absurd cc
    by_depth false h = parts_read text (slice_split is_dot text) path refl h

-- a row's text without its last part is the text of its queue's parent
above_read : (text : List ℕ) → is_below_root (read_path text) ≡ true → above text ≡ join_with_byte 46 (codes "root" ∷ parent_of (or_root (read_path text)))
above_read text below = by_result (read_path text) refl below
  where
    by_result : (r : Result Path PathFault) → read_path text ≡ r → is_below_root r ≡ true → above text ≡ join_with_byte 46 (codes "root" ∷ parent_of (or_root r))
    by_result (Ok []) e h = absurd cc
    by_result (Ok (name ∷ path)) e h = let said = path_read text (name ∷ path) e in ap above said.0 ∙ above-text name path said.1
    by_result (Err fault) e h = absurd cc

-- ---- counts

neither : (a b : Bool) → (a || b) ≡ false → (a ≡ false) × (b ≡ false)
neither true b h = absurd cc
neither false b h = (refl, h)

none_of : {X : Type 0} (p : X → Bool) → ((x : X) → p x ≡ false) → (xs : List X) → list_any p xs ≡ false
none_of p h [] = refl
none_of p h (x ∷ xs) = rw (h x) (none_of p h xs)

filter_none : {X : Type 0} (p : X → Bool) (xs : List X) → list_any p xs ≡ false → filter p xs ≡ []
filter_none p [] h = refl
filter_none p (x ∷ xs) h = let parts = neither (p x) (list_any p xs) h in rw parts.0 (filter_none p xs parts.1)

filter-map : {X Y : Type 0} (p : Y → Bool) (f : X → Y) (xs : List X) → filter p (map f xs) ≡ map f (filter (λ x. p (f x)) xs)
filter-map p f [] = refl
filter-map {X} {Y} p f (x ∷ xs) = by_test (p (f x)) (filter-map p f xs)
  where
    by_test : (b : Bool) → filter p (map f xs) ≡ map f (filter (λ y. p (f y)) xs) → cond b (f x ∷ filter p (map f xs)) (filter p (map f xs)) ≡ map f (cond b (x ∷ filter (λ y. p (f y)) xs) (filter (λ y. p (f y)) xs))
    by_test true rest = ap (λ ys. f x ∷ ys) rest
    by_test false rest = rest

-- what passes one test passes the other, so no more pass the first
filter_less : {X : Type 0} (q s valid : X → Bool) → ((x : X) → valid x ≡ true → q x ≡ true → s x ≡ true) → (xs : List X) → list_all valid xs ≡ true → length (filter q xs) ≤ length (filter s xs)
filter_less q s valid h [] v = omega arith
filter_less {X} q s valid h (x ∷ xs) v =
    let parts = and_parts (valid x) (list_all valid xs) v in
    by_tests (q x) (s x) (λ e. h x parts.0 e) refl refl (filter_less q s valid h xs parts.1)
  where
    by_tests : (a b : Bool) → (q x ≡ true → s x ≡ true) → q x ≡ a → s x ≡ b → length (filter q xs) ≤ length (filter s xs)
        → length (cond a (x ∷ filter q xs) (filter q xs)) ≤ length (cond b (x ∷ filter s xs) (filter s xs))
    by_tests true true k e f rest = omega arith
    by_tests true false k e f rest = let both = k e in absurd cc
    by_tests false true k e f rest = omega arith
    by_tests false false k e f rest = rest

-- an element that passes, where one does; and what no element passes, it does not pass
pick : {X : Type 0} (q valid : X → Bool) (xs : List X) → list_all valid xs ≡ true → list_any q xs ≡ true → (x : X) × ((p : X → Bool) → list_any p xs ≡ false → p x ≡ false) × (q x ≡ true) × (valid x ≡ true)
pick q valid [] v h = absurd cc
pick {X} q valid (x ∷ xs) v h = by_test (q x) refl h (and_parts (valid x) (list_all valid xs) v) (λ u g. pick q valid xs u g)
  where
    by_test : (b : Bool) → q x ≡ b → (b || list_any q xs) ≡ true → (valid x ≡ true) × (list_all valid xs ≡ true)
        → (list_all valid xs ≡ true → list_any q xs ≡ true → (y : X) × ((p : X → Bool) → list_any p xs ≡ false → p y ≡ false) × (q y ≡ true) × (valid y ≡ true))
        → (y : X) × ((p : X → Bool) → list_any p (x ∷ xs) ≡ false → p y ≡ false) × (q y ≡ true) × (valid y ≡ true)
    by_test true e g parts rest = (x, (λ p n. (neither (p x) (list_any p xs) n).0), e, parts.0)
    by_test false e g parts rest = let found = rest parts.1 g in (found.0, (λ p n. found.1 p (neither (p x) (list_any p xs) n).1), found.2, found.3)

-- where all that pass a test stand together, and at most 64 stand together, at most 64 pass
few_pass : {X : Type 0} (q valid : X → Bool) (s : X → X → Bool) → ((x y : X) → valid x ≡ true → valid y ≡ true → q x ≡ true → q y ≡ true → s x y ≡ true)
    → (xs : List X) → list_all valid xs ≡ true → list_any (λ x. nat_lt 64 (length (filter (s x) xs))) xs ≡ false → nat_lt 64 (length (filter q xs)) ≡ false
few_pass {X} q valid s together xs v few = by_any (list_any q xs) refl
  where
    by_any : (b : Bool) → list_any q xs ≡ b → nat_lt 64 (length (filter q xs)) ≡ false
    by_any false e = ap (λ ys. nat_lt 64 (length ys)) (filter_none q xs e)
    by_any true e =
        let found = pick q valid xs v e in
        let less : length (filter q xs) ≤ length (filter (s found.0) xs) = filter_less q (s found.0) valid (λ y vy qy. together found.0 y found.3 vy found.2 qy) xs v in
        let most : nat_lt 64 (length (filter (s found.0) xs)) ≡ false = found.1 (λ x. nat_lt 64 (length (filter (s x) xs))) few in
        grind (arith, nat_tests)

-- ---- queues

valid : WrittenRow → Bool
valid row = is_below_root (read_path row.path)

just_below : Path → WrittenRow → Bool
just_below queue row = same_path (parent_of (row_of row).path) queue

together : (queue : Path) (a b : WrittenRow) → valid a ≡ true → valid b ≡ true → just_below queue a ≡ true → just_below queue b ≡ true → stand_together a.path b.path ≡ true
unfolding valid just_below row_of
together queue a b va vb qa qb =
    let pa : parent_of (or_root (read_path a.path)) ≡ queue = same_path_is (parent_of (or_root (read_path a.path))) queue qa in
    let pb : parent_of (or_root (read_path b.path)) ≡ queue = same_path_is (parent_of (or_root (read_path b.path))) queue qb in
    (bytes_eq-Decides (above a.path) (above b.path)).1 (above_read a.path va ∙ ap (λ p. join_with_byte 46 (codes "root" ∷ p)) (pa ∙ sym pb) ∙ sym (above_read b.path vb))

few_below : (labels : Labels) (rows : List WrittenRow) (queue : Path) → list_all valid rows ≡ true → list_any (λ row. nat_lt 64 (length (filter (λ other. stand_together row.path other.path) rows))) rows ≡ false
    → nat_lt 64 (length (children (configured labels (map row_of rows)) queue)) ≡ false
unfolding just_below configured
few_below labels rows queue v few =
    ap (λ n. nat_lt 64 n) (ap length (filter-map (λ (row : QueueRow). same_path (parent_of row.path) queue) row_of rows) ∙ length-map (filter (just_below queue) rows) row_of)
    ∙ few_pass (just_below queue) valid (λ row other. stand_together row.path other.path) (together queue) rows v few

pub not_crowded : (labels : Labels) (rows : List WrittenRow) → are_too_many rows ≡ false → list_all (λ row. is_below_root (read_path row.path)) rows ≡ true → is_crowded (configured labels (map row_of rows)) ≡ false
unfolding valid configured
not_crowded labels rows few below =
    let parts = neither (nat_lt 1024 (length rows)) (list_any (λ row. nat_lt 64 (length (filter (λ other. stand_together row.path other.path) rows))) rows) few in
    let c : Config = configured labels (map row_of rows) in
    let len : nat_lt 1024 (length (map row_of rows)) ≡ false = ap (λ n. nat_lt 1024 n) (length-map rows row_of) ∙ parts.0 in
    rw len (none_of (λ (queue : Path). nat_lt 64 (length (children c queue))) (λ queue. few_below labels rows queue below parts.1) (all_queues c))
