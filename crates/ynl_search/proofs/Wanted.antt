-- What passes among the requests of applications is wanted.
use Rattle.std.proofs.Common.{◌≡◌, ◌⊎◌, ℕ, Bool, true, false, not, ◌&&◌, cond, nat_eq, List, [], ◌∷◌, map, filter, find, is_some, Option, None, Some, option_map, inl, inr, refl, sym, ap, ◌∙◌, arith, true≢false}
use Rattle.std.specs.Prelude.{IfSome}
use Rattle.std.specs.Option.{option_map_or}
use Rattle.std.proofs.lemmas.Bool.{and_from}
use Rattle.std.proofs.lemmas.Bool.Decides.{nat_tests}
use Rattle.ynl_model.specs.Service.{Item}
use Rattle.ynl_tables.specs.declared.apps.asks.Ask.{Ask}
use Rattle.ynl_tables.specs.apps.Asks.{find_ask, is_ask_of}
use Rattle.ynl_tables.specs.declared.containers.container.Role.{Role}
use Rattle.ynl_tables.specs.declared.containers.container.Role.TheVariants.{Master, Ask as Asked}
use Rattle.ynl_inventory.specs.Rows.{Rows, AppRow}
use Rattle.ynl_inventory.specs.Apps.{runs_at}
use Rattle.ynl_cluster.specs.requests.First.{Asker, IsFirstPassing}
use Rattle.ynl_cluster.specs.requests.Requests.{Request, ask_request, asked, master_request, master_wanted, wanted}
use Rattle.ynl_cluster.proofs.requests.Members.{Among, among-contained, among-either, among-filter, among-map}
use Rattle.ynl_search.specs.declared.found.Found.{Found}
use Rattle.ynl_search.specs.Laws.{asks_role, is_asked, is_wanted, item_found, item_if, no_item, wants_role}
use Rattle.ynl_search.proofs.FirstIn.{found_by}

-- in a list under a condition
conditional : {X : Type 0} (x : X) (b : Bool) (xs : List X) → Among x (cond b xs []) → (b ≡ true) × Among x xs
conditional x true xs there = (refl, there)
conditional x false xs there = absurd there

-- where one of a list passes, one is found
find-some : {X : Type 0} (p : X → Bool) (x : X) (xs : List X) → Among x xs → p x ≡ true → is_some (find p xs) ≡ true
find-some p x [] there passes = absurd there
find-some {X = X} p x (y ∷ ys) there passes = go (p y) refl there (λ at. find-some p x ys at passes)
  where
    go : (b : Bool) → p y ≡ b → (y ≡ x) ⊎ Among x ys → (Among x ys → is_some (find p ys) ≡ true) → is_some (cond b (Some y) (find p ys)) ≡ true
    go true q at rest = refl
    go false q (inl same) rest = absurd (true≢false (sym (ap p same ∙ passes) ∙ q))
    go false q (inr at) rest = rest at

own-ask : (ask : Ask) → is_ask_of ask.partition ask.priority ask ≡ true
own-ask ask = grind (arith, nat_tests)

module _ (v : Rows) (p : ℕ) where
  -- what a running application asks for is an ask of it
  in-asked : (n : ℕ) (row : AppRow) (r : Request) → Among r (asked v p n row) → asks_role p row r.role ≡ true
  in-asked n row r there =
      let here = conditional r (runs_at v n row) (map ask_request (filter (λ ask. nat_eq ask.partition p) row.asks)) there in
      let own = among-map ask_request r (filter (λ ask. nat_eq ask.partition p) row.asks) here.1 in
      let its = among-filter (λ ask. nat_eq ask.partition p) own.0 row.asks own.1 in
      ap (λ (r : Request). asks_role p row r.role) (sym own.2)
      ∙ and_from (nat_eq own.0.partition p) (is_some (find_ask own.0.partition own.0.priority row.asks)) its.1 (find-some (is_ask_of own.0.partition own.0.priority) own.0 row.asks its.0 (own-ask own.0))

  -- so it is wanted
  asks-wants : (n : ℕ) (row : AppRow) (role : Role) → asks_role p row role ≡ true → wants_role v p n row role ≡ true
  asks-wants n row Master h = absurd (true≢false (sym h))
  asks-wants n row (Asked asked priority) h = h

  -- as the master of one that waits is
  in-wanted : (n : ℕ) (row : AppRow) (r : Request) → Among r (wanted v p n row) → wants_role v p n row r.role ≡ true
  in-wanted n row r there = go (among-either r (master_wanted v p n row) (asked v p n row) there)
    where
      own : (not (runs_at v n row) && nat_eq row.home p) ≡ true → (master_request row ≡ r) ⊎ ⊥ → wants_role v p n row r.role ≡ true
      own waits (inl is) = ap (λ (r : Request). wants_role v p n row r.role) (sym is) ∙ waits
      own waits (inr none) = absurd none

      go : Among r (master_wanted v p n row) ⊎ Among r (asked v p n row) → wants_role v p n row r.role ≡ true
      go (inl at) = let here = conditional r (not (runs_at v n row) && nat_eq row.home p) (master_request row ∷ []) at in own here.0 here.1
      go (inr at) = asks-wants n row r.role (in-asked n row r at)

  -- the first that passes is wanted
  pub own-wanted : (test : Item → Bool) (q : ℕ) (a : Option Asker) → IsFirstPassing v (wanted v p) test q a → IfSome (option_map found_by a) (λ found. is_wanted v p found ≡ true)
  own-wanted test q None first = tt
  own-wanted test q (Some a) first =
      ap (λ o. option_map_or (λ (row : AppRow). wants_role v p a.number row a.request.role) o false) first.0.found
      ∙ in-wanted a.number a.row a.request (among-contained a.request (wanted v p a.number a.row) first.0.there)

  -- or asked for
  pub guest-asked : (test : Item → Bool) (q : ℕ) (a : Option Asker) → IsFirstPassing v (asked v p) test q a → IfSome (option_map found_by a) (λ found. is_asked v p found ≡ true)
  guest-asked test q None first = tt
  guest-asked test q (Some a) first =
      ap (λ o. option_map_or (λ (row : AppRow). asks_role p row a.request.role) o false) first.0.found
      ∙ in-asked a.number a.row a.request (among-contained a.request (asked v p a.number a.row) first.0.there)

-- what passes is the request that was found
pub if-same : (v : Rows) (test : Found → Bool) (o : Option Found) → IfSome o (λ found. test found ≡ true) → option_map (item_if test v) o ≡ option_map (item_found v) o
if-same v test None h = refl
if-same v test (Some found) h = ap (λ b. Some (cond b (item_found v found) no_item)) h
