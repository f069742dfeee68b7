-- What is found first in a leaf, of masters and of asks.
use Rattle.std.proofs.Common.{◌≡◌, ℕ, Bool, true, false, ◌&&◌, cond, nat_eq, List, [], ◌∷◌, Option, Some, None, refl, sym, ap, ◌∙◌, option_map, true≢false}
use Rattle.std.specs.Map.{lookup}
use Rattle.std.specs.Option.{option_and_then, option_or}
use Rattle.std.proofs.lemmas.Bool.{and_parts}
use Rattle.ynl_resource.specs.Amounts.{fits_in, plus}
use Rattle.ynl_resource.specs.declared.amounts.Resource.{Resource}
use Rattle.ynl_tables.specs.declared.apps.asks.Ask.{Ask}
use Rattle.ynl_lanes.specs.declared.lane.kinds.Kind.{Kind}
use Rattle.ynl_lanes.specs.declared.lane.kinds.Kind.TheVariants as kind
use Rattle.ynl_lanes.specs.lane.Seats.{Seat, first_given, given, given_or, is_waiting, seats_up_to}
use Rattle.ynl_inventory.specs.Rows.{Rows, AppRow}
use Rattle.ynl_search.specs.declared.found.Found.{Found}
use Rattle.ynl_search.specs.declared.leaf.LeafTests.{LeafTests}
use Rattle.ynl_search.specs.InLeaf.{first_own, found_ask, found_master, gives_ask, gives_master, is_open_to, used_on}
use Rattle.ynl_search.specs.Leaves.{keeps_share, passes_ask, passes_master}
use Rattle.ynl_search.specs.Lowest.{lowest}
use Rattle.ynl_search.specs.limits.Limits.{limit_of}
use Rattle.ynl_search.proofs.LowestAsk.{lowest-is}

module _ (v : Rows) (seats : List (ℕ × Seat)) (p : ℕ) (tests : LeafTests) where
  -- what is found in the leaf, by what was found of each kind
  pub first-told : (before : Option ℕ) (master ask : Option (ℕ × Found)) → master ≡ first_given (given kind.Master (gives_master v seats p tests)) seats
      → before ≡ option_map (λ (e : ℕ × Found). e.0) master → ask ≡ first_given (given kind.Ask (gives_ask v seats p tests)) (seats_up_to before seats)
      → option_or (option_map (λ (e : ℕ × Found). e.1) ask) (option_map (λ (e : ℕ × Found). e.1) master) ≡ first_own v seats p tests
  first-told before master ask first at next =
      let asks = next ∙ ap (λ b. first_given (given kind.Ask (gives_ask v seats p tests)) (seats_up_to b seats)) (at ∙ ap (option_map (λ (e : ℕ × Found). e.0)) first) in
      λ i. option_or (option_map (λ (e : ℕ × Found). e.1) (asks i)) (option_map (λ (e : ℕ × Found). e.1) (first i))

  -- ---- where there is no headroom

  module _ (shut : tests.headroom.is_open ≡ false) where
    no-ask : (used size : Resource) → passes_ask tests used size ≡ false
    no-ask used size = ap (λ b. b && fits_in size tests.headroom.room && fits_in (plus used size) (limit_of tests.limits size)) shut

    no-master : (used size : Resource) → passes_master tests used size ≡ false
    no-master used size = ap (λ b. b && keeps_share tests size) (no-ask used size)

    master-none : (n : ℕ) → gives_master v seats p tests n ≡ None
    master-none n = go (lookup (nat_eq n) v.apps)
      where
        at : (row : AppRow) (o : Option Resource) → option_and_then (λ used. cond (passes_master tests used row.master) (Some (found_master n row)) None) o ≡ None
        at row None = refl
        at row (Some used) = ap (λ b. cond b (Some (found_master n row)) None) (no-master used row.master)

        go : (o : Option AppRow) → option_and_then (λ row. option_and_then (λ used. cond (passes_master tests used row.master) (Some (found_master n row)) None) (used_on seats p row)) o ≡ None
        go None = refl
        go (Some row) = at row (used_on seats p row)

    ask-none : (n : ℕ) → gives_ask v seats p tests n ≡ None
    ask-none n = go (lookup (nat_eq n) v.apps)
      where
        nothing : (used : Resource) (asks : List Ask) (o : Option Ask) → lowest (is_open_to v seats p tests used) asks ≡ o → option_map (found_ask n) o ≡ None
        nothing used asks None e = refl
        nothing used asks (Some best) e =
            absurd
            (true≢false
            (sym (and_parts (nat_eq best.partition p) (passes_ask tests used best.size) (lowest-is (is_open_to v seats p tests used) asks best e).passes).1
            ∙ no-ask used best.size))

        at : (row : AppRow) (o : Option Resource) → option_and_then (λ used. option_map (found_ask n) (lowest (is_open_to v seats p tests used) row.asks)) o ≡ None
        at row None = refl
        at row (Some used) = nothing used row.asks (lowest (is_open_to v seats p tests used) row.asks) refl

        go : (o : Option AppRow) → option_and_then (λ row. option_and_then (λ used. option_map (found_ask n) (lowest (is_open_to v seats p tests used) row.asks)) (used_on seats p row)) o ≡ None
        go None = refl
        go (Some row) = at row (used_on seats p row)

    none-given : (k : Kind) (gives : ℕ → Option Found) → ((n : ℕ) → gives n ≡ None) → (some : List (ℕ × Seat)) → first_given (given k gives) some ≡ None
    none-given k gives none [] = refl
    none-given k gives none (e ∷ es) = ap (λ o. given_or e.0 o (first_given (given k gives) es)) (at (is_waiting k e.1)) ∙ none-given k gives none es
      where
        at : (b : Bool) → cond b (gives e.1.app) None ≡ None
        at true = none e.1.app
        at false = refl

    -- nothing is found in the leaf
    pub none-found : first_own v seats p tests ≡ None
    none-found =
        let master = none-given kind.Master (gives_master v seats p tests) master-none seats in
        let ask = none-given kind.Ask (gives_ask v seats p tests) ask-none (seats_up_to (option_map (λ (e : ℕ × Found). e.0) (first_given (given kind.Master (gives_master v seats p tests)) seats)) seats) in
        λ i. option_or (option_map (λ (e : ℕ × Found). e.1) (ask i)) (option_map (λ (e : ℕ × Found). e.1) (master i))
