-- What waits of an application: where that may differ from what the lanes show, and where not.
use Rattle.std.proofs.Common.{◌≡◌, ◌≤◌, ℕ, suc, Bool, true, false, not, cond, ◌&&◌, List, [], ◌∷◌, fold, filter, length, nat_eq, true≢false, refl, sym, ap, subst, ◌∙◌, arith}
use Rattle.std.proofs.lemmas.Bool.{eqb-true}
use Rattle.ynl_resource.specs.Tables.{update}
use Rattle.ynl_resource.specs.declared.amounts.Resource.{Resource}
use Rattle.ynl_laws.proofs.Logic.{and-false}
use Rattle.ynl_slots.proofs.Entries.{other}
use Rattle.ynl_tables.specs.apps.Asks.{is_ask_of, is_spent, lowered, with_one_taken}
use Rattle.ynl_tables.specs.declared.apps.asks.Ask.{Ask}
use Rattle.ynl_tables.specs.declared.containers.container.Role.{Role}
use Rattle.ynl_tables.specs.declared.containers.container.Role.TheVariants.{Master, Ask as Asked}
use Rattle.ynl_lanes.specs.lane.Seats.{Seats}
use Rattle.ynl_lanes.specs.lows.Lows.{no_size}
use Rattle.ynl_inventory.specs.Rows.{Rows, AppRow}
use Rattle.ynl_inventory.specs.Apps.{is_master_role}
use Rattle.ynl_inventory.specs.Changes.{with_taken}
use Rattle.ynl_cluster.specs.seating.Seating.{AreSeated, AreSeatedWith, least_asked, user_use, waits_if, with_least}
use Rattle.ynl_cluster.specs.seating.Steps.{AreSeatedBut, AreSeatedButFor, AreUsedBut, OnlyIf}

-- ---- the application that is meant

meant : (b : Bool) (app n : ℕ) → OnlyIf b app n → n ≡ app
meant true app n is = is
meant false app n is = absurd is

-- where some may differ, the one may
pub may-differ : (b : Bool) (app : ℕ) (v : Rows) (lanes : List (List Seats)) → AreSeatedButFor (OnlyIf b app) v lanes → AreSeatedBut app v lanes
may-differ b app v lanes start = record { waits = start.waits; others = λ p n apart. start.others p n (λ is. apart (meant b app n is)); seated = start.seated }

pub may-be-used : (b : Bool) (app p : ℕ) (Stand : Resource → Resource → Type 0) (v : Rows) (lanes : List (List Seats)) → AreUsedBut (OnlyIf b app) app p Stand v lanes → AreUsedBut (OnlyIf true app) app p Stand v lanes
may-be-used b app p Stand v lanes start = record {
  row = start.row;
  found = start.found;
  shared = start.shared;
  figures = start.figures;
  stand = start.stand;
  uses = start.uses;
  waits = λ r n apart. start.waits r n (λ is. apart (meant b app n is));
  seated = start.seated;
}

-- and where none is meant, none does
pub none-differs : (b : Bool) (app : ℕ) (v : Rows) (lanes : List (List Seats)) → b ≡ false → AreSeatedButFor (OnlyIf b app) v lanes → AreSeated v lanes
none-differs b app v lanes off start =
    subst (λ waits. AreSeatedWith (record { used = user_use v; waits = waits }) v lanes) (λ i p n. start.others p n (λ is. subst (λ b. OnlyIf b app n) off is) i) start.seated

-- a container is the master of no other application than is meant
pub not-meant : (b m : Bool) (app n : ℕ) → (b ≡ false → m ≡ false) → ¬ OnlyIf b app n → (m && nat_eq app n) ≡ false
not-meant true m app n none far = ap (λ k. m && k) (other app n (λ is. far (sym is))) ∙ and-false m
not-meant false m app n none far = ap (λ k. k && nat_eq app n) (none refl)

-- ---- an ask of which one container is taken

module _ (q : ℕ) where
  least-lowered : (test : Ask → Bool) (low : Resource) (asks : List Ask) → fold (with_least q) low (update test lowered asks) ≡ fold (with_least q) low asks
  least-lowered test low [] = refl
  least-lowered test low (ask ∷ asks) = ap (λ l. fold (with_least q) l (update test lowered asks)) (same (test ask)) ∙ least-lowered test (with_least q low ask) asks
    where
      same : (b : Bool) → with_least q low (cond b (lowered ask) ask) ≡ with_least q low ask
      same true = refl
      same false = refl

fewer : (test : Ask → Bool) (asks : List Ask) → length (filter test asks) ≤ length asks
fewer test [] = omega arith
fewer test (ask ∷ asks) = go (fewer test asks) (test ask)
  where
    go : length (filter test asks) ≤ length asks → (b : Bool) → length (cond b (ask ∷ filter test asks) (filter test asks)) ≤ length (ask ∷ asks)
    go less true = omega arith
    go less false = omega arith

-- where as many are left, all are
all-left : (test : Ask → Bool) (asks : List Ask) → length (filter test asks) ≡ length asks → filter test asks ≡ asks
all-left test [] many = refl
all-left test (ask ∷ asks) many = go (all-left test asks) (fewer test asks) (test ask) many
  where
    go : (length (filter test asks) ≡ length asks → filter test asks ≡ asks) → length (filter test asks) ≤ length asks → (b : Bool)
        → length (cond b (ask ∷ filter test asks) (filter test asks)) ≡ length (ask ∷ asks) → cond b (ask ∷ filter test asks) (filter test asks) ≡ ask ∷ asks
    go later less true many = ap (λ rest. ask ∷ rest) (later (omega arith))
    go later less false many = absurd (omega arith)

same-length : (test : Ask → Bool) (asks : List Ask) → length (update test lowered asks) ≡ length asks
same-length test [] = refl
same-length test (ask ∷ asks) = ap suc (same-length test asks)

-- the least stays where none of the rows goes
least-taken : (partition priority q : ℕ) (asks : List Ask) → length (with_one_taken partition priority asks) ≡ length asks → least_asked q asks ≡ least_asked q (with_one_taken partition priority asks)
least-taken partition priority q asks many =
    let of : Ask → Bool = is_ask_of partition priority in
    sym
    (ap (least_asked q) (all-left (λ ask. not (is_spent partition priority ask)) (update of lowered asks) (many ∙ sym (same-length of asks)))
    ∙ least-lowered q of no_size asks)

-- so does what waits
pub taken-waits : (r : Role) (row : AppRow) → is_master_role r ≡ false → nat_eq (length (with_taken r row).asks) (length row.asks) ≡ true → (runs : Bool) (q : ℕ) → waits_if runs q row ≡ waits_if runs q (with_taken r row)
taken-waits Master row off many runs q = absurd (true≢false off)
taken-waits (Asked partition priority) row off many runs q =
    λ i. record (waits_if runs q row) { ask = cond runs (least-taken partition priority q row.asks (eqb-true (length (with_one_taken partition priority row.asks)) (length row.asks) many) i) no_size }
