-- What the stands of users are worth after one of them changes.
use Rattle.std.proofs.Common.{◌≡◌, ◌≢◌, ℕ, ◌⊎◌, inl, inr, ⊎_elim, List, get_or, set, length, Some, All, nat_eq, refl, sym, ap, subst, ◌∙◌, arith, length-set, get_or-set_same, get_or-set_other}
use Rattle.std.specs.Map.{lookup}
use Rattle.std.specs.Option.{option_map_or}
use Rattle.std.proofs.lemmas.Bool.{cases_eq}
use Rattle.ynl_resource.specs.Amounts.{nothing}
use Rattle.ynl_slots.specs.Slots.{HasDistinctNumbers}
use Rattle.ynl_lanes.specs.declared.lows.users.UserLow.{UserLow}
use Rattle.ynl_lanes.specs.lows.Lows.{no_size, IsBelow}
use Rattle.ynl_lanes.specs.lows.Order.{below-refl}
use Rattle.ynl_lanes.specs.lows.Users.{no_user, IsBelowRequest}
use Rattle.ynl_lanes.specs.declared.lane.kinds.Kind.{Kind}
use Rattle.ynl_lanes.specs.declared.lane.kinds.Kind.TheVariants.{Master, Ask}
use Rattle.ynl_lanes.specs.declared.lane.levels.Level.{Level}
use Rattle.ynl_lanes.specs.declared.lane.levels.Level.TheVariants.{Lane, User}
use Rattle.ynl_lanes.specs.lane.Lined.{Lined}
use Rattle.ynl_lanes.specs.declared.lane.rows.SeatRow.{SeatRow}
use Rattle.ynl_lanes.specs.declared.lane.rows.UserRow.{UserRow}
use Rattle.ynl_lanes.specs.declared.lane.rows.Rows.{Rows}
use Rattle.ynl_lanes.specs.lane.Levels.{AreIn}
use Rattle.ynl_lanes.specs.lane.Lines.{values_of, IsLine}
use Rattle.ynl_lanes.specs.lane.Found.{EachSeat}
use Rattle.ynl_lanes.specs.lane.Rows.{tickets_in, own_tickets, used_by, waits_in, EachUser, IsUserRow, IsSeated, IsStood, AreStood, AreStoodBut}
use Rattle.ynl_lanes.specs.lane.Stands.{IsFirstWaiting, NoneWaits, ChangesStand}
use Rattle.ynl_lanes.specs.lane.Waiting.{IsWaiting}
use Rattle.ynl_lanes.proofs.lane.Found.{one_at}
use Rattle.ynl_lanes.proofs.lane.Searching.{own_value}
use Rattle.ynl_lanes.proofs.lane.Standing.{slot_inside}

-- two kinds are the same or not
pub cases_kind : (k kind : Kind) → (k ≡ kind) ⊎ (k ≢ kind)
cases_kind Master Master = inl refl
cases_kind Master Ask = inr (λ e. cc)
cases_kind Ask Master = inr (λ e. cc)
cases_kind Ask Ask = inl refl

-- lines that keep their length
pub line_changed : {T : Type 0} (old new : Lined T) → IsLine old → new.tickets ≡ old.tickets → ((k : Kind) → length (values_of k new) ≡ length (values_of k old)) → IsLine new
line_changed old new h tickets count =
    let n : length new.tickets ≡ length old.tickets = ap length tickets in
    let a : length new.masters ≡ length old.masters = count Master in
    let b : length new.asks ≡ length old.asks = count Ask in
    record { small = omega (arith, n, h.small); masters = omega (arith, n, a, h.masters); asks = omega (arith, n, b, h.asks) }

-- rows of which only values of the lane changed
pub seated_line : (rows new : Rows) → IsSeated rows → new.seats ≡ rows.seats → new.users ≡ rows.users → new.line.tickets ≡ rows.line.tickets → IsLine new.line → IsSeated new
seated_line rows new h seats users tickets line = record {
  distinct = subst HasDistinctNumbers (ap (λ s. s.entries) (sym seats)) h.distinct;
  lines = lines;
  line = line;
  users = subst (EachUser IsUserRow) (ap (λ s. s.entries) (sym users)) h.users;
}
  where
    lines : (level : Level) → AreIn level (tickets_in level new) new.seats.entries
    lines Lane = subst (λ ts. AreIn Lane ts new.seats.entries) (sym tickets) (subst (λ es. AreIn Lane rows.line.tickets es) (ap (λ s. s.entries) (sym seats)) (h.lines Lane))
    lines (User user) = subst (λ us. AreIn (User user) (own_tickets user us) new.seats.entries) (ap (λ s. s.entries) (sym users)) (subst (λ es. AreIn (User user) (own_tickets user rows.users.entries) es) (ap (λ s. s.entries) (sym seats)) (h.lines (User user)))

-- where the values of a kind stay, so do the stands
pub stood_same : (kind : Kind) (rows new : Rows) → new.seats ≡ rows.seats → new.users ≡ rows.users → values_of kind new.line ≡ values_of kind rows.line → AreStood kind rows → AreStood kind new
stood_same kind rows new seats users values h =
    subst (λ es. EachSeat (λ _ row. IsWaiting (waits_in kind new.users.entries row) → IsStood kind es new.users.entries (values_of kind new.line) row) es) (ap (λ s. s.entries) (sym seats))
    (subst (λ us. EachSeat (λ _ row. IsWaiting (waits_in kind us row) → IsStood kind rows.seats.entries us (values_of kind new.line) row) rows.seats.entries) (ap (λ s. s.entries) (sym users))
    (subst (λ vs. EachSeat (λ _ row. IsWaiting (waits_in kind rows.users.entries row) → IsStood kind rows.seats.entries rows.users.entries vs row) rows.seats.entries) (sym values) h))

pub but_same : (user : ℕ) (kind : Kind) (rows new : Rows) → new.seats ≡ rows.seats → new.users ≡ rows.users → values_of kind new.line ≡ values_of kind rows.line → AreStoodBut user kind rows → AreStoodBut user kind new
but_same user kind rows new seats users values h =
    subst (λ es. EachSeat (λ _ row. row.user ≢ user → IsWaiting (waits_in kind new.users.entries row) → IsStood kind es new.users.entries (values_of kind new.line) row) es) (ap (λ s. s.entries) (sym seats))
    (subst (λ us. EachSeat (λ _ row. row.user ≢ user → IsWaiting (waits_in kind us row) → IsStood kind rows.seats.entries us (values_of kind new.line) row) rows.seats.entries) (ap (λ s. s.entries) (sym users))
    (subst (λ vs. EachSeat (λ _ row. row.user ≢ user → IsWaiting (waits_in kind rows.users.entries row) → IsStood kind rows.seats.entries rows.users.entries vs row) rows.seats.entries) (sym values) h))

module _ (user : ℕ) (kind : Kind) (seats : List (ℕ × SeatRow)) where
  -- a value at a seat of the user
  pub changes_set : (old new : Lined UserLow) (n : ℕ) (row : SeatRow) (value : UserLow) → AreIn Lane old.tickets seats → lookup (nat_eq n) seats ≡ Some row → row.user ≡ user → new.tickets ≡ old.tickets → values_of kind new ≡ set (values_of kind old) row.slot value → ((k : Kind) → k ≢ kind → values_of k new ≡ values_of k old) → ChangesStand user kind seats old new
  changes_set old new n row value are_in found own tickets values other = record {
    tickets = tickets;
    count = λ k. ⊎_elim (λ same. ap (λ j. length (values_of j new)) same ∙ ap length values ∙ length-set (values_of kind old) row.slot value ∙ ap (λ j. length (values_of j old)) (sym same)) (λ apart. ap length (other k apart)) (cases_kind k kind);
    kinds = other;
    others = λ m e there apart.
        let away : e.slot ≢ row.slot = λ same. (
        let one = one_at Lane old.tickets seats m n row.slot e row are_in there (ap Some same) found refl in
        apart (ap (λ (x : SeatRow). x.user) one.1 ∙ own)) in
        ap (λ vs. get_or vs e.slot no_user) values ∙ get_or-set_other (values_of kind old) row.slot e.slot value no_user away;
  }

module _ (user : ℕ) (kind : Kind) (rows new : Rows) (seats : new.seats ≡ rows.seats) (users : new.users ≡ rows.users) (line : ChangesStand user kind rows.seats.entries rows.line new.line) where
  pub seated_changed : IsSeated rows → IsSeated new
  seated_changed h = seated_line rows new h seats users line.tickets (line_changed rows.line new.line h.line line.tickets line.count)

  -- the others stand as they did
  others_stand : (e : SeatRow) → e.user ≢ user → IsStood kind rows.seats.entries rows.users.entries (values_of kind rows.line) e → IsStood kind rows.seats.entries rows.users.entries (values_of kind new.line) e
  others_stand e apart h = record {
    ticket = h.ticket;
    stand = h.stand;
    found = h.found;
    user = h.user;
    waits = h.waits;
    front = h.front;
    low = subst (λ v. IsBelowRequest v (used_by e.user rows.users.entries) (waits_in kind rows.users.entries e)) (sym (line.others h.ticket h.stand h.found (λ same. apart (sym h.user ∙ same)))) h.low;
  }

  back : (P : List (ℕ × SeatRow) → List (ℕ × UserRow) → Type 0) → P rows.seats.entries rows.users.entries → P new.seats.entries new.users.entries
  back P h = subst (λ es. P es new.users.entries) (ap (λ s. s.entries) (sym seats)) (subst (λ us. P rows.seats.entries us) (ap (λ s. s.entries) (sym users)) h)

  pub but_changed : AreStoodBut user kind rows → AreStoodBut user kind new
  but_changed h =
      back (λ es us. EachSeat (λ _ row. row.user ≢ user → IsWaiting (waits_in kind us row) → IsStood kind es us (values_of kind new.line) row) es)
      (λ n e there apart waits. others_stand e apart (h n e there apart waits))

  -- where nothing of the user's waits, all stand
  pub stood_none : AreStoodBut user kind rows → NoneWaits user kind rows.seats.entries rows.users.entries → AreStood kind new
  stood_none h none =
      back (λ es us. EachSeat (λ _ row. IsWaiting (waits_in kind us row) → IsStood kind es us (values_of kind new.line) row) es)
      (λ n e there waits. ⊎_elim (λ same. absurd (none n e there same waits)) (λ apart. others_stand e apart (h n e there apart waits)) (cases_eq e.user user))

-- and where the user's least stands at the user's first seat with something that waits
pub stood_put : (user : ℕ) (kind : Kind) (rows new : Rows) → IsSeated rows → (seats : new.seats ≡ rows.seats) (users : new.users ≡ rows.users) → ChangesStand user kind rows.seats.entries rows.line new.line → AreStoodBut user kind rows
    → (ticket : ℕ) (first : IsFirstWaiting user kind rows.seats.entries rows.users.entries ticket) (row : UserRow) → lookup (nat_eq user) rows.users.entries ≡ Some row → (least : UserLow) → All (IsBelow least.low) (values_of kind row.line) → least.used ≡ row.used → values_of kind new.line ≡ set (values_of kind rows.line) first.row.slot least → AreStood kind new
stood_put user kind rows new seated seats users line but ticket first row found least below used values =
    subst (λ es. EachSeat (λ _ e. IsWaiting (waits_in kind new.users.entries e) → IsStood kind es new.users.entries (values_of kind new.line) e) es) (ap (λ s. s.entries) (sym seats))
    (subst (λ us. EachSeat (λ _ e. IsWaiting (waits_in kind us e) → IsStood kind rows.seats.entries us (values_of kind new.line) e) rows.seats.entries) (ap (λ s. s.entries) (sym users))
    (λ n e there waits. ⊎_elim (λ same. own n e there waits same) (λ apart. others_stand user kind rows new seats users line e apart (but n e there apart waits)) (cases_eq e.user user)))
  where
    stands : get_or (values_of kind new.line) first.row.slot no_user ≡ least
    stands = ap (λ vs. get_or vs first.row.slot no_user) values ∙ get_or-set_same (values_of kind rows.line) first.row.slot least no_user (slot_inside rows seated kind ticket first.row first.found)

    own : (n : ℕ) (e : SeatRow) → lookup (nat_eq n) rows.seats.entries ≡ Some e → IsWaiting (waits_in kind rows.users.entries e) → e.user ≡ user → IsStood kind rows.seats.entries rows.users.entries (values_of kind new.line) e
    own n e there waits same =
        let value = own_value rows seated kind user row found n e there same in
        let low : IsBelow least.low (waits_in kind rows.users.entries e) = subst (IsBelow least.low) value.1 (below e.own_slot no_size value.0) in
        let uses : used_by e.user rows.users.entries ≡ row.used = ap (λ k. used_by k rows.users.entries) same ∙ ap (λ o. option_map_or (λ (r : UserRow). r.used) o nothing) found in
        record {
          ticket = ticket;
          stand = first.row;
          found = first.found;
          user = first.own ∙ sym same;
          waits = first.waits;
          front = first.first n e there same waits;
          low = subst (λ v. IsBelowRequest v (used_by e.user rows.users.entries) (waits_in kind rows.users.entries e)) (sym stands) (record {
            low = low;
            used = subst (IsBelow least.used) (used ∙ sym uses) (below-refl least.used);
          });
        }
