-- What is kept of the rows where some change.
use Rattle.std.proofs.Common.{◌≡◌, ◌≢◌, ℕ, true, ◌&&◌, arith, ⊎_elim, List, [], get_or, set, length, Some, option_map, nat_eq, refl, sym, ap, subst, ◌∙◌, length-set, get_or-set_same, get_or-set_other}
use Rattle.std.specs.Map.{lookup}
use Rattle.std.specs.Option.{option_map_or}
use Rattle.std.proofs.lemmas.Bool.{and_parts, cases_eq}
use Rattle.std.proofs.lemmas.Bool.Decides.{nat_tests}
use Rattle.ynl_resource.specs.declared.amounts.Resource.{Resource}
use Rattle.ynl_resource.specs.Amounts.{nothing}
use Rattle.ynl_slots.specs.Slots.{HasDistinctNumbers, with_row}
use Rattle.ynl_lanes.specs.lows.Lows.{no_size}
use Rattle.ynl_lanes.specs.declared.lane.kinds.Kind.{Kind}
use Rattle.ynl_lanes.specs.declared.lane.kinds.Kind.TheVariants.{Master, Ask}
use Rattle.ynl_lanes.specs.declared.lane.kinds.Both.{Both}
use Rattle.ynl_lanes.specs.declared.lane.levels.Level.{Level}
use Rattle.ynl_lanes.specs.declared.lane.levels.Level.TheVariants.{Lane, User}
use Rattle.ynl_lanes.specs.declared.lane.rows.SeatRow.{SeatRow}
use Rattle.ynl_lanes.specs.declared.lane.rows.UserRow.{UserRow}
use Rattle.ynl_lanes.specs.declared.lane.rows.Rows.{Rows}
use Rattle.ynl_lanes.specs.lane.Changes.{SetsWaits, AreValues, SetsValues, SetsUsed, shown, ShowSame, ShowsOther}
use Rattle.ynl_lanes.specs.lane.Kinds.{of_kind}
use Rattle.ynl_lanes.specs.lane.Levels.{AreIn}
use Rattle.ynl_lanes.specs.lane.Lines.{values_of, IsLine}
use Rattle.ynl_lanes.specs.lane.Found.{EachSeat}
use Rattle.ynl_lanes.specs.lane.Rows.{of_user, own_tickets, own_values, used_by, waits_in, WaitSame, tickets_in, EachUser, IsUse, IsUserRow, IsSeated, IsStood, AreStoodBut, IsKept}
use Rattle.ynl_lanes.specs.lane.Waiting.{IsWaiting}
use Rattle.ynl_lanes.proofs.lane.Lists.{found_written, found_other, each_written}
use Rattle.ynl_lanes.proofs.lane.Found.{one_at}
use Rattle.ynl_lanes.proofs.lane.Searching.{own_slot-in, own_line, own_value}
use Rattle.ynl_lanes.proofs.lane.Stood.{line_changed}
use Rattle.ynl_lanes.specs.lows.Users.{no_user, IsBelowRequest}

-- something of a user whose row is another one, and of the other users
pub of_written : {X : Type 0} (f : UserRow → X) (none : X) (user : ℕ) (row next : UserRow) (users : List (ℕ × UserRow)) → lookup (nat_eq user) users ≡ Some row → of_user f none user (with_row user next users) ≡ f next
of_written f none user row next users found = ap (λ o. option_map_or f o none) (found_written user next row users found)

pub of_other : {X : Type 0} (f : UserRow → X) (none : X) (other user : ℕ) (next : UserRow) (users : List (ℕ × UserRow)) → other ≢ user → of_user f none other (with_row user next users) ≡ of_user f none other users
of_other f none other user next users apart = ap (λ o. option_map_or f o none) (found_other other user next users apart)

-- the line of each user keeps its tickets
pub same_tickets : (user : ℕ) (row next : UserRow) (users : List (ℕ × UserRow)) → lookup (nat_eq user) users ≡ Some row → next.line.tickets ≡ row.line.tickets → (other : ℕ) → own_tickets other (with_row user next users) ≡ own_tickets other users
same_tickets user row next users found tickets other = ⊎_elim
    (λ same. ap (λ k. own_tickets k (with_row user next users)) same ∙ of_written (λ (r : UserRow). r.line.tickets) [] user row next users found ∙ tickets ∙ sym (ap (λ o. option_map_or (λ (r : UserRow). r.line.tickets) o []) found) ∙ ap (λ k. own_tickets k users) (sym same))
    (λ apart. of_other (λ (r : UserRow). r.line.tickets) [] other user next users apart)
    (cases_eq other user)

-- a user's row with as long a line, and no more used than may be
pub users_written : (user : ℕ) (row next : UserRow) (users : List (ℕ × UserRow)) → lookup (nat_eq user) users ≡ Some row → IsUserRow user next → EachUser IsUserRow users → EachUser IsUserRow (with_row user next users)
users_written user row next users found here h = each_written IsUserRow IsUserRow user next row users found here (λ n x apart there is. is) h

pub shown_written : (user : ℕ) (row next : UserRow) (users : List (ℕ × UserRow)) → lookup (nat_eq user) users ≡ Some row → shown next ≡ shown row → ShowSame users (with_row user next users)
shown_written user row next users found same other = ⊎_elim
    (λ is. ap (λ k. option_map shown (lookup (nat_eq k) (with_row user next users))) is ∙ ap (option_map shown) (found_written user next row users found) ∙ ap Some same ∙ sym (ap (option_map shown) found) ∙ ap (λ k. option_map shown (lookup (nat_eq k) users)) (sym is))
    (λ apart. ap (option_map shown) (found_other other user next users apart))
    (cases_eq other user)

-- other things wait at a seat
module _ (rows new : Rows) (kept : IsKept rows) (ticket : ℕ) (waits : Both Resource) (row : SeatRow) (found : lookup (nat_eq ticket) rows.seats.entries ≡ Some row) (seats : new.seats ≡ rows.seats)
    (values : SetsValues row.user row.own_slot waits rows.users.entries new.users.entries) (line : new.line ≡ rows.line) where
  next_values : (kind : Kind) → values_of kind values.next.line ≡ set (values_of kind values.row.line) row.own_slot (of_kind kind waits)
  next_values Master = values.masters
  next_values Ask = values.asks

  own_new : (kind : Kind) → own_values kind row.user new.users.entries ≡ set (values_of kind values.row.line) row.own_slot (of_kind kind waits)
  own_new kind = ap (own_values kind row.user) values.entries ∙ of_written (λ (r : UserRow). values_of kind r.line) [] row.user values.row values.next rows.users.entries values.found ∙ next_values kind

  own_old : (kind : Kind) → own_values kind row.user rows.users.entries ≡ values_of kind values.row.line
  own_old kind = ap (λ o. option_map_or (λ (r : UserRow). values_of kind r.line) o []) values.found

  waits_here : (kind : Kind) → waits_in kind new.users.entries row ≡ of_kind kind waits
  waits_here kind =
      let inside = (own_value rows kept.seated kind row.user values.row values.found ticket row found refl).0 in
      ap (λ vs. get_or vs row.own_slot no_size) (own_new kind) ∙ get_or-set_same (values_of kind values.row.line) row.own_slot (of_kind kind waits) no_size inside

  -- another user's line stays
  waits_away : (x : SeatRow) → x.user ≢ row.user → WaitSame rows.users.entries new.users.entries x
  waits_away x away kind = ap (λ vs. get_or vs x.own_slot no_size) (ap (own_values kind x.user) values.entries ∙ of_other (λ (r : UserRow). values_of kind r.line) [] x.user row.user values.next rows.users.entries away)

  -- and no other seat of the user stands in that slot
  waits_there : (n : ℕ) (x : SeatRow) → n ≢ ticket → lookup (nat_eq n) rows.seats.entries ≡ Some x → WaitSame rows.users.entries new.users.entries x
  waits_there n x apart there kind = ⊎_elim own (λ away. waits_away x away kind) (cases_eq x.user row.user)
    where
      own : x.user ≡ row.user → waits_in kind new.users.entries x ≡ waits_in kind rows.users.entries x
      own same =
          let away : x.own_slot ≢ row.own_slot = λ at. (
          let line = own_line rows kept.seated row.user values.row values.found in
          apart (one_at (User row.user) values.row.line.tickets rows.seats.entries n ticket row.own_slot x row line.1 there (own_slot-in row.user x same ∙ ap Some at) found (own_slot-in row.user row refl)).0) in
          ap (λ k. get_or (own_values kind k new.users.entries) x.own_slot no_size) same ∙ ap (λ vs. get_or vs x.own_slot no_size) (own_new kind)
          ∙ get_or-set_other (values_of kind values.row.line) row.own_slot x.own_slot (of_kind kind waits) no_size away
          ∙ ap (λ vs. get_or vs x.own_slot no_size) (sym (own_old kind)) ∙ ap (λ k. get_or (own_values kind k rows.users.entries) x.own_slot no_size) (sym same)

  pub waits_entered : SetsWaits ticket waits rows.seats.entries rows.users.entries new.users.entries
  waits_entered = record { row = row; found = found; own = waits_here; others = λ n x there apart. waits_there n x apart there }

  next_row : IsUserRow row.user values.next
  next_row =
      let was = kept.seated.users row.user values.row values.found in
      record {
        line = line_changed values.row.line values.next.line was.line values.tickets (λ k. ap length (next_values k) ∙ length-set (values_of k values.row.line) row.own_slot (of_kind k waits));
        small = subst IsUse (sym values.used) was.small;
      }

  pub seated_entered : IsSeated new
  seated_entered = record {
    distinct = subst (λ s. HasDistinctNumbers s.entries) (sym seats) kept.seated.distinct;
    lines = lines;
    line = subst IsLine (sym line) kept.seated.line;
    users = subst (EachUser IsUserRow) (sym values.entries) (users_written row.user values.row values.next rows.users.entries values.found next_row kept.seated.users);
  }
    where
      lines : (level : Level) → AreIn level (tickets_in level new) new.seats.entries
      lines Lane = subst (λ l. AreIn Lane l.tickets new.seats.entries) (sym line) (subst (λ s. AreIn Lane rows.line.tickets s.entries) (sym seats) (kept.seated.lines Lane))
      lines (User user) = subst (λ ts. AreIn (User user) ts new.seats.entries) (sym (ap (own_tickets user) values.entries ∙ same_tickets row.user values.row values.next rows.users.entries values.found values.tickets user))
          (subst (λ s. AreIn (User user) (own_tickets user rows.users.entries) s.entries) (sym seats) (kept.seated.lines (User user)))

  pub but_entered : (kind : Kind) → AreStoodBut row.user kind new
  but_entered kind =
      subst (λ s. EachSeat (λ _ e. e.user ≢ row.user → IsWaiting (waits_in kind new.users.entries e) → IsStood kind s.entries new.users.entries (values_of kind new.line) e) s.entries) (sym seats)
      (subst (λ l. EachSeat (λ _ e. e.user ≢ row.user → IsWaiting (waits_in kind new.users.entries e) → IsStood kind rows.seats.entries new.users.entries (values_of kind l) e) rows.seats.entries) (sym line)
      (λ n e there away waiting. (let h = kept.stood kind n e there (subst IsWaiting (waits_away e away kind) waiting) in record {
        ticket = h.ticket;
        stand = h.stand;
        found = h.found;
        user = h.user;
        waits = subst IsWaiting (sym (waits_away h.stand (λ same. away (sym h.user ∙ same)) kind)) h.waits;
        front = h.front;
        low = subst (λ u. IsBelowRequest (get_or (values_of kind rows.line) h.stand.slot no_user) u (waits_in kind new.users.entries e)) (sym (ap (used_by e.user) values.entries ∙ of_other (λ (r : UserRow). r.used) nothing e.user row.user values.next rows.users.entries away))
            (subst (IsBelowRequest (get_or (values_of kind rows.line) h.stand.slot no_user) (used_by e.user rows.users.entries)) (sym (waits_away e away kind)) h.low);
      })))

  pub shown_entered : ShowSame rows.users.entries new.users.entries
  shown_entered other = ap (λ us. option_map shown (lookup (nat_eq other) us)) values.entries ∙ shown_written row.user values.row values.next rows.users.entries values.found (λ i. record { user = values.user_is i; used = values.used i; live = values.live i }) other

-- a user uses another amount
module _ (rows new : Rows) (kept : IsKept rows) (user : ℕ) (used : Resource) (small : IsUse used) (seats : new.seats ≡ rows.seats) (sets : SetsUsed user used rows.users.entries new.users.entries) (line : new.line ≡ rows.line) where
  same_values : (kind : Kind) (other : ℕ) → own_values kind other new.users.entries ≡ own_values kind other rows.users.entries
  same_values kind other = ap (own_values kind other) sets.entries ∙ ⊎_elim
      (λ same. ap (λ k. own_values kind k (with_row user (record sets.row { used = used }) rows.users.entries)) same ∙ of_written (λ (r : UserRow). values_of kind r.line) [] user sets.row (record sets.row { used = used }) rows.users.entries sets.found ∙ sym (ap (λ o. option_map_or (λ (r : UserRow). values_of kind r.line) o []) sets.found) ∙ ap (λ k. own_values kind k rows.users.entries) (sym same))
      (λ apart. of_other (λ (r : UserRow). values_of kind r.line) [] other user (record sets.row { used = used }) rows.users.entries apart)
      (cases_eq other user)

  pub waits_used : (e : SeatRow) → WaitSame rows.users.entries new.users.entries e
  waits_used e kind = ap (λ vs. get_or vs e.own_slot no_size) (same_values kind e.user)

  pub seated_used : IsSeated new
  seated_used = record {
    distinct = subst (λ s. HasDistinctNumbers s.entries) (sym seats) kept.seated.distinct;
    lines = lines;
    line = subst IsLine (sym line) kept.seated.line;
    users = subst (EachUser IsUserRow) (sym sets.entries) (users_written user sets.row (record sets.row { used = used }) rows.users.entries sets.found (record { line = (kept.seated.users user sets.row sets.found).line; small = small }) kept.seated.users);
  }
    where
      lines : (level : Level) → AreIn level (tickets_in level new) new.seats.entries
      lines Lane = subst (λ l. AreIn Lane l.tickets new.seats.entries) (sym line) (subst (λ s. AreIn Lane rows.line.tickets s.entries) (sym seats) (kept.seated.lines Lane))
      lines (User other) = subst (λ ts. AreIn (User other) ts new.seats.entries) (sym (ap (own_tickets other) sets.entries ∙ same_tickets user sets.row (record sets.row { used = used }) rows.users.entries sets.found refl other))
          (subst (λ s. AreIn (User other) (own_tickets other rows.users.entries) s.entries) (sym seats) (kept.seated.lines (User other)))

  pub but_used : (kind : Kind) → AreStoodBut user kind new
  but_used kind =
      subst (λ s. EachSeat (λ _ e. e.user ≢ user → IsWaiting (waits_in kind new.users.entries e) → IsStood kind s.entries new.users.entries (values_of kind new.line) e) s.entries) (sym seats)
      (subst (λ l. EachSeat (λ _ e. e.user ≢ user → IsWaiting (waits_in kind new.users.entries e) → IsStood kind rows.seats.entries new.users.entries (values_of kind l) e) rows.seats.entries) (sym line)
      (λ n e there away waiting. (let h = kept.stood kind n e there (subst IsWaiting (waits_used e kind) waiting) in record {
        ticket = h.ticket;
        stand = h.stand;
        found = h.found;
        user = h.user;
        waits = subst IsWaiting (sym (waits_used h.stand kind)) h.waits;
        front = h.front;
        low = subst (λ u. IsBelowRequest (get_or (values_of kind rows.line) h.stand.slot no_user) u (waits_in kind new.users.entries e)) (sym (ap (used_by e.user) sets.entries ∙ of_other (λ (r : UserRow). r.used) nothing e.user user (record sets.row { used = used }) rows.users.entries away))
            (subst (IsBelowRequest (get_or (values_of kind rows.line) h.stand.slot no_user) (used_by e.user rows.users.entries)) (sym (waits_used e kind)) h.low);
      })))

  pub shown_used : ShowsOther user (λ s. record s { used = used }) rows.users.entries new.users.entries
  shown_used = record {
    own = ap (λ us. option_map shown (lookup (nat_eq user) us)) sets.entries ∙ ap (option_map shown) (found_written user (record sets.row { used = used }) sets.row rows.users.entries sets.found) ∙ sym (ap (option_map (λ row. record (shown row) { used = used })) sets.found);
    others = λ other apart. ap (λ us. option_map shown (lookup (nat_eq other) us)) sets.entries ∙ ap (option_map shown) (found_other other user (record sets.row { used = used }) rows.users.entries apart);
  }

-- ---- what waited already

both-same : (a b : Both Resource) → ((nat_eq a.master.memory b.master.memory && nat_eq a.master.vcores b.master.vcores) ≡ true) → ((nat_eq a.ask.memory b.ask.memory && nat_eq a.ask.vcores b.ask.vcores) ≡ true) → a ≡ b
both-same a b master ask = λ i. record { master = amount-same a.master b.master master i; ask = amount-same a.ask b.ask ask i }
  where
    amount-same : (x y : Resource) → (nat_eq x.memory y.memory && nat_eq x.vcores y.vcores) ≡ true → x ≡ y
    amount-same x y h =
        let parts = and_parts (nat_eq x.memory y.memory) (nat_eq x.vcores y.vcores) h in
        let memory = parts.0 in
        let vcores = parts.1 in
        let m : x.memory ≡ y.memory = grind (arith, nat_tests) in
        let v : x.vcores ≡ y.vcores = grind (arith, nat_tests) in
        λ i. record { memory = m i; vcores = v i }

-- where the same is entered that waits at a seat, all is as before
pub same_values_at : (user slot : ℕ) (row : UserRow) (users : List (ℕ × UserRow)) (values waits : Both Resource) → lookup (nat_eq user) users ≡ Some row → values.master ≡ get_or row.line.masters slot no_size → values.ask ≡ get_or row.line.asks slot no_size
    → ((nat_eq values.master.memory waits.master.memory && nat_eq values.master.vcores waits.master.vcores) ≡ true)
    → ((nat_eq values.ask.memory waits.ask.memory && nat_eq values.ask.vcores waits.ask.vcores) ≡ true) → AreValues user slot waits users
same_values_at user slot row users values waits found master ask same also kind = each kind
  where
    both : values ≡ waits
    both = both-same values waits same also

    each : (kind : Kind) → get_or (own_values kind user users) slot no_size ≡ of_kind kind waits
    each Master = ap (λ o. get_or (option_map_or (λ (r : UserRow). r.line.masters) o []) slot no_size) found ∙ sym master ∙ ap (λ b. b.master) both
    each Ask = ap (λ o. get_or (option_map_or (λ (r : UserRow). r.line.asks) o []) slot no_size) found ∙ sym ask ∙ ap (λ b. b.ask) both

pub waits_same : (ticket : ℕ) (row : SeatRow) (waits : Both Resource) (seats : List (ℕ × SeatRow)) (users : List (ℕ × UserRow)) → lookup (nat_eq ticket) seats ≡ Some row → AreValues row.user row.own_slot waits users → SetsWaits ticket waits seats users users
waits_same ticket row waits seats users found same = record { row = row; found = found; own = same; others = λ n e there apart kind. refl }
