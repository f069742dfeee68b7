-- What is kept of the rows where a seat goes, and where a user comes or goes who has none.
use Rattle.std.proofs.Common.{◌≡◌, ◌≢◌, ℕ, ◌-◌, ⊎_elim, Bool, false, cond, List, [], ◌∷◌, get_or, Option, Some, None, option_map, nat_eq, refl, sym, ap, subst, ◌∙◌, arith}
use Rattle.std.specs.List.{AllByRecursion}
use Rattle.std.specs.Map.{lookup}
use Rattle.std.specs.Option.{option_map_or}
use Rattle.std.proofs.lemmas.Bool.{cases_eq}
use Rattle.std.proofs.lemmas.Bool.Decides.{nat_tests}
use Rattle.std.proofs.lemmas.Option.{same_Some, none-some}
use Rattle.ynl_resource.specs.Amounts.{nothing}
use Rattle.ynl_slots.specs.Slots.{HasDistinctNumbers, with_row, without}
use Rattle.ynl_lanes.specs.lows.Lows.{no_size}
use Rattle.ynl_lanes.specs.lows.Users.{no_user, IsBelowRequest}
use Rattle.ynl_lanes.specs.declared.lane.kinds.Kind.{Kind}
use Rattle.ynl_lanes.specs.declared.lane.levels.Level.{Level}
use Rattle.ynl_lanes.specs.declared.lane.levels.Level.TheVariants.{Lane, User}
use Rattle.ynl_lanes.specs.declared.lane.rows.SeatRow.{SeatRow}
use Rattle.ynl_lanes.specs.declared.lane.rows.UserRow.{UserRow}
use Rattle.ynl_lanes.specs.declared.lane.rows.Rows.{Rows}
use Rattle.ynl_lanes.specs.lane.Changes.{IsPulled, shown, ShowsOther}
use Rattle.ynl_lanes.specs.lane.Levels.{slot_in, IsIn, IsBefore, AreOrdered, AreIn}
use Rattle.ynl_lanes.specs.lane.Lines.{values_of, IsLine}
use Rattle.ynl_lanes.specs.lane.Found.{EachSeat}
use Rattle.ynl_lanes.specs.lane.Rows.{of_user, own_tickets, used_by, waits_in, WaitSame, tickets_in, EachUser, IsUserRow, IsSeated, IsStood, AreStood, IsKept}
use Rattle.ynl_lanes.specs.lane.Waiting.{IsWaiting}
use Rattle.ynl_lanes.proofs.lane.Lists.{all_without, ordered_without, found_written, found_other, found_without, was_without, distinct_without}
use Rattle.ynl_lanes.proofs.lane.Found.{all_from_each}
use Rattle.ynl_lanes.proofs.lane.Changing.{of_written, of_other, users_written}
use Rattle.ynl_lanes.proofs.lane.Pushing.{not_waiting}

-- a seat goes at which nothing waits
module _ (rows new : Rows) (kept : IsKept rows) (ticket : ℕ) (row : SeatRow) (found : lookup (nat_eq ticket) rows.seats.entries ≡ Some row) (idle : (kind : Kind) → waits_in kind rows.users.entries row ≡ no_size)
    (seats : new.seats.entries ≡ without ticket rows.seats.entries) (user : ℕ) (pulls : IsPulled user rows.users.entries new.users.entries) (line : new.line ≡ rows.line) where
  same_of : {X : Type 0} (f : UserRow → X) (none : X) → f (record pulls.row { live = pulls.row.live - 1 }) ≡ f pulls.row → (other : ℕ) → of_user f none other new.users.entries ≡ of_user f none other rows.users.entries
  same_of f none same other = ap (of_user f none other) pulls.entries ∙ ⊎_elim
      (λ is. ap (λ k. of_user f none k (with_row user (record pulls.row { live = pulls.row.live - 1 }) rows.users.entries)) is ∙ of_written f none user pulls.row (record pulls.row { live = pulls.row.live - 1 }) rows.users.entries pulls.found ∙ same ∙ sym (ap (λ o. option_map_or f o none) pulls.found) ∙ ap (λ k. of_user f none k rows.users.entries) (sym is))
      (λ apart. of_other f none other user (record pulls.row { live = pulls.row.live - 1 }) rows.users.entries apart)
      (cases_eq other user)

  pub waits_pulled : (e : SeatRow) → WaitSame rows.users.entries new.users.entries e
  waits_pulled e kind = ap (λ vs. get_or vs e.own_slot no_size) (same_of (λ (r : UserRow). values_of kind r.line) [] refl e.user)

  seated_pulled : IsSeated new
  seated_pulled = record {
    distinct = subst HasDistinctNumbers (sym seats) (distinct_without ticket rows.seats.entries kept.seated.distinct);
    lines = lines;
    line = subst IsLine (sym line) kept.seated.line;
    users = subst (EachUser IsUserRow) (sym pulls.entries) (users_written user pulls.row (record pulls.row { live = pulls.row.live - 1 }) rows.users.entries pulls.found (record { line = (kept.seated.users user pulls.row pulls.found).line; small = (kept.seated.users user pulls.row pulls.found).small }) kept.seated.users);
  }
    where
      fewer : (level : Level) (tickets : List ℕ) → AreIn level tickets rows.seats.entries → AreIn level tickets new.seats.entries
      fewer level tickets h = subst (AreIn level tickets) (sym seats) (record {
        in_line = all_without (IsIn level tickets) ticket rows.seats.entries h.in_line;
        ordered = ordered_without (IsBefore level) ticket rows.seats.entries h.ordered;
      })

      lines : (level : Level) → AreIn level (tickets_in level new) new.seats.entries
      lines Lane = fewer Lane new.line.tickets (subst (λ l. AreIn Lane l.tickets rows.seats.entries) (sym line) (kept.seated.lines Lane))
      lines (User other) = fewer (User other) (own_tickets other new.users.entries) (subst (λ ts. AreIn (User other) ts rows.seats.entries) (sym (same_of (λ (r : UserRow). r.line.tickets) [] refl other)) (kept.seated.lines (User other)))

  stood_pulled : (kind : Kind) → AreStood kind new
  stood_pulled kind =
      subst (λ es. EachSeat (λ _ e. IsWaiting (waits_in kind new.users.entries e) → IsStood kind es new.users.entries (values_of kind new.line) e) es) (sym seats)
      (λ n e there waiting. others e (kept.stood kind n e (was_without ticket n e rows.seats.entries there).1 (subst IsWaiting (waits_pulled e kind) waiting)))
    where
      others : (e : SeatRow) → IsStood kind rows.seats.entries rows.users.entries (values_of kind rows.line) e → IsStood kind (without ticket rows.seats.entries) new.users.entries (values_of kind new.line) e
      others e h =
          let away : h.ticket ≢ ticket = λ same. (
          let is : h.stand ≡ row = same_Some _ _ (sym h.found ∙ ap (λ k. lookup (nat_eq k) rows.seats.entries) same ∙ found) in
          not_waiting (subst IsWaiting (ap (waits_in kind rows.users.entries) is ∙ idle kind) h.waits)) in
          record {
            ticket = h.ticket;
            stand = h.stand;
            found = found_without ticket h.ticket h.stand rows.seats.entries away h.found;
            user = h.user;
            waits = subst IsWaiting (sym (waits_pulled h.stand kind)) h.waits;
            front = h.front;
            low = subst (λ l. IsBelowRequest (get_or (values_of kind l) h.stand.slot no_user) (used_by e.user new.users.entries) (waits_in kind new.users.entries e)) (sym line)
                (subst (λ u. IsBelowRequest (get_or (values_of kind rows.line) h.stand.slot no_user) u (waits_in kind new.users.entries e)) (sym (same_of (λ (r : UserRow). r.used) nothing refl e.user))
                (subst (IsBelowRequest (get_or (values_of kind rows.line) h.stand.slot no_user) (used_by e.user rows.users.entries)) (sym (waits_pulled e kind)) h.low));
          }

  pub kept_pulled : IsKept new
  kept_pulled = record { seated = seated_pulled; stood = stood_pulled }

-- a user has one seat less
pub shown_pulled : (user : ℕ) (old new : List (ℕ × UserRow)) → IsPulled user old new → ShowsOther user (λ s. record s { live = s.live - 1 }) old new
shown_pulled user old new pulls = record {
  own = ap (λ us. option_map shown (lookup (nat_eq user) us)) pulls.entries ∙ ap (option_map shown) (found_written user (record pulls.row { live = pulls.row.live - 1 }) pulls.row old pulls.found) ∙ sym (ap (option_map (λ r. record (shown r) { live = r.live - 1 })) pulls.found);
  others = λ other apart. ap (λ us. option_map shown (lookup (nat_eq other) us)) pulls.entries ∙ ap (option_map shown) (found_other other user (record pulls.row { live = pulls.row.live - 1 }) old apart);
}

-- where nothing holds at any of them
none_ordered : {X : Type 0} (R : X → X → Type 0) (xs : List X) → AllByRecursion (λ x. (y : X) → R x y) xs → AreOrdered R xs
none_ordered R [] h = tt
none_ordered {X = X} R (x ∷ xs) h = (each xs, none_ordered R xs h.1)
  where
    each : (ys : List X) → AllByRecursion (R x) ys
    each [] = tt
    each (y ∷ ys) = (h.0 y, each ys)

-- no seat is of the user, so any line will do
away_in : (user : ℕ) (tickets : List ℕ) (seats : List (ℕ × SeatRow)) → HasDistinctNumbers seats → EachSeat (λ _ e. e.user ≢ user) seats → AreIn (User user) tickets seats
away_in user tickets seats distinct none = record {
  in_line = all_from_each (IsIn (User user) tickets) seats distinct (λ n e there slot at. absurd (none-some slot (sym (elsewhere e (none n e there)) ∙ at)));
  ordered = none_ordered (IsBefore (User user)) seats (all_from_each (λ e. (f : ℕ × SeatRow) → IsBefore (User user) e f) seats distinct (λ n e there f m k at also. absurd (none-some m (sym (elsewhere e (none n e there)) ∙ at))));
}
  where
    elsewhere : (e : SeatRow) → e.user ≢ user → slot_in (User user) e ≡ None
    elsewhere e apart =
        let missed : nat_eq e.user user ≡ false = grind (arith, nat_tests) in
        ap (λ (b : Bool). let o : Option ℕ = cond b (Some e.own_slot) None in o) missed

-- the row of a user who has no seat is another one, or there is none
module _ (rows new : Rows) (kept : IsKept rows) (user : ℕ) (seats : new.seats ≡ rows.seats) (line : new.line ≡ rows.line) (none : EachSeat (λ _ e. e.user ≢ user) rows.seats.entries)
    (others : (other : ℕ) → other ≢ user → lookup (nat_eq other) new.users.entries ≡ lookup (nat_eq other) rows.users.entries) (users : EachUser IsUserRow new.users.entries) where
  same_but : {X : Type 0} (f : UserRow → X) (default : X) (other : ℕ) → other ≢ user → of_user f default other new.users.entries ≡ of_user f default other rows.users.entries
  same_but f default other apart = ap (λ o. option_map_or f o default) (others other apart)

  waits_but : (e : SeatRow) → e.user ≢ user → WaitSame rows.users.entries new.users.entries e
  waits_but e apart kind = ap (λ vs. get_or vs e.own_slot no_size) (same_but (λ (r : UserRow). values_of kind r.line) [] e.user apart)

  pub kept_but : IsKept new
  kept_but = record {
    seated = record {
      distinct = subst (λ s. HasDistinctNumbers s.entries) (sym seats) kept.seated.distinct;
      lines = lines;
      line = subst IsLine (sym line) kept.seated.line;
      users = users;
    };
    stood = λ kind. subst (λ s. EachSeat (λ _ e. IsWaiting (waits_in kind new.users.entries e) → IsStood kind s.entries new.users.entries (values_of kind new.line) e) s.entries) (sym seats)
        (subst (λ l. EachSeat (λ _ e. IsWaiting (waits_in kind new.users.entries e) → IsStood kind rows.seats.entries new.users.entries (values_of kind l) e) rows.seats.entries) (sym line)
        (λ n e there waiting. (let stays = waits_but e (none n e there) kind in let h = kept.stood kind n e there (subst IsWaiting stays waiting) in record {
          ticket = h.ticket;
          stand = h.stand;
          found = h.found;
          user = h.user;
          waits = subst IsWaiting (sym (waits_but h.stand (none h.ticket h.stand h.found) kind)) h.waits;
          front = h.front;
          low = subst (λ u. IsBelowRequest (get_or (values_of kind rows.line) h.stand.slot no_user) u (waits_in kind new.users.entries e)) (sym (same_but (λ (r : UserRow). r.used) nothing e.user (none n e there)))
              (subst (IsBelowRequest (get_or (values_of kind rows.line) h.stand.slot no_user) (used_by e.user rows.users.entries)) (sym stays) h.low);
        })));
  }
    where
      lines : (level : Level) → AreIn level (tickets_in level new) new.seats.entries
      lines Lane = subst (λ l. AreIn Lane l.tickets new.seats.entries) (sym line) (subst (λ s. AreIn Lane rows.line.tickets s.entries) (sym seats) (kept.seated.lines Lane))
      lines (User other) = subst (λ s. AreIn (User other) (own_tickets other new.users.entries) s.entries) (sym seats) (⊎_elim
          (λ same. away_in other (own_tickets other new.users.entries) rows.seats.entries kept.seated.distinct (λ n e there is. none n e there (is ∙ same)))
          (λ apart. subst (λ ts. AreIn (User other) ts rows.seats.entries) (sym (same_but (λ (r : UserRow). r.line.tickets) [] other apart)) (kept.seated.lines (User other)))
          (cases_eq other user))
