-- What is kept of the rows where a user comes.
use Rattle.std.proofs.Common.{◌≡◌, ◌≢◌, ◌++◌, ◌∷◌, [], ℕ, Some, nat_eq, cond, Bool, false, is_some, sym, ap, subst, ◌∙◌, arith, true≢false}
use Rattle.std.specs.Map.{lookup}
use Rattle.std.proofs.lemmas.Bool.Decides.{nat_tests}
use Rattle.ynl_slots.specs.Slots.{IsUnused}
use Rattle.ynl_slots.proofs.Lookups.{lookup-unused, lookup-push}
use Rattle.ynl_lanes.specs.declared.lane.rows.UserRow.{UserRow}
use Rattle.ynl_lanes.specs.declared.lane.rows.Rows.{Rows}
use Rattle.ynl_lanes.specs.lane.Found.{EachSeat}
use Rattle.ynl_lanes.specs.lane.Rows.{EachUser, IsUserRow, IsKept}
use Rattle.ynl_lanes.proofs.lane.Lists.{each_pushed}
use Rattle.ynl_lanes.proofs.lane.Standing.{user_live}
use Rattle.ynl_lanes.proofs.lane.Pulling.{kept_but}

-- no seat is of a user whose number is not used
pub no_seat_of : (rows : Rows) → IsKept rows → (number : ℕ) → IsUnused number rows.users.entries → EachSeat (λ _ seat. seat.user ≢ number) rows.seats.entries
no_seat_of rows kept number unused n seat there same =
    let live = user_live rows kept.seated n seat there in
    true≢false (sym live ∙ ap (λ k. is_some (lookup (nat_eq k) rows.users.entries)) same ∙ ap is_some (lookup-unused number rows.users.entries unused))

pub kept_opened : (rows new : Rows) → IsKept rows → (number : ℕ) (row : UserRow) → IsUnused number rows.users.entries → IsUserRow 0 row → new.seats ≡ rows.seats → new.line ≡ rows.line → new.users.entries ≡ rows.users.entries ++ (number, row) ∷ [] → IsKept new
kept_opened rows new kept number row unused is seats line users =
    kept_but rows new kept number seats line (no_seat_of rows kept number unused) others
    (subst (EachUser IsUserRow) (sym users) (each_pushed IsUserRow IsUserRow number row rows.users.entries unused (record { line = is.line; small = is.small }) (λ n x there h. h) kept.seated.users))
  where
    others : (other : ℕ) → other ≢ number → lookup (nat_eq other) new.users.entries ≡ lookup (nat_eq other) rows.users.entries
    others other apart =
        let missed : nat_eq other number ≡ false = grind (arith, nat_tests) in
        ap (λ us. lookup (nat_eq other) us) users ∙ lookup-push other number row rows.users.entries unused ∙ ap (λ (b : Bool). cond b (Some row) (lookup (nat_eq other) rows.users.entries)) missed
