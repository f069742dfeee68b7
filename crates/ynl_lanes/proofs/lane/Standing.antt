-- The search of a lane: from user to user, as they stand.
use Rattle.std.proofs.Common.{◌≡◌, ℕ, ◌<◌, ◌≤◌, ⊎_elim, true, [], get_or, length, Option, Some, None, IsSome, IfSome, IfNone, is_some, nat_eq, refl, sym, ap, subst, ◌∙◌, arith}
use Rattle.std.specs.List.{slice_get}
use Rattle.std.specs.Map.{lookup}
use Rattle.std.specs.Option.{option_map_or}
use Rattle.std.proofs.lemmas.Bool.{cases_lt}
use Rattle.std.proofs.lemmas.Option.{same_Some, none-some, slice_get_within}
use Rattle.ynl_lanes.specs.firsts.Firsts.{IsFirst, NonePasses}
use Rattle.ynl_resource.specs.declared.amounts.Resource.{Resource}
use Rattle.ynl_slots.specs.Slots.{IsLive}
use Rattle.ynl_lanes.specs.declared.lows.users.UserLow.{UserLow}
use Rattle.ynl_lanes.specs.lows.Lows.{IsBelow}
use Rattle.ynl_lanes.specs.lows.Users.{no_user, IsBelowRequest}
use Rattle.ynl_lanes.specs.declared.lane.kinds.Kind.{Kind}
use Rattle.ynl_lanes.specs.declared.lane.kinds.Kind.TheVariants.{Master, Ask}
use Rattle.ynl_lanes.specs.declared.lane.levels.Level.TheVariants.{Lane, User}
use Rattle.ynl_lanes.specs.lane.Lined.{Lined}
use Rattle.ynl_lanes.specs.declared.lane.rows.SeatRow.{SeatRow}
use Rattle.ynl_lanes.specs.declared.lane.rows.UserRow.{UserRow}
use Rattle.ynl_lanes.specs.declared.lane.rows.Rows.{Rows}
use Rattle.ynl_lanes.specs.declared.lane.search.Found.{Found}
use Rattle.ynl_lanes.specs.lane.Lines.{values_of, IsLine}
use Rattle.ynl_lanes.specs.lane.Found.{IsSeatAt}
use Rattle.ynl_lanes.specs.lane.Rows.{own_tickets, used_by, waits_in, IsSeated, IsKept}
use Rattle.ynl_lanes.specs.lane.Search.{NoneBefore, IsFirstGiven, IsOwn, IsOfStand, MayHaveGiven, WaitsAt}
use Rattle.ynl_lanes.specs.lane.Waiting.{IsWaiting, IsWaitingWithin}
use Rattle.ynl_lanes.proofs.lane.Found.{in_line-at, one_at}
use Rattle.ynl_lanes.proofs.lane.Searching.{own_slot-in}

pub if_none-then : {X : Type 0} (o : Option X) (P Q : Type 0) → (P → Q) → IfNone o P → IfNone o Q
if_none-then None P Q f h = f h
if_none-then (Some x) P Q f h = tt

pub if_some-then : {X : Type 0} (o : Option X) (P Q : X → Type 0) → ((x : X) → P x → Q x) → IfSome o P → IfSome o Q
if_some-then None P Q f h = tt
if_some-then (Some x) P Q f h = f x h

-- the values of a lane as far as there are tickets
pub within_values : {T : Type 0} (kind : Kind) (line : Lined T) (slot : ℕ) → IsLine line → slot < length line.tickets → slot < length (values_of kind line)
within_values Master line slot l h = omega (arith, h, l.masters)
within_values Ask line slot l h = omega (arith, h, l.asks)

module _ (rows : Rows) (seated : IsSeated rows) where
  -- a seat's slot has a value
  pub slot_inside : (kind : Kind) (n : ℕ) (row : SeatRow) → lookup (nat_eq n) rows.seats.entries ≡ Some row → row.slot < length (values_of kind rows.line)
  slot_inside kind n row found = within_values kind rows.line row.slot seated.line (slice_get_within rows.line.tickets row.slot n (in_line-at Lane rows.line.tickets rows.seats.entries n row.slot row (seated.lines Lane) found refl))

  -- the user of a seat has a row
  pub user_live : (n : ℕ) (row : SeatRow) → lookup (nat_eq n) rows.seats.entries ≡ Some row → IsLive row.user rows.users.entries
  user_live n row found = go (lookup (nat_eq row.user) rows.users.entries) refl
    where
      tickets : slice_get (own_tickets row.user rows.users.entries) row.own_slot ≡ Some n
      tickets = in_line-at (User row.user) (own_tickets row.user rows.users.entries) rows.seats.entries n row.own_slot row (seated.lines (User row.user)) found (own_slot-in row.user row refl)

      go : (o : Option UserRow) → lookup (nat_eq row.user) rows.users.entries ≡ o → is_some o ≡ true
      go (Some user) q = refl
      go None q = absurd (none-some n (ap (λ o. slice_get (option_map_or (λ (r : UserRow). r.line.tickets) o []) row.own_slot) (sym q) ∙ tickets))

  module _ (kind : Kind) (stand ticket : ℕ) (row : SeatRow) (at : IsSeatAt Lane stand rows.seats.entries ticket row) where
    -- the seats of the user who stands there
    stand_user : (e : SeatRow) → IsOfStand stand kind rows.seats.entries rows.users.entries e → IsOwn rows.users.entries row.user kind IsWaiting e
    stand_user e h =
        let same = one_at Lane rows.line.tickets rows.seats.entries h.0 ticket stand h.1 row (seated.lines Lane) h.2 (ap Some h.3) at.found at.at in
        record { own = h.4.own ∙ ap (λ (x : SeatRow). x.user) same.1; fits = h.4.fits }

    module _ {F : Type 0} (may : Resource → Resource → Type 0) (gives : ℕ → Option F) (all : MayHaveGiven kind may gives rows.seats.entries rows.users.entries) (used : Resource) (is : used ≡ used_by row.user rows.users.entries) (limit : ℕ) where
      -- what is given at one of them the user may have
      have : (n : ℕ) (e : SeatRow) → lookup (nat_eq n) rows.seats.entries ≡ Some e → IsOwn rows.users.entries row.user kind IsWaiting e → IsSome (gives e.app) → may used (waits_in kind rows.users.entries e)
      have n e there own given = subst (λ u. may u (waits_in kind rows.users.entries e)) (ap (λ k. used_by k rows.users.entries) own.own ∙ sym is) (all n e there own.fits given)

      module _ (room : Resource) (fits : (size : Resource) → may used size → IsBelow size room) where
        to_own : (n : ℕ) (e : SeatRow) → lookup (nat_eq n) rows.seats.entries ≡ Some e → IsOfStand stand kind rows.seats.entries rows.users.entries e → IsSome (gives e.app) → IsOwn rows.users.entries row.user kind (IsWaitingWithin (record { room = room })) e
        to_own n e there stands given =
            let own = stand_user e stands in
            record { own = own.own; fits = record { waiting = own.fits; room = fits (waits_in kind rows.users.entries e) (have n e there own given) } }

        pub none_to_stand : NoneBefore (IsOwn rows.users.entries row.user kind (IsWaitingWithin (record { room = room }))) gives rows.seats.entries limit → NoneBefore (IsOfStand stand kind rows.seats.entries rows.users.entries) gives rows.seats.entries limit
        none_to_stand h n e there stands given = h n e there (to_own n e there stands given) given

        pub first_to_stand : (found : Found F) → IsFirstGiven (IsOwn rows.users.entries row.user kind (IsWaitingWithin (record { room = room }))) gives rows.seats.entries limit found → IsFirstGiven (IsOfStand stand kind rows.seats.entries rows.users.entries) gives rows.seats.entries limit found
        first_to_stand found h = record {
          row = h.row;
          there = h.there;
          at = h.at;
          before = h.before;
          here = (ticket, row, at.found, same_Some _ _ at.at, record { own = h.here.own; fits = h.here.fits.waiting });
          given = h.given;
          first = λ n e there stands given. h.first n e there (to_own n e there stands given) given;
        }

      -- the user may have nothing
      pub none_may : ((size : Resource) → ¬ (may used size)) → NoneBefore (IsOfStand stand kind rows.seats.entries rows.users.entries) gives rows.seats.entries limit
      none_may over n e there stands given = absurd (over (waits_in kind rows.users.entries e) (have n e there (stand_user e stands) given))

-- what has been found, up to a slot
pub record IsBest {F : Type 0} (rows : Rows) (kind : Kind) (gives : ℕ → Option F) (limit least : ℕ) (found : Found F) : Type 0 where
  pub row : SeatRow
  pub there : lookup (nat_eq found.ticket) rows.seats.entries ≡ Some row
  pub at : row.slot ≡ found.slot
  pub is : found.slot ≡ least
  pub before : found.slot < limit
  pub here : WaitsAt kind rows.users.entries row
  pub given : gives row.app ≡ Some found.given

-- the users who stand before a slot have no seat before the least found
abbrev pub HavePassed : {F : Type 0} → Rows → Kind → (UserLow → Type 0) → (ℕ → Option F) → ℕ → ℕ → Type 0
HavePassed rows kind passes gives least from =
    (m : ℕ) (s : SeatRow) → lookup (nat_eq m) rows.seats.entries ≡ Some s → s.slot < from → passes (get_or (values_of kind rows.line) s.slot no_user)
    → (n : ℕ) (e : SeatRow) → lookup (nat_eq n) rows.seats.entries ≡ Some e → e.user ≡ s.user → WaitsAt kind rows.users.entries e → IsSome (gives e.app) → least ≤ e.slot

pub record IsSearching {F : Type 0} (rows : Rows) (kind : Kind) (passes : UserLow → Type 0) (gives : ℕ → Option F) (limit : ℕ) (best : Option (Found F)) (least from : ℕ) : Type 0 where
  pub none : IfNone best (least ≡ limit)
  pub some : IfSome best (IsBest rows kind gives limit least)
  pub passed : HavePassed rows kind passes gives least from

module _ (rows : Rows) (kept : IsKept rows) {F : Type 0} (kind : Kind) (passes : UserLow → Type 0) (may : Resource → Resource → Type 0) (law : (user : UserLow) (used size : Resource) → IsBelowRequest user used size → may used size → passes user)
    (gives : ℕ → Option F) (all : MayHaveGiven kind may gives rows.seats.entries rows.users.entries) (limit : ℕ) where
  -- where no more users stand before the least found, none has a seat before it
  ends : (least from : ℕ) → HavePassed rows kind passes gives least from → ((m : ℕ) (s : SeatRow) → lookup (nat_eq m) rows.seats.entries ≡ Some s → from ≤ s.slot → s.slot < least → ¬ (passes (get_or (values_of kind rows.line) s.slot no_user))) → NoneBefore (WaitsAt kind rows.users.entries) gives rows.seats.entries least
  ends least from passed fails n e there waits given =
      let stood = kept.stood kind n e there waits in
      let pass : passes (get_or (values_of kind rows.line) stood.stand.slot no_user) = law _ _ _ stood.low (all n e there waits given) in
      let front = stood.front in
      ⊎_elim
      (λ before. passed stood.ticket stood.stand stood.found before pass n e there (sym stood.user) waits given)
      (λ behind. ⊎_elim (λ low. absurd (fails stood.ticket stood.stand stood.found behind low pass)) (λ high. omega (arith, high, front)) (cases_lt stood.stand.slot least))
      (cases_lt stood.stand.slot from)

  finish : (best : Option (Found F)) (least from : ℕ) → IsSearching rows kind passes gives limit best least from → NoneBefore (WaitsAt kind rows.users.entries) gives rows.seats.entries least
      → IfNone best (NoneBefore (WaitsAt kind rows.users.entries) gives rows.seats.entries limit) × IfSome best (IsFirstGiven (WaitsAt kind rows.users.entries) gives rows.seats.entries limit)
  finish None least from h none = (subst (NoneBefore (WaitsAt kind rows.users.entries) gives rows.seats.entries) h.none none, tt)
  finish (Some found) least from h none = (
    tt,
    record {
      row = h.some.row;
      there = h.some.there;
      at = h.some.at;
      before = h.some.before;
      here = h.some.here;
      given = h.some.given;
      first = subst (NoneBefore (WaitsAt kind rows.users.entries) gives rows.seats.entries) (sym h.some.is) none;
    },
  )

  -- no value passes any more
  pub finish_none : (best : Option (Found F)) (least from : ℕ) → IsSearching rows kind passes gives limit best least from → NonePasses passes (values_of kind rows.line) from
      → IfNone best (NoneBefore (WaitsAt kind rows.users.entries) gives rows.seats.entries limit) × IfSome best (IsFirstGiven (WaitsAt kind rows.users.entries) gives rows.seats.entries limit)
  finish_none best least from h none = finish best least from h (ends least from h.passed (λ m s there on low pass.
      let inside : s.slot < length rows.line.tickets = slice_get_within rows.line.tickets s.slot m (in_line-at Lane rows.line.tickets rows.seats.entries m s.slot s (kept.seated.lines Lane) there refl) in
      none s.slot no_user on (within_values kind rows.line s.slot kept.seated.line inside) pass))

  -- or the next user stands behind the least found
  pub finish_behind : (best : Option (Found F)) (least from stand : ℕ) → IsSearching rows kind passes gives limit best least from → IsFirst passes (values_of kind rows.line) from stand → least ≤ stand
      → IfNone best (NoneBefore (WaitsAt kind rows.users.entries) gives rows.seats.entries limit) × IfSome best (IsFirstGiven (WaitsAt kind rows.users.entries) gives rows.seats.entries limit)
  finish_behind best least from stand h first behind = finish best least from h (ends least from h.passed (λ m s there on low pass.
      let before : s.slot < stand = omega (arith, low, behind) in
      first.before s.slot no_user on before pass))
