-- What is kept of the rows where a line is packed.
use Rattle.std.proofs.Common.{◌≡◌, ◌≢◌, ℕ, ◌≤◌, ⊎_elim, Bool, true, false, cond, List, [], ◌∷◌, get_or, Option, Some, None, nat_eq, refl, sym, ap, subst, ◌∙◌, arith}
use Rattle.std.specs.List.{AllByRecursion}
use Rattle.std.specs.Map.{lookup}
use Rattle.std.specs.Option.{option_map_or}
use Rattle.std.proofs.lemmas.Bool.{cases_eq}
use Rattle.std.proofs.lemmas.Bool.Decides.{nat_tests}
use Rattle.std.proofs.lemmas.Option.{same_Some, none-some}
use Rattle.ynl_resource.specs.Amounts.{nothing}
use Rattle.ynl_slots.specs.Slots.{HasDistinctNumbers, with_row}
use Rattle.ynl_lanes.specs.lows.Lows.{no_size}
use Rattle.ynl_lanes.specs.lows.Users.{no_user, IsBelowRequest}
use Rattle.ynl_lanes.specs.declared.lane.kinds.Kind.{Kind}
use Rattle.ynl_lanes.specs.declared.lane.levels.Level.{Level}
use Rattle.ynl_lanes.specs.declared.lane.levels.Level.TheVariants.{Lane, User}
use Rattle.ynl_lanes.specs.lane.Lined.{Lined}
use Rattle.ynl_lanes.specs.declared.lane.rows.SeatRow.{SeatRow}
use Rattle.ynl_lanes.specs.declared.lane.rows.UserRow.{UserRow}
use Rattle.ynl_lanes.specs.declared.lane.rows.Rows.{Rows}
use Rattle.ynl_lanes.specs.lane.Levels.{slot_in, at_slot, IsIn, IsBefore, AreOrdered, ArePairs, AreIn, IsMoved}
use Rattle.ynl_lanes.specs.lane.Lines.{values_of, IsLine}
use Rattle.ynl_lanes.specs.lane.Found.{EachSeat}
use Rattle.ynl_lanes.specs.lane.Rooms.{IsSameSeat}
use Rattle.ynl_lanes.specs.lane.Rows.{own_tickets, own_values, used_by, waits_in, tickets_in, EachUser, IsUse, IsUserRow, IsSeated, IsStood, AreStood, IsKept}
use Rattle.ynl_lanes.specs.lane.Waiting.{IsWaiting}
use Rattle.ynl_lanes.proofs.lane.Lists.{all_lookup, pairs_then, pairs_same}
use Rattle.ynl_lanes.proofs.lane.Searching.{own_slot-in}
use Rattle.ynl_lanes.proofs.lane.Changing.{of_written, of_other, users_written}

module _ {X : Type 0} (R : ℕ × X → ℕ × X → Type 0) (keys : (x y : ℕ × X) → R x y → y.0 ≡ x.0) where
  pub pairs_all : (P Q : ℕ × X → Type 0) → ((x y : ℕ × X) → R x y → P x → Q y) → (es fs : List (ℕ × X)) → ArePairs R es fs → AllByRecursion P es → AllByRecursion Q fs
  pairs_all P Q f [] [] k h = tt
  pairs_all P Q f (x ∷ es) (y ∷ fs) k h = (f x y k.0 h.0, pairs_all P Q f es fs k.1 h.1)
  pairs_all P Q f [] (y ∷ fs) k h = absurd k
  pairs_all P Q f (x ∷ es) [] k h = absurd k

  pub pairs_ordered : (S T : ℕ × X → ℕ × X → Type 0) → ((x y v w : ℕ × X) → R x y → R v w → S x v → T y w) → (es fs : List (ℕ × X)) → ArePairs R es fs → AreOrdered S es → AreOrdered T fs
  pairs_ordered S T f [] [] k h = tt
  pairs_ordered S T f (x ∷ es) (y ∷ fs) k h = (each es fs k.1 h.0, pairs_ordered S T f es fs k.1 h.1)
    where
      each : (vs ws : List (ℕ × X)) → ArePairs R vs ws → AllByRecursion (S x) vs → AllByRecursion (T y) ws
      each vs ws p a = pairs_all (S x) (T y) (λ v w r s. f x y v w k.0 r s) vs ws p a
  pairs_ordered S T f [] (y ∷ fs) k h = absurd k
  pairs_ordered S T f (x ∷ es) [] k h = absurd k

  -- what stands under a number before and after
  pub record Both (n : ℕ) (es fs : List (ℕ × X)) : Type 0 where
    pub old : ℕ × X
    pub new : ℕ × X
    pub pair : R old new
    pub was : lookup (nat_eq n) es ≡ Some old.1
    pub is : lookup (nat_eq n) fs ≡ Some new.1

  both_at : (n : ℕ) (x y : ℕ × X) (es fs : List (ℕ × X)) → R x y → nat_eq n x.0 ≡ true → Both n (x ∷ es) (y ∷ fs)
  both_at n x y es fs r q = record {
    old = x;
    new = y;
    pair = r;
    was = ap (λ (b : Bool). cond b (Some x.1) (lookup (nat_eq n) es)) q;
    is = ap (λ (b : Bool). cond b (Some y.1) (lookup (nat_eq n) fs)) (ap (nat_eq n) (keys x y r) ∙ q);
  }

  both_behind : (n : ℕ) (x y : ℕ × X) (es fs : List (ℕ × X)) → R x y → nat_eq n x.0 ≡ false → Both n es fs → Both n (x ∷ es) (y ∷ fs)
  both_behind n x y es fs r q h = record {
    old = h.old;
    new = h.new;
    pair = h.pair;
    was = ap (λ (b : Bool). cond b (Some x.1) (lookup (nat_eq n) es)) q ∙ h.was;
    is = ap (λ (b : Bool). cond b (Some y.1) (lookup (nat_eq n) fs)) (ap (nat_eq n) (keys x y r) ∙ q) ∙ h.is;
  }

  pub both_old : (n : ℕ) (e : X) (es fs : List (ℕ × X)) → ArePairs R es fs → lookup (nat_eq n) es ≡ Some e → Both n es fs
  both_old n e [] [] k found = absurd (none-some e found)
  both_old n e (x ∷ es) (y ∷ fs) k found = go (nat_eq n x.0) refl found (λ f. both_old n e es fs k.1 f)
    where
      go : (b : Bool) → nat_eq n x.0 ≡ b → cond b (Some x.1) (lookup (nat_eq n) es) ≡ Some e → (lookup (nat_eq n) es ≡ Some e → Both n es fs) → Both n (x ∷ es) (y ∷ fs)
      go true q f later = both_at n x y es fs k.0 q
      go false q f later = both_behind n x y es fs k.0 q (later f)
  both_old n e [] (y ∷ fs) k found = absurd k
  both_old n e (x ∷ es) [] k found = absurd k

  pub both_new : (n : ℕ) (e : X) (es fs : List (ℕ × X)) → ArePairs R es fs → lookup (nat_eq n) fs ≡ Some e → Both n es fs
  both_new n e [] [] k found = absurd (none-some e found)
  both_new n e (x ∷ es) (y ∷ fs) k found = go (nat_eq n y.0) refl found (λ f. both_new n e es fs k.1 f)
    where
      go : (b : Bool) → nat_eq n y.0 ≡ b → cond b (Some y.1) (lookup (nat_eq n) fs) ≡ Some e → (lookup (nat_eq n) fs ≡ Some e → Both n es fs) → Both n (x ∷ es) (y ∷ fs)
      go true q f later = both_at n x y es fs k.0 (ap (nat_eq n) (sym (keys x y k.0)) ∙ q)
      go false q f later = both_behind n x y es fs k.0 (ap (nat_eq n) (sym (keys x y k.0)) ∙ q) (later f)
  both_new n e [] (y ∷ fs) k found = absurd k
  both_new n e (x ∷ es) [] k found = absurd k

-- the order of two seats before and after
module _ (R : ℕ × SeatRow → ℕ × SeatRow → Type 0) (keys : (x y : ℕ × SeatRow) → R x y → y.0 ≡ x.0) where
  lane_order : (m n : ℕ) (a b c d : SeatRow) (es fs : List (ℕ × SeatRow)) → ArePairs R es fs → AreOrdered (IsBefore Lane) es → AreOrdered (IsBefore Lane) fs
      → lookup (nat_eq m) es ≡ Some a → lookup (nat_eq m) fs ≡ Some b → lookup (nat_eq n) es ≡ Some c → lookup (nat_eq n) fs ≡ Some d → a.slot ≤ c.slot → b.slot ≤ d.slot
  lane_order m n a b c d [] fs k h j p q r s le = absurd (none-some a p)
  lane_order m n a b c d (x ∷ es) [] k h j p q r s le = absurd k
  lane_order m n a b c d (x ∷ es) (y ∷ fs) k h j p q r s le =
      go (nat_eq m x.0) refl (nat_eq n x.0) refl p (ap (λ (t : Bool). cond t (Some y.1) (lookup (nat_eq m) fs)) (ap (nat_eq m) (sym (keys x y k.0))) ∙ q) r (ap (λ (t : Bool). cond t (Some y.1) (lookup (nat_eq n) fs)) (ap (nat_eq n) (sym (keys x y k.0))) ∙ s)
      (λ p q r s. lane_order m n a b c d es fs k.1 h.1 j.1 p q r s le)
    where
      same : (f g : SeatRow) → Some f ≡ Some g → f.slot ≡ g.slot
      same f g e = ap (λ (z : SeatRow). z.slot) (same_Some f g e)

      go : (t : Bool) → nat_eq m x.0 ≡ t → (u : Bool) → nat_eq n x.0 ≡ u → cond t (Some x.1) (lookup (nat_eq m) es) ≡ Some a → cond t (Some y.1) (lookup (nat_eq m) fs) ≡ Some b → cond u (Some x.1) (lookup (nat_eq n) es) ≡ Some c → cond u (Some y.1) (lookup (nat_eq n) fs) ≡ Some d
          → (lookup (nat_eq m) es ≡ Some a → lookup (nat_eq m) fs ≡ Some b → lookup (nat_eq n) es ≡ Some c → lookup (nat_eq n) fs ≡ Some d → b.slot ≤ d.slot) → b.slot ≤ d.slot
      go true _ true _ p q r s later = omega (arith, same _ _ q, same _ _ s)
      go true _ false _ p q r s later = (let lt = all_lookup (IsBefore Lane y) n d fs j.0 s y.1.slot d.slot refl refl in omega (arith, same _ _ q, lt))
      go false _ true _ p q r s later = absurd (let lt = all_lookup (IsBefore Lane x) m a es h.0 p x.1.slot a.slot refl refl in omega (arith, same _ _ r, lt, le))
      go false _ false _ p q r s later = later p q r s

-- where the slots in a line stay, the line is as good
in_paired : (R : ℕ × SeatRow → ℕ × SeatRow → Type 0) → ((x y : ℕ × SeatRow) → R x y → y.0 ≡ x.0) → (level : Level) (tickets : List ℕ) → ((x y : ℕ × SeatRow) → R x y → slot_in level y.1 ≡ slot_in level x.1) → (es fs : List (ℕ × SeatRow)) → ArePairs R es fs → AreIn level tickets es → AreIn level tickets fs
in_paired R keys level tickets same es fs k h = record {
  in_line = pairs_all R keys (IsIn level tickets) (IsIn level tickets) (λ x y r is slot at. is slot (sym (same x y r) ∙ at) ∙ ap Some (sym (keys x y r))) es fs k h.in_line;
  ordered = pairs_ordered R keys (IsBefore level) (IsBefore level) (λ x y v w r q before m n at there. before m n (sym (same x y r) ∙ at) (sym (same v w q) ∙ there)) es fs k h.ordered;
}

-- a seat that moved is the same
same_moved : {T : Type 0} (level : Level) (old new : Lined T) (before after : List (ℕ × UserRow)) (es fs : List (ℕ × SeatRow)) → ((x y : ℕ × SeatRow) → IsMoved level old new x y → (kind : Kind) → waits_in kind after y.1 ≡ waits_in kind before x.1) → ArePairs (IsMoved level old new) es fs → ArePairs (IsSameSeat before after) es fs
same_moved level old new before after es fs waits k = pairs_then (IsMoved level old new) (IsSameSeat before after)
    (λ x y m. record { ticket = m.ticket; app = ap (λ (g : SeatRow). g.app) m.row ∙ app level m.slot x.1; user = ap (λ (g : SeatRow). g.user) m.row ∙ user level m.slot x.1; waits = waits x y m }) es fs k
  where
    either : {Y : Type 0} (f : SeatRow → Y) (b : Bool) (r s : SeatRow) → f r ≡ f s → f (cond b r s) ≡ f s
    either f true r s same = same
    either f false r s same = refl

    app : (level : Level) (slot : ℕ) (r : SeatRow) → (at_slot level slot r).app ≡ r.app
    app Lane slot r = refl
    app (User other) slot r = either (λ (g : SeatRow). g.app) (nat_eq r.user other) (record r { own_slot = slot }) r refl

    user : (level : Level) (slot : ℕ) (r : SeatRow) → (at_slot level slot r).user ≡ r.user
    user Lane slot r = refl
    user (User other) slot r = either (λ (g : SeatRow). g.user) (nat_eq r.user other) (record r { own_slot = slot }) r refl

-- the line of the lane is packed
module _ (rows new : Rows) (kept : IsKept rows) (users : new.users ≡ rows.users) (line : IsLine new.line) (are_in : AreIn Lane new.line.tickets new.seats.entries) (distinct : HasDistinctNumbers new.seats.entries)
    (moved : ArePairs (IsMoved Lane rows.line new.line) rows.seats.entries new.seats.entries) where
  lane_keys : (x y : ℕ × SeatRow) → IsMoved Lane rows.line new.line x y → y.0 ≡ x.0
  lane_keys x y m = m.ticket

  -- the same waits at a seat
  same_waits : (kind : Kind) (x y : ℕ × SeatRow) → IsMoved Lane rows.line new.line x y → waits_in kind new.users.entries y.1 ≡ waits_in kind rows.users.entries x.1
  same_waits kind x y m = ap (λ us. waits_in kind us.entries y.1) users ∙ ap (waits_in kind rows.users.entries) m.row

  seated_packed : IsSeated new
  seated_packed = record {
    distinct = distinct;
    lines = lines;
    line = line;
    users = subst (λ us. EachUser IsUserRow us.entries) (sym users) kept.seated.users;
  }
    where
      lines : (level : Level) → AreIn level (tickets_in level new) new.seats.entries
      lines Lane = are_in
      lines (User user) = subst (λ us. AreIn (User user) (own_tickets user us.entries) new.seats.entries) (sym users)
          (in_paired (IsMoved Lane rows.line new.line) lane_keys (User user) (own_tickets user rows.users.entries) (λ x y m. ap (slot_in (User user)) m.row) rows.seats.entries new.seats.entries moved (kept.seated.lines (User user)))

  stood_packed : (kind : Kind) → AreStood kind new
  stood_packed kind n f there waiting = go (both_new (IsMoved Lane rows.line new.line) lane_keys n f rows.seats.entries new.seats.entries moved there)
    where
      put : (n : ℕ) (f : SeatRow) → lookup (nat_eq n) new.seats.entries ≡ Some f → (b : Both (IsMoved Lane rows.line new.line) lane_keys n rows.seats.entries new.seats.entries) → f ≡ at_slot Lane b.pair.slot b.old.1
      put n f there b = same_Some _ _ (sym there ∙ b.is) ∙ b.pair.row

      go : Both (IsMoved Lane rows.line new.line) lane_keys n rows.seats.entries new.seats.entries → IsStood kind new.seats.entries new.users.entries (values_of kind new.line) f
      go b =
          let is : f ≡ at_slot Lane b.pair.slot b.old.1 = put n f there b in
          let h = kept.stood kind n b.old.1 b.was (subst IsWaiting (ap (waits_in kind new.users.entries) (same_Some _ _ (sym there ∙ b.is)) ∙ same_waits kind b.old b.new b.pair) waiting) in
          let s = both_old (IsMoved Lane rows.line new.line) lane_keys h.ticket h.stand rows.seats.entries new.seats.entries moved h.found in
          let old : s.old.1 ≡ h.stand = same_Some _ _ (sym s.was ∙ h.found) in
          let stand : s.new.1 ≡ at_slot Lane s.pair.slot h.stand = s.pair.row ∙ ap (at_slot Lane s.pair.slot) old in
          let slot : s.new.1.slot ≡ s.pair.slot = ap (λ (g : SeatRow). g.slot) stand in
          let value : get_or (values_of kind new.line) s.new.1.slot no_user ≡ get_or (values_of kind rows.line) h.stand.slot no_user = ap (λ k. get_or (values_of kind new.line) k no_user) slot ∙ s.pair.values kind h.stand.slot (ap (λ (g : SeatRow). Some g.slot) old) no_user in
          record {
            ticket = h.ticket;
            stand = s.new.1;
            found = s.is;
            user = ap (λ (g : SeatRow). g.user) stand ∙ h.user ∙ sym (ap (λ (g : SeatRow). g.user) is);
            waits = subst IsWaiting (ap (waits_in kind rows.users.entries) (sym old) ∙ sym (same_waits kind s.old s.new s.pair)) h.waits;
            front = lane_order (IsMoved Lane rows.line new.line) lane_keys h.ticket n h.stand s.new.1 b.old.1 f rows.seats.entries new.seats.entries moved (kept.seated.lines Lane).ordered are_in.ordered h.found s.is b.was there h.front;
            low = subst (λ v. IsBelowRequest v (used_by f.user new.users.entries) (waits_in kind new.users.entries f)) (sym value)
                (subst (λ us. IsBelowRequest (get_or (values_of kind rows.line) h.stand.slot no_user) (used_by f.user us.entries) (waits_in kind us.entries f)) (sym users)
                (subst (λ (g : SeatRow). IsBelowRequest (get_or (values_of kind rows.line) h.stand.slot no_user) (used_by g.user rows.users.entries) (waits_in kind rows.users.entries g)) (sym is) h.low));
          }

  pub kept_packed : IsKept new
  kept_packed = record { seated = seated_packed; stood = stood_packed }

  pub seats_packed : ArePairs (IsSameSeat rows.users.entries new.users.entries) rows.seats.entries new.seats.entries
  seats_packed = same_moved Lane rows.line new.line rows.users.entries new.users.entries rows.seats.entries new.seats.entries (λ x y m kind. same_waits kind x y m) moved

-- a seat of another user does not move, and one of the user only in the user's line
other_row : (user slot : ℕ) (row : SeatRow) → row.user ≢ user → at_slot (User user) slot row ≡ row
other_row user slot row apart =
    let missed : nat_eq row.user user ≡ false = grind (arith, nat_tests) in
    ap (λ (b : Bool). let r : SeatRow = cond b (record row { own_slot = slot }) row in r) missed

own_row : (user slot : ℕ) (row : SeatRow) → row.user ≡ user → at_slot (User user) slot row ≡ record row { own_slot = slot }
own_row user slot row same =
    let met : nat_eq row.user user ≡ true = grind (arith, nat_tests) in
    ap (λ (b : Bool). let r : SeatRow = cond b (record row { own_slot = slot }) row in r) met

-- the line of a user is packed
module _ (rows new : Rows) (kept : IsKept rows) (user : ℕ) (row next : UserRow) (found : lookup (nat_eq user) rows.users.entries ≡ Some row) (users : new.users.entries ≡ with_row user next rows.users.entries) (used : next.used ≡ row.used) (lane : new.line ≡ rows.line)
    (line : IsLine next.line) (are_in : AreIn (User user) next.line.tickets new.seats.entries) (distinct : HasDistinctNumbers new.seats.entries)
    (moved : ArePairs (IsMoved (User user) row.line next.line) rows.seats.entries new.seats.entries) where
  own_keys : (x y : ℕ × SeatRow) → IsMoved (User user) row.line next.line x y → y.0 ≡ x.0
  own_keys x y m = m.ticket

  -- what does not change of a seat
  own_same : {Y : Type 0} (f : SeatRow → Y) → ((r : SeatRow) (slot : ℕ) → f (record r { own_slot = slot }) ≡ f r) → (slot : ℕ) (r : SeatRow) → f (at_slot (User user) slot r) ≡ f r
  own_same f same slot r = ⊎_elim (λ is. ap f (own_row user slot r is) ∙ same r slot) (λ apart. ap f (other_row user slot r apart)) (cases_eq r.user user)

  same_used : (other : ℕ) → used_by other new.users.entries ≡ used_by other rows.users.entries
  same_used other = ap (used_by other) users ∙ ⊎_elim
      (λ same. ap (λ k. used_by k (with_row user next rows.users.entries)) same ∙ of_written (λ (r : UserRow). r.used) nothing user row next rows.users.entries found ∙ used ∙ sym (ap (λ o. option_map_or (λ (r : UserRow). r.used) o nothing) found) ∙ ap (λ k. used_by k rows.users.entries) (sym same))
      (λ apart. of_other (λ (r : UserRow). r.used) nothing other user next rows.users.entries apart)
      (cases_eq other user)

  -- the same waits at a seat, wherever it went
  own_waits : (kind : Kind) (x y : ℕ × SeatRow) → IsMoved (User user) row.line next.line x y → waits_in kind new.users.entries y.1 ≡ waits_in kind rows.users.entries x.1
  own_waits kind x y m = ⊎_elim mine other (cases_eq x.1.user user)
    where
      mine : x.1.user ≡ user → waits_in kind new.users.entries y.1 ≡ waits_in kind rows.users.entries x.1
      mine same =
          ap (waits_in kind new.users.entries) (m.row ∙ own_row user m.slot x.1 same)
          ∙ ap (λ k. get_or (own_values kind k new.users.entries) m.slot no_size) same ∙ ap (λ vs. get_or vs m.slot no_size) (ap (own_values kind user) users ∙ of_written (λ (r : UserRow). values_of kind r.line) [] user row next rows.users.entries found)
          ∙ m.values kind x.1.own_slot (own_slot-in user x.1 same) no_size
          ∙ ap (λ vs. get_or vs x.1.own_slot no_size) (sym (ap (λ o. option_map_or (λ (r : UserRow). values_of kind r.line) o []) found)) ∙ ap (λ k. get_or (own_values kind k rows.users.entries) x.1.own_slot no_size) (sym same)

      other : x.1.user ≢ user → waits_in kind new.users.entries y.1 ≡ waits_in kind rows.users.entries x.1
      other apart =
          ap (waits_in kind new.users.entries) (m.row ∙ other_row user m.slot x.1 apart)
          ∙ ap (λ vs. get_or vs x.1.own_slot no_size) (ap (own_values kind x.1.user) users ∙ of_other (λ (r : UserRow). values_of kind r.line) [] x.1.user user next rows.users.entries apart)

  pub seats_own : ArePairs (IsSameSeat rows.users.entries new.users.entries) rows.seats.entries new.seats.entries
  seats_own = same_moved (User user) row.line next.line rows.users.entries new.users.entries rows.seats.entries new.seats.entries (λ x y m kind. own_waits kind x y m) moved

  seated_own : IsSeated new
  seated_own = record {
    distinct = distinct;
    lines = lines;
    line = subst IsLine (sym lane) kept.seated.line;
    users = subst (EachUser IsUserRow) (sym users) (users_written user row next rows.users.entries found (record { line = line; small = subst IsUse (sym used) (kept.seated.users user row found).small }) kept.seated.users);
  }
    where
      lines : (level : Level) → AreIn level (tickets_in level new) new.seats.entries
      lines Lane = subst (λ l. AreIn Lane l.tickets new.seats.entries) (sym lane)
          (in_paired (IsMoved (User user) row.line next.line) own_keys Lane rows.line.tickets (λ x y m. ap (slot_in Lane) m.row ∙ own_same (slot_in Lane) (λ r slot. refl) m.slot x.1) rows.seats.entries new.seats.entries moved (kept.seated.lines Lane))
      lines (User other) = ⊎_elim
          (λ same. subst (λ k. AreIn (User k) (own_tickets k new.users.entries) new.seats.entries) (sym same) (subst (λ ts. AreIn (User user) ts new.seats.entries) (sym (ap (own_tickets user) users ∙ of_written (λ (r : UserRow). r.line.tickets) [] user row next rows.users.entries found)) are_in))
          (λ apart. subst (λ ts. AreIn (User other) ts new.seats.entries) (sym (ap (own_tickets other) users ∙ of_other (λ (r : UserRow). r.line.tickets) [] other user next rows.users.entries apart))
          (in_paired (IsMoved (User user) row.line next.line) own_keys (User other) (own_tickets other rows.users.entries) (λ x y m. ap (slot_in (User other)) m.row ∙ elsewhere other apart m.slot x.1) rows.seats.entries new.seats.entries moved (kept.seated.lines (User other))))
          (cases_eq other user)
        where
          elsewhere : (other : ℕ) → other ≢ user → (slot : ℕ) (r : SeatRow) → slot_in (User other) (at_slot (User user) slot r) ≡ slot_in (User other) r
          elsewhere other apart slot r = ⊎_elim
              (λ is.
              let away : r.user ≢ other = λ same. apart (sym same ∙ is) in
              let missed : nat_eq r.user other ≡ false = grind (arith, nat_tests) in
              ap (slot_in (User other)) (own_row user slot r is) ∙ ap (λ (b : Bool). let o : Option ℕ = cond b (Some slot) None in o) missed ∙ sym (ap (λ (b : Bool). let o : Option ℕ = cond b (Some r.own_slot) None in o) missed))
              (λ away. ap (slot_in (User other)) (other_row user slot r away))
              (cases_eq r.user user)

  stood_own : (kind : Kind) → AreStood kind new
  stood_own kind n f there waiting = go (both_new (IsMoved (User user) row.line next.line) own_keys n f rows.seats.entries new.seats.entries moved there)
    where
      go : Both (IsMoved (User user) row.line next.line) own_keys n rows.seats.entries new.seats.entries → IsStood kind new.seats.entries new.users.entries (values_of kind new.line) f
      go b =
          let is : f ≡ at_slot (User user) b.pair.slot b.old.1 = same_Some _ _ (sym there ∙ b.is) ∙ b.pair.row in
          let user_is : f.user ≡ b.old.1.user = ap (λ (g : SeatRow). g.user) is ∙ own_same (λ (g : SeatRow). g.user) (λ r slot. refl) b.pair.slot b.old.1 in
          let waits_is : waits_in kind new.users.entries f ≡ waits_in kind rows.users.entries b.old.1 = ap (waits_in kind new.users.entries) (same_Some _ _ (sym there ∙ b.is)) ∙ own_waits kind b.old b.new b.pair in
          let slot_is : f.slot ≡ b.old.1.slot = ap (λ (g : SeatRow). g.slot) is ∙ own_same (λ (g : SeatRow). g.slot) (λ r slot. refl) b.pair.slot b.old.1 in
          let h = kept.stood kind n b.old.1 b.was (subst IsWaiting waits_is waiting) in
          let s = both_old (IsMoved (User user) row.line next.line) own_keys h.ticket h.stand rows.seats.entries new.seats.entries moved h.found in
          let old : s.old.1 ≡ h.stand = same_Some _ _ (sym s.was ∙ h.found) in
          let stand : s.new.1 ≡ at_slot (User user) s.pair.slot h.stand = s.pair.row ∙ ap (at_slot (User user) s.pair.slot) old in
          let slot : s.new.1.slot ≡ h.stand.slot = ap (λ (g : SeatRow). g.slot) stand ∙ own_same (λ (g : SeatRow). g.slot) (λ r slot. refl) s.pair.slot h.stand in
          record {
            ticket = h.ticket;
            stand = s.new.1;
            found = s.is;
            user = ap (λ (g : SeatRow). g.user) stand ∙ own_same (λ (g : SeatRow). g.user) (λ r slot. refl) s.pair.slot h.stand ∙ h.user ∙ sym user_is;
            waits = subst IsWaiting (ap (waits_in kind rows.users.entries) (sym old) ∙ sym (own_waits kind s.old s.new s.pair)) h.waits;
            front = (let front = h.front in omega (arith, slot, slot_is, front));
            low = subst (λ l. IsBelowRequest (get_or (values_of kind l) s.new.1.slot no_user) (used_by f.user new.users.entries) (waits_in kind new.users.entries f)) (sym lane)
                (subst (λ k. IsBelowRequest (get_or (values_of kind rows.line) k no_user) (used_by f.user new.users.entries) (waits_in kind new.users.entries f)) (sym slot)
                (subst (λ u. IsBelowRequest (get_or (values_of kind rows.line) h.stand.slot no_user) u (waits_in kind new.users.entries f)) (sym (same_used f.user ∙ ap (λ k. used_by k rows.users.entries) user_is))
                (subst (λ w. IsBelowRequest (get_or (values_of kind rows.line) h.stand.slot no_user) (used_by b.old.1.user rows.users.entries) w) (sym waits_is) h.low)));
          }

  pub kept_own : IsKept new
  kept_own = record { seated = seated_own; stood = stood_own }

-- rows with the same entries are kept as well
pub kept_like : (rows new : Rows) → IsKept rows → new.seats.entries ≡ rows.seats.entries → new.users.entries ≡ rows.users.entries → new.line ≡ rows.line → IsKept new
kept_like rows new kept seats users line = record {
  seated = record {
    distinct = subst HasDistinctNumbers (sym seats) kept.seated.distinct;
    lines = lines;
    line = subst IsLine (sym line) kept.seated.line;
    users = subst (EachUser IsUserRow) (sym users) kept.seated.users;
  };
  stood = λ kind. subst (λ es. EachSeat (λ _ e. IsWaiting (waits_in kind new.users.entries e) → IsStood kind es new.users.entries (values_of kind new.line) e) es) (sym seats)
      (subst (λ us. EachSeat (λ _ e. IsWaiting (waits_in kind us e) → IsStood kind rows.seats.entries us (values_of kind new.line) e) rows.seats.entries) (sym users)
      (subst (λ l. EachSeat (λ _ e. IsWaiting (waits_in kind rows.users.entries e) → IsStood kind rows.seats.entries rows.users.entries (values_of kind l) e) rows.seats.entries) (sym line) (kept.stood kind)));
}
  where
    lines : (level : Level) → AreIn level (tickets_in level new) new.seats.entries
    lines Lane = subst (λ l. AreIn Lane l.tickets new.seats.entries) (sym line) (subst (AreIn Lane rows.line.tickets) (sym seats) (kept.seated.lines Lane))
    lines (User user) = subst (λ us. AreIn (User user) (own_tickets user us) new.seats.entries) (sym users) (subst (AreIn (User user) (own_tickets user rows.users.entries)) (sym seats) (kept.seated.lines (User user)))

pub same_seats : (users : List (ℕ × UserRow)) (es fs : List (ℕ × SeatRow)) → fs ≡ es → ArePairs (IsSameSeat users users) es fs
same_seats users es fs same = subst (ArePairs (IsSameSeat users users) es) (sym same) (pairs_same (IsSameSeat users users) (λ e. record { ticket = refl; app = refl; user = refl; waits = λ kind. refl }) es)
