-- The first seat of some entries that is given something.
use Rattle.std.proofs.Common.{◌≡◌, ◌≢◌, ◌⊎◌, ℕ, Bool, true, false, cond, List, [], ◌∷◌, map, filter, Option, None, Some, IsSome, IfSome, is_some, nat_eq, option_map, inl, inr, refl, sym, ap, subst, ◌∙◌, arith, true≢false}
use Rattle.std.specs.List.{AllByRecursion}
use Rattle.std.specs.Map.{lookup}
use Rattle.std.specs.Option.{option_or}
use Rattle.std.proofs.lemmas.Bool.{false_from_ne_true}
use Rattle.std.proofs.lemmas.Bool.Decides.{nat_tests}
use Rattle.std.proofs.lemmas.Option.{none-some, same_Some}
use Rattle.ynl_slots.specs.Slots.{HasDistinctNumbers, IsUnused}
use Rattle.ynl_lanes.specs.lane.Seats.{IsSeat, Seat, first_given, given_or, seats_before, seats_up_to}
use Rattle.ynl_cluster.proofs.requests.Members.{Among}
use Rattle.ynl_cluster.proofs.requests.Order.{IsIn, Precedes, not-in}

-- ---- over entries

-- an entry's number is among theirs
pub entry-in : {X : Type 0} (e : ℕ × X) (es : List (ℕ × X)) → Among e es → IsIn e.0 es
entry-in e [] there = there
entry-in {X = X} e (other ∷ es) (inl is) = inl (ap (λ (o : ℕ × X). o.0) is)
entry-in e (other ∷ es) (inr there) = inr (entry-in e es there)

module _ {X F : Type 0} (keep : ℕ × X → Bool) (seat : ℕ × X → ℕ × Seat) (gives : Seat → Option F) where
  -- the seats of the entries that are kept
  abbrev pub seats_of_kept : List (ℕ × X) → List (ℕ × Seat)
  seats_of_kept es = map seat (filter keep es)

  -- an entry is the first that is given something
  pub record IsFirstAt (es : List (ℕ × X)) (found : ℕ × F) (e : ℕ × X) : Type 0 where
    pub there : Among e es
    pub kept : keep e ≡ true
    pub ticket : (seat e).0 ≡ found.0
    pub given : gives (seat e).1 ≡ Some found.1
    pub before : (other : ℕ × X) → Among other es → keep other ≡ true → IsSome (gives (seat other).1) → (other ≡ e) ⊎ Precedes e.0 other.0 es

  pub first-none : (es : List (ℕ × X)) → first_given gives (seats_of_kept es) ≡ None → (other : ℕ × X) → Among other es → keep other ≡ true → gives (seat other).1 ≡ None
  first-none [] none other there kept = absurd there
  first-none (e ∷ es) none other there kept = go (keep e) refl none (first-none es) there
    where
      go : (b : Bool) → keep e ≡ b → first_given gives (map seat (cond b (e ∷ filter keep es) (filter keep es))) ≡ None
          → (first_given gives (seats_of_kept es) ≡ None → (other : ℕ × X) → Among other es → keep other ≡ true → gives (seat other).1 ≡ None)
          → (e ≡ other) ⊎ Among other es → gives (seat other).1 ≡ None
      go false q none rest (inl is) = absurd (true≢false (sym kept ∙ ap keep (sym is) ∙ q))
      go false q none rest (inr there) = rest none other there kept
      go true q none rest there = at (gives (seat e).1) refl none there
        where
          at : (o : Option F) → gives (seat e).1 ≡ o → given_or (seat e).0 o (first_given gives (seats_of_kept es)) ≡ None → (e ≡ other) ⊎ Among other es → gives (seat other).1 ≡ None
          at (Some x) k none there = absurd (none-some ((seat e).0, x) (sym none))
          at None k none (inl is) = ap (λ o. gives (seat o).1) (sym is) ∙ k
          at None k none (inr there) = rest none other there kept

  pub first-some : (es : List (ℕ × X)) (found : ℕ × F) → first_given gives (seats_of_kept es) ≡ Some found → (e : ℕ × X) × IsFirstAt es found e
  first-some [] found is = absurd (none-some found is)
  first-some (e ∷ es) found is = go (keep e) refl is (first-some es found)
    where
      later : (kept_e : keep e ≡ true → gives (seat e).1 ≡ None) → (f : ℕ × X) × IsFirstAt es found f → (f : ℕ × X) × IsFirstAt (e ∷ es) found f
      later skipped (f, first) = (
        f,
        record {
          there = inr first.there;
          kept = first.kept;
          ticket = first.ticket;
          given = first.given;
          before = λ other there kept some. from other kept some there;
        },
      )
        where
          from : (other : ℕ × X) → keep other ≡ true → IsSome (gives (seat other).1) → (e ≡ other) ⊎ Among other es → (other ≡ f) ⊎ Precedes f.0 other.0 (e ∷ es)
          from other kept some (inl is) =
              absurd (true≢false (sym some ∙ ap is_some (ap (λ o. gives (seat o).1) (sym is) ∙ skipped (ap keep is ∙ kept))))
          from other kept some (inr there) = at (first.before other there kept some)
            where
              at : (other ≡ f) ⊎ Precedes f.0 other.0 es → (other ≡ f) ⊎ Precedes f.0 other.0 (e ∷ es)
              at (inl same) = inl same
              at (inr before) = inr (inr before)

      go : (b : Bool) → keep e ≡ b → first_given gives (map seat (cond b (e ∷ filter keep es) (filter keep es))) ≡ Some found
          → (first_given gives (seats_of_kept es) ≡ Some found → (f : ℕ × X) × IsFirstAt es found f) → (f : ℕ × X) × IsFirstAt (e ∷ es) found f
      go false q is rest = later (λ kept. absurd (true≢false (sym kept ∙ q))) (rest is)
      go true q is rest = at (gives (seat e).1) refl is
        where
          at : (o : Option F) → gives (seat e).1 ≡ o → given_or (seat e).0 o (first_given gives (seats_of_kept es)) ≡ Some found → (f : ℕ × X) × IsFirstAt (e ∷ es) found f
          at None k is = later (λ kept. k) (rest is)
          at (Some x) k is = (
            e,
            record {
              there = inl refl;
              kept = q;
              ticket = ap (λ (o : ℕ × F). o.0) same;
              given = k ∙ ap (λ (o : ℕ × F). Some o.1) same;
              before = λ other there kept some. from other there;
            },
          )
            where
              same : ((seat e).0, x) ≡ found
              same = same_Some ((seat e).0, x) found is

              from : (other : ℕ × X) → (e ≡ other) ⊎ Among other es → (other ≡ e) ⊎ Precedes e.0 other.0 (e ∷ es)
              from other (inl same) = inl (sym same)
              from other (inr there) = inr (inl (refl, entry-in other es there))

-- ---- of two kinds

module _ {F : Type 0} (first second : Seat → Option F) where
  abbrev pub either : Seat → Option F
  either s = option_or (second s) (first s)

  -- whose first is given something is given nothing of the second kind
  abbrev pub AreExclusive : List (ℕ × Seat) → Type 0
  AreExclusive seats = AllByRecursion (λ e. IsSome (first e.1) → second e.1 ≡ None) seats

  abbrev pub found_of : Option (ℕ × F) → Option F
  found_of o = option_map (λ (e : ℕ × F). e.1) o

  abbrev pub ticket_of : Option (ℕ × F) → Option ℕ
  ticket_of o = option_map (λ (e : ℕ × F). e.0) o

  is-there : (seats : List (ℕ × Seat)) (found : ℕ × F) → first_given first seats ≡ Some found → IsIn found.0 seats
  is-there [] found is = absurd (none-some found is)
  is-there (e ∷ seats) found is = go (first e.1) is (is-there seats found)
    where
      go : (o : Option F) → given_or e.0 o (first_given first seats) ≡ Some found → (first_given first seats ≡ Some found → IsIn found.0 seats) → (e.0 ≡ found.0) ⊎ IsIn found.0 seats
      go None is rest = inr (rest is)
      go (Some x) is rest = inl (ap (λ (o : ℕ × F). o.0) (same_Some (e.0, x) found is))

  -- none before the first is a seat of another ticket
  up-to : (e : ℕ × Seat) (seats : List (ℕ × Seat)) (o : Option (ℕ × F)) → IsUnused e.0 seats → first_given first seats ≡ o → seats_up_to (ticket_of o) (e ∷ seats) ≡ e ∷ seats_up_to (ticket_of o) seats
  up-to e seats None unused is = refl
  up-to e seats (Some found) unused is =
      ap (λ b. cond b [] (e ∷ seats_before found.0 seats))
      (false_from_ne_true (nat_eq found.0 e.0) (λ same. not-in e.0 seats unused (subst (λ n. IsIn n seats) (grind (arith, nat_tests, same)) (is-there seats found is))))

  -- the first of the second kind before the first of the first kind, or else that, is the first of either
  pub first-either : (seats : List (ℕ × Seat)) → HasDistinctNumbers seats → AreExclusive seats
      → option_or (found_of (first_given second (seats_up_to (ticket_of (first_given first seats)) seats))) (found_of (first_given first seats)) ≡ found_of (first_given either seats)
  first-either [] distinct apart = refl
  first-either (e ∷ seats) distinct apart = go (first e.1) refl (second e.1) refl (first-either seats distinct.1 apart.1)
    where
      go : (x : Option F) → first e.1 ≡ x → (y : Option F) → second e.1 ≡ y
          → option_or (found_of (first_given second (seats_up_to (ticket_of (first_given first seats)) seats))) (found_of (first_given first seats)) ≡ found_of (first_given either seats)
          → option_or (found_of (first_given second (seats_up_to (ticket_of (given_or e.0 x (first_given first seats))) (e ∷ seats)))) (found_of (given_or e.0 x (first_given first seats)))
          ≡ found_of (given_or e.0 (option_or y x) (first_given either seats))
      go (Some x) p (Some y) q rest = absurd (none-some y (sym (apart.0 (ap is_some p)) ∙ q))
      go (Some x) p None q rest =
          ap (λ b. option_or (found_of (first_given second (cond b [] (e ∷ seats_before e.0 seats)))) (Some x)) (itself e.0)
        where
          itself : (n : ℕ) → nat_eq n n ≡ true
          itself n = grind (arith, nat_tests)
      go None p y q rest =
          ap (λ ss. option_or (found_of (first_given second ss)) (found_of (first_given first seats))) (up-to e seats (first_given first seats) distinct.0 refl)
          ∙ ap (λ o. option_or (found_of (given_or e.0 o (first_given second (seats_up_to (ticket_of (first_given first seats)) seats)))) (found_of (first_given first seats))) q
          ∙ at y
        where
          at : (y : Option F) → option_or (found_of (given_or e.0 y (first_given second (seats_up_to (ticket_of (first_given first seats)) seats)))) (found_of (first_given first seats))
              ≡ found_of (given_or e.0 (option_or y None) (first_given either seats))
          at (Some y) = refl
          at None = rest

-- a number that is in a list is found there
in-live : {X : Type 0} (n : ℕ) (es : List (ℕ × X)) → IsIn n es → IsSome (lookup (nat_eq n) es)
in-live n [] there = absurd there
in-live {X = X} n (e ∷ es) there = go (nat_eq n e.0) refl there (in-live n es)
  where
    go : (b : Bool) → nat_eq n e.0 ≡ b → (e.0 ≡ n) ⊎ IsIn n es → (IsIn n es → IsSome (lookup (nat_eq n) es)) → IsSome (cond b (Some e.1) (lookup (nat_eq n) es))
    go true e there rest = refl
    go false q (inl is) rest = absurd ((λ (ne : n ≢ e.0). ne (sym is)) (grind (arith, nat_tests, q)))
    go false q (inr there) rest = rest there

-- what is found has the ticket of a seat
pub seat-found : {F : Type 0} (gives : Seat → Option F) (seats : List (ℕ × Seat)) (o : Option (ℕ × F)) → first_given gives seats ≡ o → IfSome (option_map (λ (e : ℕ × F). e.0) o) (λ ticket. IsSeat ticket seats)
seat-found gives seats None is = tt
seat-found gives seats (Some found) is = in-live found.0 seats (is-there gives gives seats found is)
