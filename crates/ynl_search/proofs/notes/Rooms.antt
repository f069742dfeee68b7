-- A room that is narrowed by what queues may still take.
use Rattle.std.proofs.Common.{◌≡◌, ℕ, ◌+◌, ◌-◌, min, Bool, true, false, ◌&&◌, ◌||◌, cond, List, [], ◌∷◌, Option, None, Some, refl, sym, ap, ◌∙◌, arith}
use Rattle.std.specs.Prelude.{nat_le, if◌then◌else◌}
use Rattle.std.specs.List.{list_all}
use Rattle.std.proofs.lemmas.Bool.Decides.{nat_tests}
use Rattle.ynl_resource.specs.Amounts.{fits_in, less, plus, smaller_of}
use Rattle.ynl_resource.specs.declared.amounts.Resource.{Resource}

-- what a queue that uses so much of so much leaves of a room
abbrev left : Resource → Resource → Resource → Option Resource
left used most room = if fits_in used most then Some (smaller_of room (less most used)) else None

-- whether so much fits in a room, if there is one
abbrev pub allows : Option Resource → Resource → Bool
allows None size = false
allows (Some room) size = fits_in size room

one : (u m r s : ℕ) → nat_le u m ≡ true → nat_le s (min r (m - u)) ≡ (nat_le (u + s) m && nat_le s r)
one u m r s h = grind (arith, nat_tests, h)

none : (u m s : ℕ) → nat_le u m ≡ false → nat_le (u + s) m ≡ false
none u m s h = grind (arith, nat_tests, h)

and-swap : (a b d e : Bool) → ((a && b) && (d && e)) ≡ ((a && d) && (b && e))
and-swap true true d e = refl
and-swap true false true e = refl
and-swap true false false e = refl
and-swap false b d e = refl

and-false : (a : Bool) → (a && false) ≡ false
and-false true = refl
and-false false = refl

left-tells : (used most room size : Resource) → allows (left used most room) size ≡ (fits_in (plus used size) most && fits_in size room)
left-tells used most room size = go (nat_le used.memory most.memory) (nat_le used.vcores most.vcores) refl refl
  where
    go : (a b : Bool) → nat_le used.memory most.memory ≡ a → nat_le used.vcores most.vcores ≡ b → allows (left used most room) size ≡ (fits_in (plus used size) most && fits_in size room)
    go true true d e =
        (λ i. allows (cond (d i && e i) (Some (smaller_of room (less most used))) None) size)
        ∙ (λ i. one used.memory most.memory room.memory size.memory d i && one used.vcores most.vcores room.vcores size.vcores e i)
        ∙ and-swap (nat_le (used.memory + size.memory) most.memory) (nat_le size.memory room.memory) (nat_le (used.vcores + size.vcores) most.vcores) (nat_le size.vcores room.vcores)
    go true false d e =
        (λ i. allows (cond (d i && e i) (Some (smaller_of room (less most used))) None) size)
        ∙ sym ((λ i. (nat_le (used.memory + size.memory) most.memory && none used.vcores most.vcores size.vcores e i) && fits_in size room) ∙ ap (λ b. b && fits_in size room) (and-false (nat_le (used.memory + size.memory) most.memory)))
    go false b d e =
        (λ i. allows (cond (d i && nat_le used.vcores most.vcores) (Some (smaller_of room (less most used))) None) size)
        ∙ sym (λ i. (none used.memory most.memory size.memory d i && nat_le (used.vcores + size.vcores) most.vcores) && fits_in size room)

module _ {X : Type 0} (passed : X → Bool) (used most : X → Resource) where
  -- whether a queue is passed over or takes so much
  abbrev pub keeps : Resource → X → Bool
  keeps size x = passed x || fits_in (plus (used x) size) (most x)

  abbrev narrowed : Bool → X → Option Resource → Option Resource
  narrowed true x room = room
  narrowed false x None = None
  narrowed false x (Some room) = left (used x) (most x) room

  -- a room as these queues narrow it
  abbrev pub narrow : List X → Resource → Option Resource
  narrow [] room = Some room
  narrow (x ∷ xs) room = narrowed (passed x) x (narrow xs room)

  narrowed-tells : (b : Bool) (x : X) (room : Option Resource) (size : Resource) → allows (narrowed b x room) size ≡ ((b || fits_in (plus (used x) size) (most x)) && allows room size)
  narrowed-tells true x room size = refl
  narrowed-tells false x None size = sym (and-false (fits_in (plus (used x) size) (most x)))
  narrowed-tells false x (Some room) size = left-tells (used x) (most x) room size

  -- so much fits there that fits in the room and that they take
  pub narrow-tells : (xs : List X) (room size : Resource) → allows (narrow xs room) size ≡ (list_all (keeps size) xs && fits_in size room)
  narrow-tells [] room size = refl
  narrow-tells (x ∷ xs) room size =
      narrowed-tells (passed x) x (narrow xs room) size
      ∙ ap (λ b. keeps size x && b) (narrow-tells xs room size)
      ∙ and-assoc (keeps size x) (list_all (keeps size) xs) (fits_in size room)
    where
      and-assoc : (a b d : Bool) → (a && (b && d)) ≡ ((a && b) && d)
      and-assoc true b d = refl
      and-assoc false b d = refl
