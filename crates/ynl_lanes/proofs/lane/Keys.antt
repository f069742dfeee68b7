-- Which row a lane's map of its users leads to.
use Rattle.std.proofs.Common.{◌≡◌, ◌≢◌, ℕ, Bool, true, false, cond, not, List, [], ◌∷◌, ◌++◌, Option, Some, None, nat_eq, refl, sym, ap, ◌∙◌, arith}
use Rattle.std.specs.Map.{lookup}
use Rattle.std.specs.BTreeMap.{is_at}
use Rattle.std.specs.Ordering.{nat_cmp}
use Rattle.std.proofs.lemmas.Bool.Decides.{nat_tests}
use Rattle.std.proofs.lemmas.Option.{same_Some}
use Rattle.ynl_slots.specs.Slots.{IsUnused, without}
use Rattle.ynl_lanes.specs.declared.lane.rows.UserRow.{UserRow}
use Rattle.ynl_lanes.specs.lane.Fields.{AreKeyed}
use Rattle.ynl_lanes.specs.lane.Rows.{EachUser}
use Rattle.ynl_lanes.proofs.lane.Lists.{was_without, each_pushed}

at_own : (user : ℕ) → is_at (nat_cmp user) user ≡ true
at_own user = grind (arith, nat_tests)

at_other : (user other : ℕ) → user ≢ other → is_at (nat_cmp user) other ≡ false
at_other user other apart = grind (arith, nat_tests)

pub keyed_closed : (f g : ℕ → Option ℕ) (user number : ℕ) (row : UserRow) (users : List (ℕ × UserRow)) → AreKeyed f users → lookup (nat_eq number) users ≡ Some row → row.user ≡ user → ((q : ℕ) → g q ≡ cond (is_at (nat_cmp user) q) None (f q)) → AreKeyed g (without number users)
keyed_closed f g user number row users h found is gone n x there =
    let was = was_without number n x users there in
    let apart : user ≢ x.user = λ same. was.0 (same_Some _ _ (sym (h n x was.1) ∙ ap f (sym same) ∙ ap f (sym is) ∙ h number row found)) in
    gone x.user ∙ ap (λ (b : Bool). let o : Option ℕ = cond b None (f x.user) in o) (at_other user x.user apart) ∙ h n x was.1

pub keyed_opened : (f g : ℕ → Option ℕ) (user number : ℕ) (row : UserRow) (users : List (ℕ × UserRow)) → AreKeyed f users → EachUser (λ _ r. r.user ≢ user) users → IsUnused number users → row.user ≡ user → ((q : ℕ) → g q ≡ cond (is_at (nat_cmp user) q) (Some number) (f q)) → AreKeyed g (users ++ (number, row) ∷ [])
keyed_opened f g user number row users h absent unused is come =
    each_pushed (λ n r. (f r.user ≡ Some n) × (r.user ≢ user)) (λ n r. g r.user ≡ Some n) number row users unused
    (ap g is ∙ come user ∙ ap (λ (b : Bool). cond b (Some number) (f user)) (at_own user))
    (λ n x there k. come x.user ∙ ap (λ (b : Bool). cond b (Some number) (f x.user)) (at_other user x.user (λ same. k.1 (sym same))) ∙ k.0)
    (λ n x there. (h n x there, absent n x there))

pub without_unused : {X : Type 0} (m : ℕ) (es : List (ℕ × X)) → IsUnused m es → without m es ≡ es
without_unused m [] h = refl
without_unused {X = X} m (e ∷ es) h =
    let apart = h.0 in
    let missed : nat_eq m e.0 ≡ false = grind (arith, nat_tests) in
    ap (λ (b : Bool). let r : List (ℕ × X) = cond (not b) (e ∷ without m es) (without m es) in r) missed ∙ ap (λ r. e ∷ r) (without_unused m es h.1)

pub without_pushed : {X : Type 0} (m : ℕ) (row : X) (es : List (ℕ × X)) → IsUnused m es → without m (es ++ (m, row) ∷ []) ≡ es
without_pushed {X = X} m row [] h = ap (λ (b : Bool). let r : List (ℕ × X) = cond (not b) ((m, row) ∷ []) [] in r) (let met : nat_eq m m ≡ true = grind (arith, nat_tests) in met)
without_pushed {X = X} m row (e ∷ es) h =
    let apart = h.0 in
    let missed : nat_eq m e.0 ≡ false = grind (arith, nat_tests) in
    ap (λ (b : Bool). let r : List (ℕ × X) = cond (not b) (e ∷ without m (es ++ (m, row) ∷ [])) (without m (es ++ (m, row) ∷ [])) in r) missed ∙ ap (λ r. e ∷ r) (without_pushed m row es h.1)
