use Rattle.std.proofs.Common.{◌≡◌, ◌∙◌, ◌<◌, ⊎_elim, ℕ, map, length, nat_eq, sym, ap, subst, arith}
use Rattle.std.specs.Map.{lookup}
use Rattle.std.proofs.lemmas.Bool.{cases_eq}
use Rattle.ynl_lanes.specs.declared.lane.rows.UserRow.{UserRow}
use Rattle.std.specs.BTreeMap.{get}
use Rattle.std.proofs.lemmas.Option.{none-some, same_Some}
use Rattle.std.specs.Ordering.{nat_cmp}
use Rattle.ynl_lanes.specs.lane.Seats.{Seat, Seats, each_once}
use Rattle.ynl_lanes.proofs.lane.Counting.{counted_all, counted_but, users_shown}
use Rattle.ynl_lanes.proofs.lane.lane.Lane.users.Goals as goal

pub returns-then-index-eq0 : goal.returns-then-index-eq0
returns-then-index-eq0 c =
    let rows = c.self.inside.rows in
    let users = c.self.invariant.users in
    let is = c.in-Some.is in
    let counted = counted_but (λ n. get nat_cmp c.self.inside.numbers n) c.self.inside.ready rows c.self.invariant.kept users c.len-count.ensures.distinct c.in-Some.user c.index.result.now c.index.ensures c.if-index-eq0.true
    (λ n row apart there. (users n row there).some (λ ready. apart (sym (same_Some _ _ (sym is ∙ ready))))) in
    let seen = ap (λ (s : Seats). length (each_once (map (λ (e : ℕ × Seat). e.1.user) s.seats))) c.self.view_is in
    let own = ap (λ n. length (each_once n)) (users_shown rows.users.entries rows.seats.entries) in
    let value = c.len-count.ensures.value in
    omega (arith, counted, value) ∙ sym own ∙ seen

pub returns-else-index-eq0 : goal.returns-else-index-eq0
returns-else-index-eq0 c =
    let rows = c.self.inside.rows in
    let users = c.self.invariant.users in
    let is = c.in-Some.is in
    let none = c.if-index-eq0.false in
    let counted = counted_all (λ n. get nat_cmp c.self.inside.numbers n) c.self.inside.ready rows c.self.invariant.kept users c.len-count.ensures.distinct
    (λ n row there. ⊎_elim
    (λ same. (
    let own : c.index.result.now ≡ row = same_Some _ _ (sym c.index.ensures ∙ ap (λ k. lookup (nat_eq k) rows.users.entries) (sym same) ∙ there) in
    subst (λ (r : UserRow). 0 < r.live) own (omega (arith, none))))
    (λ apart. (users n row there).some (λ ready. apart (sym (same_Some _ _ (sym is ∙ ready)))))
    (cases_eq n c.in-Some.user)) in
    let seen = ap (λ (s : Seats). length (each_once (map (λ (e : ℕ × Seat). e.1.user) s.seats))) c.self.view_is in
    let own = ap (λ n. length (each_once n)) (users_shown rows.users.entries rows.seats.entries) in
    c.len-count.ensures.value ∙ counted ∙ sym own ∙ seen

pub returns-in-None : goal.returns-in-None
returns-in-None c =
    let rows = c.self.inside.rows in
    let users = c.self.invariant.users in
    let is = c.in-None.is in
    let counted = counted_all (λ n. get nat_cmp c.self.inside.numbers n) c.self.inside.ready rows c.self.invariant.kept users c.len-count.ensures.distinct (λ n row there. (users n row there).some (λ ready. none-some n (sym is ∙ ready))) in
    let seen = ap (λ (s : Seats). length (each_once (map (λ (e : ℕ × Seat). e.1.user) s.seats))) c.self.view_is in
    let own = ap (λ n. length (each_once n)) (users_shown rows.users.entries rows.seats.entries) in
    c.len-count.ensures.value ∙ counted ∙ sym own ∙ seen
