use Rattle.std.proofs.Common.{◌≡◌, ◌<◌, ◌≤◌, ℕ, List, length, nat_eq, sym, subst, ap, ◌∙◌, arith, true≢false, is_some}
use Rattle.std.specs.List.{position_or_len}
use Rattle.ynl_slots.specs.declared.chain.Chain.{Chain}
use Rattle.ynl_slots.specs.Slots.{IsLive, IsUnused}
use Rattle.ynl_slots.proofs.Lookups.{lookup-unused}
use Rattle.ynl_tables.specs.apps.Chains.{chain_of, with_place}
use Rattle.ynl_tables.proofs.apps.Chaining.{live_at, unused_past, with_place-live, place_pushed, chains_stay, live_after, distinct_after}
use Rattle.ynl_tables.proofs.apps.chains.Chains.reserve.Goals as goal

-- a partition is at its place, or has none
live-there : (n : ℕ) (chains : List (ℕ × Chain)) (place : ℕ) → place ≡ position_or_len (λ (row : ℕ × Chain). nat_eq n row.0) chains → place < length chains → IsLive n chains
live-there n chains place is within = live_at n chains (subst (λ (m : ℕ). m < length chains) is within)

unused-there : (n : ℕ) (chains : List (ℕ × Chain)) (place : ℕ) → place ≡ position_or_len (λ (row : ℕ × Chain). nat_eq n row.0) chains → length chains ≤ place → IsUnused n chains
unused-there n chains place is past = unused_past n chains (subst (λ (m : ℕ). length chains ≤ m) is past)

pub returns-then-place_of-len-clause-place : goal.returns-then-place_of-len-clause-place
returns-then-place_of-len-clause-place c =
    let n : ℕ = c.args.partition in
    let chains : List (ℕ × Chain) = c.self.inside.rows.items in
    let place = c.place_of.ensures ∙ ap (position_or_len (λ (row : ℕ × Chain). nat_eq n row.0)) c.as_slice.ensures in
    let within : c.place_of.result < length chains = omega (arith, c.len.ensures.value) in
    subst (IsLive n) c.self.view_is (live-there n chains c.place_of.result place within)

pub returns-then-place_of-len-clause-ok : goal.returns-then-place_of-len-clause-ok
returns-then-place_of-len-clause-ok c = sym (with_place-live c.args.partition c.args.self.now (returns-then-place_of-len-clause-place c))

pub returns-in_err-push_row-clause-there : goal.returns-in_err-push_row-clause-there
returns-in_err-push_row-clause-there c = λ h.
    let n : ℕ = c.args.partition in
    let chains : List (ℕ × Chain) = c.self.inside.rows.items in
    let place = c.place_of.ensures ∙ ap (position_or_len (λ (row : ℕ × Chain). nat_eq n row.0)) c.as_slice.ensures in
    let past : length chains ≤ c.place_of.result = omega (arith, c.len.ensures.value) in
    let unused : IsUnused n chains = unused-there n chains c.place_of.result place past in
    absurd (true≢false (sym (subst (IsLive n) (sym c.self.view_is) h) ∙ ap is_some (lookup-unused n chains unused)))

pub invariant_of-self-2 : goal.invariant_of-self-2
invariant_of-self-2 c =
    let n : ℕ = c.args.partition in
    let chains : List (ℕ × Chain) = c.self.inside.rows.items in
    let place = c.place_of.ensures ∙ ap (position_or_len (λ (row : ℕ × Chain). nat_eq n row.0)) c.as_slice.ensures in
    let past : length chains ≤ c.place_of.result = omega (arith, c.len.ensures.value) in
    let unused : IsUnused n chains = unused-there n chains c.place_of.result place past in
    distinct_after n chains c.push_row.new.rows.items c.new.result unused c.new.ensures c.in_ok-push_row.ensures.ok c.self.invariant

pub returns-clause-ok : goal.returns-clause-ok
returns-clause-ok c =
    let n : ℕ = c.args.partition in
    let chains : List (ℕ × Chain) = c.self.inside.rows.items in
    let place = c.place_of.ensures ∙ ap (position_or_len (λ (row : ℕ × Chain). nat_eq n row.0)) c.as_slice.ensures in
    let past : length chains ≤ c.place_of.result = omega (arith, c.len.ensures.value) in
    let unused : IsUnused n chains = unused-there n chains c.place_of.result place past in
    place_pushed n chains c.push_row.new.rows.items c.new.result unused c.new.ensures c.in_ok-push_row.ensures.ok ∙ ap (with_place n) c.self.view_is

pub returns-clause-place : goal.returns-clause-place
returns-clause-place c =
    let n : ℕ = c.args.partition in
    let chains : List (ℕ × Chain) = c.self.inside.rows.items in
    let place = c.place_of.ensures ∙ ap (position_or_len (λ (row : ℕ × Chain). nat_eq n row.0)) c.as_slice.ensures in
    let past : length chains ≤ c.place_of.result = omega (arith, c.len.ensures.value) in
    let unused : IsUnused n chains = unused-there n chains c.place_of.result place past in
    live_after n chains c.push_row.new.rows.items c.new.result unused c.new.ensures c.in_ok-push_row.ensures.ok

pub returns-clause-same : goal.returns-clause-same
returns-clause-same c = λ p.
    let n : ℕ = c.args.partition in
    let chains : List (ℕ × Chain) = c.self.inside.rows.items in
    let place = c.place_of.ensures ∙ ap (position_or_len (λ (row : ℕ × Chain). nat_eq n row.0)) c.as_slice.ensures in
    let past : length chains ≤ c.place_of.result = omega (arith, c.len.ensures.value) in
    let unused : IsUnused n chains = unused-there n chains c.place_of.result place past in
    chains_stay n chains c.push_row.new.rows.items c.new.result unused c.new.ensures c.in_ok-push_row.ensures.ok p ∙ ap (chain_of p) c.self.view_is
