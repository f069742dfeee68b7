use Rattle.std.proofs.Common.{◌≡◌, ℕ, List, Option, Some, None, option_map, option_copied, slice_get, unwrap_or, nat_eq, sym, ap, ◌∙◌}
use Rattle.std.specs.List.{position_or_len}
use Rattle.ynl_slots.specs.declared.chain.Chain.{Chain}
use Rattle.ynl_tables.specs.apps.Chains.{no_chain, chain_of}
use Rattle.ynl_tables.proofs.apps.Chaining.{lookup-place, empty_chain}
use Rattle.ynl_tables.proofs.apps.Places.{item_read}
use Rattle.ynl_tables.proofs.apps.chains.Chains.get.Goals as goal

pub returns-in-Some-clause-value : goal.returns-in-Some-clause-value
returns-in-Some-clause-value c =
    let n : ℕ = c.args.partition in
    let chains : List (ℕ × Chain) = c.self.inside.rows.items in
    let test = λ (row : ℕ × Chain). nat_eq n row.0 in
    let place : c.place_of.result ≡ position_or_len test chains = c.place_of.ensures ∙ ap (position_or_len test) c.as_slice-rows.ensures in
    let at : Some c.in-Some.row.now ≡ slice_get chains (position_or_len test chains) = ap option_copied (sym c.in-Some.is) ∙ item_read c.as_slice-rows.result.now c.place_of.result c.get.result c.get.ensures.lookup.0 c.get.ensures.lookup.1 ∙ (λ i. slice_get (c.as_slice-rows.ensures i) (place i)) in
    ap (λ (o : Option (ℕ × Chain)). unwrap_or (option_map (λ (row : ℕ × Chain). row.1) o) no_chain) at
    ∙ ap (λ (o : Option Chain). unwrap_or o no_chain) (sym (lookup-place n chains))
    ∙ ap (chain_of n) c.self.view_is

pub returns-in-None-clause-value : goal.returns-in-None-clause-value
returns-in-None-clause-value c =
    let n : ℕ = c.args.partition in
    let chains : List (ℕ × Chain) = c.self.inside.rows.items in
    let test = λ (row : ℕ × Chain). nat_eq n row.0 in
    let place : c.place_of.result ≡ position_or_len test chains = c.place_of.ensures ∙ ap (position_or_len test) c.as_slice-rows.ensures in
    let at : None ≡ slice_get chains (position_or_len test chains) = ap option_copied (sym c.in-None.is) ∙ item_read c.as_slice-rows.result.now c.place_of.result c.get.result c.get.ensures.lookup.0 c.get.ensures.lookup.1 ∙ (λ i. slice_get (c.as_slice-rows.ensures i) (place i)) in
    empty_chain c.new.result c.new.ensures
    ∙ ap (λ (o : Option (ℕ × Chain)). unwrap_or (option_map (λ (row : ℕ × Chain). row.1) o) no_chain) at
    ∙ ap (λ (o : Option Chain). unwrap_or o no_chain) (sym (lookup-place n chains))
    ∙ ap (chain_of n) c.self.view_is
