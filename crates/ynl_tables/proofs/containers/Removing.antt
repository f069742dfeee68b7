-- How a container goes.
use Rattle.std.proofs.Common.{cond, true≢false, ◌≡◌, ◌≢◌, ℕ, List, Option, Some, None, option_map, IfSome, IsSome, is_some, nat_eq, refl, sym, ap, subst, ◌∙◌}
use Rattle.std.specs.Map.{lookup}
use Rattle.std.specs.HashMap.{HashMap, get}
use Rattle.std.proofs.lemmas.Option.{same_Some, none-some}
use Rattle.ynl_slots.specs.declared.chain.Chain.{Chain}
use Rattle.ynl_slots.specs.Slots.{IsLive, HasDistinctNumbers, without}
use Rattle.ynl_slots.specs.Chain.{IsIn, Removes, RemovesAt}
use Rattle.ynl_tables.specs.declared.containers.container.Container.{Container}
use Rattle.ynl_tables.specs.declared.containers.row.Row.{Row}
use Rattle.ynl_tables.specs.declared.containers.containers.Containers.TheInside.{Inside}
use Rattle.ynl_tables.specs.containers.Table.{Table, IsRising, number_at}
use Rattle.ynl_tables.specs.containers.Fields.{table_of}
use Rattle.ynl_tables.specs.containers.Chains.{IsChainOf, IsNodeChain, IsAppChain}
use Rattle.ynl_slots.proofs.Entries.{distinct_without}
use Rattle.ynl_tables.proofs.containers.Rows.{lookup-of_rows, of_rows-without, distinct_of_rows, of_rows-sets-twice, distinct_sets_twice}
use Rattle.ynl_tables.proofs.containers.Linking.{Goes, is_in, own_removed, others_removed, moved}
use Rattle.ynl_tables.proofs.containers.Clocks.{rising_without, found_removed}
use Rattle.ynl_tables.proofs.containers.Placing.{IsFound, containers_of, node_links, app_links, with_node, with_app}

-- what holds of what is under a live number
pub at_live : {X : Type 0} (P : X → Type 0) (o : Option X) (x : X) → IfSome o P → o ≡ Some x → P x
at_live P None x h is = absurd (none-some x is)
at_live P (Some y) x h is = subst P (same_Some y x is) h

-- a row is under the number of a container
pub live_row : (n : ℕ) (rows : List (ℕ × Row)) → IsLive n (containers_of rows) → IsLive n rows
live_row n rows live = from (lookup (nat_eq n) rows) (sym (ap is_some (lookup-of_rows (λ (r : Row). r.container) n rows)) ∙ live)
  where
    from : (o : Option Row) → IsSome (option_map (λ (r : Row). r.container) o) → IsSome o
    from None some = some
    from (Some r) some = refl

module _ (old : List (ℕ × Row)) (n : ℕ) (c : Container) (of_node of_app : Chain) where
  -- what is known before the row goes
  pub record IsGoing : Type 0 where
    pub found : lookup (nat_eq n) (containers_of old) ≡ Some c
    pub distinct : HasDistinctNumbers old
    pub node : IsChainOf (λ x. x.node) (node_links old) (containers_of old) of_node c.node
    pub app : IsChainOf (λ x. x.app) (app_links old) (containers_of old) of_app c.app

  module _ (h : IsGoing) where
    node_goes : Goes (λ row. row.of_node) (λ x. x.node) old (node_links old) (containers_of old) n c
    node_goes = record {
      shows = refl;
      found = h.found;
      distinct = distinct_of_rows (λ row. row.container) old h.distinct;
    }

    pub node_in : IsIn (λ row. row.of_node) old of_node n
    node_in = is_in (λ row. row.of_node) (λ x. x.node) old (node_links old) (containers_of old) n c node_goes of_node h.node

    module _ (unlinked : List (ℕ × Row)) (of_node' : Chain) (at_node : RemovesAt (λ row. row.of_node) with_node n old unlinked) where
      apps_stay : app_links unlinked ≡ app_links old
      apps_stay = of_rows-sets-twice (λ row. row.of_app) with_node (λ row to. refl) _ _ _ _ old at_node.0 unlinked h.distinct at_node.3 at_node.4

      containers_stay : containers_of unlinked ≡ containers_of old
      containers_stay = of_rows-sets-twice (λ row. row.container) with_node (λ row to. refl) _ _ _ _ old at_node.0 unlinked h.distinct at_node.3 at_node.4

      distinct_unlinked : HasDistinctNumbers unlinked
      distinct_unlinked = distinct_sets_twice with_node _ _ _ _ old at_node.0 unlinked h.distinct at_node.3 at_node.4

      app_goes : Goes (λ row. row.of_app) (λ x. x.app) unlinked (app_links old) (containers_of old) n c
      app_goes = record {
        shows = apps_stay;
        found = h.found;
        distinct = distinct_of_rows (λ row. row.container) old h.distinct;
      }

      pub app_in : IsIn (λ row. row.of_app) unlinked of_app n
      app_in = is_in (λ row. row.of_app) (λ x. x.app) unlinked (app_links old) (containers_of old) n c app_goes of_app h.app

      module _ (last : List (ℕ × Row)) (at_app : RemovesAt (λ row. row.of_app) with_app n unlinked last) where
        nodes_stay : node_links last ≡ node_links unlinked
        nodes_stay = of_rows-sets-twice (λ row. row.of_node) with_app (λ row to. refl) _ _ _ _ unlinked at_app.0 last distinct_unlinked at_app.3 at_app.4

        containers_last : containers_of last ≡ containers_of old
        containers_last = of_rows-sets-twice (λ row. row.container) with_app (λ row to. refl) _ _ _ _ unlinked at_app.0 last distinct_unlinked at_app.3 at_app.4 ∙ containers_stay

        -- what is read of the row that goes
        pub read_last : (row : Row) → lookup (nat_eq n) last ≡ Some row → row.container ≡ c
        read_last row there =
            same_Some row.container c (sym (ap (option_map (λ (r : Row). r.container)) there) ∙ sym (lookup-of_rows (λ (r : Row). r.container) n last) ∙ ap (lookup (nat_eq n)) containers_last ∙ h.found)

        module _ (new : List (ℕ × Row)) (is : new ≡ without n last) where
          pub removed_distinct : HasDistinctNumbers new
          removed_distinct =
              subst HasDistinctNumbers (sym is) (distinct_without n last (distinct_sets_twice with_app _ _ _ _ unlinked at_app.0 last distinct_unlinked at_app.3 at_app.4))

          pub removed : containers_of new ≡ without n (containers_of old)
          removed = ap containers_of is ∙ of_rows-without (λ row. row.container) n last ∙ ap (without n) containers_last

          nodes_left : node_links new ≡ without n (node_links unlinked)
          nodes_left = ap node_links is ∙ of_rows-without (λ row. row.of_node) n last ∙ ap (without n) nodes_stay

          apps_left : app_links new ≡ without n (app_links last)
          apps_left = ap app_links is ∙ of_rows-without (λ row. row.of_app) n last

          pub removed_node : Removes (λ row. row.of_node) old of_node n unlinked of_node' → IsChainOf (λ x. x.node) (node_links new) (containers_of new) of_node' c.node
          removed_node by =
              moved (λ x. x.node) (without n (node_links unlinked)) (node_links new) (without n (containers_of old)) (containers_of new) of_node' c.node nodes_left removed
              (own_removed (λ row. row.of_node) (λ x. x.node) old (node_links old) (containers_of old) n c node_goes unlinked of_node of_node' h.node by)

          pub removed_app : (of_app' : Chain) → Removes (λ row. row.of_app) unlinked of_app n last of_app' → IsChainOf (λ x. x.app) (app_links new) (containers_of new) of_app' c.app
          removed_app of_app' by =
              moved (λ x. x.app) (without n (app_links last)) (app_links new) (without n (containers_of old)) (containers_of new) of_app' c.app apps_left removed
              (own_removed (λ row. row.of_app) (λ x. x.app) unlinked (app_links old) (containers_of old) n c app_goes last of_app of_app' h.app by)

          pub nodes_kept : (other : ℕ) (chain : Chain) → other ≢ c.node → IsChainOf (λ x. x.node) (node_links old) (containers_of old) chain other → IsChainOf (λ x. x.node) (node_links new) (containers_of new) chain other
          nodes_kept other chain apart o =
              moved (λ x. x.node) (without n (node_links unlinked)) (node_links new) (without n (containers_of old)) (containers_of new) chain other nodes_left removed
              (others_removed (λ row. row.of_node) (λ x. x.node) old (node_links old) (containers_of old) n c node_goes with_node unlinked of_node other chain h.node at_node apart o)

          pub apps_kept : (other : ℕ) (chain : Chain) → other ≢ c.app → IsChainOf (λ x. x.app) (app_links old) (containers_of old) chain other → IsChainOf (λ x. x.app) (app_links new) (containers_of new) chain other
          apps_kept other chain apart o =
              moved (λ x. x.app) (without n (app_links last)) (app_links new) (without n (containers_of old)) (containers_of new) chain other apps_left removed
              (others_removed (λ row. row.of_app) (λ x. x.app) unlinked (app_links old) (containers_of old) n c app_goes with_app last of_app other chain h.app at_app apart o)

-- what is known before the container goes under a number, where this is what a contract saw
pub going_of : (inside : Inside) (t : Table) (n : ℕ) (c : Container) (of_node of_app : Chain) → table_of inside ≡ t → HasDistinctNumbers inside.rows.entries → lookup (nat_eq n) t.entries ≡ Some c
    → IfSome (lookup (nat_eq n) t.entries) (λ x. IsNodeChain t of_node x.node) → IfSome (lookup (nat_eq n) t.entries) (λ x. IsAppChain t of_app x.app) → IsGoing inside.rows.entries n c of_node of_app
going_of inside t n c of_node of_app is distinct found node app = record {
  found = ap (λ (t : Table). lookup (nat_eq n) t.entries) is ∙ found;
  distinct = distinct;
  node = subst (λ (t : Table). IsNodeChain t of_node c.node) (sym is) (at_live (λ x. IsNodeChain t of_node x.node) (lookup (nat_eq n) t.entries) c node found);
  app = subst (λ (t : Table). IsAppChain t of_app c.app) (sym is) (at_live (λ x. IsAppChain t of_app x.app) (lookup (nat_eq n) t.entries) c app found);
}

-- the container under a live number
pub live_container : (t : Table) (n : ℕ) → IsLive n t.entries → (c : Container) × (lookup (nat_eq n) t.entries ≡ Some c)
live_container t n live = from (lookup (nat_eq n) t.entries) live
  where
    from : (o : Option Container) → IsSome o → (c : Container) × (o ≡ Some c)
    from None some = absurd (true≢false (sym some))
    from (Some c) some = (c, refl)

-- what the table keeps of all containers, once one went
pub removed_kept : {S : Type 0} (numbers numbers' : HashMap ℕ ℕ S) (old new : List (ℕ × Row)) (n : ℕ) (c : Container) → IsFound numbers old → HasDistinctNumbers old → containers_of new ≡ without n (containers_of old) → lookup (nat_eq n) (containers_of old) ≡ Some c
    → ((clock : ℕ) → get nat_eq numbers' clock ≡ cond (nat_eq c.clock clock) None (get nat_eq numbers clock)) → IsRising (containers_of old) → IsRising (containers_of new) × IsFound numbers' new
removed_kept numbers numbers' old new n c found distinct is there gone rising = (
  subst IsRising (sym is) (rising_without n (containers_of old) rising),
  (λ clock.
      gone clock ∙ ap (λ (o : Option ℕ). let p : Option ℕ = cond (nat_eq c.clock clock) None o in p) (found clock)
      ∙ sym (found_removed n c (containers_of old) clock (distinct_of_rows (λ row. row.container) old distinct) rising there) ∙ ap (number_at clock) (sym is)),
)
