-- How a container comes last.
use Rattle.std.proofs.Common.{◌≡◌, ◌≢◌, ℕ, cond, List, [], ◌∷◌, ◌++◌, Some, None, nat_eq, refl, sym, ap, subst, ◌∙◌}
use Rattle.std.specs.HashMap.{HashMap, get}
use Rattle.ynl_slots.specs.declared.chain.Links.{Links}
use Rattle.ynl_slots.specs.declared.chain.Chain.{Chain}
use Rattle.ynl_slots.specs.Slots.{IsLive, IsUnused, HasDistinctNumbers}
use Rattle.ynl_slots.specs.Chain.{IsLinked, Appends, AppendsAt}
use Rattle.ynl_slots.proofs.Chaining.{stays_live}
use Rattle.ynl_tables.specs.declared.containers.container.Container.{Container}
use Rattle.ynl_tables.specs.declared.containers.row.Row.{Row}
use Rattle.ynl_tables.specs.declared.containers.containers.Containers.TheInside.{Inside}
use Rattle.ynl_tables.specs.containers.Table.{Table, IsAbove, IsRising, number_at}
use Rattle.ynl_tables.specs.containers.Fields.{of_rows, table_of}
use Rattle.ynl_tables.specs.containers.Chains.{IsChainOf, IsNodeChain, IsAppChain}
use Rattle.ynl_slots.proofs.Entries.{live-pushed, distinct_push}
use Rattle.ynl_tables.proofs.containers.Rows.{of_rows-push, unused_of_rows, distinct_of_rows, of_rows-sets-twice, distinct_sets_twice}
use Rattle.ynl_tables.proofs.containers.Linking.{Comes, linked_mid, own_appended, others_appended, moved}
use Rattle.ynl_tables.proofs.containers.Clocks.{rising_push, found_pushed}

-- a container in no chain yet
abbrev pub unlinked : Container → Row
unlinked c = record { container = c; of_node = record { prev = None; next = None }; of_app = record { prev = None; next = None } }

abbrev pub containers_of : List (ℕ × Row) → List (ℕ × Container)
containers_of = of_rows (λ row. row.container)

abbrev pub node_links : List (ℕ × Row) → List (ℕ × Links)
node_links = of_rows (λ row. row.of_node)

abbrev pub app_links : List (ℕ × Row) → List (ℕ × Links)
app_links = of_rows (λ row. row.of_app)

abbrev pub with_node : Row → Links → Row
with_node row to = record row { of_node = to }

abbrev pub with_app : Row → Links → Row
with_app row to = record row { of_app = to }

-- the containers are found by their clocks
abbrev pub IsFound : {S : Type 0} → HashMap ℕ ℕ S → List (ℕ × Row) → Type 0
IsFound numbers rows = (clock : ℕ) → get nat_eq numbers clock ≡ number_at clock (containers_of rows)

module _ (old : List (ℕ × Row)) (n : ℕ) (c : Container) (of_node of_app : Chain) (pushed : List (ℕ × Row)) where
  -- what is known once the row was pushed
  pub record IsPushed : Type 0 where
    pub entries : pushed ≡ old ++ (n, unlinked c) ∷ []
    pub unused : IsUnused n old
    pub distinct : HasDistinctNumbers old
    pub node : IsChainOf (λ x. x.node) (node_links old) (containers_of old) of_node c.node
    pub app : IsChainOf (λ x. x.app) (app_links old) (containers_of old) of_app c.app

  module _ (h : IsPushed) where
    pub pushed_live : IsLive n pushed
    pushed_live = subst (IsLive n) (sym h.entries) (live-pushed n (unlinked c) old h.unused)

    distinct_pushed : HasDistinctNumbers pushed
    distinct_pushed = subst HasDistinctNumbers (sym h.entries) (distinct_push n (unlinked c) old h.unused h.distinct)

    node_comes : Comes (λ row. row.of_node) (λ x. x.node) pushed (node_links old) (containers_of old) n c
    node_comes = record {
      shows = ap node_links h.entries ∙ of_rows-push (λ row. row.of_node) n (unlinked c) old;
      unlinked = unused_of_rows (λ row. row.of_node) n old h.unused;
      unused = unused_of_rows (λ row. row.container) n old h.unused;
      distinct = distinct_of_rows (λ row. row.container) old h.distinct;
    }

    pub node_linked : IsLinked (λ row. row.of_node) pushed of_node
    node_linked = linked_mid (λ row. row.of_node) (λ x. x.node) pushed (node_links old) (containers_of old) n c node_comes of_node c.node h.node

    module _ (linked : List (ℕ × Row)) (of_node' : Chain) (at_node : AppendsAt (λ row. row.of_node) with_node of_node.last n pushed linked) where
      apps_stay : app_links linked ≡ app_links pushed
      apps_stay = of_rows-sets-twice (λ row. row.of_app) with_node (λ row to. refl) _ _ _ _ pushed at_node.0 linked distinct_pushed at_node.1 at_node.2

      containers_stay : containers_of linked ≡ containers_of pushed
      containers_stay = of_rows-sets-twice (λ row. row.container) with_node (λ row to. refl) _ _ _ _ pushed at_node.0 linked distinct_pushed at_node.1 at_node.2

      distinct_linked : HasDistinctNumbers linked
      distinct_linked = distinct_sets_twice with_node _ _ _ _ pushed at_node.0 linked distinct_pushed at_node.1 at_node.2

      app_comes : Comes (λ row. row.of_app) (λ x. x.app) linked (app_links old) (containers_of old) n c
      app_comes = record {
        shows = apps_stay ∙ ap app_links h.entries ∙ of_rows-push (λ row. row.of_app) n (unlinked c) old;
        unlinked = unused_of_rows (λ row. row.of_app) n old h.unused;
        unused = unused_of_rows (λ row. row.container) n old h.unused;
        distinct = distinct_of_rows (λ row. row.container) old h.distinct;
      }

      pub linked_live : IsLive n linked
      linked_live =
          stays_live with_node (Some n) _ at_node.0 linked n at_node.2 (stays_live with_node of_node.last _ pushed at_node.0 n at_node.1 pushed_live)

      pub app_linked : IsLinked (λ row. row.of_app) linked of_app
      app_linked = linked_mid (λ row. row.of_app) (λ x. x.app) linked (app_links old) (containers_of old) n c app_comes of_app c.app h.app

      module _ (new : List (ℕ × Row)) (at_app : AppendsAt (λ row. row.of_app) with_app of_app.last n linked new) where
        nodes_stay : node_links new ≡ node_links linked
        nodes_stay = of_rows-sets-twice (λ row. row.of_node) with_app (λ row to. refl) _ _ _ _ linked at_app.0 new distinct_linked at_app.1 at_app.2

        pub placed_distinct : HasDistinctNumbers new
        placed_distinct = distinct_sets_twice with_app _ _ _ _ linked at_app.0 new distinct_linked at_app.1 at_app.2

        pub placed : containers_of new ≡ containers_of old ++ (n, c) ∷ []
        placed =
            of_rows-sets-twice (λ row. row.container) with_app (λ row to. refl) _ _ _ _ linked at_app.0 new distinct_linked at_app.1 at_app.2
            ∙ containers_stay ∙ ap containers_of h.entries ∙ of_rows-push (λ row. row.container) n (unlinked c) old

        pub placed_node : Appends (λ row. row.of_node) pushed of_node n linked of_node' → IsChainOf (λ x. x.node) (node_links new) (containers_of new) of_node' c.node
        placed_node by =
            moved (λ x. x.node) (node_links linked) (node_links new) (containers_of old ++ (n, c) ∷ []) (containers_of new) of_node' c.node nodes_stay placed
            (own_appended (λ row. row.of_node) (λ x. x.node) pushed (node_links old) (containers_of old) n c node_comes linked of_node of_node' h.node by)

        pub placed_app : (of_app' : Chain) → Appends (λ row. row.of_app) linked of_app n new of_app' → IsChainOf (λ x. x.app) (app_links new) (containers_of new) of_app' c.app
        placed_app of_app' by =
            moved (λ x. x.app) (app_links new) (app_links new) (containers_of old ++ (n, c) ∷ []) (containers_of new) of_app' c.app refl placed
            (own_appended (λ row. row.of_app) (λ x. x.app) linked (app_links old) (containers_of old) n c app_comes new of_app of_app' h.app by)

        pub other_nodes : (other : ℕ) (chain : Chain) → other ≢ c.node → IsChainOf (λ x. x.node) (node_links old) (containers_of old) chain other → IsChainOf (λ x. x.node) (node_links new) (containers_of new) chain other
        other_nodes other chain apart o =
            moved (λ x. x.node) (node_links linked) (node_links new) (containers_of old ++ (n, c) ∷ []) (containers_of new) chain other nodes_stay placed
            (others_appended (λ row. row.of_node) (λ x. x.node) pushed (node_links old) (containers_of old) n c node_comes with_node linked of_node other chain h.node at_node apart o)

        pub other_apps : (other : ℕ) (chain : Chain) → other ≢ c.app → IsChainOf (λ x. x.app) (app_links old) (containers_of old) chain other → IsChainOf (λ x. x.app) (app_links new) (containers_of new) chain other
        other_apps other chain apart o =
            moved (λ x. x.app) (app_links new) (app_links new) (containers_of old ++ (n, c) ∷ []) (containers_of new) chain other refl placed
            (others_appended (λ row. row.of_app) (λ x. x.app) linked (app_links old) (containers_of old) n c app_comes with_app new of_app other chain h.app at_app apart o)

-- what is known once a row was pushed, where this is what a contract saw
pub pushed_of : (inside : Inside) (t : Table) (n : ℕ) (c : Container) (of_node of_app : Chain) (pushed : List (ℕ × Row)) → table_of inside ≡ t → HasDistinctNumbers inside.rows.entries
    → pushed ≡ inside.rows.entries ++ (n, unlinked c) ∷ [] → IsUnused n inside.rows.entries → IsNodeChain t of_node c.node → IsAppChain t of_app c.app
    → IsPushed inside.rows.entries n c of_node of_app pushed
pushed_of inside t n c of_node of_app pushed is distinct entries unused node app = record {
  entries = entries;
  unused = unused;
  distinct = distinct;
  node = subst (λ (t : Table). IsNodeChain t of_node c.node) (sym is) node;
  app = subst (λ (t : Table). IsAppChain t of_app c.app) (sym is) app;
}

-- what the table keeps of all containers, once one came last
pub placed_kept : {S : Type 0} (numbers numbers' : HashMap ℕ ℕ S) (old new : List (ℕ × Row)) (n : ℕ) (c : Container) → IsFound numbers old → containers_of new ≡ containers_of old ++ (n, c) ∷ [] → IsAbove c.clock (containers_of old)
    → ((clock : ℕ) → get nat_eq numbers' clock ≡ cond (nat_eq c.clock clock) (Some n) (get nat_eq numbers clock)) → IsRising (containers_of old) → IsRising (containers_of new) × IsFound numbers' new
placed_kept numbers numbers' old new n c found is above put rising = (
  subst IsRising (sym is) (rising_push n c (containers_of old) rising above),
  (λ clock.
      put clock ∙ ap (λ o. cond (nat_eq c.clock clock) (Some n) o) (found clock) ∙ sym (found_pushed n c (containers_of old) clock above) ∙ ap (number_at clock) (sym is)),
)
