-- Places for the chains of an application's containers.
use Rattle.std.proofs.Common.{◌≡◌, ◌<◌, ◌^◌, ℕ, Bool, true, false, cond, is_some, IfSome, List, [], ◌∷◌, ◌++◌, length, slice_get, Option, Some, None, nat_eq, refl, sym, ap, subst, ◌∙◌}
use Rattle.std.specs.Map.{lookup}
use Rattle.std.proofs.lemmas.Option.{slice_get_within}
use Rattle.ynl_slots.specs.Slots.{Numbered, IsLive, IsUnused}
use Rattle.ynl_slots.specs.declared.chain.Chain.{Chain}
use Rattle.ynl_slots.proofs.Lookups.{unused_from_lookup}
use Rattle.ynl_tables.specs.declared.apps.app.AppRow.{AppRow as AppPart}
use Rattle.ynl_tables.specs.apps.Apps.{with_app, with_change}
use Rattle.ynl_tables.specs.apps.Chains.{no_chain, with_place}
use Rattle.ynl_tables.proofs.apps.Chaining.{with_place-live, chains_stay}
use Rattle.ynl_tables.proofs.containers.Removing.{at_live}
use Rattle.ynl_inventory.specs.declared.partition.Partition.{Partition}
use Rattle.ynl_inventory.specs.Parts.{AddsPlaces, HasGuestPlaces, HasMorePlaces}
use Rattle.ynl_inventory.proofs.Lookups.{changed-twice, live-after, live-found, pushed-live, some-after}

-- a place more leaves all chains and places
pub place-adds : (p : ℕ) (chains : List (ℕ × Chain)) → AddsPlaces chains (with_place p chains)
place-adds p chains = go (lookup (nat_eq p) chains) refl
  where
    go : (o : Option Chain) → lookup (nat_eq p) chains ≡ o → AddsPlaces chains (with_place p chains)
    go (Some chain) is = subst (AddsPlaces chains) (sym (with_place-live p chains (ap is_some is))) (record { same = λ q. refl; live = λ q live. live })
    go None none =
        let unused : IsUnused p chains = unused_from_lookup p chains none in
        subst (AddsPlaces chains) (sym (ap (λ (o : Option Chain). cond (is_some o) chains (chains ++ (p, no_chain) ∷ [])) none))
        (record {
          same = chains_stay p chains (chains ++ (p, no_chain) ∷ []) no_chain unused (λ at. record { first = refl; last = refl; run = tt; distinct = tt }) refl;
          live = λ q live. ap is_some (pushed-live q p no_chain chains live) ∙ live;
        })

module _ (app : ℕ) where
  -- no place more
  pub no-more : (old new : Numbered AppPart) → new ≡ old → HasMorePlaces app old new
  no-more old new is = record {
    more = λ chains. chains;
    adds = λ chains. record { same = λ p. refl; live = λ p live. live };
    apps = is ∙ sym (λ i. record old { entries = kept old.entries i });
  }
    where
      kept : (es : List (ℕ × AppPart)) → with_change app (λ row. record row { chains = row.chains }) es ≡ es
      kept [] = refl
      kept (e ∷ es) = λ i. one (nat_eq app e.0) i ∷ kept es i
        where
          one : (b : Bool) → ◌≡◌ {A = ℕ × AppPart} (cond b (e.0, record e.1 { chains = e.1.chains }) e) e
          one true = refl
          one false = refl

  -- the place of a partition
  pub one-more : (p : ℕ) (old new : Numbered AppPart) → new ≡ with_app app (λ row. record row { chains = with_place p row.chains }) old → HasMorePlaces app old new
  one-more p old new is = record { more = with_place p; adds = place-adds p; apps = is }

  -- and more again
  pub more-again : (old mid new : Numbered AppPart) → HasMorePlaces app old mid → HasMorePlaces app mid new → HasMorePlaces app old new
  more-again old mid new one two = record {
    more = λ chains. two.more (one.more chains);
    adds = λ chains. record {
      same = λ p. (two.adds (one.more chains)).same p ∙ (one.adds chains).same p;
      live = λ p live. (two.adds (one.more chains)).live p ((one.adds chains).live p live);
    };
    apps =
        two.apps ∙ ap (with_app app (λ row. record row { chains = two.more row.chains })) one.apps
        ∙ (λ i. record old { entries = changed-twice app (λ (row : AppPart). record row { chains = two.more row.chains }) (λ (row : AppPart). record row { chains = one.more row.chains }) old.entries i });
  }

  module _ (old new : Numbered AppPart) (more : HasMorePlaces app old new) where
    -- the application is still there
    pub more-live : IsLive app old.entries → IsLive app new.entries
    more-live live =
        live-after app app (λ (row : AppPart). record row { chains = more.more row.chains }) old.entries new.entries (ap (λ (apps : Numbered AppPart). apps.entries) more.apps) live

    -- and each of its places
    pub more-place : (p : ℕ) → IfSome (lookup (nat_eq app) old.entries) (λ row. IsLive p row.chains) → IfSome (lookup (nat_eq app) new.entries) (λ row. IsLive p row.chains)
    more-place p place =
        some-after (λ (row : AppPart). IsLive p row.chains) app app (λ (row : AppPart). record row { chains = more.more row.chains }) old.entries new.entries
        (ap (λ (apps : Numbered AppPart). apps.entries) more.apps) (λ row live. (more.adds row.chains).live p live) place

-- an application with a place in each partition of those that are numbered and take guests has all that guests need
pub all-places : (app : ℕ) (apps : Numbered AppPart) (partitions : List Partition) (count : ℕ) → IsLive app apps.entries
    → ((q : ℕ) → q < 2 ^ 8 → q < length partitions → q < count)
    → ((q : ℕ) (part : Partition) → q < count → slice_get partitions q ≡ Some part → part.guests ≡ true → IfSome (lookup (nat_eq app) apps.entries) (λ row. IsLive q row.chains))
    → IfSome (lookup (nat_eq app) apps.entries) (λ row. HasGuestPlaces partitions row.chains)
all-places app apps partitions count live counted each =
    let row = live-found app apps.entries live in
    subst (λ o. IfSome o (λ (row : AppPart). HasGuestPlaces partitions row.chains)) (sym row.1)
    (λ q part small at takes.
    at_live (λ (row : AppPart). IsLive q row.chains) (lookup (nat_eq app) apps.entries) row.0
    (each q part (counted q small (slice_get_within partitions q part at)) at takes) row.1)
