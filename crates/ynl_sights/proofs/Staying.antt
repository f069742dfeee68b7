-- What is wanted of a leaf stays as it is while others change.
use Rattle.std.proofs.Common.{◌≡◌, ◌≢◌, ◌+◌, ℕ, cond, not, ◌&&◌, nat_eq, List, [], ◌∷◌, ◌++◌, map, filter, None, inl, inr, refl, sym, ap, ◌∙◌}
use Rattle.std.specs.Prelude.{slice_index_or}
use Rattle.std.specs.List.{AllByRecursion}
use Rattle.std.proofs.lemmas.Bool.{cases_eq}
use Rattle.std.proofs.lemmas.Option.{none-some}
use Rattle.ynl_resource.specs.declared.amounts.Resource.{Resource}
use Rattle.ynl_inventory.specs.Rows.{Rows, AppRow}
use Rattle.ynl_inventory.specs.Apps.{runs_at}
use Rattle.ynl_inventory.specs.Meaning.{app_name}
use Rattle.ynl_inventory.specs.Sound.{IsSound}
use Rattle.ynl_cluster.specs.requests.Laws.{in_leaf}
use Rattle.ynl_cluster.specs.seating.Seating.{user_use}
use Rattle.ynl_sights.specs.declared.lists.LeafLists.{LeafLists}
use Rattle.ynl_sights.specs.declared.rows.LeafList.{LeafList}
use Rattle.ynl_sights.specs.declared.rows.Wanted.{Wanted}
use Rattle.ynl_sights.specs.Copying.{asked_shown, master_shown, one_by_one}
use Rattle.ynl_sights.specs.Lists.{kept_at, AreListsOf, IsListOf, KeepsElsewhere}
use Rattle.ynl_sights.proofs.Places.{each-own, IsOwn}

-- a leaf's applications stay in their places, they run if they did, their users use the same, and all are called as they were
pub record StaysAt (v : Rows) (sound : IsSound v) (after : Rows) (q : ℕ) : Type 0 where
  pub apps : in_leaf q after.apps ≡ in_leaf q v.apps
  pub runs : (e : ℕ × AppRow) → IsOwn v sound q e → runs_at after e.0 e.1 ≡ runs_at v e.0 e.1
  pub uses : (p user : ℕ) → user_use after p q user ≡ user_use v p q user
  pub names : (e : ℕ × AppRow) → IsOwn v sound q e → app_name after.tenants e.1.tenant e.1.turn ≡ app_name v.tenants e.1.tenant e.1.turn
  pub users : (e : ℕ × AppRow) → IsOwn v sound q e → slice_index_or after.users e.1.user [] ≡ slice_index_or v.users e.1.user []

-- what agrees on each application agrees on all, one after another
one-by-one-same : {X : Type 0} (f g : ℕ → ℕ → AppRow → List X) (P : ℕ × AppRow → Type 0) → ((place : ℕ) (e : ℕ × AppRow) → P e → f place e.0 e.1 ≡ g place e.0 e.1)
    → (place : ℕ) (es : List (ℕ × AppRow)) → AllByRecursion P es → one_by_one f place es ≡ one_by_one g place es
one-by-one-same f g P same place [] all = refl
one-by-one-same f g P same place (e ∷ es) all = λ i. same place e all.0 i ++ one-by-one-same f g P same (place + 1) es all.1 i

module _ (v : Rows) (sound : IsSound v) (after : Rows) (q : ℕ) (stays : StaysAt v sound after q) (p : ℕ) where
  uses : (e : ℕ × AppRow) → e.1.leaf ≡ q → user_use after p e.1.leaf e.1.user ≡ user_use v p e.1.leaf e.1.user
  uses e own = ap (λ l. user_use after p l e.1.user) own ∙ stays.uses p e.1.user ∙ sym (ap (λ l. user_use v p l e.1.user) own)

  master-stays : (place : ℕ) (e : ℕ × AppRow) → IsOwn v sound q e → master_shown after p place e.0 e.1 ≡ master_shown v p place e.0 e.1
  master-stays place e its =
      λ i. cond (not (stays.runs e its i) && nat_eq e.1.home p)
      ((uses e its.own i, record { place = place; size = e.1.master; priority = 0; app = stays.names e its i; user = stays.users e its i }) ∷ []) []

  asked-stays : (place : ℕ) (e : ℕ × AppRow) → IsOwn v sound q e → asked_shown after p place e.0 e.1 ≡ asked_shown v p place e.0 e.1
  asked-stays place e its =
      λ i. cond (stays.runs e its i)
      (map (λ ask. (uses e its.own i, record { place = place; size = ask.size; priority = ask.priority; app = stays.names e its i; user = stays.users e its i }))
      (filter (λ ask. nat_eq ask.partition p) e.1.asks)) []

  -- so a list of it still has what is wanted
  list-stays : (list : LeafList) → IsListOf v p q list → IsListOf after p q list
  list-stays list is = record { masters = is.masters ∙ sym (same-all (master_shown after p) (master_shown v p) master-stays); asks = is.asks ∙ sym (same-all (asked_shown after p) (asked_shown v p) asked-stays) }
    where
      same-all : (f g : ℕ → ℕ → AppRow → List (Resource × Wanted)) → ((place : ℕ) (e : ℕ × AppRow) → IsOwn v sound q e → f place e.0 e.1 ≡ g place e.0 e.1)
          → one_by_one f 0 (in_leaf q after.apps) ≡ one_by_one g 0 (in_leaf q v.apps)
      same-all f g same = ap (one_by_one f 0) stays.apps ∙ one-by-one-same f g (IsOwn v sound q) same 0 (in_leaf q v.apps) (each-own v sound q)

-- where what is wanted of all other leaves stays and the lists of the one are forgotten, those that are kept have what is wanted
pub lists-stay : (v : Rows) (sound : IsSound v) (after : Rows) (leaf : ℕ) → ((q : ℕ) → q ≢ leaf → StaysAt v sound after q)
    → (old new : LeafLists) → ((p : ℕ) → kept_at new p leaf ≡ None) → KeepsElsewhere leaf old new → AreListsOf v old → AreListsOf after new
lists-stay v sound after leaf stays old new gone others are = record {
  kept = λ p q list told.
      elim (cases_eq q leaf) [
        | inl same ↦ absurd (none-some list (sym (gone p) ∙ ap (kept_at new p) (sym same) ∙ told))
        | inr apart ↦ list-stays v sound after q (stays q apart) p list (are.kept p q list (sym (others p q apart) ∙ told))
      ];
}

-- where what is wanted of all leaves stays, so do all lists
pub all-stay : (v : Rows) (sound : IsSound v) (after : Rows) → ((q : ℕ) → StaysAt v sound after q) → (lists : LeafLists) → AreListsOf v lists → AreListsOf after lists
all-stay v sound after stays lists are = record { kept = λ p q list told. list-stays v sound after q (stays q) p list (are.kept p q list told) }
