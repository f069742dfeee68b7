-- A user has a number: the rows stay sound, and mean what they meant.
use Rattle.std.proofs.Common.{◌≡◌, ◌<◌, ◌||◌, ℕ, zero, suc, Bool, true, false, cond, List, [], ◌∷◌, ◌++◌, map, length, slice_get, Some, refl, sym, ap, subst, ◌∙◌, arith, length-append}
use Rattle.std.specs.List.{filter_map, list_any}
use Rattle.std.proofs.lemmas.Option.{none-some, same_Some}
use Rattle.ynl_resource.specs.Names.{same_name}
use Rattle.ynl_resource.specs.declared.names.Name.{Name}
use Rattle.ynl_laws.proofs.Lists.{Pairs-last}
use Rattle.ynl_laws.proofs.Names.{same-name_self}
use Rattle.ynl_model.specs.declared.queues.StopRow.{StopRow}
use Rattle.ynl_model.specs.declared.queues.MaximumRow.{MaximumRow}
use Rattle.ynl_tables.specs.declared.containers.container.Container.{Container}
use Rattle.ynl_tables.specs.declared.containers.container.Role.{Role}
use Rattle.ynl_tables.specs.declared.containers.container.Role.TheVariants.{Master, Ask as Asked}
use Rattle.ynl_tables.specs.declared.submissions.submissions.Submission.{Submission}
use Rattle.ynl_tables.specs.users.Users.{IsNew}
use Rattle.ynl_inventory.specs.declared.inventory.Inventory.TheInside.{Inside}
use Rattle.ynl_inventory.specs.Rows.{Rows, PartitionRow, AppRow}
use Rattle.ynl_inventory.specs.Meaning.{leaf_numbers, leaf_of, live_of, state_of, submitted_in}
use Rattle.ynl_inventory.specs.Changes.{with_user, with_user_known}
use Rattle.ynl_inventory.specs.Sound.{IsApp, IsContainer, IsPartition, IsRole, IsSound, IsSubmission, IsTenant}
use Rattle.ynl_inventory.specs.Parts.{Held, held_of, IsInventory}
use Rattle.ynl_inventory.proofs.Naming.{live-same, user-push}

-- ---- whether a name is a user's

-- a name of a user passes, and it has the number
pub name-known : (name : Name) (users : List Name) (n : ℕ) → slice_get users n ≡ Some name → list_any (λ other. same_name other name) users ≡ true
name-known name [] n at = absurd (none-some name at)
name-known name (user ∷ users) zero at =
    ap (λ b. b || list_any (λ other. same_name other name) users) (ap (λ other. same_name other name) (same_Some user name at) ∙ same-name_self name)
name-known name (user ∷ users) (suc n) at = go (same_name user name) (name-known name users n at)
  where
    go : (b : Bool) → list_any (λ other. same_name other name) users ≡ true → (b || list_any (λ other. same_name other name) users) ≡ true
    go true rest = refl
    go false rest = rest

-- and a new one does not
pub name-new : (name : Name) (users : List Name) → IsNew name users → list_any (λ other. same_name other name) users ≡ false
name-new name [] new = refl
name-new name (user ∷ users) new = ap (λ b. b || list_any (λ other. same_name other name) users) new.0 ∙ name-new name users new.1

-- a user that comes last is found there
pub last-user : (name : Name) (users : List Name) → slice_get (users ++ name ∷ []) (length users) ≡ Some name
last-user name [] = refl
last-user name (user ∷ users) = last-user name users

-- a user of a known name changes nothing
pub known-user : (name : Name) (v : Rows) (n : ℕ) → slice_get v.users n ≡ Some name → with_user_known name v ≡ v
known-user name v n at = ap (λ b. cond b v (with_user name v)) (name-known name v.users n at)

-- and one of a new name comes last
pub new-user : (name : Name) (v : Rows) → IsNew name v.users → with_user_known name v ≡ with_user name v
new-user name v new = ap (λ b. cond b v (with_user name v)) (name-new name v.users new)

module _ (v : Rows) (sound : IsSound v) (name : Name) where
  abbrev after : Rows
  after = with_user name v

  more : length v.users < length after.users
  more = omega (arith, length-append v.users (name ∷ []))

  app-kept : (n : ℕ) (row : AppRow) → IsApp v n row → IsApp after n row
  app-kept n row is = record { name = is.name; submitted = is.submitted; user = omega (arith, more, is.user); home = is.home; asks = is.asks; asked = is.asked }

  container-kept : (p shown : ℕ) (c : Container) → IsContainer v p shown c → IsContainer after p shown c
  container-kept p shown c is = record { app = is.app; node = is.node; node_found = is.node_found; node_there = is.node_there; role = role c.role is.role; clock = is.clock }
    where
      role : (r : Role) → IsRole v p c.app r → IsRole after p c.app r
      role Master h = h
      role (Asked asked priority) h = h

  partition-kept : (p : ℕ) (row : PartitionRow) → IsPartition v p row → IsPartition after p row
  partition-kept p row is = record {
    numbers = is.numbers;
    rising = is.rising;
    clock = is.clock;
    masters = is.masters;
    each = λ n c at. container-kept p row.clock c (is.each n c at);
  }

  tenant-kept : (t : ℕ) (entries : List (Name × Submission)) → IsTenant v t entries → IsTenant after t entries
  tenant-kept t entries is = record {
    names = is.names;
    each = λ turn name s at.
        let its : IsSubmission v t turn s = is.each turn name s at in
        record { there = its.there; leaf = its.leaf; tenant = its.tenant; live = its.live; row = its.row };
  }

  -- the rows stay sound with a user of a new name
  pub user-sound : IsNew name v.users → IsSound after
  user-sound new = record {
    tree = sound.tree;
    default = sound.default;
    some = sound.some;
    labels = sound.labels;
    partitions = λ p row at. partition-kept p row (sound.partitions p row at);
    node_numbers = sound.node_numbers;
    node_names = sound.node_names;
    nodes = λ n row at. sound.nodes n row at;
    app_numbers = sound.app_numbers;
    apps = λ n row at. app-kept n row (sound.apps n row at);
    order = sound.order;
    many = sound.many;
    tenants = λ t entries at. tenant-kept t entries (sound.tenants t entries at);
    users = Pairs-last _ v.users name sound.users new;
  }

  live-stays : (e : Name × Submission) → live_of after e ≡ live_of v e
  live-stays e = live-same v after (λ p. refl) e refl (λ n is. refl) (λ n row is at. user-push name v.users row.user (sound.apps n row at).user)

  leaf-stays : (q : ℕ) → leaf_of after q ≡ leaf_of v q
  leaf-stays q = λ i. record { leaf = (leaf_of v q).leaf; names = (leaf_of v q).names; apps = filter_map (λ e. live-stays e i) (submitted_in v q) }

  -- they mean what they meant, and so with a name that is known
  pub user-means : (stops : List StopRow) (maxima : List MaximumRow) → state_of after stops maxima ≡ state_of v stops maxima
  user-means stops maxima = λ i. record (state_of v stops maxima) { leaves = map (λ q. leaf-stays q i) (leaf_numbers v.paths) }

  pub known-means : (stops : List StopRow) (maxima : List MaximumRow) → state_of (with_user_known name v) stops maxima ≡ state_of v stops maxima
  known-means stops maxima = go (list_any (λ other. same_name other name) v.users)
    where
      go : (b : Bool) → state_of (cond b v after) stops maxima ≡ state_of v stops maxima
      go true = refl
      go false = user-means stops maxima

-- ---- the parts

-- a known name leaves what the parts mean
pub known-held : (a : Inside) (h : Held) → held_of a ≡ h → (name : Name) (n : ℕ) → slice_get a.users n ≡ Some name → held_of a ≡ record h { rows = with_user_known name h.rows }
known-held a h view name n at =
    subst (λ (h : Held). held_of a ≡ record h { rows = with_user_known name h.rows }) view
    (sym (λ i. record (held_of a) { rows = known-user name (held_of a).rows n at i }))

module _ (a : Inside) (name : Name) (new : IsNew name a.users) (users' : List Name) (is : users' ≡ a.users ++ name ∷ []) where
  -- and with a new one they mean a user more
  pub user-held : (h : Held) → held_of a ≡ h → held_of (record a { users = users' }) ≡ record h { rows = with_user_known name h.rows }
  user-held h view =
      subst (λ (h : Held). held_of (record a { users = users' }) ≡ record h { rows = with_user_known name h.rows }) view
      ((λ i. record (held_of a) { rows = record (held_of a).rows { users = is i } }) ∙ sym (λ i. record (held_of a) { rows = new-user name (held_of a).rows new i }))

  -- and their invariant holds
  pub user-inventory : IsInventory a → IsInventory (record a { users = users' })
  user-inventory inv = record {
    sound = subst IsSound (sym (λ i. record (held_of a).rows { users = is i })) (user-sound (held_of a).rows inv.sound name new);
    linked = inv.linked;
  }
