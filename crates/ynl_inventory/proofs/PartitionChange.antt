-- One partition changes, and the nodes: what stays of all else.
use Rattle.std.proofs.Common.{◌≡◌, ◌≢◌, ℕ, List, map, length, slice_get, Some, option_map, nat_eq, refl, sym, ap, subst, ◌∙◌, arith, inl, inr}
use Rattle.std.specs.List.{filter_map}
use Rattle.std.specs.Map.{lookup}
use Rattle.std.proofs.lemmas.Bool.{cases_eq}
use Rattle.std.proofs.lemmas.Option.{same_Some}
use Rattle.ynl_resource.specs.declared.names.Name.{Name}
use Rattle.ynl_laws.specs.Numbers.{Differ}
use Rattle.ynl_laws.proofs.Lists.{all-of}
use Rattle.ynl_slots.proofs.Lists.{all_from}
use Rattle.ynl_slots.specs.Slots.{HasDistinctNumbers}
use Rattle.ynl_model.specs.Nodes.{clock_limit}
use Rattle.ynl_model.specs.Queues.{Config}
use Rattle.ynl_model.specs.Service.{takes_guests}
use Rattle.ynl_tables.specs.declared.submissions.submissions.Submission.{Submission}
use Rattle.ynl_inventory.specs.Rows.{Rows, PartitionRow, NodeRow, AppRow}
use Rattle.ynl_inventory.specs.Meaning.{label_at, live_of, leaf_of, submitted_in}
use Rattle.ynl_inventory.specs.Changes.{with_at}
use Rattle.ynl_inventory.specs.Sound.{IsFor, IsPartition, IsNode, IsApp, IsSubmission, IsTenant, IsSound}
use Rattle.ynl_inventory.proofs.Lookups.{at-same, at-other, length-at, map-at, each-at}
use Rattle.ynl_inventory.proofs.Naming.{label-at, live-same}
use Rattle.ynl_inventory.proofs.Kept.{kept-partition}

module _ (v : Rows) (p : ℕ) (change : PartitionRow → PartitionRow) (keeps : (row : PartitionRow) → (change row).label ≡ row.label) (nodes : List (ℕ × NodeRow)) where
  abbrev after : Rows
  after = record v { partitions = with_at p change v.partitions; nodes = nodes }

  -- no partition comes or goes
  pub many : length after.partitions ≡ length v.partitions
  many = length-at p change v.partitions

  -- labels stay
  pub labels : (q : ℕ) → label_at after.partitions q ≡ label_at v.partitions q
  labels q = label-at p change keeps v.partitions q

  -- so do all applications
  live : (e : Name × Submission) → live_of after e ≡ live_of v e
  live e = live-same v after labels e refl (λ n is. refl) (λ n row is found. refl)

  -- and all leaves
  pub leaf-stays : (q : ℕ) → leaf_of after q ≡ leaf_of v q
  leaf-stays q = λ i. record { leaf = (leaf_of v q).leaf; names = (leaf_of v q).names; apps = filter_map (λ e. live e i) (submitted_in v q) }

  app-kept : (n : ℕ) (row : AppRow) → IsApp v n row → IsApp after n row
  app-kept n row is = record {
    name = is.name;
    submitted = is.submitted;
    user = is.user;
    home = kept-partition v after many row.home is.home;
    asks = is.asks;
    asked = is.asked;
  }

  submission-kept : (t turn : ℕ) (s : Submission) → IsSubmission v t turn s → IsSubmission after t turn s
  submission-kept t turn s is = record { there = is.there; leaf = is.leaf; tenant = is.tenant; live = is.live; row = is.row }

  tenant-kept : (t : ℕ) (entries : List (Name × Submission)) → IsTenant v t entries → IsTenant after t entries
  tenant-kept t entries is = record { names = is.names; each = λ turn name s at. submission-kept t turn s (is.each turn name s at) }

  -- the partitions are sound, if the one that changes is, and the others still are
  pub each-partition : (row : PartitionRow) → slice_get v.partitions p ≡ Some row → IsPartition after p (change row)
      → ((q : ℕ) (other : PartitionRow) → slice_get v.partitions q ≡ Some other → q ≢ p → IsPartition after q other)
      → (q : ℕ) (other : PartitionRow) → slice_get after.partitions q ≡ Some other → IsPartition after q other
  each-partition row there own others q other at =
      elim (cases_eq q p) [
        | inl same ↦
            let is : change row ≡ other =
            same_Some (change row) other (sym (at-same p change v.partitions ∙ ap (option_map change) there) ∙ ap (slice_get after.partitions) (sym same) ∙ at)
            in
            subst (λ m. IsPartition after m other) (sym same) (subst (IsPartition after p) is own)
        | inr apart ↦ others q other (sym (at-other q p change v.partitions apart) ∙ at) apart
      ]

  -- the rows are sound, if partitions and nodes are
  pub moved-sound : IsSound v → ((q : ℕ) (other : PartitionRow) → slice_get after.partitions q ≡ Some other → IsPartition after q other)
      → HasDistinctNumbers nodes → Differ (map (λ e. e.1.name) nodes) → ((n : ℕ) (row : NodeRow) → lookup (nat_eq n) nodes ≡ Some row → IsNode v row) → IsSound after
  moved-sound sound partitions numbers names each = record {
    tree = sound.tree;
    default = labels 0 ∙ sound.default;
    some = kept-partition v after many 0 sound.some;
    labels = λ q r has hes same. sound.labels q r (omega (arith, many, has)) (omega (arith, many, hes)) (sym (labels q) ∙ same ∙ labels r);
    partitions = partitions;
    node_numbers = numbers;
    node_names = names;
    nodes = λ n row found. kept-partition v after many row.partition (each n row found);
    app_numbers = sound.app_numbers;
    apps = λ n row found. app-kept n row (sound.apps n row found);
    order = sound.order;
    many = sound.many;
    tenants = λ t entries at. tenant-kept t entries (sound.tenants t entries at);
    users = sound.users;
  }

  -- they are still those of the configuration
  pub moved-for : (c : Config) → ((row : PartitionRow) → (change row).limit ≡ row.limit) → ((row : PartitionRow) → (change row).guests ≡ row.guests) → IsFor c v → IsFor c after
  moved-for c limit guests is = record {
    labels = map-at (λ row. row.label) p change keeps v.partitions ∙ is.labels;
    limits = all-of IsLimit after.partitions (each-at IsLimit p change still v.partitions (all_from IsLimit v.partitions is.limits));
    guests = all-of TakesGuests after.partitions (each-at TakesGuests p change still-takes v.partitions (all_from TakesGuests v.partitions is.guests));
    paths = is.paths;
  }
    where
      IsLimit : PartitionRow → Type 0
      IsLimit = λ row. row.limit ≡ clock_limit c.labels row.label

      still : (row : PartitionRow) → IsLimit row → IsLimit (change row)
      still row h = limit row ∙ h ∙ ap (clock_limit c.labels) (sym (keeps row))

      TakesGuests : PartitionRow → Type 0
      TakesGuests = λ row. row.guests ≡ takes_guests c row.label

      still-takes : (row : PartitionRow) → TakesGuests row → TakesGuests (change row)
      still-takes row h = guests row ∙ h ∙ ap (takes_guests c) (sym (keeps row))
