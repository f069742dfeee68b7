-- Applications that come to a leaf as lines tell them.
use Rattle.std.proofs.Common.{◌≡◌, ◌<◌, ℕ, zero, suc, Bool, true, false, not, cond, nat_le, nat_lt, ◌&&◌, is_some, List, [], length, slice_index_or, slice_get, Option, None, Some, refl, sym, ap, subst, ◌∙◌, arith}
use Rattle.std.specs.List.{list_any}
use Rattle.std.proofs.lemmas.Bool.Decides.{nat_tests}
use Rattle.std.proofs.lemmas.Option.{get_or_from_slice_get, slice_get_within}
use Rattle.ynl_resource.specs.Amounts.{fits_in}
use Rattle.ynl_resource.specs.Names.{same_name, tenant_of, top_level}
use Rattle.ynl_resource.specs.declared.amounts.Resource.{Resource}
use Rattle.ynl_resource.specs.declared.labels.Label.{Label}
use Rattle.ynl_resource.specs.declared.names.Name.{Name}
use Rattle.ynl_resource.specs.declared.paths.Path.{Path}
use Rattle.ynl_model.specs.Applications.{apps_of, in_leaf, is_used, new_app, submitted}
use Rattle.ynl_model.specs.Cluster.{State}
use Rattle.ynl_model.specs.Events.{has_most_apps}
use Rattle.ynl_model.specs.Queues.{Config, is_leaf, is_queue, may_use, setting}
use Rattle.ynl_inventory.specs.layout.Paths.{HasNumber, path_at}
use Rattle.ynl_tables.specs.submissions.Submissions.{turn_of}
use Rattle.ynl_inventory.specs.Changes.{with_user, with_user_known}
use Rattle.ynl_inventory.specs.Meaning.{has_none_below, submitted_to, tenant_at}
use Rattle.ynl_inventory.specs.Sound.{CanSubmit, HasPartition, IsFor, IsLeaf, IsSound}
use Rattle.ynl_cluster.specs.Cluster.{ClusterView, label_of, path_of, state_in}
use Rattle.ynl_replies.specs.admission.Admitted.{CanSubmitAs}
use Rattle.ynl_replies.specs.admission.Named.{IsQueueOf}
use Rattle.ynl_replies.specs.declared.admission.submissions.SubmissionNumbers.{SubmissionNumbers}
use Rattle.ynl_replies.proofs.admission.AppsNamed.{used-is}
use Rattle.ynl_replies.proofs.admission.Submitting.{leaf-told}
use Rattle.ynl_saved.specs.declared.lines.StateLine.TheVariants.{Live}
use Rattle.ynl_saved.specs.Restoring.{is_sound_line, has_place, may_come, with_live, Restored}

-- ---- what is tested

-- a leaf of a path, by its number
pub leaf-there : (w : ClusterView) → IsFor w.config w.rows → (queue : Path) (q : ℕ) → IsQueueOf w queue q → is_leaf w.config queue ≡ true → IsLeaf w.rows q
leaf-there w is queue q its leaf = record { there = its.there; none_below = leaf-told w is (path_of w q) ∙ ap (is_leaf w.config) its.own ∙ leaf }

-- a name is used in a leaf's tenant where it has a turn there
pub used-told : (w : ClusterView) → IsSound w.rows → (queue : Path) (q : ℕ) → IsQueueOf w queue q → (name : Name) (t : ℕ) → HasNumber w.rows.paths t → path_at w.rows.paths t ≡ top_level (tenant_of (path_of w q))
    → (o : Option ℕ) → o ≡ turn_of name (submitted_to w.rows.tenants t) → is_used (state_in w).leaves (tenant_of queue) name ≡ is_some o
used-told w sound queue q its name t there path o read =
    used-is w sound (tenant_of queue) name t there (path ∙ ap (λ (path : Path). top_level (tenant_of path)) its.own) ∙ ap is_some (sym read)

-- a tenant is a queue below root
pub tenant-below : (paths : List Path) (t : ℕ) (name : Name) → path_at paths t ≡ top_level name → 0 < t
tenant-below paths zero name is = absurd (cc is)
tenant-below paths (suc t) name is = omega arith

pub come-told : (c : Config) (s : State) (queue : Path) (name : Name) (there leaf used : Bool) → is_queue c queue ≡ there → is_leaf c queue ≡ leaf → is_used s.leaves (tenant_of queue) name ≡ used → may_come c s queue name ≡ (there && leaf && not used)
come-told c s queue name there leaf used e f g = λ i. e i && f i && not (g i)

-- a leaf has a place where it has not as many live applications as it may have
pub place-told : (c : Config) (s : State) (queue : Path) → has_place c s queue ≡ not (has_most_apps c s queue)
place-told c s queue = turned (length (apps_of s.leaves queue)) (setting (λ row. row.leaf.maximum_applications) 0 c queue)
  where
    turned : (n most : ℕ) → nat_lt n most ≡ not (nat_le most n)
    turned n most = grind (arith, nat_tests)

-- what is tested of the line of a live application
pub live-sound : (c : Config) (r : Restored) (s : State) → r.state ≡ s → (queue : Path) (name user : Name) (label : Label) (master : Resource) (come may large most : Bool)
    → may_come c s queue name ≡ come → may_use c queue label ≡ may → not (fits_in master c.maximum_allocation) ≡ large → has_most_apps c s queue ≡ most
    → is_sound_line c r (Live queue name user label master) ≡ (come && may && not large && not most)
unfolding is_sound_line
live-sound c r s is queue name user label master come may large most e f g h =
    λ i. (ap (λ (s : State). may_come c s queue name) is ∙ e) i && f i && (sym (twice-not (fits_in master c.maximum_allocation)) ∙ ap not g) i
    && (ap (λ (s : State). has_place c s queue) is ∙ place-told c s queue ∙ ap not h) i
  where
    twice-not : (b : Bool) → not (not b) ≡ b
    twice-not true = refl
    twice-not false = refl

-- ---- a user that is known

module _ (w known : ClusterView) (user : Name) (is : known ≡ record w { rows = with_user_known user w.rows }) where
  -- only users may be new
  pub same : known ≡ record w { rows = record w.rows { users = known.rows.users } }
  same = is ∙ go (list_any (λ other. same_name other user) w.rows.users) known is
    where
      go : (b : Bool) (known : ClusterView) → known ≡ record w { rows = cond b w.rows (with_user user w.rows) } → record w { rows = cond b w.rows (with_user user w.rows) } ≡ record w { rows = record w.rows { users = known.rows.users } }
      go true known is = λ i. record w { rows = record w.rows { users = sym (ap (λ (w : ClusterView). w.rows.users) is) i } }
      go false known is = λ i. record w { rows = record w.rows { users = sym (ap (λ (w : ClusterView). w.rows.users) is) i } }

  module _ (queue : Path) (name : Name) (label : Label) (numbers : SubmissionNumbers) (can : CanSubmitAs w queue name (Some label) numbers) (u : ℕ) (own : slice_get known.rows.users u ≡ Some user) (master : Resource) where
    -- an application may be submitted as before
    pub can-submit : CanSubmit known.rows name (record { tenant = numbers.tenant; leaf = numbers.leaf; user = u; home = numbers.home; master_size = master })
    can-submit = record {
      unnamed = subst (λ (v : ClusterView). turn_of name (submitted_to v.rows.tenants numbers.tenant) ≡ None) (sym same) can.unnamed;
      there = subst (λ (v : ClusterView). HasNumber v.rows.paths numbers.leaf) (sym same) can.there;
      leaf = subst (λ (v : ClusterView). has_none_below v.rows.paths (path_of v numbers.leaf) ≡ true) (sym same) can.leaf;
      tenant = subst (λ (v : ClusterView). tenant_at v.rows.paths numbers.leaf ≡ numbers.tenant) (sym same) can.tenant;
      user = slice_get_within known.rows.users u user own;
      home = subst (λ (v : ClusterView). HasPartition v.rows numbers.home) (sym same) can.home;
    }

    -- and then it comes last in its leaf
    pub live-told : state_in known ≡ state_in w → (done : State)
        → done ≡ record (state_in known) {
          leaves = in_leaf (path_of known numbers.leaf) (submitted (new_app (path_of known numbers.leaf) name (slice_index_or known.rows.users u []) (label_of known numbers.home) master)) (state_in known).leaves;
        }
        → done ≡ with_live (new_app queue name user label master) (state_in w)
    live-told state done is-done =
        is-done ∙ (λ i. record (state i) { leaves = in_leaf (path i) (submitted (new_app (path i) name (named i) (home i) master)) (state i).leaves })
      where
        path : path_of known numbers.leaf ≡ queue
        path = ap (λ (v : ClusterView). path_of v numbers.leaf) same ∙ can.own

        named : slice_index_or known.rows.users u [] ≡ user
        named = get_or_from_slice_get known.rows.users u user [] own

        home : label_of known numbers.home ≡ label
        home = ap (λ (v : ClusterView). label_of v numbers.home) same ∙ can.label_is
