-- What is told of a proposal step by step is what the model tests.
use Rattle.std.proofs.Common.{◌≡◌, ◌≢◌, ℕ, Bool, true, false, not, ◌==◌, nat_eq, Option, None, Some, sym, ap, ◌∙◌, arith}
use Rattle.std.specs.Map.{lookup}
use Rattle.std.proofs.lemmas.Bool.Decides.{nat_tests}
use Rattle.std.proofs.lemmas.Option.{same_Some}
use Rattle.ynl_resource.specs.Amounts.{fits_in}
use Rattle.ynl_resource.specs.Refusals.{first_that_holds}
use Rattle.ynl_resource.specs.declared.refusals.Refusal.{Refusal}
use Rattle.ynl_resource.specs.declared.refusals.Refusal.TheVariants.{Stale, NotAccessible, NoSuchApplication, NoSuchAsk}
use Rattle.ynl_model.specs.declared.events.Event.TheVariants as event
use Rattle.ynl_model.specs.declared.nodes.Node.{Node}
use Rattle.ynl_model.specs.declared.proposals.Proposal.{Proposal}
use Rattle.ynl_model.specs.declared.proposals.What.{What}
use Rattle.ynl_model.specs.Applications.{find_app}
use Rattle.ynl_model.specs.Check.{commit_reasons, has_access, proposed_item, wants}
use Rattle.ynl_model.specs.Cluster.{State}
use Rattle.ynl_model.specs.Events.{reasons}
use Rattle.ynl_model.specs.Service.{Item, item_of as item}
use Rattle.ynl_tables.specs.declared.containers.container.Role.{Role}
use Rattle.ynl_inventory.specs.Rows.{AppRow, NodeRow}
use Rattle.ynl_inventory.specs.Apps.{runs_at}
use Rattle.ynl_inventory.specs.Meaning.{app_of, item_of, node_of}
use Rattle.ynl_inventory.specs.Parts.{free_of}
use Rattle.ynl_inventory.specs.Sound.{HasPartition, IsFor, IsPlaceable, IsSound}
use Rattle.ynl_cluster.specs.Cluster.{ClusterView, label_of, state_in}
use Rattle.ynl_replies.specs.admission.Admitted.{CanPlaceOn}
use Rattle.ynl_replies.specs.admission.Named.{IsAppNamed}
use Rattle.ynl_service.specs.Checking.{IsProposed, IsRoleOf, is_wanted_at, request_reasons}
use Rattle.ynl_service.proofs.Reasons.{by-request, is-closed, is-stale, no-application, not-wanted}
use Rattle.ynl_service.proofs.Wanted.{wanted-taken, wanted-told}

other-number : (a b : ℕ) → a ≢ b → not (a == b) ≡ true
other-number a b apart = grind (arith, nat_tests, apart)

one-number : (a b : ℕ) → a ≡ b → not (a == b) ≡ false
one-number a b same = grind (arith, nat_tests, same)

module _ (w : ClusterView) (sound : IsSound w.rows) (configured : IsFor w.config w.rows) (proposal : Proposal) (n : ℕ) (can : CanPlaceOn w proposal.node n)
    (free : first_that_holds (reasons w.config (state_in w) (event.Heartbeat proposal.node)) ≡ None) (row : NodeRow) (found : lookup (nat_eq n) w.rows.nodes ≡ Some row) where
  abbrev s : State
  s = state_in w

  abbrev node : Node
  node = node_of w.rows.partitions can.node.row

  abbrev first : Option Refusal
  first = first_that_holds (commit_reasons w.config s proposal)

  same : row ≡ can.node.row
  same = same_Some row can.node.row (sym found ∙ can.node.found)

  pub told-stale : row.stamp ≢ proposal.stamp → first ≡ Some Stale
  told-stale apart = is-stale w.config s proposal node can.node.named free (other-number can.node.row.stamp proposal.stamp (λ e. apart (ap (λ (r : NodeRow). r.stamp) same ∙ e)))

  module _ (stamped : row.stamp ≡ proposal.stamp) where
    fresh : not (node.stamp == proposal.stamp) ≡ false
    fresh = one-number can.node.row.stamp proposal.stamp (sym (ap (λ (r : NodeRow). r.stamp) same) ∙ stamped)

    pub told-closed : has_access w.config (label_of w row.partition) proposal.tenant proposal.what ≡ false → first ≡ Some NotAccessible
    told-closed h =
        is-closed w.config s proposal node can.node.named free fresh (ap (λ (r : NodeRow). has_access w.config (label_of w r.partition) proposal.tenant proposal.what) (sym same) ∙ h)

    module _ (role : Role) (is : IsRoleOf w proposal.what role) (access : has_access w.config (label_of w row.partition) proposal.tenant proposal.what ≡ true) where
      open_to : has_access w.config node.label proposal.tenant proposal.what ≡ true
      open_to = ap (λ (r : NodeRow). has_access w.config (label_of w r.partition) proposal.tenant proposal.what) (sym same) ∙ access

      pub told-no-application : find_app s.leaves proposal.tenant proposal.app ≡ None → first ≡ Some NoSuchApplication
      told-no-application none = no-application w.config s proposal node can.node.named free fresh open_to none

      module _ (app : ℕ) (its : IsAppNamed w proposal.tenant proposal.app app) (wanted : Bool)
          (read : (r : AppRow) → lookup (nat_eq app) w.rows.apps ≡ Some r → wanted ≡ is_wanted_at (runs_at w.rows app r) row.partition r role proposal.size) where
        wanted-there : wanted ≡ is_wanted_at (runs_at w.rows app its.row) can.node.row.partition its.row role proposal.size
        wanted-there = read its.row its.found ∙ ap (λ (r : NodeRow). is_wanted_at (runs_at w.rows app its.row) r.partition its.row role proposal.size) same

        has : HasPartition w.rows can.node.row.partition
        has = sound.nodes n can.node.row can.node.found

        wants-is : wants s node.label proposal.what proposal.size (app_of w.rows (app, its.row)) ≡ wanted
        wants-is =
            ap (λ (what : What). wants s node.label what proposal.size (app_of w.rows (app, its.row))) (sym is.means)
            ∙ wanted-told w sound app its.row its.found can.node.row.partition has proposal.size role is.there
            ∙ sym wanted-there

        pub told-unwanted : wanted ≡ false → first ≡ Some NoSuchAsk
        told-unwanted h = not-wanted w.config s proposal node can.node.named free fresh open_to (app_of w.rows (app, its.row)) its.named (wants-is ∙ h)

        module _ (yes : wanted ≡ true) where
          -- so it may be placed
          pub told-placeable : IsPlaceable w.rows n app role
          told-placeable = record {
            node_row = can.node.row;
            node_found = can.node.found;
            partition = can.partition;
            partition_found = can.partition_found;
            rises = can.rises;
            app_row = its.row;
            app_found = its.found;
            role =
                wanted-taken w sound app its.row its.found can.node.row.partition has proposal.size configured proposal.tenant role is.there
                (ap (λ (what : What). has_access w.config node.label proposal.tenant what) is.means ∙ open_to)
                (sym wanted-there ∙ yes) can.partition can.partition_found;
          }

          item-is : proposed_item proposal (app_of w.rows (app, its.row)) ≡ item_of w.rows its.row role proposal.size
          item-is = ap (λ (what : What). item (app_of w.rows (app, its.row)) what proposal.size) (sym is.means)

          pub told-first : (result : Option Refusal)
              → ((can : IsPlaceable w.rows n app role)
              → result ≡ first_that_holds (request_reasons w.config s (node_of w.rows.partitions can.node_row) (item_of w.rows can.app_row role proposal.size)))
              → first ≡ result
          unfolding told-placeable
          told-first result told =
              by-request w.config s proposal node can.node.named free fresh open_to (app_of w.rows (app, its.row)) its.named (wants-is ∙ yes)
              ∙ ap (λ (x : Item). first_that_holds (request_reasons w.config s node x)) item-is
              ∙ sym (told told-placeable)

          pub told-proposed : fits_in proposal.size (free_of w.rows n) ≡ true → IsProposed w proposal (record { node = n; app = app; role = role; size = proposal.size })
          told-proposed fits = record { node = can.node; app = its; item = item-is; placeable = told-placeable; fits = fits }
