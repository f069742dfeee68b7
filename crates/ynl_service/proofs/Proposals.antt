-- What was found for a node, as a proposal.
use Rattle.std.proofs.Common.{◌≡◌, [], nat_eq, Some, sym, ap, ◌∙◌}
use Rattle.std.specs.Map.{lookup}
use Rattle.std.specs.Option.{option_map_or}
use Rattle.ynl_resource.specs.Names.{tenant_of}
use Rattle.ynl_resource.specs.declared.names.Name.{Name}
use Rattle.ynl_model.specs.declared.proposals.Proposal.{Proposal}
use Rattle.ynl_model.specs.declared.proposals.What.{What}
use Rattle.ynl_model.specs.Check.{proposal_of}
use Rattle.ynl_inventory.specs.layout.Paths.{path_at}
use Rattle.ynl_inventory.specs.Meaning.{app_name, item_of, node_of, tenant_name, what_of}
use Rattle.ynl_inventory.specs.Rows.{AppRow, NodeRow, Rows}
use Rattle.ynl_inventory.specs.Sound.{IsSound}
use Rattle.ynl_inventory.proofs.Tenants.{owner-named}
use Rattle.ynl_search.specs.declared.found.Found.{Found}
use Rattle.ynl_search.specs.Laws.{item_found, no_item}

module _ (v : Rows) (sound : IsSound v) (found : Found) (row : AppRow) (at : lookup (nat_eq found.app) v.apps ≡ Some row) where
  -- its tenant is its leaf's
  tenant-own : tenant_name v.paths row.tenant ≡ tenant_of (path_at v.paths row.leaf)
  tenant-own =
      ap (λ (e : Name × Name). e.0)
      (sym (ap (λ o. option_map_or (λ (row : AppRow). (tenant_name v.paths row.tenant, app_name v.tenants row.tenant row.turn)) o ([], [])) at) ∙ owner-named v sound found.app row at)

  -- what is read of it and of the node is the proposal
  pub proposal-is : (own of : NodeRow) → own ≡ of → (tenant : Name) → tenant ≡ tenant_name v.paths row.tenant → (name : Name) → name ≡ app_name v.tenants row.tenant row.turn
      → (what : What) → what ≡ what_of v.partitions found.role
      → ◌≡◌ {A = Proposal} (record { node = own.name; stamp = own.stamp; tenant = tenant; app = name; what = what; size = found.size })
      (proposal_of (node_of v.partitions of) (item_found v found))
  proposal-is own of same tenant tenant-is name name-is what what-is =
      (λ i. record { node = (same i).name; stamp = (same i).stamp; tenant = (tenant-is ∙ tenant-own) i; app = name-is i; what = what-is i; size = found.size })
      ∙ ap (proposal_of (node_of v.partitions of)) (sym (ap (λ o. option_map_or (λ (row : AppRow). item_of v row found.role found.size) o no_item) at))
