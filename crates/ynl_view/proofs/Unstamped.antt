-- Nodes without their stamps are found, counted, joined and dropped as they are with them.
use Rattle.std.proofs.Common.{◌≡◌, true, false, not, ◌&&◌, List, [], ◌∷◌, map, length, Option, Some, None, IfSome, refl, sym, ap, subst, ◌∙◌}
use Rattle.std.proofs.lemmas.List.{map-append, length-map}
use Rattle.std.specs.Prelude.{nat_le}
use Rattle.std.specs.Option.{option_map}
use Rattle.ynl_resource.specs.Names.{same_name, same_label}
use Rattle.ynl_resource.specs.Ranges.{most_nodes}
use Rattle.ynl_resource.specs.declared.labels.Label.{Label}
use Rattle.ynl_resource.specs.declared.names.Name.{Name}
use Rattle.ynl_model.specs.declared.nodes.Node.{Node}
use Rattle.ynl_model.specs.declared.nodes.Tracked.{Tracked}
use Rattle.ynl_model.specs.Nodes.{find_node, nodes_of, is_full, joined, left}
use Rattle.ynl_model.specs.Promises.{without_stamp}
use Rattle.ynl_model.specs.View.{tracked, has_place, dropped, joined as added}
use Rattle.ynl_laws.proofs.Lists.{find-map, filter-map, found-passes}
use Rattle.ynl_laws.proofs.Logic.{not-true}
use Rattle.ynl_laws.proofs.Names.{same-name_sym}

abbrev pub unstamped : List Node → List Tracked
unstamped nodes = map without_stamp nodes

pub joined_is : (nodes : List Node) (node : Node) → unstamped (joined node nodes) ≡ added (unstamped nodes) node.name node.label node.size
unfolding joined
joined_is nodes node = map-append without_stamp nodes (node ∷ [])

pub left_is : (nodes : List Node) (node : Node) → unstamped (left node nodes) ≡ dropped (unstamped nodes) (without_stamp node)
unfolding left
left_is nodes node = sym (filter-map without_stamp (λ other. not (same_name other.name node.name && same_label other.label node.label)) nodes)

none_mapped : {A B : Type 0} (f : A → B) (o : Option A) → option_map f o ≡ None → o ≡ None
none_mapped f None e = refl
none_mapped f (Some x) e = cc

-- the nodes, and what a contract sees of them
module _ (nodes : List Node) (view : List Tracked) (is : unstamped nodes ≡ view) where
  pub found_is : (name : Name) (found : Option Node) → found ≡ find_node nodes name → tracked view name ≡ option_map without_stamp found
  found_is name found e = ap (λ v. tracked v name) (sym is) ∙ find-map without_stamp (λ node. same_name node.name name) nodes ∙ ap (option_map without_stamp) (sym e)

  pub none_found : (name : Name) → tracked view name ≡ None → find_node nodes name ≡ None
  none_found name none = none_mapped without_stamp (find_node nodes name) (sym (found_is name (find_node nodes name) refl) ∙ none)

  pub place_is : (label : Label) → has_place view label ≡ not (is_full nodes label)
  unfolding is_full
  place_is label =
      ap (λ v. has_place v label) (sym is)
      ∙ ap (λ xs. not (nat_le most_nodes (length xs))) (filter-map without_stamp (λ node. same_label node.label label) nodes)
      ∙ ap (λ n. not (nat_le most_nodes n)) (length-map (nodes_of nodes label) without_stamp)

  pub not_full : (label : Label) → has_place view label ≡ true → is_full nodes label ≡ false
  not_full label place = not-true (is_full nodes label) (sym (place_is label) ∙ place)

  -- a node that is found has the name
  pub named : (name : Name) (node : Node) → Some node ≡ find_node nodes name → node.name ≡ name
  named name node e = same-name_sym node.name name (subst (λ o. IfSome o (λ other. same_name other.name name ≡ true)) (sym e) (found-passes (λ other. same_name other.name name) nodes))
