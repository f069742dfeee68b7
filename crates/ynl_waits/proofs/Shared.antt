-- The choice on a node is that on each node of its partition on which as much is free.
use Rattle.std.proofs.Common.{◌≡◌, ℕ, Bool, not, ◌&&◌, ◌==◌, true, arith, List, [], ◌∷◌, ◌++◌, zero, suc, Option, Some, None, option_map, refl, sym, ap, ap₂, subst, ◌∙◌, filter, if◌then◌else◌}
use Rattle.std.specs.Prelude.{slice_get}
use Rattle.std.specs.List.{AllByRecursion, list_any}
use Rattle.std.specs.Option.{option_or}
use Rattle.ynl_resource.specs.Amounts.{fits_in}
use Rattle.ynl_resource.specs.declared.amounts.Resource.{Resource}
use Rattle.ynl_resource.specs.Names.{same_label}
use Rattle.ynl_resource.specs.declared.labels.Label.{Label}
use Rattle.ynl_resource.specs.declared.labels.Label.TheVariants.{Unlabelled}
use Rattle.ynl_model.specs.declared.nodes.Node.{Node}
use Rattle.ynl_model.specs.declared.proposals.Proposal.{Proposal}
use Rattle.ynl_model.specs.Queues.{Config}
use Rattle.ynl_model.specs.Cluster.{State, free}
use Rattle.ynl_model.specs.Service.{Item, within_maximum, within_user_limit, within_master_share, items_for, asks_for, takes_guests, is_eligible, guests_for, first_of, key, choice}
use Rattle.ynl_model.specs.Check.{proposal_of, proposed}
use Rattle.std.proofs.lemmas.Bool.{and_parts}
use Rattle.std.proofs.lemmas.Bool.Decides.{nat_tests}
use Rattle.ynl_laws.proofs.Names.{same-label_path}
use Rattle.ynl_waits.specs.Grounds.{Spot, IsSpot}
use Rattle.ynl_waits.specs.Choices.{moved, is_row_for, IsChoice}
use Rattle.ynl_waits.specs.declared.choices.Choice.{Choice}

-- what holds of all holds of one that was found
pub all_got : {X : Type 0} (P : X → Type 0) (xs : List X) (i : ℕ) (x : X) → AllByRecursion P xs → slice_get xs i ≡ Some x → P x
all_got P [] i x all is = absurd (cc is)
all_got P (y ∷ ys) zero x all is = subst P (some_is is) all.0
  where
    some_is : Some y ≡ Some x → y ≡ x
    some_is e = cc
all_got P (y ∷ ys) (suc i) x all is = all_got P ys i x all.1 is

-- and with one more, of which it holds too, it holds of all
pub all_pushed : {X : Type 0} (P : X → Type 0) (xs : List X) (x : X) → AllByRecursion P xs → P x → AllByRecursion P (xs ++ x ∷ [])
all_pushed P [] x all is = (is, tt)
all_pushed P (y ∷ ys) x all is = (all.0, all_pushed P ys x all.1 is)

module _ (c : Config) (s : State) (label : Label) (room : Resource) where
  -- whether a request may be placed where so much is free
  abbrev fits_there : Item → Bool
  fits_there item =
      fits_in item.size room && within_maximum s label item && within_user_limit c s label item && within_master_share c s label item.leaf item.what item.size

  abbrev guests_there : List Item
  guests_there = if takes_guests c label && not (list_any fits_there (items_for s label)) then filter (λ item. fits_in item.size room) (asks_for s Unlabelled) else []

  -- the choice where so much is free
  abbrev choice_there : Option Item
  choice_there = option_or (first_of (key c s label) (filter fits_there (items_for s label))) (first_of (key c s Unlabelled) guests_there)

choice-there : (c : Config) (s : State) (node : Node) → choice c s node ≡ choice_there c s node.label (free s node)
unfolding choice is_eligible guests_for
choice-there c s node = refl

same-choice : (c : Config) (s : State) (a b : Node) → a.label ≡ b.label → free s a ≡ free s b → choice c s a ≡ choice c s b
same-choice c s a b label room = choice-there c s a ∙ ap₂ (choice_there c s) label room ∙ sym (choice-there c s b)

moved-proposal : (a b : Node) (found : Option Item) → moved b (option_map (proposal_of a) found) ≡ option_map (proposal_of b) found
moved-proposal a b None = refl
moved-proposal a b (Some item) = refl

-- so a proposal for one is, moved, the proposal for the other
pub proposal-moves : (c : Config) (s : State) (a b : Node) → b.label ≡ a.label → free s b ≡ free s a → moved b (proposed c s a) ≡ proposed c s b
unfolding proposed
proposal-moves c s a b label room = moved-proposal a b (choice c s a) ∙ ap (option_map (proposal_of b)) (sym (same-choice c s b a label room))

-- what a row says of a node that it is for
pub row-tells : (c : Config) (s : State) (row : Choice) (spot : Spot) → IsChoice c s row → is_row_for row spot ≡ true → IsSpot s spot → moved spot.node row.proposal ≡ proposed c s spot.node
row-tells c s row spot is same free_there =
    let parts = and_parts (same_label row.label spot.node.label && (row.free.memory == spot.free.memory)) (row.free.vcores == spot.free.vcores) same in
    let first = and_parts (same_label row.label spot.node.label) (row.free.memory == spot.free.memory) parts.0 in
    let memory : row.free.memory ≡ spot.free.memory = grind (arith, nat_tests, first.1) in
    let vcores : row.free.vcores ≡ spot.free.vcores = grind (arith, nat_tests, parts.1) in
    let room : row.free ≡ spot.free = λ i. record { memory = memory i; vcores = vcores i } in
    is spot.node (sym (same-label_path row.label spot.node.label first.0)) (sym free_there ∙ sym room)

-- a row that is made for a node
pub row-made : (c : Config) (s : State) (spot : Spot) (proposal : Option Proposal) → IsSpot s spot → proposal ≡ proposed c s spot.node → IsChoice c s (record { label = spot.node.label; free = spot.free; proposal = proposal })
row-made c s spot proposal free_there is node label room = ap (moved node) is ∙ proposal-moves c s spot.node node label (room ∙ free_there)
