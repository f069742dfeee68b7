-- What is noted of a queue stays right where what stands below it does.
use Rattle.std.proofs.Common.{◌≡◌, ◌⊎◌, ℕ, Bool, true, false, ◌&&◌, ◌||◌, List, [], ◌∷◌, Option, None, Some, inl, inr, refl, sym, ap, subst, ◌∙◌, true≢false, arith}
use Rattle.std.specs.Prelude.{nat_le}
use Rattle.std.proofs.lemmas.Bool.Decides.{nat_tests}
use Rattle.std.specs.List.{AllByRecursion, list_all}
use Rattle.std.proofs.lemmas.Bool.{and_parts}
use Rattle.ynl_resource.specs.Amounts.{fits_in, nothing, plus}
use Rattle.ynl_resource.specs.Names.{root, is_within, same_name, way_to}
use Rattle.ynl_resource.specs.declared.amounts.Resource.{Resource}
use Rattle.ynl_resource.specs.declared.labels.Label.{Label}
use Rattle.ynl_resource.specs.declared.paths.Path.{Path}
use Rattle.ynl_model.specs.Queues.{Config}
use Rattle.ynl_model.specs.Cluster.{State, maximum, used}
use Rattle.ynl_model.specs.Service.{Item, items_for}
use Rattle.ynl_laws.specs.Descent.{IsBelow}
use Rattle.ynl_laws.specs.Lulls.{IsLull, Lasts, keeps_own_limits, requests_at}
use Rattle.ynl_laws.specs.Tabled.{Tabled}
use Rattle.ynl_laws.proofs.Lists.{Each-all, Each-map}
use Rattle.ynl_laws.proofs.Names.{same-name_self, same-name_sym}
use Rattle.ynl_cluster.proofs.requests.Members.{Among, among-contained, contained-among, each-among}
use Rattle.ynl_laws.proofs.Amounts.{fits-trans}
use Rattle.ynl_search.specs.notes.Shut.{AreAtLeast, IsShut, keeps_maximum}
use Rattle.ynl_search.specs.notes.Laws.{Stays, StaysAtLeast, StaysShut}
use Rattle.ynl_search.proofs.notes.Requests.{from-leaf, in-leaf}
use Rattle.ynl_search.proofs.notes.Rooms.{allows, narrow, narrow-tells}

-- ---- paths

-- each queue on the way to another has it within
steps-within : (path : Path) → AllByRecursion (λ step. is_within step path ≡ true) (root ∷ way_to path)
steps-within path = (refl, below path)
  where
    below : (path : Path) → AllByRecursion (λ step. is_within step path ≡ true) (way_to path)
    below [] = tt
    below (name ∷ path) = (
      ap (λ b. b && true) (same-name_self name),
      Each-map (λ step. is_within step path ≡ true) (λ step. is_within step (name ∷ path) ≡ true) (λ step. name ∷ step) (λ step h i. same-name_self name i && h i) (way_to path) (below path),
    )

-- of two queues on one way one has the other within
comparable : (a b path : Path) → is_within a path ≡ true → is_within b path ≡ true → (is_within a b ≡ true) ⊎ (is_within b a ≡ true)
comparable [] b path at bt = inl refl
comparable (x ∷ a) [] path at bt = inr refl
comparable (x ∷ a) (y ∷ b) [] at bt = absurd (true≢false (sym at))
comparable (x ∷ a) (y ∷ b) (z ∷ path) at bt =
    let left = and_parts (same_name x z) (is_within a path) at in
    let right = and_parts (same_name y z) (is_within b path) bt in
    go (same-name_sym x z left.0) (same-name_sym y z right.0) (comparable a b path left.1 right.1)
  where
    go : x ≡ z → y ≡ z → (is_within a b ≡ true) ⊎ (is_within b a ≡ true) → (is_within (x ∷ a) (y ∷ b) ≡ true) ⊎ (is_within (y ∷ b) (x ∷ a) ≡ true)
    go d e (inl h) = inl (λ i. ((ap (λ n. same_name n y) (d ∙ sym e) ∙ same-name_self y) i) && h i)
    go d e (inr h) = inr (λ i. ((ap (λ n. same_name n x) (e ∙ sym d) ∙ same-name_self x) i) && h i)

pub nothing-fits : (size : Resource) → fits_in nothing size ≡ true
nothing-fits size = λ i. least size.memory i && least size.vcores i
  where
    least : (n : ℕ) → nat_le 0 n ≡ true
    least n = grind (arith, nat_tests)

-- ---- shut

module _ (c : Config) (s t : State) (label : Label) (queue : Path) (before : Tabled s) (after : Tabled t)
    (lasts : (leaf : Path) → is_within queue leaf ≡ true → Lasts c s t label leaf)
    (same : (step : Path) → is_within queue step ≡ true → (used t step label ≡ used s step label) × (maximum t step label ≡ maximum s step label)) where
  abbrev keeps : State → Resource → Path → Bool
  keeps u size step = is_within step queue || keeps_maximum u label size step

  -- queues on the way to a leaf below take as much in both
  keeps-same : (size : Resource) (leaf : Path) → is_within queue leaf ≡ true → (steps : List Path) → AllByRecursion (λ step. is_within step leaf ≡ true) steps → list_all (keeps t size) steps ≡ list_all (keeps s size) steps
  keeps-same size leaf own [] each = refl
  keeps-same size leaf own (step ∷ steps) each = λ i. one i && keeps-same size leaf own steps each.1 i
    where
      one : keeps t size step ≡ keeps s size step
      one = go (comparable step queue leaf each.0 own)
        where
          go : (is_within step queue ≡ true) ⊎ (is_within queue step ≡ true) → keeps t size step ≡ keeps s size step
          go (inl above) = ap (λ b. b || keeps_maximum t label size step) above ∙ sym (ap (λ b. b || keeps_maximum s label size step) above)
          go (inr below) = λ i. is_within step queue || fits_in (plus ((same step below).0 i) size) ((same step below).1 i)

  module _ (room : Resource) (shut : IsShut c s label queue room) (leaf : Path) (own : is_within queue leaf ≡ true) where
    -- what of the room the queues below leave
    abbrev rest : Option Resource
    rest = narrow (λ step. is_within step queue) (λ step. used s step label) (λ step. maximum s step label) (root ∷ way_to leaf) room

    rest-tells : (size : Resource) → allows rest size ≡ (list_all (keeps s size) (root ∷ way_to leaf) && fits_in size room)
    rest-tells size = narrow-tells (λ step. is_within step queue) (λ step. used s step label) (λ step. maximum s step label) (root ∷ way_to leaf) room size

    -- the leaf has a lull there
    lull : (narrowed : Resource) → rest ≡ Some narrowed → IsLull c s label leaf nothing narrowed
    lull narrowed is = record {
      above = Each-all (λ (item : Item). fits_in nothing item.size ≡ true) (λ item. nothing-fits item.size) (requests_at s label leaf);
      none = each (requests_at s label leaf) (λ item there. there);
    }
      where
        one : (item : Item) → item.leaf ≡ leaf → IsBelow (items_for s label) queue item → fits_in item.size narrowed ≡ true → keeps_own_limits c s label item ≡ false
        one item at below fits =
            let taken : (list_all (keeps s item.size) (root ∷ way_to leaf) && fits_in item.size room) ≡ true = sym (rest-tells item.size) ∙ ap (λ o. allows o item.size) is ∙ fits in
            let parts = and_parts (list_all (keeps s item.size) (root ∷ way_to leaf)) (fits_in item.size room) taken in
            sym (ap (λ b. b && keeps_own_limits c s label item) (ap (λ l. list_all (keeps s item.size) (root ∷ way_to l)) at ∙ parts.0)) ∙ shut item below parts.1

        each : (items : List Item) → ((item : Item) → Among item items → Among item (requests_at s label leaf)) → AllByRecursion (λ item. fits_in item.size narrowed ≡ true → keeps_own_limits c s label item ≡ false) items
        each [] there = tt
        each (item ∷ items) there =
            let at = from-leaf s before label leaf item (there item (inl refl)) in
            (one item at.1 (record { among = contained-among item (items_for s label) at.0; within = ap (is_within queue) at.1 ∙ own }), each items (λ other h. there other (inr h)))

    -- so it has one afterwards
    still : (item : Item) → item.leaf ≡ leaf → IsBelow (items_for t label) queue item → fits_in item.size room ≡ true → (b : Bool) → list_all (keeps t item.size) (root ∷ way_to leaf) ≡ b → (b && keeps_own_limits c t label item) ≡ false
    still item at below fits false is = refl
    still item at below fits true is = go rest refl
      where
        takes : allows rest item.size ≡ true
        takes = rest-tells item.size ∙ (λ i. (sym (keeps-same item.size leaf own (root ∷ way_to leaf) (steps-within leaf)) ∙ is) i && fits i)

        go : (o : Option Resource) → rest ≡ o → keeps_own_limits c t label item ≡ false
        go None e = absurd (true≢false (sym takes ∙ ap (λ o. allows o item.size) e))
        go (Some narrowed) e =
            each-among (λ item. fits_in item.size narrowed ≡ true → keeps_own_limits c t label item ≡ false) item (requests_at t label leaf)
            ((lasts leaf own nothing narrowed (lull narrowed e)).none)
            (subst (λ l. Among item (requests_at t label l)) at (in-leaf t after label item (among-contained item (items_for t label) below.among)))
            (sym (ap (λ o. allows o item.size) e) ∙ takes)

  stays-shut : StaysShut c s t label queue
  stays-shut room shut item below fits = still room shut item.leaf below.within item refl below fits (list_all (keeps t item.size) (root ∷ way_to item.leaf)) refl

  -- the least of a leaf lasts as its lulls do: where it does not fit in no room at all, none of the leaf's requests does
  module _ (least : Resource) (above : AreAtLeast (items_for s label) queue least) (some : fits_in least nothing ≡ false) (leaf : Path) (own : is_within queue leaf ≡ true) where
    standing : IsLull c s label leaf least nothing
    standing = record { above = each-above (requests_at s label leaf) (λ item there. there); none = each-none (requests_at s label leaf) (λ item there. there) }
      where
        one : (item : Item) → Among item (requests_at s label leaf) → fits_in least item.size ≡ true
        one item there =
            let at = from-leaf s before label leaf item there in
            above item (record { among = contained-among item (items_for s label) at.0; within = ap (is_within queue) at.1 ∙ own })

        each-above : (items : List Item) → ((item : Item) → Among item items → Among item (requests_at s label leaf)) → AllByRecursion (λ item. fits_in least item.size ≡ true) items
        each-above [] there = tt
        each-above (item ∷ items) there = (one item (there item (inl refl)), each-above items (λ other h. there other (inr h)))

        each-none : (items : List Item) → ((item : Item) → Among item items → Among item (requests_at s label leaf)) → AllByRecursion (λ item. fits_in item.size nothing ≡ true → keeps_own_limits c s label item ≡ false) items
        each-none [] there = tt
        each-none (item ∷ items) there = (
          (λ fits. absurd (true≢false (sym (fits-trans least item.size nothing (one item (there item (inl refl))) fits) ∙ some))),
          each-none items (λ other h. there other (inr h)),
        )

  stays-at_least : StaysAtLeast s t label queue
  stays-at_least least above item below = go (fits_in least nothing) refl
    where
      go : (b : Bool) → fits_in least nothing ≡ b → fits_in least item.size ≡ true
      go true none = fits-trans least nothing item.size none (nothing-fits item.size)
      go false some =
          each-among (λ item. fits_in least item.size ≡ true) item (requests_at t label item.leaf)
          ((lasts item.leaf below.within least nothing (standing least above some item.leaf below.within)).above)
          (in-leaf t after label item (among-contained item (items_for t label) below.among))

  pub stays : Stays c s t label queue
  stays = record { shut = stays-shut; least = stays-at_least }
