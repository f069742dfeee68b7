-- The tests of a leaf tell which requests are eligible.
use Rattle.std.proofs.Common.{◌≡◌, Bool, true, false, not, ◌&&◌, ◌||◌, cond, List, length, filter, [], ◌∷◌, refl, sym, ap, ◌∙◌, arith}
use Rattle.std.specs.Prelude.{nat_lt}
use Rattle.std.specs.List.{list_any}
use Rattle.std.proofs.lemmas.Bool.Decides.{nat_tests}
use Rattle.ynl_resource.specs.Amounts.{fits_in, plus}
use Rattle.ynl_resource.specs.declared.amounts.Resource.{Resource}
use Rattle.ynl_resource.specs.declared.labels.Label.{Label}
use Rattle.ynl_resource.specs.declared.paths.Path.{Path}
use Rattle.ynl_model.specs.Queues.{Config}
use Rattle.ynl_model.specs.Cluster.{State, free, is_master_what, masters_used, user_used}
use Rattle.ynl_model.specs.Limits.{master_limit, user_limit}
use Rattle.ynl_model.specs.Service.{Item, has_room, is_eligible, no_master_in, within_master_share, within_maximum, within_user_limit}
use Rattle.ynl_model.specs.declared.nodes.Node.{Node}
use Rattle.ynl_model.specs.declared.proposals.What.{What}
use Rattle.ynl_model.specs.declared.proposals.What.TheVariants.{Master, Ask as Asked}
use Rattle.ynl_search.specs.declared.leaf.LeafTests.{LeafTests}
use Rattle.ynl_search.specs.Leaves.{AreLimits, AreTests, TestsTell, keeps_limit, keeps_share, passes, passes_ask, passes_master}
use Rattle.ynl_search.specs.Places.{allows, can_take}

module _ (c : Config) (s : State) (label : Label) (leaf : Path) (tests : LeafTests) where
  module _ (node : Node) (item : Item) (are : AreTests c s label (free s node) leaf tests) (there : node.label ≡ label) (of : item.leaf ≡ leaf) where
    abbrev used : Resource
    used = user_used s leaf item.user label

    room : allows tests.headroom item.size ≡ (has_room s node item.size && within_maximum s node.label item)
    unfolding within_maximum
    room =
        are.headroom item.size
        ∙ (λ i. can_take s (sym there i) (free s node) (sym of i) item.size)

    pub user : keeps_limit tests used item.size ≡ within_user_limit c s node.label item
    unfolding within_user_limit
    user =
        ap (fits_in (plus used item.size)) (are.limit item.size)
        ∙ (λ i. fits_in (plus (user_used s (sym of i) item.user (sym there i)) item.size) (user_limit c s (sym of i) (sym there i) item.size))

    own : passes_ask tests used item.size ≡ (has_room s node item.size && within_maximum s node.label item && within_user_limit c s node.label item)
    own = λ i. room i && user i

    swapped : (a b : Bool) → (a || b) ≡ (b || a)
    swapped true true = refl
    swapped true false = refl
    swapped false true = refl
    swapped false false = refl

    pub master : keeps_share tests item.size ≡ within_master_share c s node.label item.leaf Master item.size
    unfolding within_master_share
    master =
        swapped (not tests.has_master) (fits_in (plus tests.masters item.size) tests.master_limit)
        ∙ (λ i. fits_in (plus (are.masters i) item.size) (are.master_limit i) || are.has_master i)
        ∙ (λ i. fits_in (plus (masters_used s (sym of i) (sym there i)) item.size) (master_limit c s (sym of i) (sym there i)) || no_master_in s (sym of i) (sym there i))

    by-what : (what : What)
        → cond (is_master_what what) (passes_master tests used item.size) (passes_ask tests used item.size)
        ≡ (has_room s node item.size && within_maximum s node.label item && within_user_limit c s node.label item && within_master_share c s node.label item.leaf what item.size)
    unfolding within_master_share
    by-what Master = λ i. own i && master i
    by-what (Asked asked priority) = own ∙ with-true (has_room s node item.size && within_maximum s node.label item && within_user_limit c s node.label item)
      where
        with-true : (b : Bool) → b ≡ (b && true)
        with-true true = refl
        with-true false = refl

    tested : passes tests used item ≡ is_eligible c s node item
    unfolding is_eligible
    tested = by-what item.what

-- which keep the limits of their user and of the leaf's masters, and find headroom
module _ (c : Config) (s : State) (label : Label) (leaf : Path) (tests : LeafTests) (are : AreLimits c s label leaf tests) where
  -- whether a request does
  abbrev pub is_within_limits : Item → Bool
  is_within_limits item = allows tests.headroom item.size && within_user_limit c s label item && within_master_share c s label item.leaf item.what item.size

  module _ (item : Item) (of : item.leaf ≡ leaf) where
    limited : keeps_limit tests (user_used s leaf item.user label) item.size ≡ within_user_limit c s label item
    unfolding within_user_limit
    limited =
        ap (fits_in (plus (user_used s leaf item.user label) item.size)) (are.limit item.size)
        ∙ (λ i. fits_in (plus (user_used s (sym of i) item.user label) item.size) (user_limit c s (sym of i) label item.size))

    swap : (a b : Bool) → (a || b) ≡ (b || a)
    swap true true = refl
    swap true false = refl
    swap false true = refl
    swap false false = refl

    shared : keeps_share tests item.size ≡ within_master_share c s label item.leaf Master item.size
    unfolding within_master_share
    shared =
        swap (not tests.has_master) (fits_in (plus tests.masters item.size) tests.master_limit)
        ∙ (λ i. fits_in (plus (are.masters i) item.size) (are.master_limit i) || are.has_master i)
        ∙ (λ i. fits_in (plus (masters_used s (sym of i) label) item.size) (master_limit c s (sym of i) label) || no_master_in s (sym of i) label)

    by-kind : (what : What)
        → cond (is_master_what what) (passes_master tests (user_used s leaf item.user label) item.size) (passes_ask tests (user_used s leaf item.user label) item.size)
        ≡ (allows tests.headroom item.size && within_user_limit c s label item && within_master_share c s label item.leaf what item.size)
    unfolding within_master_share
    by-kind Master = λ i. allows tests.headroom item.size && limited i && shared i
    by-kind (Asked asked priority) = (λ i. allows tests.headroom item.size && limited i) ∙ with-yes (allows tests.headroom item.size && within_user_limit c s label item)
      where
        with-yes : (b : Bool) → b ≡ (b && true)
        with-yes true = refl
        with-yes false = refl

    pub tests-limit : passes tests (user_used s leaf item.user label) item ≡ is_within_limits item
    tests-limit = by-kind item.what

-- the tests of a leaf tell which of its requests are eligible
pub tests-tell : TestsTell
tests-tell c s label leaf tests node item are there of = tested c s label leaf tests node item are there of

-- a count above 0 is that of some
pub counted-some : {X : Type 0} (p : X → Bool) (xs : List X) → nat_lt 0 (length (filter p xs)) ≡ list_any p xs
counted-some p [] = refl
counted-some {X = X} p (x ∷ xs) = go (p x) (counted-some p xs)
  where
    go : (b : Bool) → nat_lt 0 (length (filter p xs)) ≡ list_any p xs → nat_lt 0 (length (cond b (x ∷ filter p xs) (filter p xs))) ≡ (b || list_any p xs)
    go true rest = grind (arith, nat_tests)
    go false rest = rest
