-- Which of the queues just below one is tried next.
use Rattle.std.specs.Prelude.{◌≡◌, ℕ, ◌<◌, Bool, true, false, List, length, Option, Some, None, IfSome}
use Rattle.std.specs.List.Sorted.{IsStrictlySortedBy}
use Rattle.std.specs.Ordering.{is_lt}
use Rattle.ynl_resource.specs.Names.{name_order}
use Rattle.ynl_resource.specs.declared.names.Name.{Name}
use Rattle.ynl_model.specs.Service.{Ratio, Standing as Stands, standing_order}
use Rattle.ynl_search.specs.declared.descent.standing.Standing.{Standing}
use Rattle.ynl_search.specs.descent.Scenes.{Branch, HasPlace, HasNoneAt, name_at, stands_at}

-- names in the order of their bytes, no two of them the same
abbrev pub AreInOrder : List Name → Type 0
AreInOrder names = IsStrictlySortedBy name_order names

-- how much of its guarantee a queue uses
abbrev pub ratio_of : Standing → Ratio
ratio_of s = record { used = s.used; guaranteed = s.guaranteed }

module _ (b : Branch) where
  -- how a child stands by what is told of it
  abbrev pub told : Standing → Stands
  told s = record { ratio = ratio_of s; name = name_at b s.place }

  -- that is how the child in that place stands
  pub record IsStanding (s : Standing) : Type 0 where
    pub there : HasPlace b s.place
    pub right : told s ≡ stands_at b s.place

  -- where one was tried, or is the best so far, there is a child in its place
  abbrev pub HavePlaces : Option Standing → Type 0
  HavePlaces o = IfSome o (λ s. HasPlace b s.place)

  -- whether the first is served before the second
  abbrev pub comes_before : Standing → Standing → Bool
  comes_before s other = is_lt (standing_order (told s) (told other))

  -- whether a child comes after the one that was tried last, if one was
  abbrev pub is_left : Option Standing → Stands → Bool
  is_left None s = true
  is_left (Some last) s = is_lt (standing_order (told last) s)

  -- whether a child comes before the best so far, if there is one
  abbrev pub is_before : Stands → Option Standing → Bool
  is_before s None = true
  is_before s (Some best) = is_lt (standing_order s (told best))

  -- of the children in places below n those that come after the last, and before the best, have no request below them
  abbrev pub HaveNone : ℕ → Option Standing → Option Standing → Type 0
  HaveNone n last best =
      (place : ℕ) → place < n → HasPlace b place → is_left last (stands_at b place) ≡ true
      → is_before (stands_at b place) best ≡ true → HasNoneAt b place

  -- no child that comes after the last has a request below it
  abbrev pub AreNoneLeft : Option Standing → Type 0
  AreNoneLeft last = HaveNone (length b.children) last None

  -- it comes after the last that was tried, and those between have no request below them
  pub record IsNext (last : Option Standing) (next : Standing) : Type 0 where
    pub standing : IsStanding next
    pub left : is_left last (told next) ≡ true
    pub between : HaveNone (length b.children) last (Some next)

  -- the children up to the last that was tried have no request below them
  abbrev pub AreTried : Option Standing → Type 0
  AreTried last = (place : ℕ) → HasPlace b place → is_left last (stands_at b place) ≡ false → HasNoneAt b place
