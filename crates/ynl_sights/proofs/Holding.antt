-- Requests that come up one after another, of which the first is held.
use Rattle.std.proofs.Common.{◌≡◌, Bool, true, false, cond, not, List, [], ◌∷◌, ◌++◌, map, filter, Option, Some, None, is_some, refl, sym, ap, ◌∙◌}
use Rattle.std.specs.Prelude.{fold, option_map, ◌||◌}
use Rattle.std.specs.List.{list_any}
use Rattle.std.specs.Option.{option_or}
use Rattle.std.specs.Ordering.{is_gt}
use Rattle.std.proofs.lemmas.List.Elements.{filter-append}
use Rattle.std.proofs.lemmas.List.{map-append}
use Rattle.std.proofs.lemmas.List.Sums.{fold-append}
use mathlib.Core.Bool.{true≢false}
use Rattle.ynl_model.specs.Service.{key_order}
use Rattle.ynl_laws.proofs.Service.Least.{first-held}
use Rattle.ynl_laws.proofs.Service.OrderTotal.{key_order_total}
use Rattle.ynl_resource.specs.declared.amounts.Resource.{Resource}
use Rattle.ynl_sights.specs.Sights.{Bid, Offer, passes, first_bid, open_guests, open_bids, Seen, has_room}
use Rattle.ynl_sights.specs.Planning.{bid_of, sooner, HoldsFirst, open_in}
use Rattle.ynl_sights.specs.declared.rows.Held.{Held}

pub then : (a b c : Option Held) (xs ys : List Bid) → HoldsFirst a xs b → HoldsFirst b ys c → HoldsFirst a (xs ++ ys) c
then a b c xs ys first next = next ∙ ap (λ o. fold sooner o ys) first ∙ sym (fold-append sooner (option_map bid_of a) xs ys)

pub open-append : (free : Resource) (xs ys : List Offer) → open_in free (xs ++ ys) ≡ open_in free xs ++ open_in free ys
open-append free xs ys = ap (map (λ offer. offer.bid)) (filter-append (passes free) xs ys) ∙ map-append (λ offer. offer.bid) (filter (passes free) xs) (filter (passes free) ys)

-- what is held in the end is the first
pub first-found : (bids : List Bid) → fold sooner None bids ≡ first_bid bids
first-found bids = first-held key_order key_order_total (λ bid. bid.key) bids

-- where nothing is held in the end nothing came up
some-held : (best : Bid) (bids : List Bid) → is_some (fold sooner (Some best) bids) ≡ true
some-held best [] = refl
some-held best (bid ∷ bids) = go (is_gt (key_order best.key bid.key)) (some-held bid bids) (some-held best bids)
  where
    go : (b : Bool) → is_some (fold sooner (Some bid) bids) ≡ true → is_some (fold sooner (Some best) bids) ≡ true → is_some (fold sooner (cond b (Some bid) (Some best)) bids) ≡ true
    go true taken left = taken
    go false taken left = left

nothing-up : (bids : List Bid) → first_bid bids ≡ None → bids ≡ []
nothing-up [] e = refl
nothing-up (bid ∷ bids) e = absurd (true≢false (sym (some-held bid bids) ∙ ap is_some (first-found (bid ∷ bids) ∙ e)))

is-cons : List Bid → Bool
is-cons [] = false
is-cons (x ∷ xs) = true

no-open : (free : Resource) (offers : List Offer) → open_in free offers ≡ [] → list_any (passes free) offers ≡ false
unfolding is-cons
no-open free [] e = refl
no-open free (offer ∷ offers) e = go (passes free offer) e (no-open free offers)
  where
    go : (b : Bool) → map (λ o. o.bid) (cond b (offer ∷ filter (passes free) offers) (filter (passes free) offers)) ≡ [] → (open_in free offers ≡ [] → list_any (passes free) offers ≡ false) → (b || list_any (passes free) offers) ≡ false
    go true e rest = absurd (true≢false (ap is-cons e))
    go false e rest = rest e

-- where no request for the partition passes, the guests that have room may be placed
pub guests-open : (seen : Seen) → first_bid (open_bids seen) ≡ None → open_guests seen ≡ filter (has_room seen.free) seen.guests
guests-open seen e = ap (λ b. cond (not b) (filter (has_room seen.free) seen.guests) []) (no-open seen.free seen.offers (nothing-up (open_bids seen) e))

-- a request that is held, without what it is ordered by
pub item-held : (held : Option Held) → option_map (λ h. (bid_of h).item) held ≡ option_map (λ bid. bid.item) (option_map bid_of held)
item-held None = refl
item-held (Some h) = refl

pub or-none : (first guest : Option Bid) → first ≡ None → option_or first guest ≡ guest
or-none first guest e = ap (λ o. option_or o guest) e
