-- The keys of a table and the items of an array, as they are searched.
use Rattle.std.proofs.Common.{◌≡◌, ℕ, List, [], ◌∷◌, ◌&&◌, Bool, true, false, cond, not, Bor, Option, Some, None, is_none, option_map, Ok, Err, refl, sym, ap, ◌∙◌}
use Rattle.std.specs.Prelude.{find}
use Rattle.std.specs.List.{list_all}
use Rattle.toml.specs.Data.{Members, no_members, member}
use Rattle.ynl_config.specs.declared.faults.ConfigFault.TheVariants.{UnknownKey}
use Rattle.ynl_config.specs.declared.keys.TableKind.{TableKind}
use Rattle.ynl_config.specs.Known.{is_known, all_known, known_keys}
use Rattle.ynl_config.specs.Places.{keys_in, unknown_key}

-- a test holds of all where a search finds none of which it does not
none-found : {X : Type 0} (p : X → Bool) (xs : List X) → is_none (find (λ x. not (p x)) xs) ≡ list_all p xs
none-found p [] = refl
none-found p (x ∷ xs) = go (p x) (none-found p xs)
  where
    go : (b : Bool) → is_none (find (λ y. not (p y)) xs) ≡ list_all p xs → is_none (cond (not b) (Some x) (find (λ y. not (p y)) xs)) ≡ (b && list_all p xs)
    go true e = e
    go false e = refl

some-kept : {X Y : Type 0} (f : X → Y) (o : Option X) → is_none o ≡ is_none (option_map f o)
some-kept f None = refl
some-kept f (Some x) = refl

-- so where no key is found
pub all-pass : (p : List ℕ → Bool) (keys : List (List ℕ)) (found : Option (Bor (List ℕ))) → option_map (λ key. key.now) found ≡ find (λ key. not (p key)) keys → is_none found ≡ list_all p keys
all-pass p keys found e = some-kept (λ (key : Bor (List ℕ)). key.now) found ∙ ap is_none e ∙ none-found p keys

all-known : (kind : TableKind) (ms : Members) → list_all (is_known kind) (keys_in ms) ≡ all_known kind ms
all-known kind no_members = refl
all-known kind (member key d ms) = ap (λ b. is_known kind key && b) (all-known kind ms)

-- the keys of a table are known where none is found that is not
pub known-where : (kind : TableKind) (ms : Members) (found : Option (Bor (List ℕ))) → option_map (λ key. key.now) found ≡ unknown_key kind ms → known_keys kind ms ≡ cond (is_none found) (Ok tt) (Err UnknownKey)
unfolding unknown_key known_keys
known-where kind ms found e = ap (λ b. cond b (Ok tt) (Err UnknownKey)) (sym (all-pass (is_known kind) (keys_in ms) found e ∙ all-known kind ms))
