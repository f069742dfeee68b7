-- One container more or less in a use.
use Rattle.std.proofs.Common.{◌≡◌, ℕ, ◌+◌, ◌-◌, Bool, true, false, cond, List, [], ◌∷◌, ◌++◌, refl, sym, ap, ◌∙◌, arith}
use Rattle.ynl_resource.specs.Amounts.{plus, less}
use Rattle.ynl_resource.specs.declared.amounts.Resource.{Resource}
use Rattle.ynl_model.specs.declared.uses.Use.{Use}
use Rattle.ynl_laws.proofs.Totals.Inserted.{Inserted}
use Rattle.ynl_tables.specs.declared.containers.container.Container.{Container}
use Rattle.ynl_cluster.specs.uses.Tallies.{raised, raised_as, lowered, lowered_as}
use Rattle.ynl_cluster.specs.declared.uses.tally.Counted.{Counted}
use Rattle.ynl_cluster.specs.declared.uses.tally.Counted.TheVariants.{Guest, Master, Asked}
use Rattle.ynl_cluster.specs.declared.uses.tally.Tally.{Tally}
use Rattle.ynl_cluster.specs.ledger.Ledger.{counted_as, raised_if, tally_of, use_where}

-- ---- amounts

plus-swap : (a x y : Resource) → plus (plus a x) y ≡ plus (plus a y) x
plus-swap a x y = λ i. record { memory = memory i; vcores = vcores i }
  where
    memory : a.memory + x.memory + y.memory ≡ a.memory + y.memory + x.memory
    memory = omega arith

    vcores : a.vcores + x.vcores + y.vcores ≡ a.vcores + y.vcores + x.vcores
    vcores = omega arith

-- what was added is taken again
pub less-plus : (a b : Resource) → less (plus a b) b ≡ a
less-plus a b = λ i. record { memory = memory i; vcores = vcores i }
  where
    memory : a.memory + b.memory - b.memory ≡ a.memory
    memory = omega arith

    vcores : a.vcores + b.vcores - b.vcores ≡ a.vcores
    vcores = omega arith

pub one_less : (n : ℕ) → n + 1 - 1 ≡ n
one_less n = omega arith

-- ---- uses

-- two containers raise a use in either order
swap-as : (a b : Counted) (x y : Resource) (u : Use) → raised_as a x (raised_as b y u) ≡ raised_as b y (raised_as a x u)
swap-as Guest Guest x y u = λ i. record u { guests = plus-swap u.guests y x i }
swap-as Guest Master x y u = refl
swap-as Guest Asked x y u = refl
swap-as Master Guest x y u = refl
swap-as Master Master x y u = λ i. record u { used = plus-swap u.used y x i; masters = plus-swap u.masters y x i; master_count = u.master_count + 1 + 1 }
swap-as Master Asked x y u = λ i. record u { used = plus-swap u.used y x i; masters = plus u.masters x; master_count = u.master_count + 1 }
swap-as Asked Guest x y u = refl
swap-as Asked Master x y u = λ i. record u { used = plus-swap u.used y x i; masters = plus u.masters y; master_count = u.master_count + 1 }
swap-as Asked Asked x y u = λ i. record u { used = plus-swap u.used y x i }

back-as : (counted : Counted) (size : Resource) (u : Use) → lowered_as counted size (raised_as counted size u) ≡ u
back-as Guest size u = λ i. record u { guests = less-plus u.guests size i }
back-as Master size u = λ i. record u { used = less-plus u.used size i; masters = less-plus u.masters size i; master_count = one_less u.master_count i }
back-as Asked size u = λ i. record u { used = less-plus u.used size i }

-- one less undoes one more
pub lowered-raised : (t : Tally) (u : Use) → lowered t (raised t u) ≡ u
lowered-raised t u = back-as t.counted t.size u

-- two changes of which each is made or not
swap-if : (one two : Use → Use) (u : Use) → one (two u) ≡ two (one u) → (a b : Bool) → cond a (one (cond b (two u) u)) (cond b (two u) u) ≡ cond b (two (cond a (one u) u)) (cond a (one u) u)
swap-if one two u same true true = same
swap-if one two u same true false = refl
swap-if one two u same false true = refl
swap-if one two u same false false = refl

module _ (test : Container → Bool) (p : ℕ) where
  swap-in : (c d : Container) (u : Use) → raised_if test p c (raised_if test p d u) ≡ raised_if test p d (raised_if test p c u)
  swap-in c d u =
      swap-if (raised (tally_of p c.role c.size)) (raised (tally_of p d.role d.size)) u (swap-as (counted_as p c.role) (counted_as p d.role) c.size d.size u) (test c) (test d)

  -- it does not matter where among the containers one more stands
  use-with : (before after : List (ℕ × Container)) (e : ℕ × Container) → use_where test p (before ++ e ∷ after) ≡ raised_if test p e.1 (use_where test p (before ++ after))
  use-with [] after e = refl
  use-with (f ∷ before) after e = ap (raised_if test p f.1) (use-with before after e) ∙ swap-in f.1 e.1 (use_where test p (before ++ after))

  -- one container more raises what those use that pass the test, if it passes
  pub use-more : (e : ℕ × Container) (more fewer : List (ℕ × Container)) → Inserted true e more fewer → use_where test p more ≡ raised_if test p e.1 (use_where test p fewer)
  use-more e more fewer h =
      ap (use_where test p) h.more_is ∙ use-with h.before h.after e ∙ sym (ap (λ es. raised_if test p e.1 (use_where test p es)) h.fewer_is)
