-- One partition has another clock, or other containers, as a line tells them.
use Rattle.std.proofs.Common.{◌≡◌, inl, inr, ◌≤◌, ℕ, Bool, true, false, cond, List, Some, find, refl, sym, ap, subst, ◌∙◌}
use Rattle.std.specs.List.{AllByRecursion}
use Rattle.std.specs.Option.{option_map_or}
use Rattle.ynl_resource.specs.Names.{same_label}
use Rattle.ynl_resource.specs.declared.labels.Label.{Label}
use Rattle.ynl_model.specs.Cluster.{Partition, in_partition, is_partition}
use Rattle.ynl_model.specs.Nodes.{clock_limit}
use Rattle.ynl_model.specs.Queues.{Config}
use Rattle.ynl_model.specs.declared.containers.Placed.{Placed as Container}
use Rattle.ynl_model.specs.declared.nodes.Node.{Node}
use Rattle.ynl_laws.specs.Working.{EachFound, Numbered, Ordered, clock_in, has_row, on_in}
use Rattle.ynl_laws.proofs.Events.Kept.{by-row}
use Rattle.ynl_laws.proofs.Lists.{Each-weaker, Each-with, keyed-update}
use Rattle.ynl_laws.proofs.Names.{same-label_path}
use Rattle.ynl_laws.proofs.Soundness.Ordered.{EitherWay, either-way, ticked, with_both}
use Rattle.ynl_saved.proofs.Rows.{map-agree}

-- where containers change and no clock does, the clock is set to what it shows
pub ticked-same : (label : Label) (change : List Container → List Container) (rows : List Partition) → EachFound rows →
    in_partition label (λ row. record row { containers = change row.containers }) rows ≡ ticked label (clock_in rows label) change rows
ticked-same label change rows h = map-agree _ _ rows (Each-weaker (λ row. find (is_partition row.label) rows ≡ Some row) _ (λ row e. go row e (same_label row.label label) refl) rows h)
  where
    go : (row : Partition) → find (is_partition row.label) rows ≡ Some row → (b : Bool) → same_label row.label label ≡ b →
        cond b (record row { containers = change row.containers }) row ≡ cond b (with_both (clock_in rows label) change row) row
    go row e true at =
        let shown : row.clock ≡ clock_in rows label = sym (ap (λ o. option_map_or (λ (row : Partition). row.clock) o 0) e) ∙ ap (clock_in rows) (same-label_path row.label label at) in
        λ i. record { label = row.label; clock = shown i; containers = change row.containers }
    go row e false at = refl

-- a partition with another clock, within its limit and no earlier than the stamps of its nodes, and with containers of lower ids
pub ordered-ticked : (c : Config) (nodes : List Node) (rows : List Partition) (label : Label) (new : ℕ) (change : List Container → List Container) → Ordered c nodes rows →
    new ≤ clock_limit c.labels label →
    AllByRecursion (λ (node : Node). label ≡ node.label → node.stamp ≤ new) nodes → Numbered label new (change (on_in rows label)) → Ordered c nodes (ticked label new change rows)
ordered-ticked c nodes rows label new change h within stamps numbered = record {
  there = λ p known. row-stays p ∙ h.there p known;
  clocks = λ p. clocks p (either-way label p new change rows);
  stamps = Each-with (λ (node : Node). (has_row rows node.label ≡ true) × (node.stamp ≤ clock_in rows node.label)) (λ (node : Node). label ≡ node.label → node.stamp ≤ new) _
      (λ node k early. (row-stays node.label ∙ k.0, stamp node k.1 early (either-way label node.label new change rows))) nodes h.stamps stamps;
  ids = λ p. ids p (either-way label p new change rows);
  found = keyed-update same_label (λ (row : Partition). row.label) (is_partition label) (with_both new change) (λ row. refl) rows h.found;
}
  where
    row-stays : (p : Label) → has_row (ticked label new change rows) p ≡ has_row rows p
    row-stays p = by-row (λ a b. b ≡ a) (λ row. true) false label p (with_both new change) (λ row. refl) rows (λ row is at. refl) refl

    clocks : (p : Label) → EitherWay label p new change rows → clock_in (ticked label new change rows) p ≤ clock_limit c.labels p
    clocks p (inl same) = subst (λ n. n ≤ clock_limit c.labels p) (sym same.0) (h.clocks p)
    clocks p (inr here) = subst (λ n. n ≤ clock_limit c.labels p) (sym here.1) (subst (λ l. new ≤ clock_limit c.labels l) here.0 within)

    stamp : (node : Node) → node.stamp ≤ clock_in rows node.label → (label ≡ node.label → node.stamp ≤ new) → EitherWay label node.label new change rows →
        node.stamp ≤ clock_in (ticked label new change rows) node.label
    stamp node old early (inl same) = subst (λ n. node.stamp ≤ n) (sym same.0) old
    stamp node old early (inr here) = subst (λ n. node.stamp ≤ n) (sym here.1) (early here.0)

    ids : (p : Label) → EitherWay label p new change rows → Numbered p (clock_in (ticked label new change rows) p) (on_in (ticked label new change rows) p)
    ids p (inl same) = subst (λ n. Numbered p n (on_in (ticked label new change rows) p)) (sym same.0) (subst (Numbered p (clock_in rows p)) (sym same.1) (h.ids p))
    ids p (inr here) = subst (λ n. Numbered p n (on_in (ticked label new change rows) p)) (sym here.1)
        (subst (Numbered p new) (sym here.2) (subst (λ l. Numbered l new (change (on_in rows l))) here.0 numbered))
