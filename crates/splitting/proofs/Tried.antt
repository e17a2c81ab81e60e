-- A node that is tried: an inner node and a short leaf stay, and a longer leaf splits by its best candidate, if there is one.
use Rattle.std.specs.Prelude.{if◌then◌else◌}
use mathlib.Core.Path.{◌≡◌, refl, ap, ◌∙◌}
use mathlib.Core.Bool.{true, false}
use mathlib.Core.Option.{Option}
use mathlib.Core.List.{List}
use Prim.Native.Nat.{ℕ, zero, suc}
use native.Mathlib.Omega.{arith}
use lib.IntN.{ℤ}
use lib.ListN.{length}
use lib.Dec.{ltb}
use borrow.Author.Tests.{le-ltb}
use Rattle.dstree.specs.Measures.{Trace}
use Rattle.dstree.specs.Node.{ends}
use Rattle.dstree.specs.Adding.{Split, best}
use Rattle.tables.specs.Layout.{kind_place, first_place}
use Rattle.tables.specs.Tables.{record_of}
use Rattle.tables.specs.View.{small_at, segments_in, kind_in}
use Rattle.tables.specs.Walk.{numbers_of}
use Rattle.insertion_memory.specs.Memory.{TreeTables, tree_tables, split_to, split_leaf, split_node}

module _ (leaf_size : ℕ) (traces : List Trace) (nodes : List ℤ) (links : List ℕ) (count at : ℕ) where
  abbrev h : TreeTables
  h = tree_tables nodes links count

  abbrev r : List ℤ
  r = record_of nodes at

  inner_stays : (v k : ℕ) → (v ≡ 0 → ⊥) → split_leaf leaf_size traces h at (kind_in links k r v) ≡ h
  unfolding split_leaf kind_in
  inner_stays zero k f = absurd (f refl)
  inner_stays (suc zero) k f = refl
  inner_stays (suc (suc zero)) k f = refl
  inner_stays (suc (suc (suc v))) k f = rw (le-ltb leaf_size 0 (omega arith))

  pub split_inner : (small_at r kind_place ≡ 0 → ⊥) → split_node leaf_size traces h at ≡ h
  unfolding split_node
  split_inner f = inner_stays (small_at r kind_place) (length traces) f

  module _ (k : ℕ) (size : length traces ≡ k) (is : small_at r kind_place ≡ 0) where
    abbrev numbers : List ℕ
    numbers = numbers_of links k (small_at r first_place)

    as_leaf : split_node leaf_size traces h at ≡ (if ltb leaf_size (length numbers) then split_to traces h at (best traces (ends (segments_in r)) numbers) else h)
    unfolding split_node split_leaf kind_in
    as_leaf = ap (λ (j : ℕ). split_leaf leaf_size traces h at (kind_in links j r (small_at r kind_place))) size ∙ ap (λ (v : ℕ). split_leaf leaf_size traces h at (kind_in links k r v)) is

    pub short_stays : ltb leaf_size (length numbers) ≡ false → split_node leaf_size traces h at ≡ h
    short_stays e = as_leaf ∙ rw e

    pub long_splits : ltb leaf_size (length numbers) ≡ true → (o : Option Split) → best traces (ends (segments_in r)) numbers ≡ o → split_node leaf_size traces h at ≡ split_to traces h at o
    long_splits e o q = as_leaf ∙ rw (e, q)
