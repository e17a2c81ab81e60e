-- A node's children and trace numbers by its kind field.
use Prim.Native.Nat.{ℕ, suc, ◌≤◌}
use mathlib.Core.Path.{◌≡◌, refl}
use mathlib.Core.Bool.{true}
use mathlib.Core.List.{List, [], ◌∷◌}
use lib.IntN.{ℤ}
use Rattle.dstree.specs.Node.{leaf}
use Rattle.dstree.specs.Matching.{numbers_in}
use Rattle.dstree.specs.WellFormed.{children_of, leaf_fits}
use Rattle.tables.specs.Layout.{kind_place, first_place, right_place}
use Rattle.tables.specs.Tables.{record_of}
use Rattle.tables.specs.View.{small_at, numbers_from, kind_in}
use Rattle.records_fit.proofs.Heads.{kind_inner}
use Rattle.numbers_fit.specs.Tests.{children_at, kind_at, leaf_fits_at, numbers_at}

module _ (nodes : List ℤ) (j : ℕ) where
  abbrev r : List ℤ
  r = record_of nodes j

  pub no_child : small_at r kind_place ≡ 0 → children_at nodes j ≡ []
  unfolding kind_in children_of
  no_child e = rw e

  pub two_children : (small_at r kind_place ≡ 0 → ⊥) → small_at r kind_place ≤ 2 → children_at nodes j ≡ small_at r first_place ∷ (small_at r right_place ∷ [])
  unfolding children_of
  two_children f h = rw (kind_inner [] 0 r (small_at r kind_place) f h)

  module _ (links : List ℕ) (k : ℕ) where
    pub is_leaf : small_at r kind_place ≡ 0 → kind_at nodes links k j ≡ leaf (numbers_from links (suc k) (small_at r first_place))
    unfolding kind_in
    is_leaf e = rw e

    module _ (f : small_at r kind_place ≡ 0 → ⊥) (h : small_at r kind_place ≤ 2) where
      pub no_number : numbers_at nodes links k j ≡ []
      unfolding numbers_in
      no_number = rw (kind_inner links k r (small_at r kind_place) f h)

      pub inner_fits : leaf_fits_at nodes links k j ≡ true
      unfolding leaf_fits
      inner_fits = rw (kind_inner links k r (small_at r kind_place) f h)

pub leaf_numbers : (l : List ℕ) → numbers_in (leaf l) ≡ l
unfolding numbers_in
leaf_numbers l = refl
