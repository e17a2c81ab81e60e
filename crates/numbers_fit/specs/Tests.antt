-- The rules of "Well-formed tables" on the numbers in records and links: children and trace numbers, over the nodes in use.
use Rattle.std.specs.Prelude.{ℕ, ◌-◌, Bool, ◌&&◌, ℤ, get_or, ltb, eqb, if◌then◌else◌}
use mathlib.Core.List.{List, [], ◌∷◌, map, flatten}
use Rattle.integer.specs.Words.{every, counting, times_in}
use Rattle.dstree.specs.Node.{Kind}
use Rattle.dstree.specs.Matching.{numbers_in}
use Rattle.dstree.specs.WellFormed.{children_of, leaf_fits}
use Rattle.tables.specs.Layout.{kind_place, first_place}
use Rattle.tables.specs.Tables.{record_of}
use Rattle.tables.specs.View.{small_at, kind_in}
use Rattle.records_fit.specs.Fits.{kind_alone}

-- ---- children

abbrev pub children_at : List ℤ → ℕ → List ℕ
children_at nodes j = children_of (kind_alone (record_of nodes j))

-- the children of the first m nodes
abbrev pub children_of_first : List ℤ → ℕ → List ℕ
children_of_first nodes m = flatten (map (children_at nodes) (counting m 0))

-- "every node but 0 a child once"
unfoldable pub children_once : ℕ → List ℤ → Bool
children_once m nodes = every (λ number. eqb (times_in number (children_of_first nodes m)) 1) (counting (m - 1) 1)

-- ---- leaves

abbrev pub kind_at : List ℤ → List ℕ → ℕ → ℕ → Kind
kind_at nodes links k j = kind_in links k (record_of nodes j) (small_at (record_of nodes j) kind_place)

abbrev pub leaf_fits_at : List ℤ → List ℕ → ℕ → ℕ → Bool
leaf_fits_at nodes links k j = leaf_fits (kind_at nodes links k j)

abbrev pub numbers_at : List ℤ → List ℕ → ℕ → ℕ → List ℕ
numbers_at nodes links k j = numbers_in (kind_at nodes links k j)

-- the trace numbers of the first m nodes
abbrev pub numbers_of_first : List ℤ → List ℕ → ℕ → ℕ → List ℕ
numbers_of_first nodes links k m = flatten (map (numbers_at nodes links k) (counting m 0))

-- the first trace number of a leaf
abbrev pub first_at : List ℤ → ℕ → List ℕ
first_at nodes j = if eqb (small_at (record_of nodes j) kind_place) 0 then small_at (record_of nodes j) first_place ∷ [] else []

-- those of the first m nodes
abbrev pub firsts_of : List ℤ → ℕ → List ℕ
firsts_of nodes m = flatten (map (first_at nodes) (counting m 0))

-- a number, if it is not 0
abbrev pub not_zero : ℕ → List ℕ
not_zero x = if eqb x 0 then [] else x ∷ []

-- the link of trace i, if it is one
abbrev pub link_at : List ℕ → ℕ → List ℕ
link_at links i = not_zero (get_or links i 0)

-- those of the first k traces
abbrev pub links_of : List ℕ → ℕ → List ℕ
links_of links k = flatten (map (link_at links) (counting k 0))

-- "every trace number in one leaf, rising there, no leaf empty"
unfoldable pub leaves_hold : ℕ → List ℤ → ℕ → List ℕ → Bool
leaves_hold m nodes k links =
    every (leaf_fits_at nodes links k) (counting m 0)
    && (every (λ number. eqb (times_in number (numbers_of_first nodes links k m)) 1) (counting k 0)
    && every (λ number. ltb number k) (numbers_of_first nodes links k m))

-- ---- marks

-- so many numbers from `first` on are each marked once
abbrev pub marked_once : List ℕ → ℕ → ℕ → Bool
marked_once marks first count = every (λ number. eqb (get_or marks number 0) 1) (counting count first)
