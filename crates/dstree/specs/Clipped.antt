-- Document 02, §13: "Sweeps with clipped samples. .. A query gives a low and a high figure per sample". The least and greatest possible
-- distance of one trace stand in `segment`. The tree is not needed.
use Rattle.std.specs.Prelude.{ℕ, ◌≤◌, ◌<◌, ◌≡◌, Bool, true, false, not, List, [], ◌∷◌, map, length, get_or, leb, ltb, eqb}
use Rattle.integer.specs.Words.{least, those, counting, is_in}
use Rattle.integer.specs.Lists.{Up}
use Rattle.segment.specs.Figures.{distance}
use Rattle.segment.specs.Clipped.{least_from, greatest_from, is_crossed, Inside, ClippedClaims}
use Rattle.dstree.specs.Measures.{Trace, are_samples}
use Rattle.dstree.specs.Node.{Tree}
use Rattle.dstree.specs.Matching.{least_distance, match_of}
use Rattle.dstree.specs.Refusals.{Condition, ◌refuses◌, wrong_trace, empty, short_trail, sample_range, crossed_range}

-- ---- the list

-- "the smallest greatest among all stored"
unfoldable pub smallest_greatest : List Trace → Trace → Trace → ℕ
smallest_greatest stored lows highs = least (map (greatest_from lows highs) stored)

-- "every trace whose least is no more than" that
unfoldable pub is_listed : List Trace → Trace → Trace → ℕ → Bool
is_listed stored lows highs trace = leb (least_from lows highs (get_or stored trace [])) (smallest_greatest stored lows highs)

-- "List, by number, and count"
pub record Possible : Type 0 where
  pub list : List ℕ
  pub count : ℕ

unfoldable pub possible_matches : List Trace → Trace → Trace → Possible
possible_matches stored lows highs =
    let list = those (is_listed stored lows highs) (counting (length stored) 0) in
    record { list = list; count = length list }

-- 4 and 15 of lows and highs alike; "19 crossed range, a low above its high, after 15; no trace stored is 6; a list shorter than the trace
-- count is 7". Of a library for traces of n samples with so many traces
abbrev pub clipped_conditions : ℕ → ℕ → Trace → Trace → List ℕ → List Condition
clipped_conditions n traces lows highs list =
    not (eqb (length lows) n) refuses wrong_trace
    ∷ not (eqb (length highs) n) refuses wrong_trace
    ∷ not (are_samples lows) refuses sample_range
    ∷ not (are_samples highs) refuses sample_range
    ∷ is_crossed lows highs refuses crossed_range
    ∷ eqb traces 0 refuses empty
    ∷ ltb (length list) traces refuses short_trail
    ∷ []

-- ---- what is claimed

-- of any stored traces, and any ranges
pub record ListedClaims (stored : List Trace) (lows highs : Trace) : Type 0 where
  -- "every trace whose least is no more than the smallest greatest", and no other
  pub listed_is : (trace : ℕ) → is_in trace (possible_matches stored lows highs).list ≡ true → (trace < length stored)
      × (least_from lows highs (get_or stored trace []) ≤ smallest_greatest stored lows highs)
  pub is_listed_lem : (trace : ℕ) → trace < length stored → least_from lows highs (get_or stored trace []) ≤ smallest_greatest stored lows highs
      → is_in trace (possible_matches stored lows highs).list ≡ true
  -- "by number", none twice
  pub by_number : Up 0 (possible_matches stored lows highs).list
  -- "and count"; a list as long as "the trace count" is enough
  pub counted : (possible_matches stored lows highs).count ≡ length (possible_matches stored lows highs).list
  pub no_more : (possible_matches stored lows highs).count ≤ length stored
  -- "Any trace that could be the match for some sweep inside the ranges is then listed": the nearest, equally near ones too
  pub nearest_listed : (sweep : Trace) → Inside lows highs sweep → (trace : ℕ) → trace < length stored
      → distance sweep (get_or stored trace []) ≡ least_distance stored sweep → is_in trace (possible_matches stored lows highs).list ≡ true
  -- .. and so the match itself, whatever the tree
  pub match_listed : (sweep : Trace) → Inside lows highs sweep → 0 < length stored → (tree : Tree)
      → is_in (match_of stored tree sweep).trace (possible_matches stored lows highs).list ≡ true
  -- "With low equal to high everywhere, it lists all traces at the match's distance"
  pub points : lows ≡ highs → (possible_matches stored lows highs).list
      ≡ those (λ trace. eqb (distance lows (get_or stored trace [])) (least_distance stored lows)) (counting (length stored) 0)

abbrev pub ListedAnywhere : Type 0
ListedAnywhere = (stored : List Trace) (lows highs : Trace) → ListedClaims stored lows highs

-- of n samples each and ranges that are not crossed: what least and greatest are, and one trace at least is listed
pub record PossibleClaims (stored : List Trace) (lows highs : Trace) : Type 0 where
  pub of_each : (trace : ℕ) → trace < length stored → ClippedClaims lows highs (get_or stored trace [])
  pub one_listed : 0 < length stored → 0 < (possible_matches stored lows highs).count

abbrev pub PossibleOfSizes : Type 0
PossibleOfSizes = (n : ℕ) (stored : List Trace) → ((t : ℕ) → t < length stored → length (get_or stored t []) ≡ n) → (lows highs : Trace)
    → length lows ≡ n → length highs ≡ n → is_crossed lows highs ≡ false → PossibleClaims stored lows highs
