-- The nearest traces so far, in the caller's list: records of two places, trace number and distance, from the first place on.
use Rattle.std.specs.Prelude.{ℕ, ◌+◌, ◌*◌, ◌-◌, ◌^◌, ◌≤◌, ◌≡◌, List, map, length, get_or, drop, ltb, if◌then◌else◌, Option, Some, None}
use Rattle.integer.specs.Words.{counting}
use Rattle.integer.specs.Sorting.{Ordered}
use Rattle.dstree.specs.Matching.{Near, is_nearer}
use Rattle.reading.specs.Nearest.{near}

-- record i
abbrev pub record_at : List ℕ → ℕ → Near
record_at list i = near (get_or list (2 * i) 0) (get_or list (2 * i + 1) 0)

-- the first m records
unfoldable pub nears_in : ℕ → List ℕ → List Near
nears_in m list = map (record_at list) (counting m 0)

-- the k-th record's distance, if so many are listed
unfoldable pub kth_distance : ℕ → ℕ → List ℕ → Option ℕ
kth_distance k many list = if ltb many k then None else Some (record_at list (k - 1)).distance

-- no distance of 256 samples passes this
abbrev pub no_limit : ℕ
no_limit = 2 ^ 49

-- the distance beyond which a trace has no place, with so many listed: the k-th record's. While fewer than k are listed there is none
unfoldable pub limit_of : ℕ → ℕ → List ℕ → ℕ
limit_of k many list = if ltb many k then no_limit else (record_at list (k - 1)).distance

-- a list with room for k records, of which so many are filled, "by distance, then number"
pub record ListRoom (k many : ℕ) (list : List ℕ) : Type 0 where
  pub some_record : 1 ≤ k
  pub few : many ≤ k
  pub long : 2 * k ≤ length list
  pub ordered : Ordered is_nearer (nears_in many list)

-- a list whose first records are these, no more than k: "List places past those filled keep their contents"
pub record ListBegins (k many : ℕ) (nears : List Near) (list list' : List ℕ) : Type 0 where
  pub nears_are : nears_in many list' ≡ nears
  pub few : many ≤ k
  pub rest : drop (2 * many) list' ≡ drop (2 * many) list
