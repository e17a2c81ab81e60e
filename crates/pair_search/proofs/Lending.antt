-- The first places of search work are lent, one for each node; behind the search the needed ones are set to zero.
use Prim.Native.Nat.{ℕ, ◌≤◌}
use mathlib.Core.Path.{◌≡◌, ◌∙◌, ap, subst}
use mathlib.Core.List.{List, ◌++◌}
use native.Mathlib.Omega.{arith}
use lib.ListN.{length, take, drop, replicate}
use lib.Seq.{length-take-le, drop_at}
use Rattle.integer.proofs.Lists.{drop_more}
use Rattle.dstree.specs.Measures.{Trace, work_needed}
use Rattle.tables.specs.Tables.{Tables, measures_of, node_count, filled}
use Rattle.pair_search.specs.BothSearched.{SideReady}
use Rattle.pair_search.proofs.Taken.{places_needed}

module _ (t : Tables) (query : Trace) (trail : ℕ) (r : SideReady t query trail) (work : List ℕ) where
  module _ (room : work_needed (measures_of t) ≤ length work) (count : ℕ) (count_is : count ≡ node_count t) where
    pub count_fits : count ≤ length work
    count_fits = omega (arith, count_is, places_needed t query trail r, room)

    pub lent_long : length (take count work) ≡ node_count t
    lent_long = length-take-le count work count_fits ∙ count_is

    -- the places behind the part are as they were
    pub behind_part : (part : List ℕ) → length part ≡ length (take count work)
        → drop (node_count t) (part ++ drop count work) ≡ drop (node_count t) work
    behind_part part size =
        subst (λ (n : ℕ). drop n (part ++ drop count work) ≡ drop n work) count_is
        (drop_at part (drop count work) count (size ∙ length-take-le count work count_fits))

  pub all_zeroed : (work₁ work' : List ℕ) → drop (node_count t) work₁ ≡ drop (node_count t) work
      → work' ≡ filled (work_needed (measures_of t)) 0 work₁ → work' ≡ filled (work_needed (measures_of t)) 0 work
  all_zeroed work₁ work' behind z =
      let n = work_needed (measures_of t) in
      z ∙ ap (λ (l : List ℕ). replicate n 0 ++ l) (drop_more n (node_count t) work₁ work (places_needed t query trail r) behind)
