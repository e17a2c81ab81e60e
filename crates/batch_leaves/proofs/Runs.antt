-- The queries of a batch, as parts of their run: each is one that the tables may be searched for.
use Prim.Native.Nat.{ℕ, suc, ◌+◌, ◌*◌, ◌≤◌, ◌<◌}
use mathlib.Core.Path.{◌≡◌}
use mathlib.Core.List.{List}
use native.Mathlib.Nat.{mul-le-mul_right}
use native.Mathlib.Omega.{arith}
use lib.IntN.{ℤ}
use lib.ListN.{length}
use Rattle.dstree.specs.Measures.{work_needed}
use Rattle.dstree.specs.Matching.{leaves}
use Rattle.tables.specs.Tables.{Tables, measures_of, node_count}
use Rattle.tables.specs.View.{tree_in}
use Rattle.tables.proofs.Parts.{trace_length}
use Rattle.search.specs.Searched.{Ready}
use Rattle.search.proofs.Facts.{capacity_fits, nodes_needed}
use Rattle.batch_leaves.specs.LeavesRead.{Searchable, query_at}

pub query_room : (i many n : ℕ) (run : List ℤ) → i < many → length run ≡ n * many → i * n + n ≤ length run
query_room i many n run h e = let room : suc i * n ≤ many * n = mul-le-mul_right n h in omega (arith, room, e)

pub ready_for : (t : Tables) (run : List ℤ) (many : ℕ) → Searchable t run many → (i : ℕ) → i < many
    → Ready t (query_at t run i) (length (leaves (tree_in t)))
ready_for t run many s i h = record {
  formed = s.formed;
  long = s.long;
  some_trace = s.some_trace;
  same_length = trace_length run (measures_of t).n i (query_room i many (measures_of t).n run h s.run_long);
  trail_long = omega arith;
}

-- a number of a node has room for its mark
pub nodes_few : (t : Tables) (run : List ℤ) (many : ℕ) → Searchable t run many → node_count t ≤ 8191
unfolding work_needed
nodes_few t run many s =
    let r = ready_for t run many s 0 (omega (arith, s.some_query)) in
    omega (
      arith,
      nodes_needed t (query_at t run 0) (length (leaves (tree_in t))) r,
      capacity_fits t (query_at t run 0) (length (leaves (tree_in t))) r,
    )
