-- What reading a leaf leaves of what one library keeps.
use Prim.Native.Nat.{ℕ, ◌+◌, ◌≤◌, ◌<◌}
use mathlib.Core.Path.{◌≡◌, refl, sym, ◌∙◌, ap, subst}
use Rattle.std.specs.Prelude.{None}
use mathlib.Core.List.{List, [], ◌∷◌, ◌++◌, map, foldl}
use native.Mathlib.Numerals.{add-one}
use native.Mathlib.Omega.{arith}
use lib.ListN.{length, take, set}
use lib.Seq.{drop-set-lt, take-suc-set}
use Rattle.integer.specs.Sorting.{Ordered}
use Rattle.integer.proofs.Sorting.{kept_ordered, kept_more}
use Rattle.dstree.specs.Measures.{Trace}
use Rattle.dstree.specs.Matching.{is_nearer}
use Rattle.dstree.specs.KNearest.{list_with}
use Rattle.dstree.proofs.Ranks.{linear}
use Rattle.tables.specs.Layout.{first_place}
use Rattle.tables.specs.Tables.{Tables, measures_of, trace_count, record_of}
use Rattle.tables.specs.View.{small_at}
use Rattle.tables.specs.Walk.{numbers_of}
use Rattle.reading.specs.Nearest.{near_of}
use Rattle.reading.specs.Listed.{nears_in, ListBegins}
use Rattle.reading.proofs.Records.{nears_length}
use Rattle.reading.proofs.Meaning.{LeafInTables, answer_is}
use Rattle.search.specs.Searched.{listing_by}
use Rattle.search.proofs.Facts.{leaves_few}
use Rattle.pair_search.specs.Reading.{found_in, MayRead, ReadAhead}
use Rattle.pair_search.specs.Sides.{next_of}
use Rattle.pair_search.specs.declared.sides.Side.{Side}

-- a side with one leaf more read
abbrev pub read_side : Side → ℕ → ℕ → Side
read_side side listed traces = record {
  ahead = None;
  listed = listed;
  out = side.out + 1;
  traces = side.traces + traces;
}

module _ (t : Tables) (query : Trace) (trail list : List ℕ) (side : Side) (may : MayRead t query trail list side) where
  pub out_few : side.out < 8192
  out_few = omega (arith, may.place, leaves_few t query (length trail) may.ready)

  pub trail_place : side.out < length trail
  trail_place = omega (arith, may.place, may.ready.trail_long)

  pub one_read : (at : LeafInTables t (next_of side).number) (n count head traces' many' : ℕ) (list' : List ℕ) → n ≡ (measures_of t).n
      → count ≡ trace_count t → head ≡ small_at (record_of t.nodes (next_of side).number) first_place
      → ListBegins 1 many'
      (foldl (list_with 1) (nears_in side.listed list) (map (near_of t.samples n query) (numbers_of t.links count head))) list list'
      → length list' ≡ length list → traces' ≡ length (numbers_of t.links count head) → traces' ≤ count
      → ReadAhead t query trail (set trail side.out (next_of side).number) list list' side (read_side side many' traces')
  one_read at n count head traces' many' list' n_is count_is head_is lists size counted most =
      let j : ℕ = (next_of side).number in
      let out : ℕ = side.out in
      let so_far = found_in side trail list in
      let met = map (near_of t.samples n query) (numbers_of t.links count head) in
      let noted : take (out + 1) (set trail out j) ≡ take out trail ++ (j ∷ []) = rw (add-one out) (take-suc-set trail out j trail_place) in
      record {
        found = ap (listing_by (nears_in many' list') (side.traces + traces')) noted
            ∙ sym (answer_is t j at query 1 so_far (nears_in many' list') traces' (rw (n_is, count_is, head_is) at lists.nears_are)
            (rw (count_is, head_is) at counted));
        none_ahead = refl;
        one_more = refl;
        trail_rest = drop-set-lt (out + 1) trail out j (omega arith);
        few = omega (arith, may.few, most, count_is, at.stored.few);
        room = record {
          some_record = omega arith;
          few = lists.few;
          long = omega (arith, may.room.long, size);
          ordered = subst (Ordered is_nearer) (sym lists.nears_are) (kept_ordered linear 1 met may.room.ordered);
        };
        no_fewer = omega (
          arith,
          kept_more is_nearer 1 (nears_in side.listed list) met (omega (arith, nears_length side.listed list, may.room.few)),
          nears_length side.listed list,
          nears_length many' list',
          ap length lists.nears_are,
        );
        list_rest = lists.rest;
      }
