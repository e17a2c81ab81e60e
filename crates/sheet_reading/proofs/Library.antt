-- What a sheet that is not refused holds is a library, and so are its first traces.
use mathlib.Core.Path.{◌≡◌, sym, ap, subst}
use mathlib.Core.Option.{none}
use mathlib.Core.List.{List, [], ◌++◌, foldl}
use Prim.Native.Nat.{ℕ, ◌≤◌, ◌<◌}
use native.Mathlib.Omega.{arith}
use lib.IntN.{ℤ}
use lib.ListN.{length, get_or, take, drop, take-append-drop}
use lib.Dec.{T}
use Rattle.integer.specs.Words.{every}
use Rattle.integer.proofs.Lists.{in_get_or, every_of}
use Rattle.dstree.specs.Measures.{Trace, Measures, sample_limit, is_trace, is_library}
use Rattle.dstree.specs.Refusals.{first_of}
use Rattle.dstree.specs.Sheet.{are_bytes, traces_in_blocks}
use Rattle.dstree.specs.SheetWidths.{sheet_conditions}
use Rattle.dstree.proofs.Laws.{trace_length}
use Rattle.dstree.proofs.RoundTrips.{is_library_lem}
use Rattle.dstree.proofs.SheetPieces.{pieces_length}
use Rattle.tables.specs.Tables.{Tables, tables, measures_of}
use Rattle.insertion_memory.specs.Memory.{added_to}
use Rattle.insertion_memory.proofs.Made.{Holds, count_is, room, is_trace_lem, shorter, holds_all}
use Rattle.insertion_memory.specs.Takes.{TakesAll}
use Rattle.sheet_blocks.specs.Traces.{size_of, count_of, sheet_traces, sheet_labels}
use Rattle.sheet_judging.proofs.Samples.{fine, range}
use Rattle.loading.specs.Loads.{Loads}
use Rattle.loading.specs.declared.Source.TheVariants as s
use Rattle.sheet_reading.proofs.Ends.{said, judged_holds}

pub traces_count : (bytes : List ℕ) → length (sheet_traces bytes) ≡ count_of bytes
unfolding traces_in_blocks
traces_count bytes = pieces_length (size_of bytes) (count_of bytes) _

module _ (bytes : List ℕ) (sound : first_of (sheet_conditions bytes) ≡ none) (known : T (are_bytes bytes)) where
  abbrev traces : List Trace
  traces = sheet_traces bytes

  whole : T (is_library sample_limit (said bytes) traces)
  whole = is_library_lem bytes (said bytes) traces (sheet_labels bytes) known (judged_holds bytes sound)

  two_parts : (i : ℕ) → T (is_library sample_limit (said bytes) (take i traces ++ drop i traces))
  two_parts i = subst (λ (l : List Trace). T (is_library sample_limit (said bytes) l)) (sym (take-append-drop i traces)) whole

  pub first_library : (i : ℕ) → T (is_library sample_limit (said bytes) (take i traces))
  first_library i = shorter (said bytes) (take i traces) (drop i traces) (two_parts i)

  -- each has n samples
  pub trace_size : (i : ℕ) → i < count_of bytes → length (get_or traces i []) ≡ (said bytes).n
  trace_size i h =
      let inside : i < length traces = omega (arith, traces_count bytes) in
      trace_length sample_limit (said bytes).n (get_or traces i [])
      (is_trace_lem sample_limit (said bytes) [] traces whole (in_get_or traces i [] inside))

  module _ (t : Tables) (empty : Holds t (said bytes) []) where
    -- the first traces, added to an empty library
    pub holds_first : (i : ℕ) → Holds (foldl added_to t (take i traces)) (said bytes) (take i traces)
    holds_first i = holds_all (said bytes) t [] (take i traces) empty (first_library i)

    -- it takes all of them
    takes_all : TakesAll t traces
    unfolding every
    takes_all =
        let n : (measures_of t).n ≡ (said bytes).n = ap (λ (m : Measures). m.n) empty.measures_are in
        record {
          formed = empty.formed;
          long = empty.long;
          room = omega (
            arith,
            count_is t,
            ap length empty.traces_are,
            room sample_limit (said bytes) [] traces whole,
            ap (λ (m : Measures). m.capacity) empty.measures_are,
          );
          stored = rw empty.traces_are tt;
          each = rw n (every_of (is_trace sample_limit (said bytes).n) traces (λ x i. is_trace_lem sample_limit (said bytes) [] traces whole i));
        }

  -- so many of the sheet's traces can be added to tables that hold an empty library with its measures
  pub loads : (control : List ℕ) (samples nodes : List ℤ) (links : List ℕ) → Holds (tables control samples nodes links []) (said bytes) []
      → (n count : ℕ) → n ≡ size_of bytes → count ≤ count_of bytes → Loads s.Sheet control samples nodes links bytes n count
  loads control samples nodes links empty n count size few = record {
    few = omega (arith, size, (range bytes (fine bytes sound)).n_high);
    counted = omega (arith, few, traces_count bytes);
    holds = λ number h. (sound, omega (arith, h, few), size);
    takes = takes_all (tables control samples nodes links []) empty;
  }
