-- The two ways that exporting ends, as the definition has them: a refusal with everything as it was, and the recording.
use Prim.Native.Nat.{ℕ}
use mathlib.Core.Path.{◌≡◌, refl, sym, ap, ap₂, ◌∙◌}
use mathlib.Core.Option.{none}
use mathlib.Core.List.{List, [], ◌∷◌}
use native.Mathlib.Omega.{arith}
use lib.ListN.{length, take, drop, get_or}
use lib.Seq.{take_at}
use Rattle.dstree.specs.Measures.{Trace}
use Rattle.dstree.specs.Refusals.{first_of}
use Rattle.dstree.specs.Recording.{recording_size, recording_of}
use Rattle.dstree.specs.Book.{exporting, beside_of, exported, over}
use Rattle.dstree.proofs.Recordings.{recording_length}
use Rattle.tables.specs.Tables.{Tables, measures_of}
use Rattle.tables.specs.View.{trace_in, traces_in}
use Rattle.tables.specs.Answers.{found_by}
use Rattle.tables.specs.declared.Refusal.{Refusal}
use Rattle.std.specs.Prelude.{Ok, Err}
use Rattle.tables.proofs.Views.{trace_at}
use Rattle.tables.proofs.Parts.{trace_length}
use Rattle.calls.specs.Outcome.{outcome}
use Rattle.calls.specs.Effects.{exports, effect_of, outcome_on}
use Rattle.calls.proofs.Ends.{ends_refused, ends_done}
use Rattle.exporting.specs.Answered.{answer_by}
use Rattle.exporting.proofs.Exportable.{Exportable, exportable}

module _ (t : Tables) (number rate : ℕ) (buffer : List ℕ) where
  pub refused_answer : (why : Refusal) → first_of (exports t number rate buffer).conditions ≡ found_by (Err why)
      → outcome (answer_by (Err why) buffer) t (buffer ∷ []) ≡ outcome_on (exporting number rate buffer) t
  unfolding answer_by outcome_on effect_of beside_of
  refused_answer why q = ends_refused t (buffer ∷ []) (exports t number rate buffer) why q

  abbrev n : ℕ
  n = (measures_of t).n

  -- the trace as code finds it
  abbrev trace : Trace
  trace = trace_in t.samples n number

  abbrev bytes : List ℕ
  bytes = recording_of rate trace

  module _ (nothing : first_of (exports t number rate buffer).conditions ≡ none) where
    abbrev ok : Exportable t number rate (length buffer)
    ok = exportable t number rate buffer nothing

    bytes_length : length bytes ≡ recording_size n
    bytes_length = omega (arith, recording_length rate trace, trace_length t.samples n number ok.inside)

    bytes_are : bytes ≡ recording_of rate (get_or (traces_in t) number [])
    bytes_are = ap (recording_of rate) (sym (trace_at t number ok.numbered))

    pub exported_answer : (buffer' : List ℕ) (size : ℕ) → size ≡ recording_size n → buffer' ≡ over bytes buffer
        → outcome (answer_by (Ok size) buffer') t (buffer' ∷ []) ≡ outcome_on (exporting number rate buffer) t
    unfolding answer_by outcome_on effect_of beside_of exports
    exported_answer buffer' size size_is filled =
        ends_done t (buffer ∷ []) (exports t number rate buffer) (exported size (take size buffer')) t (buffer' ∷ []) nothing
        (ap₂ exported size_is (begin ∙ bytes_are)) refl
        (ap (λ (l : List ℕ). l ∷ []) (filled ∙ ap (λ (l : List ℕ). over l buffer) bytes_are))
      where
        begin : take size buffer' ≡ bytes
        begin = ap₂ take size_is filled ∙ take_at bytes (drop (length bytes) buffer) (recording_size n) bytes_length
