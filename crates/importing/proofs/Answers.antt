-- What is answered, by the first condition that holds; and what it says that so many traces are the answer.
use Prim.Native.Nat.{ℕ, ◌+◌, ◌-◌, ◌≤◌, ◌<◌}
use mathlib.Core.Path.{◌≡◌, refl, sym, ap, ◌∙◌}
use mathlib.Core.Option.{Option, none, some}
use mathlib.Core.List.{List, []}
use native.Mathlib.Omega.{arith}
use lib.ListN.{length}
use borrow.Author.Tests.{lt-ltb, le-ltb}
use Rattle.dstree.specs.Measures.{Measures}
use Rattle.dstree.specs.Refusals.{Refusal, first_of, full, bad_recording}
use Rattle.dstree.specs.Recording.{Recording, judge_recording, is_bad_file, file_traces}
use Rattle.dstree.specs.Book.{importing, beside_of, imported, refusing, answering}
use Rattle.tables.specs.Tables.{Tables, measures_of}
use Rattle.recording.specs.FileTraces.{traces_recorded}
use Rattle.calls.specs.Outcome.{unless_refused}
use Rattle.calls.specs.Effects.{imports, effect_of, outcome_on}
use Rattle.importing.specs.Answered.{count_unless, file_answer}

-- ---- of a file

module _ (m : Measures) (stored : ℕ) where
  pub bad_answer : (file : Option Recording) → none ≡ traces_recorded file → refusing bad_recording ≡ file_answer m stored file
  unfolding traces_recorded count_unless first_of is_bad_file
  bad_answer none e = refl
  bad_answer (some r) e = let z : ◌≡◌ {A = ℕ} 0 1 = cc in absurd (omega arith)

  module _ (fits : stored ≤ m.capacity) (count : ℕ) where
    pub full_answer : (file : Option Recording) → some count ≡ traces_recorded file → m.capacity - stored < count
        → refusing full ≡ file_answer m stored file
    unfolding traces_recorded count_unless first_of is_bad_file file_traces
    full_answer none e less = let z : ◌≡◌ {A = ℕ} 0 1 = cc in absurd (omega arith)
    full_answer (some r) e less =
        let k : count ≡ length r.traces = cc in
        rw (lt-ltb m.capacity (stored + length r.traces) (omega (arith, k, less, fits)))

    pub count_answer : (file : Option Recording) → some count ≡ traces_recorded file → count ≤ m.capacity - stored
        → answering (imported count) ≡ file_answer m stored file
    unfolding traces_recorded count_unless first_of is_bad_file file_traces
    count_answer none e room = let z : ◌≡◌ {A = ℕ} 0 1 = cc in absurd (omega arith)
    count_answer (some r) e room =
        let k : count ≡ length r.traces = cc in
        rw (le-ltb m.capacity (stored + length r.traces) (omega (arith, k, room, fits))) (ap (λ (i : ℕ). answering (imported i)) k)

-- ---- of a call

refused_by : (o : Option Refusal) (k : ℕ) (why : Refusal) → refusing why ≡ count_unless o k → o ≡ some why
unfolding count_unless
refused_by none k why e = let z : ◌≡◌ {A = ℕ} 0 1 = cc in absurd (omega arith)
refused_by (some w) k why e = cc

counted_by : (o : Option Refusal) (k count : ℕ) → answering (imported count) ≡ count_unless o k → (o ≡ none) × (count ≡ k)
unfolding count_unless
counted_by none k count e = (refl, cc)
counted_by (some w) k count e = let z : ◌≡◌ {A = ℕ} 0 1 = cc in absurd (omega arith)

module _ (t : Tables) (bytes : List ℕ) where
  -- how many traces the file has
  abbrev file_count : ℕ
  file_count = length (file_traces (judge_recording (measures_of t).n bytes))

  pub answer_is : count_unless (first_of (imports t bytes).conditions) file_count ≡ (outcome_on (importing bytes) t).answer
  unfolding outcome_on effect_of beside_of imports unless_refused count_unless
  answer_is = by (first_of (imports t bytes).conditions)
    where
      by : (o : Option Refusal) → count_unless o file_count ≡ (unless_refused o t [] (imports t bytes)).answer
      by none = refl
      by (some why) = refl

  pub refused_first : (why : Refusal) → refusing why ≡ (outcome_on (importing bytes) t).answer
      → first_of (imports t bytes).conditions ≡ some why
  refused_first why e = refused_by (first_of (imports t bytes).conditions) file_count why (e ∙ sym answer_is)

  pub counted : (count : ℕ) → answering (imported count) ≡ (outcome_on (importing bytes) t).answer
      → (first_of (imports t bytes).conditions ≡ none) × (count ≡ file_count)
  counted count e = counted_by (first_of (imports t bytes).conditions) file_count count (e ∙ sym answer_is)
