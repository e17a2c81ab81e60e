-- A side of a list, number by number, and an array that it is written to.
use Rattle.std.specs.Prelude.{if◌then◌else◌}
use mathlib.Core.Path.{◌≡◌, refl, sym, ap, ◌∙◌}
use mathlib.Core.Bool.{Bool, true, false, beq}
use mathlib.Core.List.{List, [], ◌∷◌, ◌++◌, append_assoc}
use Prim.Native.Nat.{ℕ, suc, ◌+◌, ◌≤◌, ◌<◌}
use native.Mathlib.Omega.{arith}
use lib.IntN.{ℤ}
use lib.ListN.{length, get_or, set, take}
use mir.Val.{bool_byte}
use lib.Seq.{take-suc-set, take-set-le}
use Rattle.integer.specs.Words.{those}
use Rattle.integer.proofs.Lists.{In, map_agree, those_agree, from_those}
use Rattle.dstree.specs.Measures.{Trace}
use Rattle.dstree.specs.Node.{Test, sends_left}
use Rattle.dstree.specs.Adding.{traces_of}
use Rattle.tables.specs.View.{trace_in}
use Rattle.tables.specs.Walk.{stored_in}
use Rattle.tables.proofs.Listed.{stored_at}
use Rattle.leaf_figures.specs.Listed.{traces_at}
use Rattle.leaf_figures.specs.Rows.{HasRows, HasViewedRows}
use Rattle.leaf_figures.specs.declared.listed.Listed.{Listed}
use Rattle.leaf_figures.specs.declared.table.ColumnView.{ColumnView}
use Rattle.leaf_figures.specs.declared.table.Table.{Table}
use Rattle.candidate.specs.Siding.{on_side, side_of}

-- one number more, if it is on the side
abbrev pub with_one : Bool → ℕ → List ℕ → List ℕ
with_one b t rest = if b then t ∷ rest else rest

module _ (samples : List ℤ) (n : ℕ) (test : Test) (left : Bool) where
  pub side_more : (t : ℕ) (rest : List ℕ) → side_of samples n test left (t ∷ rest) ≡ with_one (on_side left (sends_left test (trace_in samples n t))) t (side_of samples n test left rest)
  unfolding those
  side_more t rest = refl

  pub side_none : side_of samples n test left [] ≡ []
  unfolding those
  side_none = refl

-- a trace is on a side if the side's mark and the test's are the same
pub on_same : (left goes : Bool) → beq left goes ≡ on_side left goes
on_same true true = refl
on_same true false = refl
on_same false true = refl
on_same false false = refl

pub listed_more : (order : List ℕ) (count t : ℕ) (b : Bool) (rest : List ℕ) → count < length order
    → take (if b then suc count else count) (set order count t) ++ rest ≡ take count order ++ with_one b t rest
listed_more order count t true rest h = rw (take-suc-set order count t h) (append_assoc (take count order) (t ∷ []) rest)
listed_more order count t false rest h = rw (take-set-le count order count t (omega arith))

pub counted_most : (b : Bool) (count : ℕ) → (if b then suc count else count) ≤ suc count
counted_most true count = omega arith
counted_most false count = omega arith

-- one more, if the test says so
pub counted_is : (b : Bool) (count : ℕ) → count + bool_byte b ≡ (if b then suc count else count)
counted_is true count = omega arith
counted_is false count = omega arith

-- ---- a side's traces and figures

module _ (samples : List ℤ) (n k : ℕ) (numbers : List ℕ) (below : (t : ℕ) → In t numbers → t < k) where
  pub list_traces : traces_at samples n numbers ≡ traces_of (stored_in samples n k) numbers
  list_traces = map_agree (trace_in samples n) (λ (t : ℕ). get_or (stored_in samples n k) t []) numbers (λ t i. sym (stored_at samples n k t (below t i)))

  abbrev on : Test → Bool → ℕ → Bool
  on test left t = on_side left (sends_left test (get_or (stored_in samples n k) t []))

  side_same : (test : Test) (left : Bool) → side_of samples n test left numbers ≡ those (on test left) numbers
  side_same test left = those_agree (λ t. on_side left (sends_left test (trace_in samples n t))) (on test left) numbers
      (λ t i. ap (λ (x : Trace). on_side left (sends_left test x)) (sym (stored_at samples n k t (below t i))))

  pub side_traces : (test : Test) (left : Bool) → traces_at samples n (side_of samples n test left numbers) ≡ traces_of (stored_in samples n k) (those (on test left) numbers)
  side_traces test left =
      ap (traces_at samples n) (side_same test left)
      ∙ map_agree (trace_in samples n) (λ (t : ℕ). get_or (stored_in samples n k) t []) (those (on test left) numbers)
      (λ t i. sym (stored_at samples n k t (below t (from_those (on test left) numbers i).0)))

pub side_in : (samples : List ℤ) (n : ℕ) (test : Test) (left : Bool) (numbers : List ℕ) {t : ℕ} → In t (side_of samples n test left numbers) → In t numbers
side_in samples n test left numbers i = (from_those (λ (u : ℕ). on_side left (sends_left test (trace_in samples n u))) numbers i).0

-- a table's rows serve some of its traces
pub rows_among : (l m : Listed) (table : Table) → m.samples.now ≡ l.samples.now → m.n ≡ l.n → ((t : ℕ) → In t m.list.now → In t l.list.now) → HasRows l table → HasRows m table
rows_among l m table samples n among h = record {
  places = h.places;
  rows = λ f on some.
      let r = h.rows f on some in record {
        placed = λ t i. r.placed t (among t i);
        kept = λ t i. rw (samples, n) (r.kept t (among t i));
      };
}

-- the rows in lent columns serve some of their traces
pub viewed_rows_among : (l m : Listed) (place : List ℕ) (columns : List ColumnView) → m.samples.now ≡ l.samples.now → m.n ≡ l.n → ((t : ℕ) → In t m.list.now → In t l.list.now)
    → HasViewedRows l place columns → HasViewedRows m place columns
viewed_rows_among l m place columns samples n among h = record {
  rows = λ f c on at has.
      let r = h.rows f c on at has in record {
        placed = λ t i. r.placed t (among t i);
        kept = λ t i. rw (samples, n) (r.kept t (among t i));
      };
}
