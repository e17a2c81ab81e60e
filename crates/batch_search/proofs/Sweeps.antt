-- Query after query: what the first ones read, and what is found in the end.
use Prim.Native.Nat.{ℕ, zero, suc, ◌+◌, ◌*◌, ◌≤◌, ◌<◌}
use mathlib.Core.Path.{◌≡◌, refl, sym, ◌∙◌, ap, subst}
use mathlib.Core.Option.{some, some-injective}
use mathlib.Core.List.{List, [], ◌∷◌, ◌++◌, map, foldl, flatten, foldl-append}
use native.Mathlib.Numerals.{add-one}
use native.Mathlib.Nat.{le_antisymm}
use native.Mathlib.Omega.{arith}
use lib.IntN.{ℤ}
use lib.ListN.{length, get_or, take, drop, length-map, get_or-map}
use Rattle.integer.specs.Words.{counting, those, is_in}
use Rattle.integer.specs.Written.{Written}
use Rattle.integer.proofs.Lists.{In, in_get_or, those_agree, those_lengths, from_counting}
use Rattle.integer.proofs.Rows.{table_is}
use Rattle.segment.specs.Stored.{samples_of}
use Rattle.dstree.specs.Measures.{Trace, work_needed}
use Rattle.dstree.specs.Formed.{Shape}
use Rattle.dstree.specs.Matching.{Near, leaves}
use Rattle.dstree.specs.KNearest.{distances_among}
use Rattle.dstree.specs.Sheet.{pieces}
use Rattle.dstree.specs.Batch.{best_among, read_for, batch_read, near_or_zero, batch_by_steps}
use Rattle.dstree.proofs.SheetPieces.{pieces_length, pieces_at, pieces_more}
use Rattle.dstree.proofs.BatchSteps.{HasBest, has_best, batch_leaves, trail_counted}
use Rattle.tables.specs.Tables.{Tables, measures_of, node_count, filled}
use Rattle.tables.specs.View.{tree_in, trace_in, traces_in}
use Rattle.tables.proofs.Parts.{part_of_words}
use Rattle.tables.proofs.Views.{tree_size, traces_size, tree_formed}
use Rattle.reading.specs.Listed.{record_at, nears_in}
use Rattle.batch_leaves.specs.LeavesRead.{Searchable, query_at, queries_of, is_marked, marked_of, CountedOnce, best_by, BatchRoom, BestsAndMarks, Turns}
use Rattle.batch_search.specs.Batched.{batch, BatchSearched}
use Rattle.batch_leaves.proofs.Marks.{marked_no}

module _ (t : Tables) (run : List ℤ) (many : ℕ) where
  -- a query is its words' samples, or a piece of the run's
  piece_is : (i : ℕ) → query_at t run i ≡ take (measures_of t).n (drop (i * (measures_of t).n) (samples_of run))
  unfolding trace_in
  piece_is i = part_of_words (measures_of t).n (i * (measures_of t).n) run

  -- the leaves that the first i queries read
  abbrev read_by : ℕ → List ℕ
  read_by i = batch_read (traces_in t) (tree_in t) (queries_of t run i)

  read_none : read_by 0 ≡ []
  unfolding batch_read pieces
  read_none = refl

  read_more : (i : ℕ) → read_by (suc i) ≡ read_for (traces_in t) (tree_in t) (read_by i) (query_at t run i)
  unfolding batch_read
  read_more i =
      ap (foldl (read_for (traces_in t) (tree_in t)) [])
      (pieces_more (measures_of t).n i (samples_of run) ∙ ap (λ (x : Trace). queries_of t run i ++ (x ∷ [])) (sym (piece_is i)))
      ∙ foldl-append (read_for (traces_in t) (tree_in t)) [] (queries_of t run i) (query_at t run i ∷ [])

  -- ---- the loop over the queries

  pub record Sweeping (bests₀ marks₀ bests marks : List ℕ) (i leaves : ℕ) : Type 0 where
    pub inside : i ≤ many
    pub room : BatchRoom t many bests marks leaves
    pub bests_size : length bests ≡ length bests₀
    pub marks_size : length marks ≡ length marks₀
    pub keeps : BestsAndMarks t run many [] bests₀ marks₀ 0 → BestsAndMarks t run many (read_by i) bests marks leaves

  pub sweeping_start : (bests marks : List ℕ) → BatchRoom t many bests marks 0 → Sweeping bests marks bests marks 0 0
  sweeping_start bests marks room = record {
    inside = omega arith;
    room = room;
    bests_size = refl;
    marks_size = refl;
    keeps = λ k. subst (λ (l : List ℕ). BestsAndMarks t run many l bests marks 0) (sym read_none) k;
  }

  module _ {bests₀ marks₀ bests marks : List ℕ} {i leaves : ℕ} (s : Sweeping bests₀ marks₀ bests marks i leaves) where
    pub sweeping_next : i < many → (bests' marks' : List ℕ) (leaves' : ℕ)
        → Turns t run many (λ read. read_for (traces_in t) (tree_in t) read (query_at t run i)) bests marks leaves bests' marks' leaves'
        → CountedOnce t marks' leaves' → length bests' ≡ length bests → length marks' ≡ length marks
        → Sweeping bests₀ marks₀ bests' marks' (i + 1) leaves'
    sweeping_next h bests' marks' leaves' turn counted size_b size_m = record {
      inside = omega arith;
      room = record {
        bests_long = omega (arith, s.room.bests_long, size_b);
        marks_long = omega (arith, s.room.marks_long, size_m);
        counted = counted;
      };
      bests_size = size_b ∙ s.bests_size;
      marks_size = size_m ∙ s.marks_size;
      keeps = λ k.
          subst (λ (l : List ℕ). BestsAndMarks t run many l bests' marks' leaves') (sym (ap read_by (add-one i) ∙ read_more i))
          (turn (read_by i) (s.keeps k));
    }

    pub sweeping_end : many ≤ i → BestsAndMarks t run many [] bests₀ marks₀ 0 → BestsAndMarks t run many (read_by many) bests marks leaves
    sweeping_end h k =
        subst (λ (l : List ℕ). BestsAndMarks t run many l bests marks leaves) (ap read_by (le_antisymm s.inside h)) (s.keeps k)

  -- ---- before the first query

  pub keeps_none : (bests marks : List ℕ) → ((j : ℕ) → j < node_count t → get_or marks j 0 ≡ 0) → BestsAndMarks t run many [] bests marks 0
  unfolding best_among distances_among flatten is_in
  keeps_none bests marks h = record { best_is = λ i g. refl; mark_is = λ j g. marked_no marks j (h j g) }

  -- ---- in the end

  module _ (s : Searchable t run many) (bests marks : List ℕ) (out : ℕ) (k : BestsAndMarks t run many (read_by many) bests marks out) where
    abbrev read : List ℕ
    read = read_by many

    -- the marked nodes are the leaves read
    pub marked_are : marked_of marks (node_count t) ≡ those (λ number. is_in number read) (leaves (tree_in t))
    marked_are =
        those_agree (is_marked marks) (λ number. is_in number read) (counting (node_count t) 0)
        (λ j i. k.mark_is j (omega (arith, from_counting (node_count t) 0 i)))
        ∙ ap (λ (m : ℕ). those (λ number. is_in number read) (counting m 0)) (sym (tree_size t))
        ∙ trail_counted (tree_in t) read (batch_leaves (traces_in t) (tree_in t) (queries_of t run many))

    pub marked_few : length (marked_of marks (node_count t)) ≤ length (leaves (tree_in t))
    marked_few = omega (arith, ap length marked_are, those_lengths (λ number. is_in number read) (leaves (tree_in t)))

    shape : Shape (measures_of t).n (length (traces_in t)) (tree_in t)
    shape =
        subst (λ (m : ℕ). Shape (measures_of t).n m (tree_in t)) (sym (traces_size t)) (tree_formed t s.formed).shape

    query_at_lem : (j : ℕ) → j < many → get_or (queries_of t run many) j [] ≡ query_at t run j
    query_at_lem j h = pieces_at (measures_of t).n many (samples_of run) j h ∙ sym (piece_is j)

    in_queries : (j : ℕ) → j < many → In (query_at t run j) (queries_of t run many)
    in_queries j h =
        subst (λ (x : Trace). In x (queries_of t run many)) (query_at_lem j h)
        (in_get_or (queries_of t run many) j [] (omega (arith, pieces_length (measures_of t).n many (samples_of run))))

    answer : Trace → Near
    answer query = near_or_zero (best_among (traces_in t) (tree_in t) query read)

    -- a record that is known to hold a best holds it
    is_best : (out : ℕ) (a b : Near) → best_by out a ≡ some b → a ≡ b
    is_best zero a b e = let z : ◌≡◌ {A = ℕ} 0 1 = cc in absurd (omega arith)
    is_best (suc more) a b e = some-injective a b e

    record_is : (j : ℕ) → j < many → record_at bests j ≡ answer (query_at t run j)
    unfolding near_or_zero answer
    record_is j h =
        let b : HasBest (measures_of t).n (traces_in t) (tree_in t) shape (omega (arith, traces_size t, s.some_trace)) (queries_of t run many)
        (query_at t run j) =
        has_best (measures_of t).n (traces_in t) (tree_in t) shape (omega (arith, traces_size t, s.some_trace)) (queries_of t run many)
        (query_at t run j) (in_queries j h) in
        is_best out (record_at bests j) b.best (k.best_is j h ∙ b.is) ∙ ap near_or_zero (sym b.is)

    answers_are : nears_in many bests ≡ map answer (queries_of t run many)
    unfolding nears_in
    answers_are =
        let long : length (map answer (queries_of t run many)) ≡ many =
        length-map (queries_of t run many) answer ∙ pieces_length (measures_of t).n many (samples_of run) in
        table_is (record_at bests) (answer []) (map answer (queries_of t run many)) many (sym long)
        (λ j h.
        let g : j < many = omega (arith, h, long) in
        record_is j g ∙ ap answer (sym (query_at_lem j g)) ∙ sym (get_or-map answer (queries_of t run many) j []))

    pub batch_found : CountedOnce t marks out → (work work' trail trail' : List ℕ) → Written (marked_of marks (node_count t)) trail trail'
        → length (leaves (tree_in t)) ≤ length trail → work' ≡ filled (work_needed (measures_of t)) 0 work
        → BatchSearched t (samples_of run) many work work' trail trail' bests out
    unfolding batch_by_steps answer
    batch_found counted work work' trail trail' w room zeroed =
        let T = those (λ number. is_in number read) (leaves (tree_in t)) in
        let are : take out trail' ≡ T = ap (λ (m : ℕ). take m trail') counted.as_many ∙ w.are ∙ marked_are in
        let many_are : out ≡ length T = counted.as_many ∙ ap length marked_are in
        record {
          found =
              ap (λ (l : List Near). batch l out (take out trail')) answers_are
              ∙ ap (λ (m : ℕ). batch (map answer (queries_of t run many)) m (take out trail')) many_are
              ∙ ap (batch (map answer (queries_of t run many)) (length T)) are;
          within = omega (arith, counted.as_many, marked_few, room);
          trail_rest = subst (λ (m : ℕ). drop m trail' ≡ drop m trail) (sym counted.as_many) w.rest;
          work_zero = zeroed;
        }
