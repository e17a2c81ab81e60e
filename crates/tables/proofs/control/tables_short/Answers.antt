-- `tables::control::tables_short` meets its contract: each return rewrites with the tests that led there, on the needs as the definitions
-- give them.
use mathlib.Core.Path.{◌≡◌, refl, subst}
use mathlib.Core.Bool.{true, false}
use Prim.Native.Nat.{ℕ, ◌*◌, ◌<◌, ◌≤◌}
use native.Mathlib.Omega.{arith}
use lib.Dec.{ltb}
use borrow.Author.Tests.{lt-ltb, le-ltb}
use Rattle.dstree.specs.Measures.{Measures, measures, samples_needed, records_needed, links_needed, work_needed, labels_needed}
use Rattle.dstree.specs.Book.{tables_short}
use Rattle.tables.specs.Layout.{record_places}
use Rattle.tables.proofs.control.tables_short.Goals as goal

-- the tests that were passed
module _ (c : goal.After-records_needed-records) (leaf_size : ℕ) where
  abbrev start : goal.After-records_needed-records
  start = c

  abbrev m : Measures
  m = measures start.args.n start.args.capacity leaf_size

  samples_enough : ltb start.args.lengths.samples (samples_needed m) ≡ false
  samples_enough = le-ltb start.args.lengths.samples (samples_needed m) (omega (arith, c.samples_needed.ensures leaf_size))

  records_are : c.records_needed-records.result ≡ records_needed m
  records_are = c.records_needed-records.ensures start.args.n leaf_size

  nodes_short : start.args.lengths.nodes < c.records_needed-records.result * record_places → ltb start.args.lengths.nodes (records_needed m * record_places) ≡ true
  nodes_short h = lt-ltb start.args.lengths.nodes (records_needed m * record_places) (omega (arith, records_are))

  nodes_enough : c.records_needed-records.result * record_places ≤ start.args.lengths.nodes → ltb start.args.lengths.nodes (records_needed m * record_places) ≡ false
  nodes_enough h = le-ltb start.args.lengths.nodes (records_needed m * record_places) (omega (arith, records_are))

-- the tests that were passed
module _ (c : goal.Then-nodes-records) (leaf_size : ℕ) where
  abbrev start_2 : goal.Then-nodes-records
  start_2 = c

  abbrev m_2 : Measures
  m_2 = measures start_2.args.n start_2.args.capacity leaf_size

  samples_enough_2 : ltb start_2.args.lengths.samples (samples_needed m_2) ≡ false
  samples_enough_2 = le-ltb start_2.args.lengths.samples (samples_needed m_2) (omega (arith, c.samples_needed.ensures leaf_size))

  records_are_2 : c.records_needed-records.result ≡ records_needed m_2
  records_are_2 = c.records_needed-records.ensures start_2.args.n leaf_size

  nodes_short_2 : start_2.args.lengths.nodes < c.records_needed-records.result * record_places → ltb start_2.args.lengths.nodes (records_needed m_2 * record_places) ≡ true
  nodes_short_2 h = lt-ltb start_2.args.lengths.nodes (records_needed m_2 * record_places) (omega (arith, records_are_2))

  nodes_enough_2 : c.records_needed-records.result * record_places ≤ start_2.args.lengths.nodes → ltb start_2.args.lengths.nodes (records_needed m_2 * record_places) ≡ false
  nodes_enough_2 h = le-ltb start_2.args.lengths.nodes (records_needed m_2 * record_places) (omega (arith, records_are_2))

-- the tests that were passed
module _ (c : goal.Then-links-capacity) (leaf_size : ℕ) where
  abbrev start_3 : goal.Then-links-capacity
  start_3 = c

  abbrev m_3 : Measures
  m_3 = measures start_3.args.n start_3.args.capacity leaf_size

  samples_enough_3 : ltb start_3.args.lengths.samples (samples_needed m_3) ≡ false
  samples_enough_3 = le-ltb start_3.args.lengths.samples (samples_needed m_3) (omega (arith, c.samples_needed.ensures leaf_size))

  records_are_3 : c.records_needed-records.result ≡ records_needed m_3
  records_are_3 = c.records_needed-records.ensures start_3.args.n leaf_size

  nodes_short_3 : start_3.args.lengths.nodes < c.records_needed-records.result * record_places → ltb start_3.args.lengths.nodes (records_needed m_3 * record_places) ≡ true
  nodes_short_3 h = lt-ltb start_3.args.lengths.nodes (records_needed m_3 * record_places) (omega (arith, records_are_3))

  nodes_enough_3 : c.records_needed-records.result * record_places ≤ start_3.args.lengths.nodes → ltb start_3.args.lengths.nodes (records_needed m_3 * record_places) ≡ false
  nodes_enough_3 h = le-ltb start_3.args.lengths.nodes (records_needed m_3 * record_places) (omega (arith, records_are_3))

-- the tests that were passed
module _ (c : goal.Then-work-records) (leaf_size : ℕ) where
  abbrev start_4 : goal.Then-work-records
  start_4 = c

  abbrev m_4 : Measures
  m_4 = measures start_4.args.n start_4.args.capacity leaf_size

  samples_enough_4 : ltb start_4.args.lengths.samples (samples_needed m_4) ≡ false
  samples_enough_4 = le-ltb start_4.args.lengths.samples (samples_needed m_4) (omega (arith, c.samples_needed.ensures leaf_size))

  records_are_4 : c.records_needed-records.result ≡ records_needed m_4
  records_are_4 = c.records_needed-records.ensures start_4.args.n leaf_size

  nodes_short_4 : start_4.args.lengths.nodes < c.records_needed-records.result * record_places → ltb start_4.args.lengths.nodes (records_needed m_4 * record_places) ≡ true
  nodes_short_4 h = lt-ltb start_4.args.lengths.nodes (records_needed m_4 * record_places) (omega (arith, records_are_4))

  nodes_enough_4 : c.records_needed-records.result * record_places ≤ start_4.args.lengths.nodes → ltb start_4.args.lengths.nodes (records_needed m_4 * record_places) ≡ false
  nodes_enough_4 h = le-ltb start_4.args.lengths.nodes (records_needed m_4 * record_places) (omega (arith, records_are_4))

-- the tests that were passed
module _ (c : goal.Else-work-records) (leaf_size : ℕ) where
  abbrev start_5 : goal.Else-work-records
  start_5 = c

  abbrev m_5 : Measures
  m_5 = measures start_5.args.n start_5.args.capacity leaf_size

  samples_enough_5 : ltb start_5.args.lengths.samples (samples_needed m_5) ≡ false
  samples_enough_5 = le-ltb start_5.args.lengths.samples (samples_needed m_5) (omega (arith, c.samples_needed.ensures leaf_size))

  records_are_5 : c.records_needed-records.result ≡ records_needed m_5
  records_are_5 = c.records_needed-records.ensures start_5.args.n leaf_size

  nodes_short_5 : start_5.args.lengths.nodes < c.records_needed-records.result * record_places → ltb start_5.args.lengths.nodes (records_needed m_5 * record_places) ≡ true
  nodes_short_5 h = lt-ltb start_5.args.lengths.nodes (records_needed m_5 * record_places) (omega (arith, records_are_5))

  nodes_enough_5 : c.records_needed-records.result * record_places ≤ start_5.args.lengths.nodes → ltb start_5.args.lengths.nodes (records_needed m_5 * record_places) ≡ false
  nodes_enough_5 h = le-ltb start_5.args.lengths.nodes (records_needed m_5 * record_places) (omega (arith, records_are_5))

pub returns-then-samples-samples_needed : goal.returns-then-samples-samples_needed
unfolding tables_short
returns-then-samples-samples_needed c = λ control leaf_size.
    let a = c.args in
    let need = samples_needed (measures a.n a.capacity leaf_size) in
    let short : ltb a.lengths.samples need ≡ true = lt-ltb a.lengths.samples need (omega (arith, c.samples_needed.ensures leaf_size)) in
    rw short

pub overflow_mul-records : goal.overflow_mul-records
unfolding records_needed
overflow_mul-records c = let e = records_are c 0 in omega arith

pub returns-then-nodes-records : goal.returns-then-nodes-records
unfolding tables_short
returns-then-nodes-records c = λ control leaf_size. rw (samples_enough_2 c leaf_size, nodes_short_2 c leaf_size c.if-nodes-records.true)

pub returns-then-links-capacity : goal.returns-then-links-capacity
unfolding tables_short links_needed
returns-then-links-capacity c = λ control leaf_size.
    rw (samples_enough_3 c leaf_size, nodes_enough_3 c leaf_size c.if-nodes-records.false, lt-ltb _ _ c.if-links-capacity.true)

pub returns-then-work-records : goal.returns-then-work-records
unfolding tables_short links_needed records_needed work_needed
returns-then-work-records c = λ control leaf_size.
    let short = subst (λ (r : ℕ). (start_4 c leaf_size).args.lengths.work < r) (records_are_4 c leaf_size) c.if-work-records.true in
    rw (samples_enough_4 c leaf_size, nodes_enough_4 c leaf_size c.if-nodes-records.false, le-ltb _ _ c.if-links-capacity.false, lt-ltb _ _ short)

pub returns : goal.returns
unfolding tables_short links_needed records_needed work_needed labels_needed
returns c = λ control leaf_size.
    let enough = subst (λ (r : ℕ). r ≤ (start_5 c leaf_size).args.lengths.work) (records_are_5 c leaf_size) c.if-work-records.false in
    rw (samples_enough_5 c leaf_size, nodes_enough_5 c leaf_size c.if-nodes-records.false, le-ltb _ _ c.if-links-capacity.false, le-ltb _ _ enough) refl
