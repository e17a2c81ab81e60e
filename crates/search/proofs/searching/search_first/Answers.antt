-- `search::searching::search_first` meets its contract: the loop's, and the needed search work is set to zero behind it (`Cleared`).
use mathlib.Core.Path.{◌≡◌, sym, ap, ◌∙◌, subst}
use mathlib.Core.List.{List, ◌++◌}
use Prim.Native.Nat.{ℕ, ◌≤◌}
use native.Mathlib.Omega.{arith}
use lib.ListN.{length, take, drop}
use lib.Seq.{length_front, length-take-le, drop_at}
use Rattle.segment.specs.Stored.{samples_of}
use Rattle.segment.proofs.Stored.{samples_length}
use Rattle.dstree.specs.Measures.{Trace, measures, records_needed, work_needed}
use Rattle.tables.specs.Tables.{Tables, measures_of, node_count, filled}
use Rattle.search.specs.Lent.{stored_tables}
use Rattle.search.specs.Searched.{Ready}
use Rattle.search.proofs.Facts.{length_fits, capacity_fits, nodes_needed}
use Rattle.search.proofs.Cleared.{as_many, cleared}
use Rattle.search.proofs.searching.search_first.Goals as goal

-- ---- a place of search work for each node: the first places are lent
module _ {t : Tables} {query : Trace} {size : ℕ} (ready : Ready t query size) (work : List ℕ) (room : work_needed (measures_of t) ≤ length work)
    {count : ℕ} (count_is : count ≡ node_count t) where
  count_fits : count ≤ length work
  count_fits = omega (arith, count_is, nodes_needed t query size ready, room)

  -- the places behind them are as they were
  behind : (part : List ℕ) → length part ≡ length (take count work) → drop (node_count t) (part ++ drop count work) ≡ drop (node_count t) work
  behind part e =
      let long : length part ≡ count = e ∙ length-take-le count work count_fits in
      subst (λ (n : ℕ). drop n (part ++ drop count work) ≡ drop n work) count_is (drop_at part (drop count work) count long)

pub of-summed-requires : goal.of-summed-requires
of-summed-requires c =
    let few = length_fits _ (samples_of c.args.query.now) (length c.args.trail.now) c.requires.ready.0 in
    omega (arith, few, samples_length c.args.query.now)

pub slice_bounds-visit_first-end : goal.slice_bounds-visit_first-end
slice_bounds-visit_first-end c = count_fits c.requires.ready.0 c.args.work.now c.requires.ready.1 (c.wide-count.ensures ∙ c.field.ensures)

pub slice_bounds-visit_first-end-2 : goal.slice_bounds-visit_first-end-2
slice_bounds-visit_first-end-2 c =
    sym (length-take-le c.wide-count.result c.args.work.now (count_fits c.requires.ready.0 c.args.work.now c.requires.ready.1 (c.wide-count.ensures ∙ c.field.ensures)))

pub visit_first-seen-requires : goal.visit_first-seen-requires
visit_first-seen-requires c =
    let count_is = c.wide-count.ensures ∙ c.field.ensures in
    record {
      ready = (
        rw c.of-summed.ensures c.requires.ready.0,
        length-take-le c.wide-count.result c.args.work.now (count_fits c.requires.ready.0 c.args.work.now c.requires.ready.1 count_is) ∙ count_is,
      );
      list = c.requires.list;
    }

pub records_needed-needed-requires : goal.records_needed-needed-requires
records_needed-needed-requires c =
    omega (
      arith,
      c.wider-capacity.ensures ∙ c.field-2.ensures,
      capacity_fits _ (samples_of c.args.query.now) (length c.args.trail.now) c.requires.ready.0,
    )

-- ---- what the loop leaves

-- the search work that a library of this capacity needs
needed_is : (t : Tables) {capacity needed : ℕ} → capacity ≡ (measures_of t).capacity
    → ((n i : ℕ) → needed ≡ records_needed (measures n capacity i)) → needed ≡ work_needed (measures_of t)
needed_is t capacity_is ensures =
    let m = measures_of t in
    ensures m.n m.leaf_size ∙ (ap (λ (i : ℕ). records_needed (measures m.n i m.leaf_size)) capacity_is ∙ as_many m)

pub fill_first-requires : goal.fill_first-requires
fill_first-requires c =
    let t = stored_tables c.args.stored in
    let needed = needed_is t (c.wider-capacity.ensures ∙ c.field-2.ensures) c.records_needed-needed.ensures in
    let h : c.records_needed-needed.result ≤ length (c.visit_first-seen.new.work ++ drop c.wide-count.result c.args.work.now) =
    omega (arith, needed, c.requires.ready.1, length_front c.args.work.now c.visit_first-seen.new.work c.wide-count.result c.visit_first-seen.auto.work) in
    h

pub returns : goal.returns
returns c =
    let a = c.args in
    let v = c.visit_first-seen in
    let r = v.result in
    let t = stored_tables a.stored in
    let ready = c.requires.ready.0 in
    let whole = v.new.work ++ drop c.wide-count.result a.work.now in
    let needed = needed_is t (c.wider-capacity.ensures ∙ c.field-2.ensures) c.records_needed-needed.ensures in
    cleared a.k a.most t (samples_of a.query.now) (length a.trail.now) ready a.work.now whole c.fill_first.new.table a.trail.now v.new.trail a.list.now
    v.new.list r.listed r.out r.traces r.unread (rw c.of-summed.ensures at v.ensures)
    (behind ready a.work.now c.requires.ready.1 (c.wide-count.ensures ∙ c.field.ensures) v.new.work v.auto.work)
    (c.fill_first.ensures ∙ ap (λ (i : ℕ). filled i 0 whole) needed)
