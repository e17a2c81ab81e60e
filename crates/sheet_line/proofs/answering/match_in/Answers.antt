-- `sheet_line::answering::match_in` meets its contract: an opened library takes the earlier traces, and holds their tree.
use mathlib.Core.Path.{◌≡◌, sym, ap, subst, ◌∙◌}
use mathlib.Core.List.{List, []}
use Prim.Native.Nat.{ℕ, ◌+◌, ◌-◌}
use native.Mathlib.Omega.{arith}
use lib.IntN.{ℤ}
use lib.ListN.{take}
use Rattle.dstree.specs.Measures.{Measures}
use Rattle.tables.specs.Tables.{Tables, tables, labelled_tables, lent_of}
use Rattle.tables.specs.Answers.{opened}
use Rattle.tables.specs.Judge.{LongEnough}
use Rattle.insertion_memory.proofs.Made.{Holds}
use Rattle.sheet_blocks.specs.Traces.{count_of, sheet_traces}
use Rattle.sheet_blocks.proofs.Places.{first_inside}
use Rattle.sheet_judging.proofs.Samples.{fine as good}
use Rattle.sheet_reading.proofs.Ends.{said}
use Rattle.dstree.proofs.SheetFields.{known_bytes}
use Rattle.sheet_reading.proofs.Library.{holds_first, loads}
use Rattle.sheet_reading.proofs.Steps.{opened_empty}
use Rattle.sheet_line.specs.Stored.{Roomy}
use Rattle.sheet_line.proofs.Judged.{sound, two_traces, last_line, roomy}
use Rattle.sheet_line.proofs.answering.match_in.Goals as goal

-- what the call came with
module _ (lent : Tables) (bytes : List ℕ) (r : Roomy (lent_of lent) bytes) where
  -- the number of the last trace, by what block 0 says
  before_last : (count : ℕ) → count ≡ count_of bytes → (count - 1) + 1 ≡ count_of bytes
  before_last count e = omega (arith, two_traces bytes r.fine)

  -- once the library is opened; what is left where it was lent, but for the search work
  empty : (m : Measures) → said bytes ≡ m → (control : List ℕ) (samples nodes : List ℤ) (links work labels : List ℕ)
      → labelled_tables control samples nodes links work labels ≡ opened lent m
      → Holds (tables control samples nodes links []) (said bytes) []
  empty m e control samples nodes links work labels o =
      opened_empty lent (said bytes) (good bytes (sound bytes r.fine)).good.measured (roomy (lent_of lent) bytes r).room
      control samples nodes links work labels (o ∙ ap (opened lent) (sym e))

pub head_of-head-requires : goal.head_of-head-requires
head_of-head-requires c = let b : List ℕ = c.args.sheet.now in first_inside b (good b (sound b c.requires.fine)).whole

pub overflow_sub-last : goal.overflow_sub-last
overflow_sub-last c = omega (arith, c.head_of-head.ensures.count_is, two_traces c.args.sheet.now c.requires.fine)

pub put_empty-requires : goal.put_empty-requires
put_empty-requires c =
    let a = c.args in
    let lent : Tables = labelled_tables a.control.now a.samples.now a.nodes.now a.links.now a.work.now a.labels.now in
    subst (LongEnough (lent_of lent)) c.head_of-head.ensures.measures_are (roomy (lent_of lent) a.sheet.now c.requires)

pub load-requires : goal.load-requires
load-requires c =
    let a = c.args in
    let b : List ℕ = a.sheet.now in
    let lent : Tables = labelled_tables a.control.now a.samples.now a.nodes.now a.links.now a.work.now a.labels.now in
    let h = c.head_of-head in
    let p = c.put_empty in
    loads b (sound b c.requires.fine) (known_bytes b (λ i. (c.type_inv.sheet i).fits)) _ _ _ _
    (empty lent b c.requires _ h.ensures.measures_are p.new.control p.new.samples p.new.nodes p.new.links p.new.work p.new.labels p.ensures) _ _
    (ap (λ (m : Measures). m.n) (sym h.ensures.measures_are))
    (omega (arith, before_last lent b c.requires h.result.count (sym h.ensures.count_is)))

pub match_last-requires : goal.match_last-requires
match_last-requires c =
    let a = c.args in
    let b : List ℕ = a.sheet.now in
    let lent : Tables = labelled_tables a.control.now a.samples.now a.nodes.now a.links.now a.work.now a.labels.now in
    let h = c.head_of-head in
    let p = c.put_empty in
    let n = p.new in
    let last : ℕ = h.result.count - 1 in
    let library : Tables = tables n.control n.samples n.nodes n.links [] in
    record {
      fine = c.requires.fine;
      size = ap (λ (m : Measures). m.n) (sym h.ensures.measures_are);
      before_last = before_last lent b c.requires h.result.count (sym h.ensures.count_is);
      earlier =
          subst (λ (t : Tables). Holds t (said b) (take last (sheet_traces b))) (sym (c.load.ensures []))
          (holds_first b (sound b c.requires.fine) (known_bytes b (λ i. (c.type_inv.sheet i).fits)) library
          (empty lent b c.requires _ h.ensures.measures_are n.control n.samples n.nodes n.links n.work n.labels p.ensures) last);
      work_long = omega (arith, (roomy (lent_of lent) b c.requires).room.work_room, p.auto.work);
    }

pub returns : goal.returns
returns c =
    let a = c.args in
    let b : List ℕ = a.sheet.now in
    let lent : Tables = labelled_tables a.control.now a.samples.now a.nodes.now a.links.now a.work.now a.labels.now in
    let h = c.head_of-head in
    c.match_last.ensures ∙ last_line b c.requires.fine (h.result.count - 1) (before_last lent b c.requires h.result.count (sym h.ensures.count_is))
