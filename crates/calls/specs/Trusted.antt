-- Document 02, §6: "libraries it would accept", whatever made their tables.
use Rattle.std.specs.Prelude.{◌≡◌, List, [], ◌∷◌, T}
use Rattle.std.proofs.Math.Option.{Option, none, some}
use Rattle.dstree.specs.Measures.{sample_limit, is_library}
use Rattle.dstree.specs.Node.{Tree}
use Rattle.dstree.specs.Adding.{grown}
use Rattle.dstree.specs.Checking.{is_exact}
use Rattle.dstree.specs.Refusals.{Refusal}
use Rattle.dstree.specs.SheetWidths.{judge_sheet}
use Rattle.dstree.specs.Recording.{judge_recording, file_traces}
use Rattle.dstree.specs.Book.{Ask, opening, adding, searching, writing, reading, importing, exporting, checking, labelling, pairing}
use Rattle.dstree.specs.Book.{Call, Book, book, Layout, book_tree, put_read, judge, turn}
use Rattle.tables.specs.Tables.{Tables, lent_of, measures_of}
use Rattle.tables.specs.View.{tree_in, traces_in, labels_in, well_formed}
use Rattle.tables.specs.Judge.{Room}

-- measures, traces and labels, as the tables have them: what a book starts with that knows of nothing earlier
abbrev pub book_in : Tables → Book
book_in memory = book (measures_of memory) (traces_in memory) (labels_in memory)

-- a memory that the check would accept, with the measures, the traces and the labels that a book has. What is not asked is who made the
-- tree: it may be any whose figures are those of the traces below
pub record Trusts (memory : Tables) (b : Book) : Type 0 where
  -- measures in range, no more traces than the capacity, each of n samples within their limits
  pub library : T (is_library sample_limit b.measures b.traces)
  -- the places that the measures need, and "well-formed tables"
  pub room : Room (lent_of memory) b.measures
  pub formed : T (well_formed memory)
  pub measures_are : measures_of memory ≡ b.measures
  pub traces_are : traces_in memory ≡ b.traces
  pub labels_are : labels_in memory ≡ b.labels
  -- no "figure that isn't exactly the recomputed one"
  pub exact : T (is_exact (traces_in memory) (tree_in memory))

-- ---- the tree of such a library, beside its book

-- what a call that is not refused makes of it: adding and an import insert their traces by document 01's steps, in order; an opening puts
-- no node, a reading the tree of its sheet's traces; the others leave it
unfoldable pub tree_put : Book → Tree → Ask → Tree
tree_put b tree (opening m) = []
tree_put b tree (adding x l) = grown b.measures b.traces tree (x ∷ [])
tree_put b tree (searching q) = tree
tree_put b tree (writing sheet) = tree
tree_put b tree (reading bytes) = book_tree (put_read b (judge_sheet bytes))
tree_put b tree (importing bytes) = grown b.measures b.traces tree (file_traces (judge_recording b.measures.n bytes))
tree_put b tree (exporting number rate buffer) = tree
tree_put b tree checking = tree
tree_put b tree (labelling number) = tree
tree_put b tree (pairing which other query trail) = tree

-- "A refused call changes nothing"
unfoldable pub tree_unless : Option Refusal → Tree → Tree → Tree
tree_unless (some why) tree put = tree
tree_unless none tree put = put

-- the tree after a list of calls, from a book and a tree on that somebody made
unfoldable pub tree_after : Layout → Book → Tree → List Call → Tree
tree_after layout b tree [] = tree
tree_after layout b tree (c ∷ rest) =
    tree_after layout (turn layout b c) (tree_unless (judge layout b c) tree (tree_put b tree c.ask)) rest
