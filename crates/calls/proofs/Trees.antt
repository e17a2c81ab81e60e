-- The tree that goes along with a book, of a library whose tree may be anyone's: of one made by calls it is the book's own.
use mathlib.Core.Path.{◌≡◌, refl, sym, ap, ◌∙◌}
use mathlib.Core.Option.{Option, none, some}
use mathlib.Core.List.{List, [], ◌∷◌, ◌++◌, map, append_assoc, append-nil}
use lib.ListN.{take, replicate}
use Rattle.dstree.specs.Measures.{Trace, Measures, measures}
use Rattle.dstree.specs.Labels.{no_label}
use Rattle.dstree.specs.Node.{Tree}
use Rattle.dstree.specs.Adding.{insertion, grown, tree_of}
use Rattle.dstree.specs.Refusals.{Refusal}
use Rattle.dstree.specs.Examples.{level, C}
use Rattle.dstree.specs.Recording.{judge_recording, file_traces}
use Rattle.dstree.specs.Book.{Lent, Ask, opening, adding, searching, writing, reading, importing, exporting, checking, labelling, pairing}
use Rattle.dstree.specs.Book.{Call, call, Book, book, book_tree, opening_entry, adding_entry, writing_entry, reading_entry, importing_entry, exporting_entry}
use Rattle.dstree.specs.Book.{checking_entry, labelling_entry, pairing_entry, entry_of, judge, put_unless, turn, after}
use Rattle.dstree.proofs.Everything.{everything}
use Rattle.tables.specs.Layout.{layout}
use Rattle.calls.specs.Trusted.{tree_put, tree_unless, tree_after}

-- first some traces, then the others
grown_on : (m : Measures) (stored : List Trace) (tree : Tree) (some_traces others : List Trace)
    → grown m (stored ++ some_traces) (grown m stored tree some_traces) others ≡ grown m stored tree (some_traces ++ others)
unfolding grown
grown_on m stored tree [] others = ap (λ (l : List Trace). grown m l tree others) (append-nil stored)
grown_on m stored tree (x ∷ more) others =
    ap (λ (l : List Trace). grown m l (grown m (stored ++ (x ∷ [])) (insertion m stored tree x) more) others)
    (sym (append_assoc stored (x ∷ []) more))
    ∙ grown_on m (stored ++ (x ∷ [])) (insertion m stored tree x) more others

put_own : (lent : Lent) (b : Book) (ask : Ask) → tree_put b (book_tree b) ask ≡ book_tree (entry_of layout lent b ask).puts
unfolding tree_put entry_of grown opening_entry adding_entry writing_entry reading_entry importing_entry exporting_entry checking_entry labelling_entry pairing_entry
put_own lent b (opening m) = refl
put_own lent b (adding x l) = grown_on b.measures [] [] b.traces (x ∷ [])
put_own lent b (searching q) = refl
put_own lent b (writing sheet) = refl
put_own lent b (reading bytes) = refl
put_own lent b (importing bytes) = grown_on b.measures [] [] b.traces (file_traces (judge_recording b.measures.n bytes))
put_own lent b (exporting number rate buffer) = refl
put_own lent b checking = refl
put_own lent b (labelling number) = refl
put_own lent b (pairing which other query trail) = refl

turn_own : (b : Book) (c : Call) (o : Option Refusal)
    → tree_unless o (book_tree b) (tree_put b (book_tree b) c.ask) ≡ book_tree (put_unless o b (entry_of layout c.lent b c.ask))
unfolding tree_unless put_unless
turn_own b c (some why) = refl
turn_own b c none = put_own c.lent b c.ask

pub tree_of_book : (b : Book) (calls : List Call) → tree_after layout b (book_tree b) calls ≡ book_tree (after layout b calls)
unfolding tree_after after turn
tree_of_book b [] = refl
tree_of_book b (c ∷ rest) =
    ap (λ (tree : Tree). tree_after layout (turn layout b c) tree rest) (turn_own b c (judge layout b c))
    ∙ tree_of_book (turn layout b c) rest

-- ---- an example, by computation: traces (0,0,0,0) and (4,4,4,4) under leaf size 1, in a tree that holds both in one leaf

abbrev lent : Lent
lent = record { control = 5; samples = 12; nodes = 435; links = 3; work = 5; labels = 3 }

abbrev two : List Trace
two = level 0 ∷ level 4 ∷ []

abbrev m : Measures
m = measures 4 3 1

abbrev one_leaf : Tree
one_leaf = tree_of (measures 4 3 2) two

-- a trace that is too short, one that is stored, one that is refused as the library is full, an opening
abbrev calls : List Call
calls =
    call lent (adding [] no_label)
    ∷ call lent (adding C no_label)
    ∷ call lent (adding C no_label)
    ∷ call lent (opening m)
    ∷ []

pub after_calls : map (λ k. tree_after layout (book m two (replicate 2 no_label)) one_leaf (take k calls)) (1 ∷ 3 ∷ 4 ∷ [])
    ≡ one_leaf ∷ insertion m two one_leaf C ∷ [] ∷ []
unfolding everything tree_put tree_unless tree_after
after_calls = refl
