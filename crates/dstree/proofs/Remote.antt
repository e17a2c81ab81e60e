-- The remote does not see serials: what the book answers it is made of measures, traces and codes. So it is of every search, since a search is
-- given the codes alone.
use Prim.Native.Nat.{ℕ}
use mathlib.Core.Path.{◌≡◌, refl, ◌∙◌, ap}
use mathlib.Core.Option.{Option, none, some}
use mathlib.Core.List.{List, [], ◌∷◌}
use lib.Dec.{T}
use mir.Facts.{and_yes}
use Rattle.integer.specs.Words.{every}
use Rattle.dstree.specs.Measures.{Trace, Measures}
use Rattle.dstree.specs.Labels.{Label}
use Rattle.dstree.specs.Refusals.{Refusal}
use Rattle.dstree.specs.Adding.{tree_of}
use Rattle.dstree.specs.Book.{Layout, Lent, Sought, search_of, Ask, opening, adding, searching, writing, reading, importing, exporting}
use Rattle.dstree.specs.Book.{checking, labelling, pairing, call, beside_of, Book, book, searching_entry, entry_of, judge, put_unless, turn}
use Rattle.dstree.specs.Book.{answering, reply, reply_unless, reply_of, replies_of}
use Rattle.dstree.specs.Remote.{codes_of, AlikeButSerials, is_remote, RemoteAlike}

-- two libraries that have the same codes
module _ (layout : Layout) (m : Measures) (traces : List Trace) (these other : List Label) (same : codes_of other ≡ codes_of these) where
  one_reply : (lent : Lent) (q : Sought)
      → reply_of layout (book m traces other) (call lent (searching q)) ≡ reply_of layout (book m traces these) (call lent (searching q))
  unfolding reply_of judge beside_of entry_of reply_unless
  one_reply lent q = by (judge layout (book m traces these) (call lent (searching q)))
    where
      by : (o : Option Refusal)
          → reply_unless o (search_of q).lends (searching_entry layout lent (book m traces other) (search_of q))
          ≡ reply_unless o (search_of q).lends (searching_entry layout lent (book m traces these) (search_of q))
      by (some r) = refl
      by none =
          ap (λ (codes : List ℕ). let found = (search_of q).closed m traces codes (tree_of m traces) in reply (answering found.result) found.beside) same

-- a search leaves the book as it was
as_it_was : (layout : Layout) (b : Book) (lent : Lent) (q : Sought) → turn layout b (call lent (searching q)) ≡ b
unfolding turn entry_of put_unless
as_it_was layout b lent q = by (judge layout b (call lent (searching q)))
  where
    by : (o : Option Refusal) → put_unless o b (searching_entry layout lent b (search_of q)) ≡ b
    by (some r) = refl
    by none = refl

module _ (layout : Layout) (these other : Book) (a : AlikeButSerials these other) where
  abbrev same_but : List Label → Book
  same_but labels = book these.measures these.traces labels

  other_is : other ≡ same_but other.labels
  other_is = λ i. record { measures = a.measures_same i; traces = a.traces_same i; labels = other.labels }

  search_reply : (lent : Lent) (q : Sought) → reply_of layout other (call lent (searching q)) ≡ reply_of layout these (call lent (searching q))
  search_reply lent q =
      ap (λ (b : Book). reply_of layout b (call lent (searching q))) other_is
      ∙ one_reply layout these.measures these.traces these.labels other.labels a.codes_same lent q

pub remote_alike : RemoteAlike
unfolding replies_of every is_remote
remote_alike layout these other a [] t = refl
remote_alike layout these other a (c ∷ calls) t = by c.ask c.lent (and_yes (is_remote c.ask) (every (λ c. is_remote c.ask) calls) t) (λ r. remote_alike layout these other a calls r)
  where
    by : (ask : Ask) (lent : Lent) → T (is_remote ask) × T (every (λ c. is_remote c.ask) calls)
        → (T (every (λ c. is_remote c.ask) calls) → replies_of layout other calls ≡ replies_of layout these calls)
        → reply_of layout other (call lent ask) ∷ replies_of layout (turn layout other (call lent ask)) calls
        ≡ reply_of layout these (call lent ask) ∷ replies_of layout (turn layout these (call lent ask)) calls
    by (searching q) lent both later =
        rw (
          search_reply layout these other a lent q,
          as_it_was layout other lent q,
          as_it_was layout these lent q,
          later both.1,
        ) refl
    by (opening m) lent both later = absurd both.0
    by (adding x l) lent both later = absurd both.0
    by (writing sheet) lent both later = absurd both.0
    by (reading bytes) lent both later = absurd both.0
    by (importing bytes) lent both later = absurd both.0
    by (exporting number rate buffer) lent both later = absurd both.0
    by checking lent both later = absurd both.0
    by (labelling number) lent both later = absurd both.0
    by (pairing which o query trail) lent both later = absurd both.0
