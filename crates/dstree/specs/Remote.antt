-- Document 02, §8: what the jog remote learns. "Two libraries alike but for serials must give the remote equal answers and equal refusals;
-- the remote neither writes nor reads sheets".
use Rattle.std.specs.Prelude.{ℕ, ◌≡◌, Bool, true, false, List, map, T}
use Rattle.integer.specs.Words.{every}
use Rattle.dstree.specs.Labels.{Label}
use Rattle.dstree.specs.Book.{Layout, a_match, a_listing, a_batch, a_remote, a_banding, a_limited, a_clipped, Ask, opening, adding}
use Rattle.dstree.specs.Book.{searching, writing, reading, importing, exporting, checking, labelling, pairing, Call, Book, replies_of}

-- the codes of labels
abbrev pub codes_of : List Label → List ℕ
codes_of labels = map (λ (l : Label). l.code) labels

-- "alike but for serials": the same measures, traces and codes
pub record AlikeButSerials (these other : Book) : Type 0 where
  pub measures_same : other.measures ≡ these.measures
  pub traces_same : other.traces ≡ these.traces
  pub codes_same : codes_of other.labels ≡ codes_of these.labels

-- "The jog remote has one call"
unfoldable pub is_remote : Ask → Bool
is_remote (opening m) = false
is_remote (adding x l) = false
is_remote (searching (a_match query trail)) = false
is_remote (searching (a_listing k query trail list)) = false
is_remote (searching (a_batch count run trail list)) = false
is_remote (searching (a_remote query trail)) = true
is_remote (searching (a_banding query edges list)) = false
is_remote (searching (a_limited most query trail)) = false
is_remote (searching (a_clipped lows highs list)) = false
is_remote (writing sheet) = false
is_remote (reading bytes) = false
is_remote (importing bytes) = false
is_remote (exporting number rate buffer) = false
is_remote checking = false
is_remote (labelling number) = false
is_remote (pairing which other query trail) = false

-- "equal answers and equal refusals", and equal trails, however often it asks
abbrev pub RemoteAlike : Type 0
RemoteAlike = (layout : Layout) (these other : Book) → AlikeButSerials these other
    → (calls : List Call) → T (every (λ (c : Call). is_remote c.ask) calls)
    → replies_of layout other calls ≡ replies_of layout these calls
