-- A trace that tables take has n samples, and so many words.
use mathlib.Core.Path.{◌≡◌, sym, ◌∙◌}
use mathlib.Core.List.{List, []}
use Prim.Native.Nat.{ℕ}
use lib.IntN.{ℤ}
use lib.ListN.{length}
use Rattle.segment.specs.Stored.{samples_of}
use Rattle.segment.proofs.Stored.{samples_length}
use Rattle.dstree.specs.Measures.{sample_limit}
use Rattle.dstree.proofs.Limits.{trace_length}
use Rattle.tables.specs.Tables.{tables, measures_of}
use Rattle.adding.specs.Putting.{Takes}

module _ {control : List ℕ} {samples nodes : List ℤ} {links : List ℕ} (words : List ℤ) (p : Takes control samples nodes links (samples_of words)) where
  pub words_size : length words ≡ (measures_of (tables control samples nodes links [])).n
  words_size = sym (samples_length words) ∙ trace_length sample_limit (measures_of (tables control samples nodes links [])).n (samples_of words) p.is_trace_lem
