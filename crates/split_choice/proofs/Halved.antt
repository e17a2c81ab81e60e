-- A segment's halves, as code finds them.
use mathlib.Core.Path.{◌≡◌}
use mathlib.Core.List.{List, [], ◌++◌}
use Prim.Native.Nat.{ℕ, suc, ◌+◌, ◌-◌, ◌/◌, ◌≤◌, ◌<◌}
use native.Mathlib.Omega.{arith}
use native.Mathlib.Numerals.{add-one}
use lib.ListN.{length}
use lib.Seq.{length-take-le}
use lib.Dec.{ltb}
use borrow.Author.Tests.{lt-ltb, le-ltb, le-leb, lt-leb}
use Rattle.integer.proofs.Tests.{and_false}
use Rattle.dstree.specs.Figures.{run}
use Rattle.dstree.specs.Adding.{by_either, cut_at, left_half_end, halves}
use Rattle.leaf_figures.specs.Ends.{ends_of, EndsRoom}
use Rattle.leaf_figures.specs.declared.ends.Ends.{Ends}

-- no more ends than places
pub ends_count : (e : Ends) → EndsRoom e → length (ends_of e) ≡ e.count
ends_count e r = length-take-le e.count e.at (omega (arith, r.places, r.few))

module _ (all : List ℕ) (first last : ℕ) where
  pub no_room : 16 ≤ length all → halves all (run first last) ≡ []
  unfolding halves
  no_room h = rw (le-ltb (length all) 16 h)

  pub no_width : last ≤ first → halves all (run first last) ≡ []
  unfolding halves
  no_width h = rw (lt-leb 2 (suc last - first) (omega arith), and_false (ltb (length all) 16))

  -- the left half's last sample
  abbrev pub middle : ℕ
  middle = first + (last - first + 1) / 2 - 1

  pub middle_in : 1 ≤ first → first < last → (first ≤ middle) × (middle < last)
  middle_in h k = (omega arith, omega arith)

  pub both_halves : first < last → length all < 16
      → halves all (run first last) ≡ by_either (run first middle) (cut_at middle all) ++ by_either (run (middle + 1) last) (cut_at middle all)
  unfolding halves left_half_end
  both_halves k room =
      let e : suc last - first ≡ last - first + 1 = omega arith in
      rw (lt-ltb (length all) 16 room, le-leb 2 (suc last - first) (omega arith), e, add-one middle)
