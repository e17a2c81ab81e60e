-- The samples or labels that code lends for a block: from p to the end `to` of the run, which is as many further on as a block carries, or
-- where all end.
use mathlib.Core.Path.{◌≡◌, sym, ap, ◌∙◌}
use mathlib.Core.List.{List, ◌++◌}
use Prim.Native.Nat.{ℕ, ◌+◌, ◌-◌, ◌≤◌, ◌<◌}
use native.Mathlib.Decide.{dec_le}
use native.Mathlib.Nat.{lt_of_not-le}
use native.Mathlib.Omega.{arith}
use lib.ListN.{length, take, drop, take-append-drop, length-drop}
use lib.Seq.{take_all, take-append-le, drop-append-le, length-take-le}
use Rattle.dstree.specs.Sheet.{part}

module _ {A : Type 0} (per : ℕ) (s : List A) (p to total : ℕ) (start : p ≤ to) (inside : to ≤ total) (most : to ≤ p + per)
    (all : to < total → p + per ≤ to)
    (room : total ≤ length s) where
  abbrev run : List A
  run = drop p (take total s)

  run_length : length run ≡ total - p
  run_length = length-drop p (take total s) ∙ ap (λ (k : ℕ). k - p) (length-take-le total s room)

  from_all : drop p s ≡ run ++ drop total s
  from_all =
      ap (drop p) (sym (take-append-drop total s))
      ∙ drop-append-le p (take total s) (drop total s) (omega (arith, length-take-le total s room))

  pub lent_run : take (to - p) (drop p s) ≡ part p per (take total s)
  lent_run = ap (take (to - p)) from_all ∙ take-append-le (to - p) run (drop total s) (omega (arith, run_length)) ∙ by (dec_le total to)
    where
      by : Dec (total ≤ to) → take (to - p) run ≡ take per run
      by (yes h) = take_all (to - p) run (omega (arith, run_length)) ∙ sym (take_all per run (omega (arith, run_length)))
      by (no f) = let h = all (lt_of_not-le f) in let e : to - p ≡ per = omega arith in ap (λ (k : ℕ). take k run) e
