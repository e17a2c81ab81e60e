-- What a walk along a list's first places has seen, as the record that code answers, and that its yes is a candidate's that parts the leaf.
use mathlib.Core.Path.{◌≡◌, refl, sym, ap, ap₂, ◌∙◌}
use mathlib.Core.Bool.{Bool, true, false, not, beq}
use mathlib.Core.List.{List, [], map}
use Prim.Native.Nat.{ℕ, ◌+◌, ◌≤◌, ◌<◌}
use native.Mathlib.Numerals.{add-one}
use lib.IntN.{ℤ}
use lib.ListN.{length, get_or, take}
use lib.Signed.{lt_z}
use Rattle.integer.specs.Words.{least_ℤ, greatest_ℤ}
use Rattle.integer.proofs.Lists.{In}
use Rattle.dstree.specs.Measures.{Trace}
use Rattle.dstree.specs.Figures.{run}
use Rattle.dstree.specs.Node.{Test, figure_of}
use Rattle.dstree.specs.Adding.{traces_of, threshold_of, test_of, goes_by, show_sides}
use Rattle.dstree.proofs.Parting.{parting}
use Rattle.dstree.proofs.Looking.{one_side, taken_of, looked_found, yes_or_no}
use Rattle.tables.specs.Runs.{figure_by}
use Rattle.candidate.specs.Siding.{trial_test}
use Rattle.candidate.specs.Trials.{candidate_by}
use Rattle.candidate.specs.Parting.{look_of}
use Rattle.candidate.specs.declared.siding.Trial.{Trial}
use Rattle.candidate.specs.declared.parting.Look.{Look}

abbrev pub look : Bool → ℕ → Look
look both taken = record { both = both; taken = taken }

-- two sides compared
pub differ : (a b : Bool) → not (beq a b) ≡ true → a ≡ not b
differ true true e = sym e
differ true false e = refl
differ false true e = refl
differ false false e = e

pub alike : (a b : Bool) → not (beq a b) ≡ false → a ≡ b
alike true true e = refl
alike true false e = e
alike false true e = sym e
alike false false e = refl

module _ (stored : List Trace) (list : List ℕ) (test : Test) where
  -- one side alone is seen
  pub seen_whole : show_sides (goes_by stored test) list ≡ false → look false (length list) ≡ look_of stored test list
  seen_whole e = ap₂ look (sym e) (sym ((taken_of (goes_by stored test) list).all_else e))

  -- all go to one side
  pub seen_none : (b : Bool) → ((t : ℕ) → In t list → goes_by stored test t ≡ b) → look false (length list) ≡ look_of stored test list
  seen_none b h = seen_whole (one_side (goes_by stored test) b list h)

  -- the first i go to one side, and the next to the other
  pub seen_found : (b : Bool) (i : ℕ) → 1 ≤ i → i < length list → ((t : ℕ) → In t (take i list) → goes_by stored test t ≡ b)
      → goes_by stored test (get_or list i 0) ≡ not b → look true (i + 1) ≡ look_of stored test list
  seen_found b i some here so_far other =
      let e = looked_found (goes_by stored test) list b i some here so_far other in ap₂ look (sym e.0) (add-one i ∙ sym e.1)

-- both sides of a candidate's test are seen exactly if its least figure is below its greatest
pub seen_below : (stored : List Trace) (numbers : List ℕ) (c : Trial) (threshold : ℤ)
    → threshold ≡ threshold_of (figure_by c.by_scatter) (run c.on.first c.on.last) (traces_of stored numbers)
    → show_sides (goes_by stored (trial_test c threshold)) numbers
    ≡ lt_z (least_ℤ (map (figure_of (figure_by c.by_scatter) (run c.on.first c.on.last)) (traces_of stored numbers)))
    (greatest_ℤ (map (figure_of (figure_by c.by_scatter) (run c.on.first c.on.last)) (traces_of stored numbers)))
unfolding test_of
seen_below stored numbers c threshold e =
    ap (λ (z : ℤ). show_sides (goes_by stored (trial_test c z)) numbers) e
    ∙ (yes_or_no stored numbers (candidate_by [] c) ∙ parting stored numbers (candidate_by [] c))
