-- No candidate parts a leaf whose traces are all the same: its least figure is its greatest.
use Rattle.std.specs.Prelude.{if◌then◌else◌}
use mathlib.Core.Path.{◌≡◌, refl, sym, ap, ap₂, ◌∙◌}
use mathlib.Core.Bool.{Bool, false}
use mathlib.Core.Logic.{◌⊎◌, inl, inr}
use mathlib.Core.Option.{Option, none}
use mathlib.Core.List.{List, [], ◌∷◌, map}
use Prim.Native.Nat.{ℕ}
use native.Mathlib.Omega.{arith}
use lib.IntN.{ℤ, pos, negsuc}
use lib.ListN.{get_or}
use lib.Signed.{lt_z}
use borrow.Author.Tests.{le-ltb}
use Rattle.integer.specs.Words.{chosen, least_ℤ, greatest_ℤ}
use Rattle.integer.proofs.Lists.{In, first, later, in_nil, in_cons, least_ℤ_in, greatest_ℤ_in}
use Rattle.dstree.specs.Measures.{Trace}
use Rattle.dstree.specs.Node.{figure_of}
use Rattle.dstree.specs.Adding.{Candidate, candidates, Split, split_by, parts, gain, best, traces_of}
use Rattle.dstree.proofs.Parting.{parting}
use Rattle.split_choice.specs.Choosing.{better_split, tried}
use Rattle.split_choice.proofs.Tried.{all_tried}

-- the least and the greatest of figures that are all the same
not_below : (z : ℤ) → lt_z z z ≡ false
not_below (pos n) = le-ltb n n (omega arith)
not_below (negsuc n) = le-ltb n n (omega arith)

none_below : (z : ℤ) (l : List ℤ) → ((a : ℤ) → In a l → a ≡ z) → lt_z (least_ℤ l) (greatest_ℤ l) ≡ false
unfolding chosen
none_below z [] h = refl
none_below z (x ∷ l) h = ap₂ lt_z (h (least_ℤ (x ∷ l)) (least_ℤ_in (x ∷ l) (omega arith))) (h (greatest_ℤ (x ∷ l)) (greatest_ℤ_in (x ∷ l) (omega arith))) ∙ not_below z

module _ (stored : List Trace) (all numbers : List ℕ) (x : Trace) (same : (t : ℕ) → In t numbers → get_or stored t [] ≡ x) where
  figure_same : (f : Trace → ℤ) (l : List ℕ) → ((t : ℕ) → In t l → get_or stored t [] ≡ x) → (a : ℤ) → In a (map f (traces_of stored l)) → a ≡ f x
  figure_same f [] h a i = absurd (in_nil i)
  figure_same f (t ∷ l) h a i = by (in_cons i) (figure_same f l (λ u k. h u (later k)) a)
    where
      by : (a ≡ f (get_or stored t [])) ⊎ In a (map f (traces_of stored l)) → (In a (map f (traces_of stored l)) → a ≡ f x) → a ≡ f x
      by (inl e) rec = e ∙ ap f (h t first)
      by (inr j) rec = rec j

  whole : (c : Candidate) → parts (split_by stored numbers c) ≡ false
  whole c =
      parting stored numbers c
      ∙ none_below (figure_of c.figure c.on x) (map (figure_of c.figure c.on) (traces_of stored numbers)) (figure_same (figure_of c.figure c.on) numbers same)

  tried_none : (o : Option Split) (cs : List Candidate) → tried stored all numbers o cs ≡ o
  tried_none o [] = refl
  tried_none o (c ∷ cs) =
      ap (λ (b : Bool). tried stored all numbers (if b then better_split (gain stored all numbers) o (split_by stored numbers c) else o) cs) (whole c) ∙ tried_none o cs

  pub none_parts : best stored all numbers ≡ none
  none_parts = sym (all_tried stored all numbers) ∙ tried_none none (candidates all)
