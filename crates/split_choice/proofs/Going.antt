-- The loop over a node's segments: what holds before each turn, and what a turn makes of it.
use mathlib.Core.Path.{◌≡◌, sym, ap, subst, ◌∙◌}
use mathlib.Core.Logic.{◌⊎◌, inl, inr}
use Rattle.std.specs.Prelude.{Option, None}
use mathlib.Core.Option as maybe
use mathlib.Core.List.{List, [], ◌∷◌, ◌++◌}
use Prim.Native.Nat.{ℕ, ◌+◌, ◌≤◌, ◌<◌}
use native.Mathlib.Omega.{arith}
use native.Mathlib.Numerals.{add-one}
use Rattle.integer.proofs.Lists.{In, in_cons}
use Rattle.dstree.specs.Measures.{Trace}
use Rattle.dstree.specs.Figures.{run}
use Rattle.dstree.specs.Adding.{Split, by_either, halves, cut_at, candidates_from, best}
use Rattle.dstree.specs.Formed.{Rises, rises_more}
use Rattle.tables.specs.Runs.{Inside}
use Rattle.split_choice.specs.Choosing.{chosen_by, tried, ChoiceSound}
use Rattle.split_choice.specs.declared.choice.Choice.{Choice}
use Rattle.split_choice.proofs.Cuts.{rise_in, rise_cut}
use Rattle.split_choice.proofs.Tried.{all_tried, segment_tried}

module _ (n : ℕ) (stored : List Trace) (all numbers : List ℕ) where
  -- the segments from sample `first` on are left, with the right ends `rest`
  pub record Going (found : Option Choice) (first : ℕ) (rest : List ℕ) : Type 0 where
    pub from_1 : 1 ≤ first
    pub sound : ChoiceSound n stored all numbers found
    -- what is found, and what the rest finds, is the best of all
    pub comes : tried stored all numbers (chosen_by stored all numbers found) (candidates_from all first rest) ≡ best stored all numbers
    pub rise : Rises n first rest
    -- a cut behind the segments passed leaves ends that rise
    pub cuts : (m : ℕ) → first ≤ m → m ≤ n → (In m rest → ⊥) → Rises n 1 (cut_at m all)

  pub going_start : Rises n 1 all → Going None 1 all
  going_start r = record {
    from_1 = omega arith;
    sound = tt;
    comes = all_tried stored all numbers;
    rise = r;
    cuts = λ m h k f. rise_cut m r h k f;
  }

  pub going_end : {found : Option Choice} {first : ℕ} → Going found first [] → chosen_by stored all numbers found ≡ best stored all numbers
  unfolding candidates_from
  going_end g = g.comes

  pub record SegmentTurn (first end : ℕ) (rest : List ℕ) : Type 0 where
    pub inside : Inside n first end
    pub cuts : (m : ℕ) → first ≤ m → m < end → Rises n 1 (cut_at m all)
    pub on : (found next : Option Choice) → Going found first (end ∷ rest) → chosen_by stored all numbers next
        ≡ tried stored all numbers (chosen_by stored all numbers found) (by_either (run first end) all ++ halves all (run first end)) → ChoiceSound n stored all numbers next → Going next (end + 1)
        rest

  turn_by : {first end : ℕ} {rest : List ℕ} → 1 ≤ first → Rises n first (end ∷ rest) → ((m : ℕ) → first ≤ m → m ≤ n → (In m (end ∷ rest) → ⊥) → Rises n 1 (cut_at m all)) → SegmentTurn first end rest
  turn_by {first} {end} {rest} h (rises_more a b r) cuts = record {
    inside = record { from_1 = h; rises = a; to_n = b };
    cuts = λ m k l. cuts m k (omega arith) (λ i. outside m l (in_cons i));
    on = λ found next g e s. record {
      from_1 = omega arith;
      sound = s;
      comes = ap (λ (o : maybe.Option Split). tried stored all numbers o (candidates_from all (end + 1) rest)) e
          ∙ (sym (segment_tried stored all numbers (chosen_by stored all numbers found) first end rest) ∙ g.comes);
      rise = subst (λ (x : ℕ). Rises n x rest) (sym (add-one end)) r;
      cuts = λ m k l f. cuts m (omega arith) l (λ i. passed m k f (in_cons i));
    };
  }
    where
      outside : (m : ℕ) → m < end → (m ≡ end) ⊎ In m rest → ⊥
      outside m l (inl e) = omega arith
      outside m l (inr i) = omega (arith, rise_in r i)

      passed : (m : ℕ) → end + 1 ≤ m → (In m rest → ⊥) → (m ≡ end) ⊎ In m rest → ⊥
      passed m k f (inl e) = omega arith
      passed m k f (inr i) = f i

  pub turn : {found : Option Choice} {first end : ℕ} {rest : List ℕ} → Going found first (end ∷ rest) → SegmentTurn first end rest
  turn g = turn_by g.from_1 g.rise g.cuts
