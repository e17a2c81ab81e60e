-- The two ways in which a call's own conditions stand behind those of its tables.
use Prim.Native.Nat.{ℕ}
use Rattle.std.specs.Prelude.{Result, Ok, Err, ⊤}
use Rattle.std.specs.Result.{IsErrAnd}
use mathlib.Core.Path.{◌≡◌, sym, ap, ◌∙◌}
use mathlib.Core.Bool.{not}
use mathlib.Core.Option.{none}
use mathlib.Core.List.{List, [], ◌∷◌, ◌++◌}
use lib.IntN.{ℤ}
use Rattle.dstree.specs.Refusals as word
use Rattle.dstree.specs.Refusals.{Condition, ◌refuses◌, first_of}
use Rattle.dstree.proofs.Conditions.{first_some, first_none}
use Rattle.tables.specs.Tables.{tables, labelled_tables, lent_of, measures_of}
use Rattle.tables.specs.View.{tree_in, kinds_named, well_formed}
use Rattle.tables.specs.Judge.{lent_conditions_of}
use Rattle.tables.specs.Answers.{word_of, found_by, made_conditions}
use Rattle.tables.proofs.Samples.{made_is}
use Rattle.tables.specs.declared.Refusal.{Refusal}
use Rattle.tables.proofs.Passed.{passed}

-- lengths and measures refuse nothing, so that the contents decide; neither samples nor search work nor labels bear on them
pub by_contents : (control : List ℕ) (samples nodes : List ℤ) (links work labels : List ℕ)
    → let t = labelled_tables control samples nodes links work labels in
    first_of (lent_conditions_of (lent_of t) (measures_of t)) ≡ none
    → first_of (made_conditions t) ≡ first_of (not (well_formed (tables control [] nodes links [])) refuses word.spoiled ∷ [])
unfolding well_formed kinds_named tree_in
by_contents control samples nodes links work labels e = let t = labelled_tables control samples nodes links work labels in
    ap first_of (made_is t)
    ∙ first_none (lent_conditions_of (lent_of t) (measures_of t)) (not (well_formed t) refuses word.spoiled ∷ []) e

-- what the first conditions refuse is what is refused, and so if `?` hands it on
pub refused_first : (first own : List Condition) (why : Refusal) → found_by (Err why) ≡ first_of first → found_by (Err why) ≡ first_of (first ++ own)
unfolding found_by
refused_first first own why e = sym (first_some first own (word_of why) (sym e))

pub passed_first : (first own : List Condition) (r : Result ⊤ Refusal) (why : Refusal) → IsErrAnd r (λ y. y ≡ why) → found_by (Err why) ≡ first_of first
    → found_by r ≡ first_of (first ++ own)
passed_first first own r why same e = rw (passed r why same) (refused_first first own why e)

-- .. and where they refuse nothing, the others decide
pub none_first_of : (first own : List Condition) → found_by (Ok tt) ≡ first_of first → first_of (first ++ own) ≡ first_of own
unfolding found_by
none_first_of first own e = first_none first own (sym e)
