-- "3 never arises from these tables", nor does document 02's 13: no condition of the book's refuses with one of them, nor does what a sheet
-- is refused for.
use Prim.Native.Nat.{ℕ, suc}
use mathlib.Core.Path.{◌≡◌, refl, sym, subst}
use mathlib.Core.Bool.{Bool, true}
use mathlib.Core.Option.{Option, none, some}
use mathlib.Core.Logic.{◌⊎◌, inl, inr}
use mathlib.Core.List.{List, [], ◌∷◌, ◌++◌, append_assoc}
use native.Mathlib.Omega.{arith}
use lib.ListN.{length}
use lib.Dec.{T}
use Rattle.integer.specs.Words.{every}
use Rattle.integer.proofs.Tests.{passes}
use Rattle.dstree.specs.Measures.{Trace, Measures}
use Rattle.dstree.specs.Matching.{leaves}
use Rattle.dstree.specs.Pair.{indexed, Which, of_factory, of_bench, Indexed, Other, pair_conditions, pair_front, pair_rest}
use Rattle.dstree.specs.Refusals.{Refusal, number_of, Condition, ◌refuses◌, first_of}
use Rattle.dstree.specs.Sheet.{Format, blocks_in, kind_in, torn_conditions, bad_conditions, conditions_as, Judged, refused, holds, library_in, judged_by}
use Rattle.dstree.specs.SheetWidths.{is_wide, format_in, traces_held, range_conditions, sheet_conditions, judge_sheet}
use Rattle.dstree.specs.Book.{Layout, Lent, Ask, opening, adding, searching, writing, reading, importing, exporting, checking, labelling, pairing}
use Rattle.dstree.specs.Book.{Call, refusing, Reply, Book, book_tree, short_conditions, Entry, pairing_entry}
use Rattle.dstree.specs.Book.{reading_conditions, opening_entry, adding_entry, writing_entry, reading_entry, importing_entry, exporting_entry}
use Rattle.dstree.specs.Book.{checking_entry, labelling_entry}
use Rattle.dstree.specs.Book.{entry_of, entry, judge, turn}
use Rattle.dstree.specs.Book.{reply_unless, reply_of, replies_of}
use Rattle.dstree.proofs.Conditions.{first_either}
use Rattle.calls.specs.Demands.{Said, said_first, said_later, FromOther, NeverFromThese}
use Rattle.calls.proofs.OfArguments.{if_any, of_arguments, other, first_other}
use Rattle.calls.proofs.Searches.{laws}

-- ---- a sheet

-- what a sheet is refused for
abbrev refusal_in : Judged → Option Refusal
refusal_in (refused why) = some why
refusal_in (holds m traces labels) = none

module _ (f : Format) where
  torn_other : (before number : ℕ) (blocks : List (List ℕ)) (rest : List Condition) → T (every other rest)
      → T (every other (torn_conditions f before number blocks ++ rest))
  unfolding torn_conditions every of_arguments number_of
  torn_other before number [] rest t = t
  torn_other before number (b ∷ blocks) rest t = torn_other (kind_in b) (suc number) blocks rest t

  bad_other : (blocks : List (List ℕ)) (rest : List Condition) → T (every other rest) → T (every other (bad_conditions f blocks ++ rest))
  unfolding bad_conditions every of_arguments number_of
  bad_other [] rest t = t
  bad_other (first ∷ others) rest t = t

  format_other : (bytes : List ℕ) (rest : List Condition) → T (every other rest) → T (every other (conditions_as f bytes ++ rest))
  unfolding conditions_as every of_arguments number_of
  format_other bytes rest t =
      let torn : List Condition = torn_conditions f 0 0 (blocks_in bytes) in
      let bad : List Condition = bad_conditions f (blocks_in bytes) in
      subst (λ (l : List Condition). T (every other l)) (sym (append_assoc torn bad rest))
      (torn_other 0 0 (blocks_in bytes) (bad ++ rest) (bad_other (blocks_in bytes) rest t))

  library_other : (blocks : List (List ℕ)) → T (if_any of_arguments (refusal_in (library_in f blocks)))
  unfolding library_in if_any of_arguments number_of
  library_other [] = tt
  library_other (first ∷ others) = tt

-- .. in the format that it says, with what document 02, §9, adds
range_other : (says_wide : Bool) (traces : List Trace) → T (every other (range_conditions says_wide traces))
unfolding range_conditions every of_arguments number_of
range_other says_wide traces = tt

judge_other : (bytes : List ℕ) → T (if_any of_arguments (refusal_in (judge_sheet bytes)))
unfolding judge_sheet sheet_conditions judged_by if_any
judge_other bytes = by (first_of (sheet_conditions bytes))
    (first_other (sheet_conditions bytes)
    (format_other f bytes (range_conditions (is_wide bytes) traces) (range_other (is_wide bytes) traces)))
  where
    f : Format
    f = format_in bytes

    traces : List Trace
    traces = traces_held f (blocks_in bytes)

    by : (o : Option Refusal) → T (if_any of_arguments o) → T (if_any of_arguments (refusal_in (judged_by o (library_in f (blocks_in bytes)))))
    by none t = library_other f (blocks_in bytes)
    by (some why) t = t

-- ---- another library

-- a refusal for what the tables hold is none of these conditions' refusals
not_these : (l : List Condition) → T (every other l) → (w : Refusal) → (T (of_arguments w) → ⊥) → first_of l ≡ some w → ⊥
unfolding if_any
not_these l t w never e = never (subst (λ (o : Option Refusal). T (if_any of_arguments o)) e (first_other l t))

abbrev pair_own : ℕ → Indexed → Other → Trace → List ℕ → List Condition
pair_own n own o query trail = pair_conditions n o.n (length own.traces) (length o.library.traces) (length (leaves own.tree))
    (length (leaves o.library.tree)) query trail o.trail

module _ (w : Refusal) (is_not : T (of_arguments w) → ⊥) where
  pub front_from : (which : Which) (o : Other) → first_of (pair_front which o) ≡ some w → first_of o.conditions ≡ some w
  unfolding first_of
  front_from of_factory o e = let z : ◌≡◌ {A = ℕ} 0 1 = cc in absurd (omega arith)
  front_from of_bench o e = e

  pub rest_from : (which : Which) (n : ℕ) (own : Indexed) (o : Other) (query : Trace) (trail : List ℕ)
      → first_of (pair_rest which n own o query trail) ≡ some w → first_of o.conditions ≡ some w
  unfolding pair_rest every of_arguments number_of
  rest_from of_factory n own o query trail e = by (first_either o.conditions _ w e)
    where
      by : (first_of o.conditions ≡ some w) ⊎ (first_of (pair_own n own o query trail) ≡ some w) → first_of o.conditions ≡ some w
      by (inl q) = q
      by (inr q) = absurd (not_these (pair_own n own o query trail) tt w is_not q)
  rest_from of_bench n own o query trail e = absurd (not_these _ tt w is_not e)

-- ---- the replies of a list

pub none_said : {c : Call} {r : Reply} → Said c r [] [] → ⊥
none_said i = nothing i refl
  where
    nothing : {c : Call} {r : Reply} {calls : List Call} {said : List Reply} → Said c r calls said → length calls ≡ 0 → ⊥
    nothing said_first e = omega arith
    nothing (said_later i) e = omega arith

-- what holds of the first call's reply and of the others' holds of each
pub said_cases : (P : Call → Reply → Type 0) {c d : Call} {r s : Reply} {calls : List Call} {said : List Reply} → P d s
    → ((c : Call) (r : Reply) → Said c r calls said → P c r) → Said c r (d ∷ calls) (s ∷ said) → P c r
said_cases P one others said_first = one
said_cases P one others (said_later i) = others _ _ i

-- ---- the book

module _ (layout : Layout) where
  judged_other : (lent : Lent) (j : Judged) → T (if_any of_arguments (refusal_in j)) → T (every other (reading_conditions layout lent j))
  unfolding reading_conditions every of_arguments number_of if_any
  judged_other lent (refused why) h = passes (other (true refuses why)) (true ∷ []) (h, tt)
  judged_other lent (holds m traces labels) h = tt

  pub opening_other : (lent : Lent) (b : Book) (m : Measures) → T (every other (opening_entry layout lent b m).conditions)
  unfolding opening_entry every of_arguments number_of
  opening_other lent b m = tt

  pub reading_other : (lent : Lent) (b : Book) (bytes : List ℕ) → T (every other (reading_entry layout lent b bytes).conditions)
  unfolding reading_entry
  reading_other lent b bytes = judged_other lent (judge_sheet bytes) (judge_other bytes)

  -- a call that the book refuses so is lent another library's tables, which are refused so
  entry_from : (w : Refusal) → (T (of_arguments w) → ⊥) → (lent : Lent) (b : Book) (ask : Ask)
      → first_of (entry_of layout lent b ask).conditions ≡ some w → FromOther w ask
  unfolding entry_of opening_entry adding_entry writing_entry importing_entry exporting_entry checking_entry labelling_entry pairing_entry every of_arguments
      number_of FromOther
  entry_from w is_not lent b (opening m) e = not_these _ tt w is_not e
  entry_from w is_not lent b (adding x l) e = not_these _ tt w is_not e
  entry_from w is_not lent b (searching q) e = not_these _ ((laws q).by_arguments b.measures (length b.traces) (book_tree b)) w is_not e
  entry_from w is_not lent b (writing sheet) e = not_these _ tt w is_not e
  entry_from w is_not lent b (reading bytes) e = not_these _ (reading_other lent b bytes) w is_not e
  entry_from w is_not lent b (importing bytes) e = not_these _ tt w is_not e
  entry_from w is_not lent b (exporting number rate buffer) e = not_these _ tt w is_not e
  entry_from w is_not lent b checking e = not_these _ tt w is_not e
  entry_from w is_not lent b (labelling number) e = not_these _ tt w is_not e
  entry_from w is_not lent b (pairing which o query trail) e = by (first_either (pair_front which o) _ w e)
    where
      own : Indexed
      own = indexed b.traces (book_tree b)

      rest : List Condition
      rest = pair_rest which b.measures.n own o query trail

      behind : (first_of (short_conditions layout lent b.measures) ≡ some w) ⊎ (first_of rest ≡ some w) → first_of o.conditions ≡ some w
      behind (inl q) = absurd (not_these (short_conditions layout lent b.measures) tt w is_not q)
      behind (inr q) = rest_from w is_not which b.measures.n own o query trail q

      by : (first_of (pair_front which o) ≡ some w) ⊎ (first_of (short_conditions layout lent b.measures ++ rest) ≡ some w)
          → first_of o.conditions ≡ some w
      by (inl q) = front_from w is_not which o q
      by (inr q) = behind (first_either (short_conditions layout lent b.measures) rest w q)

  refused_by : (o : Option Refusal) (beside : List (List ℕ)) (e : Entry) (w : Refusal) → (reply_unless o beside e).answer ≡ refusing w → o ≡ some w
  unfolding reply_unless
  refused_by none beside e w q = let z : ◌≡◌ {A = ℕ} 0 1 = cc in absurd (omega arith)
  refused_by (some why) beside e w q = cc

  never_one : (w : Refusal) → (T (of_arguments w) → ⊥) → (b : Book) (c : Call) → (reply_of layout b c).answer ≡ refusing w → FromOther w c.ask
  unfolding reply_of judge
  never_one w is_not b c q = entry_from w is_not c.lent b c.ask (refused_by (judge layout b c) _ (entry layout b c) w q)

  -- no call of a list is refused for what the tables hold
  pub never : (w : Refusal) → (T (of_arguments w) → ⊥) → (b : Book) (calls : List Call) → NeverFromThese w calls (replies_of layout b calls)
  unfolding replies_of
  never w is_not b [] c r i e = absurd (none_said i)
  never w is_not b (d ∷ calls) c r i e =
      said_cases (λ (c : Call) (r : Reply). r.answer ≡ refusing w → FromOther w c.ask) (never_one w is_not b d)
      (never w is_not (turn layout b d) calls) i e
