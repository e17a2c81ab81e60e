-- The kinds of rows: what holds of each, and how a call of one follows its definition.
use Prim.Native.Nat.{ℕ, zero, suc, ◌≤◌}
use mathlib.Core.Path.{◌≡◌, refl, sym, ap, subst, ◌∙◌}
use Rattle.std.specs.Prelude.{None, Some}
use Rattle.std.proofs.lemmas.Option.{none-some, same_Some}
use mathlib.Core.List.{List, [], ◌∷◌}
use native.Mathlib.Omega.{arith}
use lib.IntN.{ℤ}
use lib.ListN.{length}
use lib.Dec.{T}
use Rattle.integer.specs.Lists.{All, all_none, all_more}
use Rattle.dstree.specs.Labels.{is_label}
use Rattle.dstree.specs.Sheet.{are_bytes}
use Rattle.dstree.specs.Book.{Answer}
use Rattle.tables.specs.Tables.{Tables}
use Rattle.calls.specs.Outcome.{Outcome, outcome}
use Rattle.calls.specs.Effects.{outcome_on}
use Rattle.calls.specs.Follows.{Typed}
use Rattle.replay.specs.declared.Amounts.{Amounts}
use Rattle.replay.specs.ReplyRows.{reply_row}
use Rattle.replay.specs.Script.{RowAsk, ask_of, amounts, Taken, taken, amounts_of, CallKind, opening_calls, adding_calls, matching_calls, writing_calls}
use Rattle.replay.specs.Script.{reading_calls, kinds, call_kind_at, taken_by, left_by, called, called_by, RepliesTo}

-- ---- what nothing is taken of is empty

empty : {A : Type 0} (l : List A) → length l ≡ 0 → l ≡ []
empty [] e = refl
empty (x ∷ l) e = absurd (omega arith)

pub taken_same : {samples samples' : List ℤ} {trail trail' sheet sheet' : List ℕ} → samples ≡ samples' → trail ≡ trail' → sheet ≡ sheet'
    → taken samples trail sheet ≡ taken samples' trail' sheet'
taken_same a b c = rw (a, b, c)

module _ (x : Taken) where
  no_samples : {c : Amounts} → amounts_of x ≡ c → c.samples ≡ 0 → x.samples ≡ []
  no_samples e z = empty x.samples (ap (λ (c : Amounts). c.samples) e ∙ z)

  no_trail : {c : Amounts} → amounts_of x ≡ c → c.trails ≡ 0 → x.trail ≡ []
  no_trail e z = empty x.trail (ap (λ (c : Amounts). c.trails) e ∙ z)

  no_sheet : {c : Amounts} → amounts_of x ≡ c → c.sheets ≡ 0 → x.sheet ≡ []
  no_sheet e z = empty x.sheet (ap (λ (c : Amounts). c.sheets) e ∙ z)

  -- a row that takes bytes alone
  bytes_only : {n : ℕ} {sheet sheet' : List ℕ} → amounts_of x ≡ amounts 0 0 n → sheet ≡ sheet'
      → taken x.samples x.trail sheet ≡ taken [] [] sheet'
  bytes_only e s = taken_same (no_samples e refl) (no_trail e refl) s

-- ---- what holds of each kind

pub record KindLaws (k : CallKind) : Type 0 where
  -- its call takes all that its row takes
  pub takes_all : (row : List ℕ) (x : Taken) → amounts_of x ≡ k.takes row → taken_by (k.ask row x) ≡ x
  -- and what it brings is as the slices' types say
  pub typed : (row : List ℕ) (x : Taken) → T (are_bytes x.sheet) → Typed (ask_of (k.ask row x))

of_openings : KindLaws opening_calls
unfolding taken_by Typed ask_of
of_openings = record {
  takes_all = λ row x e. taken_same (sym (no_samples x e refl)) (sym (no_trail x e refl)) (sym (no_sheet x e refl));
  typed = λ row x b. tt;
}

of_addings : KindLaws adding_calls
unfolding taken_by Typed ask_of is_label
of_addings = record {
  takes_all = λ row x e. taken_same refl (sym (no_trail x e refl)) (sym (no_sheet x e refl));
  typed = λ row x b. tt;
}

of_matchings : KindLaws matching_calls
unfolding taken_by Typed ask_of
of_matchings = record { takes_all = λ row x e. taken_same refl refl (sym (no_sheet x e refl)); typed = λ row x b. tt }

of_writings : KindLaws writing_calls
unfolding taken_by Typed ask_of
of_writings = record { takes_all = λ row x e. sym (bytes_only x e refl); typed = λ row x b. tt }

of_readings : KindLaws reading_calls
unfolding taken_by Typed ask_of
of_readings = record { takes_all = λ row x e. sym (bytes_only x e refl); typed = λ row x b. b }

of_kinds : All KindLaws kinds
of_kinds = all_more of_openings (all_more of_addings (all_more of_matchings (all_more of_writings (all_more of_readings all_none))))

of_some : {P : CallKind → Type 0} (among : List CallKind) → All P among → (number : ℕ) (k : CallKind) → call_kind_at among number ≡ Some k
    → P k
unfolding call_kind_at
of_some [] all number k e = absurd (none-some k e)
of_some {P} (k₀ ∷ others) (all_more h rest) zero k e = subst P (same_Some k₀ k e) h
of_some (k₀ ∷ others) (all_more h rest) (suc number) k e = of_some others rest number k e

pub of_kind : (number : ℕ) (k : CallKind) → call_kind_at kinds number ≡ Some k → KindLaws k
of_kind = of_some kinds of_kinds

-- behind the last one there is none
pub no_kind : (number : ℕ) → 5 ≤ number → None ≡ call_kind_at kinds number
unfolding call_kind_at
no_kind zero h = absurd (omega arith)
no_kind (suc zero) h = absurd (omega arith)
no_kind (suc (suc zero)) h = absurd (omega arith)
no_kind (suc (suc (suc zero))) h = absurd (omega arith)
no_kind (suc (suc (suc (suc zero)))) h = absurd (omega arith)
no_kind (suc (suc (suc (suc (suc n))))) h = refl

-- ---- a call follows its definition

-- its own equation, with the reply as numbers
pub replies : (ask : RowAsk) (t : Tables) {t' : Tables} {numbers : List ℕ} {a : Answer} {beside : List (List ℕ)} → numbers ≡ reply_row a
    → outcome a t' beside ≡ outcome_on (ask_of ask) t → RepliesTo ask t numbers t' beside
replies ask t h does = (
  h ∙ ap (λ (o : Outcome). reply_row o.answer) does,
  ap (λ (o : Outcome). o.after) does,
  ap (λ (o : Outcome). o.beside) does,
)

called_is : (ask : RowAsk) (t t' : Tables) (numbers : List ℕ) (y : Taken) (beside : List (List ℕ)) → RepliesTo ask t numbers t' beside
    → y ≡ left_by ask beside → called numbers t' y ≡ called_by ask t
called_is ask t t' numbers y beside r e = rw (r.0, r.1, e, r.2)

module _ (row : List ℕ) (x : Taken) (t t' : Tables) (numbers : List ℕ) where
  pub opens_it : RepliesTo (opening_calls.ask row x) t numbers t' [] → amounts_of x ≡ opening_calls.takes row
      → called numbers t' x ≡ called_by (opening_calls.ask row x) t
  unfolding left_by
  opens_it r e = called_is (opening_calls.ask row x) t t' numbers x [] r
      (taken_same (no_samples x e refl) (no_trail x e refl) (no_sheet x e refl))

  pub adds_it : RepliesTo (adding_calls.ask row x) t numbers t' [] → amounts_of x ≡ adding_calls.takes row
      → called numbers t' x ≡ called_by (adding_calls.ask row x) t
  unfolding left_by
  adds_it r e = called_is (adding_calls.ask row x) t t' numbers x [] r
      (taken_same refl (no_trail x e refl) (no_sheet x e refl))

  pub matches_it : (trail : List ℕ) → RepliesTo (matching_calls.ask row x) t numbers t' (trail ∷ [])
      → amounts_of x ≡ matching_calls.takes row
      → called numbers t' (taken x.samples trail x.sheet) ≡ called_by (matching_calls.ask row x) t
  unfolding left_by
  matches_it trail r e = called_is (matching_calls.ask row x) t t' numbers (taken x.samples trail x.sheet) (trail ∷ []) r
      (taken_same refl refl (no_sheet x e refl))

  pub writes_it : (sheet : List ℕ) → RepliesTo (writing_calls.ask row x) t numbers t' (sheet ∷ []) → amounts_of x ≡ writing_calls.takes row
      → called numbers t' (taken x.samples x.trail sheet) ≡ called_by (writing_calls.ask row x) t
  unfolding left_by
  writes_it sheet r e = called_is (writing_calls.ask row x) t t' numbers (taken x.samples x.trail sheet) (sheet ∷ []) r
      (bytes_only x e refl)

  pub reads_it : RepliesTo (reading_calls.ask row x) t numbers t' [] → amounts_of x ≡ reading_calls.takes row
      → called numbers t' x ≡ called_by (reading_calls.ask row x) t
  unfolding left_by
  reads_it r e = called_is (reading_calls.ask row x) t t' numbers x [] r
      (bytes_only x e refl)
