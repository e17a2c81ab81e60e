-- A row that can be played moves the state on; another leaves it.
use Prim.Native.Nat.{ℕ, ◌+◌, ◌-◌, ◌≤◌}
use mathlib.Core.Path.{◌≡◌, refl, sym, ap, subst, ◌∙◌}
use Rattle.std.specs.Prelude.{Option, None, Some}
use mathlib.Core.List.{List, ◌++◌}
use native.Mathlib.Omega.{arith}
use lib.IntN.{ℤ}
use lib.ListN.{length, take, drop, length-drop}
use Rattle.dstree.specs.Book.{Lent}
use Rattle.tables.specs.Tables.{Tables, lent_of}
use Rattle.tables.specs.Beginning.{first_places, left}
use Rattle.calls.specs.Effects.{outcome_on}
use Rattle.replay.specs.declared.Amounts.{Amounts}
use Rattle.replay.specs.declared.Turn.{Turn}
use Rattle.replay.specs.ReplyRows.{reply_row}
use Rattle.replay.specs.Script.{State, RowAsk, ask_of, supply_at, state_at, AmountsInside, lent_by, amounts, Taken, taken, amounts_of, next_of, ahead_of, CallKind}
use Rattle.replay.specs.Script.{playable, asks, moved}
use Rattle.replay.specs.Script.{taken_by, left_by, used, state_after, Called, called, called_by, turned, turn_made, turn_of}
use Rattle.replay.proofs.OfKind.{of_kind, taken_same}
use Rattle.replay.proofs.Asking.{Playable, playable_is, asks_it}
use Rattle.replay.proofs.Lending.{next_places, so_many, ahead_moved, supply_moved}

-- ---- no call

-- as code has it
abbrev pub stays : Amounts → Turn
stays at = record { numbers = None; at = at }

pub none_is : (r : Turn) (at : Amounts) → r ≡ stays at → (lent : Lent) (memory : Tables) (pool : List ℤ) (trails sheets : List ℕ) (o :
    Option RowAsk) → o ≡ None
    → turn_of r memory pool trails sheets ≡ turn_made lent o (state_at memory pool trails sheets at)
unfolding turn_made
none_is r at e lent memory pool trails sheets o n = rw (e, n) refl

-- ---- how much is ahead

pub ahead_is : (memory : Tables) (pool : List ℤ) (trails sheets : List ℕ) (at : Amounts)
    → amounts (length pool - at.samples) (length trails - at.trails) (length sheets - at.sheets)
    ≡ ahead_of (state_at memory pool trails sheets at)
ahead_is memory pool trails sheets at = rw (
  length-drop at.samples pool,
  length-drop at.trails trails,
  length-drop at.sheets sheets,
) refl

-- ---- a call that is made

-- by the numbers of its reply, the memory that it leaves, and how far it has come
made_is : (lent : Lent) (at at' : Amounts) (memory memory' : Tables) (pool : List ℤ) (trails trails' sheets sheets' : List ℕ)
    (ask : RowAsk)
    (numbers : List ℕ)
    → numbers ≡ reply_row (outcome_on (ask_of ask) (first_places lent memory)).answer → memory'
    ≡ left (outcome_on (ask_of ask) (first_places lent memory)).after memory
    → drop at'.samples pool ≡ drop (length (taken_by ask).samples) (drop at.samples pool)
    → supply_at at'.trails trails' ≡ used (supply_at at.trails trails) (taken_by ask).trail (left_by ask (outcome_on (ask_of ask) (first_places
    lent memory)).beside).trail
    → supply_at at'.sheets sheets' ≡ used (supply_at at.sheets sheets) (taken_by ask).sheet (left_by ask (outcome_on (ask_of ask) (first_places
    lent memory)).beside).sheet
    → turned (Some numbers) (state_at memory' pool trails' sheets' at') ≡ turn_made lent (Some ask) (state_at memory pool trails sheets at)
unfolding turn_made state_after
made_is lent at at' memory memory' pool trails trails' sheets sheets' ask numbers a m p t s = rw (a, m, p, t, s)

-- a supply of which a call took the next places and left them so
abbrev pub put_over : ℕ → ℕ → List ℕ → List ℕ → List ℕ
put_over from to part l = take from l ++ (part ++ drop to l)

moved_on : (from many : ℕ) (l taken left part : List ℕ) → from ≤ length l → many ≤ length l - from → taken ≡ take many (drop from l)
    → part ≡ left → length part ≡ many
    → supply_at (from + many) (put_over from (from + many) part l) ≡ used (supply_at from l) taken left
moved_on from many l taken left part h g t p n = rw (t, ← p) (supply_moved from many l part h g n)

module _ (memory : Tables) (pool : List ℤ) (trails sheets : List ℕ) (at : Amounts)
    (inside : AmountsInside at pool trails sheets)
    (row : List ℕ)
    (k : CallKind)
    (can : playable (lent_of memory) (ahead_of (state_at memory pool trails sheets at)) row ≡ Some k) where
  abbrev here : State
  here = state_at memory pool trails sheets at

  abbrev size : Amounts
  size = k.takes row

  abbrev next : Taken
  next = next_of size here

  pub is : Playable (lent_of memory) (amounts (length pool - at.samples) (length trails - at.trails) (length sheets - at.sheets)) row k
  is = playable_is (lent_of memory) _ row k (ap (λ (a : Amounts). playable (lent_of memory) a row) (ahead_is memory pool trails sheets
      at)
      ∙ can)

  pub next_size : amounts_of next ≡ size
  next_size = rw (
    so_many at.samples size.samples pool is.samples_there,
    so_many at.trails size.trails trails is.trails_there,
    so_many at.sheets size.sheets sheets is.sheets_there,
  ) refl

  pub inside_then : AmountsInside (moved at size) pool trails sheets
  inside_then = record {
    samples_inside_lem = omega (arith, inside.samples_inside_lem, is.samples_there);
    trails_inside = omega (arith, inside.trails_inside, is.trails_there);
    sheets_inside = omega (arith, inside.sheets_inside, is.sheets_there);
  }

  -- by what the call left of what it was lent
  played_is : (numbers : List ℕ) (after memory' : Tables) (trail sheet : List ℕ)
      → (amounts_of next ≡ size → called numbers after (taken next.samples trail sheet)
      ≡ called_by (k.ask row next) (first_places (lent_by row) memory))
      → memory' ≡ left after memory → length trail ≡ size.trails → length sheet ≡ size.sheets
      → turned (Some numbers) (state_at memory' pool (put_over at.trails (at.trails + size.trails) trail trails)
      (put_over at.sheets (at.sheets + size.sheets) sheet sheets) (moved at size))
      ≡ turn_made (lent_by row) (asks (lent_of memory) row here) here
  played_is numbers after memory' trail sheet does m t s =
      let c = does next_size in
      let took : taken_by (k.ask row next) ≡ next = (of_kind _ k is.is_kind).takes_all row next next_size in
      made_is (lent_by row) at (moved at size) memory memory' pool trails _ sheets _ (k.ask row next) numbers
      (ap (λ (x : Called). x.numbers) c)
      (m ∙ ap (λ (x : Called). left x.after memory) c)
      (ahead_moved at.samples size.samples pool is.samples_there
      ∙ ap (λ (x : Taken). drop (length x.samples) (drop at.samples pool)) (sym took))
      (moved_on at.trails size.trails trails _ _ trail inside.trails_inside is.trails_there (ap (λ (x : Taken). x.trail)
      took) (ap (λ (x : Called). x.left.trail) c) t)
      (moved_on at.sheets size.sheets sheets _ _ sheet inside.sheets_inside is.sheets_there (ap (λ (x : Taken). x.sheet)
      took) (ap (λ (x : Called). x.left.sheet) c) s)
      ∙ ap (λ (o : Option RowAsk). turn_made (lent_by row) o here) (sym (asks_it (lent_of memory) row here k can))

  -- .. as code has it, which knows how far the row goes
  module _ (to : Amounts) (e : to ≡ moved at size) where
    pub next_is : taken (take (to.samples - at.samples) (drop at.samples pool)) (take (to.trails - at.trails) (drop at.trails
        trails))
        (take (to.sheets - at.sheets) (drop at.sheets sheets)) ≡ next
    next_is = subst (λ (z : Amounts). taken (take (z.samples - at.samples) (drop at.samples pool)) (take (z.trails - at.trails)
        (drop at.trails trails))
        (take (z.sheets - at.sheets) (drop at.sheets sheets)) ≡ next) (sym e)
        (taken_same (next_places at.samples size.samples pool) (next_places at.trails size.trails trails) (next_places at.sheets size.sheets sheets))

    pub played_to : (numbers : List ℕ) (after memory' : Tables) (trail sheet : List ℕ)
        → (amounts_of next ≡ size → called numbers after (taken next.samples trail sheet)
        ≡ called_by (k.ask row next) (first_places (lent_by row) memory))
        → memory' ≡ left after memory → length trail ≡ size.trails → length sheet ≡ size.sheets
        → turned (Some numbers) (state_at memory' pool (put_over at.trails to.trails trail trails)
        (put_over at.sheets to.sheets sheet
        sheets) to)
        ≡ turn_made (lent_by row) (asks (lent_of memory) row here) here
    played_to numbers after memory' trail sheet does m t s =
        subst (λ (z : Amounts). turned (Some numbers) (state_at memory' pool (put_over at.trails z.trails trail trails)
        (put_over at.sheets z.sheets sheet sheets) z)
        ≡ turn_made (lent_by row) (asks (lent_of memory) row here) here) (sym e)
        (played_is numbers after memory' trail sheet does m t s)
