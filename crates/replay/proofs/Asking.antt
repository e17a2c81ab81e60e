-- The call that a row asks for, and what is known of it: it is lent no more than there is, and its arguments are what the slices' types
-- say.
use Rattle.std.specs.Prelude.{if◌then◌else◌}
use Prim.Native.Nat.{ℕ, ◌≤◌}
use mathlib.Core.Path.{◌≡◌, refl, ap, subst}
use mathlib.Core.Bool.{Bool, true, false}
use Rattle.std.specs.Prelude.{Option, None, Some}
use Rattle.std.proofs.lemmas.Option.{none-some, same_Some}
use mathlib.Core.List.{List, [], ◌∷◌}
use lib.ListN.{length}
use lib.Dec.{T, leb, ltb, leb→le}
use Rattle.integer.proofs.Tests.{passed, is_true}
use Rattle.integer.proofs.Lists.{every_take, every_drop}
use Rattle.dstree.specs.Sheet.{are_bytes}
use Rattle.dstree.specs.Book.{Lent}
use Rattle.tables.specs.Tables.{lent_of}
use Rattle.tables.specs.Beginning.{LentWithin}
use Rattle.calls.specs.Follows.{Typed}
use Rattle.replay.specs.declared.Amounts.{Amounts}
use Rattle.replay.specs.Script.{State, RowAsk, ask_of, number_at, lent_by, next_of, ahead_of, CallKind, kinds, call_kind_at, fits_in, enough, if_enough, playable}
use Rattle.replay.specs.Script.{asked_by, asks}
use Rattle.replay.specs.Script.{taken_by, state_after}
use Rattle.replay.proofs.OfKind.{of_kind}

-- ---- which call

pub fits_within : (lent lengths : Lent) → fits_in lent lengths ≡ true → LentWithin lent lengths
unfolding fits_in
fits_within lent lengths e =
    let p = passed (leb lent.control lengths.control) (leb lent.samples lengths.samples ∷ leb lent.nodes lengths.nodes
    ∷ leb lent.links lengths.links ∷ leb lent.work lengths.work ∷ leb lent.labels lengths.labels ∷ []) (is_true e) in
    record {
      control_within = leb→le lent.control lengths.control p.0;
      samples_within = leb→le lent.samples lengths.samples p.1.0;
      nodes_within = leb→le lent.nodes lengths.nodes p.1.1.0;
      links_within = leb→le lent.links lengths.links p.1.1.1.0;
      work_within = leb→le lent.work lengths.work p.1.1.1.1.0;
      labels_within = leb→le lent.labels lengths.labels p.1.1.1.1.1;
    }

if_some : {A : Type 0} (b : Bool) (o : Option A) (x : A) → (if b then o else None) ≡ Some x → (b ≡ true) × (o ≡ Some x)
if_some true o x e = (refl, e)
if_some false o x e = absurd (none-some x e)

-- a row that can be played
pub record Playable (lengths : Lent) (ahead : Amounts) (row : List ℕ) (k : CallKind) : Type 0 where
  pub is_kind : call_kind_at kinds (number_at row 0) ≡ Some k
  pub within : LentWithin (lent_by row) lengths
  pub samples_there : (k.takes row).samples ≤ ahead.samples
  pub trails_there : (k.takes row).trails ≤ ahead.trails
  pub sheets_there : (k.takes row).sheets ≤ ahead.sheets

if_enough_lem : (o : Option CallKind) (row : List ℕ) (ahead : Amounts) (k : CallKind) → if_enough o row ahead ≡ Some k → (o
    ≡ Some k) × (enough (k.takes row) ahead ≡ true)
unfolding if_enough
if_enough_lem None row ahead k e = absurd (none-some k e)
if_enough_lem (Some k₀) row ahead k e =
    let f = if_some (enough (k₀.takes row) ahead) (Some k₀) k e in
    (f.1, subst (λ (k : CallKind). enough (k.takes row) ahead ≡ true) (same_Some k₀ k f.1) f.0)

pub enough_is : (size ahead : Amounts) → enough size ahead ≡ true
    → (size.samples ≤ ahead.samples) × (size.trails ≤ ahead.trails) × (size.sheets ≤ ahead.sheets)
unfolding enough
enough_is size ahead e =
    let p = passed (leb size.samples ahead.samples) (leb size.trails ahead.trails ∷ leb size.sheets ahead.sheets ∷ [])
    (is_true e) in (
      leb→le size.samples ahead.samples p.0,
      leb→le size.trails ahead.trails p.1.0,
      leb→le size.sheets ahead.sheets p.1.1,
    )

pub playable_is : (lengths : Lent) (ahead : Amounts) (row : List ℕ) (k : CallKind) → playable lengths ahead row ≡ Some k
    → Playable lengths ahead row k
unfolding playable
playable_is lengths ahead row k e =
    let f = if_some (fits_in (lent_by row) lengths) (if_enough (call_kind_at kinds (number_at row 0)) row ahead) k e in
    let g = if_enough_lem (call_kind_at kinds (number_at row 0)) row ahead k f.1 in
    let there = enough_is (k.takes row) ahead g.1 in
    record {
      is_kind = g.0;
      within = fits_within (lent_by row) lengths f.0;
      samples_there = there.0;
      trails_there = there.1;
      sheets_there = there.2;
    }

pub asks_it : (lengths : Lent) (row : List ℕ) (s : State) (k : CallKind) → playable lengths (ahead_of s) row ≡ Some k
    → asks lengths row s ≡ Some (k.ask row (next_of (k.takes row) s))
unfolding asks asked_by
asks_it lengths row s k e = ap (λ (o : Option CallKind). asked_by o row s) e

pub asks_not : (lengths : Lent) (row : List ℕ) (s : State) → playable lengths (ahead_of s) row ≡ None → asks lengths row s ≡ None
unfolding asks asked_by
asks_not lengths row s e = ap (λ (o : Option CallKind). asked_by o row s) e

-- ---- what code finds of a row

pub not_lent : (lengths : Lent) (ahead : Amounts) (row : List ℕ) → fits_in (lent_by row) lengths ≡ false → playable lengths ahead row ≡ None
unfolding playable
not_lent lengths ahead row e = rw e

-- that the tables are long enough leaves the kind, and what is ahead
pub is_lent : (lengths : Lent) (ahead : Amounts) (row : List ℕ) → fits_in (lent_by row) lengths ≡ true → (o : Option CallKind)
    → o ≡ call_kind_at kinds (number_at row 0) → playable lengths ahead row ≡ if_enough o row ahead
unfolding playable
is_lent lengths ahead row e o k = rw (e, ← k)

-- ---- the call that is asked for

record Asked (lengths : Lent) (row : List ℕ) (s : State) (ask : RowAsk) : Type 0 where
  pub kind : CallKind
  pub can : playable lengths (ahead_of s) row ≡ Some kind
  pub ask_is : kind.ask row (next_of (kind.takes row) s) ≡ ask

asked_is : (lengths : Lent) (row : List ℕ) (s : State) (ask : RowAsk) → asks lengths row s ≡ Some ask → Asked lengths row s ask
unfolding asks asked_by
asked_is lengths row s ask e = by (playable lengths (ahead_of s) row) refl e
  where
    by : (o : Option CallKind) → playable lengths (ahead_of s) row ≡ o → asked_by o row s ≡ Some ask → Asked lengths row s ask
    by None f e = absurd (none-some ask e)
    by (Some k) f e = record { kind = k; can = f; ask_is = same_Some (k.ask row (next_of (k.takes row) s)) ask e }

-- ---- what is known of it

-- what the slices' types say of a state, and that its tables are as long as they were
pub record SoundState (lengths : Lent) (s : State) : Type 0 where
  pub as_long : lent_of s.memory ≡ lengths
  pub of_bytes : T (are_bytes s.sheets.ahead)

abbrev pub is_byte : ℕ → Bool
is_byte byte = ltb byte 256

pub asked_typed : (lengths : Lent) (row : List ℕ) (s : State) → SoundState lengths s → (ask : RowAsk) → asks lengths row s ≡ Some ask
    → Typed (ask_of ask)
unfolding are_bytes
asked_typed lengths row s sound ask e =
    let a = asked_is lengths row s ask e in
    let k = a.kind in
    let size = k.takes row in
    subst (λ (ask : RowAsk). Typed (ask_of ask)) a.ask_is
    ((of_kind (number_at row 0) k (playable_is lengths (ahead_of s) row k a.can).is_kind).typed row (next_of size s)
    (every_take is_byte size.sheets s.sheets.ahead sound.of_bytes))

-- a call is asked for only where it is lent no more than there is
pub asked_within : (lengths : Lent) (row : List ℕ) (s : State) (ask : RowAsk) → asks lengths row s ≡ Some ask → LentWithin (lent_by row) lengths
asked_within lengths row s ask e =
    let a = asked_is lengths row s ask e in
    (playable_is lengths (ahead_of s) row a.kind a.can).within

-- a call takes from what is ahead
pub sound_after : (lengths : Lent) (s : State) → SoundState lengths s → (lent : Lent) (ask : RowAsk)
    → lent_of (state_after lent ask s).memory ≡ lengths → SoundState lengths (state_after lent ask s)
unfolding state_after are_bytes
sound_after lengths s sound lent ask e = record {
  as_long = e;
  of_bytes = every_drop is_byte (length (taken_by ask).sheet) s.sheets.ahead sound.of_bytes;
}
