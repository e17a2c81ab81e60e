-- Every list of document 01's calls that code can be asked to make has a script: the calls' rows, samples, trails and sheets, each one
-- behind another.
use Rattle.std.specs.Prelude.{if◌then◌else◌}
use Prim.Native.Nat.{ℕ, ◌<◌, ◌^◌}
use native.Mathlib.Nat.{lt_of_le_of_lt}
use native.Mathlib.Omega.{arith}
use mathlib.Core.Path.{◌≡◌, refl, sym, ap, ◌∙◌}
use mathlib.Core.Bool.{Bool, true}
use Rattle.std.specs.Prelude.{Option, None, Some}
use mathlib.Core.List.{List, [], ◌∷◌, ◌++◌, map, foldl, append_assoc, append-nil}
use lib.IntN.{ℤ}
use lib.ListN.{length, take, drop, length-append}
use lib.Seq.{take-append_seam, drop-append_seam}
use lib.Dec.{T, leb, le→leb, lit<}
use borrow.Author.Tests.{le-leb}
use Rattle.integer.proofs.Tests.{passes, test_true}
use Rattle.integer.specs.Lists.{All, all_none, all_more}
use Rattle.integer.proofs.Lists.{all_append, every_all, all_every}
use Rattle.dstree.specs.Sheet.{are_bytes}
use Rattle.dstree.specs.Book.{Lent}
use Rattle.tables.specs.Tables.{Tables, lent_of}
use Rattle.tables.specs.Beginning.{LentWithin}
use Rattle.replay.specs.Script.{RowAsk, an_opening, an_adding, a_matching, a_writing, a_reading, State, lent_by, Taken, amounts_of, next_of, ahead_of, CallKind}
use Rattle.replay.specs.Script.{opening_calls, adding_calls, matching_calls, writing_calls, reading_calls, kinds, call_kind_at}
use Rattle.replay.specs.Script.{fits_in, enough, if_enough, playable, asked_by, asks, taken_by, state_after, turn_made, Played, begun}
use Rattle.replay.specs.Script.{played_one, played_row}
use Rattle.replay.specs.declared.Amounts.{Amounts}
use Rattle.replay.specs.Scripts.{Number, Mark, Given, ListCall, call_of, ArgumentsFit, Possible, MachineLengths, Script}
use Rattle.replay.proofs.ReadBack.{script_of, rows_of_script}
use Rattle.replay.proofs.Asking.{is_byte}

-- ---- a call's row

lengths_and : Lent → List ℕ → List ℕ
lengths_and lent own = lent.control ∷ lent.samples ∷ lent.nodes ∷ lent.links ∷ lent.work ∷ lent.labels ∷ own

-- by the number of its kind and its own numbers
record Row (ask : RowAsk) : Type 0 where
  pub number : ℕ
  pub own : List ℕ
  pub kind : CallKind
  pub is_kind : call_kind_at kinds number ≡ Some kind
  pub takes_that : (lent : Lent) → kind.takes (number ∷ lengths_and lent own) ≡ amounts_of (taken_by ask)
  pub asks_that : (lent : Lent) → kind.ask (number ∷ lengths_and lent own) (taken_by ask) ≡ ask
  pub short : length own < 2 ^ 63
  pub numbers_fit : ArgumentsFit ask → All Number own
  pub number_fits : Number number
  pub samples_fit : ArgumentsFit ask → All Given (taken_by ask).samples
  pub marks_fit : ArgumentsFit ask → All Mark (taken_by ask).trail
  pub bytes_fit : ArgumentsFit ask → All (λ b. T (is_byte b)) (taken_by ask).sheet

row_for : (ask : RowAsk) → Row ask
unfolding call_kind_at lengths_and taken_by ArgumentsFit are_bytes
row_for (an_opening m) = record {
  number = 0;
  own = m.n ∷ m.capacity ∷ m.leaf_size ∷ [];
  kind = opening_calls;
  is_kind = refl;
  takes_that = λ lent. refl;
  asks_that = λ lent. refl;
  short = lit< tt;
  numbers_fit = λ s. all_more s.0 (all_more s.1 (all_more s.2 all_none));
  number_fits = lit< tt;
  samples_fit = λ s. all_none;
  marks_fit = λ s. all_none;
  bytes_fit = λ s. all_none;
}
row_for (an_adding x) = record {
  number = 1;
  own = length x ∷ [];
  kind = adding_calls;
  is_kind = refl;
  takes_that = λ lent. refl;
  asks_that = λ lent. refl;
  short = lit< tt;
  numbers_fit = λ s. all_more s.1 all_none;
  number_fits = lit< tt;
  samples_fit = λ s. s.0;
  marks_fit = λ s. all_none;
  bytes_fit = λ s. all_none;
}
row_for (a_matching x trail) = record {
  number = 2;
  own = length x ∷ length trail ∷ [];
  kind = matching_calls;
  is_kind = refl;
  takes_that = λ lent. refl;
  asks_that = λ lent. refl;
  short = lit< tt;
  numbers_fit = λ s. all_more s.1 (all_more s.3 all_none);
  number_fits = lit< tt;
  samples_fit = λ s. s.0;
  marks_fit = λ s. s.2;
  bytes_fit = λ s. all_none;
}
row_for (a_writing sheet) = record {
  number = 3;
  own = length sheet ∷ [];
  kind = writing_calls;
  is_kind = refl;
  takes_that = λ lent. refl;
  asks_that = λ lent. refl;
  short = lit< tt;
  numbers_fit = λ s. all_more s.1 all_none;
  number_fits = lit< tt;
  samples_fit = λ s. all_none;
  marks_fit = λ s. all_none;
  bytes_fit = λ s. every_all is_byte sheet s.0;
}
row_for (a_reading bytes) = record {
  number = 4;
  own = length bytes ∷ [];
  kind = reading_calls;
  is_kind = refl;
  takes_that = λ lent. refl;
  asks_that = λ lent. refl;
  short = lit< tt;
  numbers_fit = λ s. all_more s.1 all_none;
  number_fits = lit< tt;
  samples_fit = λ s. all_none;
  marks_fit = λ s. all_none;
  bytes_fit = λ s. every_all is_byte bytes s.0;
}

row_by : Lent → RowAsk → List ℕ
row_by lent ask = (row_for ask).number ∷ lengths_and lent (row_for ask).own

abbrev row_of : ListCall → List ℕ
row_of c = row_by c.lent c.ask

abbrev samples_of : RowAsk → List ℤ
samples_of ask = (taken_by ask).samples

abbrev trail_of : RowAsk → List ℕ
trail_of ask = (taken_by ask).trail

abbrev sheet_of : RowAsk → List ℕ
sheet_of ask = (taken_by ask).sheet

-- what the calls of a list take, one behind another
behind : {A : Type 0} → (RowAsk → List A) → List ListCall → List A
behind f [] = []
behind f (c ∷ calls) = f c.ask ++ behind f calls

-- ---- the call that the row asks for

within_fits : (lent lengths : Lent) → LentWithin lent lengths → fits_in lent lengths ≡ true
unfolding fits_in
within_fits lent lengths w =
    test_true (fits_in lent lengths)
    (passes (leb lent.control lengths.control)
    (leb lent.samples lengths.samples ∷ leb lent.nodes lengths.nodes ∷ leb lent.links lengths.links ∷ leb lent.work
    lengths.work ∷ leb lent.labels lengths.labels ∷ []) (
      le→leb lent.control lengths.control w.control_within,
      (
        le→leb lent.samples lengths.samples w.samples_within,
        (
          le→leb lent.nodes lengths.nodes w.nodes_within,
          (
            le→leb lent.links lengths.links w.links_within,
            (le→leb lent.work lengths.work w.work_within, le→leb lent.labels lengths.labels w.labels_within),
          ),
        ),
      ),
    ))

lent_by_lem : (lent : Lent) (ask : RowAsk) → lent_by (row_by lent ask) ≡ lent
unfolding row_by lengths_and
lent_by_lem lent ask = refl

module _ {A : Type 0} (x more all : List A) (e : all ≡ x ++ more) where
  there : leb (length x) (length all) ≡ true
  there = le-leb (length x) (length all) (omega (arith, ap length e, length-append x more))

  the_next : take (length x) all ≡ x
  the_next = ap (take (length x)) e ∙ take-append_seam x more

  the_rest : drop (length x) all ≡ more
  the_rest = ap (drop (length x)) e ∙ drop-append_seam x more

-- what a call takes is next
record Next (s : State) (ask : RowAsk) (pool : List ℤ) (trails sheets : List ℕ) : Type 0 where
  pub samples_next : s.samples ≡ (taken_by ask).samples ++ pool
  pub trail_next : s.trails.ahead ≡ (taken_by ask).trail ++ trails
  pub sheet_next : s.sheets.ahead ≡ (taken_by ask).sheet ++ sheets

module _ (lent lengths : Lent) (w : LentWithin lent lengths) (s : State) (pool : List ℤ) (trails sheets : List ℕ) (ask : RowAsk)
    (n : Next s ask pool trails sheets) where
  abbrev x : Taken
  x = taken_by ask

  there_all : enough (amounts_of x) (ahead_of s) ≡ true
  unfolding enough
  there_all = simp (
    there x.samples pool s.samples n.samples_next,
    there x.trail trails s.trails.ahead n.trail_next,
    there x.sheet sheets s.sheets.ahead n.sheet_next,
  )

  the_next_all : next_of (amounts_of x) s ≡ x
  the_next_all = rw (
    the_next x.samples pool s.samples n.samples_next,
    the_next x.trail trails s.trails.ahead n.trail_next,
    the_next x.sheet sheets s.sheets.ahead n.sheet_next,
  ) refl

  is_playable : playable lengths (ahead_of s) (row_by lent ask) ≡ Some (row_for ask).kind
  unfolding playable if_enough row_by lengths_and
  is_playable =
      let row = row_for ask in
      let numbers = row.number ∷ lengths_and lent row.own in
      ap (λ (b : Bool). if b then if_enough (call_kind_at kinds row.number) numbers (ahead_of s) else None) (within_fits lent lengths w)
      ∙ (ap (λ (o : Option CallKind). if_enough o numbers (ahead_of s)) row.is_kind
      ∙ (ap (λ (size : Amounts). if enough size (ahead_of s) then Some row.kind else None) (row.takes_that lent)
      ∙ ap (λ (b : Bool). if b then Some row.kind else None) there_all))

  asks_it : asks lengths (row_by lent ask) s ≡ Some ask
  unfolding asks asked_by row_by
  asks_it =
      let row = row_for ask in
      let numbers = row_by lent ask in
      let can : playable lengths (ahead_of s) numbers ≡ Some row.kind = is_playable in
      ap (λ (o : Option CallKind). asked_by o numbers s) can
      ∙ ap (λ (a : RowAsk). Some a)
      (ap (λ (size : Amounts). row.kind.ask numbers (next_of size s)) (row.takes_that lent)
      ∙ (ap (λ (y : Taken). row.kind.ask numbers y) the_next_all ∙ row.asks_that lent))

  -- and what is ahead then
  leaves_rest : ((state_after lent ask s).samples ≡ pool) × ((state_after lent ask s).trails.ahead ≡ trails) × ((state_after lent ask s).sheets.ahead ≡ sheets)
  unfolding state_after
  leaves_rest = (
    the_rest x.samples pool s.samples n.samples_next,
    the_rest x.trail trails s.trails.ahead n.trail_next,
    the_rest x.sheet sheets s.sheets.ahead n.sheet_next,
  )

-- ---- all calls

-- a row that asks for a call is that call, played
row_played : (lengths : Lent) (c : ListCall) (p : Played) → asks lengths (row_of c) p.now ≡ Some c.ask → played_row lengths p (row_of c)
    ≡ played_one c.lent (Some c.ask) p
unfolding played_row
row_played lengths c p e =
    ap (λ (o : Option RowAsk). played_one (lent_by (row_of c)) o p) e
    ∙ ap (λ (l : Lent). played_one l (Some c.ask) p) (lent_by_lem c.lent c.ask)

asks_all : (lengths : Lent) (calls : List ListCall) (p : Played) → All (Possible lengths) calls
    → p.now.samples ≡ behind samples_of calls → p.now.trails.ahead ≡ behind trail_of calls → p.now.sheets.ahead
    ≡ behind sheet_of calls
    → (foldl (played_row lengths) p (map row_of calls)).asked ≡ p.asked ++ map call_of calls
unfolding behind played_one turn_made
asks_all lengths [] p possible a b c = sym (append-nil p.asked)
asks_all lengths (q ∷ calls) p (all_more h others) a b c =
    let next : Next p.now q.ask (behind samples_of calls) (behind trail_of calls) (behind sheet_of calls) = record {
      samples_next = a;
      trail_next = b;
      sheet_next = c;
    } in
    let asked = asks_it q.lent lengths h.within p.now (behind samples_of calls) (behind trail_of calls) (behind sheet_of calls) q.ask next in
    let rest = leaves_rest q.lent lengths h.within p.now (behind samples_of calls) (behind trail_of calls) (behind sheet_of calls) q.ask next in
    ap (λ (x : Played). (foldl (played_row lengths) x (map row_of calls)).asked) (row_played lengths q p asked)
    ∙ (asks_all lengths calls (played_one q.lent (Some q.ask) p) others rest.0 rest.1 rest.2
    ∙ append_assoc p.asked (call_of q ∷ []) (map call_of calls))

-- ---- what the slices hold

behind_all : {A : Type 0} {P : A → Type 0} (lengths : Lent) (f : RowAsk → List A) → ((c : ListCall) → Possible lengths c → All P (f c.ask))
    → (calls : List ListCall) → All (Possible lengths) calls → All P (behind f calls)
unfolding behind
behind_all lengths f each [] all_none = all_none
behind_all lengths f each (c ∷ calls) (all_more h others) = all_append (each c h) (behind_all lengths f each calls others)

module _ (lengths : Lent) (long : MachineLengths lengths) where
  lengths_fit : (lent : Lent) → LentWithin lent lengths → (own : List ℕ) → All Number own → All Number (lengths_and lent own)
  unfolding lengths_and
  lengths_fit lent w own h =
      all_more (lt_of_le_of_lt w.control_within long.control_long)
      (all_more (lt_of_le_of_lt w.samples_within long.samples_long)
      (all_more (lt_of_le_of_lt w.nodes_within long.nodes_long)
      (all_more (lt_of_le_of_lt w.links_within long.links_long)
      (all_more (lt_of_le_of_lt w.work_within long.work_long)
      (all_more (lt_of_le_of_lt w.labels_within long.labels_long) h)))))

  row_fits : (lent : Lent) (ask : RowAsk) → LentWithin lent lengths → ArgumentsFit ask → All Number (row_by lent ask)
  unfolding row_by
  row_fits lent ask w s = all_more (row_for ask).number_fits (lengths_fit lent w _ ((row_for ask).numbers_fit s))

  row_short : (lent : Lent) (ask : RowAsk) → Number (length (row_by lent ask))
  unfolding row_by lengths_and
  row_short lent ask = omega (arith, (row_for ask).short)

  script_fits : (calls : List ListCall) → All (Possible lengths) calls → All Number (script_of (map row_of calls))
  unfolding script_of
  script_fits [] all_none = all_none
  script_fits (c ∷ calls) (all_more h others) =
      all_more (row_short c.lent c.ask) (all_append (row_fits c.lent c.ask h.within h.sized) (script_fits calls others))

-- ---- the lemma

pub every_list : (memory : Tables) (calls : List ListCall) → MachineLengths (lent_of memory) → All (Possible (lent_of memory)) calls → Script memory calls
unfolding are_bytes
every_list memory calls long possible =
    let lengths = lent_of memory in
    let script = script_of (map row_of calls) in
    let pool = behind samples_of calls in
    let trails = behind trail_of calls in
    let sheets = behind sheet_of calls in
    record {
      numbers = script;
      pool = pool;
      trails = trails;
      sheets = sheets;
      asks_them =
          ap (λ (rows : List (List ℕ)). (foldl (played_row lengths) (begun memory pool trails sheets) rows).asked) (rows_of_script (map
          row_of calls))
          ∙ asks_all lengths calls (begun memory pool trails sheets) possible refl refl refl;
      numbers_fit = script_fits lengths long calls possible;
      pool_fits = behind_all lengths samples_of (λ c h. (row_for c.ask).samples_fit h.sized) calls possible;
      trails_fit = behind_all lengths trail_of (λ c h. (row_for c.ask).marks_fit h.sized) calls possible;
      sheets_fit = all_every is_byte (behind_all lengths sheet_of (λ c h. (row_for c.ask).bytes_fit h.sized) calls possible);
    }
