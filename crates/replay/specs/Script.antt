-- A script: calls one behind another, each a row of numbers, with the samples, trails and sheets that they are lent. What a script asks for
-- never depends on what was answered.
use Rattle.std.specs.Prelude.{ℕ, zero, suc, ◌+◌, ◌≤◌, ◌≡◌, Bool, ◌&&◌, ℤ, Option, None, Some, Result, Ok, Err}
use Rattle.std.specs.Prelude.{length, get_or, take, drop, leb, if◌then◌else◌, codes}
use mathlib.Core.List.{List, [], ◌∷◌, ◌++◌, map, foldl}
use Rattle.dstree.specs.Measures.{Measures, Trace, measures}
use Rattle.dstree.specs.Labels.{no_label}
use Rattle.dstree.specs.Book.{Lent, Ask, opening, adding, matching, writing, reading, Call, call, Answer, Reply, reply}
use Rattle.tables.specs.Tables.{Tables, lent_of}
use Rattle.calls.specs.Effects.{outcome_on}
use Rattle.calls.specs.Follows.{outcome_in}
use Rattle.replay.specs.ReplyRows.{reply_row, with_row}
use Rattle.replay.specs.declared.rows.Rows.{Rows}
use Rattle.replay.specs.declared.Amounts.{Amounts}
use Rattle.replay.specs.declared.Turn.{Turn}
use Rattle.replay.specs.declared.Plan.{Plan}
use Rattle.replay.specs.declared.kinds.RowKind.{RowKind}
use Rattle.replay.specs.declared.kinds.RowKind.TheVariants as r

-- ---- rows

-- a script is rows of numbers, each behind the number of its own numbers. A last row may be shorter than it says
unfoldable pub rows_in : ℕ → List ℕ → List (List ℕ)
rows_in zero script = []
rows_in (suc fuel) [] = []
rows_in (suc fuel) (size ∷ rest) = take size rest ∷ rows_in fuel (drop size rest)

-- every row takes a number at least, so that the script's length is fuel enough
abbrev pub rows_of : List ℕ → List (List ℕ)
rows_of script = rows_in (length script) script

-- the rows that are left, as code goes over them
abbrev pub rows_left : Rows → List (List ℕ)
rows_left rows = rows_of rows.0.now

-- a row's numbers, 0 where it has none: which call, the lengths of the six tables that it is lent, then the call's own
abbrev pub number_at : List ℕ → ℕ → ℕ
number_at row place = get_or row place 0

abbrev pub lent_by : List ℕ → Lent
lent_by row = record {
  control = number_at row 1;
  samples = number_at row 2;
  nodes = number_at row 3;
  links = number_at row 4;
  work = number_at row 5;
  labels = number_at row 6;
}

abbrev pub own_place : ℕ
own_place = 7

abbrev pub own_number : List ℕ → ℕ → ℕ
own_number row i = number_at row (own_place + i)

-- ---- what a script is played on

-- places for calls to come, behind those that earlier calls took, as these left them
pub record Supply : Type 0 where
  pub used : List ℕ
  pub ahead : List ℕ

abbrev pub supply : List ℕ → List ℕ → Supply
supply used ahead = record { used = used; ahead = ahead }

abbrev pub whole : Supply → List ℕ
whole s = s.used ++ s.ahead

-- the memory; the samples of traces and queries to come; the trails and the sheets
pub record State : Type 0 where
  pub memory : Tables
  pub samples : List ℤ
  pub trails : Supply
  pub sheets : Supply

abbrev pub state : Tables → List ℤ → Supply → Supply → State
state memory samples trails sheets = record { memory = memory; samples = samples; trails = trails; sheets = sheets }

-- the state that lent slices are in, with so much of each taken
abbrev pub supply_at : ℕ → List ℕ → Supply
supply_at place l = supply (take place l) (drop place l)

abbrev pub state_at : Tables → List ℤ → List ℕ → List ℕ → Amounts → State
state_at memory pool trails sheets at =
    state memory (drop at.samples pool) (supply_at at.trails trails) (supply_at at.sheets sheets)

-- no more is taken than there is
pub record AmountsInside (at : Amounts) (pool : List ℤ) (trails sheets : List ℕ) : Type 0 where
  pub samples_inside_lem : at.samples ≤ length pool
  pub trails_inside : at.trails ≤ length trails
  pub sheets_inside : at.sheets ≤ length sheets

-- ---- what a row asks for

-- "A list holds calls of opening, adding, match, sheet writing and sheet reading on one library's tables"
pub data RowAsk : Type 0 where
  an_opening : Measures → RowAsk
  an_adding : Trace → RowAsk
  a_matching : Trace → List ℕ → RowAsk
  a_writing : List ℕ → RowAsk
  a_reading : List ℕ → RowAsk

unfoldable pub ask_of : RowAsk → Ask
ask_of (an_opening m) = opening m
ask_of (an_adding x) = adding x no_label
ask_of (a_matching query trail) = matching query trail
ask_of (a_writing sheet) = writing sheet
ask_of (a_reading bytes) = reading bytes

-- ---- what a row takes

abbrev pub amounts : ℕ → ℕ → ℕ → Amounts
amounts samples trails sheets = record { samples = samples; trails = trails; sheets = sheets }

-- what a call takes of the samples, of the trails and of the sheets
pub record Taken : Type 0 where
  pub samples : List ℤ
  pub trail : List ℕ
  pub sheet : List ℕ

abbrev pub taken : List ℤ → List ℕ → List ℕ → Taken
taken samples trail sheet = record { samples = samples; trail = trail; sheet = sheet }

-- how much that is
abbrev pub amounts_of : Taken → Amounts
amounts_of x = amounts (length x.samples) (length x.trail) (length x.sheet)

-- .. of the next that is ahead
abbrev pub next_of : Amounts → State → Taken
next_of size s =
    taken (take size.samples s.samples) (take size.trails s.trails.ahead) (take size.sheets s.sheets.ahead)

-- how much is ahead
abbrev pub ahead_of : State → Amounts
ahead_of s = amounts (length s.samples) (length s.trails.ahead) (length s.sheets.ahead)

-- ---- the kinds of rows

-- how much a row of this kind takes, by its numbers, and the call that it makes of that
pub record CallKind : Type 0 where
  pub takes : List ℕ → Amounts
  pub ask : List ℕ → Taken → RowAsk

-- an opening, of n, capacity and leaf size
abbrev pub opening_calls : CallKind
opening_calls = record {
  takes = λ row. amounts 0 0 0;
  ask = λ row x. an_opening (measures (own_number row 0) (own_number row 1) (own_number row 2));
}

-- an adding of the next so many samples
abbrev pub adding_calls : CallKind
adding_calls = record { takes = λ row. amounts (own_number row 0) 0 0; ask = λ row x. an_adding x.samples }

-- a match of the next so many samples, with a trail of the next so many places
abbrev pub matching_calls : CallKind
matching_calls = record {
  takes = λ row. amounts (own_number row 0) (own_number row 1) 0;
  ask = λ row x. a_matching x.samples x.trail;
}

-- a writing to a sheet of the next so many bytes
abbrev pub writing_calls : CallKind
writing_calls = record { takes = λ row. amounts 0 0 (own_number row 0); ask = λ row x. a_writing x.sheet }

-- a reading of a sheet of the next so many bytes
abbrev pub reading_calls : CallKind
reading_calls = record { takes = λ row. amounts 0 0 (own_number row 0); ask = λ row x. a_reading x.sheet }

-- a row's first number is its kind's place here
abbrev pub kinds : List CallKind
kinds = opening_calls ∷ adding_calls ∷ matching_calls ∷ writing_calls ∷ reading_calls ∷ []

unfoldable pub call_kind_at : List CallKind → ℕ → Option CallKind
call_kind_at [] n = None
call_kind_at (k ∷ others) zero = Some k
call_kind_at (k ∷ others) (suc n) = call_kind_at others n

-- the kinds as code has them, and which one a number was found to be
unfoldable pub kind_by : RowKind → CallKind
kind_by r.Opening = opening_calls
kind_by r.Adding = adding_calls
kind_by r.Matching = matching_calls
kind_by r.Writing = writing_calls
kind_by r.Reading = reading_calls

unfoldable pub kind_found : Result RowKind ℕ → Option CallKind
kind_found (Ok kind) = Some (kind_by kind)
kind_found (Err number) = None

-- what is printed of a kind
unfoldable pub kind_name : RowKind → List ℕ
kind_name r.Opening = codes "opening"
kind_name r.Adding = codes "adding"
kind_name r.Matching = codes "match"
kind_name r.Writing = codes "writing"
kind_name r.Reading = codes "reading"

-- ---- the call that a row asks for

-- no table is lent longer than it is
unfoldable pub fits_in : Lent → Lent → Bool
fits_in lent lengths =
    leb lent.control lengths.control
    && leb lent.samples lengths.samples
    && leb lent.nodes lengths.nodes
    && leb lent.links lengths.links
    && leb lent.work lengths.work
    && leb lent.labels lengths.labels

-- no more is taken than is ahead
unfoldable pub enough : Amounts → Amounts → Bool
enough size ahead =
    leb size.samples ahead.samples
    && leb size.trails ahead.trails
    && leb size.sheets ahead.sheets

-- a kind whose rows take no more than is ahead
unfoldable pub if_enough : Option CallKind → List ℕ → Amounts → Option CallKind
if_enough None row ahead = None
if_enough (Some k) row ahead = if enough (k.takes row) ahead then Some k else None

-- the kind of a row that can be played. A row of no kind cannot, nor one that lends more than there is or takes more than is ahead
unfoldable pub playable : Lent → Amounts → List ℕ → Option CallKind
playable lengths ahead row = if fits_in (lent_by row) lengths then if_enough (call_kind_at kinds (number_at row 0)) row ahead else None

unfoldable pub asked_by : Option CallKind → List ℕ → State → Option RowAsk
asked_by None row s = None
asked_by (Some k) row s = Some (k.ask row (next_of (k.takes row) s))

unfoldable pub asks : Lent → List ℕ → State → Option RowAsk
asks lengths row s = asked_by (playable lengths (ahead_of s) row) row s

-- how much is taken behind such a row
abbrev pub moved : Amounts → Amounts → Amounts
moved at size = amounts (at.samples + size.samples) (at.trails + size.trails) (at.sheets + size.sheets)

-- .. as code plans it: a row of this kind can be played, and so much is taken behind it
pub record Planned (lengths : Lent) (ahead : Amounts) (row : List ℕ) (at : Amounts) (plan : Plan) : Type 0 where
  pub can : playable lengths ahead row ≡ Some (kind_by plan.kind)
  pub to_is : plan.to ≡ moved at ((kind_by plan.kind).takes row)

-- ---- what a call leaves

abbrev pub reply_in : Call → Tables → Reply
reply_in c memory = reply (outcome_in c memory).answer (outcome_in c memory).beside

-- what a call takes
unfoldable pub taken_by : RowAsk → Taken
taken_by (an_opening m) = taken [] [] []
taken_by (an_adding x) = taken x [] []
taken_by (a_matching query trail) = taken query trail []
taken_by (a_writing sheet) = taken [] [] sheet
taken_by (a_reading bytes) = taken [] [] bytes

-- .. and how it leaves that, by what it leaves beside the tables
unfoldable pub left_by : RowAsk → List (List ℕ) → Taken
left_by (an_opening m) beside = taken [] [] []
left_by (an_adding x) beside = taken x [] []
left_by (a_matching query trail) beside = taken query (get_or beside 0 []) []
left_by (a_writing sheet) beside = taken [] [] (get_or beside 0 [])
left_by (a_reading bytes) beside = taken [] [] bytes

-- the places that a call took are used, as it left them
abbrev pub used : Supply → List ℕ → List ℕ → Supply
used s taken left = supply (s.used ++ left) (drop (length taken) s.ahead)

unfoldable pub state_after : Lent → RowAsk → State → State
state_after lent ask s =
    let o = outcome_in (call lent (ask_of ask)) s.memory in
    let x = taken_by ask in
    let y = left_by ask o.beside in
    state o.after (drop (length x.samples) s.samples) (used s.trails x.trail y.trail)
    (used s.sheets x.sheet y.sheet)

-- a call that is lent all that it takes: the numbers of its reply, and what it leaves
pub record Called : Type 0 where
  pub numbers : List ℕ
  pub after : Tables
  pub left : Taken

abbrev pub called : List ℕ → Tables → Taken → Called
called numbers after left = record { numbers = numbers; after = after; left = left }

abbrev pub called_by : RowAsk → Tables → Called
called_by ask t =
    let o = outcome_on (ask_of ask) t in
    called (reply_row o.answer) o.after (left_by ask o.beside)

-- these are the numbers of its reply, and this is what it leaves in the tables and beside them
abbrev pub RepliesTo : RowAsk → Tables → List ℕ → Tables → List (List ℕ) → Type 0
RepliesTo ask t numbers after beside =
    let o = outcome_on (ask_of ask) t in
    (numbers ≡ reply_row o.answer) × (after ≡ o.after) × (beside ≡ o.beside)

-- .. as a row of this kind makes it
abbrev pub Plays : RowKind → List ℕ → Taken → Tables → Called → Type 0
Plays kind row x t c = amounts_of x ≡ (kind_by kind).takes row → c ≡ called_by ((kind_by kind).ask row x) t

-- a row that is played: the numbers of the call's reply, if a call is made, and the state after it
pub record Turned : Type 0 where
  pub numbers : Option (List ℕ)
  pub now : State

abbrev pub turned : Option (List ℕ) → State → Turned
turned numbers s = record { numbers = numbers; now = s }

unfoldable pub turn_made : Lent → Option RowAsk → State → Turned
turn_made lent None s = turned None s
turn_made lent (Some ask) s =
    turned (Some (reply_row (outcome_in (call lent (ask_of ask)) s.memory).answer)) (state_after lent ask s)

-- .. as code has it: a row's outcome, and what the lent slices hold then
abbrev pub turn_of : Turn → Tables → List ℤ → List ℕ → List ℕ → Turned
turn_of r memory pool trails sheets =
    turned r.numbers (state_at memory pool trails sheets r.at)

-- .. and what it does to row k of the replies, and to the number of replies
unfoldable pub tells_row : Option (List ℕ) → ℕ → List ℕ → List ℕ
tells_row None k replies = replies
tells_row (Some row) k replies = with_row replies k row

unfoldable pub next_row : Option (List ℕ) → ℕ → ℕ
next_row None k = k
next_row (Some row) k = k + 1

-- ---- a script that is played

pub record Played : Type 0 where
  pub asked : List Call
  pub said : List Reply
  pub now : State

abbrev pub begun : Tables → List ℤ → List ℕ → List ℕ → Played
begun memory pool trails sheets = record {
  asked = [];
  said = [];
  now = state memory pool (supply [] trails) (supply [] sheets);
}

unfoldable pub played_one : Lent → Option RowAsk → Played → Played
played_one lent None p = p
played_one lent (Some ask) p =
    let c = call lent (ask_of ask) in
    record { asked = p.asked ++ (c ∷ []); said = p.said ++ (reply_in c p.now.memory ∷ []); now = state_after lent ask p.now }

abbrev pub answers_of : List Reply → List Answer
answers_of said = map (λ (r : Reply). r.answer) said

-- one row, on tables of these lengths
unfoldable pub played_row : Lent → Played → List ℕ → Played
played_row lengths p row = played_one (lent_by row) (asks lengths row p.now) p

-- all calls of a script, on these tables
abbrev pub played : Tables → List ℕ → List ℤ → List ℕ → List ℕ → Played
played memory script pool trails sheets = foldl (played_row (lent_of memory)) (begun memory pool trails sheets) (rows_of script)
