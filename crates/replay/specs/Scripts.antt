-- Which lists of calls have a script: all of document 01's calls that code can be asked to make on given tables.
use Rattle.std.specs.Prelude.{ℕ, ◌<◌, ◌^◌, ◌≡◌, List, map, ℤ, length, T}
use Rattle.std.specs.Int.Signed.{mag}
use Rattle.integer.specs.Lists.{All}
use Rattle.dstree.specs.Sheet.{are_bytes}
use Rattle.dstree.specs.Book.{Lent, Call, call}
use Rattle.tables.specs.Tables.{Tables}
use Rattle.tables.specs.Beginning.{LentWithin}
use Rattle.replay.specs.Script.{RowAsk, an_opening, an_adding, a_matching, a_writing, a_reading, ask_of, played}

-- numbers that a slice of 64-bit, or of 16-bit, numbers without sign holds
abbrev pub Number : ℕ → Type 0
Number x = x < 2 ^ 64

abbrev pub Mark : ℕ → Type 0
Mark x = x < 2 ^ 16

-- numbers that a slice of 32-bit numbers with a sign holds: samples as they are given, those outside the limits too. (`mag` of −1 − m is m)
abbrev pub Given : ℤ → Type 0
Given z = mag z < 2 ^ 31

-- one of the calls that a script has
pub record ListCall : Type 0 where
  pub lent : Lent
  pub ask : RowAsk

abbrev pub call_of : ListCall → Call
call_of c = call c.lent (ask_of c.ask)

-- what the types of arguments say: measures and lengths have 64 bits, samples 32, places of a trail 16, bytes 8
unfoldable pub ArgumentsFit : RowAsk → Type 0
ArgumentsFit (an_opening m) = Number m.n × Number m.capacity × Number m.leaf_size
ArgumentsFit (an_adding x) = All Given x × Number (length x)
ArgumentsFit (a_matching x trail) = All Given x × Number (length x) × All Mark trail × Number (length trail)
ArgumentsFit (a_writing sheet) = T (are_bytes sheet) × Number (length sheet)
ArgumentsFit (a_reading bytes) = T (are_bytes bytes) × Number (length bytes)

-- .. and no table is lent longer than it is
pub record Possible (lengths : Lent) (c : ListCall) : Type 0 where
  pub within : LentWithin c.lent lengths
  pub sized : ArgumentsFit c.ask

-- tables as they are in a machine
pub record MachineLengths (lengths : Lent) : Type 0 where
  pub control_long : Number lengths.control
  pub samples_long : Number lengths.samples
  pub nodes_long : Number lengths.nodes
  pub links_long : Number lengths.links
  pub work_long : Number lengths.work
  pub labels_long : Number lengths.labels

-- what `play` can be lent so that it makes exactly these calls
pub record Script (memory : Tables) (calls : List ListCall) : Type 0 where
  pub numbers : List ℕ
  pub pool : List ℤ
  pub trails : List ℕ
  pub sheets : List ℕ
  pub asks_them : (played memory numbers pool trails sheets).asked ≡ map call_of calls
  pub numbers_fit : All Number numbers
  pub pool_fits : All Given pool
  pub trails_fit : All Mark trails
  pub sheets_fit : T (are_bytes sheets)
