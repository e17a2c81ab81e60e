-- Document 02, §14, "What a torn sheet can't hide": the ways in which a sheet is damaged, and what is claimed of them.
use Rattle.std.specs.Prelude.{ℕ, ◌+◌, ◌*◌, ◌/◌, ◌<◌, ◌≡◌, ◌≢◌, List, ◌++◌, length, get_or, set, take, drop, replicate, T}
use Rattle.dstree.specs.Measures.{Trace, Measures, sample_limit, is_library}
use Rattle.dstree.specs.Labels.{Label, are_labels}
use Rattle.dstree.specs.Refusals.{Refusal, torn_block}
use Rattle.dstree.specs.Sheet.{are_bytes, part, block_size, refused, holds}
use Rattle.dstree.specs.SheetWidths.{sheet_of, judge_sheet}

-- ---- damage, of a sheet or of one block

-- "exactly one byte of it differs", the one at a place
pub record OneByteDiffers (place : ℕ) (bytes damaged : List ℕ) : Type 0 where
  pub as_long : length damaged ≡ length bytes
  pub inside : place < length bytes
  pub a_byte : get_or damaged place 0 < 256
  pub differs : get_or damaged place 0 ≢ get_or bytes place 0
  pub elsewhere : (i : ℕ) → i ≢ place → get_or damaged i 0 ≡ get_or bytes i 0

-- "two unequal bytes", at p and q
abbrev pub Unequal : ℕ → ℕ → List ℕ → Type 0
Unequal p q bytes = get_or bytes p 0 ≢ get_or bytes q 0

-- ".. have changed places"
pub record Exchanged (p q : ℕ) (bytes damaged : List ℕ) : Type 0 where
  pub as_long : length damaged ≡ length bytes
  pub one_inside : p < length bytes
  pub other_inside : q < length bytes
  pub unequal : Unequal p q bytes
  pub there : get_or damaged p 0 ≡ get_or bytes q 0
  pub back : get_or damaged q 0 ≡ get_or bytes p 0
  pub elsewhere : (i : ℕ) → i ≢ p → i ≢ q → get_or damaged i 0 ≡ get_or bytes i 0

-- Beyond the request: block j is other bytes, and all before it is as it was. What stands behind it does not matter
pub record BlockReplaced (j : ℕ) (put bytes damaged : List ℕ) : Type 0 where
  pub as_long : length damaged ≡ length bytes
  pub inside : j < length bytes / block_size
  pub there : part (j * block_size) block_size damaged ≡ put
  pub before : (i : ℕ) → i < j * block_size → get_or damaged i 0 ≡ get_or bytes i 0

-- there are such sheets: any byte may be any other, any two unequal ones may change places, any block may be any bytes
abbrev pub with_block : ℕ → List ℕ → List ℕ → List ℕ
with_block j put bytes = take (j * block_size) bytes ++ (put ++ drop (j * block_size + block_size) bytes)

pub record MayBeTorn (bytes : List ℕ) : Type 0 where
  pub in_a_byte : (place byte : ℕ) → place < length bytes → byte < 256 → byte ≢ get_or bytes place 0
      → OneByteDiffers place bytes (set bytes place byte)
  pub in_two : (p q : ℕ) → p < length bytes → q < length bytes → Unequal p q bytes
      → Exchanged p q bytes (set (set bytes p (get_or bytes q 0)) q (get_or bytes p 0))
  pub in_a_block : (j : ℕ) (put : List ℕ) → j < length bytes / block_size → length put ≡ block_size
      → BlockReplaced j put bytes (with_block j put bytes)

-- ---- what is claimed

-- of a sheet, where R says how damaged bytes are refused: "The refusal is 9 with that block's number"
pub record CannotHide (R : List ℕ → Refusal → Type 0) (sheet : List ℕ) : Type 0 where
  -- "refused once exactly one byte of it differs"
  pub one_byte : (place : ℕ) (damaged : List ℕ) → OneByteDiffers place sheet damaged → R damaged (torn_block (place / block_size))
  -- ".. and once any two unequal bytes within one block have changed places, check bytes among them"
  pub exchange : (p q : ℕ) (damaged : List ℕ) → p / block_size ≡ q / block_size → Exchanged p q sheet damaged
      → R damaged (torn_block (p / block_size))
  -- beyond the request: a block of zeros
  pub zeroed : (j : ℕ) (damaged : List ℕ) → BlockReplaced j (replicate block_size 0) sheet damaged → R damaged (torn_block j)
  -- .. and a block that stands in another's place, repeated there or exchanged with it
  pub misplaced : (i j : ℕ) (damaged : List ℕ) → i < length sheet / block_size → i ≢ j
      → BlockReplaced j (part (i * block_size) block_size sheet) sheet damaged → R damaged (torn_block j)

-- how reading judges a sheet, in the format that its block 0 says. (What the call then answers: `calls/specs/Demands`, `WrittenThenTorn`)
abbrev pub RefusedFor : List ℕ → Refusal → Type 0
RefusedFor bytes why = judge_sheet bytes ≡ refused why

-- "for both widths and for label blocks"
pub record TornClaims : Type 0 where
  -- "a sheet we wrote": a library's, which is in the format that its samples ask for, with blocks of labels unless all are zero
  pub written : (m : Measures) (traces : List Trace) (labels : List Label) → T (is_library sample_limit m traces)
      → T (are_labels (length traces) labels) → CannotHide RefusedFor (sheet_of m traces labels)
  -- .. and any sheet that is not refused, whoever wrote it
  pub accepted : (bytes : List ℕ) (m : Measures) (traces : List Trace) (labels : List Label) → T (are_bytes bytes)
      → judge_sheet bytes ≡ holds m traces labels → CannotHide RefusedFor bytes
