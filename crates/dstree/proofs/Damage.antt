-- There are sheets that are damaged in each of the ways of document 02, §14, at every place.
use Prim.Native.Nat.{ℕ, ◌+◌, ◌*◌, ◌/◌, ◌≤◌, ◌<◌}
use mathlib.Core.Path.{◌≡◌, sym, ◌∙◌, ap}
use mathlib.Core.Logic.{◌≢◌}
use mathlib.Core.List.{List, ◌++◌}
use native.Mathlib.Omega.{arith}
use lib.ListN.{length, get_or, set, take, drop, length-set, length-append, length-drop, get_or-append}
use lib.Seq.{get_or-set_same, get_or-set_other, get_or-take, length-take-le, take_at, drop_at}
use Rattle.integer.proofs.Lists.{same_or_not}
use Rattle.dstree.specs.Sheet.{block_size}
use Rattle.dstree.specs.Torn.{OneByteDiffers, Unequal, Exchanged, BlockReplaced, with_block, MayBeTorn}

in_a_byte : (bytes : List ℕ) (place byte : ℕ) → place < length bytes → byte < 256 → byte ≢ get_or bytes place 0
    → OneByteDiffers place bytes (set bytes place byte)
in_a_byte bytes place byte h k f =
    let there = get_or-set_same bytes place byte 0 h in
    record {
      as_long = length-set bytes place byte;
      inside = h;
      a_byte = rw there k;
      differs = λ e. f (sym there ∙ e);
      elsewhere = λ i n. get_or-set_other bytes place i byte 0 n;
    }

module _ (bytes : List ℕ) (p q : ℕ) (h : p < length bytes) (k : q < length bytes) (f : Unequal p q bytes) where
  abbrev once : List ℕ
  once = set bytes p (get_or bytes q 0)

  back : get_or (set once q (get_or bytes p 0)) q 0 ≡ get_or bytes p 0
  back = get_or-set_same once q (get_or bytes p 0) 0 (rw (length-set bytes p (get_or bytes q 0)) k)

  there : get_or (set once q (get_or bytes p 0)) p 0 ≡ get_or bytes q 0
  there = by (same_or_not p q)
    where
      by : Dec (p ≡ q) → get_or (set once q (get_or bytes p 0)) p 0 ≡ get_or bytes q 0
      by (yes e) = ap (λ (i : ℕ). get_or (set once q (get_or bytes p 0)) i 0) e ∙ back ∙ ap (λ (i : ℕ). get_or bytes i 0) e
      by (no n) = get_or-set_other once q p (get_or bytes p 0) 0 n ∙ get_or-set_same bytes p (get_or bytes q 0) 0 h

  in_two : Exchanged p q bytes (set once q (get_or bytes p 0))
  in_two = record {
    as_long = length-set once q (get_or bytes p 0) ∙ length-set bytes p (get_or bytes q 0);
    one_inside = h;
    other_inside = k;
    unequal = f;
    there = there;
    back = back;
    elsewhere = λ i n m. get_or-set_other once q i (get_or bytes p 0) 0 m ∙ get_or-set_other bytes p i (get_or bytes q 0) 0 n;
  }

module _ (bytes : List ℕ) (j : ℕ) (put : List ℕ) (h : j < length bytes / block_size) (l : length put ≡ block_size) where
  abbrev front : List ℕ
  front = take (j * block_size) bytes

  abbrev rest : List ℕ
  rest = drop (j * block_size + block_size) bytes

  room : j * block_size + block_size ≤ length bytes
  room = omega arith

  front_long : length front ≡ j * block_size
  front_long = length-take-le (j * block_size) bytes (omega (arith, room))

  all_long : length (with_block j put bytes) ≡ length bytes
  all_long =
      length-append front (put ++ rest)
      ∙ omega (arith, front_long, length-append put rest, l, length-drop (j * block_size + block_size) bytes, room)

  in_a_block : BlockReplaced j put bytes (with_block j put bytes)
  in_a_block = record {
    as_long = all_long;
    inside = h;
    there = ap (take block_size) (drop_at front (put ++ rest) (j * block_size) front_long) ∙ take_at put rest block_size l;
    before = λ i k. get_or-append front (put ++ rest) 0 i (rw front_long k) ∙ get_or-take (j * block_size) bytes i 0 k;
  }

pub may_be_torn : (bytes : List ℕ) → MayBeTorn bytes
may_be_torn bytes = record { in_a_byte = in_a_byte bytes; in_two = in_two bytes; in_a_block = in_a_block bytes }
