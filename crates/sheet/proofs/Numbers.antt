-- Fields of two and of four bytes: where they stand in a list, and what they are worth.
use mathlib.Core.Path.{◌≡◌, refl}
use mathlib.Core.List.{List, [], ◌∷◌}
use Prim.Native.Nat.{ℕ, zero, suc, ◌+◌, ◌*◌, ◌/◌, ◌≤◌, ◌<◌}
use native.Mathlib.Nat.{not-suc-le-zero, le_of_suc-le-suc}
use native.Mathlib.Numerals.{add-one}
use native.Mathlib.Omega.{arith}
use lib.ListN.{length, get_or}
use mir.Syntax.{w32}
use Rattle.std.specs.Int.{to_le_bytes}
use Rattle.dstree.specs.Sheet.{part, bytes_of, number_in}

number_suc : (l : List ℕ) (place : ℕ) → suc place < length l → number_in (part place 2 l) ≡ get_or l place 0 + 256 * get_or l (suc place) 0
unfolding number_in
number_suc [] place h = absurd (not-suc-le-zero h)
number_suc (a ∷ []) zero h = absurd (omega arith)
number_suc (a ∷ b ∷ l) zero h = omega arith
number_suc (a ∷ l) (suc place) h = number_suc l place (le_of_suc-le-suc h)

pub number_is : (l : List ℕ) (place : ℕ) → place + 2 ≤ length l → number_in (part place 2 l) ≡ get_or l place 0 + 256 * get_or l (place + 1) 0
number_is l place h = rw (add-one place) (number_suc l place (omega arith))

-- ---- four bytes

four_suc : (l : List ℕ) (place : ℕ) → suc (suc (suc place)) < length l
    → number_in (part place 4 l)
    ≡ get_or l place 0 + 256 * get_or l (suc place) 0 + 65536 * get_or l (suc (suc place)) 0 + 16777216 * get_or l (suc (suc (suc place))) 0
unfolding number_in
four_suc [] place h = absurd (not-suc-le-zero h)
four_suc (a ∷ []) zero h = absurd (omega arith)
four_suc (a ∷ b ∷ []) zero h = absurd (omega arith)
four_suc (a ∷ b ∷ c ∷ []) zero h = absurd (omega arith)
four_suc (a ∷ b ∷ c ∷ d ∷ l) zero h = omega arith
four_suc (a ∷ l) (suc place) h = four_suc l place (le_of_suc-le-suc h)

pub four_is : (l : List ℕ) (place : ℕ) → place + 4 ≤ length l
    → number_in (part place 4 l)
    ≡ get_or l place 0 + 256 * get_or l (place + 1) 0 + 65536 * get_or l (place + 2) 0 + 16777216 * get_or l (place + 3) 0
four_is l place h =
    let two : place + 2 ≡ suc (suc place) = omega arith in
    let three : place + 3 ≡ suc (suc (suc place)) = omega arith in
    rw (add-one place, two, three) (four_suc l place (omega arith))

-- the four bytes that the library makes of a number; they are also the first four of eight
pub first_four : (v : ℕ) → to_le_bytes w32 v ≡ bytes_of 4 v
unfolding bytes_of
first_four v =
    let two : v / 256 / 256 ≡ v / 65536 = omega arith in
    let three : v / 65536 / 256 ≡ v / 16777216 = omega arith in
    rw (two, three) refl
