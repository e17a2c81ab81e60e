-- A block that is not torn, with one of its bytes changed to another, is torn: of any block in any format, whatever stands before it.
use Prim.Native.Nat.{ℕ, ◌<◌}
use mathlib.Core.Path.{◌≡◌, refl, sym}
use mathlib.Core.Logic.{◌≢◌}
use mathlib.Core.Bool.{Bool, true, false}
use mathlib.Core.List.{List}
use lib.ListN.{length, get_or, set}
use lib.Dec.{T}
use borrow.Author.Tests.{eq-eqb}
use Rattle.dstree.specs.Sheet.{are_bytes, number_in, part, Format, block_size, checked_size, check_of, is_torn}
use Rattle.dstree.proofs.SheetFields.{bytes_of_lem}
use Rattle.dstree.proofs.SheetBlocks.{untorn_whole}
use Rattle.dstree.proofs.SheetTorn.{is_sealed, one_unseals}
use Rattle.dstree.proofs.Damage.{may_be_torn}

pub one_byte_torn : (f : Format) (before number : ℕ) (b : List ℕ) → length b ≡ block_size → T (are_bytes b) → is_torn f before number b ≡ false
    → (place byte : ℕ) → place < block_size → byte < 256 → get_or b place 0 ≢ byte → is_torn f before number (set b place byte) ≡ true
unfolding is_torn is_sealed
one_byte_torn f before number b l t e place byte h k d = by (is_sealed (set b place byte)) refl
  where
    sealed : is_sealed b ≡ true
    sealed = eq-eqb (number_in (part checked_size 2 b)) (check_of b) (untorn_whole f before number b e).check

    by : (s : Bool) → is_sealed (set b place byte) ≡ s → is_torn f before number (set b place byte) ≡ true
    by true q =
        absurd (one_unseals b (set b place byte) place l (bytes_of_lem b t)
        ((may_be_torn b).in_a_byte place byte (rw l h) k (λ g. d (sym g))) sealed q)
    by false q = rw q refl
