-- How a block comes about: bytes put one behind another over zeros, then the check behind 510 of them.
use mathlib.Core.Path.{◌≡◌, refl, sym, ap, ◌∙◌}
use mathlib.Core.List.{List, [], ◌∷◌, ◌++◌, append_assoc, append-nil}
use Prim.Native.Nat.{ℕ, zero, suc, ◌+◌, ◌-◌, ◌≤◌}
use native.Mathlib.Nat.{add-zero, le_refl}
use native.Mathlib.Omega.{arith}
use lib.ListN.{length, take, drop, set, replicate, length-append, length-replicate, replicate-append-replicate, drop_of_length-le}
use lib.Seq.{sets, sets-eq, take_at, take-take, drop-append-add}
use Rattle.dstree.proofs.SheetFields.{bytes_length}
use Rattle.dstree.proofs.SheetBlocks.{check_front}
use Rattle.dstree.specs.Sheet.{bytes_of, filled_to, block_size, checked_size, carried_size, check_of, sealed, block, letters, measure_bytes, head_of}
use Rattle.dstree.specs.Measures.{Measures}

-- ---- stores

module _ {A : Type 0} where
  -- a run of stores behind another
  pub sets_append : (a b l : List A) (i : ℕ) → sets l i (a ++ b) ≡ sets (sets l i a) (i + length a) b
  sets_append [] b l i = ap (λ (k : ℕ). sets l k b) (sym (add-zero i))
  sets_append (x ∷ a) b l i =
      let e : suc i + length a ≡ i + suc (length a) = omega arith in
      sets_append a b (set l i x) (suc i) ∙ ap (λ (k : ℕ). sets (sets (set l i x) (suc i) a) k b) e

-- ---- zeros

drop_zeros : (k n : ℕ) → drop k (replicate n 0) ≡ replicate {A = ℕ} (n - k) 0
drop_zeros zero n = ap (λ (m : ℕ). replicate m 0) (sym_minus n)
  where
    sym_minus : (n : ℕ) → n ≡ n - 0
    sym_minus n = omega arith
drop_zeros (suc k) zero = ap (λ (m : ℕ). replicate m 0) (none k)
  where
    none : (k : ℕ) → 0 ≡ 0 - suc k
    none k = omega arith
drop_zeros (suc k) (suc n) = drop_zeros k n ∙ ap (λ (m : ℕ). replicate m 0) (less n k)
  where
    less : (n k : ℕ) → n - k ≡ suc n - suc k
    less n k = omega arith

-- bytes put behind others, over the zeros there
pub put_behind : (size : ℕ) (front new : List ℕ) → length front + length new ≤ size
    → sets (filled_to size front) (length front) new ≡ filled_to size (front ++ new)
unfolding filled_to
put_behind size front new h =
    sets-eq new (front ++ zeros) (length front) room
    ∙ ap (λ (x : List ℕ). x ++ new ++ drop (length front + length new) (front ++ zeros)) (take_at front zeros (length front) refl)
    ∙ ap (λ (x : List ℕ). front ++ new ++ x)
    (drop-append-add front zeros (length new) ∙ drop_zeros (length new) (size - length front) ∙ ap (λ (k : ℕ). replicate k 0) less)
  where
    zeros : List ℕ
    zeros = replicate (size - length front) 0

    room : length front + length new ≤ length (front ++ zeros)
    room = rw (length-append front zeros, length-replicate {A = ℕ} (size - length front) 0) (omega arith)

    less : size - length front - length new ≡ size - length (front ++ new)
    less = rw (length-append front new) (omega arith)

-- ---- a block

-- the bytes before the check: four, and what the block carries
front_is : (head carried : List ℕ) → length head ≡ 4 → length carried ≤ carried_size
    → take checked_size (filled_to block_size (head ++ carried)) ≡ head ++ filled_to carried_size carried
unfolding filled_to
front_is head carried e h =
    ap (take checked_size) whole ∙ take_at (head ++ (carried ++ zeros)) (replicate 2 0) checked_size long
  where
    zeros : List ℕ
    zeros = replicate (carried_size - length carried) 0

    count : block_size - length (head ++ carried) ≡ carried_size - length carried + 2
    count = rw (length-append head carried) (omega arith)

    whole : (head ++ carried) ++ replicate (block_size - length (head ++ carried)) 0 ≡ (head ++ (carried ++ zeros)) ++ replicate 2 0
    whole =
        ap (λ (k : ℕ). (head ++ carried) ++ replicate k 0) count
        ∙ ap (λ (x : List ℕ). (head ++ carried) ++ x) (sym (replicate-append-replicate (carried_size - length carried) 2 0))
        ∙ sym (append_assoc (head ++ carried) zeros (replicate 2 0))
        ∙ ap (λ (x : List ℕ). x ++ replicate 2 0) (append_assoc head carried zeros)

    long : length (head ++ (carried ++ zeros)) ≡ checked_size
    long =
        rw (length-append head (carried ++ zeros), length-append carried zeros, length-replicate {A = ℕ} (carried_size - length carried) 0)
        (omega arith)

pub sealed_is : (l : List ℕ) → length l ≡ block_size → sets l checked_size (bytes_of 2 (check_of l)) ≡ sealed (take checked_size l)
unfolding sealed
sealed_is l e =
    sets-eq check l checked_size (rw two (omega arith))
    ∙ ap (λ (x : List ℕ). take checked_size l ++ check ++ x) (drop_of_length-le l {i = checked_size + length check} (rw two (omega arith)))
    ∙ append-nil (take checked_size l ++ check)
    ∙ ap (λ (c : ℕ). take checked_size l ++ bytes_of 2 c)
    (check_front l (take checked_size l) (sym (take-take checked_size checked_size l (le_refl checked_size))))
  where
    check : List ℕ
    check = bytes_of 2 (check_of l)

    two : length check ≡ 2
    two = bytes_length 2 (check_of l)

-- number and kind, then what the block carries from byte 4 on, then the check
pub block_is : (kind number : ℕ) (carried : List ℕ) → length carried ≤ carried_size
    → sealed (take checked_size (sets (filled_to block_size (bytes_of 2 number ++ (kind ∷ 0 ∷ []))) 4 carried)) ≡ block kind number carried
unfolding block
block_is kind number carried h =
    ap (λ (l : List ℕ). sealed (take checked_size l)) put ∙ ap sealed (front_is head carried four h)
  where
    head : List ℕ
    head = bytes_of 2 number ++ (kind ∷ 0 ∷ [])

    four : length head ≡ 4
    four = rw (length-append (bytes_of 2 number) (kind ∷ 0 ∷ []), bytes_length 2 number) (omega arith)

    put : sets (filled_to block_size head) 4 carried ≡ filled_to block_size (head ++ carried)
    put = ap (λ (k : ℕ). sets (filled_to block_size head) k carried) (sym four) ∙ put_behind block_size head carried (omega (arith, four))

-- the letters and the measures behind them are the head
module _ (m : Measures) (count : ℕ) where
  pub head_put : (l : List ℕ) → sets (sets l 4 letters) 8 (measure_bytes m count) ≡ sets l 4 (head_of m count)
  unfolding letters head_of bytes_of
  head_put l = refl
