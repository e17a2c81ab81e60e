-- A script row by row: the next row and the rest; and rows written one behind another, each behind its length, are read back as these rows.
use Prim.Native.Nat.{ℕ, zero, suc, min, ◌≤◌}
use mathlib.Core.Path.{◌≡◌, refl, sym, ap, ap₂, ◌∙◌}
use mathlib.Core.List.{List, [], ◌∷◌, ◌++◌}
use native.Mathlib.Omega.{arith}
use lib.ListN.{length, take, drop, length-append, length-drop}
use lib.Seq.{take-append_seam, drop-append_seam}
use Rattle.std.proofs.lemmas.List.{take_min, drop_min}
use Rattle.replay.specs.Script.{rows_in, rows_of}

-- ---- the next row

-- more fuel than numbers changes nothing
enough_fuel : (f g : ℕ) (l : List ℕ) → length l ≤ f → length l ≤ g → rows_in f l ≡ rows_in g l
unfolding rows_in
enough_fuel zero zero [] h k = refl
enough_fuel zero (suc g) [] h k = refl
enough_fuel (suc f) zero [] h k = refl
enough_fuel (suc f) (suc g) [] h k = refl
enough_fuel zero g (size ∷ rest) h k = absurd (omega arith)
enough_fuel (suc f) zero (size ∷ rest) h k = absurd (omega arith)
enough_fuel (suc f) (suc g) (size ∷ rest) h k =
    ap (λ (rows : List (List ℕ)). take size rest ∷ rows)
    (enough_fuel f g (drop size rest) (omega (arith, h, length-drop size rest)) (omega (arith, k, length-drop size rest)))

pub next_row : (size : ℕ) (rest : List ℕ) → rows_of (size ∷ rest) ≡ take size rest ∷ rows_of (drop size rest)
unfolding rows_in
next_row size rest =
    ap (λ (rows : List (List ℕ)). take size rest ∷ rows)
    (enough_fuel (length rest) (length (drop size rest)) (drop size rest) (omega (arith, length-drop size rest)) (omega arith))

pub no_row : (l : List ℕ) → length l ≡ 0 → rows_of l ≡ []
unfolding rows_in
no_row [] e = refl
no_row (x ∷ l) e = absurd (omega arith)

-- .. as code takes it: to the script's end, if it says that it is longer
pub first_row : (l : List ℕ) (size : ℕ) (rest row others : List ℕ) (n : ℕ) → l ≡ size ∷ rest → n ≡ min size (length rest)
    → row ≡ take n rest → others ≡ drop n rest → rows_of l ≡ row ∷ rows_of others
first_row l size rest row others n e m p q =
    ap rows_of e
    ∙ (next_row size rest
    ∙ ap₂ (λ (r : List ℕ) (s : List ℕ). r ∷ rows_of s)
    (sym (p ∙ (ap (λ (k : ℕ). take k rest) m ∙ take_min size rest))) (sym (q ∙ (ap (λ (k : ℕ). drop k rest) m ∙ drop_min size rest))))

-- no more rows than numbers
pub few_rows : (fuel : ℕ) (l : List ℕ) → length (rows_in fuel l) ≤ fuel
unfolding rows_in
few_rows zero l = omega arith
few_rows (suc fuel) [] = omega arith
few_rows (suc fuel) (size ∷ rest) = omega (arith, few_rows fuel (drop size rest))

-- ---- rows written and read

unfoldable pub script_of : List (List ℕ) → List ℕ
script_of [] = []
script_of (row ∷ rows) = length row ∷ (row ++ script_of rows)

read_rows : (fuel : ℕ) (rows : List (List ℕ)) → length (script_of rows) ≤ fuel → rows_in fuel (script_of rows) ≡ rows
unfolding rows_in script_of
read_rows zero [] h = refl
read_rows (suc fuel) [] h = refl
read_rows zero (row ∷ rows) h = absurd (omega arith)
read_rows (suc fuel) (row ∷ rows) h =
    ap₂ (λ (r : List ℕ) (rest : List (List ℕ)). r ∷ rest) (take-append_seam row (script_of rows))
    (ap (rows_in fuel) (drop-append_seam row (script_of rows)) ∙ read_rows fuel rows (omega (arith, h, length-append row (script_of rows))))

pub rows_of_script : (rows : List (List ℕ)) → rows_of (script_of rows) ≡ rows
rows_of_script rows = read_rows (length (script_of rows)) rows (omega arith)
