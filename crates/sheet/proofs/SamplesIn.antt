-- Bytes as samples: one sample more, some behind others, and the traces that they are cut into.
use Prim.Native.Nat.{ℕ, zero, suc, ◌+◌, ◌*◌, ◌-◌, ◌≤◌, ◌<◌}
use mathlib.Core.Path.{◌≡◌, refl, sym, ◌∙◌, ap, ap₂}
use mathlib.Core.List.{List, [], ◌∷◌, ◌++◌, map}
use native.Mathlib.Omega.{arith}
use native.Mathlib.Nat.{suc-mul, mul-le-mul_right, le_of_suc-le-suc}
use lib.IntN.{pos}
use lib.ListN.{length, get_or, take, drop, length-map}
use lib.Seq.{drop-drop, take-take}
use Rattle.integer.proofs.Lists.{drop_take, map_take}
use Rattle.integer.proofs.Rows.{map_append}
use Rattle.dstree.specs.Sheet.{Format, part, pieces, decoded}
use Rattle.dstree.proofs.SheetPieces.{pieces_length, pieces_at, pieces_drop, pieces_take, pieces_more}
use Rattle.sheet.specs.Codes.{samples_in}

module _ {A : Type 0} where
  pieces_add : (size a b : ℕ) (xs : List A) → pieces size (a + b) xs ≡ pieces size a xs ++ pieces size b (drop (a * size) xs)
  unfolding pieces
  pieces_add size zero b xs =
      let e : 0 + b ≡ b = omega arith in
      let z : 0 * size ≡ 0 = omega arith in
      rw (e, z) refl
  pieces_add size (suc a) b xs =
      let e : suc a + b ≡ suc (a + b) = omega arith in
      let k : size + a * size ≡ suc a * size = omega (arith, suc-mul a size) in
      rw e (ap (λ (l : List (List A)). take size xs ∷ l) (pieces_add size a b (drop size xs)
      ∙ ap (λ (l : List A). pieces size a (drop size xs) ++ pieces size b l) (drop-drop (a * size) size xs ∙ ap (λ (i : ℕ). drop i xs) k)))

  pieces_first : (size k : ℕ) (xs : List A) → pieces size k xs ≡ pieces size k (take (k * size) xs)
  unfolding pieces
  pieces_first size zero xs = refl
  pieces_first size (suc k) xs =
      let e : suc k * size - size ≡ k * size = omega (arith, suc-mul k size) in
      ap₂ (λ (a : List A) (b : List (List A)). a ∷ b) (sym (take-take size (suc k * size) xs (omega (arith, suc-mul k size))))
      (pieces_first size k (drop size xs)
      ∙ ap (pieces size k) (sym (drop_take size (suc k * size) xs ∙ ap (λ (i : ℕ). take i (drop size xs)) e)))

module _ {A B : Type 0} (f : A → B) where
  pub map_drop : (k : ℕ) (l : List A) → drop k (map f l) ≡ map f (drop k l)
  map_drop zero l = refl
  map_drop (suc k) [] = refl
  map_drop (suc k) (x ∷ l) = map_drop k l

  map_at : (l : List A) (i : ℕ) (d : A) (e : B) → i < length l → get_or (map f l) i e ≡ f (get_or l i d)
  map_at [] i d e h = absurd (omega arith)
  map_at (x ∷ l) zero d e h = refl
  map_at (x ∷ l) (suc i) d e h = map_at l i d e (le_of_suc-le-suc h)

module _ (f : Format) where
  abbrev width : ℕ
  width = f.sample_bytes

  pub samples_none : (bytes : List ℕ) → samples_in f 0 bytes ≡ []
  unfolding samples_in pieces
  samples_none bytes = refl

  -- one sample more
  pub samples_more : (k : ℕ) (bytes : List ℕ)
      → samples_in f (suc k) bytes ≡ samples_in f k bytes ++ (decoded f (part (k * width) width bytes) ∷ [])
  unfolding samples_in
  samples_more k bytes =
      ap (map (decoded f)) (pieces_more width k bytes)
      ∙ map_append (decoded f) (pieces width k bytes) (part (k * width) width bytes ∷ [])

  pub samples_add : (a b : ℕ) (bytes : List ℕ) → samples_in f (a + b) bytes ≡ samples_in f a bytes ++ samples_in f b (drop (a * width) bytes)
  unfolding samples_in
  samples_add a b bytes =
      ap (map (decoded f)) (pieces_add width a b bytes)
      ∙ map_append (decoded f) (pieces width a bytes) (pieces width b (drop (a * width) bytes))

  -- what stands behind them does not bear on them
  pub samples_first : (k : ℕ) (bytes : List ℕ) → samples_in f k bytes ≡ samples_in f k (take (k * width) bytes)
  unfolding samples_in
  samples_first k bytes = ap (map (decoded f)) (pieces_first width k bytes)

  -- a trace is the n samples from n times its number on
  pub trace_at : (n count all number : ℕ) (bytes : List ℕ) → number < count → count * n ≤ all
      → get_or (pieces n count (map (decoded f) (pieces width all bytes))) number [] ≡ samples_in f n (drop (number * n * width) bytes)
  unfolding samples_in
  trace_at n count all number bytes h room =
      let inside : suc number * n ≤ count * n = mul-le-mul_right n h in
      pieces_at n count (map (decoded f) (pieces width all bytes)) number h
      ∙ ap (take n) (map_drop (decoded f) (number * n) (pieces width all bytes) ∙ ap (map (decoded f)) (pieces_drop width (number * n) all bytes))
      ∙ sym (map_take (decoded f) n (pieces width (all - number * n) (drop (number * n * width) bytes)))
      ∙ ap (map (decoded f))
      (pieces_take width n (all - number * n) (drop (number * n * width) bytes) (omega (arith, inside, room, suc-mul number n)))

  pub samples_length : (k : ℕ) (bytes : List ℕ) → length (samples_in f k bytes) ≡ k
  unfolding samples_in
  samples_length k bytes = length-map (pieces width k bytes) (decoded f) ∙ pieces_length width k bytes

  -- one of them
  pub samples_at : (k i : ℕ) (bytes : List ℕ) → i < k
      → get_or (samples_in f k bytes) i (pos 0) ≡ decoded f (part (i * width) width bytes)
  unfolding samples_in
  samples_at k i bytes h =
      map_at (decoded f) (pieces width k bytes) i [] (pos 0) (omega (arith, h, pieces_length width k bytes)) ∙ ap (decoded f) (pieces_at width k bytes i h)
