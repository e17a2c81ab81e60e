-- A line, item behind item.
use Prim.Native.Nat.{ℕ, ◌+◌, ◌^◌, ◌≤◌, ◌<◌}
use mathlib.Core.Path.{◌≡◌, sym, ◌∙◌, ap, ap₂}
use mathlib.Core.List.{List, [], ◌∷◌, ◌++◌, append_assoc}
use native.Mathlib.Omega.{arith}
use native.Mathlib.Nat.{zero-add}
use lib.ListN.{length, drop, length-append}
use lib.Seq.{sets, sets-eq}
use Rattle.dstree.specs.Program.{Line, found, refused_line, decimal, spaced, text}
use Rattle.tables.specs.Beginning.{over}
use Rattle.sheet.proofs.Laid.{sets_append}
use Rattle.sheet_line.proofs.Digits.{most_digits}

-- a number, and a byte behind it
abbrev pub item : ℕ → ℕ → List ℕ
item v end = decimal v ++ (end ∷ [])

pub item_most : (v end : ℕ) → v < 2 ^ 64 → length (item v end) ≤ 21
item_most v end h = omega (arith, length-append (decimal v) (end ∷ []), most_digits v h)

-- ---- what is written behind what

-- bytes from a place on are these, and a place lies behind them
abbrev pub Wrote : List ℕ → ℕ → List ℕ → List ℕ → ℕ → Type 0
Wrote l i new l' p = (p ≡ i + length new) × (l' ≡ sets l i new)

pub join : (l : List ℕ) (i : ℕ) (a : List ℕ) (l₁ : List ℕ) (p : ℕ) (b l₂ : List ℕ) (q : ℕ) → Wrote l i a l₁ p → Wrote l₁ p b l₂ q → Wrote l i (a ++ b) l₂ q
join l i a l₁ p b l₂ q u v = (
  omega (arith, u.0, v.0, length-append a b),
  v.1 ∙ (ap₂ (λ (k : List ℕ) (j : ℕ). sets k j b) u.1 u.0 ∙ sym (sets_append a b l i)),
)

-- from the first place on
pub from_first : (l new l' : List ℕ) (p : ℕ) → Wrote l 0 new l' p → length new ≤ length l → (t : List ℕ) → t ≡ new → (p ≡ length t) × (l' ≡ over t l)
from_first l new l' p w h t e = rw e (omega (arith, w.0), w.1 ∙ (sets-eq new l 0 (omega arith) ∙ ap (λ (k : ℕ). new ++ drop k l) (zero-add (length new))))

-- ---- the lines

behind : (v end : ℕ) (rest : List ℕ) → decimal v ++ (end ∷ rest) ≡ item v end ++ rest
behind v end rest = sym (append_assoc (decimal v) (end ∷ []) rest)

pub numbers_text : (a b c d : ℕ) → text (found a b c d) ≡ item a 32 ++ (item b 32 ++ (item c 32 ++ item d 10))
unfolding text spaced
numbers_text a b c d =
    behind a 32 _ ∙ ap (λ (l : List ℕ). item a 32 ++ l) (behind b 32 _ ∙ ap (λ (l : List ℕ). item b 32 ++ l) (behind c 32 (item d 10)))

-- "refused" and a space
abbrev pub refused_text : List ℕ
refused_text = 114 ∷ 101 ∷ 102 ∷ 117 ∷ 115 ∷ 101 ∷ 100 ∷ 32 ∷ []

pub refusal_text : (number block : ℕ) → text (refused_line number block) ≡ refused_text ++ (item number 32 ++ item block 10)
unfolding text spaced
refusal_text number block = ap (λ (l : List ℕ). refused_text ++ l) (behind number 32 (item block 10))

-- the same written, if the line is another
pub as_line : (p : ℕ) (l' l : List ℕ) (a b : Line) → a ≡ b → (p ≡ length (text a)) × (l' ≡ over (text a) l) → (p ≡ length (text b)) × (l' ≡ over (text b) l)
as_line p l' l a b e w = rw (sym e) w
