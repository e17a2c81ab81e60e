-- A leaf's list of traces by the links: how a number joins it, and how a list is laid anew.
use Rattle.std.specs.Prelude.{ℕ, List, [], ◌∷◌, set}
use Rattle.integer.specs.Words.{last_of}

-- a new number behind a list's last: "joins a leaf"
unfoldable pub joined : List ℕ → List ℕ → ℕ → List ℕ
joined links numbers new = set (set links (last_of numbers) new) new 0

-- each number linked to the next, the last to 0
unfoldable pub linked : List ℕ → List ℕ → List ℕ
linked [] links = links
linked (x ∷ []) links = set links x 0
linked (x ∷ (y ∷ rest)) links = linked (y ∷ rest) (set links x y)
