-- Where the traces below a node stand in the list of all: an inner node's children stand one behind the other, from its own place on.
-- What is written there is what that list has there.
use mathlib.Core.Path.{◌≡◌, sym, ap, subst, ◌∙◌}
use mathlib.Core.Logic.{inl, inr}
use mathlib.Core.List.{List, [], ◌++◌, append-nil, append_assoc}
use Prim.Native.Nat.{ℕ, ◌+◌, ◌-◌, ◌≤◌, ◌<◌}
use native.Mathlib.Omega.{arith}
use native.Mathlib.Decide.{dec_le}
use native.Mathlib.Nat.{lt_of_not-le}
use lib.ListN.{length, get_or, take, drop, length-append, length-drop, get_or-append}
use lib.Seq.{get_or-drop, get_or-take, drop-drop, drop-append_seam, length-take-le, ext_get_or}
use Rattle.dstree.specs.Node.{Tree}
use Rattle.dstree.specs.Checking.{traces_below}
use Rattle.checking.specs.Laid.{PutFrom, StartsAt}

-- node 0 stands at the first place
pub root_starts : (tree : Tree) → StartsAt tree 0 0
root_starts tree = record { rest = []; is = sym (append-nil (traces_below tree 0)) }

module _ {tree : Tree} {j start : ℕ} (s : StartsAt tree j start) where
  -- what stands at place x of a node's list
  pub from_start : (x : ℕ) → x < length (traces_below tree j) → get_or (traces_below tree 0) (start + x) 0 ≡ get_or (traces_below tree j) x 0
  from_start x h =
      sym (get_or-drop start (traces_below tree 0) x 0)
      ∙ (ap (λ (l : List ℕ). get_or l x 0) s.is ∙ get_or-append (traces_below tree j) s.rest 0 x h)

  pub starts_inside : 0 < length (traces_below tree j) → start + length (traces_below tree j) ≤ length (traces_below tree 0)
  starts_inside some =
      omega (arith, length-drop start (traces_below tree 0), ap length s.is, length-append (traces_below tree j) s.rest)

  -- its children, if it has some
  module _ (l r : ℕ) (both : traces_below tree j ≡ traces_below tree l ++ traces_below tree r) where
    parted : drop start (traces_below tree 0) ≡ traces_below tree l ++ (traces_below tree r ++ s.rest)
    parted = s.is ∙ (ap (λ (x : List ℕ). x ++ s.rest) both ∙ append_assoc (traces_below tree l) (traces_below tree r) s.rest)

    pub left_starts : StartsAt tree l start
    left_starts = record { rest = traces_below tree r ++ s.rest; is = parted }

    pub right_starts : StartsAt tree r (start + length (traces_below tree l))
    right_starts = record {
      rest = s.rest;
      is = sym (drop-drop (length (traces_below tree l)) start (traces_below tree 0))
          ∙ (ap (drop (length (traces_below tree l))) parted ∙ drop-append_seam (traces_below tree l) (traces_below tree r ++ s.rest));
    }

  -- a leaf's numbers, written from its place on, stand as in the list of all; and what stood so before does still
  module _ {before after : List ℕ} (put : PutFrom before after start (traces_below tree j)) where
    pub put_there : (x : ℕ) → x < length (traces_below tree j) → get_or after (start + x) 0 ≡ get_or (traces_below tree 0) (start + x) 0
    put_there x h = put.new x h ∙ sym (from_start x h)

    pub still_there : (y : ℕ) → get_or before y 0 ≡ get_or (traces_below tree 0) y 0 → get_or after y 0 ≡ get_or (traces_below tree 0) y 0
    still_there y e = by (dec_le start y) (dec_le (start + length (traces_below tree j)) y)
      where
        by : Dec (start ≤ y) → Dec (start + length (traces_below tree j) ≤ y) → get_or after y 0 ≡ get_or (traces_below tree 0) y 0
        by (no f) d = put.old y (inl (lt_of_not-le f)) ∙ e
        by (yes h) (yes g) = put.old y (inr g) ∙ e
        by (yes h) (no f) =
            let same : start + (y - start) ≡ y = omega arith in
            subst (λ (z : ℕ). get_or after z 0 ≡ get_or (traces_below tree 0) z 0) same
            (put_there (y - start) (omega (arith, lt_of_not-le f)))

  -- places that stand so are the node's list
  pub from_start_is : (order : List ℕ) → start + length (traces_below tree j) ≤ length order
      → ((x : ℕ) → x < length (traces_below tree j) → get_or order (start + x) 0 ≡ get_or (traces_below tree 0) (start + x) 0)
      → take (length (traces_below tree j)) (drop start order) ≡ traces_below tree j
  from_start_is order room h =
      let size : length (take (length (traces_below tree j)) (drop start order)) ≡ length (traces_below tree j) =
      length-take-le (length (traces_below tree j)) (drop start order) (omega (arith, length-drop start order)) in
      ext_get_or 0 (take (length (traces_below tree j)) (drop start order)) (traces_below tree j) size
      (λ x g. let inside : x < length (traces_below tree j) = omega (arith, g, size) in
      get_or-take (length (traces_below tree j)) (drop start order) x 0 inside
      ∙ (get_or-drop start order x 0 ∙ (h x inside ∙ from_start x inside)))
