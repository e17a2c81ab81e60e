-- Counts in the caller's list, and counting by node number: a node more adds its traces if it is a leaf that passes.
use Rattle.std.specs.Prelude.{if◌then◌else◌}
use Prim.Native.Nat.{ℕ, suc, ◌+◌, ◌*◌, ◌≤◌}
use mathlib.Core.Path.{◌≡◌, refl, ◌∙◌, ap}
use mathlib.Core.Bool.{Bool, true, false, ◌&&◌}
use mathlib.Core.List.{List, [], ◌∷◌, ◌++◌}
use native.Mathlib.Omega.{arith}
use lib.ListN.{length, get_or, drop, set, length-set}
use lib.Seq.{get_or-set_same, get_or-set_other, drop-set-lt}
use Rattle.integer.specs.Words.{those, total, counting}
use Rattle.integer.proofs.Rows.{counting_more}
use Rattle.dstree.specs.Node.{Tree, node_at}
use Rattle.dstree.specs.Matching.{is_leaf_kind, numbers_in}
use Rattle.dstree.specs.Bands.{BandCount, traces_among}
use Rattle.band_counts.specs.Counted.{count_at, with_count, counted_to}

pub at_most_many : (t : Bool) (n : ℕ) → (if t then n else 0) ≤ n
at_most_many true n = omega arith
at_most_many false n = omega arith

-- ---- a band's two places

pub count_put : (l : List ℕ) (k : ℕ) (c : BandCount) → 2 * k + 2 ≤ length l → count_at (with_count l k c) k ≡ c
count_put l k c h =
    let e : get_or (with_count l k c) (2 * k) 0 ≡ c.sure =
    get_or-set_other (set l (2 * k) c.sure) (2 * k + 1) (2 * k) c.possible 0 (λ q. omega arith)
    ∙ get_or-set_same l (2 * k) c.sure 0 (omega arith) in
    let f : get_or (with_count l k c) (2 * k + 1) 0 ≡ c.possible =
    get_or-set_same (set l (2 * k) c.sure) (2 * k + 1) c.possible 0 (omega (arith, length-set l (2 * k) c.sure)) in
    rw (e, f)

pub count_other : (l : List ℕ) (k j : ℕ) (c : BandCount) → (j ≡ k → ⊥) → count_at (with_count l k c) j ≡ count_at l j
count_other l k j c f =
    let e : get_or (with_count l k c) (2 * j) 0 ≡ get_or l (2 * j) 0 =
    get_or-set_other (set l (2 * k) c.sure) (2 * k + 1) (2 * j) c.possible 0 (λ q. omega arith)
    ∙ get_or-set_other l (2 * k) (2 * j) c.sure 0 (λ q. f (omega arith)) in
    let g : get_or (with_count l k c) (2 * j + 1) 0 ≡ get_or l (2 * j + 1) 0 =
    get_or-set_other (set l (2 * k) c.sure) (2 * k + 1) (2 * j + 1) c.possible 0 (λ q. f (omega arith))
    ∙ get_or-set_other l (2 * k) (2 * j + 1) c.sure 0 (λ q. omega arith) in
    rw (e, g)

pub count_rest : (n : ℕ) (l : List ℕ) (k : ℕ) (c : BandCount) → 2 * k + 2 ≤ n → drop n (with_count l k c) ≡ drop n l
count_rest n l k c h = drop-set-lt n (set l (2 * k) c.sure) (2 * k + 1) c.possible (omega arith) ∙ drop-set-lt n l (2 * k) c.sure (omega arith)

pub count_length : (l : List ℕ) (k : ℕ) (c : BandCount) → length (with_count l k c) ≡ length l
count_length l k c = length-set (set l (2 * k) c.sure) (2 * k + 1) c.possible ∙ length-set l (2 * k) c.sure

-- ---- counting by node number

those_append : {A : Type 0} (passes : A → Bool) (l m : List A) → those passes (l ++ m) ≡ those passes l ++ those passes m
unfolding those
those_append passes [] m = refl
those_append passes (a ∷ l) m = by (passes a) (those_append passes l m)
  where
    by : (t : Bool) → those passes (l ++ m) ≡ those passes l ++ those passes m
        → (if t then a ∷ those passes (l ++ m) else those passes (l ++ m)) ≡ (if t then a ∷ those passes l else those passes l) ++ those passes m
    by true ih = ap (λ (r : List _). a ∷ r) ih
    by false ih = ih

traces_append : (tree : Tree) (l m : List ℕ) → traces_among tree (l ++ m) ≡ traces_among tree l + traces_among tree m
unfolding traces_among total
traces_append tree [] m = omega arith
traces_append tree (k ∷ l) m = omega (arith, traces_append tree l m)

module _ (tree : Tree) (passes : ℕ → Bool) where
  abbrev leaf_at : ℕ → Bool
  leaf_at number = is_leaf_kind (node_at tree number).kind

  -- one node
  one_counted : (j : ℕ) → traces_among tree (those passes (those leaf_at (j ∷ [])))
      ≡ (if leaf_at j && passes j then length (numbers_in (node_at tree j).kind) else 0)
  unfolding those traces_among total
  one_counted j = by (leaf_at j)
    where
      at : (t : Bool) → traces_among tree (if t then j ∷ [] else []) ≡ (if t then length (numbers_in (node_at tree j).kind) else 0)
      at true = omega arith
      at false = refl

      by : (t : Bool) → traces_among tree (those passes (if t then j ∷ [] else []))
          ≡ (if t && passes j then length (numbers_in (node_at tree j).kind) else 0)
      by true = at (passes j)
      by false = refl

  pub counted_more : (j : ℕ) → counted_to tree passes (suc j) ≡ counted_to tree passes j
      + (if leaf_at j && passes j then length (numbers_in (node_at tree j).kind) else 0)
  unfolding counted_to
  counted_more j =
      let z : 0 + j ≡ j = omega arith in
      let e : counting (suc j) 0 ≡ counting j 0 ++ (j ∷ []) = counting_more j 0 ∙ ap (λ (k : ℕ). counting j 0 ++ (k ∷ [])) z in
      let A : List ℕ = those leaf_at (counting j 0) in
      ap (λ (l : List ℕ). traces_among tree (those passes (those leaf_at l))) e
      ∙ ap (λ (l : List ℕ). traces_among tree (those passes l)) (those_append leaf_at (counting j 0) (j ∷ []))
      ∙ ap (traces_among tree) (those_append passes A (those leaf_at (j ∷ [])))
      ∙ traces_append tree (those passes A) (those passes (those leaf_at (j ∷ [])))
      ∙ ap (λ (k : ℕ). traces_among tree (those passes A) + k) (one_counted j)

pub counted_none : (tree : Tree) (passes : ℕ → Bool) → counted_to tree passes 0 ≡ 0
unfolding counted_to traces_among counting those total
counted_none tree passes = refl
