-- Lists by links: what following the links from a number gives.
-- The idea: "the links follow this list to its end" says it without fuel. Following with fuel enough gives the list, and a list that was
-- found by following, rises and stays below k with more than k fuel is followed to its end. So the links of well-formed tables rise.
use Rattle.std.specs.Prelude.{if◌then◌else◌}
use Prim.Native.Nat.{ℕ, zero, suc, ◌+◌, ◌≤◌, ◌<◌}
use mathlib.Core.Path.{◌≡◌, refl, ◌∙◌, sym, subst}
use mathlib.Core.Logic.{◌⊎◌, inl, inr}
use mathlib.Core.Bool.{Bool, true, false}
use mathlib.Core.List.{List, [], ◌∷◌}
use native.Mathlib.Omega.{arith}
use lib.IntN.{ℤ}
use lib.ListN.{length, get_or}
use lib.Dec.{T, eqb}
use borrow.Author.Tests.{eq-eqb, ne_eqb, eqb-true, eqb-false}
use Rattle.integer.proofs.Lists.{In, first, later, in_nil, is_in_lem, in_is, Up, u_more, up_in, up_length}
use Rattle.dstree.specs.Node.{leaf, Kind, node_at}
use Rattle.dstree.specs.Matching.{numbers_in}
use Rattle.dstree.proofs.Formed.{Kept, number_node}
use Rattle.tables.specs.Layout.{kind_place, first_place}
use Rattle.tables.specs.Tables.{Tables, trace_count, node_count, record_of}
use Rattle.tables.specs.View.{small_at, numbers_from, kind_in, tree_in, well_formed}
use Rattle.tables.specs.Walk.{numbers_of, Rising}
pub use Rattle.tables.specs.Walk.{Linked, l_end, l_on}
use Rattle.tables.proofs.Views.{tree_size, tree_kind, tree_formed, kind_named}

-- ---- following them

-- fuel for every number of the list is enough
pub followed : {links : List ℕ} {x : ℕ} {l : List ℕ} (fuel : ℕ) → Linked links (x ∷ l) → suc (length l) ≤ fuel → numbers_from links fuel x ≡ x ∷ l
unfolding numbers_from
followed {links} {x} zero w h = absurd (omega arith)
followed {links} {x} (suc fuel) (l_end e) h = rw (eq-eqb (get_or links x 0) 0 e)
followed {links} {x} (suc fuel) (l_on {y} {l} e p w) h =
    let on : numbers_from links fuel y ≡ y ∷ l = followed fuel w (omega arith) in
    rw (ne_eqb (get_or links x 0) 0 (λ z. omega arith), e, on)

-- a list that was followed, rises from b on and stays below k, with fuel to spare, ends
pub follows : (links : List ℕ) (k fuel b x : ℕ) → Up b (numbers_from links fuel x) → ((t : ℕ) → In t (numbers_from links fuel x) → t < k)
    → k < fuel + x → 0 < fuel → Linked links (numbers_from links fuel x)
unfolding numbers_from
follows links k zero b x u low f g = absurd (omega arith)
follows links k (suc fuel) b x u low f g = by (eqb (get_or links x 0) 0) refl u low (λ (b : ℕ). follows links k fuel b (get_or links x 0))
  where
    step : (fuel : ℕ) → k < suc fuel + x → (get_or links x 0 ≡ 0 → ⊥) → Up b (x ∷ numbers_from links fuel (get_or links x 0)) →
        ((t : ℕ) → In t (x ∷ numbers_from links fuel (get_or links x 0)) → t < k)
        → ((b : ℕ) → Up b (numbers_from links fuel (get_or links x 0)) → ((t : ℕ) → In t (numbers_from links fuel (get_or links x 0)) → t < k)
        → k < fuel + get_or links x 0 → 0 < fuel → Linked links (numbers_from links fuel (get_or links x 0)))
        → Linked links (x ∷ numbers_from links fuel (get_or links x 0))
    step zero f ne u low ih = absurd (omega (arith, low x first))
    step (suc fuel) f ne (u_more p u) low ih =
        let above : suc x ≤ get_or links x 0 = up_in u first in
        l_on {x = x} {y = get_or links x 0} refl (omega arith) (ih (suc x) u (λ t i. low t (later i)) (omega arith) (omega arith))

    by : (c : Bool) → eqb (get_or links x 0) 0 ≡ c → Up b (x ∷ (if c then [] else numbers_from links fuel (get_or links x 0)))
        → ((t : ℕ) → In t (x ∷ (if c then [] else numbers_from links fuel (get_or links x 0))) → t < k)
        → ((b : ℕ) → Up b (numbers_from links fuel (get_or links x 0)) → ((t : ℕ) → In t (numbers_from links fuel (get_or links x 0)) → t < k)
        → k < fuel + get_or links x 0 → 0 < fuel → Linked links (numbers_from links fuel (get_or links x 0)))
        → Linked links (x ∷ (if c then [] else numbers_from links fuel (get_or links x 0)))
    by true e u low ih = l_end (eqb-true (get_or links x 0) 0 e)
    by false e u low ih = step fuel f (λ z. eqb-false (get_or links x 0) 0 e z) u low ih

-- .. with the fuel that a leaf's list is read with
pub leaf_follows : (links : List ℕ) (k x : ℕ) → Up 0 (numbers_of links k x) → ((t : ℕ) → In t (numbers_of links k x) → t < k) → Linked links (numbers_of links k x)
leaf_follows links k x u low = follows links k (suc k) 0 x u low (omega arith) (omega arith)

-- a list that is linked, rises and stays below k is the one that a leaf is read with, whatever the count above k
pub leaf_followed : {links : List ℕ} {x : ℕ} {l : List ℕ} (k : ℕ) → Linked links (x ∷ l) → Up 0 (x ∷ l) → ((t : ℕ) → In t (x ∷ l) → t < k) → numbers_of links k x ≡ x ∷ l
leaf_followed k w u low = followed (suc k) w (omega (arith, up_length k (omega arith) u low))

-- ---- what is not in a list does not bear on it

pub linked_same : {links links' : List ℕ} {l : List ℕ} → ((s : ℕ) → In s l → get_or links' s 0 ≡ get_or links s 0) → Linked links l → Linked links' l
linked_same h (l_end {x} e) = l_end (h x first ∙ e)
linked_same h (l_on {x} e p w) = l_on (h x first ∙ e) p (linked_same (λ s i. h s (later i)) w)

-- ---- each of its links is the end or a later number of it

pub link_rises : {links : List ℕ} {b k s : ℕ} {l : List ℕ} → Linked links l → Up b l → ((t : ℕ) → In t l → t < k) → In s l → (get_or links s 0 ≡ 0) ⊎
    ((s < get_or links s 0) × (get_or links s 0 < k))
link_rises (l_end e) u low first = inl e
link_rises (l_end e) u low (later i) = absurd (in_nil i)
link_rises (l_on {y} e p w) (u_more g u) low first = inr (omega (arith, up_in u first, e), omega (arith, e, low y (later first)))
link_rises (l_on e p w) (u_more g u) low (later i) = link_rises w u (λ t j. low t (later j)) i

-- ---- well-formed tables

-- a number of a node that is read so, of a kind that the layout names
rise_at : (links : List ℕ) (k : ℕ) (r : List ℤ) (v : ℕ) (kind : Kind) → kind ≡ kind_in links k r v → v ≤ 2 → ((ns : List ℕ) → kind ≡ leaf ns → Up 0 ns)
    → ((t : ℕ) → In t (numbers_in kind) → t < k) → (s : ℕ) → In s (numbers_in kind) → (get_or links s 0 ≡ 0) ⊎ ((s < get_or links s 0) × (get_or links s 0 < k))
unfolding numbers_in kind_in
rise_at links k r zero kind e h up low s i =
    let ns : List ℕ = numbers_of links k (small_at r first_place) in
    let u : Up 0 ns = up ns e in
    let below : (t : ℕ) → In t ns → t < k = λ t j. low t (subst (λ (a : Kind). In t (numbers_in a)) (sym e) j) in
    link_rises (leaf_follows links k (small_at r first_place) u below) u below (subst (λ (a : Kind). In s (numbers_in a)) e i)
rise_at links k r (suc zero) kind e h up low s i = absurd (in_nil (subst (λ (a : Kind). In s (numbers_in a)) e i))
rise_at links k r (suc (suc zero)) kind e h up low s i = absurd (in_nil (subst (λ (a : Kind). In s (numbers_in a)) e i))
rise_at links k r (suc (suc (suc v))) kind e h up low s i = absurd (omega arith)

-- every stored trace is in a leaf, so its link ends the leaf's list or leads to a later stored trace
pub tables_rise : (t : Tables) → T (well_formed t) → Rising t.links (trace_count t)
tables_rise t w s h = by ((tree_formed t w).shape.kept s h)
  where
    by : Kept (tree_in t) s → (get_or t.links s 0 ≡ 0) ⊎ ((s < get_or t.links s 0) × (get_or t.links s 0 < trace_count t))
    by k =
        let rules = tree_formed t w in
        let inside : k.at < node_count t = omega (arith, number_node (tree_in t) s k.at k.holds, tree_size t) in
        rise_at t.links (trace_count t) (record_of t.nodes k.at) (small_at (record_of t.nodes k.at) kind_place) (node_at (tree_in t) k.at).kind
        (tree_kind t k.at inside) (kind_named t w k.at inside) (λ ns e. rules.shape.rises k.at ns e) (λ u i. rules.shape.numbers u k.at (in_is i)) s (is_in_lem s _ k.holds)
