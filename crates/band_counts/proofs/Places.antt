-- Once all nodes are taken the list begins with the report: its counts are those of all leaves, two places each.
use Prim.Native.Nat.{ℕ, zero, suc, ◌+◌, ◌*◌, ◌-◌, ◌≤◌, ◌<◌}
use mathlib.Core.Path.{◌≡◌, refl, sym, ap, ap₂, ◌∙◌}
use mathlib.Core.List.{List, [], ◌∷◌, ◌++◌, map}
use native.Mathlib.Omega.{arith}
use lib.ListN.{length, get_or, take, drop, take-append-drop, length-map}
use Rattle.integer.specs.Words.{counting}
use Rattle.dstree.specs.Measures.{Trace}
use Rattle.dstree.specs.Node.{Tree}
use Rattle.dstree.specs.Matching.{leaves}
use Rattle.dstree.specs.Bands.{Band, bands_of, BandCount, is_sure, is_possible, band_count, band_report, report_places}
use Rattle.dstree.specs.Book.{over}
use Rattle.dstree.proofs.Bands.{bands_are, places_are}
use Rattle.band_counts.specs.Counted.{band_at, count_at, counts_in, counted_to, CountedTo}

-- ---- two places more in front

next_count : (a b : ℕ) (l : List ℕ) (i : ℕ) → count_at (a ∷ b ∷ l) (suc i) ≡ count_at l i
next_count a b l i =
    let e : 2 * suc i ≡ suc (suc (2 * i)) = omega arith in
    let f : 2 * suc i + 1 ≡ suc (suc (2 * i + 1)) = omega arith in
    ap₂ (λ (x y : ℕ). record { sure = x; possible = y }) (ap (λ (n : ℕ). get_or (a ∷ b ∷ l) n 0) e) (ap (λ (n : ℕ). get_or (a ∷ b ∷ l) n 0) f)

next_counts : (a b : ℕ) (l : List ℕ) (m i : ℕ) → map (count_at (a ∷ b ∷ l)) (counting m (suc i)) ≡ map (count_at l) (counting m i)
unfolding counting
next_counts a b l zero i = refl
next_counts a b l (suc m) i = ap₂ (λ (c : BandCount) (rest : List BandCount). c ∷ rest) (next_count a b l i) (next_counts a b l m (suc i))

-- the counts in the places of a report are the report
pub counts_in_lem : (report : List BandCount) (rest : List ℕ) → counts_in (length report) (report_places report ++ rest) ≡ report
unfolding report_places counts_in counting
counts_in_lem [] rest = refl
counts_in_lem (c ∷ report) rest =
    ap (λ (l : List BandCount). c ∷ l) (next_counts c.sure c.possible (report_places report ++ rest) (length report) 0 ∙ counts_in_lem report rest)

-- a list whose counts are these, begins with their places
places_in : (counts : List BandCount) (none : BandCount) (l : List ℕ) → 2 * length counts ≤ length l
    → ((k : ℕ) → k < length counts → count_at l k ≡ get_or counts k none) → take (2 * length counts) l ≡ report_places counts
unfolding report_places
places_in [] none l h e = refl
places_in (c ∷ counts) none [] h e = absurd (omega arith)
places_in (c ∷ counts) none (a ∷ []) h e = absurd (omega arith)
places_in (c ∷ counts) none (a ∷ (b ∷ l)) h e =
    let n : 2 * suc (length counts) ≡ suc (suc (2 * length counts)) = omega arith in
    let rest : take (2 * length counts) l ≡ report_places counts =
    places_in counts none l (omega arith) (λ k g. sym (next_count a b l k) ∙ e (suc k) (omega arith)) in
    let first : count_at (a ∷ b ∷ l) 0 ≡ c = e 0 (omega arith) in
    ap (λ (i : ℕ). take i (a ∷ b ∷ l)) n
    ∙ (ap (λ (r : List ℕ). a ∷ b ∷ r) rest ∙ ap (λ (x : BandCount). x.sure ∷ x.possible ∷ report_places counts) first)

-- ---- the report's counts, band by band

get_or_mapped : (f : Band → BandCount) (l : List Band) (d : Band) (k : ℕ) → k < length l → get_or (map f l) k (f d) ≡ f (get_or l k d)
get_or_mapped f [] d k h = absurd (omega arith)
get_or_mapped f (a ∷ l) d zero h = refl
get_or_mapped f (a ∷ l) d (suc k) h = get_or_mapped f l d k (omega arith)

band_is : (edges : List ℕ) (d : Band) (k : ℕ) → suc k < length edges → get_or (bands_of edges) k d ≡ band_at edges k
unfolding bands_of
band_is [] d k h = absurd (omega arith)
band_is (a ∷ []) d k h = absurd (omega arith)
band_is (a ∷ (b ∷ rest)) d zero h = refl
band_is (a ∷ (b ∷ rest)) d (suc k) h = band_is (b ∷ rest) d k (omega arith)

module _ (tree : Tree) (query : Trace) (edges : List ℕ) where
  all_counted : (k : ℕ) → band_count tree query (band_at edges k) ≡ record {
    sure = counted_to tree (is_sure tree query (band_at edges k)) (length tree);
    possible = counted_to tree (is_possible tree query (band_at edges k)) (length tree);
  }
  unfolding band_count counted_to leaves
  all_counted k = refl

  pub report_is : (work list list₀ : List ℕ) → CountedTo tree query edges (length tree) work list
      → drop (2 * (length edges - 1)) list ≡ drop (2 * (length edges - 1)) list₀
      → list ≡ over (report_places (band_report tree query edges)) list₀
  unfolding band_report
  report_is work list list₀ c rest =
      let counts : List BandCount = map (band_count tree query) (bands_of edges) in
      let many : length counts ≡ length edges - 1 = length-map (bands_of edges) (band_count tree query) ∙ bands_are edges in
      let d : Band = record { start = 0; end = 0 } in
      let front : take (2 * length counts) list ≡ report_places counts =
      places_in counts (band_count tree query d) list (omega (arith, many, c.list_long))
      (λ k h. c.counts k (omega (arith, many, h)) ∙ sym (get_or_mapped (band_count tree query) (bands_of edges) d k (omega (arith, h, bands_are edges, many))
      ∙ (ap (band_count tree query) (band_is edges d k (omega (arith, many, h))) ∙ all_counted k))) in
      let size : length (report_places counts) ≡ 2 * (length edges - 1) = omega (arith, places_are counts, many) in
      sym (take-append-drop (2 * (length edges - 1)) list)
      ∙ (ap₂ (λ (a b : List ℕ). a ++ b) (ap (λ (n : ℕ). take (2 * n) list) (sym many) ∙ front) rest
      ∙ ap (λ (n : ℕ). report_places counts ++ drop n list₀) (sym size))
