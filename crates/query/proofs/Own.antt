-- A node's own bound and its own upper figure, segment by segment.
use mathlib.Core.Path.{◌≡◌, refl, sym, subst, ◌∙◌}
use mathlib.Core.List.{List, [], ◌∷◌, map}
use Prim.Native.Nat.{ℕ, suc, ◌+◌, ◌-◌, ◌≤◌, ◌<◌}
use native.Mathlib.Numerals.{add-one}
use native.Mathlib.Omega.{arith}
use lib.IntN.{ℤ}
use lib.ListN.{length, length-map}
use Rattle.integer.specs.Words.{counting}
use Rattle.integer.proofs.Times.{counting_length}
use Rattle.segment.specs.Limits.{bound_limit}
use Rattle.segment.specs.Stored.{samples_of}
use Rattle.segment.proofs.Stored.{samples_length}
use Rattle.segment.proofs.Limits.{bound_limit_lem}
use Rattle.dstree.specs.Measures.{Trace, sample_limit, most_samples}
use Rattle.dstree.specs.Figures.{Run, run, width, sum_on, scatter_on}
use Rattle.dstree.specs.Node.{Segment, ends, total_over}
use Rattle.dstree.specs.Formed.{Rises, rises_more, Limited, AllLimited, l_more}
use Rattle.dstree.specs.Matching.{bound_on, own_bound}
use Rattle.dstree.specs.Bands.{own_upper}
use Rattle.dstree.proofs.Cuts.{parted_rises}
use Rattle.tables.proofs.Views.{end_at}
use Rattle.tables.specs.Runs.{Inside}
use Rattle.tables.specs.Layout.{segments_place, segment_at}
use Rattle.tables.specs.View.{small_at, segment_in, segments_in, node_in}
use Rattle.prefixes.specs.Prefixes.{Prefixes}
use Rattle.prefixes.proofs.Cut as cut
use Rattle.query.specs.Bounded.{Bounded, bound_by, upper_by}

-- the own bound of the node that a record stands for, whatever its kind
pub own_bound_in : (query : Trace) (links : List ℕ) (count : ℕ) (r : List ℤ) → own_bound query (node_in links count r) ≡ bound_by query r
unfolding own_bound node_in
own_bound_in query links count r = refl

-- .. and its own upper figure
pub own_upper_in : (query : Trace) (links : List ℕ) (count : ℕ) (r : List ℤ) → own_upper query (node_in links count r) ≡ upper_by query r
unfolding own_upper node_in
own_upper_in query links count r = refl

-- ---- the segments from number i on
abbrev pub segments_after : List ℤ → ℕ → ℕ → List Segment
segments_after r count i = map (segment_in r) (counting (count - i) i)

-- what is known of these: ends that rise to n at most, and figures within the limits
pub record Left (r : List ℤ) (n count first i : ℕ) : Type 0 where
  pub rises : Rises n first (ends (segments_after r count i))
  pub limited : AllLimited sample_limit first (segments_after r count i)

-- .. of segment i, which ends at `last`, and of those behind it
pub record NextSegment (r : List ℤ) (n count first i last : ℕ) : Type 0 where
  pub rises : first ≤ last
  pub to_n : last ≤ n
  pub limited : Limited sample_limit (width (run first last)) (segment_in r i)
  pub on : Left r n count (last + 1) (i + 1)

next_of : {r : List ℤ} {n count first i : ℕ} → Rises n first (ends (segment_in r i ∷ segments_after r count (i + 1)))
    → AllLimited sample_limit first (segment_in r i ∷ segments_after r count (i + 1)) → NextSegment r n count first i (segment_in r i).end
next_of {r} {n} {count} {first} {i} (rises_more a b p) (l_more c d) =
    let e : suc (segment_in r i).end ≡ (segment_in r i).end + 1 = sym (add-one (segment_in r i).end) in
    record {
      rises = a;
      to_n = b;
      limited = c;
      on = record {
        rises = subst (λ (x : ℕ). Rises n x (ends (segments_after r count (i + 1)))) e p;
        limited = subst (λ (x : ℕ). AllLimited sample_limit x (segments_after r count (i + 1))) e d;
      };
    }

after_none : (r : List ℤ) (count i : ℕ) → count ≤ i → segments_after r count i ≡ []
unfolding counting
after_none r count i h = let e : count - i ≡ 0 = omega arith in rw e

module _ (r : List ℤ) (count i : ℕ) (h : i < count) where
  after_more : segments_after r count i ≡ segment_in r i ∷ segments_after r count (i + 1)
  unfolding counting
  after_more =
      let e : count - i ≡ suc (count - (i + 1)) = omega arith in
      rw (e, add-one i)

  module _ (last : ℕ) (e : last ≡ small_at r (segment_at i)) where
    is_end : (segment_in r i).end ≡ last
    is_end = end_at r i ∙ sym e

    pub next_at : {n first : ℕ} → Left r n count first i → NextSegment r n count first i last
    next_at {n} {first} l =
        let rises = subst (λ (s : List Segment). Rises n first (ends s)) after_more l.rises in
        let limited = subst (AllLimited sample_limit first) after_more l.limited in
        subst (NextSegment r n count first i) is_end (next_of rises limited)

    -- one term more
    pub total_more : (term : Run → Segment → ℕ) (first : ℕ) → total_over term first (segments_after r count i)
        ≡ term (run first last) (segment_in r i) + total_over term (last + 1) (segments_after r count (i + 1))
    unfolding total_over
    total_more term first =
        subst (λ (x : ℕ). total_over term first (segments_after r count i)
        ≡ term (run first x) (segment_in r i) + total_over term (x + 1) (segments_after r count (i + 1))) is_end
        (rw (after_more, add-one (segment_in r i).end))

pub total_end : (r : List ℤ) (count : ℕ) (term : Run → Segment → ℕ) (first i : ℕ) → count ≤ i → total_over term first (segments_after r count i) ≡ 0
unfolding total_over
total_end r count term first i h = rw (after_none r count i h)

pub after_start : (r : List ℤ) → segments_after r (small_at r segments_place) 0 ≡ segments_in r
unfolding segments_in
after_start r = let e : small_at r segments_place - 0 ≡ small_at r segments_place = omega arith in rw e

-- a query whose sums are kept is of 256 words at most
pub few_words : (query : List ℤ) {sums : List ℤ} {squares : List ℕ} → Prefixes (samples_of query) sums squares → length query ≤ most_samples
few_words query p = omega (arith, p.few, samples_length query)

-- ---- of a bounded record
module _ (r : List ℤ) (n : ℕ) (b : Bounded r n) where
  pub few_segments : small_at r segments_place ≤ 16
  unfolding segments_in
  few_segments =
      let k = small_at r segments_place in
      let segments = map (segment_in r) (counting k 0) in
      let many : length (ends segments) ≡ k =
      length-map segments (λ (s : Segment). s.end) ∙ (length-map (counting k 0) (segment_in r) ∙ counting_length k 0) in
      omega (arith, many, b.fits.few)

  pub left_all : Left r n (small_at r segments_place) 1 0
  left_all = record {
    rises = subst (λ (s : List Segment). Rises n 1 (ends s)) (sym (after_start r)) (parted_rises b.fits.parted);
    limited = subst (AllLimited sample_limit 1) (sym (after_start r)) b.limited;
  }

-- ---- a bound's size: so much for each sample

module _ {trace : Trace} {sums : List ℤ} {squares : List ℕ} (p : Prefixes trace sums squares) where
  term_small : {first last : ℕ} → Inside (length trace) first last → (s : Segment) → Limited sample_limit (width (run first last)) s
      → bound_on trace (run first last) s ≤ bound_limit sample_limit (width (run first last))
  unfolding bound_on
  term_small {first} {last} i s m =
      bound_limit_lem sample_limit (width (run first last)) (sum_on (run first last) trace) (scatter_on (run first last) trace)
      s.least_sum s.greatest_sum s.least_scatter s.greatest_scatter (omega (arith, i.rises))
      (cut.sum_size p i) m.least_sum_lem m.greatest_sum_lem (cut.scatter_size p i) (omega (arith, m.scatters, m.greatest_scatter_lem))

  terms_small : (first : ℕ) (segments : List Segment) → 1 ≤ first → first ≤ length trace + 1 → Rises (length trace) first (ends segments)
      → AllLimited sample_limit first segments
      → total_over (bound_on trace) first segments + bound_limit sample_limit first ≤ bound_limit sample_limit (length trace + 1)
  unfolding total_over sample_limit bound_limit
  terms_small first [] f h r a = omega arith
  terms_small first (s ∷ rest) f h (rises_more a b r) (l_more c d) =
      let here = term_small (record { from_1 = f; rises = a; to_n = b }) s c in
      let on = terms_small (suc s.end) rest (omega arith) (omega (arith, b)) r d in
      omega (arith, here, on, a)

pub bound_small : (words : List ℤ) {sums : List ℤ} {squares : List ℕ} → Prefixes (samples_of words) sums squares → (r : List ℤ) → Bounded r (length words)
    → bound_by (samples_of words) r ≤ bound_limit sample_limit most_samples
unfolding sample_limit bound_limit
bound_small words p r b =
    let n = samples_length words in
    let small = terms_small p 1 (segments_in r) (omega arith) (omega arith) (subst (λ (k : ℕ). Rises k 1 (ends (segments_in r))) (sym n) (parted_rises b.fits.parted)) b.limited in
    omega (arith, small, few_words words p, n)
