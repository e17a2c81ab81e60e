-- Every figure that a tree records is within document 01's limits, for any sample limit, and joining and splitting keep it so, whoever made
-- the tree. The idea: a trace's own figures are within the limits; a widened record takes figures that it has or the trace's, a new leaf's
-- those of stored traces, and a new threshold is the sum of two such sums, or of two roots of such scatters, within twice the limits.
use Prim.Native.Nat.{ℕ, ◌-◌, ◌≤◌, ◌<◌}
use mathlib.Core.Path.{◌≡◌, sym, subst}
use mathlib.Core.Logic.{◌⊎◌, inl, inr}
use mathlib.Core.List.{List, [], ◌∷◌}
use mathlib.Core.Option.{some}
use native.Mathlib.Omega.{arith}
use lib.ListN.{length, get_or, drop}
use lib.IntN.{ℤ, pos, ◌+ℤ◌, nat_abs}
use lib.Signed.{mag}
use lib.Dec.{T, ltb, eqb, ltb→lt, eqb→eq}
use Rattle.integer.specs.Words.{every}
use Rattle.integer.proofs.Tests.{passed}
use Rattle.integer.proofs.Order.{≤ℤ_trans, nat_abs_add, pos_mono, nat}
use Rattle.integer.proofs.Lists.{In, in_is, is_in_lem, in_get_or, from_every, lesser_left, greater_left, lesser_either, greater_either, set_cases}
use Rattle.segment.specs.Roots.{floor_root}
use Rattle.segment.specs.Limits.{SamplesWithin, sum_limit, scatter_limit, root_limit}
use Rattle.segment.proofs.Newton.{floor_bound}
use Rattle.segment.proofs.Limits.{within_take, within_drop, sum_limit_lem, scatter_limit_lem}
use Rattle.dstree.specs.Measures.{Trace, is_trace}
use Rattle.dstree.specs.Figures.{Run, run, width, samples_on, sum_on, scatter_on}
use Rattle.dstree.specs.Node.{Segment, Figure, by_sum, by_scatter, Test, leaf, inner, Node, Tree, node_at, change_at, ends, figure_of}
use Rattle.dstree.specs.Node.{change_all}
use Rattle.dstree.specs.Adding.{widen_segment, widen, widen_all, join, new_leaf, Split, split_into}
use Rattle.dstree.specs.Formed.{Rises, rises_none, rises_more, Fits, RunIn, Shape, Limited, AllLimited, l_none, l_more, Between, TestIn, Limits}
use Rattle.dstree.specs.Claims.{ExactOn, AllExact, exact_none, exact_more}
use Rattle.dstree.proofs.Formed.{empty_leaf}
use Rattle.dstree.proofs.Cuts.{parted_rises, widen_ends, new_ends}
use Rattle.dstree.proofs.Ranges.{new_covered}
use Rattle.dstree.proofs.Exact.{exact, new_reached}
use Rattle.dstree.proofs.Change.{leaf_in, join_segments}
use Rattle.dstree.proofs.Bounds.{samples_length}
use Rattle.dstree.proofs.Joins.{joined_length, inner_back}
use Rattle.dstree.proofs.Splits.{GoodSplit, split_cases}

-- ---- a trace's figures on a run

module _ (limit n : ℕ) (x : Trace) (is_one : T (is_trace limit n x)) where
  pub trace_length : length x ≡ n
  unfolding is_trace
  trace_length = eqb→eq (length x) n (passed (eqb (length x) n) (every (λ sample. ltb (mag sample) limit) x ∷ []) is_one).0

  pub trace_within : SamplesWithin limit x
  unfolding is_trace
  trace_within i h =
      ltb→lt (mag (get_or x i (pos 0))) limit
      (from_every (λ sample. ltb (mag sample) limit) x
      (passed (eqb (length x) n) (every (λ sample. ltb (mag sample) limit) x ∷ []) is_one).1 (in_get_or x i (pos 0) h))

  within_on : (on : Run) → SamplesWithin limit (samples_on on x)
  unfolding samples_on
  within_on on = within_take (width on) (drop (on.first - 1) x) (within_drop (on.first - 1) x trace_within)

  pub sum_in : (on : Run) → RunIn n on → nat_abs (sum_on on x) ≤ sum_limit limit (width on)
  sum_in on r = rw (samples_length on x r trace_length) at (sum_limit_lem limit (samples_on on x) (within_on on))

  pub scatter_in : (on : Run) → RunIn n on → scatter_on on x ≤ scatter_limit limit (width on)
  scatter_in on r = rw (samples_length on x r trace_length) at (scatter_limit_lem limit (samples_on on x) (within_on on))

  -- ---- a record that is widened

  wider_limited : (on : Run) → RunIn n on → (s : Segment) → Limited limit (width on) s → Limited limit (width on) (widen_segment x on s)
  unfolding widen_segment
  wider_limited on r s h = record {
    sums = ≤ℤ_trans (lesser_left s.least_sum (sum_on on x)) (≤ℤ_trans h.sums (greater_left s.greatest_sum (sum_on on x)));
    scatters = omega (arith, h.scatters);
    least_sum_lem = choice (lesser_either s.least_sum (sum_on on x)) h.least_sum_lem;
    greatest_sum_lem = choice (greater_either s.greatest_sum (sum_on on x)) h.greatest_sum_lem;
    greatest_scatter_lem = omega (arith, h.greatest_scatter_lem, scatter_in on r);
  }
    where
      choice : {a c : ℤ} → (c ≡ a) ⊎ (c ≡ sum_on on x) → nat_abs a ≤ sum_limit limit (width on) → nat_abs c ≤ sum_limit limit (width on)
      choice (inl e) k = rw e k
      choice (inr e) k = rw e (sum_in on r)

  changed_limited : {from : ℕ} {l : List Segment} → 1 ≤ from → AllLimited limit from l → Rises n from (ends l)
      → AllLimited limit from (change_all (widen_segment x) from l)
  unfolding change_all widen_segment
  changed_limited one l_none rises_none = l_none
  changed_limited {from} one (l_more {s} h a) (rises_more p q r) =
      l_more (wider_limited (run from s.end) (record { from_1 = one; rises = p; to_n = q }) s h)
      (changed_limited (omega arith) a r)

  widen_limited : (met : List ℕ) (tree : Tree) (k : ℕ) → AllLimited limit 1 (node_at tree k).segments
      → Rises n 1 (ends (node_at tree k).segments)
      → AllLimited limit 1 (node_at (widen_all x met tree) k).segments
  unfolding widen_all widen
  widen_limited [] tree k a r = a
  widen_limited (at ∷ rest) tree k a r =
      widen_limited rest (change_at tree at (widen x)) k
      (set_cases empty_leaf (λ (b : Node). AllLimited limit 1 b.segments) tree at (widen x (node_at tree at)) k
      (λ e h. rw (← e) (changed_limited (omega arith) a r)) (λ f h. a) (λ h. l_none))
      (subst (λ (l : List ℕ). Rises n 1 l) (sym (widen_ends x (at ∷ []) tree k)) r)

  -- ---- a trace goes down and joins a leaf

  pub join_limits : {count : ℕ} {tree : Tree} → Shape n count tree → Limits limit n tree → (met : List ℕ) (at : ℕ) (ns : List ℕ)
      → at < length tree → (node_at tree at).kind ≡ leaf ns
      → Limits limit n (join count at (widen_all x met tree))
  join_limits {count} {tree} s b met at ns inside is = record {
    figures = λ k h.
        let g : k < length tree = omega (arith, joined_length s x met at ns inside is) in
        rw (join_segments count at (widen_all x met tree) k)
        (widen_limited met tree k (b.figures k g) (parted_rises (s.fits k g).parted));
    tests = λ k test l r e. b.tests k test l r (inner_back s x met at ns inside is k test l r e);
  }

-- ---- a new leaf, and a new test

module _ (limit n : ℕ) (stored : List Trace) (each : (t : ℕ) → t < length stored → T (is_trace limit n (get_or stored t []))) where
  module _ (P : ℕ → Type 0) (number : (t : ℕ) → P t → t < length stored) where
    sum_of : (on : Run) → RunIn n on → (t : ℕ) → P t → nat_abs (sum_on on (get_or stored t [])) ≤ sum_limit limit (width on)
    sum_of on r t p = sum_in limit n (get_or stored t []) (each t (number t p)) on r

    scatter_of : (on : Run) → RunIn n on → (t : ℕ) → P t → scatter_on on (get_or stored t []) ≤ scatter_limit limit (width on)
    scatter_of on r t p = scatter_in limit n (get_or stored t []) (each t (number t p)) on r

    root_of : (on : Run) → RunIn n on → (t : ℕ) → P t → floor_root (scatter_on on (get_or stored t [])) ≤ root_limit limit (width on)
    unfolding scatter_limit root_limit
    root_of on r t p = floor_bound (omega (arith, scatter_of on r t p))

    limited : (on : Run) → RunIn n on → (s : Segment) → ExactOn stored P on s → Limited limit (width on) s
    limited on r s e = record {
      sums = rw e.greatest_sum_lem.has (e.least_sum_lem.none_beyond e.greatest_sum_lem.trace e.greatest_sum_lem.is_one);
      scatters = rw e.greatest_scatter_lem.has (e.least_scatter_lem.none_beyond e.greatest_scatter_lem.trace e.greatest_scatter_lem.is_one);
      least_sum_lem = rw e.least_sum_lem.has (sum_of on r e.least_sum_lem.trace e.least_sum_lem.is_one);
      greatest_sum_lem = rw e.greatest_sum_lem.has (sum_of on r e.greatest_sum_lem.trace e.greatest_sum_lem.is_one);
      greatest_scatter_lem = rw e.greatest_scatter_lem.has (scatter_of on r e.greatest_scatter_lem.trace e.greatest_scatter_lem.is_one);
    }

    all_limited : {from : ℕ} {l : List Segment} → 1 ≤ from → AllExact stored P from l → Rises n from (ends l) → AllLimited limit from l
    all_limited one exact_none rises_none = l_none
    all_limited {from} one (exact_more {s} e w) (rises_more h k r) = l_more
        (limited (run from s.end) (record { from_1 = one; rises = h; to_n = k }) s e) (all_limited (omega arith) w r)

    between : (figure : Figure) (on : Run) → RunIn n on → (t u : ℕ) → P t → P u
        → Between limit figure (width on) (figure_of figure on (get_or stored t []) +ℤ figure_of figure on (get_or stored u []))
    unfolding figure_of
    between by_sum on r t u h k = omega
        (arith, nat_abs_add (sum_on on (get_or stored t [])) (sum_on on (get_or stored u [])), sum_of on r t h, sum_of on r u k)
    between by_scatter on r t u h k = (nat _, pos_mono (omega (arith, root_of on r t h, root_of on r u k)))

  pub leaf_limited : (es numbers : List ℕ) → Fits n es → 0 < length numbers → ((t : ℕ) → In t numbers → t < length stored)
      → AllLimited limit 1 (new_leaf stored es numbers).segments
  leaf_limited es numbers fits one low =
      all_limited (λ (t : ℕ). In t numbers) low (omega arith)
      (exact stored (λ (t : ℕ). In t numbers) (new_reached stored numbers one es) (λ t i. new_covered stored es numbers t (in_is i)))
      (rw (new_ends stored es numbers) (parted_rises fits.parted))

  -- ---- a leaf splits

  module _ {tree : Tree} (b : Limits limit n tree) (at : ℕ) (ns : List ℕ) (is : (node_at tree at).kind ≡ leaf ns)
      (low : (t : ℕ) → In t ns → t < length stored) (s : Split) (good : GoodSplit n stored (ends (node_at tree at).segments) ns s) where
    new_test : TestIn limit n s.test
    new_test = record {
      run_in = good.run_in;
      threshold_in =
          let a = good.threshold_is.least_of in
          let b = good.threshold_is.greatest_of in
          rw (good.threshold_is.is, a.is, b.is)
          (between (λ (t : ℕ). In t ns) low s.test.figure s.test.on good.run_in a.trace b.trace a.below b.below);
    }

    split_tests : (k : ℕ) (test : Test) (l r : ℕ) → (node_at (split_into stored tree at (some s)) k).kind ≡ inner test l r
        → TestIn limit n test
    unfolding new_leaf
    split_tests k test l r =
        split_cases stored tree at s (λ (a : Node). a.kind ≡ inner test l r → TestIn limit n test) k
        (λ e q. let u : s.test ≡ test = cc in subst (TestIn limit n) u new_test) (λ f g. b.tests k test l r)
        (λ e q. let z : ◌≡◌ {A = ℕ} 0 1 = cc in absurd (omega arith)) (λ e q. let z : ◌≡◌ {A = ℕ} 0 1 = cc in absurd (omega arith))
        (λ g q. let z : ◌≡◌ {A = ℕ} 0 1 = cc in absurd (omega arith))

    pub split_limits : Limits limit n (split_into stored tree at (some s))
    split_limits = record {
      figures = λ k h.
          split_cases stored tree at s (λ (a : Node). AllLimited limit 1 a.segments) k
          (λ e. b.figures at (leaf_in tree at ns is (omega (arith, good.lengths, good.left_some)))) (λ f g. b.figures k g)
          (λ e. leaf_limited s.child_ends s.left good.children_fit good.left_some
          (λ t i. low t (is_in_lem t ns (good.left_in t (in_is i)))))
          (λ e. leaf_limited s.child_ends s.right good.children_fit good.right_some
          (λ t i. low t (is_in_lem t ns (good.right_in t (in_is i))))) (λ g. l_none);
      tests = split_tests;
    }
