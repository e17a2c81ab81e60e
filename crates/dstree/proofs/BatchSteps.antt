-- The steps of a batch, on any tree: no leaf is read twice, the trail lists those read, and what is read for one query is kept for all.
-- On well-formed tables with a trace each query has an answer, the nearest of the traces in the leaves read.
use Rattle.std.specs.Prelude.{if◌then◌else◌}
use Prim.Native.Nat.{ℕ, ◌≤◌, ◌<◌}
use mathlib.Core.Path.{◌≡◌, refl, sym, ◌∙◌, ap, subst}
use mathlib.Core.Logic.{◌⊎◌, inl, inr}
use mathlib.Core.Bool.{Bool, true, false}
use mathlib.Core.Option.{none, some}
use mathlib.Core.List.{List, [], ◌∷◌, ◌++◌, map, foldl, flatten, foldl-append}
use native.Mathlib.Omega.{arith}
use native.Mathlib.Nat.{le_antisymm}
use lib.ListN.{length, length-map}
use lib.Dec.{T}
use Rattle.integer.specs.Words.{counting, those, is_in, times_in}
use Rattle.integer.proofs.Tests.{is_true, test_true, test_false, same_test}
use Rattle.integer.proofs.Lists.{same_or_not, In, first, later, in_nil, in_cons, some_in, in_get_or, is_in_lem, in_is, in_append_left}
use Rattle.integer.proofs.Lists.{in_append_right, in_snoc, map_agree, InFlat, flat, from_flat, in_flat, from_those, in_those}
use Rattle.integer.proofs.Lists.{fold_in, Up, up_those, counting_up, Apart, apart_none, apart_more, apart_append, up_same, no_fewer}
use Rattle.integer.proofs.Times.{times_same, times_other, times_none}
use Rattle.dstree.specs.Measures.{Trace}
use Rattle.dstree.specs.Node.{Tree, node_at}
use Rattle.dstree.specs.Formed.{Shape}
use Rattle.dstree.specs.Matching.{LeafBound, is_leaf_kind, numbers_in, leaves, reading_order, read_on, Near, near_at, is_nearer, nearer}
use Rattle.dstree.specs.Matching.{best_with, distances_in, is_above}
use Rattle.dstree.specs.KNearest.{distances_among}
use Rattle.dstree.specs.Batch.{batch_with, best_among, read_once, read_for, batch_read, near_or_zero, batch_by_steps, NearestOf, StepsClaims}
use Rattle.dstree.specs.Batch.{StepsOfFormed, BatchOffTrail}
use Rattle.dstree.proofs.Formed.{formed}
use Rattle.dstree.proofs.Reading.{from_leaves, kept_leaf, leaf_full, reading_of, reading_length}
use Rattle.dstree.proofs.Search.{comes_first, Comes, nearer_either, fold_some}
use Rattle.dstree.proofs.Ranks.{Nearer, nearer_yes}
use Rattle.dstree.proofs.OffTrail.{alike_in}
use Rattle.dstree.proofs.KSteps.{one_more}

-- ---- numbers in lists

-- a number is in both of two lists or in neither
pub same_in : (k : ℕ) (l m : List ℕ) → (In k l → In k m) → (In k m → In k l) → is_in k l ≡ is_in k m
same_in k l m there back = same_test (λ i. in_is (there (is_in_lem k l i))) (λ i. in_is (back (is_in_lem k m i)))

-- numbers that differ are there once at most
apart_once : (k : ℕ) {l : List ℕ} → Apart (λ (j : ℕ). j) l → times_in k l ≤ 1
unfolding times_in
apart_once k apart_none = omega arith
apart_once k (apart_more {a} {l} h p) = by (same_or_not k a) (apart_once k p)
  where
    by : Dec (k ≡ a) → times_in k l ≤ 1 → times_in k (a ∷ l) ≤ 1
    by (yes e) ih = subst (λ (j : ℕ). times_in j (a ∷ l) ≤ 1) (sym e) (omega (arith, times_same a l, times_none a l (λ i. h a i refl)))
    by (no f) ih = omega (arith, times_other k a l f)

-- ---- to read a leaf once

once_keeps : (read : List ℕ) (number : ℕ) {k : ℕ} → In k read → In k (read_once read number)
unfolding read_once
once_keeps read number {k} i = by (is_in number read)
  where
    by : (t : Bool) → In k (if t then read else read ++ (number ∷ []))
    by true = i
    by false = in_append_left (number ∷ []) i

pub once_has : (read : List ℕ) (number : ℕ) → In number (read_once read number)
unfolding read_once
once_has read number = by (is_in number read) refl
  where
    by : (t : Bool) → is_in number read ≡ t → In number (if t then read else read ++ (number ∷ []))
    by true e = is_in_lem number read (is_true e)
    by false e = in_append_right read first

once_from : (read : List ℕ) (number : ℕ) {k : ℕ} → In k (read_once read number) → In k read ⊎ (k ≡ number)
unfolding read_once
once_from read number {k} = by (is_in number read)
  where
    by : (t : Bool) → In k (if t then read else read ++ (number ∷ [])) → In k read ⊎ (k ≡ number)
    by true i = inl i
    by false i = in_snoc read i

once_apart : (read : List ℕ) (number : ℕ) → Apart (λ (j : ℕ). j) read → Apart (λ (j : ℕ). j) (read_once read number)
unfolding read_once
once_apart read number p = by (is_in number read) refl
  where
    new : is_in number read ≡ false → (a b : ℕ) → In a read → In b (number ∷ []) → b ≡ a → ⊥
    new e a b i j q = at (in_cons j)
      where
        at : (b ≡ number) ⊎ In b [] → ⊥
        at (inl r) = is_true (sym e ∙ test_true (is_in number read) (in_is (subst (λ (k : ℕ). In k read) (sym q ∙ r) i)))
        at (inr r) = in_nil r

    by : (t : Bool) → is_in number read ≡ t → Apart (λ (j : ℕ). j) (if t then read else read ++ (number ∷ []))
    by true e = p
    by false e = apart_append (λ (j : ℕ). j) p (apart_more (λ b i. absurd (in_nil i)) apart_none) (new e)

-- leaves one after another
pub all_keeps : (read l : List ℕ) {k : ℕ} → In k read → In k (foldl read_once read l)
all_keeps read [] i = i
all_keeps read (a ∷ l) i = all_keeps (read_once read a) l (once_keeps read a i)

pub all_has : {k : ℕ} (read : List ℕ) {l : List ℕ} → In k l → In k (foldl read_once read l)
all_has {k = k} read {l = _ ∷ l} first = all_keeps (read_once read k) l (once_has read k)
all_has read {l = a ∷ l} (later i) = all_has (read_once read a) i
all_has read {l = []} i = elim i [ ]

pub all_from : (read l : List ℕ) {k : ℕ} → In k (foldl read_once read l) → In k read ⊎ In k l
all_from read [] i = inl i
all_from read (a ∷ l) {k} i = by (all_from (read_once read a) l i)
  where
    at : In k read ⊎ (k ≡ a) → In k read ⊎ In k (a ∷ l)
    at (inl j) = inl j
    at (inr e) = inr (subst (λ (j : ℕ). In k (j ∷ l)) e first)

    by : In k (read_once read a) ⊎ In k l → In k read ⊎ In k (a ∷ l)
    by (inl j) = at (once_from read a j)
    by (inr j) = inr (later j)

-- ---- a query's leaves

-- leaves of the tree, none twice
pub record Leaves (tree : Tree) (read : List ℕ) : Type 0 where
  pub of_tree : (k : ℕ) → In k read → In k (leaves tree)
  pub apart : Apart (λ (j : ℕ). j) read

module _ (stop : List ℕ → ℕ → Bool) where
  -- what was read stays
  pub on_keeps : (read : List ℕ) (l : List LeafBound) {k : ℕ} → In k read → In k (read_on stop read_once read l)
  unfolding read_on
  on_keeps read [] i = i
  on_keeps read (a ∷ rest) {k} i = by (stop read a.bound) (on_keeps (read_once read a.number) rest (once_keeps read a.number i))
    where
      by : (t : Bool) → In k (read_on stop read_once (read_once read a.number) rest)
          → In k (if t then read else read_on stop read_once (read_once read a.number) rest)
      by true j = i
      by false j = j

  -- what is read is of the order
  on_leaves : (tree : Tree) (read : List ℕ) (l : List LeafBound) → ((a : LeafBound) → In a l → In a.number (leaves tree))
      → Leaves tree read → Leaves tree (read_on stop read_once read l)
  unfolding read_on
  on_leaves tree read [] h o = o
  on_leaves tree read (a ∷ rest) h o = by (stop read a.bound)
      (on_leaves tree (read_once read a.number) rest (λ b i. h b (later i)) more)
    where
      at : (k : ℕ) → In k read ⊎ (k ≡ a.number) → In k (leaves tree)
      at k (inl i) = o.of_tree k i
      at k (inr e) = subst (λ (j : ℕ). In j (leaves tree)) (sym e) (h a first)

      more : Leaves tree (read_once read a.number)
      more = record { of_tree = λ k i. at k (once_from read a.number i); apart = once_apart read a.number o.apart }

      by : (t : Bool) → Leaves tree (read_on stop read_once (read_once read a.number) rest)
          → Leaves tree (if t then read else read_on stop read_once (read_once read a.number) rest)
      by true ih = o
      by false ih = ih

-- ---- query after query

module _ (stored : List Trace) (tree : Tree) where
  pub queries_keep : (read : List ℕ) (queries : List Trace) {k : ℕ} → In k read → In k (foldl (read_for stored tree) read queries)
  unfolding read_for
  queries_keep read [] i = i
  queries_keep read (q ∷ rest) i =
      queries_keep (read_for stored tree read q) rest
      (on_keeps (λ so_far bound. is_above bound (best_among stored tree q so_far)) read (reading_order tree q) i)

  queries_leaves : (read : List ℕ) (queries : List Trace) → Leaves tree read → Leaves tree (foldl (read_for stored tree) read queries)
  unfolding read_for
  queries_leaves read [] o = o
  queries_leaves read (q ∷ rest) o =
      queries_leaves (read_for stored tree read q) rest
      (on_leaves (λ so_far bound. is_above bound (best_among stored tree q so_far)) tree read (reading_order tree q)
      (λ a i. (reading_of tree q i).0) o)

  pub batch_leaves : (queries : List Trace) → Leaves tree (batch_read stored tree queries)
  unfolding batch_read
  batch_leaves queries = queries_leaves [] queries (record { of_tree = λ k i. absurd (in_nil i); apart = apart_none })

-- ---- the trail

module _ (tree : Tree) (read : List ℕ) where
  abbrev trail : List ℕ
  trail = those (λ number. is_in number read) (leaves tree)

  pub trail_up : Up 0 trail
  unfolding leaves
  trail_up = up_those (λ number. is_in number read) (up_those (λ number. is_leaf_kind (node_at tree number).kind) (counting_up (length tree) 0))

  pub from_trail : {k : ℕ} → In k trail → In k read
  from_trail {k} i = is_in_lem k read (from_those (λ number. is_in number read) (leaves tree) i).1

  pub in_trail : {k : ℕ} → In k (leaves tree) → In k read → In k trail
  in_trail i j = in_those (λ number. is_in number read) i (in_is j)

  trail_length : Leaves tree read → length trail ≡ length read
  trail_length o =
      le_antisymm (no_fewer (λ (j : ℕ). j) read (up_same trail_up) (λ k i. from_trail i))
      (no_fewer (λ (j : ℕ). j) trail o.apart (λ k i. in_trail (o.of_tree k i) i))

-- those of some that pass another test, which implies the first
those_of : {A : Type 0} (p q : A → Bool) (l : List A) → ((a : A) → In a l → T (p a) → T (q a)) → those p (those q l) ≡ those p l
unfolding those
those_of p q [] h = refl
those_of p q (a ∷ l) h = by (p a) (q a) refl refl (those_of p q l (λ b i. h b (later i)))
  where
    by : (s t : Bool) → p a ≡ s → q a ≡ t → those p (those q l) ≡ those p l
        → those p (if t then a ∷ those q l else those q l) ≡ (if s then a ∷ those p l else those p l)
    by true true e f ih = rw e (ap (λ m. a ∷ m) ih)
    by false true e f ih = rw e ih
    by false false e f ih = ih
    by true false e f ih = absurd (subst T f (h a first (is_true e)))

-- the numbers of all nodes, of which those read are leaves
pub trail_counted : (tree : Tree) (read : List ℕ) → Leaves tree read
    → those (λ number. is_in number read) (counting (length tree) 0) ≡ trail tree read
unfolding leaves
trail_counted tree read o =
    sym (those_of (λ number. is_in number read) (λ number. is_leaf_kind (node_at tree number).kind) (counting (length tree) 0)
    (λ k i t. (from_leaves tree (o.of_tree k (is_in_lem k read t))).1))

-- ---- the best of some

-- one leaf more
pub best_more : (stored : List Trace) (tree : Tree) (query : Trace) (read : List ℕ) (number : ℕ)
    → best_among stored tree query (read ++ (number ∷ [])) ≡ foldl best_with (best_among stored tree query read)
    (distances_in stored tree query number)
unfolding best_among
best_more stored tree query read number =
    ap (foldl best_with none) (one_more 1 stored tree query read number)
    ∙ foldl-append best_with none (distances_among stored tree query read) (distances_in stored tree query number)

comes_no : (a b : Near) → Comes a b → is_nearer b a ≡ false
comes_no a b c = test_false (is_nearer b a) (λ t. by c (nearer_yes b a (test_true (is_nearer b a) t)))
  where
    by : Comes a b → Nearer b a → ⊥
    by (inl h) (inl g) = omega arith
    by (inl h) (inr (e, g)) = omega arith
    by (inr (e, h)) (inl g) = omega arith
    by (inr (e, h)) (inr (f, g)) = omega arith

pub nearest_of : (a : Near) (l : List Near) → NearestOf (a ∷ l) (foldl nearer a l)
nearest_of a l =
    record { among = fold_in nearer nearer_either a l; none_nearer = λ b i. comes_no (foldl nearer a l) b (comes_first a l i) }

pub best_of : (l : List Near) → 0 < length l → NearestOf l (near_or_zero (foldl best_with none l))
unfolding best_with near_or_zero
best_of [] h = absurd (omega arith)
best_of (a ∷ l) h = rw (fold_some a l) (nearest_of a l)

-- the same traces in other leaves
nearest_in : (l m : List Near) (a : Near) → ((b : Near) → In b l → In b m) → ((b : Near) → In b m → In b l) → NearestOf l a → NearestOf m a
nearest_in l m a there back o = record { among = there a o.among; none_nearer = λ b i. o.none_nearer b (back b i) }

-- ---- well-formed tables with a trace

module _ (n : ℕ) (stored : List Trace) (tree : Tree) (shape : Shape n (length stored) tree) (one : 0 < length stored) where
  some_leaf : 0 < length (leaves tree)
  some_leaf = some_in (kept_leaf (shape.kept 0 one))

  -- the first query reads a leaf
  record Some (read : List ℕ) : Type 0 where
    number : ℕ
    is_read : In number read

  first_read : (query : Trace) → Some (read_for stored tree [] query)
  unfolding read_for read_on is_above best_among distances_among flatten
  first_read query = by (reading_order tree query) (omega (arith, some_leaf, reading_length tree query))
    where
      stop : List ℕ → ℕ → Bool
      stop so_far bound = is_above bound (best_among stored tree query so_far)

      by : (l : List LeafBound) → 0 < length l → Some (read_on stop read_once [] l)
      by [] h = absurd (omega arith)
      by (a ∷ l) h = record { number = a.number; is_read = on_keeps stop (read_once [] a.number) l (once_has [] a.number) }

  some_read : {query : Trace} {queries : List Trace} → In query queries → Some (batch_read stored tree queries)
  unfolding batch_read
  some_read {queries = q ∷ rest} i =
      let f = first_read q in
      record { number = f.number; is_read = queries_keep stored tree (read_for stored tree [] q) rest f.is_read }
  some_read {queries = []} i = elim i [ ]

  nears_full : (query : Trace) (read : List ℕ) → Leaves tree read → Some read → 0 < length (distances_among stored tree query read)
  unfolding distances_among distances_in
  nears_full query read o s =
      let numbers = numbers_in (node_at tree s.number).kind in
      let full : 0 < length (map (near_at stored query) numbers) =
      omega (arith, leaf_full shape (o.of_tree s.number s.is_read), length-map numbers (near_at stored query)) in
      some_in (in_flat (distances_in stored tree query) s.is_read
      (in_get_or (map (near_at stored query) numbers) 0 (near_at stored query 0) full))

  module _ (queries : List Trace) where
    abbrev read : List ℕ
    read = batch_read stored tree queries

    all_leaves : Leaves tree read
    all_leaves = batch_leaves stored tree queries

    -- each query has a best
    pub record HasBest (query : Trace) : Type 0 where
      pub best : Near
      pub is : best_among stored tree query read ≡ some best

    pub has_best : (query : Trace) → In query queries → HasBest query
    unfolding best_among best_with
    has_best query i = by (distances_among stored tree query read) refl (nears_full query read all_leaves (some_read i))
      where
        by : (l : List Near) → distances_among stored tree query read ≡ l → 0 < length l → HasBest query
        by [] e h = absurd (omega arith)
        by (a ∷ l) e h = record { best = foldl nearer a l; is = rw e (fold_some a l) }

    -- distances in the trail's leaves are those in the leaves read
    among : (query : Trace) (set other : List ℕ) → ((k : ℕ) → In k set → In k other) → (b : Near)
        → In b (distances_among stored tree query set) → In b (distances_among stored tree query other)
    unfolding distances_among
    among query set other h b i = by (from_flat (distances_in stored tree query) set i)
      where
        by : InFlat (distances_in stored tree query) b set → In b (flatten (map (distances_in stored tree query) other))
        by (flat k j g) = in_flat (distances_in stored tree query) (h k j) g

    pub answered : (query : Trace) → In query queries
        → NearestOf (distances_among stored tree query (trail tree read)) (near_or_zero (best_among stored tree query read))
    unfolding best_among
    answered query i =
        nearest_in (distances_among stored tree query read) (distances_among stored tree query (trail tree read))
        (near_or_zero (foldl best_with none (distances_among stored tree query read)))
        (among query read (trail tree read) (λ k j. in_trail tree read (all_leaves.of_tree k j) j))
        (among query (trail tree read) read (λ k j. from_trail tree read j))
        (best_of (distances_among stored tree query read) (nears_full query read all_leaves (some_read i)))

    pub steps_claims : StepsClaims stored tree queries
    unfolding batch_by_steps
    steps_claims = record {
      once = λ k. apart_once k all_leaves.apart;
      trail_has = λ k. same_in k (trail tree read) read (λ i. from_trail tree read i) (λ i. in_trail tree read (all_leaves.of_tree k i) i);
      rising = trail_up tree read;
      as_many = trail_length tree read all_leaves;
      answered = answered;
    }

pub steps_of_formed : StepsOfFormed
steps_of_formed limit m stored tree w one queries = steps_claims m.n stored tree
    (formed limit m (length stored) tree w).shape one queries

-- ---- samples off the trail

module _ (stored other : List Trace) (tree : Tree) (Same : ℕ → Type 0)
    (alike : (query : Trace) (k : ℕ) → Same k → distances_in other tree query k ≡ distances_in stored tree query k) where
  best_alike : (query : Trace) (read : List ℕ) → ((k : ℕ) → In k read → Same k) → best_among other tree query read
      ≡ best_among stored tree query read
  unfolding best_among distances_among
  best_alike query read h =
      ap (λ (l : List (List Near)). foldl best_with none (flatten l))
      (map_agree (distances_in other tree query) (distances_in stored tree query) read (λ k i. alike query k (h k i)))

  module _ (query : Trace) where
    abbrev stop_at : List Trace → List ℕ → ℕ → Bool
    stop_at traces so_far bound = is_above bound (best_among traces tree query so_far)

    on_alike : (read : List ℕ) (l : List LeafBound) → ((k : ℕ) → In k (read_on (stop_at stored) read_once read l) → Same k)
        → read_on (stop_at other) read_once read l ≡ read_on (stop_at stored) read_once read l
    unfolding read_on
    on_alike read [] h = refl
    on_alike read (a ∷ rest) h =
        rw (best_alike query read (λ k i. h k (on_keeps (stop_at stored) read (a ∷ rest) i)))
        (by (stop_at stored read a.bound) h (on_alike (read_once read a.number) rest))
      where
        onward : List ℕ
        onward = read_on (stop_at stored) read_once (read_once read a.number) rest

        by : (t : Bool) → ((k : ℕ) → In k (if t then read else onward) → Same k)
            → (((k : ℕ) → In k onward → Same k) → read_on (stop_at other) read_once (read_once read a.number) rest ≡ onward)
            → (if t then read else read_on (stop_at other) read_once (read_once read a.number) rest) ≡ (if t then read else onward)
        by true g ih = refl
        by false g ih = ih g

  queries_alike : (read : List ℕ) (queries : List Trace) → ((k : ℕ) → In k (foldl (read_for stored tree) read queries) → Same k)
      → foldl (read_for other tree) read queries ≡ foldl (read_for stored tree) read queries
  unfolding read_for
  queries_alike read [] h = refl
  queries_alike read (q ∷ rest) h =
      let e : read_for other tree read q ≡ read_for stored tree read q =
      on_alike q read (reading_order tree q) (λ k i. h k (queries_keep stored tree (read_for stored tree read q) rest i)) in
      ap (λ (l : List ℕ). foldl (read_for other tree) l rest) e ∙ queries_alike (read_for stored tree read q) rest h

pub batch_off_trail : BatchOffTrail
unfolding batch_by_steps batch_read
batch_off_trail stored other tree queries e =
    let read = batch_read stored tree queries in
    let alike : (query : Trace) (k : ℕ) → In k read → distances_in other tree query k ≡ distances_in stored tree query k =
    λ query k i. alike_in stored other tree query (trail tree read) e k
    (in_trail tree read ((batch_leaves stored tree queries).of_tree k i) i) in
    let same : batch_read other tree queries ≡ read = queries_alike stored other tree (λ k. In k read) alike [] queries (λ k i. i) in
    let best : map (λ query. near_or_zero (best_among other tree query read)) queries ≡ map
    (λ query. near_or_zero (best_among stored tree query read)) queries =
    map_agree (λ query. near_or_zero (best_among other tree query read)) (λ query. near_or_zero (best_among stored tree query read)) queries
    (λ query i. ap near_or_zero (best_alike stored other tree (λ k. In k read) alike query read (λ k j. j))) in
    rw same (ap (λ (l : List Near). batch_with tree l read) best)
