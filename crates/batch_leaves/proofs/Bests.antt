-- A query's nearest trace so far, in a record of two places: what reading a leaf makes of it, and of those of all queries.
use Prim.Native.Nat.{ℕ, zero, suc, ◌+◌, ◌*◌, ◌≤◌, ◌<◌, min}
use mathlib.Core.Path.{◌≡◌, refl, sym, ◌∙◌, ap, subst}
use mathlib.Core.Option.{Option, none, some}
use mathlib.Core.List.{List, [], ◌∷◌, map, foldl}
use native.Mathlib.Omega.{arith}
use lib.ListN.{length, get_or}
use lib.IntN.{ℤ}
use Rattle.integer.specs.Words.{counting}
use Rattle.integer.specs.Sorting.{Ordered, ordered_none, ordered_more}
use Rattle.integer.proofs.Lists.{same_or_not, all_none}
use Rattle.dstree.specs.Measures.{Trace}
use Rattle.dstree.specs.Matching.{Near, is_nearer, best_with, nearer}
use Rattle.dstree.specs.KNearest.{list_with}
use Rattle.dstree.proofs.Search.{fold_some}
use Rattle.dstree.proofs.KSteps.{list_of, fold_one}
use Rattle.tables.specs.View.{numbers_from}
use Rattle.tables.specs.Walk.{numbers_of}
use Rattle.reading.specs.Nearest.{near, near_of}
use Rattle.reading.specs.Listed.{record_at, nears_in, ListRoom}
use Rattle.reading.proofs.Records.{nears_length, nears_at, put_in, put_same, put_other}
use Rattle.batch_leaves.specs.LeavesRead.{best_by, OneRead, AllRead}

-- ---- one record

-- a record as a list of one
nears_as : (listed : ℕ) → listed ≤ 1 → (l : List ℕ) → nears_in listed l ≡ list_of (best_by listed (record_at l 0))
unfolding nears_in counting
nears_as zero h l = refl
nears_as (suc zero) h l = refl
nears_as (suc (suc k)) h l = absurd (omega arith)

-- there is a record once a leaf was read, however many were
best_filled : (leaves listed : ℕ) → listed ≡ min leaves 1 → (a : Near) → best_by listed a ≡ best_by leaves a
best_filled zero zero e a = refl
best_filled zero (suc k) e a = absurd (omega arith)
best_filled (suc m) zero e a = absurd (omega arith)
best_filled (suc m) (suc k) e a = refl

-- a list of one is in order, and there is room for it in two places
pub one_room : (listed : ℕ) → listed ≤ 1 → (l : List ℕ) → 2 ≤ length l → ListRoom 1 listed l
one_room listed h l long = record {
  some_record = omega arith;
  few = h;
  long = omega arith;
  ordered = subst (Ordered is_nearer) (sym (nears_as listed h l)) (by (best_by listed (record_at l 0)));
}
  where
    by : (o : Option Near) → Ordered is_nearer (list_of o)
    by none = ordered_none
    by (some a) = ordered_more all_none ordered_none

-- of one trace or more there is a best
record Best (o : Option Near) (l : List Near) : Type 0 where
  best : Near
  is : foldl best_with o l ≡ some best

best_of : (o : Option Near) (l : List Near) → 0 < length l → Best o l
unfolding best_with
best_of o [] h = absurd (omega arith)
best_of none (a ∷ l) h = record { best = foldl nearer a l; is = fold_some a l }
best_of (some b) (a ∷ l) h = record { best = foldl nearer (nearer b a) l; is = fold_some (nearer b a) l }

-- what a list of one holds when the leaf was read
read_gives : (listed : ℕ) → listed ≤ 1 → (one one' : List ℕ) (many : ℕ) (more : List Near) → 0 < length more
    → nears_in many one' ≡ foldl (list_with 1) (nears_in listed one) more
    → some (record_at one' 0) ≡ foldl best_with (best_by listed (record_at one 0)) more
read_gives listed few one one' many more full e =
    let o = best_by listed (record_at one 0) in
    let b = best_of o more full in
    let l : nears_in many one' ≡ b.best ∷ [] =
    e ∙ ap (λ (m : List Near). foldl (list_with 1) m more) (nears_as listed few one) ∙ fold_one o more ∙ ap list_of b.is in
    let z : many ≡ 1 = omega (arith, ap length l, nears_length many one') in
    let r : record_at one' 0 ≡ b.best =
    sym (nears_at many 0 one' (omega arith)) ∙ ap (λ (m : List Near). get_or m 0 (near 0 0)) l in
    ap some r ∙ sym b.is

-- a leaf's list has a trace
pub some_number : (samples : List ℤ) (n : ℕ) (query : Trace) (links : List ℕ) (count head : ℕ)
    → 0 < length (map (near_of samples n query) (numbers_of links count head))
unfolding numbers_from
some_number samples n query links count head = omega arith

-- the record is taken out, the leaf is read into it, and it is put back
pub one_read : (bests : List ℕ) (i leaves listed : ℕ) (one one' : List ℕ) (many : ℕ) (more : List Near) → 2 * i + 2 ≤ length bests
    → listed ≡ min leaves 1 → record_at one 0 ≡ record_at bests i → 0 < length more
    → nears_in many one' ≡ foldl (list_with 1) (nears_in listed one) more
    → OneRead leaves i more bests (put_in bests i (get_or one' 0 0) (get_or one' 1 0))
one_read bests i leaves listed one one' many more room few same full e = record {
  best =
      ap some (put_same bests i (get_or one' 0 0) (get_or one' 1 0) room) ∙ read_gives listed (omega (arith, few)) one one' many more full e
      ∙ ap (λ (o : Option Near). foldl best_with o more) (best_filled leaves listed few (record_at one 0))
      ∙ ap (λ (a : Near). foldl best_with (best_by leaves a) more) same;
  others = λ j f. put_other bests i j (get_or one' 0 0) (get_or one' 1 0) f;
}

-- ---- those of all queries

-- the first i are read, the others are as they were
pub record Reading (leaves i : ℕ) (more : ℕ → List Near) (bests₀ bests : List ℕ) : Type 0 where
  pub done : AllRead leaves i more bests₀ bests
  pub rest : (j : ℕ) → i ≤ j → record_at bests j ≡ record_at bests₀ j

pub reading_start : (leaves : ℕ) (more : ℕ → List Near) (bests : List ℕ) → Reading leaves 0 more bests bests
reading_start leaves more bests = record { done = λ j h. absurd (omega arith); rest = λ j h. refl }

pub reading_next : (leaves i : ℕ) (more : ℕ → List Near) (bests₀ bests bests' : List ℕ) → Reading leaves i more bests₀ bests
    → OneRead leaves i (more i) bests bests' → Reading leaves (i + 1) more bests₀ bests'
reading_next leaves i more bests₀ bests bests' r o = record {
  done = λ j h. by j h (same_or_not j i);
  rest = λ j h. o.others j (λ e. omega arith) ∙ r.rest j (omega arith);
}
  where
    at_i : some (record_at bests' i) ≡ foldl best_with (best_by leaves (record_at bests₀ i)) (more i)
    at_i = o.best ∙ ap (λ (a : Near). foldl best_with (best_by leaves a) (more i)) (r.rest i (omega arith))

    by : (j : ℕ) → j < i + 1 → Dec (j ≡ i)
        → some (record_at bests' j) ≡ foldl best_with (best_by leaves (record_at bests₀ j)) (more j)
    by j h (yes e) = rw e at_i
    by j h (no f) = ap some (o.others j f) ∙ r.done j (omega (arith, f))
