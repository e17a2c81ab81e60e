-- A leaf's walk takes the distance of each trace as it meets it, and lists it: what is listed at a number, and at the end.
use mathlib.Core.Path.{◌≡◌, refl, sym, ap, ◌∙◌, subst}
use mathlib.Core.List.{List, map, foldl}
use Prim.Native.Nat.{ℕ, suc, ◌+◌, ◌*◌, ◌≤◌, ◌<◌}
use native.Mathlib.Nat.{mul-le-mul_right}
use native.Mathlib.Omega.{arith}
use lib.IntN.{ℤ}
use lib.ListN.{length, drop}
use Rattle.integer.specs.Sorting.{Ordered}
use Rattle.integer.proofs.Lists.{drop_more}
use Rattle.integer.proofs.Sorting.{inserted_ordered, take_ordered, kept_length}
use Rattle.dstree.specs.Measures.{Trace}
use Rattle.dstree.specs.Matching.{Near, is_nearer}
use Rattle.dstree.specs.KNearest.{list_with}
use Rattle.dstree.proofs.Ranks.{linear}
use Rattle.tables.specs.Walk.{numbers_of, Rising, behind_of, Stored}
use Rattle.tables.proofs.Listed.{met_from, met_start, met_more, met_end}
use Rattle.reading.specs.Nearest.{near_of}
use Rattle.reading.specs.Listed.{nears_in, ListRoom, ListBegins}
use Rattle.reading.proofs.Records.{nears_length}

module _ (samples : List ℤ) (n : ℕ) (query : Trace) (links : List ℕ) (count k : ℕ) where
  -- what is listed, and all that the walk still meets from t on
  abbrev list_from : List Near → ℕ → List Near
  list_from so_far t = foldl (list_with k) so_far (map (near_of samples n query) (met_from links count t))

  listed_more : Rising links count → (so_far : List Near) (t : ℕ) → t < count
      → list_from so_far t ≡ list_from (list_with k so_far (near_of samples n query t)) (behind_of links count t)
  listed_more rising so_far t h =
      ap (λ (l : List ℕ). foldl (list_with k) so_far (map (near_of samples n query) l)) (met_more links count rising t h)

  listed_end : (so_far : List Near) (t : ℕ) → count ≤ t → list_from so_far t ≡ so_far
  listed_end so_far t h = ap (λ (l : List ℕ). foldl (list_with k) so_far (map (near_of samples n query) l)) (met_end links count t h)

  -- the walk has come to t, and m are listed
  module _ (head many : ℕ) (list₀ : List ℕ) where
    -- what the whole walk lists
    abbrev whole : List Near
    whole = foldl (list_with k) (nears_in many list₀) (map (near_of samples n query) (numbers_of links count head))

    pub record Walking (list : List ℕ) (m t : ℕ) : Type 0 where
      pub room : ListRoom k m list
      pub long : length list ≡ length list₀
      pub goes_on : list_from (nears_in m list) t ≡ whole
      pub rest : drop (2 * m) list ≡ drop (2 * m) list₀

    pub walk_start : head < count → ListRoom k many list₀ → Walking list₀ many head
    walk_start h r = record {
      room = r;
      long = refl;
      goes_on =
          ap (λ (l : List ℕ). foldl (list_with k) (nears_in many list₀) (map (near_of samples n query) l)) (met_start links count head h);
      rest = refl;
    }

    pub walk_next : Rising links count → {list list' : List ℕ} {m m' t : ℕ} → Walking list m t → t < count
        → ListBegins k m' (list_with k (nears_in m list) (near_of samples n query t)) list list' → length list' ≡ length list
        → Walking list' m' (behind_of links count t)
    walk_next rising {list} {list'} {m} {m'} {t} w h f size =
        let a = near_of samples n query t in
        let so_far = nears_in m list in
        let more : m ≤ m' =
        omega (
          arith,
          (kept_length is_nearer k a so_far (omega (arith, nears_length m list, w.room.few))).0,
          nears_length m list,
          nears_length m' list',
          ap length f.nears_are,
        ) in
        record {
          room = record {
            some_record = w.room.some_record;
            few = f.few;
            long = omega (arith, w.room.long, size);
            ordered =
                subst (Ordered is_nearer) (sym f.nears_are) (take_ordered linear k (inserted_ordered linear a w.room.ordered));
          };
          long = size ∙ w.long;
          goes_on =
              ap (λ (l : List Near). list_from l (behind_of links count t)) f.nears_are
              ∙ (sym (listed_more rising so_far t h) ∙ w.goes_on);
          rest = f.rest ∙ drop_more (2 * m') (2 * m) list list₀ (omega arith) w.rest;
        }

    pub walk_end : {list : List ℕ} {m t : ℕ} → Walking list m t → count ≤ t → ListBegins k m whole list₀ list
    walk_end {list} {m} {t} w h = record {
      nears_are = sym (listed_end (nears_in m list) t h) ∙ w.goes_on;
      few = w.room.few;
      rest = w.rest;
    }

-- how many it still meets
pub length_more : (links : List ℕ) (k : ℕ) → Rising links k → (t : ℕ) → t < k
    → length (met_from links k t) ≡ suc (length (met_from links k (behind_of links k t)))
length_more links k rising t h = ap length (met_more links k rising t h)

pub length_end : (links : List ℕ) (k t : ℕ) → k ≤ t → length (met_from links k t) ≡ 0
length_end links k t h = ap length (met_end links k t h)

-- a stored trace lies in the table whole
pub trace_room : {samples : List ℤ} {links : List ℕ} {n k head : ℕ} → Stored samples links n k head → (t : ℕ) → t < k
    → t * n + n ≤ length samples
trace_room {samples} {links} {n} {k} s t h =
    let room : suc t * n ≤ k * n = mul-le-mul_right n h in
    omega (arith, room, s.samples_room)
