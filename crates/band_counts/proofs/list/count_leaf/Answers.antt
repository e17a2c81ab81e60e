-- `band_counts::list::count_leaf` meets its contract: the bands taken have the leaf, and those to come stand as they did.
use mathlib.Core.Path.{◌≡◌, refl, sym, ◌∙◌, ap, subst}
use Prim.Native.Nat.{ℕ, ◌+◌, ◌*◌, ◌≤◌, ◌<◌}
use mathlib.Core.List.{List}
use native.Mathlib.Omega.{arith}
use lib.ListN.{length, drop}
use Rattle.integer.proofs.Lists.{same_or_not}
use Rattle.dstree.specs.Bands.{BandCount}
use Rattle.band_counts.specs.Counted.{count_at, with_count, count_with, CountFits}
use Rattle.band_counts.proofs.Counts.{count_put, count_other, count_rest, count_length}
use Rattle.band_counts.proofs.list.count_leaf.Invariants.{Added}
use Rattle.band_counts.proofs.list.count_leaf.Goals as goal

-- a band more has the leaf
module _ (bands by_bound by_upper traces : ℕ) (list₀ : List ℕ) (room : 2 * bands ≤ length list₀) where
  next : (list : List ℕ) (band : ℕ) → band < bands → Added bands by_bound by_upper traces list₀ list band → (list' : List ℕ)
      → list' ≡ with_count list band (count_with by_bound by_upper traces band (count_at list band)) → Added bands by_bound by_upper traces list₀ list' (band + 1)
  next list band h a list' e = record {
    size = ap length e ∙ (count_length list band new ∙ a.size);
    taken = λ k g. rw e (at k g (same_or_not k band));
    to_come = λ k g i. rw e (count_other list band k new (λ q. omega arith) ∙ a.to_come k (omega arith) i);
    rest = ap (drop (2 * bands)) e ∙ (count_rest (2 * bands) list band new (omega (arith, h)) ∙ a.rest);
  }
    where
      new : BandCount
      new = count_with by_bound by_upper traces band (count_at list band)

      at : (k : ℕ) → k < band + 1 → Dec (k ≡ band) → count_at (with_count list band new) k ≡ count_with by_bound by_upper traces k (count_at list₀ k)
      at k g (yes q) =
          ap (count_at (with_count list band new)) q
          ∙ (count_put list band new (omega (arith, h, room, a.size))
          ∙ (ap (count_with by_bound by_upper traces band) (a.to_come band (omega arith) h)
          ∙ ap (λ (i : ℕ). count_with by_bound by_upper traces i (count_at list₀ i)) (sym q)))
      at k g (no f) = count_other list band k new f ∙ a.taken k (omega (arith, f))

pub loop-band-init : goal.loop-band-init
loop-band-init c = record {
  size = refl;
  taken = λ k h. absurd (omega arith);
  to_come = λ k h g. refl;
  rest = refl;
}

pub count_band-requires : goal.count_band-requires
count_band-requires c =
    let l = c.loop-band in
    let h = c.loop-band-test.true in (
      omega (arith, h, c.requires.0),
      omega (arith, h, c.requires.1, l.invariant.size),
      c.requires.2,
      subst (CountFits 8191) (sym (l.invariant.to_come l.band (omega arith) h)) (c.requires.3 l.band h),
    )

pub loop-band-preserved : goal.loop-band-preserved
loop-band-preserved c =
    let a = c.args in
    let l = c.loop-band in
    next a.bands a.by_bound a.by_upper a.traces a.list.now c.requires.1 l.list l.band c.loop-band-test.true l.invariant c.count_band.new.list c.count_band.ensures

pub shape_of-list : goal.shape_of-list
shape_of-list c = c.loop-band.invariant.size

pub returns : goal.returns
returns c =
    let a = c.loop-band.invariant in record { counts = λ k h. a.taken k (omega (arith, c.loop-band.auto.band-end, c.loop-band-test.false)); rest = a.rest }
