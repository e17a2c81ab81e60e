-- `sheet_reading::labels::put_labels` meets its contract: after i turns the first i labels are put.
use mathlib.Core.Path.{◌≡◌, refl, sym, ap, ap₂, subst, ◌∙◌}
use mathlib.Core.List.{List, map}
use Prim.Native.Nat.{ℕ, suc, ◌+◌, ◌≤◌, ◌<◌}
use native.Mathlib.Numerals.{add-one}
use native.Mathlib.Omega.{arith}
use lib.ListN.{length, get_or, set, length-set, length-map, get_or-map}
use lib.Seq.{paste, paste-zero, paste-suc}
use Rattle.dstree.specs.Measures.{most_traces}
use Rattle.dstree.specs.Labels.{Label, no_label, label_place}
use Rattle.sheet_blocks.specs.Traces.{count_of, sheet_labels}
use Rattle.sheet_judging.proofs.LabelsIn.{labels_length}
use Rattle.sheet_judging.specs.LabelBlocks.{label_blocks}
use Rattle.sheet_judging.proofs.Samples.{SoundSheet, fine, range, labels_inside}
use Rattle.sheet_reading.proofs.labels.put_labels.Goals as goal

-- one more of some labels
next_over : (places : List ℕ) (at : ℕ) (labels : List Label) (j : ℕ) → at + j < length places → j < length labels
    → set (paste places at (map label_place labels) j) (at + j) (label_place (get_or labels j no_label)) ≡ paste places at (map label_place labels) (suc j)
next_over places at labels j inside more =
    ap (set (paste places at (map label_place labels) j) (at + j)) (sym (get_or-map label_place labels j no_label))
    ∙ paste-suc places at (map label_place labels) j (label_place no_label) inside (omega (arith, more, length-map labels label_place))

few : (bytes : List ℕ) → SoundSheet bytes → count_of bytes ≤ most_traces
few bytes sound = omega (arith, sound.good.counted, (range bytes sound).capacity_high)

given_length : (bytes : List ℕ) → length (sheet_labels bytes) ≡ count_of bytes
given_length bytes = labels_length (count_of bytes) (label_blocks bytes)

pub label_start-start-requires : goal.label_start-start-requires
label_start-start-requires c = (fine c.args.sheet.now c.requires.0).whole

pub loop-i-init : goal.loop-i-init
loop-i-init c = (paste-zero c.args.labels.now 0 (map label_place (sheet_labels c.args.sheet.now)), refl)

pub read_label-requires : goal.read_label-requires
read_label-requires c =
    let bytes = c.args.sheet.now in
    let sound = fine bytes c.requires.0 in (
      sound.whole,
      c.label_start-start.ensures,
      omega (arith, c.loop-i-test.true, c.requires.1, few bytes sound),
      λ some. omega (arith, c.loop-i-test.true, c.requires.1, labels_inside bytes sound some),
    )

pub bounds-labels-i : goal.bounds-labels-i
bounds-labels-i c = omega (arith, c.loop-i-test.true, c.requires.2, c.loop-i.invariant.1)

pub loop-i-preserved : goal.loop-i-preserved
loop-i-preserved c =
    let bytes = c.args.sheet.now in
    let given = sheet_labels bytes in
    let l = c.loop-i in
    let before = c.args.labels.now in
    let places = map label_place given in
    let inside : l.i < count_of bytes = omega (arith, c.loop-i-test.true, c.requires.1) in
    let none : l.i ≡ 0 + l.i = omega arith in (
      rw (add-one l.i) (ap₂ (λ (x : List ℕ) (v : ℕ). set x l.i v) l.invariant.0 (c.read_label.ensures (count_of bytes) inside)
          ∙ ap (λ (k : ℕ). set (paste before 0 places l.i) k (label_place (get_or given l.i no_label))) none
          ∙ next_over before 0 given l.i (omega (arith, inside, c.requires.1, c.requires.2)) (omega (arith, inside, given_length bytes))),
      simp length-set l.invariant.1,
    )

pub returns : goal.returns
returns c =
    let bytes = c.args.sheet.now in
    let e : c.loop-i.i ≡ length (sheet_labels bytes) = omega (arith, c.requires.1, given_length bytes) in
    subst (λ (k : ℕ). c.loop-i.labels ≡ paste c.args.labels.now 0 (map label_place (sheet_labels bytes)) k) e c.loop-i.invariant.0
