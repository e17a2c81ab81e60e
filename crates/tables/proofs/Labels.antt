-- The labels of tables: one for each stored trace, each within its bits, whatever their places hold; and what labels for the next traces
-- leave of the table.
use Prim.Native.Nat.{ℕ, zero, suc, ◌+◌, ◌*◌, ◌%◌, ◌≤◌, ◌<◌}
use mathlib.Core.Path.{◌≡◌, refl, sym, ap, ◌∙◌}
use mathlib.Core.List.{List, [], ◌∷◌, ◌++◌, map, append_assoc}
use native.Mathlib.Omega.{arith}
use lib.ListN.{length, get_or, set, take, drop, replicate, length-append, length-map, length-replicate, get_or-map}
use lib.Seq.{drop-drop, length-take-le, take_all, take-take, get_or-take, append_snoc, set_split, paste, paste-zero, length-paste, take-paste, drop-paste}
use lib.Dec.{T}
use Rattle.std.proofs.lemmas.List.Edits.{paste_all}
use Rattle.integer.proofs.Lists.{All, all_none, all_more, drop_more}
use Rattle.integer.proofs.Rows.{map_append}
use Rattle.dstree.specs.Labels.{Label, no_label, code_limit, serial_limit, are_labels, label_place, label_at}
use Rattle.dstree.proofs.SheetLabels.{LabelFits, labels_are, at_place}
use Rattle.tables.specs.Tables.{Tables, with_labels, lent_of, trace_count}
use Rattle.tables.specs.View.{labels_in, labels_over, next_labelled}
use Rattle.tables.specs.Judge.{lent}
use Rattle.tables.specs.Beginning.{Begins}

-- ---- what places say

pub place_fits : (place : ℕ) → LabelFits (label_at place)
unfolding label_at
place_fits place = record { code_fits = omega arith; serial_fits = omega arith }

places_fit : (places : List ℕ) → All LabelFits (map label_at places)
places_fit [] = all_none
places_fit (place ∷ places) = all_more {a = label_at place} (place_fits place) (places_fit places)

-- labels in their places, read again
read_again : {labels : List Label} → All LabelFits labels → map label_at (map label_place labels) ≡ labels
read_again all_none = refl
read_again (all_more {a = l} f fs) = rw (at_place l f, read_again fs) refl

module _ (t : Tables) where
  -- "Each trace gets" a label, where the table has a place for each
  pub stored_labels : trace_count t ≤ length t.labels → T (are_labels (trace_count t) (labels_in t))
  unfolding labels_in
  stored_labels room = labels_are (trace_count t) (labels_in t) (record {
    each_one = length-map (take (trace_count t) t.labels) label_at ∙ length-take-le (trace_count t) t.labels room;
    all_fit = places_fit (take (trace_count t) t.labels);
  })

  -- a trace's label is what its place says
  pub label_at_lem : (i : ℕ) → i < trace_count t → get_or (labels_in t) i no_label ≡ label_at (get_or t.labels i 0)
  unfolding labels_in label_at
  label_at_lem i inside =
      get_or-map label_at (take (trace_count t) t.labels) i 0 ∙ ap label_at (get_or-take (trace_count t) t.labels i 0 inside)

-- the first places of a memory have its labels, where they count its traces and have a place for each
pub labels_begin : (part memory : Tables) → Begins part memory → trace_count memory ≡ trace_count part
    → trace_count part ≤ length part.labels → labels_in memory ≡ labels_in part
unfolding labels_in
labels_begin part memory begins counted room =
    ap (λ (k : ℕ). map label_at (take k memory.labels)) counted
    ∙ ap (map label_at) (sym (take-take (trace_count part) (length part.labels) memory.labels room)
    ∙ ap (take (trace_count part)) (ap (λ (t : Tables). t.labels) begins))

-- ---- labels for the next traces

-- a copy behind another is one copy of both
paste_on : {A : Type 0} (d : List A) (at : ℕ) (s s' : List A) (n n' : ℕ) → length s ≡ n → length s' ≡ n' → at + n ≤ length d
    → paste (paste d at s n) (at + n) s' n' ≡ paste d at (s ++ s') (n + n')
paste_on {A} d at s s' n n' e e' room =
    let one : List A = paste d at s n in
    let front : take (at + n) one ≡ take at d ++ s =
    take-paste d at s n (omega (arith, room)) (omega (arith, e)) ∙ ap (λ (l : List A). take at d ++ l) (take_all n s (omega (arith, e))) in
    let so_far : at + n + n' ≡ at + (n + n') = omega arith in
    let behind : drop (at + n + n') one ≡ drop (at + (n + n')) d =
    drop_more (at + n + n') (at + n) one d (omega arith) (drop-paste d at s n (omega (arith, room)) (omega (arith, e)))
    ∙ ap (λ (k : ℕ). drop k d) so_far in
    let both : take (n + n') (s ++ s') ≡ s ++ s' = take_all (n + n') (s ++ s') (omega (arith, e, e', length-append s s')) in
    ap (λ (l : List A). l ++ take n' s' ++ drop (at + n + n') one) front
    ∙ (ap (λ (l : List A). take at d ++ s ++ l ++ drop (at + n + n') one) (take_all n' s' (omega (arith, e')))
    ∙ (ap (λ (l : List A). take at d ++ s ++ s' ++ l) behind
    ∙ (ap (λ (l : List A). l ++ drop (at + (n + n')) d) (append_assoc (take at d) s s')
    ∙ sym (ap (λ (l : List A). take at d ++ l ++ drop (at + (n + n')) d) both))))

module _ (places : List ℕ) (at : ℕ) (labels : List Label) (room : at + length labels ≤ length places) where
  pub over_length : length (labels_over places at labels) ≡ length places
  over_length = length-paste places at (map label_place labels) (length labels) room (omega (arith, length-map labels label_place))

  -- places behind them stay
  pub over_behind : (c : ℕ) → at + length labels ≤ c → drop c (labels_over places at labels) ≡ drop c places
  over_behind c h = drop_more c (at + length labels) (labels_over places at labels) places h
      (drop-paste places at (map label_place labels) (length labels) (omega (arith, room)) (omega (arith, length-map labels label_place)))

  -- some labels, and then others
  pub over_more : (more : List Label)
      → labels_over (labels_over places at labels) (at + length labels) more ≡ labels_over places at (labels ++ more)
  over_more more =
      paste_on places at (map label_place labels) (map label_place more) (length labels) (length more) (length-map labels label_place)
      (length-map more label_place) room
      ∙ (ap (λ (l : List ℕ). paste places at l (length labels + length more)) (sym (map_append label_place labels more))
      ∙ ap (paste places at (map label_place (labels ++ more))) (sym (length-append labels more)))

  over_says : All LabelFits labels
      → map label_at (take (at + length labels) (labels_over places at labels)) ≡ map label_at (take at places) ++ labels
  over_says fit =
      ap (map label_at) (take-paste places at (map label_place labels) (length labels) (omega (arith, room)) (omega (arith, length-map labels label_place)))
      ∙ (map_append label_at (take at places) (take (length labels) (map label_place labels))
      ∙ ap (λ (l : List Label). map label_at (take at places) ++ l)
      (ap (map label_at) (take_all (length labels) (map label_place labels) (omega (arith, length-map labels label_place))) ∙ read_again fit))

-- ---- as code puts them, place after place

-- a label given as any 64-bit number, whose bits above code and serial do not count
place_again : (place : ℕ) → label_place (label_at place) ≡ place % (code_limit * serial_limit)
unfolding label_place label_at
place_again place = omega arith

-- one label
pub label_stored : (places : List ℕ) (at place : ℕ) → at < length places
    → set places at (place % (code_limit * serial_limit)) ≡ labels_over places at (label_at place ∷ [])
label_stored places at place inside =
    let p : ℕ = label_place (label_at place) in
    let next : suc at ≡ at + 1 = omega arith in
    ap (set places at) (sym (place_again place))
    ∙ (set_split places at p inside
    ∙ (sym (append_snoc (take at places) p (drop (suc at) places)) ∙ ap (λ (k : ℕ). take at places ++ (p ∷ []) ++ drop k places) next))

-- zero labels, "zero from callers that give neither", are places of 0
zero_places : (count : ℕ) → map label_place (replicate count no_label) ≡ replicate count 0
unfolding label_place
zero_places zero = refl
zero_places (suc count) = ap (λ (l : List ℕ). 0 ∷ l) (zero_places count)

pub zeros_over : (places part : List ℕ) (at count : ℕ) → part ≡ replicate count 0
    → take at places ++ (part ++ drop count (drop at places)) ≡ labels_over places at (replicate count no_label)
zeros_over places part at count e =
    rw (e, length-replicate count no_label, zero_places count, drop-drop)
    (sym (paste_all places at (replicate count 0) count (sym (length-replicate count 0))))

-- ---- of tables

-- none leave tables as they are
pub no_labels : (t : Tables) → t ≡ next_labelled t []
no_labels t = ap (λ (l : List ℕ). with_labels l t) (paste-zero t.labels (trace_count t) [])

module _ (t : Tables) (labels : List Label) (room : trace_count t + length labels ≤ length t.labels) where
  pub next_lent : lent_of (next_labelled t labels) ≡ lent_of t
  next_lent = ap (λ (k : ℕ). lent (length t.control) (length t.samples) (length t.nodes) (length t.links) (length t.work) k)
      (over_length t.labels (trace_count t) labels room)

  -- once these traces are stored
  pub next_stored : (after : Tables) → trace_count after ≡ trace_count t + length labels
      → after.labels ≡ labels_over t.labels (trace_count t) labels → All LabelFits labels → labels_in after ≡ labels_in t ++ labels
  unfolding labels_in
  next_stored after counted are fit =
      ap (λ (k : ℕ). map label_at (take k after.labels)) counted
      ∙ (ap (λ (l : List ℕ). map label_at (take (trace_count t + length labels) l)) are
      ∙ over_says t.labels (trace_count t) labels room fit)
