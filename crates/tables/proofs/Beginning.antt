-- The first places of a memory, and what is behind them. The idea: a memory that begins with some tables is those tables with more places
-- behind each, so that what a call does to it can be said as an equation between lists that are joined.
use Prim.Native.Nat.{ℕ, zero, suc, ◌*◌, ◌≤◌}
use mathlib.Core.Path.{◌≡◌, refl, sym, ap, ◌∙◌}
use mathlib.Core.List.{List, [], ◌∷◌, ◌++◌, append_assoc}
use native.Mathlib.Omega.{arith}
use lib.IntN.{pos}
use lib.ListN.{length, take, drop, take-append-drop, length-append, length-drop, length-replicate}
use lib.Seq.{take-take, length-take-le, take-append_seam, drop_at}
use Rattle.dstree.specs.Measures.{Measures, samples_needed, records_needed, links_needed, work_needed, labels_needed}
use Rattle.dstree.specs.Book.{Lent}
use Rattle.tables.specs.Layout.{control_fields, record_places}
use Rattle.tables.specs.Tables.{Tables, labelled_tables, lent_of, filled}
use Rattle.tables.specs.Beginning.{first_places, over, left, Begins, LentWithin}
use Rattle.tables.specs.Answers.{opened}
use Rattle.tables.specs.Judge.{Room}

-- ---- of a list

module _ {A : Type 0} where
  begin_split : (p l : List A) → take (length p) l ≡ p → l ≡ p ++ drop (length p) l
  begin_split p l e = sym (take-append-drop (length p) l) ∙ ap (λ (q : List A). q ++ drop (length p) l) e

  take_as_long : (k : ℕ) (l : List A) → take (length (take k l)) l ≡ take k l
  take_as_long zero l = refl
  take_as_long (suc k) [] = refl
  take_as_long (suc k) (x ∷ l) = ap (λ (q : List A). x ∷ q) (take_as_long k l)

  over_length : (p l : List A) → length p ≤ length l → length (over p l) ≡ length l
  over_length p l h = simp (length-append, length-drop) (omega arith)

  over_split : (p q r : List A) → length q ≡ length p → over q (p ++ r) ≡ q ++ r
  over_split p q r e = ap (λ (l : List A). q ++ l) (drop_at p r (length q) (sym e))

  begin_no_longer : (p l : List A) → take (length p) l ≡ p → length p ≤ length l
  begin_no_longer p l e = omega (arith, ap length (begin_split p l e), length-append p (drop (length p) l))

  begin_twice : (p q l : List A) → take (length p) q ≡ p → take (length q) l ≡ q → take (length p) l ≡ p
  begin_twice p q l e f =
      let whole : l ≡ p ++ (drop (length p) q ++ drop (length q) l) =
      begin_split q l f ∙ ap (λ (k : List A). k ++ drop (length q) l) (begin_split p q e) ∙ append_assoc p (drop (length p) q) (drop (length q) l) in
      ap (λ (k : List A). take (length p) k) whole ∙ take-append_seam p (drop (length p) q ++ drop (length q) l)

  begin_of : (p q l : List A) → take (length p) l ≡ p → take (length q) l ≡ q → length p ≤ length q → take (length p) q ≡ p
  begin_of p q l e f h = ap (λ (k : List A). take (length p) k) (sym f) ∙ (take-take (length p) (length q) l h ∙ e)

  pub fill_length : (k : ℕ) (z : A) (l : List A) → k ≤ length l → length (filled k z l) ≡ length l
  fill_length k z l h = simp (length-append, length-replicate, length-drop) (omega arith)

-- ---- of tables

pub tables_same : {t s : Tables} → t.control ≡ s.control → t.samples ≡ s.samples → t.nodes ≡ s.nodes → t.links ≡ s.links → t.work ≡ s.work
    → t.labels ≡ s.labels → t ≡ s
tables_same {t} {s} c p n l w b = rw (c, p, n, l, w, b)

-- tables with more places behind each
abbrev pub extended : Tables → Tables → Tables
extended part more =
    labelled_tables (part.control ++ more.control) (part.samples ++ more.samples) (part.nodes ++ more.nodes) (part.links ++ more.links)
    (part.work ++ more.work) (part.labels ++ more.labels)

-- the places of a memory behind as many as some tables have
abbrev pub rest_of : Tables → Tables → Tables
rest_of part memory =
    labelled_tables (drop (length part.control) memory.control)
    (drop (length part.samples) memory.samples)
    (drop (length part.nodes) memory.nodes)
    (drop (length part.links) memory.links)
    (drop (length part.work) memory.work)
    (drop (length part.labels) memory.labels)

-- a memory that begins with some tables is these, with what is behind them
pub begins_is : (part memory : Tables) → Begins part memory → memory ≡ extended part (rest_of part memory)
begins_is part memory b = tables_same
    (begin_split part.control memory.control (ap (λ (t : Tables). t.control) b))
    (begin_split part.samples memory.samples (ap (λ (t : Tables). t.samples) b))
    (begin_split part.nodes memory.nodes (ap (λ (t : Tables). t.nodes) b))
    (begin_split part.links memory.links (ap (λ (t : Tables). t.links) b))
    (begin_split part.work memory.work (ap (λ (t : Tables). t.work) b))
    (begin_split part.labels memory.labels (ap (λ (t : Tables). t.labels) b))

pub extended_begins : (part more : Tables) → Begins part (extended part more)
extended_begins part more = tables_same
    (take-append_seam part.control more.control)
    (take-append_seam part.samples more.samples)
    (take-append_seam part.nodes more.nodes)
    (take-append_seam part.links more.links)
    (take-append_seam part.work more.work)
    (take-append_seam part.labels more.labels)

-- what a call leaves where it was lent are the memory's first places then
pub left_begins : (part memory : Tables) → Begins part (left part memory)
left_begins part memory = extended_begins part (rest_of part memory)

-- a call that leaves all as it was leaves the memory as it was
pub left_same : (part memory : Tables) → Begins part memory → left part memory ≡ memory
left_same part memory b = sym (begins_is part memory b)

-- what a call does within the lengths that it is lent, it does to the memory
pub left_extended : (part after more : Tables) → lent_of after ≡ lent_of part → left after (extended part more) ≡ extended after more
left_extended part after more e = tables_same
    (over_split part.control after.control more.control (ap (λ (l : Lent). l.control) e))
    (over_split part.samples after.samples more.samples (ap (λ (l : Lent). l.samples) e))
    (over_split part.nodes after.nodes more.nodes (ap (λ (l : Lent). l.nodes) e))
    (over_split part.links after.links more.links (ap (λ (l : Lent). l.links) e))
    (over_split part.work after.work more.work (ap (λ (l : Lent). l.work) e))
    (over_split part.labels after.labels more.labels (ap (λ (l : Lent). l.labels) e))

-- a call is lent the first places, however many
pub first_begins : (lent : Lent) (memory : Tables) → Begins (first_places lent memory) memory
first_begins lent memory = tables_same
    (take_as_long lent.control memory.control)
    (take_as_long lent.samples memory.samples)
    (take_as_long lent.nodes memory.nodes)
    (take_as_long lent.links memory.links)
    (take_as_long lent.work memory.work)
    (take_as_long lent.labels memory.labels)

pub begins_on : (part whole memory : Tables) → Begins part whole → Begins whole memory → Begins part memory
begins_on part whole memory b c = tables_same
    (begin_twice part.control whole.control memory.control (ap (λ (t : Tables). t.control) b) (ap (λ (t : Tables). t.control) c))
    (begin_twice part.samples whole.samples memory.samples (ap (λ (t : Tables). t.samples) b) (ap (λ (t : Tables). t.samples) c))
    (begin_twice part.nodes whole.nodes memory.nodes (ap (λ (t : Tables). t.nodes) b) (ap (λ (t : Tables). t.nodes) c))
    (begin_twice part.links whole.links memory.links (ap (λ (t : Tables). t.links) b) (ap (λ (t : Tables). t.links) c))
    (begin_twice part.work whole.work memory.work (ap (λ (t : Tables). t.work) b) (ap (λ (t : Tables). t.work) c))
    (begin_twice part.labels whole.labels memory.labels (ap (λ (t : Tables). t.labels) b) (ap (λ (t : Tables). t.labels) c))

-- ---- lengths

pub begins_within : (part memory : Tables) → Begins part memory → LentWithin (lent_of part) (lent_of memory)
begins_within part memory b = record {
  control_within = begin_no_longer part.control memory.control (ap (λ (t : Tables). t.control) b);
  samples_within = begin_no_longer part.samples memory.samples (ap (λ (t : Tables). t.samples) b);
  nodes_within = begin_no_longer part.nodes memory.nodes (ap (λ (t : Tables). t.nodes) b);
  links_within = begin_no_longer part.links memory.links (ap (λ (t : Tables). t.links) b);
  work_within = begin_no_longer part.work memory.work (ap (λ (t : Tables). t.work) b);
  labels_within = begin_no_longer part.labels memory.labels (ap (λ (t : Tables). t.labels) b);
}

-- of two beginnings of a memory, the one with no table longer begins the other
pub begins_between : (short long memory : Tables) → Begins short memory → Begins long memory → LentWithin (lent_of short) (lent_of long) → Begins short long
begins_between short long memory b c h = tables_same
    (begin_of short.control long.control memory.control (ap (λ (t : Tables). t.control) b) (ap (λ (t : Tables). t.control) c) h.control_within)
    (begin_of short.samples long.samples memory.samples (ap (λ (t : Tables). t.samples) b) (ap (λ (t : Tables). t.samples) c) h.samples_within)
    (begin_of short.nodes long.nodes memory.nodes (ap (λ (t : Tables). t.nodes) b) (ap (λ (t : Tables). t.nodes) c) h.nodes_within)
    (begin_of short.links long.links memory.links (ap (λ (t : Tables). t.links) b) (ap (λ (t : Tables). t.links) c) h.links_within)
    (begin_of short.work long.work memory.work (ap (λ (t : Tables). t.work) b) (ap (λ (t : Tables). t.work) c) h.work_within)
    (begin_of short.labels long.labels memory.labels (ap (λ (t : Tables). t.labels) b) (ap (λ (t : Tables). t.labels) c) h.labels_within)

-- lent as many places as asked, where the memory has them
pub first_lent : (lent : Lent) (memory : Tables) → LentWithin lent (lent_of memory) → lent_of (first_places lent memory) ≡ lent
first_lent lent memory h = rw (
  length-take-le lent.control memory.control h.control_within,
  length-take-le lent.samples memory.samples h.samples_within,
  length-take-le lent.nodes memory.nodes h.nodes_within,
  length-take-le lent.links memory.links h.links_within,
  length-take-le lent.work memory.work h.work_within,
  length-take-le lent.labels memory.labels h.labels_within,
)

-- the memory keeps its lengths
pub left_lent : (part memory : Tables) → LentWithin (lent_of part) (lent_of memory) → lent_of (left part memory) ≡ lent_of memory
left_lent part memory h = rw (
  over_length part.control memory.control h.control_within,
  over_length part.samples memory.samples h.samples_within,
  over_length part.nodes memory.nodes h.nodes_within,
  over_length part.links memory.links h.links_within,
  over_length part.work memory.work h.work_within,
  over_length part.labels memory.labels h.labels_within,
)

-- ---- opening

module _ (part : Tables) (m : Measures) (room : Room (lent_of part) m) where
  pub opened_lent : lent_of (opened part m) ≡ lent_of part
  unfolding opened
  opened_lent =
      let e : suc (suc (suc (suc (suc (length (drop control_fields part.control)))))) ≡ length part.control = omega (arith, length-drop control_fields part.control, room.long.control_long) in
      rw (
        e,
        fill_length (samples_needed m) (pos 0) part.samples room.long.samples_long,
        fill_length (records_needed m * record_places) (pos 0) part.nodes room.long.nodes_long,
        fill_length {A = ℕ} (links_needed m) 0 part.links room.long.links_long,
        fill_length {A = ℕ} (work_needed m) 0 part.work room.work_room,
        fill_length {A = ℕ} (labels_needed m) 0 part.labels room.labels_room,
      )
