-- Parts of lent slices: what comes back where a call was lent the first places of each table, or the next places of a supply.
use Prim.Native.Nat.{ℕ, ◌+◌, ◌-◌, ◌≤◌}
use mathlib.Core.Path.{◌≡◌, sym, ap, subst, ◌∙◌}
use mathlib.Core.List.{List, ◌++◌, append_assoc}
use native.Mathlib.Omega.{arith}
use lib.ListN.{length, take, drop, length-append, length-drop}
use lib.Seq.{length-take-le, take_at, drop_at, drop-drop}
use Rattle.dstree.specs.Book.{Lent}
use Rattle.tables.specs.Tables.{Tables, labelled_tables, lent_of}
use Rattle.tables.specs.Beginning.{over, left, LentWithin}
use Rattle.tables.proofs.Beginning.{tables_same}
use Rattle.replay.specs.Script.{supply, supply_at}

-- ---- the first places of each table

-- what the tables are when these parts are back
abbrev pub back_in : Lent → Tables → Tables → Tables
back_in lent part memory =
    labelled_tables (part.control ++ drop lent.control memory.control)
    (part.samples ++ drop lent.samples memory.samples)
    (part.nodes ++ drop lent.nodes memory.nodes)
    (part.links ++ drop lent.links memory.links)
    (part.work ++ drop lent.work memory.work)
    (part.labels ++ drop lent.labels memory.labels)

front : {A : Type 0} (k : ℕ) (p l : List A) → length p ≡ k → p ++ drop k l ≡ over p l
front k p l e = ap (λ (n : ℕ). p ++ drop n l) (sym e)

pub back_is_left : (lent : Lent) (part memory : Tables) → lent_of part ≡ lent → back_in lent part memory ≡ left part memory
back_is_left lent part memory e = tables_same
    (front lent.control part.control memory.control (ap (λ (l : Lent). l.control) e))
    (front lent.samples part.samples memory.samples (ap (λ (l : Lent). l.samples) e))
    (front lent.nodes part.nodes memory.nodes (ap (λ (l : Lent). l.nodes) e))
    (front lent.links part.links memory.links (ap (λ (l : Lent). l.links) e))
    (front lent.work part.work memory.work (ap (λ (l : Lent). l.work) e))
    (front lent.labels part.labels memory.labels (ap (λ (l : Lent). l.labels) e))

-- the lengths of what a call leaves: they are those that it was lent
pub lengths_kept : (lent : Lent) (part memory : Tables) → LentWithin lent (lent_of memory)
    → length part.control ≡ length (take lent.control memory.control) → length part.samples ≡ length (take lent.samples memory.samples)
    → length part.nodes ≡ length (take lent.nodes memory.nodes) → length part.links ≡ length (take lent.links memory.links)
    → length part.work ≡ length (take lent.work memory.work) → length part.labels ≡ length (take lent.labels memory.labels)
    → lent_of part ≡ lent
lengths_kept lent part memory h c s n l w b = rw (
  c ∙ length-take-le lent.control memory.control h.control_within,
  s ∙ length-take-le lent.samples memory.samples h.samples_within,
  n ∙ length-take-le lent.nodes memory.nodes h.nodes_within,
  l ∙ length-take-le lent.links memory.links h.links_within,
  w ∙ length-take-le lent.work memory.work h.work_within,
  b ∙ length-take-le lent.labels memory.labels h.labels_within,
)

-- ---- the next places of a supply

-- the places from one position to another
pub next_places : {A : Type 0} (from many : ℕ) (l : List A) → take (from + many - from) (drop from l) ≡ take many (drop from l)
next_places from many l = let e : from + many - from ≡ many = omega arith in ap (λ (k : ℕ). take k (drop from l)) e

pub so_many : {A : Type 0} (from many : ℕ) (l : List A) → many ≤ length l - from → length (take many (drop from l)) ≡ many
so_many from many l h = length-take-le many (drop from l) (subst (λ (k : ℕ). many ≤ k) (sym (length-drop from l)) h)

pub ahead_moved : {A : Type 0} (from many : ℕ) (l : List A) → many ≤ length l - from → drop (from + many) l ≡ drop (length (take many (drop from l))) (drop from l)
ahead_moved from many l h = sym (drop-drop many from l) ∙ ap (λ (k : ℕ). drop k (drop from l)) (sym (so_many from many l h))

pub supply_moved : (from many : ℕ) (l beside : List ℕ) → from ≤ length l → many ≤ length l - from → length beside ≡ many
    → supply_at (from + many) (take from l ++ (beside ++ drop (from + many) l)) ≡ supply (take from l ++ beside) (drop (length (take many (drop from l))) (drop from l))
supply_moved from many l beside h m e =
    let n : length (take from l ++ beside) ≡ from + many = length-append (take from l) beside ∙ (ap (λ (k : ℕ). k + length beside) (length-take-le from l h) ∙ ap (λ (k : ℕ). from + k) e) in
    let parts : take from l ++ (beside ++ drop (from + many) l) ≡ (take from l ++ beside) ++ drop (from + many) l = sym (append_assoc (take from l) beside (drop (from + many) l)) in
    rw (
      ap (λ (k : List ℕ). take (from + many) k) parts ∙ take_at (take from l ++ beside) (drop (from + many) l) (from + many) n,
      ap (λ (k : List ℕ). drop (from + many) k) parts ∙ (drop_at (take from l ++ beside) (drop (from + many) l) (from + many) n ∙ ahead_moved from many l m),
    )
