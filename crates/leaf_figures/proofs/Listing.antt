-- Listed traces: their runs and rows, one more of them, and where each stands.
use Rattle.std.specs.Prelude.{Option, IfSome}
use Rattle.std.specs.Borrow.{Bor}
use Rattle.std.proofs.lemmas.Option.{IfSome_then}
use mathlib.Core.Path.{◌≡◌, sym, ap, subst, ◌∙◌}
use mathlib.Core.Logic.{◌⊎◌, inl, inr}
use mathlib.Core.List.{List, [], ◌∷◌, ◌++◌, append_assoc}
use Prim.Native.Nat.{ℕ, ◌+◌, ◌<◌}
use native.Mathlib.Omega.{arith}
use native.Mathlib.Numerals.{add-one}
use lib.ListN.{length, get_or, set, take}
use lib.Seq.{take-suc, take-suc-set, get_or-set_same, get_or-set_other}
use Rattle.integer.proofs.Lists.{In, in_snoc, same_or_not}
use Rattle.tables.specs.Runs.{Inside, RunOfTrace}
use Rattle.segment.specs.declared.figures.Figures.{Figures}
use Rattle.leaf_figures.specs.Rows.{RowsOn, RowOf, trace_of}
use Rattle.leaf_figures.specs.declared.listed.Listed.{Listed}
use Rattle.leaf_figures.specs.declared.table.Run.{Run}

-- a listed trace lies in the samples whole, and so do its runs
pub listed_run : (l : Listed) (on : Run) (t : ℕ) → In t l.list.now → Inside l.n on.first on.last → RunOfTrace l.samples.now l.n t on.first on.last
listed_run l on t i inside = record { narrow = l.inside.narrow; room = l.inside.inside t i; inside = inside }

-- where the figures of all traces of a list stand in their rows, those of one of them do
pub listed_row : (l : Listed) (place : List ℕ) (on : Run) (kept : Option (Bor (List Figures))) (t : ℕ) → In t l.list.now
    → IfSome kept (λ k. RowsOn l place on k.now) → IfSome kept (λ k. RowOf (trace_of l t) place on k.now t)
listed_row l place on kept t i h = IfSome_then kept h (λ k r. record { placed = r.placed t i; kept = r.kept t i })

-- one place more
pub in_more : (l : List ℕ) (i : ℕ) {t : ℕ} → i < length l → In t (take (i + 1) l) → In t (take i l) ⊎ (t ≡ get_or l i 0)
in_more l i {t} h m = in_snoc (take i l) (subst (In t) more m)
  where
    more : take (i + 1) l ≡ take i l ++ (get_or l i 0 ∷ [])
    more = rw (add-one i) (take-suc l i 0 h)

-- what holds of those in the first places, and of the next, holds of one place more
pub all_taken_more : (l : List ℕ) (P : ℕ → Type 0) (i : ℕ) → i < length l → ((t : ℕ) → In t (take i l) → P t) → P (get_or l i 0) → (t : ℕ) → In t (take (i + 1) l) → P t
all_taken_more l P i h all here t m = by (in_more l i h m)
  where
    by : In t (take i l) ⊎ (t ≡ get_or l i 0) → P t
    by (inl j) = all t j
    by (inr e) = subst P (sym e) here

-- a number written behind those that are listed
pub listed_more : (list : List ℕ) (count t : ℕ) (rest : List ℕ) → count < length list → take (count + 1) (set list count t) ++ rest ≡ take count list ++ (t ∷ rest)
listed_more list count t rest h = rw (add-one count, take-suc-set list count t h) (append_assoc (take count list) (t ∷ []) rest)

module _ (list place : List ℕ) (i u : ℕ) (here : i < length list) (is : u ≡ get_or list i 0) (inside : u < length place)
    (row : (t : ℕ) → In t (take i list) → get_or place t 0 < i) (back : (t : ℕ) → In t (take i list) → get_or list (get_or place t 0) 0 ≡ t) where
  -- one number more has its place
  pub place_more : (t : ℕ) → In t (take (i + 1) list) → (get_or (set place u i) t 0 < i + 1) × (get_or list (get_or (set place u i) t 0) 0 ≡ t)
  place_more t m = by (same_or_not u t)
    where
      earlier : (u ≡ t → ⊥) → In t (take i list) ⊎ (t ≡ get_or list i 0) → In t (take i list)
      earlier f (inl j) = j
      earlier f (inr e) = absurd (f (is ∙ sym e))

      by : Dec (u ≡ t) → (get_or (set place u i) t 0 < i + 1) × (get_or list (get_or (set place u i) t 0) 0 ≡ t)
      by (yes e) =
          let at : get_or (set place u i) t 0 ≡ i = subst (λ (x : ℕ). get_or (set place u i) x 0 ≡ i) e (get_or-set_same place u i 0 inside) in
          (omega (arith, at), ap (λ (j : ℕ). get_or list j 0) at ∙ (sym is ∙ e))
      by (no f) =
          let at : get_or (set place u i) t 0 ≡ get_or place t 0 = get_or-set_other place u t i 0 (λ p. f (sym p)) in
          let j = earlier f (in_more list i here m) in
          (omega (arith, at, row t j), ap (λ (x : ℕ). get_or list x 0) at ∙ back t j)
