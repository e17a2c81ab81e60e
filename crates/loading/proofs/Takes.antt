-- Tables that refuse nothing of some traces refuse nothing of the next one, once the first ones are added.
use Prim.Native.Nat.{ℕ, suc, ◌<◌}
use mathlib.Core.Path.{◌≡◌, sym, ap, ◌∙◌, subst}
use mathlib.Core.List.{List, [], ◌∷◌, ◌++◌, foldl}
use native.Mathlib.Omega.{arith}
use lib.IntN.{ℤ}
use lib.ListN.{length, get_or, take, drop, take-append-drop}
use lib.Seq.{drop-cons}
use Rattle.dstree.specs.Measures.{Trace}
use Rattle.tables.specs.Tables.{Tables, tables}
use Rattle.insertion_memory.specs.Memory.{added_to}
use Rattle.insertion_memory.specs.Takes.{TakesAll}
use Rattle.insertion_memory.proofs.Keeps.{first_is, takes_rest}
use Rattle.adding.specs.Putting.{Takes}

first_taken : (t : Tables) (x : Trace) (more : List Trace) → TakesAll t (x ∷ more)
    → (control : List ℕ) (samples nodes : List ℤ) (links : List ℕ) → tables control samples nodes links [] ≡ t
    → Takes control samples nodes links x
first_taken t x more k control samples nodes links e =
    let k' : TakesAll (tables control samples nodes links []) (x ∷ more) = subst (λ (u : Tables). TakesAll u (x ∷ more)) (sym e) k in
    record { formed = k'.formed; long = k'.long; is_trace_lem = first_is k'; less = omega (arith, k'.room) }

pub takes_next : (t : Tables) (traces : List Trace) → TakesAll t traces → (i : ℕ) → i < length traces
    → (control : List ℕ) (samples nodes : List ℤ) (links : List ℕ)
    → tables control samples nodes links [] ≡ foldl added_to t (take i traces)
    → Takes control samples nodes links (get_or traces i [])
takes_next t traces k i inside =
    let parts : take i traces ++ get_or traces i [] ∷ drop (suc i) traces ≡ traces =
    ap (λ (l : List Trace). take i traces ++ l) (sym (drop-cons traces i [] inside)) ∙ take-append-drop i traces in
    first_taken (foldl added_to t (take i traces)) (get_or traces i []) (drop (suc i) traces)
    (takes_rest t (take i traces) (get_or traces i [] ∷ drop (suc i) traces) (subst (TakesAll t) (sym parts) k))
