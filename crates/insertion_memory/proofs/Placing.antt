-- A record put into a table of b records: it stands there then, every other one of the b is as it was, and so is all that lies behind them.
use Prim.Native.Nat.{ℕ, suc, ◌+◌, ◌*◌, ◌-◌, ◌≤◌, ◌<◌}
use mathlib.Core.Path.{◌≡◌, ◌∙◌, ap}
use mathlib.Core.Logic.{◌≢◌}
use mathlib.Core.List.{List, ◌++◌}
use native.Mathlib.Nat.{mul-le-mul_right}
use native.Mathlib.Omega.{arith}
use lib.ListN.{length, take, drop}
use lib.Seq.{length-take-le, drop-append-add, drop-drop}
use lib.IntN.{ℤ}
use Rattle.tables.specs.Layout.{record_places}
use Rattle.tables.specs.Tables.{record_of, with_record}
use Rattle.tables.proofs.Frame.{record_same, record_other, with_length}

pub record RecordPlaced (b : ℕ) (nodes nodes' : List ℤ) (j : ℕ) (r : List ℤ) : Type 0 where
  pub here : record_of nodes' j ≡ r
  pub other : (i : ℕ) → i ≢ j → i < b → record_of nodes' i ≡ record_of nodes i
  pub size : length nodes' ≡ length nodes
  pub behind : drop (b * record_places) nodes' ≡ drop (b * record_places) nodes

-- a record of a table that holds b of them lies inside it
pub record_inside : (b j : ℕ) (nodes : List ℤ) → b * record_places ≤ length nodes → j < b → j * record_places + record_places ≤ length nodes
record_inside b j nodes room h = let g : suc j * record_places ≤ b * record_places = mul-le-mul_right record_places h in omega arith

module _ (b j : ℕ) (nodes r : List ℤ) (room : b * record_places ≤ length nodes) (h : j < b) (size : length r ≡ record_places) where
  fits : j * record_places + record_places ≤ length nodes
  fits = record_inside b j nodes room h

  with_behind : drop (b * record_places) (with_record nodes j r) ≡ drop (b * record_places) nodes
  unfolding with_record
  with_behind =
      let m : ℕ = b * record_places - (j * record_places + record_places) in
      let g : suc j * record_places ≤ b * record_places = mul-le-mul_right record_places h in
      let front : length (take (j * record_places) nodes) ≡ j * record_places = length-take-le (j * record_places) nodes (omega (arith, fits)) in
      let rest : List ℤ = drop (j * record_places + record_places) nodes in
      let at : b * record_places ≡ length (take (j * record_places) nodes) + (length r + m) = omega arith in
      let past : j * record_places + record_places + m ≡ b * record_places = omega arith in
      ap (λ (k : ℕ). drop k (take (j * record_places) nodes ++ (r ++ rest))) at
      ∙ drop-append-add (take (j * record_places) nodes) (r ++ rest) (length r + m)
      ∙ drop-append-add r rest m
      ∙ drop-drop m (j * record_places + record_places) nodes
      ∙ ap (λ (k : ℕ). drop k nodes) past

  pub placed : RecordPlaced b nodes (with_record nodes j r) j r
  placed = record {
    here = record_same nodes j r fits size;
    other = λ i d g. record_other nodes j r fits size i d (record_inside b i nodes room g);
    size = with_length nodes j r fits size;
    behind = with_behind;
  }
