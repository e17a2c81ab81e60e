-- `sheet_writing::judging::any_label` meets its contract: each of the first labels is compared.
use mathlib.Core.Path.{◌∙◌}
use mathlib.Core.Bool.{not}
use Prim.Native.Nat.{ℕ, ◌%◌}
use lib.Dec.{eqb}
use lib.ListN.{take}
use borrow.Author.Rules.{rules}
use borrow.Author.Tests.{tests}
use Rattle.std.proofs.lemmas.Iterator.{YieldsList-from_slice}
use Rattle.std.proofs.lemmas.Iterator.Search.{any_from_yields_List}
use Rattle.sheet_writing.proofs.Zeros.{any_is}
use Rattle.sheet_writing.proofs.judging.any_label.Goals as goal

pub returns : goal.returns
returns c =
    let labels = take c.args.k c.args.labels.now in
    any_from_yields_List {all = labels} (λ (label : ℕ). not (eqb (label % 281474976710656) 0)) _ _ _ c.any.ensures.ran (YieldsList-from_slice _ cc)
    (λ x b q k. search (rules, tests))
    ∙ any_is labels
