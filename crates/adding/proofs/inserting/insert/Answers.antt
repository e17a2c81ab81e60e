-- `adding::inserting::insert` meets its contract: with no node yet the trace makes leaf 0, else it joins a leaf.
use mathlib.Core.Path.{◌≡◌, refl, sym, ap, ap₂, ◌∙◌}
use mathlib.Core.List.{List, [], ◌∷◌}
use Prim.Native.Nat.{ℕ, zero, suc, ◌<◌}
use native.Mathlib.Omega.{arith}
use lib.IntN.{ℤ}
use Rattle.segment.specs.Stored.{samples_of}
use Rattle.dstree.specs.Adding.{segments_of}
use Rattle.tables.specs.Tables.{tables, measures_of, node_count, with_record}
use Rattle.tables.specs.View.{tree_in, traces_in}
use Rattle.tables.proofs.Views.{tree_size}
use Rattle.insertion_memory.specs.Records.{leaf_record}
use Rattle.insertion_memory.specs.Memory.{tree_tables, first_tables, tree_tables_in}
use Rattle.insertion_memory.proofs.FromTables.{space}
use Rattle.insertion_memory.proofs.Meaning.{inserted_first}
use Rattle.adding.proofs.Sized.{words_size}
use Rattle.adding.proofs.inserting.insert.Goals as goal

some_of : (m : ℕ) → (m ≡ 0 → ⊥) → 0 < m
some_of zero f = absurd (f refl)
some_of (suc m) f = omega arith

pub first_leaf-requires : goal.first_leaf-requires
first_leaf-requires c =
    let t = tables c.args.control.now c.args.samples.now c.args.nodes.now c.args.links.now [] in
    let p = c.requires.0 in
    let room = space t p.formed p.long in
    (omega (arith, room.nodes_room, p.less), omega (arith, room.links_room, p.less), omega (arith, room.narrow, words_size c.args.trace.now p))

pub returns-then-field-eq0 : goal.returns-then-field-eq0
unfolding first_tables
returns-then-field-eq0 c =
    let t = tables c.args.control.now c.args.samples.now c.args.nodes.now c.args.links.now [] in
    let x = samples_of c.args.trace.now in
    let made : c.first_leaf.new.nodes ≡ with_record t.nodes 0 (leaf_record (segments_of ((measures_of t).n ∷ []) (x ∷ [])) 0) =
    c.first_leaf.ensures.nodes_after ∙ ap (λ (m : ℕ). with_record t.nodes 0 (leaf_record (segments_of (m ∷ []) (x ∷ [])) 0)) (words_size c.args.trace.now c.requires.0) in
    let none_yet : node_count t ≡ 0 = sym c.field.ensures ∙ c.if-field-eq0.true in
    ap₂ (λ (u : List ℤ) (v : List ℕ). tree_tables u v 1) made c.first_leaf.ensures.linked
    ∙ sym (inserted_first (measures_of t) (traces_in t) (tree_in t) x (tree_tables_in t) (tree_size t ∙ none_yet))

pub insert_more-requires : goal.insert_more-requires
insert_more-requires c =
    let t = tables c.args.control.now c.args.samples.now c.args.nodes.now c.args.links.now [] in
    (c.requires.0, c.requires.1, some_of (node_count t) (λ z. c.if-field-eq0.false (c.field.ensures ∙ z)))

pub returns : goal.returns
returns c = c.insert_more.ensures
