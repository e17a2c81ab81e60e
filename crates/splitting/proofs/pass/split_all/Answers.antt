-- `splitting::pass::split_all` meets its contract: the joined leaf is tried, nodes and links stand for a tree then (`Kept`), and the pass
-- goes over what is new.
use mathlib.Core.Path.{◌≡◌, sym, ap₂, ◌∙◌}
use Prim.Native.Nat.{ℕ, ◌*◌}
use lib.ListN.{length}
use Rattle.tables.specs.Walk.{stored_in}
use Rattle.insertion_memory.specs.Memory.{TreeTables, split_on, split_all_of}
use Rattle.tables.proofs.Listed.{stored_size}
use Rattle.splitting.proofs.Kept.{tries, represents_on}
use Rattle.splitting.proofs.pass.split_all.Goals as goal

pub split_at-more-requires : goal.split_at-more-requires
split_at-more-requires c = tries c.requires.0 c.args.at c.requires.1

pub split_pass-requires : goal.split_pass-requires
split_pass-requires c =
    let s = c.split_at-more in
    represents_on c.requires.0 c.args.at c.requires.1 c.args.leaf_size s.new.nodes s.new.links s.result s.ensures

pub returns : goal.returns
unfolding split_all_of
returns c =
    let g = c.args in
    let t = stored_in g.samples.now g.n g.k in
    let size : g.k ≡ length t = sym (stored_size g.samples.now g.n g.k) in
    c.split_pass.ensures
    ∙ ap₂ (λ (f : ℕ) (h : TreeTables). split_on (2 * f) g.leaf_size t h g.count) size c.split_at-more.ensures
