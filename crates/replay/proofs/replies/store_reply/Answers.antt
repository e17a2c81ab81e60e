-- `replay::replies::store_reply` meets its contract: by whether there is such a row.
use Prim.Native.Nat.{ℕ, ◌*◌, ◌/◌}
use mathlib.Core.Path.{◌≡◌, refl, ap, ◌∙◌}
use lib.ListN.{length}
use lib.Seq.{paste}
use borrow.Author.Rules.{rules}
use borrow.Author.Tests.{lt-ltb, le-ltb}
use Rattle.replay.specs.ReplyRows.{reply_places, with_row}
use Rattle.replay.proofs.replies.store_reply.Goals as goal

pub returns-then-k-replies : goal.returns-then-k-replies
unfolding with_row
returns-then-k-replies c =
    let a = c.args in
    let five : length a.numbers ≡ 5 = search rules in
    rw (lt-ltb a.k (length a.replies.now / reply_places) c.if-k-replies.true)
    (c.lay.ensures ∙ ap (λ (n : ℕ). paste a.replies.now (a.k * reply_places) a.numbers n) five)

pub returns-else-k-replies : goal.returns-else-k-replies
unfolding with_row
returns-else-k-replies c =
    let a = c.args in
    rw (le-ltb a.k (length a.replies.now / reply_places) c.if-k-replies.false) refl
