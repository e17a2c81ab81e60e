-- `listing::judging::judge_own` meets its contract: k first, then query and trail, then the list's length.
use Rattle.dstree.specs.Measures.{Trace}
use Prim.Native.Nat.{ℕ, ◌*◌}
use mathlib.Core.Path.{◌≡◌, sym, ◌∙◌}
use mathlib.Core.Bool.{true}
use mathlib.Core.Option.{none}
use mathlib.Core.List.{List, [], ◌∷◌, ◌++◌}
use native.Mathlib.Omega.{arith}
use lib.ListN.{length}
use lib.Dec.{ltb}
use borrow.Author.Tests.{lt-ltb, le-ltb}
use Rattle.dstree.specs.KNearest.{is_k}
use Rattle.dstree.specs.Refusals as word
use Rattle.dstree.specs.Refusals.{Condition, ◌refuses◌, first_of}
use Rattle.dstree.proofs.Conditions.{first_some, first_none}
use Rattle.tables.specs.Tables.{Tables, tables}
use Rattle.tables.specs.Answers.{word_of, found_by}
use Rattle.tables.proofs.Passed.{passed}
use Rattle.calls.specs.Effects.{query_conditions_in, list_conditions_in}
use Rattle.listing.proofs.Range.{k_range}
use Rattle.listing.proofs.judging.judge_own.Goals as goal

-- with a k that is taken, query and trail decide, then the list's length
module _ (t : Tables) (query : Trace) (trail list : List ℕ) (k : ℕ) (good_k : is_k k ≡ true) where
  abbrev asked : List Condition
  asked = query_conditions_in t query trail

  abbrev room : List Condition
  room = ltb (length list) (2 * k) refuses word.short_trail ∷ []

  later : first_of (list_conditions_in t k query trail list) ≡ first_of (asked ++ room)
  unfolding first_of
  later = rw good_k

  -- .. the query being taken, that length alone
  only : first_of asked ≡ none → first_of (list_conditions_in t k query trail list) ≡ first_of room
  only e = later ∙ first_none asked room e

pub returns-then-not-is_k : goal.returns-then-not-is_k
unfolding found_by word_of first_of
returns-then-not-is_k c samples links work =
    rw (sym c.is_k.ensures ∙ c.if-not-is_k.true)

pub overflow_mul-k : goal.overflow_mul-k
overflow_mul-k c =
    omega (arith, (k_range c.args.k (sym c.is_k.ensures ∙ c.if-not-is_k.false)).1)

pub returns-then-list-k : goal.returns-then-list-k
unfolding found_by word_of first_of
returns-then-list-k c samples links work =
    let a = c.args in
    let t = tables a.control.now samples a.nodes.now links work in
    rw (
      only t a.query.now a.trail.now a.list.now a.k (sym c.is_k.ensures ∙ c.if-not-is_k.false)
          (sym (c.in_ok-judge_query.ensures samples links work)),
      lt-ltb (length a.list.now) (2 * a.k) (omega (arith, c.if-list-k.true)),
    )

pub returns-in_err-judge_query : goal.returns-in_err-judge_query
unfolding found_by
returns-in_err-judge_query c samples links work =
    let a = c.args in
    let t = tables a.control.now samples a.nodes.now links work in
    rw (passed c.from_residual.result _ c.from_residual.ensures.1) (sym (later t a.query.now a.trail.now a.list.now a.k (sym c.is_k.ensures ∙ c.if-not-is_k.false)
    ∙ first_some (asked t a.query.now a.trail.now a.list.now a.k (sym c.is_k.ensures ∙ c.if-not-is_k.false))
    (room t a.query.now a.trail.now a.list.now a.k (sym c.is_k.ensures ∙ c.if-not-is_k.false)) _
    (sym (c.in_err-judge_query.ensures samples links work))))

pub returns : goal.returns
unfolding found_by first_of
returns c samples links work =
    let a = c.args in
    let t = tables a.control.now samples a.nodes.now links work in
    rw (
      only t a.query.now a.trail.now a.list.now a.k (sym c.is_k.ensures ∙ c.if-not-is_k.false)
          (sym (c.in_ok-judge_query.ensures samples links work)),
      le-ltb (length a.list.now) (2 * a.k) (omega (arith, c.if-list-k.false)),
    )
