-- Document 02, §13, of calls that follow their definitions: what is claimed of any clipped sweep. It goes by the stored traces alone, so
-- that it holds on any tables; of a memory that the check would accept these are its book's.
use Prim.Native.Nat.{ℕ, ◌<◌}
use mathlib.Core.Path.{◌≡◌, refl, sym, ap, subst, ◌∙◌}
use mathlib.Core.Bool.{false, not}
use mathlib.Core.Option.{Option}
use mathlib.Core.List.{List, [], ◌∷◌}
use native.Mathlib.Nat.{pos_of_ne-zero}
use lib.ListN.{length, get_or}
use lib.Dec.{T, eqb}
use borrow.Author.Tests.{not-false, eqb-true, eqb-false}
use Rattle.integer.specs.Words.{every}
use Rattle.integer.proofs.Lists.{from_every, in_get_or}
use Rattle.segment.specs.Clipped.{is_crossed}
use Rattle.dstree.specs.Measures.{Trace, sample_limit, is_trace, are_samples}
use Rattle.dstree.specs.Clipped.{possible_matches}
use Rattle.dstree.specs.Refusals.{Refusal, first_of, wrong_trace, sample_range, empty, crossed_range}
use Rattle.dstree.specs.Book.{Call, beside_of, possible, Reply, Book, a_clipped}
use Rattle.dstree.proofs.Conditions.{none_first, none_both}
use Rattle.dstree.proofs.Limits.{trace_length}
use Rattle.dstree.proofs.Clipped.{listed_anywhere, possible_of_sizes}
use Rattle.tables.specs.Tables.{Tables, measures_of, trace_count}
use Rattle.tables.specs.View.{traces_in}
use Rattle.tables.specs.Beginning.{first_places}
use Rattle.tables.specs.Answers.{made_conditions}
use Rattle.tables.proofs.Views.{traces_size, tree_formed}
use Rattle.tables.proofs.Judged.{accepted}
use Rattle.tables.proofs.Samples.{stored_are}
use Rattle.calls.specs.Trusted.{Trusts}
use Rattle.calls.specs.Effects.{clips, effect_of}
use Rattle.calls.specs.Demands.{PossibleIn, ClippedAnywhere, OfAnyClipped}
use Rattle.calls.proofs.Trusted.{each_is}
use Rattle.calls.proofs.Steps.{reply_is}
use Rattle.calls.proofs.OneCall.{one_call}
use Rattle.calls.proofs.OffTrail.{answered}
use Rattle.calls.proofs.Queries.{Judges, search_gives}

-- stored traces have n samples
sizes : (n : ℕ) (stored : List Trace) → T (every (is_trace sample_limit n) stored) → (t : ℕ) → t < length stored → length (get_or stored t []) ≡ n
sizes n stored each t h = trace_length sample_limit n (get_or stored t []) (from_every (is_trace sample_limit n) stored each (in_get_or stored t [] h))

-- ---- any memory that the check would accept

module _ {memory : Tables} {b : Book} (k : Trusts memory b) (judges : Call → Option Refusal) (fine : Judges judges memory)
    (lows highs : Trace) (low_size : length lows ≡ b.measures.n) (high_size : length highs ≡ b.measures.n)
    (uncrossed : is_crossed lows highs ≡ false) where
  pub of_any_clipped : OfAnyClipped judges b.traces lows highs memory
  of_any_clipped = record {
    clipped_gives = λ lent list. search_gives k judges fine (a_clipped lows highs list) lent;
    listed_is = listed_anywhere b.traces lows highs;
    possible_is = possible_of_sizes b.measures.n b.traces (sizes b.measures.n b.traces (each_is k)) lows highs low_size high_size
        uncrossed;
  }

-- ---- any tables

pub clipped_anywhere : ClippedAnywhere
unfolding effect_of beside_of
clipped_anywhere lent lows highs list memory memory' said f m answers =
    let t = first_places lent memory in
    let n = (measures_of t).n in
    let e = clips t lows highs list in
    let known = answered (first_of e.conditions) t (list ∷ []) e (possible m)
    (sym (ap (λ (r : Reply). r.answer) (reply_is f)) ∙ answers) in
    let parts = none_both (made_conditions t) _ known.0 in
    let ok = accepted t parts.0 in
    let one = none_first (not (eqb (length lows) n)) wrong_trace _ parts.1 in
    let two = none_first (not (eqb (length highs) n)) wrong_trace _ one.1 in
    let three = none_first (not (are_samples lows)) sample_range _ two.1 in
    let four = none_first (not (are_samples highs)) sample_range _ three.1 in
    let five = none_first (is_crossed lows highs) crossed_range _ four.1 in
    let six = none_first (eqb (trace_count t) 0) empty _ five.1 in
    let some_trace : 0 < length (traces_in t) =
    subst (λ (j : ℕ). 0 < j) (sym (traces_size t)) (pos_of_ne-zero (eqb-false (trace_count t) 0 six.0)) in
    let each = stored_are t ok.room.long (tree_formed t ok.formed).room in
    let claims = possible_of_sizes n (traces_in t) (sizes n (traces_in t) each) lows highs
    (eqb-true (length lows) n (not-false _ one.0)) (eqb-true (length highs) n (not-false _ two.0)) five.0 in
    let is : possible_matches (traces_in t) lows highs ≡ m = cc in (
      subst (PossibleIn lows highs t) is
          (record {
            by_distances = refl;
            listed_is = listed_anywhere (traces_in t) lows highs;
            possible_is = claims;
            one_listed = claims.one_listed some_trace;
          }),
      ((one_call _ memory memory' said f).works known.0).1,
    )
