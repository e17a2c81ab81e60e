-- Document 02, §10, of calls that follow their definitions: what is claimed of any report, of every memory that the check would accept,
-- whatever made its tables, by the laws of exact trees; and what holds of a report on any tables.
use mathlib.Core.Path.{◌≡◌, refl, sym, ap, subst, ◌∙◌}
use mathlib.Core.Option.{Option}
use mathlib.Core.List.{[], ◌∷◌}
use lib.ListN.{length}
use Rattle.dstree.specs.Measures.{Trace, sample_limit}
use Rattle.dstree.specs.Bands.{band_report}
use Rattle.dstree.specs.Refusals.{Refusal, first_of}
use Rattle.dstree.specs.Book.{Call, call, banding, beside_of, banded, Reply, Book, a_banding}
use Rattle.dstree.proofs.Bands.{bands_of_exact, report_anywhere}
use Rattle.tables.specs.Tables.{Tables}
use Rattle.tables.specs.View.{tree_in}
use Rattle.tables.specs.Beginning.{first_places}
use Rattle.calls.specs.Trusted.{Trusts}
use Rattle.calls.specs.Effects.{bands, effect_of}
use Rattle.calls.specs.Demands.{trail_found, ReportedIn, ReportsAnywhere, ReadsNoTraces, OfAnyBands}
use Rattle.calls.proofs.Trusted.{exact_tree}
use Rattle.calls.proofs.Steps.{reply_is}
use Rattle.calls.proofs.OneCall.{one_call}
use Rattle.calls.proofs.OffTrail.{answered, off_trail}
use Rattle.calls.proofs.Queries.{Judges, search_gives, gives_there}

-- ---- any memory that the check would accept

module _ {memory : Tables} {b : Book} (k : Trusts memory b) (judges : Call → Option Refusal) (fine : Judges judges memory)
    (query : Trace) (size : length query ≡ b.measures.n) where
  pub of_any_bands : OfAnyBands judges b.traces (tree_in memory) query memory
  unfolding trail_found
  of_any_bands = record {
    report_gives = λ edges lent list. search_gives k judges fine (a_banding query edges list) lent;
    report_is = report_anywhere (tree_in memory) query;
    bands_are = bands_of_exact sample_limit b.measures b.traces (tree_in memory) (exact_tree k) query size;
    others_do_not_bear = λ edges other differ lent list. gives_there k judges fine (a_banding query edges list) [] refl other differ lent;
  }

-- ---- any tables: what is answered is what the records say

pub reports_anywhere : ReportsAnywhere
unfolding effect_of beside_of
reports_anywhere lent query edges list memory memory' said f report answers =
    let t = first_places lent memory in
    let e = bands t query edges list in
    let known = answered (first_of e.conditions) t (list ∷ []) e (banded report)
    (sym (ap (λ (r : Reply). r.answer) (reply_is f)) ∙ answers) in
    let is : band_report (tree_in t) query edges ≡ report = cc in (
      subst (ReportedIn query edges t) is (record { by_records = refl; report_is = report_anywhere (tree_in t) query edges }),
      ((one_call _ memory memory' said f).works known.0).1,
    )

-- "reads no traces": its trail has no leaf
pub reads_no_traces : ReadsNoTraces
unfolding trail_found
reads_no_traces lent query edges list these these' said f report answers other other' also differ g =
    off_trail (call lent (banding query edges list)) these these' said f (banded report) [] answers refl other other' also differ g
