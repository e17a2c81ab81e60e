-- `replay::turns::call` meets its contract, kind by kind.
use mathlib.Core.Path.{◌≡◌, ap, ◌∙◌}
use Rattle.dstree.specs.Measures.{Measures, measures}
use Rattle.dstree.specs.Book.{opening}
use Rattle.tables.specs.Tables.{Tables, labelled_tables}
use Rattle.calls.specs.Effects.{outcome_on}
use Rattle.replay.specs.Script.{ask_of, own_number, kind_by, Taken, taken, opening_calls, adding_calls, matching_calls, writing_calls, reading_calls}
use Rattle.replay.proofs.OfKind.{replies, opens_it, adds_it, matches_it, writes_it, reads_it}
use Rattle.replay.proofs.turns.call.Goals as goal

pub returns-in-Opening : goal.returns-in-Opening
unfolding kind_by ask_of
returns-in-Opening c =
    let a = c.args in
    let row = a.row.now in
    let x : Taken = taken a.query.now a.trail.now a.sheet.now in
    let t : Tables = labelled_tables a.control.now a.samples.now a.nodes.now a.links.now a.work.now a.labels.now in
    let asked : measures c.number_at-n.result c.number_at-capacity.result c.number_at-leaf_size.result
    ≡ measures (own_number row 0) (own_number row 1) (own_number row 2) = cc in
    let does = c.«open».ensures ∙ ap (λ (m : Measures). outcome_on (opening m) t) asked in
    rw c.in-Opening.is (opens_it row x t _ _ (replies (opening_calls.ask row x) t c.of_done.ensures.opened does))

pub returns-in-Adding : goal.returns-in-Adding
unfolding kind_by ask_of
returns-in-Adding c =
    let a = c.args in
    let row = a.row.now in
    let x : Taken = taken a.query.now a.trail.now a.sheet.now in
    let t : Tables = labelled_tables a.control.now a.samples.now a.nodes.now a.links.now a.work.now a.labels.now in
    rw c.in-Adding.is (adds_it row x t _ _ (replies (adding_calls.ask row x) t c.of_number.ensures.added c.add.ensures))

pub returns-in-Matching : goal.returns-in-Matching
unfolding kind_by ask_of
returns-in-Matching c =
    let a = c.args in
    let row = a.row.now in
    let x : Taken = taken a.query.now a.trail.now a.sheet.now in
    let t : Tables = labelled_tables a.control.now a.samples.now a.nodes.now a.links.now a.work.now a.labels.now in
    let trail = c.nearest.new.trail in
    rw c.in-Matching.is (matches_it row x t _ _ trail (replies (matching_calls.ask row x) t (c.of_found.ensures trail) c.nearest.ensures))

pub returns-in-Writing : goal.returns-in-Writing
unfolding kind_by ask_of
returns-in-Writing c =
    let a = c.args in
    let row = a.row.now in
    let x : Taken = taken a.query.now a.trail.now a.sheet.now in
    let t : Tables = labelled_tables a.control.now a.samples.now a.nodes.now a.links.now a.work.now a.labels.now in
    let sheet = c.write_sheet.new.sheet in
    rw c.in-Writing.is (writes_it row x t _ _ sheet (replies (writing_calls.ask row x) t (c.of_number-in-Writing.ensures.written sheet) c.write_sheet.ensures))

pub returns-in-Reading : goal.returns-in-Reading
unfolding kind_by ask_of
returns-in-Reading c =
    let a = c.args in
    let row = a.row.now in
    let x : Taken = taken a.query.now a.trail.now a.sheet.now in
    let t : Tables = labelled_tables a.control.now a.samples.now a.nodes.now a.links.now a.work.now a.labels.now in
    rw c.in-Reading.is (reads_it row x t _ _ (replies (reading_calls.ask row x) t c.of_done-in-Reading.ensures.read c.read_sheet.ensures))
