-- `exporting::export_recording` meets its contract: what the judge found says which way the call ends, and what refuses nothing has the
-- trace, and room for its recording.
use Prim.Native.Nat.{ℕ, ◌+◌, ◌*◌}
use mathlib.Core.Path.{◌≡◌, sym, ap, ◌∙◌}
use native.Mathlib.Omega.{arith}
use lib.ListN.{length}
use Rattle.segment.specs.Stored.{samples_of}
use Rattle.dstree.specs.Measures.{Trace}
use Rattle.dstree.specs.Recording.{recording_size, recording_of}
use Rattle.dstree.specs.Book.{over}
use Rattle.tables.specs.Tables.{measures_of, labelled_tables}
use Rattle.tables.specs.View.{trace_in}
use Rattle.tables.specs.Answers.{found_by}
use Rattle.tables.proofs.Parts.{words_length}
use Rattle.tables.proofs.Passed.{passed}
use Rattle.exporting.proofs.Exportable.{exportable}
use Rattle.exporting.proofs.Ends.{refused_answer, exported_answer}
use Rattle.exporting.proofs.export_recording.Goals as goal

pub trace_at-trace-requires : goal.trace_at-trace-requires
unfolding found_by
trace_at-trace-requires c =
    let a = c.args in
    let t = labelled_tables a.control.now a.samples.now a.nodes.now a.links.now a.work.now a.labels.now in
    rw (c.wide-n.ensures ∙ c.field.ensures) (exportable t a.number a.rate a.buffer.now (sym c.in_ok-judge.ensures)).inside

pub write_recording-requires : goal.write_recording-requires
unfolding found_by
write_recording-requires c =
    let a = c.args in
    let t = labelled_tables a.control.now a.samples.now a.nodes.now a.links.now a.work.now a.labels.now in
    let n = (measures_of t).n in
    let ok = exportable t a.number a.rate a.buffer.now (sym c.in_ok-judge.ensures) in
    let trace_is : samples_of c.trace_at-trace.result.now ≡ trace_in a.samples.now n a.number =
    c.trace_at-trace.ensures ∙ ap (λ (k : ℕ). trace_in a.samples.now k a.number) (c.wide-n.ensures ∙ c.field.ensures) in
    let size_is : length c.trace_at-trace.result.now ≡ n = words_length a.samples.now c.trace_at-trace.result.now n a.number trace_is ok.inside in
    (ok.low, omega (arith, ok.few, size_is), omega (arith, ok.long, size_is))

pub returns-in_err-judge : goal.returns-in_err-judge
returns-in_err-judge c =
    let a = c.args in
    let t = labelled_tables a.control.now a.samples.now a.nodes.now a.links.now a.work.now a.labels.now in
    rw (passed c.from_residual.result _ c.from_residual.ensures.1) (refused_answer t a.number a.rate a.buffer.now _ (sym c.in_err-judge.ensures))

pub returns : goal.returns
unfolding found_by
returns c =
    let a = c.args in
    let t = labelled_tables a.control.now a.samples.now a.nodes.now a.links.now a.work.now a.labels.now in
    let n_is = c.wide-n.ensures ∙ c.field.ensures in
    let trace_is = c.trace_at-trace.ensures ∙ ap (λ (k : ℕ). trace_in a.samples.now k a.number) n_is in
    exported_answer t a.number a.rate a.buffer.now (sym c.in_ok-judge.ensures) c.write_recording.new.buffer (44 + 2 * c.wide-n.result)
    (ap recording_size n_is)
    (c.write_recording.ensures ∙ ap (λ (x : Trace). over (recording_of a.rate x) a.buffer.now) trace_is)
