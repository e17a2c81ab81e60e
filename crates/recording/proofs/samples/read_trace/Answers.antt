-- `recording::samples::read_trace` meets its contract: a trace's bytes are copied.
use Prim.Native.Nat.{ℕ, ◌+◌, ◌*◌, ◌-◌}
use mathlib.Core.Path.{◌≡◌, sym, ap, ◌∙◌}
use native.Mathlib.Omega.{arith}
use lib.ListN.{length, take, drop}
use borrow.Rule.Slice.PartMut.{mid_len}
use Rattle.integer.proofs.Tests.{clash}
use Rattle.dstree.specs.Sheet.{narrow}
use Rattle.sheet.specs.Codes.{samples_in}
use Rattle.recording.proofs.HoldsTrace.{first_byte, inside, trace_is}
use Rattle.recording.proofs.samples.read_trace.Goals as goal

pub overflow_mul-from : goal.overflow_mul-from
overflow_mul-from c = omega (arith, inside (length c.args.trace.now) c.args.bytes.now c.args.number c.requires)

pub overflow_mul-from-2 : goal.overflow_mul-from-2
overflow_mul-from-2 c = omega (arith, inside (length c.args.trace.now) c.args.bytes.now c.args.number c.requires)

pub overflow_add-from : goal.overflow_add-from
overflow_add-from c = omega (arith, inside (length c.args.trace.now) c.args.bytes.now c.args.number c.requires)

pub overflow_mul-n : goal.overflow_mul-n
overflow_mul-n c = omega (arith, inside (length c.args.trace.now) c.args.bytes.now c.args.number c.requires)

pub overflow_add-from-2 : goal.overflow_add-from-2
overflow_add-from-2 c = omega (arith, inside (length c.args.trace.now) c.args.bytes.now c.args.number c.requires)

pub slice_bounds-copy_samples-start : goal.slice_bounds-copy_samples-start
slice_bounds-copy_samples-start c = omega (arith, inside (length c.args.trace.now) c.args.bytes.now c.args.number c.requires)

pub slice_bounds-copy_samples-end : goal.slice_bounds-copy_samples-end
slice_bounds-copy_samples-end c = omega (arith, inside (length c.args.trace.now) c.args.bytes.now c.args.number c.requires)

pub copy_samples-requires : goal.copy_samples-requires
copy_samples-requires c =
    let n = length c.args.trace.now in
    let bytes = c.args.bytes.now in
    let from = first_byte n bytes c.args.number c.requires in
    (omega (arith, mid_len from (from + 2 * n) bytes (inside n bytes c.args.number c.requires)), λ e. clash (sym e))

pub returns : goal.returns
returns c =
    let n = length c.args.trace.now in
    let bytes = c.args.bytes.now in
    let from = first_byte n bytes c.args.number c.requires in
    let e : from + 2 * n - from ≡ 2 * n = omega arith in
    c.copy_samples.ensures.back
    ∙ ap (λ (k : ℕ). samples_in narrow n (take k (drop from bytes))) e
    ∙ trace_is n bytes c.args.number c.requires
