-- `RowKind`'s `try_from` meets its contract, number by number.
use native.Mathlib.Omega.{arith}
use Rattle.replay.specs.Script.{call_kind_at, kind_by, kind_found}
use Rattle.replay.proofs.OfKind.{no_kind}
use Rattle.replay.proofs.kinds.RowKindTryFromU64.try_from.Goals as goal

pub returns-in-0 : goal.returns-in-0
unfolding kind_found kind_by call_kind_at
returns-in-0 c = rw c.in-0.is

pub returns-in-1 : goal.returns-in-1
unfolding kind_found kind_by call_kind_at
returns-in-1 c = rw c.in-1.is

pub returns-in-2 : goal.returns-in-2
unfolding kind_found kind_by call_kind_at
returns-in-2 c = rw c.in-2.is

pub returns-in-3 : goal.returns-in-3
unfolding kind_found kind_by call_kind_at
returns-in-3 c = rw c.in-3.is

pub returns-in-4 : goal.returns-in-4
unfolding kind_found kind_by call_kind_at
returns-in-4 c = rw c.in-4.is

pub returns-in_default : goal.returns-in_default
unfolding kind_found
returns-in_default c = no_kind c.args.number (omega arith)
