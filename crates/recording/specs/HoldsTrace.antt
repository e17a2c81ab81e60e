-- A trace that a sound file holds.
use Rattle.std.specs.Prelude.{ℕ, ◌<◌, List, length, T}
use Rattle.dstree.specs.Recording.{is_recording, recorded_traces}

-- a file for traces of n samples is no bad recording, and has a trace of this number
pub record HoldsTrace (n : ℕ) (bytes : List ℕ) (number : ℕ) : Type 0 where
  pub some_sample : 0 < n
  pub sound : T (is_recording n bytes)
  pub numbered : number < length (recorded_traces n bytes)
