-- A heap that lies where it lay.
use Rattle.std.specs.Prelude.{◌≡◌, length}
use Rattle.heap.specs.declared.Heap.{Heap}

-- in the same lent places, and as many
pub record SameRoom (h h' : Heap) : Type 0 where
  pub same : h'.keys.ghost_name ≡ h.keys.ghost_name
  pub long : length h'.keys.now ≡ length h.keys.now
