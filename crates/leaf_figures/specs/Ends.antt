-- A node's right ends, as code keeps them: by value, in an array of 16 places.
use Rattle.std.specs.Prelude.{ℕ, suc, ◌≤◌, ◌≡◌, List, [], ◌∷◌, length, take, ltb, if◌then◌else◌}
use Rattle.dstree.specs.Node.{most_segments}
use Rattle.leaf_figures.specs.declared.ends.Ends.{Ends}

-- the right ends
abbrev pub ends_of : Ends → List ℕ
ends_of e = take e.count e.at

-- an array of 16 places, and no more ends than places
pub record EndsRoom (e : Ends) : Type 0 where
  pub places : length e.at ≡ most_segments
  pub few : e.count ≤ most_segments

-- where a new right end goes: behind those that are not above it
unfoldable pub place_in : ℕ → List ℕ → ℕ
place_in new [] = 0
place_in new (end ∷ rest) = let later = suc (place_in new rest) in if ltb new end then 0 else later
