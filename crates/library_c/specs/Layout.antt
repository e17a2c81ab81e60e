-- The version of the tables' layout (docs/LAYOUT.md). It changes with the layout, or with the tree that adding makes.
use Rattle.std.specs.Prelude.{ℕ}

abbrev pub layout_version : ℕ
layout_version = 4
