-- What holds after the calls that a script made.
use Rattle.std.specs.Prelude.{◌≡◌, List, [], ◌∷◌}
use Rattle.dstree.specs.Book.{Call, Reply, answering, done, start}
use Rattle.tables.specs.Layout.{layout}
use Rattle.tables.specs.Tables.{Tables}
use Rattle.calls.specs.Demands.{AfterList}

-- "An opening or a sheet reading has just succeeded when it starts": where the first call answered `done`, all that document 01 demands of
-- a list of calls holds of the calls behind it
unfoldable pub Demanded : List Call → List Reply → Tables → Type 0
Demanded [] said memory = Unit
Demanded (first ∷ calls) [] memory = ⊥
Demanded (first ∷ calls) (said₀ ∷ said) memory = said₀.answer ≡ answering done → AfterList (start layout first) calls said memory
