-- An index and its passes as a script sees them.
use Rattle.std.specs.Prelude.{◌≡◌, ◌≢◌, ◌<◌, ℕ, List, length, Some, None, slice_get}
use Rattle.segmodel.specs.Words.{Outcome, State}
use Rattle.segbase.specs.Words.{holding, locked_of, Pass}
use Rattle.segindex.specs.Words.{board_of, shape_of}
use Rattle.segscript.specs.Spelling.{PassTurn}
use Rattle.segscript.specs.Script.{Steps}
use Rattle.segscript.specs.declared.server.Server.{Server}
use Rattle.segscript.specs.Passes.{AreInOrder, first_state, OneTakes, SeesAllOf}

-- Between turns the server has all its passes, each idle and at its place.
-- The pass that took the last turn has seen all that any of them has.
pub record IsReady (server : Server) : Type 0 where
  pub all : length server.passes.items ≡ (shape_of server.index.now).passes
  pub holds : length server.holds.items ≡ (shape_of server.index.now).passes
  pub in_order : AreInOrder (board_of server.index.now) server.passes.items server.holds.items
  pub within : server.last < (shape_of server.index.now).passes
  pub ahead : (first : Pass)
      → slice_get server.passes.items server.last ≡ Some first
      → SeesAllOf server.passes.items first

-- the state of the model that the server's first pass is at
abbrev pub state : Server → State
state server = first_state (shape_of server.index.now) server.passes.items

-- One pass took the turn. The others did nothing, and their holds are as they were.
-- If there is one pass, the turn was served as the model says.
pub record TurnsOne (old : Server) (said : PassTurn) (outcome : Outcome) (new : Server)
    : Type 0 where
  pub index : new.index.now ≡ old.index.now
  pub one : OneTakes (board_of old.index.now) old.passes.items said outcome new.passes.items
  pub holds : (other : ℕ)
      → other ≢ said.0
      → slice_get new.holds.items other ≡ slice_get old.holds.items other
  pub served : Steps (shape_of old.index.now) (state old) said outcome (state new)

-- No pass holds an item or has a bucket locked.
abbrev pub NoneKeeps : List Pass → Type 0
NoneKeeps passes =
    (n : ℕ) (p : Pass) → slice_get passes n ≡ Some p → (holding p ≡ None) × (locked_of p ≡ None)
