-- That a pass is alone has at most one proof.
-- So a struct may keep it in a ghost field, by { IsAlone-prop .. }.
use Rattle.std.proofs.Props.{props}
use Rattle.segbase.specs.Words.{Board, Pass}
use Rattle.segstore.specs.Words.{IsQuiet-prop}
use Rattle.segsolo.specs.Alone.{IsAlone}

pub IsAlone-prop : (b : Board) (p : Pass) → IsProp (IsAlone b p)
IsAlone-prop b p = hlevel (props, IsQuiet-prop)
