-- A board that was just created, and its passes.
use Rattle.std.specs.Prelude.{◌≡◌, ℕ, ◌*◌, List, [], length, replicate, Some, None, false, slice_get}
use Rattle.segword.specs.Words.{IsFirstFault, IsValid, Limits, Shape}
use Rattle.segmodel.specs.declared.answer.SegState.TheVariants.{Empty}
use Rattle.segbase.specs.declared.fault.MakeFault.{MakeFault}
use Rattle.segbase.specs.declared.fault.MakeFault.TheVariants as fault
use Rattle.segbase.specs.declared.pass.OwnSegment.{OwnSegment}
use Rattle.segbase.specs.declared.pass.PlainPart.{PlainPart}
use Rattle.segbase.specs.declared.pass.Pass.{Pass}
use Rattle.segbase.specs.declared.board.Board.{Board}
use Rattle.segbase.specs.Passes.{number, trace, holding, locked, IsPassOf}
use Rattle.segbase.specs.PlainPart.{segments_of}

-- the fault is the first of the shape; out of memory comes only for a shape that an index may have
abbrev pub IsMakeFault : Shape → MakeFault → Type 0
IsMakeFault shape (fault.Shape f) = IsFirstFault shape f
IsMakeFault shape fault.OutOfMemory = IsValid shape

abbrev pub unfilled : OwnSegment
unfilled = record { state = Empty; used = 0; deadline = 0 }

pub record IsNewPlain (shape : Shape) (n : ℕ) (plain : PlainPart) : Type 0 where
  pub number : plain.number ≡ n
  pub first : plain.first ≡ n * shape.segments_each
  pub rows : plain.rows ≡ shape.rows
  pub segments : segments_of plain ≡ replicate shape.segments_each unfilled
  pub current : plain.current ≡ None
  pub locked : plain.locked ≡ None
  pub holding : plain.is_holding ≡ false

-- the pass of this number, which has seen nothing
pub record IsNewPass (b : Board) (n : ℕ) (p : Pass) : Type 0 where
  pub pass : IsPassOf b p
  pub number : number p ≡ n
  pub nothing : trace p ≡ []
  pub holding : holding p ≡ None
  pub locked : locked p ≡ None
  pub plain : IsNewPlain b.shape n p.plain

-- the first passes, in the order of their numbers
pub record IsDealt (b : Board) (count : ℕ) (passes : List Pass) : Type 0 where
  pub long : length passes ≡ count
  pub each : (n : ℕ) (p : Pass) → slice_get passes n ≡ Some p → IsNewPass b n p

-- a board that was created with this shape and these limits, with all its passes
pub record IsMade (shape : Shape) (limits : Limits) (b : Board) (all : List Pass) : Type 0 where
  pub valid : IsValid shape
  pub of : b.shape ≡ shape
  pub with_limits : b.limits ≡ limits
  pub dealt : IsDealt b shape.passes all
