-- Worked examples: which fault has a board that couldn't be made.
use Rattle.segword.specs.Words.{IsFirstFault, IsValid, Shape}
use Rattle.segword.specs.declared.shape.ShapeFault.{ShapeFault}
use Rattle.segbase.specs.declared.fault.MakeFault.TheVariants as fault
use Rattle.segbase.specs.Made.{IsMakeFault}

-- a fault of the shape is the shape's first
faulty_shape : (shape : Shape) (first : ShapeFault) → IsMakeFault shape (fault.Shape first) → IsFirstFault shape first
faulty_shape shape first is = is

-- memory is lacking for a valid shape only
valid_shape : (shape : Shape) → IsMakeFault shape fault.OutOfMemory → IsValid shape
valid_shape shape is = is
