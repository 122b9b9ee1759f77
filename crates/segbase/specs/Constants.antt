-- What a table's rule fixes.
use Rattle.segword.specs.Words.{Limits, Shape}
use Rattle.segbase.specs.declared.law.Constants.{Constants}

abbrev pub constants : Shape → Limits → Constants
constants shape limits = record { shape = shape; limits = limits }
