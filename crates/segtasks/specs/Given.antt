-- The words that std gives the program.
use Rattle.std.specs.Prelude.{◌≡◌, drop, Result, Ok, Err}
use Rattle.std.specs.IoError.{error_kind}
use Rattle.std.specs.Vec.Iter.{into_iter_items}
use Rattle.std.specs.declared.alloc.Global.{Global}
use Rattle.std.specs.declared.io.Error.{Error}
use Rattle.std.specs.declared.io.ErrorKind.{ErrorKind}
use Rattle.std.specs.declared.io.ErrorKind.TheVariants as kind
use Rattle.std.specs.declared.string.String.{String}
use Rattle.std.specs.declared.vec.IntoIter.{IntoIter}
use Rattle.std.specs.declared.vec.Vec.{Vec}
use Rattle.segtasks.specs.declared.arguments.Refusal.{Refusal}
use Rattle.segtasks.specs.declared.arguments.Refusal.TheVariants as refusal

-- why no command is read if std gives no words: it is out of memory, or they are bad arguments
abbrev pub refusal_of_words : ErrorKind → Refusal
refusal_of_words kind.OutOfMemory = refusal.OutOfMemory
refusal_of_words _ = refusal.BadArguments

-- The words are those behind the first, which is the program's name.
-- There may be no memory for their list, or std gives none.
abbrev pub AreGiven : Result (IntoIter (String Global) Global) Error
    → Result (Vec (String Global) Global) Refusal → Type 0
AreGiven (Ok given) (Ok words) = words.items ≡ drop 1 (into_iter_items given)
AreGiven (Ok given) (Err why) = why ≡ refusal.OutOfMemory
AreGiven (Err error) (Ok words) = ⊥
AreGiven (Err error) (Err why) = why ≡ refusal_of_words (error_kind error)
