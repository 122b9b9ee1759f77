-- The command that three drawn words make: the first gives the key, the second the kind, and the
-- third the value and the draw.
use Rattle.std.specs.Prelude.{ℕ, ◌%◌, ◌==◌, nat_lt, List, ◌++◌, codes, if◌then◌else◌}
use Rattle.std.specs.Fmt.{decimal}
use Rattle.segpolicy.specs.declared.load.Kind.{Kind}
use Rattle.segpolicy.specs.declared.load.Kind.TheVariants.{Get, Gets, Set, Add, Replace, Cas, Delete}
use Rattle.segpolicy.specs.declared.load.Load.{Load}

-- of eight commands four are get, and one each gets, set and delete; the eighth stores under a
-- condition, and which one goes by the third word
abbrev pub kind_of : ℕ → ℕ → Kind
kind_of second third =
    if nat_lt (second % 8) 4 then Get
    else if second % 8 == 4 then Gets
    else if second % 8 == 5 then Set
    else if second % 8 == 6 then
    (if third % 3 == 0 then Add else if third % 3 == 1 then Replace else Cas)
    else Delete

-- the key of a number: the letter k and the decimal digits
abbrev pub key_of_number : ℕ → List ℕ
key_of_number number = codes "k" ++ decimal number

-- the command of three words, over this many keys
abbrev pub load_of : ℕ → ℕ → ℕ → ℕ → Load
load_of keys first second third = record {
  kind = kind_of second third;
  key = key_of_number (first % keys);
  value = decimal third;
  draw = third;
}
