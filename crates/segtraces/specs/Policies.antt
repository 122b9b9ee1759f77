-- The policies that words name.
use Rattle.std.specs.Prelude.{ℕ, List, take, drop, Option, Some, None, if◌then◌else◌, nat_lt, codes}
use Rattle.std.specs.Str.{bytes_eq}
use Rattle.segtraces.specs.declared.retention.Retention.{Retention}
use Rattle.segtraces.specs.declared.retention.Retention.TheVariants as policy
use Rattle.segtraces.specs.Words.{number_named}

-- a frequency has eight bits
abbrev pub cutoff_of : Option ℕ → Option Retention
cutoff_of None = None
cutoff_of (Some least) = if nat_lt least 256 then Some (policy.Cutoff least) else None

abbrev pub policy_named : List ℕ → Option Retention
policy_named word =
    if bytes_eq word (codes "default") then Some policy.Default
    else (if bytes_eq word (codes "nothing") then Some policy.Nothing
    else (if bytes_eq (take 7 word) (codes "cutoff:") then cutoff_of (number_named (drop 7 word))
    else None))
