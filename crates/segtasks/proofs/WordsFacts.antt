-- What words that are written out are read as.
use Rattle.std.proofs.Common.{◌≡◌, [], ◌∷◌, None, Ok, Err, true, false, inl, inr, refl, codes}
use Rattle.std.specs.declared.alloc.Global.{Global}
use Rattle.std.specs.declared.string.String.{String}
use Rattle.std.specs.Fmt.{digits}
use Rattle.std.specs.Int.NonZero.{non_zero_u32_get}
use Rattle.std.specs.declared.num.NonZeroU32.{NonZeroU32}
use Rattle.clap.specs.Faults.{fault_of}
use Rattle.clap.specs.declared.error.kind.ErrorKind.TheVariants as kind
use Rattle.clap.proofs.OnLiterals.{clap_on_literals}
use Rattle.segtasks.specs.CommandLine.{command_line, default_shape}
use Rattle.segtasks.specs.Asked.{IsReadAsCommand}
use Rattle.segtasks.specs.declared.asked.Format.TheVariants as format
use Rattle.segtasks.specs.declared.asked.LoadTask.{LoadTask}
use Rattle.segtasks.specs.declared.arguments.Refusal.TheVariants as refusal
use Rattle.segtasks.specs.declared.task.Task.TheVariants as command

-- the load that no option changes, over so many keys
load_alone : NonZeroU32 → LoadTask
load_alone keys = record {
  shape = default_shape;
  seed = 1;
  commands = 1000;
  keys = keys;
  format = format.Text;
  stats = false;
  progress = false;
  explain = false;
}

script_alone : IsReadAsCommand (codes "script" ∷ []) (Ok (command.Script default_shape false None))
unfolding command_line clap_on_literals digits
script_alone = (refl, (refl, (default_shape, refl, refl), refl, refl))

load_with_options : (keys : NonZeroU32) → non_zero_u32_get keys ≡ 64
    → IsReadAsCommand (codes "load" ∷ codes "--seed" ∷ codes "7" ∷ codes "--rows=4" ∷ [])
    (Ok (command.Load (record (load_alone keys) { shape = record default_shape { rows = 4 }; seed = 7 })))
unfolding command_line clap_on_literals digits load_alone
load_with_options keys is = (refl, (refl, record { shape = (default_shape, refl, refl); seed = refl; commands = refl; keys = is; format = refl; stats = refl; progress = refl; explain = refl }))

load_over_keys : (keys : NonZeroU32) → non_zero_u32_get keys ≡ 1000000 → IsReadAsCommand (codes "load" ∷ codes "--keys" ∷ codes "1000000" ∷ []) (Ok (command.Load (load_alone keys)))
unfolding command_line clap_on_literals digits load_alone
load_over_keys keys is = (refl, (refl, record { shape = (default_shape, refl, refl); seed = refl; commands = refl; keys = is; format = refl; stats = refl; progress = refl; explain = refl }))

load_told : (keys : NonZeroU32) → non_zero_u32_get keys ≡ 64
    → IsReadAsCommand (codes "load" ∷ codes "--progress" ∷ codes "--format=json" ∷ codes "--stats" ∷ [])
    (Ok (command.Load (record (load_alone keys) { format = format.Json; stats = true; progress = true })))
unfolding command_line clap_on_literals digits load_alone
load_told keys is = (refl, (refl, record { shape = (default_shape, refl, refl); seed = refl; commands = refl; keys = is; format = refl; stats = refl; progress = refl; explain = refl }))

load_in_no_format : (why : String Global) → IsReadAsCommand (codes "load" ∷ codes "--format" ∷ codes "xml" ∷ []) (Err (refusal.Usage why))
unfolding command_line clap_on_literals digits
load_in_no_format why = inr (refl, inl (refl, refl))

help_of_help : (text : String Global) → IsReadAsCommand (codes "help" ∷ codes "-h" ∷ []) (Ok (command.Show text))
unfolding command_line clap_on_literals digits
help_of_help text = refl

progress_twice : fault_of command_line (codes "load" ∷ codes "--progress" ∷ codes "--progress" ∷ []) ≡ kind.ArgumentConflict ∷ []
unfolding command_line clap_on_literals digits
progress_twice = refl

progress_of_a_script : fault_of command_line (codes "script" ∷ codes "--progress" ∷ []) ≡ kind.UnknownArgument ∷ []
unfolding command_line clap_on_literals digits
progress_of_a_script = refl

no_keys : fault_of command_line (codes "load" ∷ codes "--keys" ∷ codes "0" ∷ []) ≡ kind.ValueValidation ∷ []
unfolding command_line clap_on_literals digits
no_keys = refl

too_many_keys : fault_of command_line (codes "load" ∷ codes "--keys" ∷ codes "1000001" ∷ []) ≡ kind.ValueValidation ∷ []
unfolding command_line clap_on_literals digits
too_many_keys = refl

no_such_option : fault_of command_line (codes "load" ∷ codes "--row" ∷ codes "4" ∷ []) ≡ kind.UnknownArgument ∷ []
unfolding command_line clap_on_literals digits
no_such_option = refl

no_number : fault_of command_line (codes "script" ∷ codes "--rows" ∷ codes "4294967296" ∷ []) ≡ kind.ValueValidation ∷ []
unfolding command_line clap_on_literals digits
no_number = refl

given_twice : fault_of command_line (codes "script" ∷ codes "--rows=1" ∷ codes "--rows=1" ∷ []) ≡ kind.ArgumentConflict ∷ []
unfolding command_line clap_on_literals digits
given_twice = refl

no_digits : fault_of command_line (codes "word" ∷ []) ≡ kind.MissingRequiredArgument ∷ []
unfolding command_line clap_on_literals digits
no_digits = refl

help_of_load : fault_of command_line (codes "load" ∷ codes "-h" ∷ []) ≡ kind.DisplayHelp ∷ []
unfolding command_line clap_on_literals digits
help_of_load = refl

version : fault_of command_line (codes "--version" ∷ []) ≡ kind.DisplayVersion ∷ []
unfolding command_line clap_on_literals digits
version = refl
