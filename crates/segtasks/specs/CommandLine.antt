-- The command line of the program as data: its commands, and what `clap` reads of each.
use Rattle.std.specs.Prelude.{◌≡◌, ◌==◌, ◌++◌, ℕ, pos, true, false, List, [], ◌∷◌, fold, map, Some, if◌then◌else◌, codes, decimal}
use Rattle.segword.specs.Words.{Shape, value_limit}
use Rattle.clap.specs.Walk.{Rule, Text}
use Rattle.clap.specs.Simple.{App, Shape as CommandRules, app_of, new_rule, new_shape, with_rule, with_subcommand}
use Rattle.clap.specs.declared.builder.action.ArgAction.TheVariants.{SetTrue}
use Rattle.clap.specs.declared.builder.command.Command.{Command}
use Rattle.clap.specs.declared.builder.command.Command.TheViews.{out-Command as fields_of}
use Rattle.clap.specs.declared.builder.value_parser.ValueParser.{ValueParser}
use Rattle.clap.specs.declared.builder.value_parser.ValueParser.TheVariants as parser

-- the shape that no option changes
abbrev pub default_shape : Shape
default_shape = record {
  buckets = 1;
  overflow = 0;
  passes = 1;
  segments_each = 1;
  rows = 8;
  first_version = 0;
}

-- ---- options

-- `--NAME N`, with a number N of so many bits, from `least` to `most`.
-- If the words don't have the option, N is `default`.
pub record NumberOption : Type 0 where
  pub name : Text
  pub bits : ℕ
  pub least : ℕ
  pub most : ℕ
  pub default : ℕ

-- an option with any number of 32 bits
abbrev pub of_32_bits : Text → ℕ → NumberOption
of_32_bits name default =
    record { name = name; bits = 32; least = 0; most = 4294967295; default = default }

-- the options of a shape, each with its number in the default shape,
-- and the one for a shape that has room for so many keys
abbrev pub buckets_option : NumberOption
buckets_option = of_32_bits (codes "buckets") default_shape.buckets

abbrev pub overflow_option : NumberOption
overflow_option = of_32_bits (codes "overflow") default_shape.overflow

abbrev pub passes_option : NumberOption
passes_option = of_32_bits (codes "passes") default_shape.passes

abbrev pub segments_option : NumberOption
segments_option = of_32_bits (codes "segments") default_shape.segments_each

abbrev pub rows_option : NumberOption
rows_option = of_32_bits (codes "rows") default_shape.rows

abbrev pub first_version_option : NumberOption
first_version_option = of_32_bits (codes "first-version") default_shape.first_version

abbrev pub for_keys_option : NumberOption
for_keys_option = record (of_32_bits (codes "for-keys") 1) { least = 1; most = 425984 }

abbrev pub seed_option : NumberOption
seed_option =
    record { name = codes "seed"; bits = 64; least = 0; most = 18446744073709551615; default = 1 }

abbrev pub commands_option : NumberOption
commands_option = of_32_bits (codes "commands") 1000

abbrev pub keys_option : NumberOption
keys_option = record (of_32_bits (codes "keys") 64) { least = 1; most = 1000000 }

abbrev pub value_bytes_option : NumberOption
value_bytes_option = record (of_32_bits (codes "value-bytes") 32) { most = value_limit }

abbrev pub threads_option : NumberOption
threads_option = of_32_bits (codes "threads") default_shape.passes

abbrev pub warm_option : NumberOption
warm_option =
    record { name = codes "warm"; bits = 64; least = 0; most = 18446744073709551615; default = 0 }

abbrev pub shape_options : List NumberOption
shape_options =
    buckets_option ∷ overflow_option ∷ passes_option ∷ segments_option ∷ rows_option
    ∷ first_version_option ∷ for_keys_option ∷ []

abbrev pub load_options : List NumberOption
load_options = seed_option ∷ commands_option ∷ keys_option ∷ []

-- the parser that takes the numbers of an option
abbrev pub number_parser : NumberOption → ValueParser
number_parser option =
    if option.bits == 64
    then parser.Unsigned option.least option.most
    else parser.Signed (pos option.least) (pos option.most)

-- an option of this name, which has no value if it isn't given
abbrev pub choice_rule : Text → Rule
choice_rule name = record (new_rule name) { long = Some name; value_names = 1 }

-- such an option, whose values this parser takes
abbrev pub part_rule : Text → ValueParser → Rule
part_rule name takes = record (choice_rule name) { parser = Some takes }

-- such an option, which has this value if it isn't given
abbrev pub option_rule : Text → ValueParser → Text → Rule
option_rule name takes default = record (part_rule name takes) { defaults = default ∷ [] }

abbrev pub rule_of_part : NumberOption → Rule
rule_of_part option = part_rule option.name (number_parser option)

abbrev pub rule_of_option : NumberOption → Rule
rule_of_option option = option_rule option.name (number_parser option) (decimal option.default)

-- an option of this name that takes no value
abbrev pub flag_rule : Text → Rule
flag_rule name = record (new_rule name) { long = Some name; action = Some SetTrue }

-- `--csv` and `--sizes`, of a replay
abbrev pub csv_flag : Text
csv_flag = codes "csv"

abbrev pub sizes_flag : Text
sizes_flag = codes "sizes"

-- `--policy`, by which the caches of a replay keep items
abbrev pub policy_choice : Text
policy_choice = codes "policy"

-- `--progress`, of a load or a replay
abbrev pub progress_flag : Text
progress_flag = codes "progress"

-- `--stats`, of a load
abbrev pub stats_flag : Text
stats_flag = codes "stats"

-- `--explain`
abbrev pub explain_flag : Text
explain_flag = codes "explain"

-- the file of a script or of a trace, which may be given
abbrev pub script_file : Text
script_file = codes "FILE"

abbrev pub file_rule : Rule
file_rule = new_rule script_file

-- the hexadecimal digits of `word`, which have to be given
abbrev pub hex : Text
hex = codes "HEX"

-- `--format`, in which the totals of a load or a replay are written
abbrev pub format_choice : Text
format_choice = codes "format"

-- `--kind`, which a word of the table is
abbrev pub kind_choice : Text
kind_choice = codes "kind"

abbrev pub hex_rule : Rule
hex_rule = record (new_rule hex) { required = true }

-- ---- commands

abbrev pub command_rules : Text → List Rule → CommandRules
command_rules name rules = record (new_shape name) { rules = rules }

abbrev pub script_rules : CommandRules
script_rules =
    command_rules (codes "script") (map rule_of_part shape_options
    ++ file_rule ∷ flag_rule explain_flag ∷ [])

abbrev pub load_rules : CommandRules
load_rules =
    command_rules (codes "load") (map rule_of_part shape_options ++ map rule_of_option load_options
    ++ choice_rule format_choice ∷ flag_rule stats_flag ∷ flag_rule progress_flag
    ∷ flag_rule explain_flag ∷ [])

-- the options of a replay beside those of a shape
abbrev pub replay_options : List Rule
replay_options =
    rule_of_option value_bytes_option ∷ rule_of_part threads_option ∷ rule_of_option warm_option
    ∷ choice_rule policy_choice ∷ flag_rule sizes_flag ∷ []

abbrev pub replay_rules : CommandRules
replay_rules =
    command_rules (codes "replay") (map rule_of_part shape_options
    ++ file_rule ∷ flag_rule csv_flag ∷ replay_options
    ++ choice_rule format_choice ∷ flag_rule progress_flag ∷ flag_rule explain_flag ∷ [])

abbrev pub word_rules : CommandRules
word_rules =
    command_rules (codes "word") (hex_rule ∷ choice_rule kind_choice ∷ flag_rule explain_flag ∷ [])

-- the program itself, which reads the words after its name, and wants a command among them
abbrev pub program_rules : CommandRules
program_rules = record (new_shape (codes "segrun")) {
  no_binary_name = true;
  has_version = true;
  subcommand_required = true;
}

-- a command with no commands below it
abbrev pub alone : CommandRules → App
alone rules = record { top = rules; subs = [] }

-- The words after the program's name: one of four commands with its options.
-- `clap` adds the options for help, and for the version above the commands,
-- and the command `help`.
unfoldable pub command_line : App
command_line =
    with_subcommand
    (with_subcommand
    (with_subcommand (with_subcommand (alone program_rules) script_rules) load_rules) replay_rules)
    word_rules

-- ---- as `clap` holds them

abbrev pub with_parts : App → List NumberOption → App
with_parts app options = fold (λ a option. with_rule a (rule_of_part option)) app options

abbrev pub with_rules : App → List Rule → App
with_rules app rules = fold with_rule app rules

-- The command of `clap` is this one, and has no global options.
abbrev pub Builds : App → Command → Type 0
Builds app command = (app_of command ≡ app) × ((fields_of command).has_globals ≡ false)
