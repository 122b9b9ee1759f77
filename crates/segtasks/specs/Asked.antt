-- What the program is asked to do by its words.
use Rattle.std.specs.Prelude.{◌≡◌, ◌≢◌, ◌⊎◌, ◌^◌, ◌&&◌, ◌||◌, ⊤, ℕ, max, Bool, true, false, not, List, [], ◌∷◌, Option, Some, None, Result, Ok, Err, IsSomeAnd, if◌then◌else◌, nat_lt, unwrap_or, codes}
use Rattle.std.specs.List.{list_any}
use Rattle.std.specs.Option.{option_map, option_map_or, option_or}
use Rattle.std.specs.Int.NonZero.{non_zero_u32_get}
use Rattle.std.specs.Str.{bytes_eq}
use Rattle.std.specs.Str.Parse.{digits_value, true_text, without_leading_plus}
use Rattle.segword.specs.Words.{IsValid, Shape}
use Rattle.segword.specs.Shape.{HasRoomFor, IsFaultOfKeys}
use Rattle.segword.specs.declared.shape.ShapeFault.{ShapeFault}
use Rattle.clap.specs.Walk.{Row, Text, first_of, one_of}
use Rattle.clap.specs.Simple.{subcommand_of}
use Rattle.clap.specs.ValueTests.{is_numeral}
use Rattle.clap.specs.Faults.{fault_of}
use Rattle.clap.specs.declared.error.kind.ErrorKind.{ErrorKind}
use Rattle.clap.specs.declared.error.kind.ErrorKind.TheVariants as kind
use Rattle.segtasks.specs.CommandLine.{NumberOption, command_line, default_shape, hex}
use Rattle.segtasks.specs.CommandLine.{buckets_option, overflow_option, passes_option, segments_option, rows_option, first_version_option, for_keys_option, seed_option, commands_option, keys_option}
use Rattle.segtasks.specs.CommandLine.{value_bytes_option, threads_option, warm_option}
use Rattle.segtasks.specs.CommandLine.{stats_flag, progress_flag, explain_flag, script_file, format_choice, kind_choice}
use Rattle.segtasks.specs.CommandLine.{csv_flag, sizes_flag, policy_choice}
use Rattle.segtasks.specs.declared.arguments.Refusal.{Refusal}
use Rattle.segtasks.specs.declared.arguments.Refusal.TheVariants as refusal
use Rattle.segtasks.specs.declared.asked.Format.{Format}
use Rattle.segtasks.specs.declared.asked.Format.TheVariants as format
use Rattle.segtasks.specs.declared.asked.LoadTask.{LoadTask}
use Rattle.segtasks.specs.declared.asked.Policies.{Policies}
use Rattle.segtasks.specs.declared.asked.Policies.TheVariants as policies
use Rattle.segtasks.specs.declared.asked.Replay.{Replay}
use Rattle.segtasks.specs.declared.asked.Word.{Word}
use Rattle.segtasks.specs.declared.asked.WordKind.{WordKind}
use Rattle.segtasks.specs.declared.asked.WordKind.TheVariants as kinds
use Rattle.segtasks.specs.declared.task.Task.{Task}
use Rattle.segtasks.specs.declared.task.Task.TheVariants as command
use Rattle.segtraces.specs.declared.retention.Retention.TheVariants as policy
use Rattle.segtraces.specs.declared.line.Form.TheVariants as form
use Rattle.segtraces.specs.Policies.{policy_named}

-- ---- the matches of a command

-- the number that a text writes, if it has at most `bits` bits
abbrev pub number_in : ℕ → Text → Option ℕ
number_in bits text =
    let digits = without_leading_plus text in
    if is_numeral digits && nat_lt (digits_value 10 digits) (2 ^ bits)
    then Some (digits_value 10 digits)
    else None

-- The number of an option, if it has one.
abbrev pub number_found : NumberOption → List Row → Option ℕ
number_found option rows = option_map_or (number_in option.bits) (one_of option.name rows) None

-- The same, and else this number.
abbrev pub number_over : ℕ → NumberOption → List Row → ℕ
number_over other option rows = unwrap_or (number_found option rows) other

-- The number of an option, or else its default.
-- `clap` lets only numbers within the option's bounds through.
abbrev pub number_given : NumberOption → List Row → ℕ
number_given option rows = number_over option.default option rows

-- whether a flag is given: `clap` gives it the text `true` if the words have it, and else `false`
abbrev pub is_given : Text → List Row → Bool
is_given flag rows = option_map_or (λ text. bytes_eq text true_text) (one_of flag rows) false

-- The shape has room to spare for so many keys. If there is none for this number of passes,
-- it is the default shape with that number, which is as bad.
abbrev pub IsSized : ℕ → ℕ → Shape → Type 0
IsSized keys passes shape =
    (IsValid shape × (shape.passes ≡ passes) × HasRoomFor keys shape)
    ⊎ ((fault : ShapeFault) × IsFaultOfKeys keys passes fault
    × (shape ≡ record default_shape { passes = passes }))

-- The shape before the options for its parts: the default one, or one for so many keys.
abbrev pub IsBase : Option ℕ → ℕ → Shape → Type 0
IsBase None passes shape = shape ≡ default_shape
IsBase (Some keys) passes shape = IsSized keys passes shape

-- the shape, with the parts that have an option
abbrev pub shape_over : Shape → Option ℕ → List Row → Shape
shape_over base passes rows = record {
  buckets = number_over base.buckets buckets_option rows;
  overflow = number_over base.overflow overflow_option rows;
  passes = unwrap_or passes base.passes;
  segments_each = number_over base.segments_each segments_option rows;
  rows = number_over base.rows rows_option rows;
  first_version = number_over base.first_version first_version_option rows;
}

-- The shape that the options give, for this number of passes or, without one, for one.
abbrev pub IsShapeFor : Option ℕ → List Row → Shape → Type 0
IsShapeFor passes rows shape =
    (base : Shape)
    × IsBase (number_found for_keys_option rows) (unwrap_or passes default_shape.passes) base
    × (shape ≡ shape_over base passes rows)

-- The shape that the options give.
abbrev pub IsShapeGiven : List Row → Shape → Type 0
IsShapeGiven rows shape = IsShapeFor (number_found passes_option rows) rows shape

-- the format of a word, or of no word
abbrev pub format_named : Option Text → Option Format
format_named None = Some format.Text
format_named (Some word) =
    if bytes_eq word (codes "text") then Some format.Text
    else (if bytes_eq word (codes "json") then Some format.Json else None)

-- the kind of word of a table that a word says, or no word
abbrev pub kind_named : Option Text → Option WordKind
kind_named None = Some kinds.Item
kind_named (Some word) =
    if bytes_eq word (codes "item") then Some kinds.Item
    else (if bytes_eq word (codes "information") then Some kinds.Information
    else (if bytes_eq word (codes "segment") then Some kinds.Segment else None))

-- the policies of a word, or of no word
abbrev pub policies_named : Option Text → Option Policies
policies_named None = Some (policies.One policy.Default)
policies_named (Some word) =
    if bytes_eq word (codes "all") then Some policies.All
    else option_map (λ p. policies.One p) (policy_named word)

abbrev pub IsCommandName : Text → Type 0
IsCommandName name =
    (name ≡ codes "script") ⊎ (name ≡ codes "load") ⊎ (name ≡ codes "replay")
    ⊎ (name ≡ codes "word")

-- The load is the one with these matches. It has at least one key: `clap` lets no 0 through.
pub record IsLoadAsked (rows : List Row) (load : LoadTask) : Type 0 where
  pub shape : IsShapeGiven rows load.shape
  pub seed : load.seed ≡ number_given seed_option rows
  pub commands : load.commands ≡ number_given commands_option rows
  pub keys : non_zero_u32_get load.keys ≡ max 1 (number_given keys_option rows)
  pub format : format_named (first_of format_choice rows) ≡ Some load.format
  pub stats : load.stats ≡ is_given stats_flag rows
  pub progress : load.progress ≡ is_given progress_flag rows
  pub explain : load.explain ≡ is_given explain_flag rows

-- The replay is the one with these matches.
pub record IsReplayAsked (rows : List Row) (replay : Replay) : Type 0 where
  pub shape : IsShapeFor (option_or (number_found threads_option rows)
      (number_found passes_option rows)) rows replay.shape
  pub file : option_map (λ text. text.now) replay.file ≡ first_of script_file rows
  pub form : replay.form ≡ (if is_given csv_flag rows then form.Csv else form.Plain)
  pub value_bytes : replay.value_bytes ≡ number_given value_bytes_option rows
  pub warm : replay.warm ≡ number_given warm_option rows
  pub policies : policies_named (first_of policy_choice rows) ≡ Some replay.policies
  pub sizes : replay.sizes ≡ is_given sizes_flag rows
  pub format : format_named (first_of format_choice rows) ≡ Some replay.format
  pub progress : replay.progress ≡ is_given progress_flag rows
  pub explain : replay.explain ≡ is_given explain_flag rows

-- The word of the table is the one with these matches.
pub record IsWordAsked (rows : List Row) (word : Word) : Type 0 where
  pub text : word.text.now ≡ unwrap_or (first_of hex rows) []
  pub kind : kind_named (first_of kind_choice rows) ≡ Some word.kind
  pub explain : word.explain ≡ is_given explain_flag rows

-- The command is the one of this name with these matches.
abbrev pub IsAsked : Text × List Row → Task → Type 0
IsAsked asked (command.Script shape explain file) =
    (asked.0 ≡ codes "script")
    × IsShapeGiven asked.1 shape
    × (explain ≡ is_given explain_flag asked.1)
    × (option_map (λ text. text.now) file ≡ first_of script_file asked.1)
IsAsked asked (command.Load load) = (asked.0 ≡ codes "load") × IsLoadAsked asked.1 load
IsAsked asked (command.Replay replay) =
    (asked.0 ≡ codes "replay") × IsReplayAsked asked.1 replay
IsAsked asked (command.Word word) = (asked.0 ≡ codes "word") × IsWordAsked asked.1 word
IsAsked asked (command.Show text) = ⊥

-- The command has a format, a policy or a kind that is none.
abbrev pub IsMisnamed : Text × List Row → Type 0
IsMisnamed asked =
    ((asked.0 ≡ codes "load") × (format_named (first_of format_choice asked.1) ≡ None))
    ⊎ ((asked.0 ≡ codes "replay")
    × ((format_named (first_of format_choice asked.1) ≡ None)
    ⊎ (policies_named (first_of policy_choice asked.1) ≡ None)))
    ⊎ ((asked.0 ≡ codes "word") × (kind_named (first_of kind_choice asked.1) ≡ None))

-- ---- the words

-- whether help or the version is asked for
abbrev pub is_request : ErrorKind → Bool
is_request kind.DisplayHelp = true
is_request kind.DisplayVersion = true
is_request _ = false

-- what is read if `clap` ends with a fault of this kind
abbrev pub IsRefused : ErrorKind → Result Task Refusal → Type 0
IsRefused k (Ok (command.Show text)) = is_request k ≡ true
IsRefused k (Ok asked) = ⊥
IsRefused k (Err (refusal.Usage text)) = (is_request k ≡ false) × (k ≢ kind.OutOfMemory)
IsRefused k (Err refusal.BadArguments) = ⊥
IsRefused k (Err refusal.OutOfMemory) = ⊤

-- What is read from one word or more. In a command that is read `clap` finds no fault.
-- A request for help or for the version is a fault to `clap`, with a text that is shown.
-- Any other fault is a bad command line, and so is a format or a kind that is none.
-- In each case the answer may be out of memory.
-- Words have one kind of fault, with two exceptions.
-- A word that may be an argument or a command is bad as either.
-- Of what stands behind the command `help`, `clap` says only that its help is shown,
-- or that it is no command.
abbrev pub IsReadByClap : List Text → Result Task Refusal → Type 0
IsReadByClap words (Ok (command.Show text)) =
    list_any is_request (fault_of command_line words) ≡ true
IsReadByClap words (Ok asked) =
    (fault_of command_line words ≡ [])
    × IsSomeAnd (subcommand_of command_line words) (λ found. IsAsked found asked)
IsReadByClap words (Err (refusal.Usage text)) =
    (list_any (λ k. not (is_request k)) (fault_of command_line words) ≡ true)
    ⊎ ((fault_of command_line words ≡ [])
    × IsSomeAnd (subcommand_of command_line words) IsMisnamed)
IsReadByClap words (Err refusal.BadArguments) = ⊥
IsReadByClap words (Err refusal.OutOfMemory) = ⊤

-- whether help is asked for of the command `help`
abbrev pub asks_help_twice : List Text → Bool
asks_help_twice (first ∷ second ∷ []) =
    bytes_eq first (codes "help")
    && (bytes_eq second (codes "-h") || bytes_eq second (codes "--help"))
asks_help_twice _ = false

-- the words that are read: help of the command `help` is the help of the program
abbrev pub plain_words : List Text → List Text
plain_words words = if asks_help_twice words then codes "help" ∷ [] else words

-- What is read from the words. No words at all are the command `script` with no options.
abbrev pub IsReadAsCommand : List Text → Result Task Refusal → Type 0
IsReadAsCommand [] read = read ≡ Ok (command.Script default_shape false None)
IsReadAsCommand (word ∷ words) read = IsReadByClap (plain_words (word ∷ words)) read
