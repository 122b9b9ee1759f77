-- What is read of the words, from what `clap` says of its matches and of its faults.
use Rattle.std.proofs.Common.{◌≡◌, ◌∙◌, ◌==◌, length, ◌⊎◌, ◌||◌, Bool, cond, true, false, not, List, [], ◌∷◌, Option, Some, None, Result, Ok, Err, IsSomeAnd, ap, refl, sym, subst, true≢false, inl, inr, map, codes}
use Rattle.std.specs.Prelude.{⊤, Box, option_map}
use Rattle.std.specs.List.{find, list_any}
use Rattle.std.specs.Str.{bytes_eq}
use Rattle.std.specs.Box.{box_value}
use Rattle.std.specs.declared.alloc.Global.{Global}
use Rattle.std.specs.declared.string.String.{String}
use Rattle.std.proofs.lemmas.Slice.Eq.{bytes_eq-Decides}
use Rattle.clap.specs.Walk.{Row, Text, answers_to, nothing_held, walk_from}
use Rattle.clap.specs.Simple.{App, HasMatchesOf, Shape as CommandRules, built, entered, label_of, names_of, rows_at, subcommand_of, subcommand_rows, subcommand_rows_of}
use Rattle.clap.specs.Kinds.{HasKind, IsAmong, Kinds}
use Rattle.clap.specs.Faults.{fault_of, is_simple_and_free}
use Rattle.clap.specs.declared.error.kind.ErrorKind.{ErrorKind}
use Rattle.clap.specs.declared.error.Error.{Error}
use Rattle.clap.specs.declared.parser.matches.SubCommand.{SubCommand}
use Rattle.clap.specs.declared.parser.matches.ArgMatches.{ArgMatches}
use Rattle.clap.specs.declared.builder.command.Command.{Command as ClapCommand}
use Rattle.clap.specs.Matches.{has_subcommand, subcommand_name_of}
use Rattle.clap.specs.Built.{IsParsedFrom}
use Rattle.clap.proofs.WalkLemmas.{both}
use Rattle.clap.specs.declared.parser.matches.ArgMatches.TheViews.{out-ArgMatches, out-SubCommand}
use Rattle.clap.specs.declared.error.kind.ErrorKind.TheVariants as kind
use Rattle.clap.proofs.OnLiterals.{clap_on_literals}
use Rattle.segtasks.specs.CommandLine.{Builds, command_line}
use Rattle.segtasks.specs.Asked.{IsAsked, IsCommandName, IsMisnamed, IsReadAsCommand, IsReadByClap, IsRefused, is_request, plain_words}
use Rattle.segtasks.specs.declared.arguments.Refusal.{Refusal}
use Rattle.segtasks.specs.declared.arguments.Refusal.TheVariants as refusal
use Rattle.segtasks.specs.declared.task.Task.{Task}
use Rattle.segtasks.specs.declared.task.Task.TheVariants as command
use Rattle.segtasks.proofs.NoHelp.{IsPastHelp, no_faults, walk_past_help}

-- `clap`'s contracts say of the command line what it finds
pub is_simple_line : is_simple_and_free command_line ≡ true
unfolding command_line clap_on_literals
is_simple_line = refl

pub some_words : {X : Type 0} (f : X → Text) (xs : List X) → (length xs == 0) ≡ false → map f xs ≡ [] → ⊥
some_words f [] some none = true≢false some
some_words f (x ∷ xs) some none = absurd (cc)

pub of_words : (words : List Text) (read : Result Task Refusal) → (words ≡ [] → ⊥) → IsReadByClap (plain_words words) read → IsReadAsCommand words read
of_words [] read some is = absurd (some refl)
of_words (word ∷ words) read some is = is

-- ---- a command

pub command_read : (words : List Text) (found : Text × List Row) (asked : Task)
    → fault_of command_line words ≡ [] → subcommand_of command_line words ≡ Some found → IsAsked found asked
    → IsReadByClap words (Ok asked)
command_read words found (command.Script shape explain file) none is asked = (none, subst (λ o. IsSomeAnd o (λ f. IsAsked f (command.Script shape explain file))) (sym is) asked)
command_read words found (command.Load load) none is asked = (none, subst (λ o. IsSomeAnd o (λ f. IsAsked f (command.Load load))) (sym is) asked)
command_read words found (command.Replay replay) none is asked = (none, subst (λ o. IsSomeAnd o (λ f. IsAsked f (command.Replay replay))) (sym is) asked)
command_read words found (command.Word word) none is asked = (none, subst (λ o. IsSomeAnd o (λ f. IsAsked f (command.Word word))) (sym is) asked)
command_read words found (command.Show text) none is asked = absurd asked

-- a format or a kind that is none
pub choice_read : (words : List Text) (found : Text × List Row) (why : String Global)
    → fault_of command_line words ≡ [] → subcommand_of command_line words ≡ Some found → IsMisnamed found
    → IsReadByClap words (Err (refusal.Usage why))
choice_read words found why none is named = inr (none, subst (λ o. IsSomeAnd o IsMisnamed) (sym is) named)

abbrev Each : (CommandRules → Type 0) → List CommandRules → Type 0
Each P [] = ⊤
Each P (s ∷ rest) = P s × Each P rest

-- what holds of the name of each command that the test finds, holds of the name that was found
found_name : (P : Text → Type 0) (test : CommandRules → Bool) (words : List Text) (commands : List CommandRules)
    (found : Text × List Row) → Each (λ s. test s ≡ true → P s.name) commands
    → option_map (λ s. rows_at s words) (find test commands) ≡ Some found → P found.0
found_name P test words [] found each is = absurd (cc)
found_name P test words (s ∷ rest) found each is = go (test s) each.0 (found_name P test words rest found each.1) is
  where
    go : (b : Bool) → (b ≡ true → P s.name) → (option_map (λ s. rows_at s words) (find test rest) ≡ Some found
        → P found.0) → option_map (λ s. rows_at s words) (cond b (Some s) (find test rest)) ≡ Some found → P found.0
    go true here later is = let same : rows_at s words ≡ found = cc in subst (λ (f : Text × List Row). P f.0) same (here refl)
    go false here later is = later is

or_false : (a : Bool) → (a || false) ≡ true → a ≡ true
or_false true is = refl
or_false false is = is

not_help : (name : Text) → bytes_eq name (codes "help") ≡ false → bytes_eq (codes "help") name ≡ true → ⊥
not_help name other same =
    let is : codes "help" ≡ name = (bytes_eq-Decides (codes "help") name).0 same in
    true≢false (sym ((bytes_eq-Decides name (codes "help")).1 (sym is)) ∙ other)

entered_name : (stop : Option (Text × List Text)) (found : Text × List Row) → IsPastHelp stop → entered (built command_line) stop ≡ Some found → IsCommandName found.0
unfolding command_line
entered_name None found past is = absurd (cc)
entered_name (Some stop) found past is = found_name IsCommandName (λ s. answers_to stop.0 (label_of s)) stop.1 (built command_line).subs found
    (λ _. inl refl, (λ _. inr (inl refl), (λ _. inr (inr (inl refl)), (λ _. inr (inr (inr refl)), (λ help. absurd (not_help stop.0 past (or_false _ help)), tt))))) is

pub command_name : (words : List Text) (found : Text × List Row) → fault_of command_line words ≡ [] → subcommand_of command_line words ≡ Some found → IsCommandName found.0
unfolding command_line
command_name words found none is =
    entered_name _ found (walk_past_help (built command_line).top (names_of (built command_line)) refl (walk_from nothing_held) words (no_faults _ _ none).0 tt) is

module _ {Z : Type 0} where
  -- the subcommand of a parse
  pub found_rows : (o : Option (Box SubCommand Z)) (name : Text) (rows : List Row)
      → Some name ≡ option_map (λ b. (out-SubCommand (box_value b)).name.now) o
      → Some rows ≡ option_map (λ p. p.1) (subcommand_rows o) → subcommand_rows o ≡ Some (name, rows)
  found_rows None name rows named with_rows = absurd (cc)
  found_rows (Some b) name rows named with_rows = cc

-- what `clap` finds without a fault
pub parse_found : (app : App) (words : List Text) (m : ArgMatches) (name : Text) (rows : List Row)
    → app ≡ command_line → (is_simple_and_free app ≡ true → fault_of app words ≡ []) → HasMatchesOf app words m
    → Some name ≡ subcommand_name_of m → Some rows ≡ option_map (λ p. p.1) (subcommand_rows_of m) → (fault_of command_line words ≡ []) × (subcommand_of command_line words ≡ Some (name, rows))
parse_found app words m name rows line none matches named with_rows =
    let free : is_simple_and_free app ≡ true = ap is_simple_and_free line ∙ is_simple_line in (
      ap (λ a. fault_of a words) (sym line) ∙ none free,
      ap (λ a. subcommand_of a words) (sym line) ∙ sym (matches (both _ _ free).0).1 ∙ found_rows (out-ArgMatches m).subcommand name rows named with_rows,
    )

-- a command is wanted
pub parse_has_command : (line : ClapCommand) (m : ArgMatches) → Builds command_line line → IsParsedFrom line m → has_subcommand m ≡ true
unfolding command_line
parse_has_command line m built parsed =
    (parsed.parsed (parsed.from.globals ∙ built.1)).checked.subcommand (parsed.from.needs_subcommand ∙ ap (λ (a : App). a.top.subcommand_required) built.0)

-- ---- a fault

pub parse_fails : (app : App) (words : List Text) (e : Error) → app ≡ command_line → (is_simple_and_free app ≡ true → HasKind (fault_of app words) e) → HasKind (fault_of command_line words) e
parse_fails app words e line fails = subst (λ a. HasKind (fault_of a words) e) line (fails (ap is_simple_and_free line ∙ is_simple_line))

or_true : (a b : Bool) → b ≡ true → (a || b) ≡ true
or_true true b is = refl
or_true false b is = is

among_any : (p : ErrorKind → Bool) (k : ErrorKind) (kinds : Kinds) → p k ≡ true → IsAmong k kinds → list_any p kinds ≡ true
among_any p k [] is among = absurd among
among_any p k (x ∷ xs) is (inl here) = rw (sym (ap p here) ∙ is) refl
among_any p k (x ∷ xs) is (inr there) = or_true (p x) (list_any p xs) (among_any p k xs is there)

pub fault_read : (words : List Text) (k : ErrorKind) (read : Result Task Refusal) → (k ≡ kind.OutOfMemory) ⊎ IsAmong k (fault_of command_line words) → IsRefused k read → IsReadByClap words read
fault_read words k (Ok (command.Show text)) (inl memory) refused = absurd (cc (ap is_request memory))
fault_read words k (Ok (command.Show text)) (inr among) refused = among_any is_request k (fault_of command_line words) refused among
fault_read words k (Ok (command.Script shape explain file)) why refused = absurd refused
fault_read words k (Ok (command.Load load)) why refused = absurd refused
fault_read words k (Ok (command.Replay replay)) why refused = absurd refused
fault_read words k (Ok (command.Word word)) why refused = absurd refused
fault_read words k (Err (refusal.Usage text)) (inl memory) refused = absurd (refused.1 memory)
fault_read words k (Err (refusal.Usage text)) (inr among) refused = inl (among_any (λ x. not (is_request x)) k (fault_of command_line words) (ap not refused.0) among)
fault_read words k (Err refusal.BadArguments) why refused = absurd refused
fault_read words k (Err refusal.OutOfMemory) why refused = tt
