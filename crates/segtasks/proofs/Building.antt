-- What `clap` reads of a command that is built step by step.
use Rattle.std.proofs.Common.{◌≡◌, ◌∙◌, ◌||◌, Bool, false, ap, ap₂}
use Rattle.clap.specs.Words.{AddsArg, AddsSubcommand, App, Rule, rule_of, with_rule, with_subcommand}
use Rattle.clap.specs.Simple.{Shape as CommandRules}
use Rattle.clap.specs.declared.builder.Arg.{Arg}
use Rattle.clap.specs.declared.builder.Command.{Command}
use Rattle.segtasks.specs.CommandLine.{Builds, alone}

pub with_argument : (app : App) (old : Command) (a : Arg) (new : Command) (rule : Rule) → Builds app old → AddsArg old a new → a.global ≡ false → rule_of a ≡ rule → Builds (with_rule app rule) new
with_argument app old a new rule built added local is = (
  added.shape local ∙ ap₂ with_rule built.0 is,
  added.globals ∙ ap₂ (λ (x : Bool) (y : Bool). x || y) built.1 local,
)

pub with_command : (app : App) (old sub new : Command) (rules : CommandRules) → Builds app old → AddsSubcommand old sub new → Builds (alone rules) sub → Builds (with_subcommand app rules) new
with_command app old sub new rules built added below = (
  added.shape below.1 ∙ ap₂ with_subcommand built.0 (ap (λ (a : App). a.top) below.0),
  added.globals ∙ ap₂ (λ (x : Bool) (y : Bool). x || y) built.1 below.1,
)
