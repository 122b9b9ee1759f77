-- Words in which `clap` finds no fault don't name the command `help`.
use Rattle.std.proofs.Common.{◌≡◌, Bool, true, false, List, [], ◌∷◌, Option, Some, None, refl, codes}
use Rattle.std.specs.Prelude.{⊤, fold, if◌then◌else◌, is_some}
use Rattle.std.specs.Str.{bytes_eq}
use Rattle.clap.specs.Lexer.{long_of, short_of}
use Rattle.clap.specs.Walk.{Held, Names, Outcome, Rule, Step, Text, Waiting, Walk}
use Rattle.clap.specs.Walk.{after_flag, after_step, arg_by_index, arg_by_long, bundle, done, idle, long_met, long_or_other, next, option, plain, plain_word, positional, refused, short_or_plain, subcommand, subcommand_met, subcommand_or_other, to_positional, trailing, value, waits, walked, walked_from, word_met}
use Rattle.clap.specs.Simple.{Shape as CommandRules}
use Rattle.clap.specs.Kinds.{Kinds, or_else}
use Rattle.clap.specs.Faults.{other_fault, step_fault, walk_fault, word_fault}

-- where two steps have no fault, neither has one
pub no_faults : (a b : Kinds) → or_else a b ≡ [] → (a ≡ []) × (b ≡ [])
no_faults [] b none = (refl, none)
no_faults (k ∷ ks) b none = absurd (cc)

-- the walk goes on, or it stopped at another command
abbrev pub IsPastHelp : Option (Text × List Text) → Type 0
IsPastHelp None = ⊤
IsPastHelp (Some stop) = bytes_eq stop.0 (codes "help") ≡ false

abbrev NamesNone : Step → Type 0
NamesNone (subcommand name) = ⊥
NamesNone _ = ⊤

module _ (s : CommandRules) (names : Names) (has_help : s.disable_help_subcommand ≡ false) where
  plain_word_names_none : (waiting : Waiting) (word : Text) (h : Held) → NamesNone (plain_word s.rules waiting word h).1
  plain_word_names_none (option id) word h = tt
  plain_word_names_none idle word h = tt
  plain_word_names_none positional word h = tt

  flag_names_none : (waiting : Waiting) (word : Text) (h : Held) (met : Outcome) → NamesNone (after_flag s.rules waiting word h met).1
  flag_names_none waiting word h done = tt
  flag_names_none waiting word h (waits id) = tt
  flag_names_none waiting word h plain = plain_word_names_none waiting word h
  flag_names_none waiting word h refused = plain_word_names_none waiting word h

  short_names_none : (waiting : Waiting) (word : Text) (flags : Option Text) (h : Held) → NamesNone (short_or_plain s.rules waiting word flags h).1
  short_names_none waiting word (Some flags) h = flag_names_none waiting word (bundle s.rules flags h).0 (bundle s.rules flags h).1
  short_names_none waiting word None h = plain_word_names_none waiting word h

  long_names_none : (waiting : Waiting) (word : Text) (flag : Option (Text × Option Text)) (h : Held) → NamesNone (long_or_other s.rules waiting word flag h).1
  long_names_none waiting word (Some p) h = let met = long_met s.rules (arg_by_long s.rules p.0) p.1 h in flag_names_none waiting word met.0 met.1
  long_names_none waiting word None h = short_names_none waiting word (short_of word) h

  positional_stops_nowhere : (a : Option Rule) (word : Text) (w : Walk) (h : Held) → IsPastHelp w.stopped → IsPastHelp (to_positional s.rules a word w h).stopped
  positional_stops_nowhere None word w h past = past
  positional_stops_nowhere (Some a) word w h past = tt

  step_stops_nowhere : (word : Text) (w : Walk) (h : Held) (met : Step) → NamesNone met → IsPastHelp w.stopped → IsPastHelp (after_step s.rules word w h met).stopped
  step_stops_nowhere word w h (next waiting) none past = past
  step_stops_nowhere word w h (trailing position) none past = past
  step_stops_nowhere word w h (subcommand name) none past = absurd none
  step_stops_nowhere word w h value none past = positional_stops_nowhere (arg_by_index s.rules w.position) word w h past

  -- `help` is a fault
  named_past_help : (name word : Text) (h : Held) (b : Bool) → bytes_eq name (codes "help") ≡ b → other_fault s (Some name) word h ≡ [] → b ≡ false
  named_past_help name word h false is none = refl
  named_past_help name word h true is none = absurd (cc (rw (is, has_help) at none))

  other_past_help : (position : _) (word : Text) (w : Walk) (h : Held) (waiting : Waiting) (named : Option Text) → other_fault s named word h ≡ [] → IsPastHelp w.stopped
      → IsPastHelp (after_step s.rules word w (subcommand_or_other s.rules named waiting position word h).0 (subcommand_or_other s.rules named waiting position word h).1).stopped
  other_past_help position word w h waiting (Some name) none past = named_past_help name word h (bytes_eq name (codes "help")) refl none
  other_past_help position word w h waiting None none past = go (bytes_eq word (45 ∷ 45 ∷ []))
    where
      go : (b : Bool) → IsPastHelp (after_step s.rules word w
          (if b then (h, trailing position) else long_or_other s.rules waiting word (long_of word) h).0
          (if b then (h, trailing position) else long_or_other s.rules waiting word (long_of word) h).1).stopped
      go true = past
      go false = let met = long_or_other s.rules waiting word (long_of word) h in step_stops_nowhere word w met.0 met.1 (long_names_none waiting word (long_of word) h) past

  word_past_help : (word : Text) (w : Walk) (is_trailing : Bool) → word_fault s names is_trailing w.waiting word w.held ≡ [] → IsPastHelp w.stopped
      → IsPastHelp (after_step s.rules word w (word_met s.rules names is_trailing w.waiting w.position word w.held).0 (word_met s.rules names is_trailing w.waiting w.position word w.held).1).stopped
  word_past_help word w true none past = step_stops_nowhere word w w.held value tt past
  word_past_help word w false none past = other_past_help w.position word w w.held w.waiting (subcommand_met names w.waiting word) none past

  turn_past_help : (word : Text) (w : Walk) (stopped : Option (Text × List Text)) → (if is_some stopped then [] else or_else (word_fault s names w.is_trailing w.waiting word w.held)
      (step_fault s w.position (word_met s.rules names w.is_trailing w.waiting w.position word w.held).0 (word_met s.rules names w.is_trailing w.waiting w.position word w.held).1)) ≡ []
      → IsPastHelp w.stopped → IsPastHelp stopped → IsPastHelp (walked_from s.rules names stopped w word).stopped
  turn_past_help word w (Some stop) none past here = here
  turn_past_help word w None none past here = word_past_help word w w.is_trailing (no_faults _ _ none).0 past

  pub walk_past_help : (w : Walk) (words : List Text) → walk_fault s names w words ≡ [] → IsPastHelp w.stopped → IsPastHelp (fold (walked s.rules names) w words).stopped
  unfolding walked walk_fault
  walk_past_help w [] none past = past
  walk_past_help w (word ∷ words) none past =
      let both = no_faults _ _ none in
      walk_past_help (walked s.rules names w word) words both.1 (turn_past_help word w w.stopped both.0 past past)
