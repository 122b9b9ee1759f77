-- What is shown command by command: each is answered, keeps what always holds of a state, and makes the history longer.
use Rattle.std.proofs.Common.{◌≡◌, false, [], ◌∷◌, None, refl, sym, ap, ◌∙◌, subst}
use Rattle.std.proofs.lemmas.Bool.{false≢true}
use Rattle.segword.specs.Words.{Shape}
use Rattle.segmodel.specs.Words.{Answer, Outcome, Turn}
use Rattle.segmodel.specs.declared.request.Request.TheVariants.{Set, Add, Replace, Cas, Delete}
use Rattle.segmodel.specs.declared.answer.Command.{Command}
use Rattle.segmodel.specs.declared.answer.Command.TheVariants.{Write, Get, Gets, Keep, Evict, Refill}
use Rattle.segmodel.specs.declared.answer.Answer.TheVariants as answer
use Rattle.segmodel.specs.declared.answer.Turn.TheVariants.{Serve, Hold, Held, Release, Lock, Unlock}
use Rattle.segmodel.specs.declared.answer.Outcome.TheVariants as outcome
use Rattle.segmodel.specs.Cache.{present}
use Rattle.segmodel.specs.State.{State, is_locked, IsSound}
use Rattle.segmodel.specs.Serving.{is_own, Serves}
use Rattle.segmodel.specs.Turns.{Turns}
use Rattle.segmodel.specs.Laws.{Adds, CommandsKeep, EveryTurnIsAnswered, is_evict, OnlyEvictChooses, ServingIsHistory, ServingKeeps, TurnsKeep}
use Rattle.segmodel.proofs.Answered.{delete_is_answered, evict_or_not, same_delete, same_given, same_stored, stored_is_answered}
use Rattle.segmodel.proofs.Evictions.{delete_goes_on, evict_goes_on, refill_goes_on, store_goes_on}
use Rattle.segmodel.proofs.Hits.{hit_cache, hit_cache_unless, IsKept-hit, IsKept-hit_unless}
use Rattle.segmodel.proofs.Keeping.{IsKept-keeps, keep_goes_on}
use Rattle.segmodel.proofs.ServingKeeps.{aside, delete_kept, evict_or, held_filled, refill_kept, store_kept}
use Rattle.segmodel.proofs.Sound.{IsKept-same}

-- ---- every command and every turn has an outcome

command_is_answered : (shape : Shape) (old : State) (command : Command) → IsSound shape old → (given : Answer) × (new : State) × Serves shape old command given new
command_is_answered shape old (Write (Set key value now)) kept = stored_is_answered shape old (Set key value now) refl
command_is_answered shape old (Write (Add key value now)) kept = stored_is_answered shape old (Add key value now) refl
command_is_answered shape old (Write (Replace key value now)) kept = stored_is_answered shape old (Replace key value now) refl
command_is_answered shape old (Write (Cas key value expected now)) kept = stored_is_answered shape old (Cas key value expected now) refl
command_is_answered shape old (Write (Delete key now)) kept = let a = delete_is_answered shape old key now in (answer.Delete a.0, a.1, (a.0, refl, a.2))
command_is_answered shape old (Get key now) kept = (_, _, (refl, refl))
command_is_answered shape old (Gets key now) kept = (_, _, (refl, refl))
command_is_answered shape old (Keep segment cutoff) kept = (_, _, (refl, refl))
command_is_answered shape old (Evict segment) kept =
    let a = evict_or_not shape old segment kept (is_own shape segment) (old.filling segment).state in (answer.Evict a.0, a.1, (a.0, refl, a.2))
command_is_answered shape old (Refill segment deadline) kept = (_, _, (refl, refl))

pub every_turn_is_answered : EveryTurnIsAnswered
every_turn_is_answered shape old (Serve command) kept = let a = command_is_answered shape old command kept in (outcome.Answered a.0, a.1, (a.0, refl, a.2))
every_turn_is_answered shape old (Hold key now) kept = (_, _, (refl, refl))
every_turn_is_answered shape old Held kept = (_, _, (refl, refl))
every_turn_is_answered shape old Release kept = (_, _, (refl, refl))
every_turn_is_answered shape old (Lock key) kept = (_, _, (refl, refl))
every_turn_is_answered shape old Unlock kept = (_, _, (refl, refl))

-- ---- and all but an eviction only one

same_command : (shape : Shape) (old new other : State) (command : Command) (given told : Answer) → is_evict (Serve command) ≡ false
    → Serves shape old command given new → Serves shape old command told other → (told ≡ given) × (other ≡ new)
same_command shape old new other (Write (Set key value now)) given told still one two = same_stored shape old new other (Set key value now) given told one two
same_command shape old new other (Write (Add key value now)) given told still one two = same_stored shape old new other (Add key value now) given told one two
same_command shape old new other (Write (Replace key value now)) given told still one two = same_stored shape old new other (Replace key value now) given told one two
same_command shape old new other (Write (Cas key value expected now)) given told still one two = same_stored shape old new other (Cas key value expected now) given told one two
same_command shape old new other (Write (Delete key now)) given told still one two =
    let same = same_delete shape old new other key now one.0 two.0 one.2 two.2 in
    (two.1 ∙ ap answer.Delete same.0 ∙ sym one.1, same.1)
same_command shape old new other (Get key now) given told still one two = same_given one two
same_command shape old new other (Gets key now) given told still one two = same_given one two
same_command shape old new other (Keep segment cutoff) given told still one two = same_given one two
same_command shape old new other (Evict segment) given told still one two = absurd (false≢true (sym still))
same_command shape old new other (Refill segment deadline) given told still one two = same_given one two

pub only_evict_chooses : OnlyEvictChooses
only_evict_chooses shape old new other (Serve command) given told still one two =
    let same = same_command shape old new other command one.0 two.0 still one.2 two.2 in
    (two.1 ∙ ap outcome.Answered same.0 ∙ sym one.1, same.1)
only_evict_chooses shape old new other (Hold key now) given told still one two = same_given one two
only_evict_chooses shape old new other Held given told still one two = same_given one two
only_evict_chooses shape old new other Release given told still one two = same_given one two
only_evict_chooses shape old new other (Lock key) given told still one two = same_given one two
only_evict_chooses shape old new other Unlock given told still one two = same_given one two

-- ---- each keeps what always holds of a state

pub serving_keeps : ServingKeeps
serving_keeps shape old new (Write (Delete key now)) given kept served = delete_kept shape old new key now served.0 kept served.2
serving_keeps shape old new (Write (Set key value now)) given kept served = store_kept shape old new (Set key value now) served.0 kept served.2
serving_keeps shape old new (Write (Add key value now)) given kept served = store_kept shape old new (Add key value now) served.0 kept served.2
serving_keeps shape old new (Write (Replace key value now)) given kept served = store_kept shape old new (Replace key value now) served.0 kept served.2
serving_keeps shape old new (Write (Cas key value expected now)) given kept served = store_kept shape old new (Cas key value expected now) served.0 kept served.2
serving_keeps shape old new (Get key now) given kept served = IsKept-same served.1 (IsKept-hit shape key (present old.cache now key) old kept)
serving_keeps shape old new (Gets key now) given kept served =
    IsKept-same served.1 (IsKept-hit_unless shape key (is_locked shape old key) (present old.cache now key) old kept)
serving_keeps shape old new (Keep segment cutoff) given kept served = IsKept-same served.1 (IsKept-keeps shape old segment cutoff kept)
serving_keeps shape old new (Evict segment) given kept served = evict_or shape old new segment served.0 (is_own shape segment) kept served.2
serving_keeps shape old new (Refill segment deadline) given kept served = IsKept-same served.1 (refill_kept shape old segment deadline kept _ refl)

turn_keeps : (shape : Shape) (old new : State) (turn : Turn) (given : Outcome) → IsSound shape old → Turns shape old turn given new → IsSound shape new
turn_keeps shape old new (Serve command) given kept turns = serving_keeps shape old new command turns.0 kept turns.2
turn_keeps shape old new (Hold key now) given kept turns = aside shape old new _ old.locked kept (held_filled shape old now key kept old.held refl) turns.1
turn_keeps shape old new Held given kept turns = IsKept-same turns.1 kept
turn_keeps shape old new Release given kept turns = aside shape old new None old.locked kept (λ item e. cc) turns.1
turn_keeps shape old new (Lock key) given kept turns = aside shape old new old.held _ kept kept.held turns.1
turn_keeps shape old new Unlock given kept turns = aside shape old new old.held None kept kept.held turns.1

pub commands_keep : CommandsKeep
commands_keep shape old new [] [] kept run = IsKept-same run kept
commands_keep shape old new [] (given ∷ answers) kept run = absurd run
commands_keep shape old new (command ∷ commands) [] kept run = absurd run
commands_keep shape old new (command ∷ commands) (given ∷ answers) kept run =
    commands_keep shape run.0 new commands answers (serving_keeps shape old run.0 command given kept run.1) run.2

pub turns_keep : TurnsKeep
turns_keep shape old new [] [] kept run = IsKept-same run kept
turns_keep shape old new [] (given ∷ outcomes) kept run = absurd run
turns_keep shape old new (turn ∷ turns) [] kept run = absurd run
turns_keep shape old new (turn ∷ turns) (given ∷ outcomes) kept run =
    turns_keep shape run.0 new turns outcomes (turn_keeps shape old run.0 turn given kept run.1) run.2

-- ---- serving a command is a longer history

pub serving_is_history : ServingIsHistory
serving_is_history shape old new (Write (Delete key now)) given history kept legal is served =
    let h = delete_goes_on shape old new key now served.0 history legal is served.2 in
    (h.0, h.1, h.2, subst (λ g. Adds old.current (Write (Delete key now)) g h.0) (sym served.1) h.3)
serving_is_history shape old new (Write (Set key value now)) given history kept legal is served =
    let h = store_goes_on shape old new (Set key value now) served.0 history kept legal is served.2 in
    (h.0, h.1, h.2, subst (λ g. Adds old.current (Write (Set key value now)) g h.0) (sym served.1) h.3)
serving_is_history shape old new (Write (Add key value now)) given history kept legal is served =
    let h = store_goes_on shape old new (Add key value now) served.0 history kept legal is served.2 in
    (h.0, h.1, h.2, subst (λ g. Adds old.current (Write (Add key value now)) g h.0) (sym served.1) h.3)
serving_is_history shape old new (Write (Replace key value now)) given history kept legal is served =
    let h = store_goes_on shape old new (Replace key value now) served.0 history kept legal is served.2 in
    (h.0, h.1, h.2, subst (λ g. Adds old.current (Write (Replace key value now)) g h.0) (sym served.1) h.3)
serving_is_history shape old new (Write (Cas key value expected now)) given history kept legal is served =
    let h = store_goes_on shape old new (Cas key value expected now) served.0 history kept legal is served.2 in
    (h.0, h.1, h.2, subst (λ g. Adds old.current (Write (Cas key value expected now)) g h.0) (sym served.1) h.3)
serving_is_history shape old new (Get key now) given history kept legal is served =
    ([], legal, ap (λ (s : State). s.cache) served.1 ∙ hit_cache key (present old.cache now key) old ∙ is, subst (λ g. Adds old.current (Get key now) g []) (sym served.0) refl)
serving_is_history shape old new (Gets key now) given history kept legal is served = (
  [],
  legal,
  ap (λ (s : State). s.cache) served.1 ∙ hit_cache_unless key (is_locked shape old key) (present old.cache now key) old ∙ is,
  subst (λ g. Adds old.current (Gets key now) g []) (sym served.0) refl,
)
serving_is_history shape old new (Keep segment cutoff) given history kept legal is served =
    let h = keep_goes_on shape old segment cutoff history kept legal is in
    (h.0, h.1, ap (λ (s : State). s.cache) served.1 ∙ h.2, subst (λ g. Adds old.current (Keep segment cutoff) g h.0) (sym served.0) h.3)
serving_is_history shape old new (Evict segment) given history kept legal is served =
    let h = evict_goes_on shape old new segment served.0 history legal is (is_own shape segment) refl (old.filling segment).state served.2 in
    (h.0, h.1, h.2, subst (λ g. Adds old.current (Evict segment) g h.0) (sym served.1) h.3)
serving_is_history shape old new (Refill segment deadline) given history kept legal is served =
    let h = refill_goes_on shape old new segment deadline history kept legal is _ refl served.1 in
    (h.0, h.1, h.2, subst (λ g. Adds old.current (Refill segment deadline) g h.0) (sym served.0) h.3)
