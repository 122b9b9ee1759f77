-- What a pass's contracts count in its trace, and what each step adds to that.
-- Its own entries are `mine pass (seen trace)`.
use Rattle.std.specs.Prelude.{◌≡◌, ℕ, ◌+◌, ◌==◌, ◌&&◌, Bool, false, List, [], ◌∷◌, ◌++◌, if◌then◌else◌}
use Rattle.segmodel.specs.Words.{mine}
use Rattle.segcore.specs.declared.event.Event.{Event}
use Rattle.segcore.specs.declared.event.Event.TheVariants.{Took, Bounced, Glanced, Drew, Bumped, Entered}
use Rattle.segcore.specs.Event.{seen}
use Rattle.segcore.specs.Kind.{Step, adds}

-- the events of a pass that are counted
pub data Counted : Type 0 where
  -- it set a bit
  taken : Counted
  -- a take found another pass's bit set in this bucket
  bounced : (bucket : ℕ) → Counted
  -- a look of a `gets` found that
  glanced : (bucket : ℕ) → Counted
  -- it drew an overflow bucket for this bucket
  drew : (bucket : ℕ) → Counted
  -- it raised the frequency of an item
  raised : Counted
  -- it came into a segment
  entered : Counted

-- the event is of the pass, and of this kind
abbrev pub is_counted : Counted → ℕ → Event → Bool
is_counted taken pass (Took q bucket) = q == pass
is_counted (bounced bucket) pass (Bounced q b) = (q == pass) && (b == bucket)
is_counted (glanced bucket) pass (Glanced q b) = (q == pass) && (b == bucket)
is_counted (drew bucket) pass (Drew q b depth number) = (q == pass) && (b == bucket)
is_counted raised pass (Bumped q segment row frequency) = q == pass
is_counted entered pass (Entered q segment) = q == pass
is_counted _ pass _ = false

-- how often a trace has an event of the pass that is counted
abbrev pub count : Counted → ℕ → List Event → ℕ
count what pass [] = 0
count what pass (event ∷ trace) =
    if is_counted what pass event then count what pass trace + 1 else count what pass trace

-- the counts of a pass before a step of its own and after it
pub record CountsStep (step : Step) (pass found : ℕ) (old new : List Event) : Type 0 where
  pub entries : mine pass (seen new) ≡ seen (adds step pass found) ++ mine pass (seen old)
  pub counts : (what : Counted)
      → count what pass new ≡ count what pass (adds step pass found) + count what pass old
