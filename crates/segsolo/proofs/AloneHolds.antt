-- With one pass, a hold, a held and a release are served as the model says.
use Rattle.std.proofs.Common.{◌≡◌, ◌≢◌, ℕ, true, false, List, is_some, Option, Some, None, option_map, refl, sym, ap, subst, ◌∙◌, ⊎_elim}
use Rattle.std.specs.Prelude.{◌↔◌, IfSome}
use Rattle.std.proofs.lemmas.Bool.{false≢true, cases_Bool}
use Rattle.std.proofs.lemmas.Option.{none-some}
use Rattle.segmodel.specs.declared.answer.Turn.TheVariants as turn
use Rattle.segmodel.specs.declared.answer.Outcome.TheVariants as outcome
use Rattle.segmodel.specs.Words.{after, Cached, present, reads}
use Rattle.segmodel.specs.Turns as turns
use Rattle.segcore.specs.Event as event
use Rattle.segbase.specs.Words.{Board, Held, holding, is_holding_of, mine, Pass, seen}
use Rattle.segread.specs.declared.held.HoldAnswer.TheVariants as answer
use Rattle.segstore.specs.Words.{ChangesNothing, DrawsNothing, GoesOn, RaisesNothing}
use Rattle.segread.specs.Words.{Hold, HoldAnswer, HoldsItem, IsHoldAnswer, IsHoldOf, ReadsHeld}
use Rattle.segread.specs.Words.{Releases, ReleasesHold, SetsHold}
use Rattle.segstore.proofs.Keeping.{stored_in}
use Rattle.segstore.proofs.Costs.{draws_nothing, reads_nothing}
use Rattle.segindex.proofs.Since.{between_since, reads_since, stirred_since}
use Rattle.segsolo.specs.Alone.{item_of, state_at, IsAlone, TurnsAlone, outcome_of_hold}
use Rattle.segsolo.proofs.AlonePass.{none_if, same_moment, same_seen, as_was, left}
use Rattle.segsolo.proofs.AloneRows.{frequencies_still, turned_kept, turned_still}
use Rattle.segsolo.proofs.AloneReads.{read_then, never_stirred}
use Rattle.segsolo.proofs.AloneWidths.{same_widths}

-- it holds nothing where its plain part says so
holds_nothing : (b : Board) (p : Pass) → IsAlone b p → is_holding_of p ≡ false → holding p ≡ None
holds_nothing b p was not = none_if (holding p) (sym was.quiet.holds ∙ not)

-- a pass that no call was made with is at the same state
untouched : (b : Board) (p q : Pass) → q ≡ p → state_at b.shape q ≡ state_at b.shape p
untouched b p q same = ap (state_at b.shape) same

module _ (b : Board) (p q : Pass) (was : IsAlone b p) (on : GoesOn b p q) (undrawn : DrawsNothing p q) (unraised : RaisesNothing p q) where
  -- another item is held, or none; the rest is as it was
  holds_alone : (held : Option Held) → mine q ≡ mine p → SetsHold held p q → state_at b.shape q ≡ record (state_at b.shape p) { held = option_map item_of held }
  holds_alone held same sets =
      as_was b.shape p q (same_seen b p q was on.quiet same) (ap stored_in sets.plain) (same_widths b p q was on undrawn) (frequencies_still b p q was on same unraised)
      ∙ (λ i. record (state_at b.shape p) { held = option_map item_of ((sets.memo i).holding); locked = (sets.plain i).locked })

  -- ---- hold

  free_hold : (told : HoldAnswer) → ((told ≡ answer.AlreadyHolding) ↔ (is_holding_of p ≡ true)) → told ≢ answer.AlreadyHolding → holding p ≡ None
  free_hold told already other = ⊎_elim
      (λ is. absurd (other (already.1 is)))
      (λ not. holds_nothing b p was not)
      (cases_Bool (is_holding_of p))

  holds_still : (held : Option Held) (found : Option Cached) → is_some held ≡ true
      → (outcome.AlreadyHolding ≡ turns.hold_outcome (option_map item_of held) found) × (option_map item_of held ≡ turns.held_after (option_map item_of held) found)
  holds_still None found is = absurd (false≢true is)
  holds_still (Some held) found is = (refl, refl)

  none_present : (found : Option Cached) → option_map (λ (item : Cached). item.value) found ≡ None → found ≡ None
  none_present None is = refl
  none_present (Some item) is = absurd (none-some item.value (sym is))

  hold_turn : (key : List ℕ) (now : ℕ) (told : HoldAnswer) → IsHoldAnswer b.shape key now told p q → ((told ≡ answer.AlreadyHolding) ↔ (is_holding_of p ≡ true))
      → TurnsAlone b (turn.Hold key now) (outcome_of_hold told) p q
  hold_turn key now (answer.Holding hold) takes already =
      let same = same_seen b p q was on.quiet takes.entries in
      let held = takes.is.held in
      let free : option_map item_of (holding p) ≡ None = ap (option_map item_of) (free_hold (answer.Holding hold) already (λ e. cc)) in
      let found : present (after b.shape (seen p)) now key ≡ Some (item_of held) =
      (λ i. present (after b.shape (sym (same_moment (seen p) (seen q) (event.seen held.trace) same
      (between_since p q (event.seen held.trace) takes.between)) i)) now (sym takes.of i)) ∙ takes.finds in
      turned_kept b (turn.Hold key now) outcome.Holding p q was on takes.entries (ap stored_in takes.sets.plain) (
        (λ i. turns.hold_outcome (sym free i) (sym found i)),
        holds_alone (Some held) takes.entries takes.sets
            ∙ ap (λ o. record (state_at b.shape p) { held = o }) (λ i. turns.held_after (sym free i) (sym found i)),
      )
  hold_turn key now answer.Miss (nothing, gone) already =
      let free : option_map item_of (holding p) ≡ None = ap (option_map item_of) (free_hold answer.Miss already (λ e. cc)) in
      let absent : present (after b.shape (seen p)) now key ≡ None =
      none_present (present (after b.shape (seen p)) now key)
      (read_then b p q key now was on nothing None (reads_since b.shape key now p q None gone)) in
      turned_still b (turn.Hold key now) outcome.Miss p q was on nothing (
        (λ i. turns.hold_outcome (sym free i) (sym absent i)),
        left b p q was on nothing (same_widths b p q was on undrawn) (frequencies_still b p q was on nothing.entries unraised)
            ∙ ap (λ o. record (state_at b.shape p) { held = o }) (free ∙ (λ i. turns.held_after (sym free i) (sym absent i))),
      )
  hold_turn key now answer.Busy (nothing, many) already = absurd (never_stirred b p q key now was on nothing (stirred_since b.shape key p q many))
  hold_turn key now answer.AlreadyHolding same already =
      let stays = holds_still (holding p) (present (after b.shape (seen p)) now key) (sym was.quiet.holds ∙ already.0 refl) in
      turned_still b (turn.Hold key now) outcome.AlreadyHolding p q was on (as_nothing same) (
        stays.0,
        untouched b p q same ∙ ap (λ o. record (state_at b.shape p) { held = o }) stays.1,
      )
    where
      as_nothing : q ≡ p → ChangesNothing p q
      as_nothing same = record { entries = ap mine same; plain = ap (λ (x : Pass). x.plain) same; memo = ap (λ (x : Pass). x.seat.me.0.memo) same }

  -- ---- held

  held_turn : (hold : Hold) (value : List ℕ) → IsHoldOf b.shape hold p → ChangesNothing p q → IfSome (holding p) (λ held. value ≡ held.value)
      → TurnsAlone b turn.Held (outcome.Value value) p q
  held_turn hold value is nothing reads = turned_still b turn.Held (outcome.Value value) p q was on nothing (
    ap outcome.Value (subst (λ (o : Option Held). IfSome o (λ (held : Held). value ≡ held.value)) is.holds reads) ∙ sym (ap (λ o. turns.held_outcome (option_map item_of o)) is.holds),
    left b p q was on nothing (same_widths b p q was on undrawn) (frequencies_still b p q was on nothing.entries unraised),
  )

  -- ---- release

  release_turn : (hold : Hold) → IsHoldOf b.shape hold p → Releases p q → TurnsAlone b turn.Release outcome.Released p q
  release_turn hold is releases = turned_kept b turn.Release outcome.Released p q was on releases.entries (ap stored_in releases.sets.plain) (
    sym (ap (λ o. turns.release_outcome (option_map item_of o)) is.holds),
    holds_alone None releases.entries releases.sets,
  )

-- ---- as turns

pub turns_hold : (b : Board) (p q : Pass) (key : List ℕ) (now : ℕ) (told : HoldAnswer) → IsAlone b p → HoldsItem b key now told p q → TurnsAlone b (turn.Hold key now) (outcome_of_hold told) p q
turns_hold b p q key now told was is = hold_turn b p q was is.on is.costs.looks.draws_nothing is.costs.raises_nothing key now told is.answer is.already

pub turns_held : (b : Board) (p q : Pass) (hold : Hold) (value : List ℕ) → IsAlone b p → IsHoldOf b.shape hold p → ReadsHeld b hold value p q → TurnsAlone b turn.Held (outcome.Value value) p q
turns_held b p q hold value was of is = held_turn b p q was is.on (draws_nothing p q is.costs_nothing) (ap (λ r. r.0) (reads_nothing p q is.costs_nothing)) hold value of is.keeps is.value

pub turns_release : (b : Board) (p q : Pass) (hold : Hold) → IsAlone b p → IsHoldOf b.shape hold p → ReleasesHold b p q → TurnsAlone b turn.Release outcome.Released p q
turns_release b p q hold was of is = release_turn b p q was is.on (draws_nothing p q is.costs_nothing) (ap (λ r. r.0) (reads_nothing p q is.costs_nothing)) hold of is.releases

-- where nothing is held, no call is made

pub turns_not_held : (b : Board) (p q : Pass) → IsAlone b p → q ≡ p → is_holding_of p ≡ false → TurnsAlone b turn.Held outcome.NotHolding p q
turns_not_held b p q was same not = (
  subst (IsAlone b) (sym same) was,
  (sym (ap (λ o. turns.held_outcome (option_map item_of o)) (holds_nothing b p was not)), untouched b p q same),
)

pub turns_not_released : (b : Board) (p q : Pass) → IsAlone b p → q ≡ p → is_holding_of p ≡ false → TurnsAlone b turn.Release outcome.NotHolding p q
turns_not_released b p q was same not =
    let free = holds_nothing b p was not in (
      subst (IsAlone b) (sym same) was,
      (sym (ap (λ o. turns.release_outcome (option_map item_of o)) free), untouched b p q same ∙ ap (λ o. record (state_at b.shape p) { held = option_map item_of o }) free),
    )
