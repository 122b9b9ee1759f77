-- With one pass and any draw, a get and a gets are served as the model says, but for the frequencies of items.
use Rattle.std.proofs.Common.{◌≡◌, ℕ, Bool, true, false, cond, eqb, List, [], length, Option, Some, None, option_map, refl, sym, ap, subst, ◌∙◌}
use Rattle.std.proofs.lemmas.Bool.{eqb-true}
use Rattle.segword.specs.Words.{Shape}
use Rattle.segmodel.specs.declared.answer.Answer.TheVariants as answer
use Rattle.segmodel.specs.declared.answer.Command.{Command}
use Rattle.segmodel.specs.declared.answer.Command.TheVariants as command
use Rattle.segmodel.specs.Words.{after, after_hit, Answer, Cached, Filling, GetAnswer, GetsAnswer, is_locked, IsSound, present, raised_in, State}
use Rattle.segbase.specs.Words.{Board, Memo, Pass, seen, state_in, own_segment}
use Rattle.segbase.specs.declared.pass.PlainPart.{PlainPart}
use Rattle.segindex.proofs.Since.{get_since, gets_since}
use Rattle.segstore.specs.Words.{ChangesNothing, DrawsNothing, GoesOn}
use Rattle.segread.specs.Words.{ReadsKey, ReadsVersion}
use Rattle.segstore.proofs.Keeping.{stored_in}
use Rattle.segsolo.specs.Alone.{frequencies_in, IsAlone, item_of, or_empty, ServesAlone, ServesButFrequencies, state_at, with_frequencies}
use Rattle.segsolo.specs.Stored.{items_stored_in, keys_stored_in}
use Rattle.segsolo.proofs.AlonePass.{at_state, counts_still, same_seen}
use Rattle.segsolo.proofs.AloneReads.{got, versioned}
use Rattle.segsolo.proofs.AloneRows.{still_named}
use Rattle.segsolo.proofs.AloneWidths.{same_widths}
use Rattle.segsolo.proofs.Rows.{as_many, items_some}

-- ---- states that differ in frequencies

-- what is sound is so with other frequencies, if there are as many
sound_with : (shape : Shape) (frequencies : ℕ → List ℕ) (state : State)
    → ((segment : ℕ) → length (frequencies segment) ≡ length (state.filling segment).keys) → IsSound shape state
    → IsSound shape (with_frequencies frequencies state)
sound_with shape frequencies state long sound = record {
  items = sound.items;
  ordered = sound.ordered;
  count = sound.count;
  frequencies = long;
  rows = sound.rows;
  own = sound.own;
  in_use = sound.in_use;
  width = sound.width;
  drawn = sound.drawn;
  words = sound.words;
  held = sound.held;
}

-- a hit changes frequencies alone
hit_with : (frequencies : ℕ → List ℕ) (key : List ℕ) (found : Option Cached) (state : State) → with_frequencies frequencies (after_hit key found state) ≡ with_frequencies frequencies state
hit_with frequencies key None state = refl
hit_with frequencies key (Some item) state = λ i. record state { filling = λ segment. by segment (eqb item.segment segment) (eqb-true item.segment segment) i }
  where
    raised : Filling
    raised = raised_in key (state.filling item.segment)

    by : (segment : ℕ) (here : Bool) → (here ≡ true → item.segment ≡ segment)
        → ◌≡◌ {A = Filling} (record (cond here (raised_in key (state.filling item.segment)) (state.filling segment))
        { frequencies = frequencies segment }) (record (state.filling segment) {
          frequencies =
              frequencies segment;
        })
    by segment true is = ap {B = Filling} (λ s. record (state.filling s) { frequencies = frequencies segment }) (is refl)
    by segment false is = refl

if_hit_with : (frequencies : ℕ → List ℕ) (locked : Bool) (key : List ℕ) (found : Option Cached) (state : State)
    → with_frequencies frequencies (cond locked state (after_hit key found state)) ≡ with_frequencies frequencies
    state
if_hit_with frequencies true key found state = refl
if_hit_with frequencies false key found state = hit_with frequencies key found state

-- ---- a call that changed nothing but frequencies

module _ (b : Board) (p q : Pass) (was : IsAlone b p) (on : GoesOn b p q) (undrawn : DrawsNothing p q) (nothing : ChangesNothing p q) where
  same : seen q ≡ seen p
  same = same_seen b p q was on.quiet nothing.entries

  at_frequencies : state_at b.shape q ≡ with_frequencies (frequencies_in b.shape q) (state_at b.shape p)
  at_frequencies = let widths = same_widths b p q was on undrawn in
      at_state b.shape q (with_frequencies (frequencies_in b.shape q) (state_at b.shape p)) (ap (after b.shape) same)
      (λ segment. ap (λ (x : PlainPart). or_empty (state_in (own_segment x segment))) nothing.plain)
      (λ segment. ap (λ h. keys_stored_in b.shape h segment) same) (λ segment. refl) (ap (λ (x : PlainPart). x.current) nothing.plain) widths.wide widths.drawn
      (ap (λ (m : Memo). option_map item_of m.holding) nothing.memo) (ap (λ (x : PlainPart). x.locked) nothing.plain)

  still_alone : IsAlone b q
  still_alone = record {
    one = was.one;
    quiet = on.quiet;
    used = counts_still b.shape p q was.used same (ap stored_in nothing.plain);
    rows = still_named b p q [] was on nothing.entries tt;
    kept = subst (IsSound b.shape) (sym at_frequencies) (sound_with b.shape (frequencies_in b.shape q) (state_at b.shape p)
        (λ segment. as_many _ _ 0 (items_stored_in b.shape (seen q) segment) (items_some b.shape (seen q) segment) ∙ ap (λ h. length (keys_stored_in b.shape h segment)) same) was.kept);
  }

-- ---- what is served

-- what is served exactly is served so but for frequencies
pub exactly : (b : Board) (command : Command) (told : Answer) (p q : Pass) → ServesAlone b command told p q → ServesButFrequencies b command told p q
exactly b command told p q served = (served.0, state_at b.shape q, served.1, ((λ segment. ((state_at b.shape q).filling segment).frequencies), refl))

pub get_served : (b : Board) (p q : Pass) (key : List ℕ) (draw now : ℕ) (told : GetAnswer) → IsAlone b p
    → ReadsKey b key draw now told p q → ServesButFrequencies b (command.Get key now) (answer.Get told) p q
get_served b p q key draw now told was is =
    let found = present (after b.shape (seen p)) now key in (
      still_alone b p q was is.on is.costs.looks.draws_nothing is.keeps,
      after_hit key found (state_at b.shape p),
      (ap answer.Get (got b p q key now was is.on is.keeps told (get_since b.shape key now told p q is.answer)), refl),
      (frequencies_in b.shape q, at_frequencies b p q was is.on is.costs.looks.draws_nothing is.keeps ∙ sym (hit_with (frequencies_in b.shape q) key found (state_at b.shape p))),
    )

pub gets_served : (b : Board) (p q : Pass) (key : List ℕ) (draw now : ℕ) (told : GetsAnswer) → IsAlone b p
    → ReadsVersion b key draw now told p q → ServesButFrequencies b (command.Gets key now) (answer.Gets told) p q
gets_served b p q key draw now told was is =
    let found = present (after b.shape (seen p)) now key in
    let locked = is_locked b.shape (state_at b.shape p) key in (
      still_alone b p q was is.on is.costs.looks.draws_nothing is.keeps,
      cond locked (state_at b.shape p) (after_hit key found (state_at b.shape p)),
      (ap answer.Gets (versioned b p q key now was is.on is.keeps told is.unlocked (gets_since b.shape key now told p q is.answer)), refl),
      (frequencies_in b.shape q, at_frequencies b p q was is.on is.costs.looks.draws_nothing is.keeps ∙ sym (if_hit_with (frequencies_in b.shape q) locked key found (state_at b.shape p))),
    )
