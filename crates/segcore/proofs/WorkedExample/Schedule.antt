-- The example's schedule: each step is allowed at what its pass has seen, so the world after all of them is reached.
use Rattle.std.proofs.Common.{◌≡◌, ℕ, zero, suc, false, List, [], ◌∷◌, sym, refl, ◌∙◌, subst, inl, inr, arith}
use Rattle.std.proofs.lemmas.List.{get_or-replicate, length-replicate}
use mathlib.Core.Option.{some, some-injective, some-ne-none}
use lib.ListN.{get_elem?}
use Rattle.segword.specs.Words.{IsValid, word_count}
use Rattle.segcore.specs.declared.event.Event.TheVariants.{Took}
use Rattle.segcore.specs.Words.{Cell, View}
use Rattle.segcore.specs.declared.cell.Cell.TheVariants.{OfCounter, OfBucket, OfOverflow, OfSegment, OfRow}
use Rattle.segcore.specs.Kind.{Step, May, take}
use Rattle.segcore.specs.Word.{IsCell, address, word}
use Rattle.segcore.specs.World.{IsFresh, IsOpening, Reaches, ReachesOn}
use Rattle.segcore.specs.Example.{shape, a, b, moved, view_of, opening, view_in, after_steps, to_opened, to_stored, to_bumped, to_moved, to_added, refusing, to_refused, to_replaced, to_relinked, to_evicted, to_refilled}
use Rattle.segcore.proofs.Addresses.{in_count}
use Rattle.segcore.proofs.Spans.{first_words}
use Rattle.segcore.proofs.WorkedExample.Trace.{filled, stored_first, bumped_next, moved_next, added_next, refused_next, replaced_next, move_fits, relinked_next, evicted_next, elsewhere_next}

-- ---- the start

valid : IsValid shape
valid = (((((((0, refl), omega arith), omega arith), (omega arith, omega arith)), (omega arith, omega arith)), (omega arith, omega arith)), omega arith)

start_word : (c : Cell) → IsCell shape c → word shape [] c ≡ 0
start_word OfCounter i = refl
start_word (OfBucket b zero) i = refl
start_word (OfBucket b (suc w)) i = refl
start_word (OfOverflow m w) i = refl
start_word (OfSegment s) i = refl
start_word (OfRow s r j) i = first_words [] s r j i.2

first_view : (p : ℕ) (v : View) → get_elem? opening.views p ≡ some v → IsFresh 2 p v
first_view zero v e = subst (IsFresh 2 0) (some-injective (view_of 0 []) v e) (record { number = refl; unseen = refl; unlooked = refl; unturned = refl; dealt = refl })
first_view (suc zero) v e = subst (IsFresh 2 1) (some-injective (view_of 1 []) v e) (record { number = refl; unseen = refl; unlooked = refl; unturned = refl; dealt = refl })
first_view (suc (suc p)) v e = absurd (some-ne-none v (sym e))

opens : IsOpening shape opening
opens = record {
  valid = valid;
  untouched = refl;
  long = length-replicate {A = ℕ} (word_count shape) 0;
  each = λ c i. get_or-replicate {A = ℕ} (word_count shape) (address shape c) 0 0 (in_count shape c i) ∙ sym (start_word c i);
  new = first_view;
}

-- ---- the steps

-- each step is of a pass that is there, and allowed at what it has seen
abbrev AreAllowed : List (ℕ × Step) → Type 0
AreAllowed [] = Unit {0}
AreAllowed (taken ∷ steps) =
    AreAllowed steps × (get_elem? (after_steps steps).views taken.0 ≡ some (view_in (after_steps steps) taken.0))
    × May shape (view_in (after_steps steps) taken.0).trace taken.0 taken.1

reaches : (steps : List (ℕ × Step)) → AreAllowed steps → Reaches shape steps (after_steps steps)
reaches [] allowed = opens
reaches (taken ∷ steps) allowed = (after_steps steps, view_in (after_steps steps) taken.0, reaches steps allowed.0, allowed.1, allowed.2, refl)

opened_so : AreAllowed to_opened
opened_so = (
  ((tt, refl, (omega arith, ((λ k i. i), refl), omega arith)), refl, (omega arith, ((λ k i. i), refl), omega arith)),
  refl,
  (omega arith, ((λ k i. i), refl), omega arith),
)

stored_so : AreAllowed to_stored
stored_so = (
  (
    (
      (
        (
          (opened_so, refl, (omega arith, refl)),
          refl,
          stored_first.0.0.0.0.1,
        ),
        refl,
        stored_first.0.0.0.1,
      ),
      refl,
      stored_first.0.0.1,
    ),
    refl,
    (stored_first.0.1, ((omega arith, omega arith), (refl, refl, omega arith))),
  ),
  refl,
  ((omega arith, refl), refl, refl, tt),
)

bumped_so : AreAllowed to_bumped
bumped_so = (
  (
    (
      (
        (
          (
            (stored_so, refl, ((omega arith, omega arith), omega arith)),
            refl,
            bumped_next.0.0.1,
          ),
          refl,
          ((omega arith, omega arith), omega arith),
        ),
        refl,
        (omega arith, omega arith, omega arith, inr (inl (omega arith, (a, refl)))),
      ),
      refl,
      (omega arith, ((omega arith, omega arith), (refl, refl, omega arith)), (omega arith, omega arith, omega arith, omega arith), omega arith, omega arith),
    ),
    refl,
    (omega arith, ((omega arith, omega arith), (refl, refl, omega arith)), (omega arith, omega arith, omega arith, omega arith), omega arith, omega arith),
  ),
  refl,
  bumped_next.1,
)

moved_so : AreAllowed to_moved
moved_so = (
  (
    (
      (
        (
          (bumped_so, refl, (omega arith, refl)),
          refl,
          ((omega arith, omega arith), omega arith),
        ),
        refl,
        ((omega arith, refl), refl, refl, omega arith, omega arith, omega arith),
      ),
      refl,
      (moved_next.0.0.1, refl),
    ),
    refl,
    (moved_next.0.1, (refl, refl, omega arith), refl),
  ),
  refl,
  ((omega arith, refl), refl, refl, tt),
)

added_so : AreAllowed to_added
added_so = (
  (
    (
      (
        (
          (
            (
              (moved_so, refl, (omega arith, refl)),
              refl,
              (omega arith, refl),
            ),
            refl,
            (omega arith, refl),
          ),
          refl,
          filled (Took 1 0 ∷ moved) 1 2 0 0 257 (omega arith, omega arith, refl, refl) (omega arith),
        ),
        refl,
        added_next.0.0.0.1,
      ),
      refl,
      added_next.0.0.1,
    ),
    refl,
    (added_next.0.1, ((omega arith, omega arith), (refl, refl, omega arith))),
  ),
  refl,
  ((omega arith, refl), refl, refl, tt),
)

refused_so : AreAllowed to_refused
refused_so = (
  (added_so, refl, (omega arith, refl)),
  refl,
  ((omega arith, refl), refl, refl, (refl, refused_next.0.1)),
)

replaced_so : AreAllowed to_replaced
replaced_so = (
  (
    (
      (
        (
          (
            (refused_so, refl, (omega arith, refl)),
            refl,
            (omega arith, refl),
          ),
          refl,
          replaced_next.0.0.0.0.1,
        ),
        refl,
        replaced_next.0.0.0.1,
      ),
      refl,
      replaced_next.0.0.1,
    ),
    refl,
    (replaced_next.0.1, ((omega arith, omega arith), (1, refl, omega arith, omega arith))),
  ),
  refl,
  ((omega arith, refl), refl, refl, tt),
)

relinked_so : AreAllowed to_relinked
relinked_so = (
  (
    (
      (
        (
          (
            (
              (
                (
                  (replaced_so, refl, (omega arith, refl)),
                  refl,
                  relinked_next.0.0.0.0.0.0.0.1,
                ),
                refl,
                relinked_next.0.0.0.0.0.0.1,
              ),
              refl,
              relinked_next.0.0.0.0.0.1,
            ),
            refl,
            record { guarded = tt; follows = tt; suits = (omega arith, omega arith, omega arith, refl) },
          ),
          refl,
          (omega arith, ((omega arith, omega arith), (1, refl, omega arith, omega arith)), (omega arith, omega arith, omega arith, omega arith), omega arith, omega arith),
        ),
        refl,
        relinked_next.0.0.1,
      ),
      refl,
      (move_fits, ((omega arith, omega arith), (1, refl, omega arith, omega arith))),
    ),
    refl,
    (relinked_next.0.1, ((omega arith, omega arith), (1, refl, omega arith, omega arith))),
  ),
  refl,
  ((omega arith, refl), refl, refl, tt),
)

evicted_so : AreAllowed to_evicted
evicted_so = (
  (
    (
      (
        (
          (relinked_so, refl, (omega arith, refl)),
          refl,
          (evicted_next.0.0.0.0.1, ((omega arith, omega arith), (refl, refl, omega arith))),
        ),
        refl,
        ((omega arith, refl), refl, refl, tt),
      ),
      refl,
      (omega arith, refl),
    ),
    refl,
    (evicted_next.0.1, ((omega arith, omega arith), (1, refl, omega arith, omega arith))),
  ),
  refl,
  ((omega arith, refl), refl, refl, tt),
)

refilled_so : AreAllowed to_refilled
refilled_so = (
  (
    (
      (
        (evicted_so, refl, record { guarded = tt; follows = tt; suits = (omega arith, omega arith, omega arith, refl) }),
        refl,
        (omega arith, ((λ k i. i), refl), omega arith),
      ),
      refl,
      elsewhere_next.0.1,
    ),
    refl,
    elsewhere_next.1,
  ),
  refl,
  (omega arith, ((λ k i. i), refl), omega arith),
)

-- the refused add is a call by itself
pub refusing_on : ReachesOn shape (after_steps to_added) refusing (after_steps to_refused)
refusing_on = let taken = after_steps ((1, take 0 false) ∷ to_added) in let start = after_steps to_added in (
  taken,
  view_in taken 1,
  (start, view_in start 1, refl, refused_so.0.1, refused_so.0.2, refl),
  refused_so.1,
  refused_so.2,
  refl,
)

-- two passes step, and have then seen different ends of one trace
pub reached : Reaches shape to_refilled (after_steps to_refilled)
reached = reaches to_refilled refilled_so
