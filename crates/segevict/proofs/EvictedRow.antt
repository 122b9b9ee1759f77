-- An evict of one row in the terms of its answer: by what became of its row, or refused before any step.
use Rattle.std.proofs.Common.{◌≡◌, ℕ, None, IsSome, refl, sym, ◌∙◌, subst, arith}
use Rattle.std.proofs.lemmas.Bool.{false≢true}
use Rattle.std.proofs.lemmas.Option.{none-some}
use Rattle.segmodel.specs.declared.answer.SegState.TheVariants.{InUse}
use Rattle.segbase.specs.Words.{Board, Pass, state_of, trace}
use Rattle.segbase.proofs.Moves.{stays}
use Rattle.segstore.specs.Words.{IsQuiet, TakesAtMost}
use Rattle.segstore.proofs.Idling.{goes_same}
use Rattle.segevict.specs.declared.eviction.EvictRowAnswer.{EvictRowAnswer}
use Rattle.segevict.specs.declared.eviction.EvictRowAnswer.TheVariants as evict_row
use Rattle.segevict.specs.EvictedRow.{CostsOfEvictRow, EvictsItem, IsEvictRowAnswer}
use Rattle.segevict.specs.Rows.{HasRow}
use Rattle.segevict.specs.Steps.{most_steps_of_evict_row}
use Rattle.segevict.specs.Tries.{StoodAtRow}
use Rattle.segevict.specs.Unlinking.{EvictsRow, IsRowAnswer}
use Rattle.segevict.proofs.KeyTries.{no_tries}
use Rattle.segevict.proofs.Naming.{unnamed}

-- ---- a used row

pub row_out : (b : Board) (segment row : ℕ) (told : EvictRowAnswer) (p q : Pass) → HasRow segment row p
    → EvictsRow b segment row told p q → TakesAtMost (most_steps_of_evict_row told) p q
    → EvictsItem b segment row told p q
row_out b segment row told p q has one steps = record {
  on = one.on;
  answer = out told one.answer;
  not_yours = (
    (λ is. absurd (subst (λ t. IsRowAnswer b segment row t p q) is one.answer)),
    (λ none. absurd (none-some InUse (sym none ∙ has.0))),
  );
  not_used = (
    (λ is. absurd (subst (λ t. IsRowAnswer b segment row t p q) is one.answer)),
    (λ without. absurd (without.1 has)),
  );
  costs = record {
    tries = one.tries;
    steps = steps;
    draws_nothing = one.draws_nothing;
    reads_nothing = one.reads_nothing;
  };
}
  where
    out : (told : EvictRowAnswer) → IsRowAnswer b segment row told p q → IsEvictRowAnswer b.shape segment row told p q
    out evict_row.Evicted a = (
      record { key = a.2.0; linked = a.2.1; entry = a.2.2; plain = one.plain; memo = one.memo },
      unnamed b.shape (trace q) segment row one.on.quiet.pass.lawful a.1,
    )
    out evict_row.Left a = (
      record { entries = a.2; plain = one.plain; memo = one.memo },
      unnamed b.shape (trace q) segment row one.on.quiet.pass.lawful a.1,
    )
    out evict_row.Busy a = (record { entries = a.0; plain = one.plain; memo = one.memo }, a.1)
    out evict_row.NotYours a = absurd a
    out evict_row.NotUsed a = absurd a

-- ---- refused before any step

module _ (b : Board) (segment row : ℕ) (p : Pass) (quiet : IsQuiet b p) where
  costs_none : (told : EvictRowAnswer) → CostsOfEvictRow b segment row told p p
  costs_none told = record {
    tries = no_tries b (StoodAtRow b.shape segment row p p) 1 p p (stays b p quiet.pass);
    steps = omega arith;
    draws_nothing = λ bucket. refl;
    reads_nothing = refl;
  }

  pub out_not_yours : state_of p segment ≡ None → EvictsItem b segment row evict_row.NotYours p p
  out_not_yours none = record {
    on = goes_same b p quiet;
    answer = refl;
    not_yours = ((λ is. none), (λ nobody. refl));
    not_used = (
      (λ is. let no : evict_row.NotYours ≡ evict_row.NotUsed = is in cc),
      (λ without. absurd (false≢true (subst IsSome none without.0))),
    );
    costs = costs_none evict_row.NotYours;
  }

  pub out_not_used : IsSome (state_of p segment) → ¬ (HasRow segment row p) → EvictsItem b segment row evict_row.NotUsed p p
  out_not_used some without = record {
    on = goes_same b p quiet;
    answer = refl;
    not_yours = (
      (λ is. let no : evict_row.NotUsed ≡ evict_row.NotYours = is in cc),
      (λ none. absurd (false≢true (subst IsSome none some))),
    );
    not_used = ((λ is. (some, without)), (λ all. refl));
    costs = costs_none evict_row.NotUsed;
  }
