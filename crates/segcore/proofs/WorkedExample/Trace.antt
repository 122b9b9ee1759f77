-- The example is lawful: no rule on the way contradicts another.
use Rattle.std.proofs.Common.{◌≡◌, ℕ, zero, suc, ◌+◌, ◌*◌, ◌<◌, ◌≤◌, cond, eqb, sym, Bool, true, false, List, [], ◌∷◌, Some, None, refl, ◌∙◌, inl, inr, arith, length, get_or}
use Rattle.std.proofs.lemmas.Bool.{cond-false, ne_eqb}
use Rattle.segword.specs.Words.{IsKey, IsValue, row_width}
use Rattle.segword.specs.Row.{value_width, word_at, words_from}
use Rattle.segword.proofs.RowLemmas.{get_or-words_from}
use Rattle.segcore.specs.Words.{Event}
use Rattle.segcore.specs.declared.event.Event.TheVariants.{Took, Bounced, Glanced, Freed, Filled, Relinked}
use Rattle.segcore.specs.Bucket.{slot, bucket_after}
use Rattle.segcore.specs.Row.{Row, Holds, row_after, row_alone}
use Rattle.segcore.proofs.Spans.{first_words}
use Rattle.segcore.specs.Lawful.{IsOwnRow, Fits, IsLawful}
use Rattle.segcore.specs.Example.{shape, a, b, opened, stored, bumped, moved, added, refused, replaced, relinked, evicted, elsewhere, refilled, two}

-- ---- keys, values and rows

small : (x : ℕ) → x < 256 → (i d : ℕ) → i < length (x ∷ []) → get_or (x ∷ []) i d < 256
small x lt zero d p = lt
small x lt (suc i) d p = absurd (omega arith)

is_key : (x : ℕ) → x < 256 → IsKey (x ∷ [])
is_key x lt = record { not_empty = omega arith; fits = omega arith; all_bytes = small x lt }

is_value : (x : ℕ) → x < 256 → IsValue (x ∷ [])
is_value x lt = record { fits = omega arith; all_bytes = small x lt }

-- the words of one byte, past the first
past_value : (v n : ℕ) → suc n < value_width 1 → get_or (words_from (value_width 1) (v ∷ []) 0) (suc n) 0 ≡ 0
past_value v n lt = get_or-words_from (value_width 1) (v ∷ []) 0 (suc n) lt ∙ none (0 + 8 * suc n) (omega arith)
  where
    none : (from : ℕ) → 1 ≤ from → word_at (v ∷ []) from ≡ 0
    none zero lt = absurd (omega arith)
    none (suc from) lt = nothing from
      where
        nothing : (from : ℕ) → word_at [] from ≡ 0
        nothing zero = refl
        nothing (suc from) = refl

-- the places that were stored are none of those behind
past_stored : (header key value n : ℕ) → cond (eqb 4 (suc (suc (suc (suc (suc n)))))) value
    (cond (eqb 1 (suc (suc (suc (suc (suc n)))))) key (cond (eqb 0 (suc (suc (suc (suc (suc n)))))) header 0)) ≡ 0
past_stored header key value n =
    let m : ℕ = suc (suc (suc (suc (suc n)))) in
    cond-false (eqb 4 m) value _ (ne_eqb 4 m (λ e. omega (arith, e)))
    ∙ cond-false (eqb 1 m) key _ (ne_eqb 1 m (λ e. omega (arith, e)))
    ∙ cond-false (eqb 0 m) header 0 (ne_eqb 0 m (λ e. omega (arith, e)))

-- a row of one byte of key and one of value
held : (u : Row) (k v : ℕ) → u.words 0 ≡ 257 → u.words 1 ≡ k → u.words 2 ≡ 0 → u.words 3 ≡ 0 → u.words 4 ≡ v → ((n : ℕ) → u.words (suc (suc (suc (suc (suc n))))) ≡ 0) → Holds u (k ∷ []) (v ∷ [])
held u k v e0 e1 e2 e3 e4 past zero lt = e0
held u k v e0 e1 e2 e3 e4 past (suc zero) lt = e1 ∙ omega arith
held u k v e0 e1 e2 e3 e4 past (suc (suc zero)) lt = e2
held u k v e0 e1 e2 e3 e4 past (suc (suc (suc zero))) lt = e3
held u k v e0 e1 e2 e3 e4 past (suc (suc (suc (suc zero)))) lt = e4 ∙ omega arith
held u k v e0 e1 e2 e3 e4 past (suc (suc (suc (suc (suc n))))) lt = past n ∙ sym (past_value v n (omega arith))

-- where the words were stored in the row by itself
holds : (h : List Event) (s r k v : ℕ) → (row_alone h s r).words 0 ≡ 257 → (row_alone h s r).words 1 ≡ k → (row_alone h s r).words 2 ≡ 0 → (row_alone h s r).words 3 ≡ 0
    → (row_alone h s r).words 4 ≡ v → ((n : ℕ) → (row_alone h s r).words (suc (suc (suc (suc (suc n))))) ≡ 0)
    → Holds (row_after h s r) (k ∷ []) (v ∷ [])
holds h s r k v e0 e1 e2 e3 e4 past j lt = first_words h s r j lt ∙ held (row_alone h s r) k v e0 e1 e2 e3 e4 past j lt

-- ---- events that ask for little

pub took : (h : List Event) (p : ℕ) → (bucket_after shape h 0).holder ≡ None → Fits shape h (Took p 0)
took h p none = record { guarded = (omega arith, none); follows = tt; suits = tt }

pub freed : (h : List Event) (p : ℕ) (c : Bool) → (bucket_after shape h 0).holder ≡ Some p → (bucket_after shape h 0).written ≡ c → (bucket_after shape h 0).spare ≡ None → Fits shape h (Freed p 0 c)
freed h p c has w sp = record { guarded = (omega arith, has); follows = tt; suits = (w, sp) }

pub filled : (h : List Event) (p s r j w : ℕ) → IsOwnRow shape h p s r → j < row_width → Fits shape h (Filled p s r j w)
filled h p s r j w own lt = record { guarded = tt; follows = tt; suits = (own, lt) }

-- ---- the trace

pub opened_first : IsLawful shape opened
opened_first = (
  (
    (tt, record { guarded = tt; follows = ((λ k i. i), refl); suits = (omega arith, refl, refl, omega arith) }),
    record { guarded = tt; follows = ((λ k i. i), refl); suits = (omega arith, refl, refl, omega arith) },
  ),
  record { guarded = tt; follows = ((λ k i. i), refl); suits = (omega arith, refl, refl, omega arith) },
)

pub stored_first : IsLawful shape stored
stored_first = (
  (
    (
      (
        ((opened_first, took _ 0 refl), filled _ 0 0 0 0 257 (omega arith, omega arith, refl, refl) (omega arith)),
        filled _ 0 0 0 1 97 (omega arith, omega arith, refl, refl) (omega arith),
      ),
      filled _ 0 0 0 4 49 (omega arith, omega arith, refl, refl) (omega arith),
    ),
    record {
      guarded = (omega arith, refl);
      follows = (refl, refl);
      suits = (
        (omega arith, omega arith, refl, refl),
        holds (Filled 0 0 0 4 49 ∷ Filled 0 0 0 1 97 ∷ Filled 0 0 0 0 257 ∷ Took 0 0 ∷ opened) 0 0 97 49 refl refl refl refl refl (past_stored 257 97 49),
        refl,
        (omega arith, omega arith),
        inl (refl, refl),
        is_key 97 (omega arith),
        is_value 49 (omega arith),
      );
    },
  ),
  freed _ 0 true refl refl refl,
)

pub bumped_next : IsLawful shape bumped
bumped_next = (
  (
    (stored_first, record { guarded = tt; follows = tt; suits = (omega arith, omega arith, omega arith, refl) }),
    record { guarded = tt; follows = tt; suits = (omega arith, omega arith) },
  ),
  record { guarded = tt; follows = tt; suits = (omega arith, omega arith, omega arith) },
)

pub moved_next : IsLawful shape moved
moved_next = (
  (
    (
      (
        (bumped_next, took _ 0 refl),
        record { guarded = (omega arith, refl); follows = tt; suits = (refl, omega arith, refl, refl, omega arith) },
      ),
      record { guarded = (omega arith, refl); follows = tt; suits = (0, refl, (slot a 0 0, refl, (2, omega arith, refl))) },
    ),
    record { guarded = (omega arith, refl); follows = tt; suits = (refl, (slot a 0 0, 0xaf60_2000_0000_0000, refl, refl)) },
  ),
  freed _ 0 false refl refl refl,
)

pub added_next : IsLawful shape added
added_next = (
  (
    (
      (
        (
          (
            (
              (moved_next, took _ 1 refl),
              record { guarded = tt; follows = tt; suits = (1, refl, omega arith) },
            ),
            record { guarded = tt; follows = tt; suits = (1, refl, omega arith) },
          ),
          filled _ 1 2 0 0 257 (omega arith, omega arith, refl, refl) (omega arith),
        ),
        filled _ 1 2 0 1 98 (omega arith, omega arith, refl, refl) (omega arith),
      ),
      filled _ 1 2 0 4 50 (omega arith, omega arith, refl, refl) (omega arith),
    ),
    record {
      guarded = (omega arith, refl);
      follows = (refl, refl);
      suits = (
        (omega arith, omega arith, refl, refl),
        holds (Filled 1 2 0 4 50 ∷ Filled 1 2 0 1 98 ∷ Filled 1 2 0 0 257 ∷ Glanced 0 0 ∷ Bounced 0 0 ∷ Took 1 0 ∷ moved) 2 0 98 50 refl refl refl refl refl (past_stored 257 98 50),
        refl,
        (omega arith, omega arith),
        inl (refl, refl),
        is_key 98 (omega arith),
        is_value 50 (omega arith),
      );
    },
  ),
  freed _ 1 true refl refl refl,
)

pub refused_next : IsLawful shape refused
refused_next = (
  (
    (added_next, took _ 1 refl),
    record { guarded = (omega arith, refl); follows = (refl, refl); suits = tt },
  ),
  freed _ 1 false refl refl refl,
)

pub replaced_next : IsLawful shape replaced
replaced_next = (
  (
    (
      (
        ((refused_next, took _ 0 refl), filled _ 0 0 1 0 257 (omega arith, omega arith, refl, refl) (omega arith)),
        filled _ 0 0 1 1 97 (omega arith, omega arith, refl, refl) (omega arith),
      ),
      filled _ 0 0 1 4 50 (omega arith, omega arith, refl, refl) (omega arith),
    ),
    record {
      guarded = (omega arith, refl);
      follows = (refl, refl);
      suits = (
        (omega arith, omega arith, refl, refl),
        holds (Filled 0 0 1 4 50 ∷ Filled 0 0 1 1 97 ∷ Filled 0 0 1 0 257 ∷ Took 0 0 ∷ refused) 0 1 97 50 refl refl refl refl refl (past_stored 257 97 50),
        refl,
        (omega arith, omega arith),
        inr (slot a 0 0, refl, refl),
        is_key 97 (omega arith),
        is_value 50 (omega arith),
      );
    },
  ),
  freed _ 0 true refl refl refl,
)

-- the move fits already where its pass hasn't seen the hit
pub move_fits : Fits shape (Filled 0 1 0 4 50 ∷ Filled 0 1 0 1 97 ∷ Filled 0 1 0 0 257 ∷ Took 0 0 ∷ replaced) (Relinked 0 a 0 1 1 0 9)
move_fits = record {
  guarded = (omega arith, refl);
  follows = (refl, refl, refl, (λ e. absurd (omega arith)), refl);
  suits = (
    (omega arith, omega arith, refl, refl),
    (two, refl, holds (Filled 0 1 0 4 50 ∷ Filled 0 1 0 1 97 ∷ Filled 0 1 0 0 257 ∷ Took 0 0 ∷ replaced) 1 0 97 50 refl refl refl refl refl (past_stored 257 97 50)),
    refl,
  );
}

pub relinked_next : IsLawful shape relinked
relinked_next = (
  (
    (
      (
        (
          (
            (
              ((replaced_next, took _ 0 refl), filled _ 0 1 0 0 257 (omega arith, omega arith, refl, refl) (omega arith)),
              filled _ 0 1 0 1 97 (omega arith, omega arith, refl, refl) (omega arith),
            ),
            filled _ 0 1 0 4 50 (omega arith, omega arith, refl, refl) (omega arith),
          ),
          record { guarded = tt; follows = tt; suits = (omega arith, omega arith, omega arith, refl) },
        ),
        record { guarded = tt; follows = tt; suits = (omega arith, omega arith) },
      ),
      record { guarded = tt; follows = tt; suits = (omega arith, omega arith, omega arith) },
    ),
    record {
      guarded = (omega arith, refl);
      follows = (refl, refl, refl, (λ e. absurd (omega arith)), refl);
      suits = (
        (omega arith, omega arith, refl, refl),
        (two, refl, holds (Filled 0 1 0 4 50 ∷ Filled 0 1 0 1 97 ∷ Filled 0 1 0 0 257 ∷ Took 0 0 ∷ replaced) 1 0 97 50 refl refl refl refl refl (past_stored 257 97 50)),
        refl,
      );
    },
  ),
  freed _ 0 false refl refl refl,
)

pub evicted_next : IsLawful shape evicted
evicted_next = (
  (
    (
      (
        (
          (relinked_next, took _ 0 refl),
          record { guarded = (omega arith, refl); follows = (refl, refl); suits = (slot b 2 0, refl, refl, refl) },
        ),
        freed _ 0 true refl refl refl,
      ),
      took _ 0 refl,
    ),
    record { guarded = (omega arith, refl); follows = (refl, refl); suits = (slot a 1 0, refl, refl, refl) },
  ),
  freed _ 0 false refl refl refl,
)

pub elsewhere_next : IsLawful shape elsewhere
elsewhere_next = (
  (
    (evicted_next, record { guarded = tt; follows = tt; suits = (omega arith, omega arith, omega arith, refl) }),
    record { guarded = tt; follows = tt; suits = (omega arith, omega arith, omega arith) },
  ),
  record { guarded = tt; follows = tt; suits = (omega arith, omega arith, omega arith, refl) },
)

-- the whole of it
pub example : IsLawful shape refilled
example = (
  elsewhere_next,
  record { guarded = tt; follows = ((λ k i. i), refl); suits = (omega arith, refl, refl, omega arith) },
)
