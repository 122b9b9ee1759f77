-- With one pass, a get and a gets are served as the model says.
use Rattle.std.proofs.Common.{◌≡◌, ◌≢◌, ℕ, ◌≤◌, Bool, true, false, cond, List, Option, Some, None, option_map, refl, sym, ap, ◌∙◌, inl, inr, arith}
use Rattle.std.proofs.lemmas.Option.{none-some}
use Rattle.segmodel.specs.declared.answer.GetAnswer.TheVariants as get
use Rattle.segmodel.specs.declared.answer.GetsAnswer.TheVariants as gets
use Rattle.segmodel.specs.declared.answer.Answer.TheVariants as answer
use Rattle.segmodel.specs.declared.answer.Command.TheVariants as command
use Rattle.segmodel.specs.Words.{after, after_hit, bucket_of, Cached, get_answer, GetAnswer, gets_answer}
use Rattle.segmodel.specs.Words.{GetsAnswer, is_locked, present, reads, reads_version, stirred}
use Rattle.segbase.specs.Words.{Board, locked_of, Pass, seen}
use Rattle.segbase.proofs.Alone.{glanced_alone}
use Rattle.segstore.specs.Words.{ChangesNothing, DrawsNothing, GoesOn}
use Rattle.segread.specs.Hits.{GetRaises, GetsRaises}
use Rattle.segread.specs.Words.{disturbed, IsGetAnswer, IsGetsAnswer, ReadsBetween}
use Rattle.segread.specs.Words.{ReadsVersionBetween}
use Rattle.segsolo.specs.Alone.{state_at, IsAlone, ServesAlone}
use Rattle.segindex.proofs.OnePass.{none_stirred}
use Rattle.segsolo.proofs.AlonePass.{same_moment, same_seen, left, locked_here, free_here}
use Rattle.segsolo.proofs.AloneRows.{frequencies_still, served_still}
use Rattle.segsolo.proofs.AloneHits.{hit_leaves, miss_leaves}
use Rattle.segsolo.proofs.AloneWidths.{same_widths}

-- ---- one moment

module _ (b : Board) (p q : Pass) (key : List ℕ) (now : ℕ) (was : IsAlone b p) (on : GoesOn b p q) (nothing : ChangesNothing p q) where
  -- what a key read at a moment of the call is what it reads now
  pub read_then : (read : Option (List ℕ)) → ReadsBetween b.shape key now (seen p) (seen q) read → reads (after b.shape (seen p)) now key ≡ read
  read_then read (history, between, is) =
      ap (λ h. reads (after b.shape h) now key) (sym (same_moment (seen p) (seen q) history (same_seen b p q was on.quiet nothing.entries) between)) ∙ is

  version_then : (read : Option (List ℕ × ℕ)) → ReadsVersionBetween b.shape key now (seen p) (seen q) read → reads_version b.shape (after b.shape (seen p)) now key ≡ read
  version_then read (history, between, is) =
      ap (λ h. reads_version b.shape (after b.shape h) now key) (sym (same_moment (seen p) (seen q) history (same_seen b p q was on.quiet nothing.entries) between)) ∙ is

  pub never_stirred : 64 ≤ stirred b.shape key (seen p) (seen q) → ⊥
  never_stirred many = let still = none_stirred b p q key was.quiet on.quiet was.one nothing.entries in absurd (omega arith)

  never_disturbed : 64 ≤ disturbed b.shape key (seen p) p q → ⊥
  never_disturbed many =
      let still = none_stirred b p q key was.quiet on.quiet was.one nothing.entries in
      let free = glanced_alone b q (bucket_of b.shape key) on.quiet.pass was.one in absurd (omega arith)

  -- ---- get

  pub got : (told : GetAnswer) → IsGetAnswer b.shape key now told (seen p) (seen q) → told ≡ get_answer (reads (after b.shape (seen p)) now key)
  got (get.Found value) is = sym (ap get_answer (read_then (Some value) is))
  got get.Miss is = sym (ap get_answer (read_then None is))
  got get.Busy many = absurd (never_stirred many)

  -- ---- gets

  none_read : (locked : Bool) (version : ℕ) (found : Option Cached)
      → option_map (λ (item : Cached). item.value) found ≡ None
      → gets_answer locked (option_map (λ (item : Cached). (item.value, version)) found) ≡ gets.Miss
  none_read locked version None is = refl
  none_read locked version (Some item) is = absurd (none-some item.value (sym is))

  some_read : (version : ℕ) (found : Option Cached) (value : List ℕ)
      → option_map (λ (item : Cached). item.value) found ≡ Some value
      → gets_answer true (option_map (λ (item : Cached). (item.value, version)) found) ≡ gets.Busy
  some_read version None value is = absurd (none-some value is)
  some_read version (Some item) value is = refl

  pub versioned : (told : GetsAnswer) → ((value : List ℕ) (version : ℕ) → told ≡ gets.Found value version → locked_of p ≢ Some (bucket_of b.shape key)) → IsGetsAnswer b.shape key now told (seen p) p q
      → told ≡ gets_answer (is_locked b.shape (state_at b.shape p) key) (reads_version b.shape (after b.shape (seen p)) now key)
  versioned (gets.Found value version) unlocked is = sym (λ i. gets_answer (free_here b.shape p key (unlocked value version refl) i) (version_then (Some (value, version)) is i))
  versioned gets.Miss unlocked is = sym (none_read (is_locked b.shape (state_at b.shape p) key)
      ((after b.shape (seen p)).version (bucket_of b.shape key)) (present (after b.shape (seen p)) now key)
      (read_then None is))
  versioned gets.Busy unlocked (inl (inl many)) = absurd (never_stirred many)
  versioned gets.Busy unlocked (inl (inr many)) = absurd (never_disturbed many.0)
  versioned gets.Busy unlocked (inr (locked, (value, is))) = sym (ap (λ here. gets_answer here (reads_version b.shape (after b.shape (seen p)) now key)) (locked_here b.shape p key locked)
      ∙ some_read ((after b.shape (seen p)).version (bucket_of b.shape key)) (present (after b.shape (seen p)) now key) value (read_then (Some value) is))

-- ---- served

pub serves_get : (b : Board) (p q : Pass) (key : List ℕ) (now : ℕ) (told : GetAnswer) → IsAlone b p → GoesOn b p q → DrawsNothing p q → ChangesNothing p q
    → GetRaises b.shape key 0 told p q → IsGetAnswer b.shape key now told (seen p) (seen q) → ServesAlone b (command.Get key now) (answer.Get told) p q
serves_get b p q key now told was on undrawn nothing raises is = served_still b (command.Get key now) (answer.Get told) p q was on nothing
    (ap answer.Get (got b p q key now was on nothing told is), left_by told raises is)
  where
    left_by : (told : GetAnswer) → GetRaises b.shape key 0 told p q
        → IsGetAnswer b.shape key now told (seen p) (seen q)
        → state_at b.shape q ≡ after_hit key (present (after b.shape (seen p)) now key) (state_at b.shape p)
    left_by (get.Found value) raises is = hit_leaves b p q key value now was on undrawn nothing raises (read_then b p q key now was on nothing (Some value) is)
    left_by get.Miss unraised is = miss_leaves b p q key now was on undrawn nothing unraised (read_then b p q key now was on nothing None is)
    left_by get.Busy unraised many = absurd (never_stirred b p q key now was on nothing many)

pub serves_gets : (b : Board) (p q : Pass) (key : List ℕ) (now : ℕ) (told : GetsAnswer) → IsAlone b p → GoesOn b p q → DrawsNothing p q → ChangesNothing p q
    → GetsRaises b.shape key 0 told p q → IsGetsAnswer b.shape key now told (seen p) p q
    → ((value : List ℕ) (version : ℕ) → told ≡ gets.Found value version
    → locked_of p ≢ Some (bucket_of b.shape key))
    → ServesAlone b (command.Gets key now) (answer.Gets told) p q
serves_gets b p q key now told was on undrawn nothing raises is unlocked = served_still b (command.Gets key now) (answer.Gets told) p q was on nothing
    (ap answer.Gets (versioned b p q key now was on nothing told unlocked is), left_by told raises unlocked is)
  where
    value_read : (found : Option Cached) (value : List ℕ) (version : ℕ)
        → option_map {U = List ℕ × ℕ} (λ (item : Cached). (
          item.value,
          (after b.shape (seen p)).version (bucket_of b.shape key),
        )) found ≡ Some (value, version)
        → option_map (λ (item : Cached). item.value) found ≡ Some value
    value_read None value version is = absurd (none-some (value, version) is)
    value_read (Some item) value version is = ap (λ (r : Option (List ℕ × ℕ)). option_map (λ (x : List ℕ × ℕ). x.0) r) is

    either : (locked : Bool) (found : Option Cached) → option_map (λ (item : Cached). item.value) found ≡ None
        → after_hit key found (state_at b.shape p) ≡ cond locked (state_at b.shape p) (after_hit key found (state_at b.shape p))
    either true None none = refl
    either true (Some item) none = absurd (none-some item.value (sym none))
    either false found none = refl

    left_by : (told : GetsAnswer) → GetsRaises b.shape key 0 told p q
        → ((value : List ℕ) (version : ℕ) → told ≡ gets.Found value version
        → locked_of p ≢ Some (bucket_of b.shape key)) → IsGetsAnswer b.shape key now told (seen p) p q
        → state_at b.shape q ≡ cond (is_locked b.shape (state_at b.shape p) key) (state_at b.shape p) (after_hit key (present (after b.shape (seen p)) now key) (state_at b.shape p))
    left_by (gets.Found value version) raises unlocked is =
        hit_leaves b p q key value now was on undrawn nothing raises
        (value_read (present (after b.shape (seen p)) now key) value version
        (version_then b p q key now was on nothing (Some (value, version)) is))
        ∙ sym (ap (λ t. cond t (state_at b.shape p) (after_hit key (present (after b.shape (seen p)) now key) (state_at b.shape p))) (free_here b.shape p key (unlocked value version refl)))
    left_by gets.Miss unraised unlocked is =
        let missed = read_then b p q key now was on nothing None is in
        miss_leaves b p q key now was on undrawn nothing unraised missed ∙ either (is_locked b.shape (state_at b.shape p) key) (present (after b.shape (seen p)) now key) missed
    left_by gets.Busy unraised unlocked (inl (inl many)) = absurd (never_stirred b p q key now was on nothing many)
    left_by gets.Busy unraised unlocked (inl (inr many)) = absurd (never_disturbed b p q key now was on nothing many.0)
    left_by gets.Busy unraised unlocked (inr (locked, there)) =
        left b p q was on nothing (same_widths b p q was on undrawn) (frequencies_still b p q was on nothing.entries unraised)
        ∙ sym (ap (λ t. cond t (state_at b.shape p) (after_hit key (present (after b.shape (seen p)) now key) (state_at b.shape p))) (locked_here b.shape p key locked))
