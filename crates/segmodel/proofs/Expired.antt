-- What a moment doesn't find no later one finds, until the key is stored anew.
use Rattle.std.proofs.Common.{◌≡◌, ◌≤◌, ℕ, Bool, true, false, cond, not, List, [], ◌∷◌, ◌++◌, Option, Some, None, refl, sym, ap, ◌∙◌, subst, inl, inr, arith}
use Rattle.std.specs.Prelude.{◌⊎◌, IsSomeAnd, nat_lt, option_map}
use Rattle.std.proofs.lemmas.Bool.{le-ltb, ltb-false}
use Rattle.std.proofs.lemmas.Option.{none-some}
use Rattle.std.specs.BTreeMap.{is_at}
use Rattle.segword.specs.Words.{Shape}
use Rattle.segmodel.specs.Words.{Cached, Entry}
use Rattle.segmodel.specs.declared.request.Reply.TheVariants.{Stored, NotStored, Exists, NotFound, Deleted}
use Rattle.segmodel.specs.declared.entry.Entry.TheVariants.{Wrote, Evicted, Refilled, Moved}
use Rattle.segmodel.specs.Request.{key_of, value_of}
use Rattle.segmodel.specs.Cache.{Cache, key_cmp, standing, unless_expired, present, reads, without, with_segment}
use Rattle.segmodel.specs.History.{Follows, next, after, IsLegal, CameBetween}
use Rattle.segmodel.specs.Laws.{ExpiredReadsNothing, StoresKey, NothingUntilStored}
use Rattle.segmodel.proofs.Keys.{same_key}
use Rattle.segmodel.proofs.HistoryLemmas.{standing-put, standing-without, refilled_others}
use Rattle.segmodel.proofs.Moves.{present-moved}
use Rattle.segmodel.proofs.ReadChanges.{later}

pub expired_reads_nothing : ExpiredReadsNothing
expired_reads_nothing cache now key = by (standing cache key)
  where
    by : (stands : Option Cached) → IsSomeAnd stands (λ item. cache.deadline item.segment ≤ now) → option_map (λ (x : Cached). x.value) (unless_expired cache.deadline now stands) ≡ None
    by None expired = absurd expired
    by (Some item) expired = ap (λ over. option_map (λ (x : Cached). x.value) (cond over (Some item) None)) (le-ltb now (cache.deadline item.segment) expired)

-- what isn't read isn't found
not_found : (o : Option Cached) → option_map (λ (x : Cached). x.value) o ≡ None → o ≡ None
not_found None e = refl
not_found (Some x) e = absurd (none-some x.value (sym e))

-- what a moment doesn't find no later one finds
not_later : (cache : Cache) (now moment : ℕ) (key : List ℕ) → now ≤ moment → present cache now key ≡ None → present cache moment key ≡ None
not_later cache now moment key order = by (standing cache key)
  where
    by : (stands : Option Cached) → unless_expired cache.deadline now stands ≡ None → unless_expired cache.deadline moment stands ≡ None
    by None = λ none. refl
    by (Some item) = decide (nat_lt now (cache.deadline item.segment)) refl
      where
        decide : (over : Bool) → nat_lt now (cache.deadline item.segment) ≡ over → ◌≡◌ {A = Option Cached} (cond over (Some item) None) None
            → ◌≡◌ {A = Option Cached} (cond (nat_lt moment (cache.deadline item.segment)) (Some item) None) None
        decide true is none = absurd (none-some item (sym none))
        decide false is none =
            let come : cache.deadline item.segment ≤ now = ltb-false now (cache.deadline item.segment) is in
            ap (λ o. cond o (Some item) None) (le-ltb moment (cache.deadline item.segment) (omega arith))

-- an entry that doesn't store the key leaves it absent
still_absent : (shape : Shape) (cache : Cache) (entry : Entry) (now : ℕ) (key : List ℕ) → Follows shape cache entry → present cache now key ≡ None
    → (present (next shape cache entry) now key ≡ None) ⊎ StoresKey key entry
still_absent shape cache entry now key = by entry
  where
    found : Option Cached → Option Cached
    found stands = unless_expired cache.deadline now stands

    gone : (k : List ℕ) → present cache now key ≡ None → present (without k cache) now key ≡ None
    gone k none = ap found (standing-without k cache key)
        ∙ elim (is_at (key_cmp k) key) as (λ b. found (cond (not b) (standing cache key) None) ≡ None) [ true ↦ refl | false ↦ none ]

    by : (entry : Entry) → Follows shape cache entry → present cache now key ≡ None → (present (next shape cache entry) now key ≡ None) ⊎ StoresKey key entry
    by (Wrote pass request Stored (Some s)) follows none = put (is_at (key_cmp key) (key_of request)) refl
      where
        put : (b : Bool) → is_at (key_cmp key) (key_of request) ≡ b
            → (present (next shape cache (Wrote pass request Stored (Some s))) now key ≡ None)
            ⊎ StoresKey key (Wrote pass request Stored (Some s))
        put true is = inr (sym (same_key key (key_of request) is))
        put false is = inl (ap found (standing-put shape (key_of request) (value_of request) s cache key
            ∙ ap (λ b. cond b (Some (record { value = value_of request; segment = s })) (standing cache key)) is) ∙ none)
    by (Wrote pass request Stored None) follows none = absurd follows.1
    by (Wrote pass request Deleted s) follows none = inl (gone (key_of request) none)
    by (Wrote pass request NotStored s) follows none = inl none
    by (Wrote pass request Exists s) follows none = inl none
    by (Wrote pass request NotFound s) follows none = inl none
    by (Evicted pass k s) follows none = inl (gone k none)
    by (Refilled pass s d) follows none = inl (refilled_others shape cache pass s d key follows now ∙ none)
    by (Moved pass k from to) follows none = inl (present-moved shape cache pass from to now k key follows
        ∙ elim (is_at (key_cmp k) key) as (λ b. cond b (option_map (with_segment to) (present cache now key)) (present cache now key) ≡ None)
        [ true ↦ ap (option_map (with_segment to)) none | false ↦ none ])

absent_since : (shape : Shape) (old more : List Entry) (now : ℕ) (key : List ℕ) → IsLegal shape (more ++ old) → present (after shape old) now key ≡ None
    → (present (after shape (more ++ old)) now key ≡ None) ⊎ CameBetween (StoresKey key) old (more ++ old)
absent_since shape old [] now key legal none = inl none
absent_since shape old (entry ∷ more) now key legal none = by (absent_since shape old more now key legal.0 none)
  where
    last : (present (after shape (entry ∷ (more ++ old))) now key ≡ None) ⊎ StoresKey key entry
        → (present (after shape (entry ∷ (more ++ old))) now key ≡ None) ⊎ CameBetween (StoresKey key) old (entry ∷ (more ++ old))
    last (inl still) = inl still
    last (inr stores) = inr (entry, (more ++ old, (more, refl), ([], refl), stores))

    by : (present (after shape (more ++ old)) now key ≡ None) ⊎ CameBetween (StoresKey key) old (more ++ old)
        → (present (after shape (entry ∷ (more ++ old))) now key ≡ None) ⊎ CameBetween (StoresKey key) old (entry ∷ (more ++ old))
    by (inl still) = last (still_absent shape (after shape (more ++ old)) entry now key legal.1 still)
    by (inr came) = inr (later (StoresKey key) entry old (more ++ old) came)

pub nothing_until_stored : NothingUntilStored
nothing_until_stored shape old new now moment key legal begins order none =
    by (absent_since shape old begins.0 now key (subst (IsLegal shape) begins.1 legal) (not_found _ none))
  where
    by : (present (after shape (begins.0 ++ old)) now key ≡ None) ⊎ CameBetween (StoresKey key) old (begins.0 ++ old)
        → (reads (after shape new) moment key ≡ None) ⊎ CameBetween (StoresKey key) old new
    by (inl still) = inl (ap (λ o. option_map (λ (x : Cached). x.value) o)
        (not_later (after shape new) now moment key order (subst (λ h. present (after shape h) now key ≡ None) (sym begins.1) still)))
    by (inr came) = inr (subst (CameBetween (StoresKey key) old) (sym begins.1) came)
