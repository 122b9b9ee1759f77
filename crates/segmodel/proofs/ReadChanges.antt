-- Why a key reads otherwise at a later moment: which entry came in between.
use Rattle.std.proofs.Common.{◌≡◌, ◌≤◌, ℕ, Bool, true, false, cond, List, [], ◌∷◌, ◌++◌, Option, Some, None, refl, sym, ap, ◌∙◌, subst, inl, inr}
use Rattle.std.specs.Prelude.{◌⊎◌, IsSomeAnd, nat_lt, option_map}
use Rattle.std.proofs.lemmas.Bool.{false≢true, ltb-false}
use Rattle.std.proofs.lemmas.Option.{none-some, same_Some}
use Rattle.segword.specs.Words.{Shape}
use Rattle.segmodel.specs.Words.{Cached, Entry}
use Rattle.segmodel.specs.declared.request.Reply.TheVariants.{Stored, NotStored, Exists, NotFound, Deleted}
use Rattle.segmodel.specs.declared.entry.Entry.TheVariants.{Wrote, Evicted, Refilled, Moved}
use Rattle.segmodel.specs.Request.{key_of, value_of}
use Rattle.segmodel.specs.Cache.{Cache, standing, unless_expired, IsExpired, value_under, reads}
use Rattle.segmodel.specs.History.{Follows, after, IsLegal, CameBetween}
use Rattle.segmodel.specs.Laws.{is_change_of, value_left_by, TakesKeyOut, StoresValue, GoneIsTakenOut, ChangedIsStored}
use Rattle.segmodel.proofs.Keys.{same_key}
use Rattle.segmodel.proofs.LawLemmas.{value-cons}

-- an entry takes the key out, and it reads nothing; or stores a value under it, and it reads that
abbrev Changes : List ℕ → Entry → Option (List ℕ) → Type 0
Changes key entry read = (TakesKeyOut key entry × (read ≡ None)) ⊎ ((value : List ℕ) × StoresValue key value entry × (read ≡ Some value))

changes : (shape : Shape) (history : List Entry) (key : List ℕ) (entry : Entry) (read : Option (List ℕ)) → Follows shape (after shape history) entry
    → is_change_of key entry ≡ true → read ≡ value_left_by entry → Changes key entry read
changes shape history key (Wrote pass request Stored (Some s)) read follows is e = inr (value_of request, (sym (same_key key (key_of request) is), refl), e)
changes shape history key (Wrote pass request Stored None) read follows is e = absurd follows.1
changes shape history key (Wrote pass request Deleted s) read follows is e = inl (sym (same_key key (key_of request) is), e)
changes shape history key (Wrote pass request NotStored s) read follows is e = absurd (false≢true is)
changes shape history key (Wrote pass request Exists s) read follows is e = absurd (false≢true is)
changes shape history key (Wrote pass request NotFound s) read follows is e = absurd (false≢true is)
changes shape history key (Evicted pass k s) read follows is e = inl (sym (same_key key k is), e)
changes shape history key (Refilled pass s d) read follows is e = absurd (false≢true is)
changes shape history key (Moved pass k from to) read follows is e = absurd (false≢true is)

-- one more entry leaves the value under the key, or changes it
one_more : (shape : Shape) (history : List Entry) (key : List ℕ) (entry : Entry) → IsLegal shape (entry ∷ history)
    → (value_under (after shape (entry ∷ history)) key ≡ value_under (after shape history) key) ⊎ Changes key entry (value_under (after shape (entry ∷ history)) key)
one_more shape history key entry legal = by (is_change_of key entry) refl
  where
    read : (b : Bool) → is_change_of key entry ≡ b → value_under (after shape (entry ∷ history)) key ≡ cond b (value_left_by entry) (value_under (after shape history) key)
    read b is = value-cons shape history key entry legal ∙ ap (λ c. cond c (value_left_by entry) (value_under (after shape history) key)) is

    by : (b : Bool) → is_change_of key entry ≡ b
        → (value_under (after shape (entry ∷ history)) key ≡ value_under (after shape history) key) ⊎ Changes key entry (value_under (after shape (entry ∷ history)) key)
    by true is = inr (changes shape history key entry _ legal.1 is (read true is))
    by false is = inl (read false is)

-- what came in between came in between still, with one entry more
pub later : (Is : Entry → Type 0) (entry : Entry) (old new : List Entry) → CameBetween Is old new → CameBetween Is old (entry ∷ new)
later Is entry old new came = (came.0, (came.1.0, came.1.1, (entry ∷ came.1.2.0, ap (λ l. entry ∷ l) came.1.2.1), came.1.3))

gone_since : (shape : Shape) (old more : List Entry) (key value : List ℕ) → IsLegal shape (more ++ old)
    → value_under (after shape old) key ≡ Some value → value_under (after shape (more ++ old)) key ≡ None → CameBetween (TakesKeyOut key) old (more ++ old)
gone_since shape old [] key value legal was none = absurd (none-some value (sym none ∙ was))
gone_since shape old (entry ∷ more) key value legal was none = by (gone_since shape old more key value legal.0 was) (one_more shape (more ++ old) key entry legal)
  where
    by : (value_under (after shape (more ++ old)) key ≡ None → CameBetween (TakesKeyOut key) old (more ++ old))
        → (value_under (after shape (entry ∷ (more ++ old))) key ≡ value_under (after shape (more ++ old)) key) ⊎ Changes key entry (value_under (after shape (entry ∷ (more ++ old))) key)
        → CameBetween (TakesKeyOut key) old (entry ∷ (more ++ old))
    by before (inl same) = later (TakesKeyOut key) entry old (more ++ old) (before (sym same ∙ none))
    by before (inr (inl out)) = (entry, (more ++ old, (more, refl), ([], refl), out.0))
    by before (inr (inr stored)) = absurd (none-some stored.0 (sym none ∙ stored.2))

changed_since : (shape : Shape) (old more : List Entry) (key value other : List ℕ) → IsLegal shape (more ++ old)
    → value_under (after shape old) key ≡ Some value → value_under (after shape (more ++ old)) key ≡ Some other
    → (other ≡ value) ⊎ CameBetween (StoresValue key other) old (more ++ old)
changed_since shape old [] key value other legal was read = inl (same_Some other value (sym read ∙ was))
changed_since shape old (entry ∷ more) key value other legal was read = by (changed_since shape old more key value other legal.0 was) (one_more shape (more ++ old) key entry legal)
  where
    still : (other ≡ value) ⊎ CameBetween (StoresValue key other) old (more ++ old) → (other ≡ value) ⊎ CameBetween (StoresValue key other) old (entry ∷ (more ++ old))
    still (inl same) = inl same
    still (inr came) = inr (later (StoresValue key other) entry old (more ++ old) came)

    by : (value_under (after shape (more ++ old)) key ≡ Some other → (other ≡ value) ⊎ CameBetween (StoresValue key other) old (more ++ old))
        → (value_under (after shape (entry ∷ (more ++ old))) key ≡ value_under (after shape (more ++ old)) key) ⊎ Changes key entry (value_under (after shape (entry ∷ (more ++ old))) key)
        → (other ≡ value) ⊎ CameBetween (StoresValue key other) old (entry ∷ (more ++ old))
    by before (inl same) = still (before (sym same ∙ read))
    by before (inr (inl out)) = absurd (none-some other (sym out.1 ∙ read))
    by before (inr (inr stored)) = inr (entry, (more ++ old, (more, refl), ([], refl), subst (λ v. StoresValue key v entry) (same_Some stored.0 other (sym stored.2 ∙ read)) stored.1))

-- what is read stands
read_stands : (cache : Cache) (now : ℕ) (key value : List ℕ) → reads cache now key ≡ Some value → value_under cache key ≡ Some value
read_stands cache now key value = by (standing cache key)
  where
    by : (stands : Option Cached) → option_map (λ item. item.value) (unless_expired cache.deadline now stands) ≡ Some value → option_map (λ item. item.value) stands ≡ Some value
    by None = λ read. read
    by (Some item) = elim (nat_lt now (cache.deadline item.segment)) as
        (λ over. option_map (λ (x : Cached). x.value) (cond over (Some item) None) ≡ Some value → Some item.value ≡ Some value)
        [ true ↦ λ read. read | false ↦ λ read. absurd (none-some value read) ]

-- where nothing is read nothing stands, or the deadline has come
unread_stands : (cache : Cache) (now : ℕ) (key : List ℕ) → reads cache now key ≡ None → (value_under cache key ≡ None) ⊎ IsExpired cache now key
unread_stands cache now key = by (standing cache key)
  where
    by : (stands : Option Cached) → option_map (λ item. item.value) (unless_expired cache.deadline now stands) ≡ None
        → (option_map (λ item. item.value) stands ≡ None) ⊎ IsSomeAnd stands (λ item. cache.deadline item.segment ≤ now)
    by None = λ read. inl refl
    by (Some item) = decide (nat_lt now (cache.deadline item.segment)) refl
      where
        decide : (over : Bool) → nat_lt now (cache.deadline item.segment) ≡ over → option_map (λ (x : Cached). x.value) (cond over (Some item) None) ≡ None
            → (Some item.value ≡ None) ⊎ (cache.deadline item.segment ≤ now)
        decide true is read = absurd (none-some item.value (sym read))
        decide false is read = inr (ltb-false now (cache.deadline item.segment) is)

pub gone_is_taken_out : GoneIsTakenOut
gone_is_taken_out shape old new later key value legal begins was none = by (unread_stands (after shape new) later key none)
  where
    by : (value_under (after shape new) key ≡ None) ⊎ IsExpired (after shape new) later key → CameBetween (TakesKeyOut key) old new ⊎ IsExpired (after shape new) later key
    by (inl gone) = inl (subst (CameBetween (TakesKeyOut key) old) (sym begins.1)
        (gone_since shape old begins.0 key value (subst (IsLegal shape) begins.1 legal) was
        (subst (λ h. value_under (after shape h) key ≡ None) begins.1 gone)))
    by (inr expired) = inr expired

pub changed_is_stored : ChangedIsStored
changed_is_stored shape old new later key value other legal begins was read =
    subst (λ h. (other ≡ value) ⊎ CameBetween (StoresValue key other) old h) (sym begins.1)
    (changed_since shape old begins.0 key value other (subst (IsLegal shape) begins.1 legal) was
    (subst (λ h. value_under (after shape h) key ≡ Some other) begins.1 (read_stands (after shape new) later key other read)))
