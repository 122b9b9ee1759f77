-- An eviction of several keys is one entry for each; and so what is served is a longer history.
use Rattle.std.proofs.Common.{◌≡◌, ℕ, ◌+◌, Bool, true, false, cond, not, List, [], ◌∷◌, ◌++◌, length, filter, count_by, Option, Some, None, IsSomeAnd, refl, sym, ap, ◌∙◌, subst, append_assoc, arith, MatchBool, MatchOption}
use Rattle.std.specs.declared.cmp.Ordering.TheVariants.{Less}
use Rattle.std.specs.Ordering.{is_eq, ordering_reverse}
use Rattle.std.specs.List.{AllByRecursion}
use Rattle.std.specs.List.Sorted.{IsStrictlySortedBy}
use Rattle.std.specs.BTreeMap.{is_at}
use Rattle.std.specs.Map.{keys_of, lookup}
use Rattle.std.proofs.lemmas.Cmp.{nat_list_cmp_total}
use Rattle.std.proofs.lemmas.List.{length_push}
use Rattle.segword.specs.Words.{Shape}
use Rattle.segmodel.specs.Words.{Cached, DeleteAnswer, Entry, EvictAnswer, RefillAnswer, Reply}
use Rattle.segmodel.specs.Words.{Request, SegState, WriteAnswer}
use Rattle.segmodel.specs.declared.entry.Entry.TheVariants as entry
use Rattle.segmodel.specs.declared.request.Request.TheVariants.{Delete}
use Rattle.segmodel.specs.declared.answer.Command.TheVariants.{Refill}
use Rattle.segmodel.specs.declared.answer.Answer.TheVariants as answer
use Rattle.segmodel.specs.declared.answer.DeleteAnswer.TheVariants as delete
use Rattle.segmodel.specs.declared.answer.EvictAnswer.TheVariants as evict
use Rattle.segmodel.specs.declared.answer.RefillAnswer.TheVariants as refill
use Rattle.segmodel.specs.declared.answer.SegState.TheVariants as segment_is
use Rattle.segmodel.specs.Places.{owner}
use Rattle.segmodel.specs.Cache.{Cache, key_cmp}
use Rattle.segmodel.specs.History.{Follows, next, after, IsLegal}
use Rattle.segmodel.specs.State.{State, IsSound, is_in, is_locked}
use Rattle.segmodel.specs.Serving.{IsGiven, IsReplied, refusal, reply_of_write, reply_of_delete, ServesStore, ServesDelete, ServesEvict, may_go, is_own, refill_answer, after_refill}
use Rattle.segmodel.specs.Laws.{stored_in, entry_of_reply, IsEvictionFrom, keys_evicted, kept, Adds}
use Rattle.segmodel.proofs.Counts.{count_by-cons, both}
use Rattle.segmodel.proofs.Keys.{at_self}
use Rattle.segmodel.proofs.Ordered.{Above, sorted-after}
use Rattle.segmodel.proofs.ServingKeeps.{own_below, refills, none_stands}
use Rattle.segmodel.proofs.Written.{first_owner, store_is_an_entry, delete_is_an_entry}

-- ---- one key after the other

-- no key above is that key
filter_above : (k : List ℕ) (es : List (List ℕ × Cached)) → Above k (keys_of es) → filter (λ x. not (is_at (key_cmp k) x.0)) es ≡ es
filter_above k [] above = refl
filter_above k (e ∷ es) above =
    ap (λ r. cond (not (is_eq r)) (e ∷ filter (λ x. not (is_at (key_cmp k) x.0)) es) (filter (λ x. not (is_at (key_cmp k) x.0)) es)) above.0
    ∙ ap (λ xs. e ∷ xs) (filter_above k es above.1)

below_mid : (k : List ℕ) (pre : List (List ℕ × Cached)) (e : List ℕ × Cached) (es : List (List ℕ × Cached)) → Above k (keys_of (pre ++ e ∷ es)) → key_cmp k e.0 ≡ Less
below_mid k [] e es above = above.0
below_mid k (p ∷ pre) e es above = below_mid k pre e es above.1

-- in a map in order, an entry in the middle is found under its key, and all others stay when it is taken out
in_middle : (pre : List (List ℕ × Cached)) (e : List ℕ × Cached) (es : List (List ℕ × Cached)) → IsStrictlySortedBy key_cmp (keys_of (pre ++ e ∷ es))
    → (lookup (is_at (key_cmp e.0)) (pre ++ e ∷ es) ≡ Some e.1) × (filter (λ x. not (is_at (key_cmp e.0) x.0)) (pre ++ e ∷ es) ≡ pre ++ es)
unfolding IsStrictlySortedBy
in_middle [] e es sorted = (
  ap (λ b. cond b (Some e.1) (lookup (is_at (key_cmp e.0)) es)) (at_self e.0),
  ap (λ b. cond (not b) (e ∷ filter (λ x. not (is_at (key_cmp e.0) x.0)) es) (filter (λ x. not (is_at (key_cmp e.0) x.0)) es)) (at_self e.0) ∙ filter_above e.0 es sorted.0,
)
in_middle (p ∷ pre) e es sorted =
    let rest = in_middle pre e es sorted.1 in
    let apart : is_at (key_cmp e.0) p.0 ≡ false = ap is_eq (nat_list_cmp_total.antisymm e.0 p.0 ∙ ap ordering_reverse (below_mid p.0 pre e es sorted.0)) in (
      ap (λ b. cond b (Some p.1) (lookup (is_at (key_cmp e.0)) (pre ++ e ∷ es))) apart ∙ rest.0,
      ap (λ b. cond (not b) (p ∷ filter (λ x. not (is_at (key_cmp e.0) x.0)) (pre ++ e ∷ es)) (filter (λ x. not (is_at (key_cmp e.0) x.0)) (pre ++ e ∷ es))) apart
          ∙ ap (λ xs. p ∷ xs) rest.1,
    )

-- the history goes on by one eviction for each of these items that goes
pub record Goes (shape : Shape) (segment : ℕ) (history : List Entry) (items : List (List ℕ × Cached)) (count : ℕ) : Type 0 where
  pub more : List Entry
  pub legal : IsLegal shape (more ++ history)
  pub left : after shape (more ++ history) ≡ record (after shape history) { items = items }
  pub each : AllByRecursion (IsEvictionFrom segment) more
  pub long : length more ≡ count

all_push : (segment : ℕ) (more : List Entry) (key : List ℕ) → AllByRecursion (IsEvictionFrom segment) more → AllByRecursion (IsEvictionFrom segment) (more ++ entry.Evicted 0 key segment ∷ [])
all_push segment [] key all = ((key, refl), tt)
all_push segment (x ∷ more) key all = (all.0, all_push segment more key all.1)

goes_out : (shape : Shape) (segment : ℕ) (goes : List ℕ × Cached → Bool) → owner shape segment ≡ 0 → ((e : List ℕ × Cached) → goes e ≡ true → e.1.segment ≡ segment)
    → (es pre : List (List ℕ × Cached)) (history : List Entry) → IsLegal shape history → (after shape history).items ≡ pre ++ es
    → Goes shape segment history (pre ++ filter (λ e. not (goes e)) es) (count_by goes es)
goes_out shape segment goes own there [] pre history legal is = record {
  more = [];
  legal = legal;
  left = λ i. record (after shape history) { items = is i };
  each = tt;
  long = omega arith;
}
goes_out shape segment goes own there (e ∷ es) pre history legal is = by (goes e) refl (goes_out shape segment goes own there es) (count_by-cons goes e es)
  where
    by : (b : Bool) → goes e ≡ b
        → ((pre : List (List ℕ × Cached)) (history : List Entry) → IsLegal shape history → (after shape history).items ≡ pre ++ es
        → Goes shape segment history (pre ++ filter (λ x. not (goes x)) es) (count_by goes es))
        → count_by goes (e ∷ es) ≡ cond b 1 0 + count_by goes es
        → Goes shape segment history (pre ++ cond (not b) (e ∷ filter (λ x. not (goes x)) es) (filter (λ x. not (goes x)) es)) (count_by goes (e ∷ es))
    by true at go_on sum =
        let here = in_middle pre e es (subst (λ xs. IsStrictlySortedBy key_cmp (keys_of xs)) is (sorted-after shape history)) in
        let found = ap (lookup (is_at (key_cmp e.0))) is ∙ here.0 in
        let follows : Follows shape (after shape history) (entry.Evicted 0 e.0 segment) =
        (subst (λ o. IsSomeAnd o (λ item. item.segment ≡ segment)) (sym found) (there e at), own) in
        let left : (after shape (entry.Evicted 0 e.0 segment ∷ history)).items ≡ pre ++ es = ap (filter (λ x. not (is_at (key_cmp e.0) x.0))) is ∙ here.1 in
        let rest = go_on pre (entry.Evicted 0 e.0 segment ∷ history) (legal, follows) left in
        let joined : (rest.more ++ entry.Evicted 0 e.0 segment ∷ []) ++ history ≡ rest.more ++ entry.Evicted 0 e.0 segment ∷ history =
        append_assoc rest.more (entry.Evicted 0 e.0 segment ∷ []) history in
        let long = length_push rest.more (entry.Evicted 0 e.0 segment) in
        let long' = rest.long in
        record {
          more = rest.more ++ entry.Evicted 0 e.0 segment ∷ [];
          legal = subst (IsLegal shape) (sym joined) rest.legal;
          left = ap (after shape) joined ∙ rest.left;
          each = all_push segment rest.more e.0 rest.each;
          long = omega arith;
        }
    by false at go_on sum =
        let rest = go_on (pre ++ e ∷ []) history legal (is ∙ sym (append_assoc pre (e ∷ []) es)) in
        let long' = rest.long in
        record {
          more = rest.more;
          legal = rest.legal;
          left = rest.left ∙ (λ i. record (after shape history) { items = append_assoc pre (e ∷ []) (filter (λ x. not (goes x)) es) i });
          each = rest.each;
          long = omega arith;
        }

-- ---- each command

-- the history goes on to where the cache is this one, by entries that this answer tells
abbrev pub GoesOn : Shape → List Entry → Cache → (List Entry → Type 0) → Type 0
GoesOn shape history cache Told = (more : List Entry) × IsLegal shape (more ++ history) × (cache ≡ after shape (more ++ history)) × Told more

stays : (shape : Shape) (old new : State) (history : List Entry) (Told : List Entry → Type 0) → IsLegal shape history → old.cache ≡ after shape history → new ≡ old → Told []
    → GoesOn shape history new.cache Told
stays shape old new history Told legal is same told = ([], legal, ap (λ (s : State). s.cache) same ∙ is, told)

goes_by : (shape : Shape) (old new : State) (history : List Entry) (e : Entry) → IsLegal shape history → old.cache ≡ after shape history
    → Follows shape old.cache e → new.cache ≡ next shape old.cache e → (Told : List Entry → Type 0) → Told (e ∷ []) → GoesOn shape history new.cache Told
goes_by shape old new history e legal is follows left Told told =
    (e ∷ [], (legal, subst (λ c. Follows shape c e) is follows), left ∙ ap (λ c. next shape c e) is, told)

pub store_goes_on : (shape : Shape) (old new : State) (request : Request) (given : WriteAnswer) (history : List Entry) → IsSound shape old → IsLegal shape history
    → old.cache ≡ after shape history → ServesStore shape old request given new
    → GoesOn shape history new.cache (λ more. more ≡ entry_of_reply old.current request (reply_of_write given))
store_goes_on shape old new request given history kept legal is served = by (reply_of_write given) refl
  where
    unreplied : (why : Option WriteAnswer) → MatchOption why (IsReplied shape old request (reply_of_write given) new) (λ w. IsGiven w old given new) → reply_of_write given ≡ None → new ≡ old
    unreplied (Some w) refused none = refused.1
    unreplied None replied none = let no : None ≡ Some (_) = sym none ∙ replied.0 in cc

    by : (told : Option Reply) → reply_of_write given ≡ told → GoesOn shape history new.cache (λ more. more ≡ entry_of_reply old.current request told)
    by None none = stays shape old new history (λ more. more ≡ []) legal is (unreplied (refusal shape old request) served none) refl
    by (Some r) some =
        let h = store_is_an_entry shape old new request given r kept served some in
        goes_by shape old new history (entry.Wrote 0 request r (stored_in r old.current)) legal is h.0 h.1 (λ more. more ≡ entry_of_reply old.current request (Some r)) refl

pub delete_goes_on : (shape : Shape) (old new : State) (key : List ℕ) (now : ℕ) (given : DeleteAnswer) (history : List Entry) → IsLegal shape history
    → old.cache ≡ after shape history → ServesDelete shape old key now given new
    → GoesOn shape history new.cache (λ more. more ≡ entry_of_reply old.current (Delete key now) (reply_of_delete given))
delete_goes_on shape old new key now given history legal is served = by (reply_of_delete given) refl
  where
    unreplied : (locked : Bool) → MatchBool locked (IsGiven delete.Busy old given new) (IsReplied shape old (Delete key now) (reply_of_delete given) new) → reply_of_delete given ≡ None → new ≡ old
    unreplied true refused none = refused.1
    unreplied false replied none = let no : None ≡ Some (_) = sym none ∙ replied.0 in cc

    by : (told : Option Reply) → reply_of_delete given ≡ told → GoesOn shape history new.cache (λ more. more ≡ entry_of_reply old.current (Delete key now) told)
    by None none = stays shape old new history (λ more. more ≡ []) legal is (unreplied (is_locked shape old key) served none) refl
    by (Some r) some =
        let h = delete_is_an_entry shape old new key now given r served some in
        goes_by shape old new history (entry.Wrote 0 (Delete key now) r (stored_in r old.current)) legal is h.0 h.1 (λ more. more ≡ entry_of_reply old.current (Delete key now) (Some r)) refl

-- the items that go out of an own segment
taken_goes_on : (shape : Shape) (old : State) (cache : Cache) (segment count : ℕ) (goes : List ℕ × Cached → Bool) (history : List Entry) → IsLegal shape history
    → old.cache ≡ after shape history → is_own shape segment ≡ true → ((e : List ℕ × Cached) → goes e ≡ true → e.1.segment ≡ segment)
    → count ≡ count_by goes old.cache.items → cache ≡ record old.cache { items = filter (λ e. not (goes e)) old.cache.items }
    → GoesOn shape history cache (λ more. AllByRecursion (IsEvictionFrom segment) more × (length more ≡ count))
taken_goes_on shape old cache segment count goes history legal is own there counts left =
    let out = goes_out shape segment goes (first_owner shape segment (own_below segment shape.segments_each own)) there (after shape history).items [] history legal refl in (
      out.more,
      out.legal,
      left ∙ ap (λ (c : Cache). record c { items = filter (λ e. not (goes e)) c.items }) is ∙ sym out.left,
      (out.each, out.long ∙ sym (counts ∙ ap (λ (c : Cache). count_by goes c.items) is)),
    )

is_there : (segment : ℕ) (e : List ℕ × Cached) → is_in segment e ≡ true → e.1.segment ≡ segment
is_there segment e is = grind (arith, is)

pub evict_goes_on : (shape : Shape) (old new : State) (segment : ℕ) (given : EvictAnswer) (history : List Entry) → IsLegal shape history → old.cache ≡ after shape history
    → (own : Bool) → is_own shape segment ≡ own → (state : SegState) → MatchBool own (ServesEvict shape old segment state given new) (IsGiven evict.NotYours old given new)
    → GoesOn shape history new.cache (λ more. AllByRecursion (IsEvictionFrom segment) more × (length more ≡ keys_evicted given))
evict_goes_on shape old new segment given history legal is false own state served =
    stays shape old new history (λ more. AllByRecursion (IsEvictionFrom segment) more × (length more ≡ keys_evicted given)) legal is served.1 (tt, sym (ap keys_evicted served.0))
evict_goes_on shape old new segment given history legal is true own segment_is.Empty served =
    stays shape old new history (λ more. AllByRecursion (IsEvictionFrom segment) more × (length more ≡ keys_evicted given)) legal is served.1 (tt, sym (ap keys_evicted served.0))
evict_goes_on shape old new segment given history legal is true own segment_is.Evicted served =
    stays shape old new history (λ more. AllByRecursion (IsEvictionFrom segment) more × (length more ≡ keys_evicted given)) legal is served.1 (tt, sym (ap keys_evicted served.0))
evict_goes_on shape old new segment (evict.Evicted n) history legal is true own segment_is.InUse served =
    taken_goes_on shape old new.cache segment n (is_in segment) history legal is own (is_there segment) served.1 (ap (λ (s : State). s.cache) served.2)
evict_goes_on shape old new segment (evict.Busy n) history legal is true own segment_is.InUse served =
    taken_goes_on shape old new.cache segment n (may_go shape old segment served.1.0) history legal is own
    (λ e goes. is_there segment e (both _ _ (both _ _ goes).0).0) served.1.1 (ap (λ (s : State). s.cache) served.1.2)
evict_goes_on shape old new segment evict.NotYours history legal is true own segment_is.InUse served = absurd served

pub refill_goes_on : (shape : Shape) (old new : State) (segment deadline : ℕ) (history : List Entry) → IsSound shape old → IsLegal shape history → old.cache ≡ after shape history
    → (told : RefillAnswer) → cond (is_own shape segment) (refill_answer old segment (old.filling segment).state) refill.NotYours ≡ told → new ≡ after_refill segment deadline told old
    → GoesOn shape history new.cache (Adds old.current (Refill segment deadline) (answer.Refill told))
refill_goes_on shape old new segment deadline history kept legal is refill.Refilled at left =
    let mine = refills shape old segment (is_own shape segment) (old.filling segment).state at in
    goes_by shape old new history (entry.Refilled 0 segment deadline) legal is (none_stands shape old segment kept mine.1, first_owner shape segment (own_below segment shape.segments_each mine.0))
    (ap (λ (s : State). s.cache) left) (Adds old.current (Refill segment deadline) (answer.Refill refill.Refilled)) refl
refill_goes_on shape old new segment deadline history kept legal is refill.NotYours at left = stays shape old new history (λ more. more ≡ []) legal is left refl
refill_goes_on shape old new segment deadline history kept legal is refill.NotEvicted at left = stays shape old new history (λ more. more ≡ []) legal is left refl
refill_goes_on shape old new segment deadline history kept legal is refill.Held at left = stays shape old new history (λ more. more ≡ []) legal is left refl
