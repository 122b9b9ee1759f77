-- What is served keeps what always holds of a state.
use Rattle.std.proofs.Common.{◌≡◌, ℕ, ◌<◌, ◌⊎◌, inl, inr, ◌&&◌, ◌≢◌, eq-eqb, not, IsSomeAnd, Bool, true, false, cond, List, [], ◌∷◌, Option, Some, None, is_some, refl, sym, ap, ◌∙◌, subst, arith, nat_lt, MatchBool, MatchOption}
use Rattle.std.proofs.lemmas.Bool.{false≢true}
use Rattle.std.specs.List.{list_all}
use Rattle.std.specs.Map.{lookup}
use Rattle.std.specs.BTreeMap.{is_at}
use Rattle.segword.specs.Words.{Shape, span_of}
use Rattle.segmodel.specs.Words.{Cached, DeleteAnswer, EvictAnswer, RefillAnswer, Reply}
use Rattle.segmodel.specs.Words.{Request, SegState, WriteAnswer}
use Rattle.segmodel.specs.declared.request.Request.TheVariants.{Delete}
use Rattle.segmodel.specs.declared.request.Reply.TheVariants as reply
use Rattle.segmodel.specs.declared.answer.WriteAnswer.TheVariants as write
use Rattle.segmodel.specs.declared.answer.DeleteAnswer.TheVariants as delete
use Rattle.segmodel.specs.declared.answer.EvictAnswer.TheVariants as evict
use Rattle.segmodel.specs.declared.answer.RefillAnswer.TheVariants as refill
use Rattle.segmodel.specs.declared.answer.SegState.TheVariants.{Empty, InUse, Evicted}
use Rattle.segmodel.specs.Places.{bucket_of}
use Rattle.segmodel.specs.Request.{key_of, value_of, reply_to}
use Rattle.segmodel.specs.Cache.{key_cmp, standing, present, reply_in}
use Rattle.segmodel.specs.History.{NoneStandsIn}
use Rattle.segmodel.specs.State.{State, IsSound, is_in_use, is_stored, is_locked}
use Rattle.segmodel.specs.Serving.{IsGiven, IsReplied, is_own, lacks_rows, lacks_word, may_chain, stored, after_reply, reply_of_write, reply_of_delete, ServesStore, ServesDelete, ServesEvict, may_go, is_held, refill_answer, after_refill}
use Rattle.segmodel.specs.Turns.{held_after}
use Rattle.segmodel.specs.Laws.{RefilledWhereNoneStands, HeldIsNotRefilled}
use Rattle.segmodel.proofs.Counts.{both}
use Rattle.segmodel.proofs.Keys.{same_key}
use Rattle.segmodel.proofs.HistoryLemmas.{present_stands}
use Rattle.segmodel.proofs.Spans.{has_rows, lacks_none}
use Rattle.segmodel.proofs.Words.{stored_fits}
use Rattle.segmodel.proofs.Sound.{IsKept-same, IsKept-stored, IsKept-deleted, IsKept-taken, IsKept-evicted, IsKept-refilled}

-- ---- replies

pub own_below : (segment each : ℕ) → nat_lt segment each ≡ true → segment < each
own_below segment each is = grind (arith, is)

may_where : (lacks may : Bool) → (lacks && not may) ≡ false → lacks ≡ true → may ≡ true
may_where true true word is = refl
may_where true false word is = absurd (false≢true (sym word))
may_where false may word is = absurd (false≢true is)

stored_kept : (shape : Shape) (request : Request) (state : State) → IsSound shape state → (current : Option ℕ) → state.current ≡ current
    → lacks_rows shape (span_of (key_of request) (value_of request)) state.filling current ≡ false
    → (lacks_word shape state request && not (may_chain shape state (bucket_of shape (key_of request)))) ≡ false
    → reply_in shape state.cache request ≡ reply.Stored → IsSound shape (stored shape request current state)
stored_kept shape request state kept None is room word replied =
    absurd (false≢true (sym room ∙ lacks_none shape (span_of (key_of request) (value_of request)) state.filling))
stored_kept shape request state kept (Some s) is room word replied =
    IsKept-stored shape (key_of request) (value_of request) s (lacks_word shape state request) state kept is (has_rows shape (span_of (key_of request) (value_of request)) state.filling s room)
    (may_where (lacks_word shape state request) (may_chain shape state (bucket_of shape (key_of request))) word) (stored_fits shape request s state kept replied)

replied_kept : (shape : Shape) (request : Request) (told : Reply) (state : State) → IsSound shape state
    → lacks_rows shape (span_of (key_of request) (value_of request)) state.filling state.current ≡ false
    → (lacks_word shape state request && not (may_chain shape state (bucket_of shape (key_of request)))) ≡ false
    → reply_in shape state.cache request ≡ told → IsSound shape (after_reply shape request told state)
replied_kept shape request reply.Stored state kept room word is = stored_kept shape request state kept state.current refl room word is
replied_kept shape request reply.Deleted state kept room word is = IsKept-deleted shape (key_of request) state kept
replied_kept shape request reply.NotStored state kept room word is = kept
replied_kept shape request reply.Exists state kept room word is = kept
replied_kept shape request reply.NotFound state kept room word is = kept

-- a refusal changes nothing, and where there is none a row is left, and a word or a chain that may grow
refused_or : (out locked full : Bool) (P : Type 0) (Q : WriteAnswer → Type 0) → MatchOption (cond out (Some write.NoRoom) (cond locked (Some write.Busy) (cond full (Some write.BucketFull) None))) P Q
    → ((why : WriteAnswer) × Q why) ⊎ ((out ≡ false) × (full ≡ false) × P)
refused_or true locked full P Q h = inl (write.NoRoom, h)
refused_or false true full P Q h = inl (write.Busy, h)
refused_or false false true P Q h = inl (write.BucketFull, h)
refused_or false false false P Q h = inr (refl, refl, h)

pub store_kept : (shape : Shape) (old new : State) (request : Request) (given : WriteAnswer) → IsSound shape old → ServesStore shape old request given new → IsSound shape new
store_kept shape old new request given kept served = elim (refused_or (lacks_rows shape (span_of (key_of request) (value_of request)) old.filling old.current) (is_locked shape old (key_of request))
    (lacks_word shape old request && not (may_chain shape old (bucket_of shape (key_of request))))
    (IsReplied shape old request (reply_of_write given) new) (λ why. IsGiven why old given new) served) [
      | inl refused ↦ IsKept-same refused.1.1 kept
      | inr replied ↦ IsKept-same replied.2.1 (replied_kept shape request (reply_in shape old.cache request) old kept replied.0 replied.1 refl)
    ]

pub delete_kept : (shape : Shape) (old new : State) (key : List ℕ) (now : ℕ) (given : DeleteAnswer) → IsSound shape old → ServesDelete shape old key now given new → IsSound shape new
delete_kept shape old new key now given kept served = by (is_locked shape old key) served
  where
    gone : (here : Bool) (version : ℕ) → new ≡ after_reply shape (Delete key now) (reply_to (Delete key now) here version) old → IsSound shape new
    gone true version left = IsKept-same left (IsKept-deleted shape key old kept)
    gone false version left = IsKept-same left kept

    by : (locked : Bool) → MatchBool locked (IsGiven delete.Busy old given new) (IsReplied shape old (Delete key now) (reply_of_delete given) new) → IsSound shape new
    by true busy = IsKept-same busy.1 kept
    by false replied = gone (is_some (present old.cache now key)) (old.cache.version (bucket_of shape key)) replied.1

-- ---- evict and refill

evict_kept : (shape : Shape) (old new : State) (segment : ℕ) (is : SegState) (given : EvictAnswer) → IsSound shape old → ServesEvict shape old segment is given new → IsSound shape new
evict_kept shape old new segment Empty given kept served = IsKept-same served.1 kept
evict_kept shape old new segment Evicted given kept served = IsKept-same served.1 kept
evict_kept shape old new segment InUse (evict.Evicted n) kept served = IsKept-same served.2 (IsKept-evicted shape segment old kept)
evict_kept shape old new segment InUse (evict.Busy n) kept served = IsKept-same served.1.2 (IsKept-taken shape segment (may_go shape old segment served.1.0) old kept)
evict_kept shape old new segment InUse evict.NotYours kept served = absurd served

pub evict_or : (shape : Shape) (old new : State) (segment : ℕ) (given : EvictAnswer) (own : Bool) → IsSound shape old
    → MatchBool own (ServesEvict shape old segment (old.filling segment).state given new) (IsGiven evict.NotYours old given new) → IsSound shape new
evict_or shape old new segment given true kept served = evict_kept shape old new segment (old.filling segment).state given kept served
evict_or shape old new segment given false kept served = IsKept-same served.1 kept

-- a refill that is answered Refilled is of an own segment that is not in use
pub refills : (shape : Shape) (state : State) (segment : ℕ) (own : Bool) (is : SegState) → cond own (refill_answer state segment is) refill.NotYours ≡ refill.Refilled
    → (own ≡ true) × (is_in_use is ≡ false)
refills shape state segment true Empty e = (refl, refl)
refills shape state segment true Evicted e = (refl, refl)
refills shape state segment true InUse e = cc
refills shape state segment false is e = cc

pub refill_kept : (shape : Shape) (old : State) (segment deadline : ℕ) → IsSound shape old → (given : RefillAnswer)
    → cond (is_own shape segment) (refill_answer old segment (old.filling segment).state) refill.NotYours ≡ given → IsSound shape (after_refill segment deadline given old)
refill_kept shape old segment deadline kept refill.Refilled e =
    let own = refills shape old segment (is_own shape segment) (old.filling segment).state e in
    IsKept-refilled shape segment deadline old kept own.1 (own_below segment shape.segments_each own.0)
refill_kept shape old segment deadline kept refill.NotYours e = kept
refill_kept shape old segment deadline kept refill.NotEvicted e = kept
refill_kept shape old segment deadline kept refill.Held e = kept

-- ---- turns

-- what is found under a key passes the test that all items pass
pub found_passes : (p : List ℕ × Cached → Bool) (key : List ℕ) (item : Cached) (items : List (List ℕ × Cached)) → list_all p items ≡ true
    → lookup (is_at (key_cmp key)) items ≡ Some item → p (key, item) ≡ true
found_passes p key item [] all found = cc
found_passes p key item (e ∷ es) all found =
    let parts = both (p e) (list_all p es) all in
    by (is_at (key_cmp key) e.0) refl found (found_passes p key item es parts.1)
  where
    by : (here : Bool) → is_at (key_cmp key) e.0 ≡ here → cond here (Some e.1) (lookup (is_at (key_cmp key)) es) ≡ Some item
        → (lookup (is_at (key_cmp key)) es ≡ Some item → p (key, item) ≡ true) → p (key, item) ≡ true
    by true is found rest =
        let same : e.1 ≡ item = cc in
        subst (λ k. p (k, item) ≡ true) (sym (same_key key e.0 is)) (subst (λ x. p (e.0, x) ≡ true) same (both (p e) (list_all p es) all).0)
    by false is found rest = rest found

-- what stands is in a segment that was filled
filled : (shape : Shape) (state : State) (now : ℕ) (key : List ℕ) (item : Cached) → IsSound shape state → present state.cache now key ≡ Some item → (state.filling item.segment).state ≢ Empty
filled shape state now key item kept found empty =
    let stored = found_passes (is_stored state.filling) key item state.cache.items kept.items (present_stands state.cache now key item found) in
    false≢true (sym (ap is_in_use empty) ∙ (both _ _ stored).0)

-- what is held then is in a segment that was filled
pub held_filled : (shape : Shape) (state : State) (now : ℕ) (key : List ℕ) → IsSound shape state → (held : Option Cached) → state.held ≡ held
    → (item : Cached) → held_after held (present state.cache now key) ≡ Some item → (state.filling item.segment).state ≢ Empty
held_filled shape state now key kept None is item e = filled shape state now key item kept e
held_filled shape state now key kept (Some x) is item e = kept.held item (is ∙ e)

-- a hold of an item whose segment was filled, and a lock
pub aside : (shape : Shape) (old new : State) (held : Option Cached) (locked : Option ℕ) → IsSound shape old
    → ((item : Cached) → held ≡ Some item → (old.filling item.segment).state ≢ Empty) → new ≡ record old { held = held; locked = locked } → IsSound shape new
aside shape old new held locked kept filled is = IsKept-same is (record {
  items = kept.items;
  ordered = kept.ordered;
  count = kept.count;
  frequencies = kept.frequencies;
  rows = kept.rows;
  own = kept.own;
  in_use = kept.in_use;
  width = kept.width;
  drawn = kept.drawn;
  words = kept.words;
  held = filled;
})

-- ---- refilled where nothing stands

pub none_stands : (shape : Shape) (state : State) (segment : ℕ) → IsSound shape state → is_in_use (state.filling segment).state ≡ false → NoneStandsIn state.cache segment
none_stands shape state segment kept unused key stands = by (standing state.cache key) refl stands
  where
    by : (o : Option Cached) → standing state.cache key ≡ o → IsSomeAnd o (λ item. item.segment ≡ segment) → ⊥
    by None is none = absurd none
    by (Some item) is same =
        let stored = found_passes (is_stored state.filling) key item state.cache.items kept.items is in
        false≢true (sym unused ∙ ap (λ s. is_in_use (state.filling s).state) (sym same) ∙ (both _ _ stored).0)

pub refilled_where_none : RefilledWhereNoneStands
refilled_where_none shape old new segment deadline kept served =
    let given : cond (is_own shape segment) (refill_answer old segment (old.filling segment).state) refill.NotYours ≡ refill.Refilled = cc in
    none_stands shape old segment kept (refills shape old segment (is_own shape segment) (old.filling segment).state given).1

-- ---- a held item's segment

pub held_is_not_refilled : HeldIsNotRefilled
held_is_not_refilled shape old new item deadline kept is served = by (is_own shape item.segment) (old.filling item.segment).state refl given
  where
    told : RefillAnswer
    told = cond (is_own shape item.segment) (refill_answer old item.segment (old.filling item.segment).state) refill.NotYours

    given : told ≡ refill.Refilled
    given = let same = served.0 in cc

    held : is_held old.held item.segment ≡ true
    held = ap (λ o. is_held o item.segment) is ∙ eq-eqb item.segment item.segment refl

    by : (own : Bool) (state : SegState) → (old.filling item.segment).state ≡ state → cond own (refill_answer old item.segment state) refill.NotYours ≡ refill.Refilled → ⊥
    by false state at e = cc
    by true Empty at e = kept.held item is at
    by true InUse at e = cc
    by true Evicted at e = let no : refill.Held ≡ refill.Refilled = sym (ap (λ b. cond b refill.Held refill.Refilled) held) ∙ e in cc
