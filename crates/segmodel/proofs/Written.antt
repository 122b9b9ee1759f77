-- A write that is served as a reply is an entry that follows.
use Rattle.std.proofs.Common.{◌≡◌, ℕ, ◌<◌, ◌&&◌, not, ◌⊎◌, inl, inr, Bool, true, false, cond, Option, Some, None, IsSomeAnd, refl, sym, ap, ◌∙◌, subst, MatchBool, MatchOption}
use Rattle.std.proofs.lemmas.Bool.{false≢true}
use Rattle.std.proofs.Math.Nat.{div-eq_of_lt}
use Rattle.segword.specs.Words.{Shape, span_of}
use Rattle.segmodel.specs.Words.{DeleteAnswer, Reply, Request, WriteAnswer}
use Rattle.segmodel.specs.declared.request.Request.TheVariants.{Delete}
use Rattle.segmodel.specs.declared.request.Reply.TheVariants.{Stored, NotStored, Exists, NotFound, Deleted}
use Rattle.segmodel.specs.declared.entry.Entry.TheVariants.{Wrote}
use Rattle.segmodel.specs.declared.answer.WriteAnswer.TheVariants as write
use Rattle.segmodel.specs.declared.answer.DeleteAnswer.TheVariants as delete
use Rattle.segmodel.specs.Places.{bucket_of, owner}
use Rattle.segmodel.specs.Request.{key_of, value_of}
use Rattle.segmodel.specs.Cache.{reply_in, put}
use Rattle.segmodel.specs.History.{Follows, IsPlaced, next}
use Rattle.segmodel.specs.State.{State, IsSound, is_locked}
use Rattle.segmodel.specs.Serving.{IsGiven, IsReplied, lacks_rows, lacks_word, may_chain, placed, chained, stored, after_reply, reply_of_write, reply_of_delete}
use Rattle.segmodel.specs.Laws.{stored_in, StoreIsAnEntry, DeleteIsAnEntry}
use Rattle.segmodel.proofs.Spans.{lacks_none}

-- the first pass owns the first segments
pub first_owner : (shape : Shape) (s : ℕ) → s < shape.segments_each → owner shape s ≡ 0
first_owner shape s below = div-eq_of_lt below

-- where something is stored there is a current segment, which is the pass's own
is_placed : (shape : Shape) (rows : ℕ) (state : State) (reply : Reply) → IsSound shape state → lacks_rows shape rows state.filling state.current ≡ false
    → IsPlaced shape 0 reply (stored_in reply state.current)
is_placed shape rows state Stored kept room = by state.current refl room
  where
    by : (current : Option ℕ) → state.current ≡ current → lacks_rows shape rows state.filling current ≡ false → IsSomeAnd current (λ s. owner shape s ≡ 0)
    by None is room = absurd (false≢true (sym room ∙ lacks_none shape rows state.filling))
    by (Some s) is room = first_owner shape s (kept.own s (kept.in_use s is))
is_placed shape rows state NotStored kept room = refl
is_placed shape rows state Exists kept room = refl
is_placed shape rows state NotFound kept room = refl
is_placed shape rows state Deleted kept room = refl

-- the cache is the one that the entry leaves
cache_left : (shape : Shape) (request : Request) (reply : Reply) (state : State)
    → (after_reply shape request reply state).cache ≡ next shape state.cache (Wrote 0 request reply (stored_in reply state.current))
cache_left shape request Stored state = by state.current
  where
    by : (current : Option ℕ) → (stored shape request current state).cache ≡ next shape state.cache (Wrote 0 request Stored current)
    by None = refl
    by (Some s) = elim (lacks_word shape state request) as (λ b. (chained (bucket_of shape (key_of request)) b (placed shape (key_of request) (value_of request) s state)).cache
        ≡ put shape (key_of request) (value_of request) s state.cache) [ true ↦ refl | false ↦ refl ]
cache_left shape request Deleted state = refl
cache_left shape request NotStored state = refl
cache_left shape request Exists state = refl
cache_left shape request NotFound state = refl

-- what is replied is an entry
entry_of : (shape : Shape) (old new : State) (request : Request) (told : Option Reply) (reply : Reply)
    → IsPlaced shape 0 reply (stored_in reply old.current) → IsReplied shape old request told new → told ≡ Some reply
    → Follows shape old.cache (Wrote 0 request reply (stored_in reply old.current))
    × (new.cache ≡ next shape old.cache (Wrote 0 request reply (stored_in reply old.current)))
entry_of shape old new request told reply place replied is =
    let same : reply_in shape old.cache request ≡ reply = cc in
    ((sym same, place), ap (λ (s : State). s.cache) replied.1 ∙ ap (λ r. (after_reply shape request r old).cache) same ∙ cache_left shape request reply old)

-- a refusal tells no reply
refused_none : (out locked full : Bool) (P : Type 0) (shape : Shape) (old new : State) (given : WriteAnswer)
    → MatchOption (cond out (Some write.NoRoom) (cond locked (Some write.Busy) (cond full (Some write.BucketFull) None))) P (λ why. IsGiven why old given new)
    → (reply_of_write given ≡ None) ⊎ ((out ≡ false) × P)
refused_none true locked full P shape old new given h = inl (ap reply_of_write h.0)
refused_none false true full P shape old new given h = inl (ap reply_of_write h.0)
refused_none false false true P shape old new given h = inl (ap reply_of_write h.0)
refused_none false false false P shape old new given h = inr (refl, h)

pub store_is_an_entry : StoreIsAnEntry
store_is_an_entry shape old new request given reply kept served told =
    elim (refused_none (lacks_rows shape (span_of (key_of request) (value_of request)) old.filling old.current) (is_locked shape old (key_of request))
    (lacks_word shape old request && not (may_chain shape old (bucket_of shape (key_of request))))
    (IsReplied shape old request (reply_of_write given) new) shape old new given served) [
      | inl none ↦ let no : None ≡ Some reply = (sym none ∙ told) in cc
      | inr replied ↦ entry_of shape old new request (reply_of_write given) reply (is_placed shape (span_of (key_of request) (value_of request)) old reply kept replied.0) replied.1 told
    ]

pub delete_is_an_entry : DeleteIsAnEntry
delete_is_an_entry shape old new key now given reply served told = by (is_locked shape old key) served
  where
    placed_delete : (given : DeleteAnswer) → reply_of_delete given ≡ Some reply → IsPlaced shape 0 reply (stored_in reply old.current)
    placed_delete delete.Deleted e = subst (λ r. IsPlaced shape 0 r (stored_in r old.current)) (let same : Deleted ≡ reply = cc in same) refl
    placed_delete delete.NotFound e = subst (λ r. IsPlaced shape 0 r (stored_in r old.current)) (let same : NotFound ≡ reply = cc in same) refl
    placed_delete delete.Busy e = cc

    by : (locked : Bool) → MatchBool locked (IsGiven delete.Busy old given new) (IsReplied shape old (Delete key now) (reply_of_delete given) new)
        → Follows shape old.cache (Wrote 0 (Delete key now) reply (stored_in reply old.current))
        × (new.cache ≡ next shape old.cache (Wrote 0 (Delete key now) reply (stored_in reply old.current)))
    by true busy = let no : None ≡ Some reply = (sym (ap reply_of_delete busy.0) ∙ told) in cc
    by false replied = entry_of shape old new (Delete key now) (reply_of_delete given) reply (placed_delete given told) replied told
