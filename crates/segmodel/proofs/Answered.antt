-- Each call has an answer, and all but an eviction have only one.
use Rattle.std.proofs.Common.{◌≡◌, ℕ, ◌==◌, ◌||◌, Bool, true, false, cond, List, [], ◌∷◌, Option, Some, None, is_some, IsSomeAnd, refl, sym, ap, ◌∙◌, subst, MatchBool, MatchOption}
use Rattle.std.proofs.lemmas.Bool.{false≢true, false_from_ne_true}
use Rattle.std.proofs.lemmas.List.Folds.{Any-from_list_any}
use Rattle.std.specs.List.{list_any}
use Rattle.std.specs.BTreeMap.{is_at}
use Rattle.segword.specs.Words.{Shape}
use Rattle.segmodel.specs.Words.{Answer, Cached, DeleteAnswer, EvictAnswer, Reply, Request}
use Rattle.segmodel.specs.Words.{SegState, WriteAnswer}
use Rattle.segmodel.specs.declared.request.Request.TheVariants.{Set, Add, Replace, Cas, Delete}
use Rattle.segmodel.specs.declared.request.Reply.TheVariants as reply
use Rattle.segmodel.specs.declared.answer.Answer.TheVariants as answer
use Rattle.segmodel.specs.declared.answer.WriteAnswer.TheVariants as write
use Rattle.segmodel.specs.declared.answer.DeleteAnswer.TheVariants as delete
use Rattle.segmodel.specs.declared.answer.EvictAnswer.TheVariants as evict
use Rattle.segmodel.specs.declared.answer.SegState.TheVariants as segment_is
use Rattle.segmodel.specs.Places.{bucket_of}
use Rattle.segmodel.specs.Request.{key_of, moment_of, is_store, reply_to}
use Rattle.segmodel.specs.Cache.{key_cmp, standing, present, reply_in}
use Rattle.segmodel.specs.History.{StandsIn}
use Rattle.segmodel.specs.State.{State, is_among, is_stored, is_locked, IsSound}
use Rattle.segmodel.specs.Serving.{IsGiven, IsReplied, refusal, reply_of_write, reply_of_delete, after_reply, ServesStore, ServesDelete, Evicts, ServesEvict}
use Rattle.segmodel.proofs.Counts.{both}
use Rattle.segmodel.proofs.Keys.{same_key}
use Rattle.segmodel.proofs.ServingKeeps.{found_passes}

-- ---- every turn has an outcome

-- a key among these that passes: one of these passes
one_passes : (p : List ℕ → Bool) (key : List ℕ) (keys : List (List ℕ)) → is_among keys key ≡ true → p key ≡ true → list_any p keys ≡ true
one_passes p key [] among passes = absurd (false≢true among)
one_passes p key (k ∷ keys) among passes = by (is_at (key_cmp key) k) refl among (λ is. one_passes p key keys is passes)
  where
    or_true : (b : Bool) → (b || true) ≡ true
    or_true true = refl
    or_true false = refl

    by : (b : Bool) → is_at (key_cmp key) k ≡ b → (b || list_any (is_at (key_cmp key)) keys) ≡ true
        → (is_among keys key ≡ true → list_any p keys ≡ true) → (p k || list_any p keys) ≡ true
    by true at is rest = ap (λ b. b || list_any p keys) (subst (λ q. p q ≡ true) (same_key key k at) passes)
    by false at is rest = ap (λ b. p k || b) (rest is) ∙ or_true (p k)

-- a segment in use can be evicted: some answer and state are given
evict_is_answered : (shape : Shape) (old : State) (segment : ℕ) → IsSound shape old → (given : EvictAnswer) × (new : State) × Evicts shape old segment given new
evict_is_answered shape old segment kept = by (list_any (is_locked shape old) (old.filling segment).keys) refl
  where
    none : list_any (is_locked shape old) (old.filling segment).keys ≡ false → (key : List ℕ) → StandsIn old.cache key segment → is_locked shape old key ≡ false
    none is key stands = go (standing old.cache key) refl stands
      where
        go : (found : Option Cached) → standing old.cache key ≡ found → IsSomeAnd found (λ item. item.segment ≡ segment) → is_locked shape old key ≡ false
        go None at here = absurd here
        go (Some item) at here =
            let stored = found_passes (is_stored old.filling) key item old.cache.items kept.items at in
            let among : is_among (old.filling segment).keys key ≡ true =
            subst (λ s. is_among (old.filling s).keys key ≡ true) here (both _ _ stored).1 in
            false_from_ne_true (is_locked shape old key) (λ locked. false≢true (sym is ∙ one_passes (is_locked shape old) key (old.filling segment).keys among locked))

    by : (b : Bool) → list_any (is_locked shape old) (old.filling segment).keys ≡ b → (given : EvictAnswer) × (new : State) × Evicts shape old segment given new
    by true is = (evict.Busy _, _, (Any-from_list_any (is_locked shape old) (old.filling segment).keys is, ((λ key. false), refl, refl)))
    by false is = (evict.Evicted _, _, (none is, refl, refl))

-- the answer that tells the reply to a request to store
write_told : (request : Request) (here : Bool) (version : ℕ) → is_store request ≡ true → (a : WriteAnswer) × (reply_of_write a ≡ Some (reply_to request here version))
write_told (Set key value now) here version is = (write.Stored, refl)
write_told (Add key value now) true version is = (write.NotStored, refl)
write_told (Add key value now) false version is = (write.Stored, refl)
write_told (Replace key value now) true version is = (write.Stored, refl)
write_told (Replace key value now) false version is = (write.NotStored, refl)
write_told (Cas key value expected now) true version is = elim (version == expected) as (λ b. (a : WriteAnswer) × (reply_of_write a ≡ Some (cond b reply.Stored reply.Exists))) [
  | true ↦ (write.Stored, refl)
  | false ↦ (write.Exists, refl)
]
write_told (Cas key value expected now) false version is = (write.NotFound, refl)
write_told (Delete key now) here version is = absurd (false≢true is)

store_is_answered : (shape : Shape) (old : State) (request : Request) → is_store request ≡ true → (given : WriteAnswer) × (new : State) × ServesStore shape old request given new
store_is_answered shape old request is = by (refusal shape old request)
  where
    by : (why : Option WriteAnswer) → (given : WriteAnswer) × (new : State) × MatchOption why (IsReplied shape old request (reply_of_write given) new) (λ w. IsGiven w old given new)
    by (Some w) = (w, old, (refl, refl))
    by None =
        let told = write_told request (is_some (present old.cache (moment_of request) (key_of request))) (old.cache.version (bucket_of shape (key_of request))) is in
        (told.0, after_reply shape request (reply_in shape old.cache request) old, (told.1, refl))

pub delete_is_answered : (shape : Shape) (old : State) (key : List ℕ) (now : ℕ) → (given : DeleteAnswer) × (new : State) × ServesDelete shape old key now given new
delete_is_answered shape old key now = by (is_locked shape old key)
  where
    told : (here : Bool) (version : ℕ) → (a : DeleteAnswer) × (reply_of_delete a ≡ Some (reply_to (Delete key now) here version))
    told true version = (delete.Deleted, refl)
    told false version = (delete.NotFound, refl)

    by : (locked : Bool) → (given : DeleteAnswer) × (new : State) × MatchBool locked (IsGiven delete.Busy old given new) (IsReplied shape old (Delete key now) (reply_of_delete given) new)
    by true = (delete.Busy, old, (refl, refl))
    by false =
        let told' = told (is_some (present old.cache now key)) (old.cache.version (bucket_of shape key)) in
        (told'.0, after_reply shape (Delete key now) (reply_in shape old.cache (Delete key now)) old, (told'.1, refl))

pub evict_or_not : (shape : Shape) (old : State) (segment : ℕ) → IsSound shape old → (own : Bool) (is : SegState)
    → (given : EvictAnswer) × (new : State) × MatchBool own (ServesEvict shape old segment is given new) (IsGiven evict.NotYours old given new)
evict_or_not shape old segment kept false is = (evict.NotYours, old, (refl, refl))
evict_or_not shape old segment kept true segment_is.Empty = (evict.Evicted 0, old, (refl, refl))
evict_or_not shape old segment kept true segment_is.Evicted = (evict.Evicted 0, old, (refl, refl))
evict_or_not shape old segment kept true segment_is.InUse = evict_is_answered shape old segment kept

pub stored_is_answered : (shape : Shape) (old : State) (request : Request) → is_store request ≡ true
    → (given : Answer) × (new : State) × ((a : WriteAnswer) × (given ≡ answer.Write a) × ServesStore shape old request a new)
stored_is_answered shape old request is = let a = store_is_answered shape old request is in (answer.Write a.0, a.1, (a.0, refl, a.2))

-- ---- and all but an eviction only one

pub same_given : {A : Type 0} {a : A} {state : State} {given told : A} {new other : State} → IsGiven a state given new → IsGiven a state told other → (told ≡ given) × (other ≡ new)
same_given one two = (two.0 ∙ sym one.0, two.1 ∙ sym one.1)

-- the answer that tells a reply; a request to store is never replied Deleted
write_of_reply : Reply → WriteAnswer
write_of_reply reply.Stored = write.Stored
write_of_reply reply.NotStored = write.NotStored
write_of_reply reply.Exists = write.Exists
write_of_reply reply.NotFound = write.NotFound
write_of_reply reply.Deleted = write.Busy

write_from_reply : (a : WriteAnswer) (r : Reply) → reply_of_write a ≡ Some r → a ≡ write_of_reply r
unfolding write_of_reply
write_from_reply write.Stored r e = ap write_of_reply (let same : reply.Stored ≡ r = cc in same)
write_from_reply write.NotStored r e = ap write_of_reply (let same : reply.NotStored ≡ r = cc in same)
write_from_reply write.Exists r e = ap write_of_reply (let same : reply.Exists ≡ r = cc in same)
write_from_reply write.NotFound r e = ap write_of_reply (let same : reply.NotFound ≡ r = cc in same)
write_from_reply write.NoRoom r e = cc
write_from_reply write.BucketFull r e = cc
write_from_reply write.Busy r e = cc

delete_of_reply : Reply → DeleteAnswer
delete_of_reply reply.Deleted = delete.Deleted
delete_of_reply reply.NotFound = delete.NotFound
delete_of_reply _ = delete.Busy

delete_from_reply : (a : DeleteAnswer) (r : Reply) → reply_of_delete a ≡ Some r → a ≡ delete_of_reply r
unfolding delete_of_reply
delete_from_reply delete.Deleted r e = ap delete_of_reply (let same : reply.Deleted ≡ r = cc in same)
delete_from_reply delete.NotFound r e = ap delete_of_reply (let same : reply.NotFound ≡ r = cc in same)
delete_from_reply delete.Busy r e = cc

same_store : (shape : Shape) (old new other : State) (request : Request) (given told : WriteAnswer)
    → ServesStore shape old request given new → ServesStore shape old request told other → (told ≡ given) × (other ≡ new)
same_store shape old new other request given told = by (refusal shape old request)
  where
    by : (why : Option WriteAnswer) → MatchOption why (IsReplied shape old request (reply_of_write given) new) (λ w. IsGiven w old given new)
        → MatchOption why (IsReplied shape old request (reply_of_write told) other) (λ w. IsGiven w old told other) → (told ≡ given) × (other ≡ new)
    by (Some w) one two = same_given one two
    by None one two = (write_from_reply told _ two.0 ∙ sym (write_from_reply given _ one.0), two.1 ∙ sym one.1)

pub same_delete : (shape : Shape) (old new other : State) (key : List ℕ) (now : ℕ) (given told : DeleteAnswer)
    → ServesDelete shape old key now given new → ServesDelete shape old key now told other → (told ≡ given) × (other ≡ new)
same_delete shape old new other key now given told = by (is_locked shape old key)
  where
    by : (locked : Bool) → MatchBool locked (IsGiven delete.Busy old given new) (IsReplied shape old (Delete key now) (reply_of_delete given) new)
        → MatchBool locked (IsGiven delete.Busy old told other) (IsReplied shape old (Delete key now) (reply_of_delete told) other) → (told ≡ given) × (other ≡ new)
    by true one two = same_given one two
    by false one two = (delete_from_reply told _ two.0 ∙ sym (delete_from_reply given _ one.0), two.1 ∙ sym one.1)

pub same_stored : (shape : Shape) (old new other : State) (request : Request) (given told : Answer)
    → ((a : WriteAnswer) × (given ≡ answer.Write a) × ServesStore shape old request a new)
    → ((a : WriteAnswer) × (told ≡ answer.Write a) × ServesStore shape old request a other) → (told ≡ given) × (other ≡ new)
same_stored shape old new other request given told one two =
    let same = same_store shape old new other request one.0 two.0 one.2 two.2 in
    (two.1 ∙ ap answer.Write same.0 ∙ sym one.1, same.1)
