-- The model serves no command of a load by the frequencies of items: what it serves in one state it serves so in each that differs in them alone.
use Rattle.std.proofs.Common.{◌≡◌, ℕ, ◌==◌, ◌&&◌, ◌++◌, not, Bool, true, false, cond, eqb, List, [], ◌∷◌, Option, Some, None, refl, ap, replicate, subst, ◌∙◌, MatchBool, MatchOption}
use Rattle.segword.specs.Words.{Shape, span_of}
use Rattle.segmodel.specs.declared.answer.Answer.TheVariants as answer
use Rattle.segmodel.specs.declared.answer.Command.{Command}
use Rattle.segmodel.specs.declared.answer.Command.TheVariants as command
use Rattle.segmodel.specs.declared.answer.DeleteAnswer.TheVariants as delete
use Rattle.segmodel.specs.declared.answer.EvictAnswer.TheVariants as evict
use Rattle.segmodel.specs.declared.answer.RefillAnswer.TheVariants as refill
use Rattle.segmodel.specs.declared.answer.WriteAnswer.TheVariants as write
use Rattle.segmodel.specs.declared.answer.SegState.TheVariants as segment_is
use Rattle.segmodel.specs.declared.request.Request.TheVariants as request
use Rattle.segmodel.specs.declared.request.Reply.TheVariants as reply
use Rattle.segmodel.specs.Words.{after_hit, after_refill, after_reply, Answer, Cached, chained, DeleteAnswer, EvictAnswer, Evicts, Filling, is_in, is_locked, is_own, IsGiven, key_of}
use Rattle.segmodel.specs.Words.{lacks_word, may_chain, may_go, placed, present, raised, raised_in, refill_answer, RefillAnswer, reply_in, reply_of_delete, reply_of_write, Reply, Request}
use Rattle.segmodel.specs.Words.{SegState, Serves, ServesDelete, ServesEvict, ServesStore, State, stored, taken_out, value_of, with_at, with_filling, with_key, WriteAnswer, bucket_of}
use Rattle.segmodel.specs.Serving.{IsReplied, lacks_rows, refusal, with_rows}
use Rattle.segsolo.specs.Alone.{IsSameButFrequencies, with_frequencies}

-- a segment whose items have other frequencies
abbrev other : Filling → List ℕ → Filling
other filling frequencies = record filling { frequencies = frequencies }

-- a command that a load makes: its own, and those that make room
abbrev pub IsMadeByLoads : Command → Type 0
IsMadeByLoads (command.Write asked) = Unit {0}
IsMadeByLoads (command.Get key now) = Unit {0}
IsMadeByLoads (command.Gets key now) = Unit {0}
IsMadeByLoads (command.Evict segment) = Unit {0}
IsMadeByLoads (command.Refill segment deadline) = Unit {0}
IsMadeByLoads _ = ⊥

module _ (shape : Shape) (f : ℕ → List ℕ) (s : State) where
  abbrev old : State
  old = with_frequencies f s

  abbrev new_at : ℕ → List ℕ → ℕ → List ℕ
  new_at place g segment = cond (eqb place segment) g (f segment)

  -- one segment with other keys
  at_place : (place : ℕ) (filling : Filling) (g : List ℕ) (segment : ℕ)
      → with_at old.filling place (other filling g) segment ≡ other (with_at s.filling place filling segment) (new_at place g segment)
  at_place place filling g segment = by (eqb place segment)
    where
      by : (here : Bool) → ◌≡◌ {A = Filling} (cond here (other filling g) (other (s.filling segment) (f segment))) (other (cond here filling (s.filling segment)) (cond here g (f segment)))
      by true = refl
      by false = refl

  -- ---- what is left

  -- these frequencies, and those of an item that takes so many rows more
  abbrev with_more : ℕ → List ℕ → List ℕ
  with_more rows before = cond (rows == 1) (before ++ 1 ∷ []) (before ++ replicate rows 1)

  abbrev several : ℕ → List ℕ → Filling → Filling
  several rows key before = record before { keys = before.keys ++ replicate rows key; frequencies = before.frequencies ++ replicate rows 1 }

  rows_as : (rows : ℕ) (key : List ℕ) (filling : Filling) (g : List ℕ) → with_rows rows key 1 (other filling g) ≡ other (with_rows rows key 1 filling) (with_more rows g)
  rows_as rows key filling g = by (rows == 1)
    where
      by : (one : Bool)
          → ◌≡◌ {A = Filling} (cond one (with_key key 1 (other filling g)) (several rows key (other filling g)))
          (other (cond one (with_key key 1 filling) (several rows key filling)) (cond one (g ++ 1 ∷ []) (g ++ replicate rows 1)))
      by true = refl
      by false = refl

  placed_at : (rows : ℕ) (key : List ℕ) (segment n : ℕ) → with_at old.filling segment (with_rows rows key 1 (old.filling segment)) n
      ≡ other (with_at s.filling segment (with_rows rows key 1 (s.filling segment)) n) (new_at segment (with_more rows (f segment)) n)
  placed_at rows key segment n =
      ap (λ (filling : Filling). with_at old.filling segment filling n) (rows_as rows key (s.filling segment) (f segment))
      ∙ at_place segment (with_rows rows key 1 (s.filling segment)) (with_more rows (f segment)) n

  -- a state that goes on from one with these frequencies is one that goes on from the other, but for frequencies
  placed_as : (key value : List ℕ) (segment : ℕ) → IsSameButFrequencies (placed shape key value segment s) (placed shape key value segment old)
  placed_as key value segment =
      let rows : ℕ = span_of key value in
      (new_at segment (with_more rows (f segment)), λ i. record (placed shape key value segment s) { filling = λ n. placed_at rows key segment n i })

  chained_as : (bucket : ℕ) (grows : Bool) (one two : State) → IsSameButFrequencies one two → IsSameButFrequencies (chained bucket grows one) (chained bucket grows two)
  chained_as bucket grows one two (g, is) = (g, ap (chained bucket grows) is ∙ by grows)
    where
      by : (b : Bool) → chained bucket b (with_frequencies g one) ≡ with_frequencies g (chained bucket b one)
      by true = refl
      by false = refl

  stored_as : (asked : Request) (current : Option ℕ) → IsSameButFrequencies (stored shape asked current s) (stored shape asked current old)
  stored_as asked None = (f, refl)
  stored_as asked (Some segment) = chained_as (bucket_of shape (key_of asked)) (lacks_word shape s asked)
      (placed shape (key_of asked) (value_of asked) segment s)
      (placed shape (key_of asked) (value_of asked) segment old)
      (placed_as (key_of asked) (value_of asked) segment)

  replied_as : (asked : Request) (told : Reply) → IsSameButFrequencies (after_reply shape asked told s) (after_reply shape asked told old)
  replied_as asked reply.Stored = stored_as asked s.current
  replied_as asked reply.Deleted = (f, refl)
  replied_as asked reply.NotStored = (f, refl)
  replied_as asked reply.Exists = (f, refl)
  replied_as asked reply.NotFound = (f, refl)

  hit_as : (key : List ℕ) (found : Option Cached) → IsSameButFrequencies (after_hit key found s) (after_hit key found old)
  hit_as key None = (f, refl)
  hit_as key (Some item) =
      let segment = item.segment in
      let g : List ℕ = raised key (s.filling segment).keys (f segment) in
      (new_at segment g, λ i. record s { filling = λ n. at_place segment (raised_in key (s.filling segment)) g n i })

  if_hit_as : (locked : Bool) (key : List ℕ) (found : Option Cached) → IsSameButFrequencies (cond locked s (after_hit key found s)) (cond locked old (after_hit key found old))
  if_hit_as true key found = (f, refl)
  if_hit_as false key found = hit_as key found

  refilled_as : (segment deadline : ℕ) (told : RefillAnswer) → IsSameButFrequencies (after_refill segment deadline told s) (after_refill segment deadline told old)
  refilled_as segment deadline refill.Refilled =
      (new_at segment [], λ i. record (after_refill segment deadline refill.Refilled s) { filling = λ n. at_place segment (record { state = segment_is.InUse; keys = []; frequencies = [] }) [] n i })
  refilled_as segment deadline refill.NotYours = (f, refl)
  refilled_as segment deadline refill.NotEvicted = (f, refl)
  refilled_as segment deadline refill.Held = (f, refl)

  evicted_as : (segment : ℕ) → IsSameButFrequencies (with_filling segment segment_is.Evicted (s.filling segment).keys (s.filling segment).frequencies (taken_out segment (is_in segment) s))
      (with_filling segment segment_is.Evicted (old.filling segment).keys (old.filling segment).frequencies (taken_out segment (is_in segment) old))
  evicted_as segment = (
    new_at segment (f segment),
    λ i. record (taken_out segment (is_in segment) s) {
      filling =
          λ n. at_place segment (record {
            state = segment_is.Evicted;
            keys = (s.filling segment).keys;
            frequencies = (s.filling segment).frequencies;
          }) (f segment) n i;
    },
  )

  -- ---- what is served

  -- this is served from the one state, and leads to the same but for frequencies
  abbrev ServesAlike : (State → Type 0) → State → Type 0
  ServesAlike Served new = (state : State) × Served state × IsSameButFrequencies state new

  replies_alike : (asked : Request) (told : Option Reply) (new : State) → IsReplied shape old asked told new → ServesAlike (IsReplied shape s asked told) new
  replies_alike asked told new (is, left) =
      let replied = replied_as asked (reply_in shape s.cache asked) in
      (after_reply shape asked (reply_in shape s.cache asked) s, (is, refl), (replied.0, left ∙ replied.1))

  rows_alike : (rows : ℕ) (current : Option ℕ) → lacks_rows shape rows old.filling current ≡ lacks_rows shape rows s.filling current
  rows_alike rows None = refl
  rows_alike rows (Some segment) = refl

  refused_alike : (asked : Request) → refusal shape old asked ≡ refusal shape s asked
  refused_alike asked = ap (λ out. cond out (Some write.NoRoom) (cond (is_locked shape s (key_of asked)) (Some write.Busy)
      (cond (lacks_word shape s asked && not (may_chain shape s (bucket_of shape (key_of asked)))) (Some write.BucketFull) None))) (rows_alike (span_of (key_of asked) (value_of asked)) s.current)

  store_alike : (asked : Request) (told : WriteAnswer) (new : State) → ServesStore shape old asked told new → ServesAlike (ServesStore shape s asked told) new
  store_alike asked told new served = by (refusal shape s asked)
      (subst (λ r. MatchOption r (IsReplied shape old asked (reply_of_write told) new) (λ why. IsGiven why old told new)) (refused_alike asked) served)
    where
      by : (r : Option WriteAnswer) → MatchOption r (IsReplied shape old asked (reply_of_write told) new) (λ why. IsGiven why old told new)
          → ServesAlike (λ state. MatchOption r (IsReplied shape s asked (reply_of_write told) state) (λ why. IsGiven why s told state)) new
      by None replied = replies_alike asked (reply_of_write told) new replied
      by (Some why) (is, left) = (s, (is, refl), (f, left))

  delete_alike : (key : List ℕ) (now : ℕ) (told : DeleteAnswer) (new : State) → ServesDelete shape old key now told new → ServesAlike (ServesDelete shape s key now told) new
  delete_alike key now told new served = by (is_locked shape s key) served
    where
      by : (locked : Bool) → MatchBool locked (IsGiven delete.Busy old told new) (IsReplied shape old (request.Delete key now) (reply_of_delete told) new)
          → ServesAlike (λ state. MatchBool locked (IsGiven delete.Busy s told state) (IsReplied shape s (request.Delete key now) (reply_of_delete told) state)) new
      by true (is, left) = (s, (is, refl), (f, left))
      by false replied = replies_alike (request.Delete key now) (reply_of_delete told) new replied

  evicts_alike : (segment : ℕ) (told : EvictAnswer) (new : State) → Evicts shape old segment told new → ServesAlike (Evicts shape s segment told) new
  evicts_alike segment (evict.Evicted count) new (free, counted, left) =
      let out = evicted_as segment in
      (with_filling segment segment_is.Evicted (s.filling segment).keys (s.filling segment).frequencies (taken_out segment (is_in segment) s), (free, counted, refl), (out.0, left ∙ out.1))
  evicts_alike segment (evict.Busy count) new (met, (chosen, counted, left)) = (taken_out segment (may_go shape s segment chosen) s, (met, (chosen, counted, refl)), (f, left))
  evicts_alike segment evict.NotYours new served = absurd served

  state_alike : (segment : ℕ) (is : SegState) (told : EvictAnswer) (new : State) → ServesEvict shape old segment is told new → ServesAlike (ServesEvict shape s segment is told) new
  state_alike segment segment_is.Empty told new (is, left) = (s, (is, refl), (f, left))
  state_alike segment segment_is.Evicted told new (is, left) = (s, (is, refl), (f, left))
  state_alike segment segment_is.InUse told new served = evicts_alike segment told new served

  own_alike : (segment : ℕ) (own : Bool) (told : EvictAnswer) (new : State) → MatchBool own (ServesEvict shape old segment (s.filling segment).state told new) (IsGiven evict.NotYours old told new)
      → ServesAlike (λ state. MatchBool own (ServesEvict shape s segment (s.filling segment).state told state) (IsGiven evict.NotYours s told state)) new
  own_alike segment true told new served = state_alike segment (s.filling segment).state told new served
  own_alike segment false told new (is, left) = (s, (is, refl), (f, left))

  stores_alike : (asked : Request) (given : Answer) (new : State) → ((told : WriteAnswer) × (given ≡ answer.Write told) × ServesStore shape old asked told new)
      → ServesAlike (λ state. (told : WriteAnswer) × (given ≡ answer.Write told) × ServesStore shape s asked told state) new
  stores_alike asked given new (told, is, served) = let alike = store_alike asked told new served in (alike.0, (told, is, alike.1), alike.2)

  pub serves_alike : (asked : Command) (given : Answer) (new : State) → IsMadeByLoads asked → Serves shape old asked given new → ServesAlike (Serves shape s asked given) new
  serves_alike (command.Write (request.Delete key now)) given new made (told, is, served) = let alike = delete_alike key now told new served in (alike.0, (told, is, alike.1), alike.2)
  serves_alike (command.Write (request.Set key value now)) given new made served = stores_alike (request.Set key value now) given new served
  serves_alike (command.Write (request.Add key value now)) given new made served = stores_alike (request.Add key value now) given new served
  serves_alike (command.Write (request.Replace key value now)) given new made served = stores_alike (request.Replace key value now) given new served
  serves_alike (command.Write (request.Cas key value version now)) given new made served = stores_alike (request.Cas key value version now) given new served
  serves_alike (command.Get key now) given new made (is, left) =
      let found = present s.cache now key in let hit = hit_as key found in (after_hit key found s, (is, refl), (hit.0, left ∙ hit.1))
  serves_alike (command.Gets key now) given new made (is, left) =
      let found = present s.cache now key in let locked = is_locked shape s key in let hit = if_hit_as locked key found in
      (cond locked s (after_hit key found s), (is, refl), (hit.0, left ∙ hit.1))
  serves_alike (command.Evict segment) given new made (told, is, served) = let alike = own_alike segment (is_own shape segment) told new served in (alike.0, (told, is, alike.1), alike.2)
  serves_alike (command.Refill segment deadline) given new made (is, left) =
      let told = cond (is_own shape segment) (refill_answer s segment (s.filling segment).state) refill.NotYours in
      let filled = refilled_as segment deadline told in
      (after_refill segment deadline told s, (is, refl), (filled.0, left ∙ filled.1))
  serves_alike asked given new made served = absurd made
