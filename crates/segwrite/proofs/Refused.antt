-- The answers of a write or delete that the cache refuses, and which refusal that is.
use Rattle.std.proofs.Common.{◌≡◌, ◌≢◌, ℕ, ◌+◌, ◌/◌, ◌%◌, ◌^◌, ◌<◌, Bool, true, false, not, cond, eqb, is_some, List, [], Option, Some, None, refl, sym, ap, ◌∙◌, subst, ⊎_elim, arith}
use Rattle.std.specs.Bool.{then_some}
use Rattle.std.proofs.lemmas.Bool.{cases_Bool, cond-true, cond-false, eq-eqb, ne_eqb, false≢true}
use Rattle.std.proofs.lemmas.Option.{same_Some, none-some}
use Rattle.segword.specs.Words.{Shape, span_of}
use Rattle.segmodel.specs.declared.entry.Entry.TheVariants.{Wrote}
use Rattle.segmodel.specs.declared.request.Request.TheVariants.{Set, Add, Replace, Cas, Delete}
use Rattle.segmodel.specs.declared.request.Reply.TheVariants as reply
use Rattle.segmodel.specs.declared.answer.WriteAnswer.TheVariants as write
use Rattle.segmodel.specs.Words.{adds_key, after, bucket_of, key_of, moment_of, present, Reply, reply_of_write}
use Rattle.segmodel.specs.Words.{reply_to, Request, value_of, WriteAnswer}
use Rattle.segcore.specs.declared.event.Event.TheVariants.{Replied}
use Rattle.segcore.specs.Event as event
use Rattle.segcore.specs.declared.cell.Cell.TheVariants.{OfBucket}
use Rattle.segcore.specs.Words.{bucket_after, Event, HasBit, IsLawful, IsRefusal, word}
use Rattle.segcore.proofs.Buckets.{bit_small, unwritten_version}
use Rattle.segbase.specs.Words.{Board, IsPassOf, number, Pass, seen, trace}
use Rattle.segstore.specs.Words.{DrawsNothing, GoesOn, HasCleanBit, Idles, IsQuiet, TakesOneBit}
use Rattle.segwrite.specs.Words.{Target}
use Rattle.segwrite.specs.declared.condition.Condition.{Condition}
use Rattle.segwrite.specs.declared.condition.Condition.TheVariants as condition
use Rattle.segwrite.specs.Writes.{AddsReply, IsWriteAnswer}
use Rattle.segwrite.specs.Writing.{IsTarget, IsNewKey, own_word, Finds}
use Rattle.segwrite.specs.Spans.{rows_of}
use Rattle.segwrite.specs.Refusing.{request_of, IsToldBy, reply_now, RefusesUnderBit}
use Rattle.segwrite.proofs.Ending.{IsEntry, plain_back, memo_back, entered_on, entered, entered_undrawn, entered_peeking, entered_taking}
use Rattle.segstore.proofs.Peeking.{PeeksInto}
use Rattle.segstore.proofs.UnderWrite.{HasBegun}
use Rattle.segstore.proofs.UnderBit.{moved_at}

-- ---- which request it is, and which reply

pub asks : (w : Condition) (key value : List ℕ) (now : ℕ) (request : Request) → request ≡ request_of w key value now
    → (key_of request ≡ key) × (value_of request ≡ value) × (request ≡ request_of w (key_of request) (value_of request) now)
asks condition.Always key value now request is = (ap key_of is, ap value_of is, is ∙ (λ i. Set (sym (ap key_of is) i) (sym (ap value_of is) i) now))
asks condition.IfAbsent key value now request is = (ap key_of is, ap value_of is, is ∙ (λ i. Add (sym (ap key_of is) i) (sym (ap value_of is) i) now))
asks condition.IfPresent key value now request is = (ap key_of is, ap value_of is, is ∙ (λ i. Replace (sym (ap key_of is) i) (sym (ap value_of is) i) now))
asks (condition.IfVersion n) key value now request is = (ap key_of is, ap value_of is, is ∙ (λ i. Cas (sym (ap key_of is) i) (sym (ap value_of is) i) n now))

-- it takes as many rows as the pair's item
pub asks_rows : (w : Condition) (key value : List ℕ) (now : ℕ) (request : Request) → request ≡ request_of w key value now
    → rows_of request ≡ span_of key value
asks_rows w key value now request is = let same = asks w key value now request is in λ t. span_of (same.0 t) (same.1 t)

-- the search found the key's own word
pub own_target : (b : Board) (key : List ℕ) (found : Option Target) (target : Target) (p : Pass) → Finds b key found p → own_word found ≡ Some target → IsTarget b key target p × (target.word ≢ 0)
own_target b key None target p finds is = absurd (none-some target is)
own_target b key (Some found) target p finds is = ⊎_elim
    (λ t. absurd (none-some target (sym (cond-true (eqb found.word 0) None (Some found) t) ∙ is)))
    (λ f.
    let same = same_Some found target (sym (cond-false (eqb found.word 0) None (Some found) f) ∙ is) in
    (subst (λ x. IsTarget b key x p) same finds, λ none. false≢true (sym f ∙ eq-eqb found.word 0 (ap (λ (x : Target). x.word) same ∙ none))))
    (cases_Bool (eqb found.word 0))

-- where there is none, the key is absent
pub own_none : (b : Board) (key : List ℕ) (found : Option Target) (p : Pass) → Finds b key found p → own_word found ≡ None → IsNewKey b key p
own_none b key None p none is = none.absent
own_none b key (Some found) p finds is = ⊎_elim
    (λ free. free.2)
    (λ has. let some = has.1.0.0 in
    absurd (none-some found (sym is ∙ cond-false (eqb found.word 0) None (Some found) (ne_eqb found.word 0 (λ none. absurd (omega (arith, some, none)))))))
    finds.is

-- only a set or an add is stored under an absent key
pub adds_absent : (request : Request) (version : ℕ) → reply_to request false version ≡ reply.Stored → adds_key request false ≡ true
adds_absent (Set key value now) version is = refl
adds_absent (Add key value now) version is = refl
adds_absent (Replace key value now) version is = absurd (let e : reply.NotStored ≡ reply.Stored = is in cc)
adds_absent (Cas key value expected now) version is = absurd (let e : reply.NotFound ≡ reply.Stored = is in cc)
adds_absent (Delete key now) version is = absurd (let e : reply.NotFound ≡ reply.Stored = is in cc)

-- a cas of a present key is refused where the version is another one
pub told_by_version : (request : Request) (expected now version : ℕ) (is_present : Bool)
    → request ≡ request_of (condition.IfVersion expected) (key_of request) (value_of request) now → is_present ≡ true
    → IsToldBy (reply_to request is_present version) (then_some (not (eqb version expected)) write.Exists)
told_by_version request expected now version is_present is there =
    subst (λ r. IsToldBy (reply_to r is_present version) (then_some (not (eqb version expected)) write.Exists)) (sym is)
    (subst (λ t. IsToldBy (reply_to (Cas (key_of request) (value_of request) expected now) t version) (then_some (not (eqb version expected)) write.Exists)) (sym there) (by (eqb version expected)))
  where
    by : (same : Bool) → IsToldBy (cond same reply.Stored reply.Exists) (then_some (not same) write.Exists)
    by true = refl
    by false = (refl, tt)

-- under a bit under which nothing was written, the version that the pass reads is the cache's
unwritten_is : (z : Shape) (h : List Event) (bucket : ℕ) → z.first_version < 2 ^ 32 → IsLawful z h → (bucket_after z h bucket).written ≡ false
    → (z.first_version + (bucket_after z h bucket).version) % 2 ^ 32 ≡ (after z (event.seen h)).version bucket
unwritten_is z h bucket few l none =
    let lt = bit_small (bucket_after z h bucket).holder in
    let x : word z h (OfBucket bucket 0) / 2 ^ 32 ≡ (z.first_version + (bucket_after z h bucket).version) % 2 ^ 32 = omega arith in
    sym x ∙ unwritten_version z h bucket few l none

pub told_by_look : (b : Board) (request : Request) (expected now version bucket : ℕ) (p q : Pass)
    → b.shape.first_version < 2 ^ 32 → IsPassOf b p → HasCleanBit b p bucket
    → bucket ≡ bucket_of b.shape (key_of request)
    → is_some (present (after b.shape (seen p)) now (key_of request)) ≡ true → request ≡ request_of (condition.IfVersion expected) (key_of request) (value_of request) now → Idles b p q
    → version ≡ (b.shape.first_version + (bucket_after b.shape (trace p) bucket).version) % 2 ^ 32 → IsToldBy (reply_now b q request) (then_some (not (eqb version expected)) write.Exists)
told_by_look b request expected now version bucket p q few is clean home there asked idles read =
    let z = b.shape in let k = bucket_of z (key_of request) in
    let same = moved_at b [] p q (key_of request) idles.moved (subst (λ n. HasBit z (trace p) (number p) n) home clean.bit) tt in
    let read_now : (after z (seen q)).version k ≡ version = same.version
    ∙ (ap (after z (seen p)).version (sym home)
    ∙ (sym (unwritten_is z (trace p) bucket few is.lawful clean.unwritten) ∙ sym read)) in
    subst (λ n. IsToldBy (reply_now b q request) (then_some (not (eqb n expected)) write.Exists)) read_now
    (told_by_version request expected now ((after z (seen q)).version k) (is_some (present (after z (seen q)) (moment_of request) (key_of request))) asked
    (ap is_some (same.finds (moment_of request)) ∙ (ap (λ m. is_some (present (after z (seen p)) m (key_of request))) (ap moment_of asked) ∙ there)))

-- ---- the answer

refusal_entry : (z : Shape) (request : Request) (said : Reply) → IsEntry z (bucket_of z (key_of request)) (λ pass. Replied pass request said) (λ pass. Wrote pass request said None)
refusal_entry z request said = record { at = λ pass. refl; adds = λ pass. refl; of = λ pass. refl; still = λ pass. tt; calm = λ pass. tt; undrawn = λ pass. tt; untried = λ pass. tt }

module _ (b : Board) (request : Request) (said : Reply) (p q f s : Pass) (quiet : IsQuiet b p) {into : Option ℕ}
    (took : HasBegun b (bucket_of b.shape (key_of request)) into p q) (idles : Idles b q f)
    (refuses : RefusesUnderBit b request said f s) where
  abbrev home : ℕ
  home = bucket_of b.shape (key_of request)

  pub refused_goes_on : GoesOn b p s
  refused_goes_on = entered_on b home false (λ pass. Replied pass request said) (λ pass. Wrote pass request said None) (refusal_entry b.shape request said) p q f s quiet took idles refuses

  pub refused_replied : AddsReply request said p s
  refused_replied = (
    entered b home false (λ pass. Replied pass request said) (λ pass. Wrote pass request said None) (refusal_entry b.shape request said) p q f s quiet took idles refuses,
    plain_back b home false (λ pass. Replied pass request said) (λ pass. Wrote pass request said None) (refusal_entry b.shape request said) p q f s quiet took idles refuses,
    memo_back b home false (λ pass. Replied pass request said) (λ pass. Wrote pass request said None) (refusal_entry b.shape request said) p q f s quiet took idles refuses,
  )

  pub refused_undrawn : DrawsNothing p s
  refused_undrawn = entered_undrawn b home false (λ pass. Replied pass request said) (λ pass. Wrote pass request said None) (refusal_entry b.shape request said) p q f s quiet took idles refuses

  pub refused_peeking : PeeksInto into p s
  refused_peeking = entered_peeking b home false (λ pass. Replied pass request said) (λ pass. Wrote pass request said None) (refusal_entry b.shape request said) p q f s quiet took idles refuses

  pub refused_takes : TakesOneBit home p s
  refused_takes = entered_taking b home false (λ pass. Replied pass request said) (λ pass. Wrote pass request said None) (refusal_entry b.shape request said) p q f s quiet took idles refuses

  -- as the answer to a request to store
  pub refused_answer : (told : WriteAnswer) → reply_of_write told ≡ Some said → IsRefusal said → IsWriteAnswer b.shape request told p s
  refused_answer told is refusal = by told said is refusal refused_replied
    where
      by : (told : WriteAnswer) (said : Reply) → reply_of_write told ≡ Some said → IsRefusal said → AddsReply request said p s → IsWriteAnswer b.shape request told p s
      by write.NotStored said is refusal replied = subst (λ r. AddsReply request r p s) (sym (same_Some reply.NotStored said is)) replied
      by write.Exists said is refusal replied = subst (λ r. AddsReply request r p s) (sym (same_Some reply.Exists said is)) replied
      by write.NotFound said is refusal replied = subst (λ r. AddsReply request r p s) (sym (same_Some reply.NotFound said is)) replied
      by write.Stored said is refusal replied = absurd (subst IsRefusal (sym (same_Some reply.Stored said is)) refusal)
      by write.NoRoom said is refusal replied = absurd (none-some said is)
      by write.BucketFull said is refusal replied = absurd (none-some said is)
      by write.Busy said is refusal replied = absurd (none-some said is)
