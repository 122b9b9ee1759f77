-- What a put comes to, by its calls and the steps after them.
use Rattle.std.proofs.Common.{◌≡◌, ℕ, ◌≤◌, List, [], ◌∷◌, ◌++◌, None, Some, inl, inr, refl, sym, ap, ◌∙◌, subst, arith}
use Rattle.std.specs.Prelude.{replicate}
use Rattle.std.proofs.lemmas.Option.{same_Some}
use Rattle.segword.specs.Words.{Shape, span_of}
use Rattle.segmodel.specs.declared.answer.EvictAnswer.TheVariants as evict
use Rattle.segmodel.specs.declared.answer.RefillAnswer.TheVariants as refill
use Rattle.segmodel.specs.declared.answer.WriteAnswer.TheVariants as write
use Rattle.segmodel.specs.declared.entry.Entry.TheVariants.{Wrote}
use Rattle.segmodel.specs.declared.request.Reply.TheVariants.{Stored}
use Rattle.segmodel.specs.declared.request.Request.TheVariants.{Set}
use Rattle.segmodel.specs.Words.{after, bucket_of, Entry, IsBetween, mine as mine_in, Request, WriteAnswer}
use Rattle.segbase.specs.declared.pass.PlainPart.{PlainPart}
use Rattle.segbase.specs.Words.{Board, mine, number, Pass, seen}
use Rattle.segstore.specs.Words.{GoesOn, IsBusy, IsQuiet}
use Rattle.segstore.proofs.Idling.{goes_same}
use Rattle.segwrite.specs.Words.{Writes}
use Rattle.segevict.proofs.RowsOut.{goes_then}
use Rattle.segindex.specs.Words.{board_of, Index, shape_of}
use Rattle.segclient.specs.declared.member.Member.{Member}
use Rattle.segclient.specs.declared.put.PutAnswer.{PutAnswer}
use Rattle.segclient.specs.declared.put.PutAnswer.TheVariants as put
use Rattle.segclient.specs.declared.segments.Window.{Window}
use Rattle.segclient.specs.Clearing.{effort_of_steps}
use Rattle.segclient.specs.Lives.{life_window}
use Rattle.segclient.specs.Member.{IsMember}
use Rattle.segclient.specs.PutCalls.{evicts, finds_own, IsCall, IsInWindow, IsRefused, keeps, Makes, Plan, PutCall, refills, sets, takes_out}
use Rattle.segclient.specs.PutLaws.{FoundFull, IsDenied, IsPutReason, PutCounts, PutGoesOn, PutIsRefused, PutLasts, Somewhen, StoresInWindow}
use Rattle.segclient.specs.PutParts.{effort_of}
use Rattle.segclient.specs.Puts.{PutsFor, StoredFor}
use Rattle.segclient.specs.Putting.{IsPutAnswer}
use Rattle.segclient.proofs.Added.{Chosen, chosen_on, put_adds}
use Rattle.segclient.proofs.Calls.{call_on, last_of, makes_on}
use Rattle.segclient.proofs.Steps.{clears_on}

-- ---- the parts of a put

module _ (i : Index) (time : ℕ) (key value : List ℕ) (told : PutAnswer) (old new : Member)
    (member : IsMember i old) (puts : PutsFor time key value told (board_of i) old new) where
  abbrev pub put_plan : Plan
  put_plan = record { request = Some (Set key value old.clock); cutoff = old.cutoff; deadline = puts.until; window = puts.window }

  pub from : Chosen (board_of i) old.pass puts.chosen
  from = chosen_on (board_of i) old.pass puts.chosen member.0 puts.chooses.chooses

  pub made : GoesOn (board_of i) puts.chosen puts.between
  made = makes_on (board_of i) put_plan puts.calls puts.chosen puts.between from.on.quiet puts.makes

  pub until_stored : GoesOn (board_of i) old.pass puts.between
  until_stored = goes_then (board_of i) old.pass puts.chosen puts.between from.on made

  pub cleared : GoesOn (board_of i) puts.between new.pass
  cleared = clears_on (board_of i) old.cutoff puts.steps puts.between new.pass made.quiet puts.clears

-- ---- what it leaves

pub on : PutGoesOn
on i time key value told old new member puts = (
  goes_then (board_of i) old.pass puts.between new.pass (until_stored i time key value told old new member puts) (cleared i time key value told old new member puts),
  puts.memo,
  puts.draws,
  puts.settings,
)

pub counts : PutCounts
counts i time key value told old new member puts = record {
  until = puts.until;
  deadline = puts.deadline;
  room = effort_of puts.calls;
  cleared = effort_of_steps puts.steps;
  adds = put_adds i time key value old new member told puts;
  unasked = λ other. ap effort_of_steps (puts.unasked other);
  unqueued = λ bare. ap effort_of_steps (puts.unqueued bare);
  stats = puts.stats;
}

-- ---- how long it lasts

-- the set that a put ends with that is Stored
pub record LastSet (b : Board) (asked : Request) (q : Pass) : Type 0 where
  pub before : Pass
  pub same : number before ≡ number q
  pub writes : Writes b asked write.Stored before q

last_set : (i : Index) (time : ℕ) (key value : List ℕ) (old new : Member) → IsMember i old
    → (puts : PutsFor time key value put.Stored (board_of i) old new) → LastSet (board_of i) (Set key value old.clock) puts.between
last_set i time key value old new member puts =
    let b = board_of i in
    let asks = put_plan i time key value put.Stored old new member puts in
    let earlier = puts.answer.0 in
    let last = last_of b asks (sets write.Stored) earlier puts.chosen puts.between (subst (λ l. Makes b asks l puts.chosen puts.between) puts.answer.1 puts.makes) in
    let asked : Set last.2.0 last.2.1 last.2.2 ≡ Set key value old.clock = same_Some (Set last.2.0 last.2.1 last.2.2) (Set key value old.clock) (sym last.2.3) in
    record {
      before = last.0;
      same = sym last.2.6.on.same;
      writes = subst (λ r. Writes b r write.Stored last.0 puts.between) asked last.2.6;
    }

stores_in : (b : Board) (asked : Request) (window : Window) (n : ℕ) (q : Pass) → IsQuiet b q → number q ≡ n → LastSet b asked q → StoredFor window q
    → StoresInWindow b.shape n asked window (seen q)
stores_in b asked window n q quiet is last (until, (segment, current, deadline), within) =
    let writes = last.writes in
    let at = writes.answer.0 in
    let there : segment ≡ at = same_Some segment at (sym current ∙ ap (λ (x : PlainPart). x.current) writes.answer.2.plain ∙ writes.answer.2.current) in
    let known : (after b.shape (seen q)).deadline segment ≡ until = quiet.segments.deadlines segment until deadline in
    record {
      segment = at;
      earlier = mine last.before;
      newest = subst (λ m. mine_in m (seen q) ≡ Wrote m asked Stored (Some at) ∷ mine last.before) is
          (writes.answer.1 ∙ ap (λ m. Wrote m asked Stored (Some at) ∷ mine last.before) last.same);
      lasts = subst (IsInWindow window) (sym known ∙ ap (λ s. (after b.shape (seen q)).deadline s) there) within;
    }

wider : (shape : Shape) (n : ℕ) (asked : Request) (window life : Window) (history : List Entry) → life.earliest ≤ window.earliest → window.latest ≤ life.latest
    → StoresInWindow shape n asked window history → StoresInWindow shape n asked life history
wider shape n asked window life history early late is = record {
  segment = is.segment;
  earlier = is.earlier;
  newest = is.newest;
  lasts = (let x = is.lasts.0 in omega (arith, early, x), let x = is.lasts.1 in omega (arith, late, x));
}

stored : (i : Index) (time : ℕ) (key value : List ℕ) (old new : Member) → IsMember i old → PutsFor time key value put.Stored (board_of i) old new
    → (history : List Entry) × IsBetween (seen old.pass) (seen new.pass) history
    × StoresInWindow (shape_of i) (number old.pass) (Set key value old.clock) (life_window old.clock time) history
stored i time key value old new member puts =
    let to = until_stored i time key value put.Stored old new member puts in
    let asked = Set key value old.clock in
    let in_window = stores_in (board_of i) asked puts.window (number old.pass) puts.between to.quiet to.same (last_set i time key value old new member puts) (puts.stored refl) in (
      seen puts.between,
      (to.seen, (cleared i time key value put.Stored old new member puts).seen),
      wider (shape_of i) (number old.pass) asked puts.window (life_window old.clock time) (seen puts.between) puts.life.earliest puts.life.latest in_window,
    )

pub lasts : PutLasts
lasts i time key value told old new member puts is = stored i time key value old new member (subst (λ t. PutsFor time key value t (board_of i) old new) is puts)

-- ---- why it isn't Stored

module _ (b : Board) where
  -- with more before and behind
  pub wider_call : (Is : Pass → Pass → Type 0) (p q r s : Pass) → GoesOn b p q → Somewhen b Is q r → GoesOn b r s → Somewhen b Is p s
  wider_call Is p q r s first (start, end, to, is, rest) last = (start, end, goes_then b p q start first to, is, goes_then b end r s rest last)

  module _ (plan : Plan) where
    module _ (Is : Pass → Pass → Type 0) where
      -- the last call, of which this is so
      pub last_call : (call : PutCall) (earlier : List PutCall) (p q : Pass) → IsQuiet b p → Makes b plan (call ∷ earlier) p q
          → ((start end : Pass) → IsCall b plan call start end → Is start end) → Somewhen b Is p q
      last_call call earlier p q quiet makes is =
          let last = last_of b plan call earlier p q makes in
          let before = makes_on b plan earlier p last.0 quiet last.1 in
          (last.0, q, before, is last.0 q last.2, goes_same b q (call_on b plan call last.0 q last.2).quiet)

      -- one before the last
      pub earlier_call : (call : PutCall) (earlier : List PutCall) (p q : Pass) → IsQuiet b p → Makes b plan (call ∷ earlier) p q
          → ((r : Pass) → Makes b plan earlier p r → Somewhen b Is p r) → Somewhen b Is p q
      earlier_call call earlier p q quiet makes is =
          let last = last_of b plan call earlier p q makes in
          wider_call Is p p last.0 q (goes_same b p quiet) (is last.0 last.1) (call_on b plan call last.0 q last.2)

    -- a segment that was refused couldn't be had
    pub denied : (segment : ℕ) (calls : List PutCall) (p q : Pass) → IsQuiet b p → Makes b plan calls p q → IsRefused segment calls → Somewhen b (IsDenied b.shape segment) p q
    unfolding IsRefused
    denied segment [] p q quiet makes none = absurd none
    denied segment (sets told ∷ earlier) p q quiet makes none = absurd none
    denied segment (evicts other (evict.Busy keys) ∷ earlier) p q quiet makes (inl here) =
        last_call (IsDenied b.shape segment) (evicts other (evict.Busy keys)) earlier p q quiet makes (λ start end is. subst (λ s. IsDenied b.shape s start end) (sym here) (inl is.1.answer.3))
    denied segment (evicts other (evict.Busy keys) ∷ earlier) p q quiet makes (inr before) =
        earlier_call (IsDenied b.shape segment) (evicts other (evict.Busy keys)) earlier p q quiet makes (λ r made. denied segment earlier p r quiet made before)
    denied segment (evicts other (evict.Evicted keys) ∷ earlier) p q quiet makes is =
        earlier_call (IsDenied b.shape segment) (evicts other (evict.Evicted keys)) earlier p q quiet makes (λ r made. denied segment earlier p r quiet made is)
    denied segment (evicts other evict.NotYours ∷ earlier) p q quiet makes is =
        earlier_call (IsDenied b.shape segment) (evicts other evict.NotYours) earlier p q quiet makes (λ r made. denied segment earlier p r quiet made is)
    denied segment (keeps other row cutoff told ∷ earlier) p q quiet makes is =
        earlier_call (IsDenied b.shape segment) (keeps other row cutoff told) earlier p q quiet makes (λ r made. denied segment earlier p r quiet made is)
    denied segment (refills other refill.Refilled ∷ earlier) p q quiet makes none = absurd none
    denied segment (refills other refill.Held ∷ earlier) p q quiet makes (inl here) =
        last_call (IsDenied b.shape segment) (refills other refill.Held) earlier p q quiet makes (λ start end is. subst (λ s. IsDenied b.shape s start end) (sym here) (inr is.1.answer.1))
    denied segment (refills other refill.Held ∷ earlier) p q quiet makes (inr before) =
        earlier_call (IsDenied b.shape segment) (refills other refill.Held) earlier p q quiet makes (λ r made. denied segment earlier p r quiet made before)
    denied segment (refills other refill.NotYours ∷ earlier) p q quiet makes is =
        earlier_call (IsDenied b.shape segment) (refills other refill.NotYours) earlier p q quiet makes (λ r made. denied segment earlier p r quiet made is)
    denied segment (refills other refill.NotEvicted ∷ earlier) p q quiet makes is =
        earlier_call (IsDenied b.shape segment) (refills other refill.NotEvicted) earlier p q quiet makes (λ r made. denied segment earlier p r quiet made is)
    denied segment (finds_own found ∷ earlier) p q quiet makes is =
        earlier_call (IsDenied b.shape segment) (finds_own found) earlier p q quiet makes (λ r made. denied segment earlier p r quiet made is)
    denied segment (takes_out other row told ∷ earlier) p q quiet makes is =
        earlier_call (IsDenied b.shape segment) (takes_out other row told) earlier p q quiet makes (λ r made. denied segment earlier p r quiet made is)

  -- the write of a set of the put
  set_writes : (key value : List ℕ) (now : ℕ) (plan : Plan) (told : WriteAnswer) (p q : Pass)
      → plan.request ≡ Some (Set key value now) → IsCall b plan (sets told) p q → Writes b (Set key value now) told p q
  set_writes key value now plan told p q asks is = subst (λ r. Writes b r told p q) (same_Some (Set is.0 is.1 is.2) (Set key value now) (sym is.3 ∙ asks)) is.6

  full_last : (key value : List ℕ) (now : ℕ) (plan : Plan) → plan.request ≡ Some (Set key value now)
      → (earlier : List PutCall) (p q : Pass) → IsQuiet b p → Makes b plan (sets write.BucketFull ∷ earlier) p q → Somewhen b (FoundFull b.shape key) p q
  full_last key value now plan asks earlier p q quiet makes =
      last_call plan (FoundFull b.shape key) (sets write.BucketFull) earlier p q quiet makes (λ start end is. (set_writes key value now plan write.BucketFull start end asks is).answer.2)

  -- why the calls of a put ended so
  pub ends : (key value : List ℕ) (now : ℕ) (plan : Plan) (n : ℕ) (told : PutAnswer) (calls : List PutCall) (p q : Pass)
      → plan.request ≡ Some (Set key value now) → number p ≡ n → IsQuiet b p → Makes b plan calls p q → IsPutAnswer b.shape n (span_of key value) told calls
      → IsPutReason b key value told p q
  ends key value now plan n put.Stored calls p q asks same quiet makes answer = tt
  ends key value now plan n put.NoRoom calls p q asks same quiet makes answer = λ fits segment own. denied plan segment calls p q quiet makes (answer fits segment (own ∙ same))
  ends key value now plan n put.BucketFull calls p q asks same quiet makes (earlier, inl is) =
      earlier_call plan (FoundFull b.shape key) (finds_own None) (sets write.BucketFull ∷ earlier) p q quiet (subst (λ l. Makes b plan l p q) is makes)
      (λ r made. full_last key value now plan asks earlier p r quiet made)
  ends key value now plan n put.BucketFull calls p q asks same quiet makes (earlier, inr (is, again)) =
      full_last key value now plan asks earlier p q quiet (subst (λ l. Makes b plan l p q) is makes)
  ends key value now plan n put.Busy calls p q asks same quiet makes answer =
      last_call plan (IsBusy (bucket_of b.shape key))
      (sets write.Busy) (replicate 15 (sets write.Busy) ++ answer.0) p q quiet
      (subst (λ l. Makes b plan l p q) answer.1 makes)
      (λ start end is. (set_writes key value now plan write.Busy start end asks is).answer.1)

  -- so it is of the whole put
  pub reason_wider : (key value : List ℕ) (told : PutAnswer) (p q r s : Pass) → GoesOn b p q → GoesOn b r s → IsPutReason b key value told q r → IsPutReason b key value told p s
  reason_wider key value put.Stored p q r s first last is = tt
  reason_wider key value put.NoRoom p q r s first last is = λ fits segment own. wider_call (IsDenied b.shape segment) p q r s first (is fits segment (own ∙ sym first.same)) last
  reason_wider key value put.BucketFull p q r s first last is = wider_call (FoundFull b.shape key) p q r s first is last
  reason_wider key value put.Busy p q r s first last is = wider_call (IsBusy (bucket_of b.shape key)) p q r s first is last

pub refused : PutIsRefused
refused i time key value told old new member puts =
    let b = board_of i in
    let first = from i time key value told old new member puts in
    reason_wider b key value told old.pass puts.chosen puts.between new.pass first.on (cleared i time key value told old new member puts)
    (ends b key value old.clock (put_plan i time key value told old new member puts) (number old.pass) told puts.calls puts.chosen puts.between
    refl first.on.same first.on.quiet puts.makes puts.answer)
