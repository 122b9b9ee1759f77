-- Lists of the calls of a put: some calls and then more, and what they come to.
use Rattle.std.proofs.Common.{◌≡◌, ℕ, ◌+◌, ◌≤◌, List, [], ◌∷◌, ◌++◌, length-append, Option, Some, None, refl, sym, ap, ◌∙◌, subst, inl, inr, arith}
use Rattle.std.proofs.lemmas.List.Sums.{sum_by-append, sum_by-cons}
use Rattle.std.proofs.lemmas.Option.{none-some}
use Rattle.segmodel.specs.declared.answer.EvictAnswer.TheVariants as evict
use Rattle.segmodel.specs.declared.answer.RefillAnswer.TheVariants as refill
use Rattle.segmodel.specs.declared.request.Request.TheVariants.{Set}
use Rattle.segmodel.specs.Words.{EvictAnswer, owner, RefillAnswer, Request}
use Rattle.segbase.specs.Words.{Board, number, Pass}
use Rattle.segstore.specs.Words.{GoesOn, IsQuiet}
use Rattle.segstore.proofs.Idling.{goes_same}
use Rattle.segevict.specs.declared.retention.KeepRowAnswer.{KeepRowAnswer}
use Rattle.segevict.specs.Words.{EvictsSegment, KeepsItem}
use Rattle.segevict.proofs.RowsOut.{goes_then}
use Rattle.segindex.specs.Refilling.{RefillsSegment}
use Rattle.segtally.specs.Recycling.{evicted_by, refilled_by}
use Rattle.segclient.specs.declared.effort.Effort.{Effort}
use Rattle.segclient.specs.PutCalls.{PutCall, sets, evicts, keeps, refills, finds_own, takes_out, Plan, came_to, refilled_segments, kept_items, evicted_keys, IsRefused, IsCall, IsInWindow, Makes, room_plan}
use Rattle.segclient.specs.PutParts.{Arranges, effort_from, IsEffort}

-- ---- some calls and then more

pub refused_then : (segment : ℕ) (later earlier : List PutCall) → IsRefused segment later → IsRefused segment (later ++ earlier)
unfolding IsRefused
refused_then segment [] earlier none = absurd none
refused_then segment (sets told ∷ later) earlier none = absurd none
refused_then segment (evicts other (evict.Busy keys) ∷ later) earlier (inl here) = inl here
refused_then segment (evicts other (evict.Busy keys) ∷ later) earlier (inr before) = inr (refused_then segment later earlier before)
refused_then segment (evicts other (evict.Evicted keys) ∷ later) earlier is = refused_then segment later earlier is
refused_then segment (evicts other evict.NotYours ∷ later) earlier is = refused_then segment later earlier is
refused_then segment (keeps other row cutoff told ∷ later) earlier is = refused_then segment later earlier is
refused_then segment (refills other refill.Refilled ∷ later) earlier none = absurd none
refused_then segment (refills other refill.Held ∷ later) earlier (inl here) = inl here
refused_then segment (refills other refill.Held ∷ later) earlier (inr before) = inr (refused_then segment later earlier before)
refused_then segment (refills other refill.NotYours ∷ later) earlier is = refused_then segment later earlier is
refused_then segment (refills other refill.NotEvicted ∷ later) earlier is = refused_then segment later earlier is
refused_then segment (finds_own found ∷ later) earlier is = refused_then segment later earlier is
refused_then segment (takes_out other row told ∷ later) earlier is = refused_then segment later earlier is

module _ (b : Board) (plan : Plan) where
  pub none_made : (p : Pass) → Makes b plan [] p p
  unfolding Makes
  none_made p = refl

  pub made_same : (p q : Pass) → q ≡ p → Makes b plan [] p q
  unfolding Makes
  made_same p q same = same

  pub one_more : (call : PutCall) (earlier : List PutCall) (p q r : Pass) → Makes b plan earlier p q → IsCall b plan call q r → Makes b plan (call ∷ earlier) p r
  unfolding Makes
  one_more call earlier p q r first last = (q, first, last)

  pub last_of : (call : PutCall) (earlier : List PutCall) (p q : Pass) → Makes b plan (call ∷ earlier) p q → (between : Pass) × Makes b plan earlier p between × IsCall b plan call between q
  unfolding Makes
  last_of call earlier p q makes = makes

  pub makes_then : (later earlier : List PutCall) (p q r : Pass) → Makes b plan earlier p q → Makes b plan later q r → Makes b plan (later ++ earlier) p r
  unfolding Makes
  makes_then [] earlier p q r first same = subst (Makes b plan earlier p) (sym same) first
  makes_then (call ∷ later) earlier p q r first (between, rest, last) = (between, makes_then later earlier p q between first rest, last)

  pub call_on : (call : PutCall) (p q : Pass) → IsCall b plan call p q → GoesOn b p q
  call_on (sets told) p q is = is.6.on
  call_on (evicts segment told) p q is = is.1.on
  call_on (keeps segment row cutoff told) p q is = is.2.on
  call_on (refills segment told) p q is = is.1.on
  call_on (finds_own found) p q is = is.1.on
  call_on (takes_out segment row told) p q is = is.2.on

  pub makes_on : (calls : List PutCall) (p q : Pass) → IsQuiet b p → Makes b plan calls p q → GoesOn b p q
  unfolding Makes
  makes_on [] p q quiet same = subst (GoesOn b p) (sym same) (goes_same b p quiet)
  makes_on (call ∷ calls) p q quiet (between, rest, last) = goes_then b p between q (makes_on calls p between quiet rest) (call_on call between q last)

  -- the pass is the same one
  pub makes_same : (calls : List PutCall) (p q : Pass) → Makes b plan calls p q → number q ≡ number p
  unfolding Makes
  makes_same [] p q same = ap number same
  makes_same (call ∷ calls) p q (between, rest, last) = (call_on call between q last).same ∙ makes_same calls p between rest

-- ---- calls for less are calls for more

pub record IsWithin (from to : Plan) : Type 0 where
  pub request : (request : Request) → from.request ≡ Some request → to.request ≡ Some request
  pub cutoff : (cutoff : ℕ) → from.cutoff ≡ Some cutoff → to.cutoff ≡ Some cutoff
  pub deadline : from.deadline ≡ to.deadline
  pub window : (request : Request) → from.request ≡ Some request → from.window ≡ to.window

-- those that make room, for a client that keeps too, and for a put too
pub room_within : (deadline : ℕ) (to : Plan) (cutoff : Option ℕ) → cutoff ≡ to.cutoff → deadline ≡ to.deadline → IsWithin (room_plan cutoff deadline) to
room_within deadline to cutoff same late = record {
  request = λ request none. absurd (none-some request none);
  cutoff = λ least is. sym same ∙ is;
  deadline = late;
  window = λ request none. absurd (none-some request none);
}

pub bare_within : (deadline : ℕ) (cutoff : Option ℕ) → IsWithin (room_plan None deadline) (room_plan cutoff deadline)
bare_within deadline cutoff = record {
  request = λ request none. absurd (none-some request none);
  cutoff = λ least none. absurd (none-some least none);
  deadline = refl;
  window = λ request none. absurd (none-some request none);
}

module _ (b : Board) (from to : Plan) (within : IsWithin from to) where
  call_within : (call : PutCall) (p q : Pass) → IsCall b from call p q → IsCall b to call p q
  call_within (sets told) p q (key, value, now, is, fresh, set, writes) = (
    key,
    value,
    now,
    within.request (Set key value now) is,
    (λ until stores. subst (λ window. IsInWindow window until) (within.window (Set key value now) is)
        (fresh until stores)),
    set,
    writes,
  )
  call_within (evicts segment told) p q is = is
  call_within (keeps segment row cutoff told) p q is = (is.0, (is.1.0, within.cutoff is.1.0 is.1.1, is.1.2), is.2)
  call_within (refills segment told) p q is = (is.0, subst (λ deadline. RefillsSegment b segment deadline told p q) within.deadline is.1)
  call_within (finds_own found) p q is = ((is.0.0, within.request is.0.0 is.0.1), is.1)
  call_within (takes_out segment row told) p q is = ((is.0.0, within.request is.0.0 is.0.1), is.1, is.2)

  pub makes_within : (calls : List PutCall) (p q : Pass) → Makes b from calls p q → Makes b to calls p q
  unfolding Makes
  makes_within [] p q same = same
  makes_within (call ∷ calls) p q (between, rest, last) = (between, makes_within calls p between rest, call_within call between q last)

-- ---- efforts

abbrev pub both : Effort → Effort → Effort
both first more = effort_from (first.refilled + more.refilled) (first.kept + more.kept) (first.keys + more.keys)

pub no_effort : IsEffort [] (effort_from 0 0 0)
no_effort = record { refilled = refl; kept = refl; keys = refl }

pub effort_then : (later earlier : List PutCall) (first more : Effort) → IsEffort earlier first → IsEffort later more → IsEffort (later ++ earlier) (both first more)
effort_then later earlier first more one two = record {
  refilled = let all = sum_by-append (came_to refilled_segments) later earlier in let x = one.refilled in let y = two.refilled in omega (arith, all, x, y);
  kept = let all = sum_by-append (came_to kept_items) later earlier in let x = one.kept in let y = two.kept in omega (arith, all, x, y);
  keys = let all = sum_by-append (came_to evicted_keys) later earlier in let x = one.keys in let y = two.keys in omega (arith, all, x, y);
}

-- one call more
pub effort_more : (call : PutCall) (earlier : List PutCall) (first : Effort) → IsEffort earlier first
    → IsEffort (call ∷ earlier) (effort_from (first.refilled + came_to refilled_segments call) (first.kept + came_to kept_items call) (first.keys + came_to evicted_keys call))
effort_more call earlier first one = record {
  refilled = let all = sum_by-cons (came_to refilled_segments) call earlier in let x = one.refilled in omega (arith, all, x);
  kept = let all = sum_by-cons (came_to kept_items) call earlier in let x = one.kept in omega (arith, all, x);
  keys = let all = sum_by-cons (came_to evicted_keys) call earlier in let x = one.keys in omega (arith, all, x);
}

-- one call
pub effort_one : (call : PutCall) (effort : Effort) → effort.refilled ≡ came_to refilled_segments call
    → effort.kept ≡ came_to kept_items call → effort.keys ≡ came_to evicted_keys call → IsEffort (call ∷ []) effort
effort_one call effort one two three = let is = effort_more call [] (effort_from 0 0 0) no_effort in record {
  refilled = let x = is.refilled in omega (arith, x, one);
  kept = let x = is.kept in omega (arith, x, two);
  keys = let x = is.keys in omega (arith, x, three);
}

-- the same numbers by other names
pub same_effort : (calls : List PutCall) (first effort : Effort) → effort.refilled ≡ first.refilled → effort.kept ≡ first.kept → effort.keys ≡ first.keys → IsEffort calls first → IsEffort calls effort
same_effort calls first effort one two three is = record { refilled = one ∙ is.refilled; kept = two ∙ is.kept; keys = three ∙ is.keys }

-- an evict's keys, and a refill's segment
pub evicted_came : (segment : ℕ) (told : EvictAnswer) → evicted_by told ≡ came_to evicted_keys (evicts segment told)
evicted_came segment (evict.Evicted keys) = refl
evicted_came segment (evict.Busy keys) = refl
evicted_came segment evict.NotYours = refl

pub refilled_came : (segment : ℕ) (told : RefillAnswer) → refilled_by told ≡ came_to refilled_segments (refills segment told)
refilled_came segment refill.Refilled = refl
refilled_came segment refill.NotYours = refl
refilled_came segment refill.NotEvicted = refl
refilled_came segment refill.Held = refl

-- ---- calls for room

module _ (b : Board) (cutoff : Option ℕ) (deadline : ℕ) where
  abbrev pub arranges_none : (p : Pass) → Arranges b cutoff deadline 0 (effort_from 0 0 0) p p
  arranges_none p = record { calls = []; makes = none_made b (room_plan cutoff deadline) p; few = omega arith; comes = no_effort }

  abbrev pub arranges_then : (m n : ℕ) (first more : Effort) (p q r : Pass) → Arranges b cutoff deadline m first p q
      → Arranges b cutoff deadline n more q r → Arranges b cutoff deadline (m + n) (both first more) p r
  arranges_then m n first more p q r one then = record {
    calls = then.calls ++ one.calls;
    makes = makes_then b (room_plan cutoff deadline) then.calls one.calls p q r one.makes then.makes;
    few = let long = length-append then.calls one.calls in let x = one.few in let y = then.few in omega (arith, long, x, y);
    comes = effort_then then.calls one.calls first more one.comes then.comes;
  }

  -- no call
  pub none_arranges : (most : ℕ) (effort : Effort) (p : Pass) → effort ≡ effort_from 0 0 0 → Arranges b cutoff deadline most effort p p
  none_arranges most effort p none = record { calls = []; makes = none_made b (room_plan cutoff deadline) p; few = omega arith; comes = subst (IsEffort []) (sym none) no_effort }

  -- some and then more, whose efforts were added up
  pub arranges_plus : (m n total : ℕ) (first more all : Effort) (p q r : Pass) → m + n ≤ total
      → all ≡ both first more → Arranges b cutoff deadline m first p q → Arranges b cutoff deadline n more q r
      → Arranges b cutoff deadline total all p r
  arranges_plus m n total first more all p q r enough sum one then = record {
    calls = then.calls ++ one.calls;
    makes = makes_then b (room_plan cutoff deadline) then.calls one.calls p q r one.makes then.makes;
    few = let long = length-append then.calls one.calls in let x = one.few in let y = then.few in omega (arith, long, x, y, enough);
    comes = subst (IsEffort (then.calls ++ one.calls)) (sym sum) (effort_then then.calls one.calls first more one.comes then.comes);
  }

  -- the same with a higher bound, and other names for the numbers
  abbrev pub arranges_as : (m n : ℕ) (first effort : Effort) (p q : Pass) → m ≤ n → effort.refilled ≡ first.refilled
      → effort.kept ≡ first.kept → effort.keys ≡ first.keys → Arranges b cutoff deadline m first p q
      → Arranges b cutoff deadline n effort p q
  arranges_as m n first effort p q enough one two three is = record {
    calls = is.calls;
    makes = is.makes;
    few = let few = is.few in omega (arith, few, enough);
    comes = same_effort is.calls first effort one two three is.comes;
  }

  one_arranges : (call : PutCall) (effort : Effort) (p q : Pass) → effort.refilled ≡ came_to refilled_segments call
      → effort.kept ≡ came_to kept_items call → effort.keys ≡ came_to evicted_keys call
      → IsCall b (room_plan cutoff deadline) call p q → Arranges b cutoff deadline 1 effort p q
  one_arranges call effort p q one two three is = record {
    calls = call ∷ [];
    makes = one_more b (room_plan cutoff deadline) call [] p p q (none_made b (room_plan cutoff deadline) p) is;
    few = omega arith;
    comes = effort_one call effort one two three;
  }

  pub evict_arranges : (segment : ℕ) (told : EvictAnswer) (effort : Effort) (p q : Pass) → effort.refilled ≡ 0
      → effort.kept ≡ 0 → effort.keys ≡ evicted_by told → owner b.shape segment ≡ number p
      → EvictsSegment b segment told p q → Arranges b cutoff deadline 1 effort p q
  evict_arranges segment told effort p q one two three own went = one_arranges (evicts segment told) effort p q one two (three ∙ evicted_came segment told) (own, went)

  pub refill_arranges : (segment : ℕ) (told : RefillAnswer) (effort : Effort) (p q : Pass)
      → effort.refilled ≡ refilled_by told → effort.kept ≡ 0 → effort.keys ≡ 0 → owner b.shape segment ≡ number p
      → RefillsSegment b segment deadline told p q → Arranges b cutoff deadline 1 effort p q
  refill_arranges segment told effort p q one two three own filled = one_arranges (refills segment told) effort p q (one ∙ refilled_came segment told) two three (own, filled)

  pub row_arranges : (least segment row by : ℕ) (told : KeepRowAnswer) (effort : Effort) (p q : Pass)
      → cutoff ≡ Some least → least ≤ by → effort.refilled ≡ 0
      → effort.kept ≡ came_to kept_items (keeps segment row by told) → effort.keys ≡ 0
      → owner b.shape segment ≡ number p → KeepsItem b segment row by told p q
      → Arranges b cutoff deadline 1 effort p q
  row_arranges least segment row by told effort p q is enough one two three own stayed = one_arranges (keeps segment row by told) effort p q one two three (own, (least, is, enough), stayed)

  -- a row more is gone over
  pub row_more : (least segment at by row more : ℕ) (before : ℕ) (told : KeepRowAnswer) (p q r : Pass)
      → cutoff ≡ Some least → least ≤ by → owner b.shape segment ≡ number p → number q ≡ number p
      → more ≡ came_to kept_items (keeps segment at by told)
      → Arranges b cutoff deadline row (effort_from 0 before 0) p q → KeepsItem b segment at by told q r
      → Arranges b cutoff deadline (row + 1) (effort_from 0 (before + more) 0) p r
  row_more least segment at by row more before told p q r is enough own same count over stayed =
      arranges_then row 1 (effort_from 0 before 0) (effort_from 0 more 0) p q r over
      (row_arranges least segment at by told (effort_from 0 more 0) q r is enough refl count refl (own
      ∙ sym same) stayed)

  -- those of a client that keeps nothing are those of one that keeps
  abbrev pub arranges_wider : (most : ℕ) (effort : Effort) (p q : Pass)
      → (bare : Arranges b None deadline most effort p q) → (wide : Arranges b cutoff deadline most effort p q)
      × (wide.calls ≡ bare.calls)
  arranges_wider most effort p q bare = (
    record {
      calls = bare.calls;
      makes = makes_within b (room_plan None deadline) (room_plan cutoff deadline)
          (bare_within deadline cutoff) bare.calls p q bare.makes;
      few = bare.few;
      comes = bare.comes;
    },
    refl,
  )
