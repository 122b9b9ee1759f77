-- A put's calls as a whole: sets, and room made between them.
use Rattle.std.proofs.Common.{◌≡◌, ◌≢◌, ◌⊎◌, ℕ, zero, suc, ◌+◌, ◌≤◌, Bool, true, false, List, [], ◌∷◌, ◌++◌, length, All, Option, refl, sym, ap, ◌∙◌, subst, inl, inr, append_assoc, length-append, arith}
use Rattle.std.proofs.lemmas.Bool.{false≢true}
use Rattle.std.proofs.lemmas.List.{append-nil}
use Rattle.std.proofs.lemmas.List.Elements.{All-append, All-cons, All-nil}
use Rattle.std.proofs.lemmas.Option.{none-some}
use Rattle.segword.specs.Words.{Shape}
use Rattle.segmodel.specs.declared.answer.WriteAnswer.TheVariants as write
use Rattle.segmodel.specs.declared.request.Request.TheVariants.{Set}
use Rattle.segmodel.specs.Words.{EvictAnswer, WriteAnswer}
use Rattle.segstore.specs.declared.row.RowRef.{RowRef}
use Rattle.segevict.specs.declared.eviction.EvictRowAnswer.{EvictRowAnswer}
use Rattle.segbase.specs.Words.{Board, number, Pass}
use Rattle.segstore.specs.Words.{has_room_for}
use Rattle.segclient.specs.declared.put.PutAnswer.{PutAnswer}
use Rattle.segclient.specs.declared.put.PutAnswer.TheVariants as put
use Rattle.segclient.specs.declared.effort.Effort.{Effort}
use Rattle.segclient.specs.PutCalls.{PutCall, sets, evicts, keeps, refills, finds_own, takes_out, is_for_room, is_for_word, is_set, Plan, Makes, room_plan, rows_asked}
use Rattle.segclient.specs.PutParts.{AreOpen, AreSets, AreUntilFull, busy_sets, effort_from, EndsSo, IsEffort, is_outside, MakesPut, MakesRows, Sets, SetsIfTimely}
use Rattle.segclient.specs.Putting.{AreNotFull, last_sets, MakesNoRoom, SetsAtMost16}
use Rattle.segclient.proofs.Calls.{both, effort_more, effort_then, no_effort, made_same, makes_same, makes_then, makes_within, refused_then, room_within, last_of}
use Rattle.segclient.proofs.Runs.{apart_then, few_sets, room_then, sets_then}

-- ---- calls that don't store

abbrev IsOpen : PutCall → Type 0
IsOpen call = call ≢ sets write.Stored

pub open_none : AreOpen []
open_none = All-nil IsOpen

pub open_more : (call : PutCall) (calls : List PutCall) → call ≢ sets write.Stored → AreOpen calls → AreOpen (call ∷ calls)
open_more call calls is are = All-cons IsOpen call calls is are

pub open_then : (later earlier : List PutCall) → AreOpen later → AreOpen earlier → AreOpen (later ++ earlier)
open_then later earlier then first = All-append IsOpen later earlier then first

full_apart : sets write.BucketFull ≢ sets write.Stored
full_apart e = cc

no_room_apart : sets write.NoRoom ≢ sets write.Stored
no_room_apart e = cc

busy_apart : sets write.Busy ≢ sets write.Stored
busy_apart e = cc

evict_apart : (segment : ℕ) (told : EvictAnswer) → evicts segment told ≢ sets write.Stored
evict_apart segment told e = cc

pub look_apart : (found : Option RowRef) → finds_own found ≢ sets write.Stored
look_apart found e = cc

pub out_apart : (segment row : ℕ) (told : EvictRowAnswer) → takes_out segment row told ≢ sets write.Stored
out_apart segment row told e = cc

pub full_stored : put.BucketFull ≢ put.Stored
full_stored e = cc

pub busy_stored : put.Busy ≢ put.Stored
busy_stored e = cc

pub no_room_stored : put.NoRoom ≢ put.Stored
no_room_stored e = cc

-- those of room have no set
pub room_open : (b : Board) (cutoff : Option ℕ) (deadline : ℕ) (calls : List PutCall) (p q : Pass) → Makes b (room_plan cutoff deadline) calls p q → AreOpen calls
room_open b cutoff deadline [] p q makes = open_none
room_open b cutoff deadline (sets told ∷ earlier) p q makes =
    let last = last_of b (room_plan cutoff deadline) (sets told) earlier p q makes in absurd (none-some (Set last.2.0 last.2.1 last.2.2) last.2.3)
room_open b cutoff deadline (evicts segment told ∷ earlier) p q makes =
    let last = last_of b (room_plan cutoff deadline) (evicts segment told) earlier p q makes in
    open_more (evicts segment told) earlier (evict_apart segment told)
    (room_open b cutoff deadline earlier p last.0 last.1)
room_open b cutoff deadline (keeps segment row by told ∷ earlier) p q makes =
    let last = last_of b (room_plan cutoff deadline) (keeps segment row by told) earlier p q makes in
    open_more (keeps segment row by told) earlier (λ e. cc)
    (room_open b cutoff deadline earlier p last.0 last.1)
room_open b cutoff deadline (refills segment told ∷ earlier) p q makes =
    let last = last_of b (room_plan cutoff deadline) (refills segment told) earlier p q makes in
    open_more (refills segment told) earlier (λ e. cc) (room_open b cutoff deadline earlier p last.0 last.1)
room_open b cutoff deadline (finds_own found ∷ earlier) p q makes =
    let last = last_of b (room_plan cutoff deadline) (finds_own found) earlier p q makes in absurd (none-some last.2.0.0 last.2.0.1)
room_open b cutoff deadline (takes_out segment row told ∷ earlier) p q makes =
    let last = last_of b (room_plan cutoff deadline) (takes_out segment row told) earlier p q makes in absurd (none-some last.2.0.0 last.2.0.1)

-- ---- sets in a row

busy_open : (busy : ℕ) → AreOpen (busy_sets busy)
unfolding busy_sets
busy_open zero = open_none
busy_open (suc busy) = open_more (sets write.Busy) (busy_sets busy) busy_apart (busy_open busy)

sets_open : (told : PutAnswer) (calls : List PutCall) → told ≢ put.Stored → AreSets told calls → AreOpen calls
sets_open put.Stored calls other is = absurd (other refl)
sets_open put.NoRoom calls other (busy, is) = subst AreOpen (sym is) (open_more (sets write.NoRoom) (busy_sets busy) no_room_apart (busy_open busy))
sets_open put.BucketFull calls other (busy, is) = subst AreOpen (sym is) (open_more (sets write.BucketFull) (busy_sets busy) full_apart (busy_open busy))
sets_open put.Busy calls other is = subst AreOpen (sym is) (busy_open 16)

effort_busy : (busy : ℕ) → IsEffort (busy_sets busy) (effort_from 0 0 0)
unfolding busy_sets
effort_busy zero = no_effort
effort_busy (suc busy) = effort_more (sets write.Busy) (busy_sets busy) (effort_from 0 0 0) (effort_busy busy)

effort_set : (told : WriteAnswer) (busy : ℕ) → IsEffort (sets told ∷ busy_sets busy) (effort_from 0 0 0)
effort_set told busy = effort_more (sets told) (busy_sets busy) (effort_from 0 0 0) (effort_busy busy)

pub effort_sets : (told : PutAnswer) (calls : List PutCall) → AreSets told calls → IsEffort calls (effort_from 0 0 0)
effort_sets put.Stored calls (busy, is) = subst (λ l. IsEffort l (effort_from 0 0 0)) (sym is) (effort_set write.Stored busy)
effort_sets put.NoRoom calls (busy, is) = subst (λ l. IsEffort l (effort_from 0 0 0)) (sym is) (effort_set write.NoRoom busy)
effort_sets put.BucketFull calls (busy, is) = subst (λ l. IsEffort l (effort_from 0 0 0)) (sym is) (effort_set write.BucketFull busy)
effort_sets put.Busy calls is = subst (λ l. IsEffort l (effort_from 0 0 0)) (sym is) (effort_busy 16)

pub ends_sets : (shape : Shape) (pass rows : ℕ) (told : PutAnswer) (calls : List PutCall) → told ≢ put.NoRoom → AreSets told calls → EndsSo shape pass rows told calls
ends_sets shape pass rows put.Stored calls other (busy, is) = (busy_sets busy, is, busy_open busy)
ends_sets shape pass rows put.NoRoom calls other is = absurd (other refl)
ends_sets shape pass rows put.BucketFull calls other is = ((busy_sets is.0, is.1), sets_open put.BucketFull calls full_stored is)
ends_sets shape pass rows put.Busy calls other is = (([], is ∙ sym (append-nil (busy_sets 16))), sets_open put.Busy calls busy_stored is)

pub ends_then : (shape : Shape) (from to rows : ℕ) (told : PutAnswer) (later earlier : List PutCall) → to ≡ from → AreOpen earlier
    → EndsSo shape to rows told later → EndsSo shape from rows told (later ++ earlier)
ends_then shape from to rows put.Stored later earlier same are (rest, is, goes) = (rest ++ earlier, ap (λ l. l ++ earlier) is, open_then rest earlier goes are)
ends_then shape from to rows put.NoRoom later earlier same are (refused, goes) =
    ((λ fits segment own. refused_then segment later earlier (refused fits segment (own ∙ sym same))), open_then later earlier goes are)
ends_then shape from to rows put.BucketFull later earlier same are ((rest, is), goes) = ((rest ++ earlier, ap (λ l. l ++ earlier) is), open_then later earlier goes are)
ends_then shape from to rows put.Busy later earlier same are ((rest, is), goes) =
    ((rest ++ earlier, ap (λ l. l ++ earlier) is ∙ append_assoc (busy_sets 16) rest earlier), open_then later earlier goes are)

-- ---- calls at a full bucket

abbrev IsNotFull : PutCall → Type 0
IsNotFull call = is_for_word call ≡ false

pub not_full_then : (later earlier : List PutCall) → AreNotFull later → AreNotFull earlier → AreNotFull (later ++ earlier)
not_full_then later earlier then first = All-append IsNotFull later earlier then first

-- those of room aren't
pub room_not_full : (b : Board) (cutoff : Option ℕ) (deadline : ℕ) (calls : List PutCall) (p q : Pass) → Makes b (room_plan cutoff deadline) calls p q → AreNotFull calls
room_not_full b cutoff deadline [] p q makes = All-nil IsNotFull
room_not_full b cutoff deadline (sets told ∷ earlier) p q makes =
    let last = last_of b (room_plan cutoff deadline) (sets told) earlier p q makes in absurd (none-some (Set last.2.0 last.2.1 last.2.2) last.2.3)
room_not_full b cutoff deadline (evicts segment told ∷ earlier) p q makes =
    let last = last_of b (room_plan cutoff deadline) (evicts segment told) earlier p q makes in
    All-cons IsNotFull (evicts segment told) earlier refl (room_not_full b cutoff deadline earlier p last.0 last.1)
room_not_full b cutoff deadline (keeps segment row by told ∷ earlier) p q makes =
    let last = last_of b (room_plan cutoff deadline) (keeps segment row by told) earlier p q makes in
    All-cons IsNotFull (keeps segment row by told) earlier refl (room_not_full b cutoff deadline earlier p last.0 last.1)
room_not_full b cutoff deadline (refills segment told ∷ earlier) p q makes =
    let last = last_of b (room_plan cutoff deadline) (refills segment told) earlier p q makes in
    All-cons IsNotFull (refills segment told) earlier refl (room_not_full b cutoff deadline earlier p last.0 last.1)
room_not_full b cutoff deadline (finds_own found ∷ earlier) p q makes =
    let last = last_of b (room_plan cutoff deadline) (finds_own found) earlier p q makes in absurd (none-some last.2.0.0 last.2.0.1)
room_not_full b cutoff deadline (takes_out segment row told ∷ earlier) p q makes =
    let last = last_of b (room_plan cutoff deadline) (takes_out segment row told) earlier p q makes in absurd (none-some last.2.0.0 last.2.0.1)

-- sets that were Busy are of no other kind
busy_all : (Is : PutCall → Type 0) → Is (sets write.Busy) → (busy : ℕ) → All Is (busy_sets busy)
unfolding busy_sets
busy_all Is is zero = All-nil Is
busy_all Is is (suc busy) = All-cons Is (sets write.Busy) (busy_sets busy) is (busy_all Is is busy)

-- nor are sets in a row
sets_all : (Is : PutCall → Type 0) → ((told : WriteAnswer) → Is (sets told)) → (told : PutAnswer) (calls : List PutCall) → AreSets told calls → All Is calls
sets_all Is is put.Stored calls (busy, are) = subst (All Is) (sym are) (All-cons Is (sets write.Stored) (busy_sets busy) (is write.Stored) (busy_all Is (is write.Busy) busy))
sets_all Is is put.NoRoom calls (busy, are) = subst (All Is) (sym are) (All-cons Is (sets write.NoRoom) (busy_sets busy) (is write.NoRoom) (busy_all Is (is write.Busy) busy))
sets_all Is is put.BucketFull calls (busy, are) = subst (All Is) (sym are) (All-cons Is (sets write.BucketFull) (busy_sets busy) (is write.BucketFull) (busy_all Is (is write.Busy) busy))
sets_all Is is put.Busy calls are = subst (All Is) (sym are) (busy_all Is (is write.Busy) 16)

pub are_sets : (told : PutAnswer) (calls : List PutCall) → AreSets told calls → All (λ call. is_set call ≡ true) calls
are_sets told calls are = sets_all (λ call. is_set call ≡ true) (λ other. refl) told calls are

pub no_room_by_sets : (told : PutAnswer) (calls : List PutCall) → AreSets told calls → MakesNoRoom calls
no_room_by_sets told calls are = sets_all (λ call. is_for_room call ≡ false) (λ other. refl) told calls are

busy_not_full : (busy : ℕ) → AreNotFull (busy_sets busy)
busy_not_full busy = busy_all IsNotFull refl busy

until_sets : (told : PutAnswer) (calls : List PutCall) → AreSets told calls → AreUntilFull told calls
until_sets put.Stored calls (busy, is) = subst AreNotFull (sym is) (All-cons IsNotFull (sets write.Stored) (busy_sets busy) refl (busy_not_full busy))
until_sets put.NoRoom calls (busy, is) = subst AreNotFull (sym is) (All-cons IsNotFull (sets write.NoRoom) (busy_sets busy) refl (busy_not_full busy))
until_sets put.BucketFull calls (busy, is) = (busy_sets busy, is, busy_not_full busy)
until_sets put.Busy calls is = subst AreNotFull (sym is) (busy_not_full 16)

until_then : (told : PutAnswer) (later earlier : List PutCall) → AreUntilFull told later → AreNotFull earlier → AreUntilFull told (later ++ earlier)
until_then put.Stored later earlier then first = not_full_then later earlier then first
until_then put.NoRoom later earlier then first = not_full_then later earlier then first
until_then put.BucketFull later earlier (rest, is, then) first = (rest ++ earlier, ap (λ l. l ++ earlier) is, not_full_then rest earlier then first)
until_then put.Busy later earlier then first = not_full_then later earlier then first

pub no_room_full : put.NoRoom ≢ put.BucketFull
no_room_full e = cc

-- ---- efforts

-- the same with other numbers
pub as_many : (b : Board) (plan : Plan) (most total : ℕ) (told : PutAnswer) (first effort : Effort) (p q : Pass)
    → most ≤ total → first ≡ effort → MakesPut b plan most told first p q → MakesPut b plan total told effort p q
as_many b plan most total told first effort p q enough same puts = record {
  calls = puts.calls;
  makes = puts.makes;
  few = let few = puts.few in omega (arith, few, enough);
  comes = subst (IsEffort puts.calls) same puts.comes;
  ends = puts.ends;
  until = puts.until;
  full = puts.full;
  tries = puts.tries;
  spares = puts.spares;
}

-- nothing and then more
pub none_more : (effort : Effort) → both (effort_from 0 0 0) effort ≡ effort
none_more effort = ap (λ (n : ℕ). effort_from n (0 + effort.kept) (0 + effort.keys)) (let e : 0 + effort.refilled ≡ effort.refilled = omega arith in e)
    ∙ ap (λ (n : ℕ). effort_from effort.refilled n (0 + effort.keys)) (let e : 0 + effort.kept ≡ effort.kept = omega arith in e)
    ∙ ap (λ (n : ℕ). effort_from effort.refilled effort.kept n) (let e : 0 + effort.keys ≡ effort.keys = omega arith in e)

-- and more and then nothing
pub more_none : (effort : Effort) → both effort (effort_from 0 0 0) ≡ effort
more_none effort = ap (λ (n : ℕ). effort_from n (effort.kept + 0) (effort.keys + 0)) (let e : effort.refilled + 0 ≡ effort.refilled = omega arith in e)
    ∙ ap (λ (n : ℕ). effort_from effort.refilled n (effort.keys + 0)) (let e : effort.kept + 0 ≡ effort.kept = omega arith in e)
    ∙ ap (λ (n : ℕ). effort_from effort.refilled effort.kept n) (let e : effort.keys + 0 ≡ effort.keys = omega arith in e)

-- ---- a put that goes on

no_sets_last : last_sets [] ≡ 0
unfolding last_sets
no_sets_last = refl

module _ (b : Board) (plan : Plan) where
  -- whether there is room for what is stored
  abbrev pub has_room_to : Pass → Bool
  has_room_to p = has_room_for b.shape (rows_asked plan.request) p

  -- it made calls after which room may be made, since there is none for it
  pub record GoesOnSo (most : ℕ) (effort : Effort) (p q : Pass) : Type 0 where
    pub calls : List PutCall
    pub makes : Makes b plan calls p q
    pub few : length calls ≤ most
    pub all_open : AreOpen calls
    pub not_full : AreNotFull calls
    pub comes : IsEffort calls effort
    pub lacks : is_outside plan.window p ≡ false → has_room_to p ≡ true → ⊥
    pub tries : SetsAtMost16 calls
    pub apart : (last_sets calls ≡ 0) ⊎ (has_room_to q ≡ false)

  -- a set that lacked room
  pub lacked : (p q : Pass) → SetsIfTimely b plan put.NoRoom p q → GoesOnSo 16 (effort_from 0 0 0) p q
  lacked p q (inl (late, is, same)) = record {
    calls = [];
    makes = made_same b plan p q same;
    few = omega arith;
    all_open = open_none;
    not_full = All-nil IsNotFull;
    comes = no_effort;
    lacks = λ fresh left. false≢true (sym fresh ∙ late);
    tries = few_sets [] (omega arith);
    apart = inl no_sets_last;
  }
  lacked p q (inr one) = record {
    calls = one.calls;
    makes = one.makes;
    few = one.few;
    all_open = sets_open put.NoRoom one.calls no_room_stored one.are;
    not_full = until_sets put.NoRoom one.calls one.are;
    comes = effort_sets put.NoRoom one.calls one.are;
    lacks = λ fresh left. false≢true (sym (one.no_room refl).0 ∙ left);
    tries = few_sets one.calls one.few;
    apart = inr (one.no_room refl).1;
  }

  -- an answer that ends a put
  pub sets_end : (most : ℕ) (told : PutAnswer) (p q : Pass) → 16 ≤ most → told ≢ put.NoRoom → SetsIfTimely b plan told p q → MakesPut b plan most told (effort_from 0 0 0) p q
  sets_end most told p q enough other (inl (late, is, same)) = absurd (other is)
  sets_end most told p q enough other (inr one) = record {
    calls = one.calls;
    makes = one.makes;
    few = let few = one.few in omega (arith, few, enough);
    comes = effort_sets told one.calls one.are;
    ends = ends_sets b.shape (number p) (rows_asked plan.request) told one.calls other one.are;
    until = until_sets told one.calls one.are;
    full = one.full;
    tries = few_sets one.calls one.few;
    spares = λ fresh left. no_room_by_sets told one.calls one.are;
  }

  module _ (most : ℕ) (first : Effort) (p q r : Pass) (one : GoesOnSo most first p q) where
    -- room was made, or not
    module _ (more : ℕ) (made : Bool) (effort : Effort) (room : MakesRows b plan.cutoff plan.deadline more (rows_asked plan.request) made effort q r) where
      pub wide : Makes b plan room.arranges.calls q r
      wide = makes_within b (room_plan plan.cutoff plan.deadline) plan (room_within plan.deadline plan plan.cutoff refl refl) room.arranges.calls q r room.arranges.makes

      pub apart_by : (left : Bool) → has_room_to r ≡ left → (last_sets (room.arranges.calls ++ one.calls) ≡ 0) ⊎ (has_room_to r ≡ false)
      apart_by true left = inl (apart_then b plan.cutoff plan.deadline (rows_asked plan.request) room.arranges.calls one.calls q r room.arranges.makes one.apart left)
      apart_by false full = inr full

      abbrev pub room_on : GoesOnSo (most + more) (both first effort) p r
      room_on = record {
        calls = room.arranges.calls ++ one.calls;
        makes = makes_then b plan room.arranges.calls one.calls p q r one.makes wide;
        few = let long = length-append room.arranges.calls one.calls in let x = one.few in let y = room.arranges.few in omega (arith, long, x, y);
        all_open = open_then room.arranges.calls one.calls (room_open b plan.cutoff plan.deadline room.arranges.calls q r room.arranges.makes) one.all_open;
        not_full = not_full_then room.arranges.calls one.calls (room_not_full b plan.cutoff plan.deadline room.arranges.calls q r room.arranges.makes) one.not_full;
        comes = effort_then room.arranges.calls one.calls first effort one.comes room.arranges.comes;
        lacks = one.lacks;
        tries = room_then b plan.cutoff plan.deadline room.arranges.calls one.calls q r room.arranges.makes one.tries;
        apart = apart_by (has_room_to r) refl;
      }

      pub no_room_end : made ≡ false → MakesPut b plan (most + more) put.NoRoom (both first effort) p r
      no_room_end none = record {
        calls = room_on.calls;
        makes = room_on.makes;
        few = room_on.few;
        comes = room_on.comes;
        ends = (
          λ fits segment own. refused_then segment room.arranges.calls one.calls (room.refused none fits segment (own ∙ sym (makes_same b plan one.calls p q one.makes))),
          room_on.all_open,
        );
        until = room_on.not_full;
        full = λ e. absurd (no_room_full e);
        tries = room_on.tries;
        spares = λ fresh left. absurd (one.lacks fresh left);
      }

    apart_of : (last_sets one.calls ≡ 0) ⊎ (has_room_to q ≡ false) → has_room_to q ≡ true → last_sets one.calls ≡ 0
    apart_of (inl none) left = none
    apart_of (inr full) left = absurd (false≢true (sym full ∙ left))

    -- a set, for which room was made
    pub sets_on : (told : PutAnswer) → told ≢ put.NoRoom → has_room_to q ≡ true → Sets b plan told q r → MakesPut b plan (most + 16) told first p r
    sets_on told other left last = record {
      calls = last.calls ++ one.calls;
      makes = makes_then b plan last.calls one.calls p q r one.makes last.makes;
      few = let long = length-append last.calls one.calls in let x = one.few in let y = last.few in omega (arith, long, x, y);
      comes = subst (IsEffort (last.calls ++ one.calls)) (more_none first) (effort_then last.calls one.calls first (effort_from 0 0 0) one.comes (effort_sets told last.calls last.are));
      ends = ends_then b.shape (number p) (number q) (rows_asked plan.request) told last.calls one.calls (makes_same b plan one.calls p q one.makes) one.all_open
          (ends_sets b.shape (number q) (rows_asked plan.request) told last.calls other last.are);
      until = until_then told last.calls one.calls (until_sets told last.calls last.are) one.not_full;
      full = last.full;
      tries = sets_then last.calls one.calls (apart_of one.apart left) (few_sets last.calls last.few) one.tries;
      spares = λ fresh left. absurd (one.lacks fresh left);
    }
