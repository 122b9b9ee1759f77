-- What a pass can store once segments were refilled, kept from or given up, and which ones were refused.
use Rattle.std.proofs.Common.{◌≡◌, ◌≢◌, ℕ, ◌+◌, ◌<◌, ◌≤◌, Bool, true, false, [], ◌∷◌, Option, Some, None, option_and_then, is_some, refl, sym, ap, ◌∙◌, subst, inl, inr, eqb, arith}
use Rattle.std.specs.Int.{IsInRange}
use Rattle.std.proofs.lemmas.Bool.{false≢true, cond-true, eq-eqb}
use Rattle.segmodel.specs.declared.answer.EvictAnswer.TheVariants as evict
use Rattle.segmodel.specs.declared.answer.RefillAnswer.TheVariants as refill
use Rattle.segmodel.specs.declared.answer.SegState.TheVariants.{Evicted}
use Rattle.segmodel.specs.Words.{but_for, EvictAnswer, owner, RefillAnswer}
use Rattle.segbase.specs.declared.pass.PlainPart.{PlainPart}
use Rattle.segbase.specs.Words.{Board, current_of, deadline_in, deadline_of, number, own_segment, Pass, state_of, used_in, used_of}
use Rattle.segbase.proofs.Known.{deadline_stated}
use Rattle.segbase.proofs.Owned.{state_there}
use Rattle.segstore.specs.Words.{ChangesNothing, has_room, has_room_for, is_below, IsQuiet}
use Rattle.segstore.proofs.Keeping.{refilled_used, refilled_deadline}
use Rattle.segevict.specs.Evicting.{ended}
use Rattle.segevict.specs.declared.retention.KeepRowAnswer.{KeepRowAnswer}
use Rattle.segevict.specs.declared.retention.KeepRowAnswer.TheVariants as kept
use Rattle.segevict.specs.Words.{EvictsSegment, IsEvictAnswer, IsKeepRowAnswer, KeepsItem}
use Rattle.segevict.proofs.Evictions.{but_other}
use Rattle.segindex.specs.Refilling.{RefillsSegment}
use Rattle.segindex.proofs.QuietPass.{owned}
use Rattle.segtally.specs.Recycling.{refilled_by}
use Rattle.segclient.specs.PutCalls.{evicts, refills, IsRefused, StoresUntil, room_plan}
use Rattle.segclient.specs.declared.effort.Effort.{Effort}
use Rattle.segclient.specs.PutParts.{Arranges, effort_from, GivesUp, IsEffort, MakesRoom, MakesRows, MakesRowsIfNone, StoresAfresh, StoresAsBefore}
use Rattle.segclient.proofs.Calls.{arranges_as, arranges_then, arranges_wider, both, effort_more, no_effort, none_arranges, none_made, one_more, refill_arranges, refused_then, same_effort}
use Rattle.segclient.proofs.Left.{none_for_long, none_for_more, room_afresh}

-- a pass knows its own segments
pub own_known : (b : Board) (p : Pass) (segment : ℕ) → IsQuiet b p → owner b.shape segment ≡ number p → state_of p segment ≢ None
own_known b p segment quiet own none = false≢true (sym (ap is_some none) ∙ (owned b p segment quiet).1 own)

-- the one that it stores into is its own
pub current_own : (b : Board) (p : Pass) (segment : ℕ) → IsQuiet b p → current_of p ≡ Some segment → owner b.shape segment ≡ number p
current_own b p segment quiet current = (owned b p segment quiet).0 (ap is_some (quiet.segments.in_use segment current))

-- ---- a segment that was refilled

-- has all its rows left
pub refilled_afresh : (b : Board) (segment deadline : ℕ) (p q : Pass) → RefillsSegment b segment deadline refill.Refilled p q → StoresAfresh q
refilled_afresh b segment deadline p q filled =
    let is = filled.answer in
    let there = sym (state_there (own_segment p.plain segment)) ∙ is.own in
    (segment, ap (λ (x : PlainPart). x.current) is.plain, ap (λ (x : PlainPart). used_in (own_segment x segment)) is.plain ∙ refilled_used p.plain segment deadline there)

pub refilled_room : (b : Board) (segment deadline : ℕ) (p q : Pass) → RefillsSegment b segment deadline refill.Refilled p q → has_room b.shape q ≡ true
refilled_room b segment deadline p q filled =
    room_afresh b.shape 1 q (refilled_afresh b segment deadline p q filled) (let one = filled.on.quiet.pass.valid.0.1.0 in omega (arith, one))

-- and its deadline
pub refilled_until : (b : Board) (segment deadline : ℕ) (p q : Pass) → RefillsSegment b segment deadline refill.Refilled p q → StoresUntil deadline q
refilled_until b segment deadline p q filled =
    let is = filled.answer in
    let there = sym (state_there (own_segment p.plain segment)) ∙ is.own in
    (segment, ap (λ (x : PlainPart). x.current) is.plain, ap (λ (x : PlainPart). deadline_in (own_segment x segment)) is.plain ∙ refilled_deadline p.plain segment deadline there)

-- so it is where a segment was given up
pub given_afresh : (b : Board) (deadline segment keys : ℕ) (p q : Pass) → GivesUp b segment deadline true keys p q → StoresAfresh q
given_afresh b deadline segment keys p q (between, out, filled) = refilled_afresh b segment deadline between q filled

-- ---- an evict, and a keep

-- leaves another segment current
pub evict_apart : (b : Board) (segment : ℕ) (told : EvictAnswer) (p q : Pass) → EvictsSegment b segment told p q → current_of p ≢ Some segment → current_of q ≡ current_of p
evict_apart b segment (evict.Evicted keys) p q went other = by went.answer
  where
    by : IsEvictAnswer b.shape segment (evict.Evicted keys) p q → current_of q ≡ current_of p
    by (inl out) = ap (λ (x : PlainPart). x.current) out.2 ∙ but_other segment (current_of p) other
    by (inr none) = ap current_of none.2
evict_apart b segment (evict.Busy keys) p q went other = ap (λ (x : PlainPart). x.current) went.answer.2 ∙ but_other segment (current_of p) other
evict_apart b segment evict.NotYours p q went other = ap current_of went.answer

-- and all deadlines as they were
evict_deadlines : (b : Board) (segment : ℕ) (told : EvictAnswer) (p q : Pass) → EvictsSegment b segment told p q → (s : ℕ) → deadline_of q s ≡ deadline_of p s
evict_deadlines b segment (evict.Evicted keys) p q went s = by went.answer
  where
    by : IsEvictAnswer b.shape segment (evict.Evicted keys) p q → deadline_of q s ≡ deadline_of p s
    by (inl out) = ap (λ (x : PlainPart). deadline_in (own_segment x s)) out.2 ∙ deadline_stated (ended segment p.plain) segment Evicted s
    by (inr none) = ap (λ (r : Pass). deadline_of r s) none.2
evict_deadlines b segment (evict.Busy keys) p q went s = ap (λ (x : PlainPart). deadline_in (own_segment x s)) went.answer.2
evict_deadlines b segment evict.NotYours p q went s = ap (λ (r : Pass). deadline_of r s) went.answer

until_before : (p q : Pass) → ((s : ℕ) → deadline_of q s ≡ deadline_of p s) → current_of q ≡ current_of p → StoresAsBefore p q
until_before p q each same = λ until stores. (stores.0, same ∙ stores.1, each stores.0 ∙ stores.2)

pub until_same : (p : Pass) → StoresAsBefore p p
until_same p = λ until stores. stores

pub until_then : (p q r : Pass) → StoresAsBefore p q → StoresAsBefore q r → StoresAsBefore p r
until_then p q r one then = λ until stores. then until (one until stores)

pub evict_until : (b : Board) (segment : ℕ) (told : EvictAnswer) (p q : Pass) → EvictsSegment b segment told p q → current_of p ≢ Some segment → StoresAsBefore p q
evict_until b segment told p q went other = until_before p q (evict_deadlines b segment told p q went) (evict_apart b segment told p q went other)

module _ (b : Board) (segment row cutoff : ℕ) (p q : Pass) where
  abbrev IsAsBefore : Type 0
  IsAsBefore = ((s : ℕ) → deadline_of q s ≡ deadline_of p s) × (current_of q ≡ current_of p)

  unmoved : q ≡ p → IsAsBefore
  unmoved same = ((λ s. ap (λ (r : Pass). deadline_of r s) same), ap current_of same)

  unchanged : ChangesNothing p q → IsAsBefore
  unchanged none = ((λ s. ap (λ (x : PlainPart). deadline_in (own_segment x s)) none.plain), ap (λ (x : PlainPart). x.current) none.plain)

  row_still : (told : KeepRowAnswer) → IsKeepRowAnswer b.shape segment row cutoff told p q → IsAsBefore
  row_still kept.Moved is = (is.2.deadlines, is.2.current)
  row_still kept.Left is = unchanged is.2
  row_still kept.NoRoom (inl none) = unmoved none.1
  row_still kept.NoRoom (inr out) = unchanged out.2
  row_still kept.Busy is = unchanged is.2
  row_still kept.NotYours is = unmoved is
  row_still kept.NotUsed is = unmoved is

  pub row_current : (told : KeepRowAnswer) → KeepsItem b segment row cutoff told p q → current_of q ≡ current_of p
  row_current told stayed = (row_still told stayed.answer).1

  pub row_until : (told : KeepRowAnswer) → KeepsItem b segment row cutoff told p q → StoresAsBefore p q
  row_until told stayed = let still = row_still told stayed.answer in until_before p q still.0 still.1

-- ---- a segment that couldn't be given up

pub refused_apart : (b : Board) (segment deadline keys : ℕ) (p q : Pass) → GivesUp b segment deadline false keys p q → current_of p ≢ Some segment → current_of q ≡ current_of p
refused_apart b segment deadline keys p q (inl busy) other = evict_apart b segment (evict.Busy keys) p q busy other
refused_apart b segment deadline keys p q (inr (between, out, held)) other =
    ap (λ (x : PlainPart). x.current) held.answer.0.plain ∙ evict_apart b segment (evict.Evicted keys) p between out other

but_here : (segment : ℕ) → but_for segment (Some segment) ≡ None
but_here segment = cond-true (eqb segment segment) None (Some segment) (eq-eqb segment segment refl)

-- the current one is current no more
evict_current : (b : Board) (segment : ℕ) (keys : ℕ) (p q : Pass) → IsQuiet b p → current_of p ≡ Some segment → EvictsSegment b segment (evict.Evicted keys) p q → current_of q ≡ None
evict_current b segment keys p q quiet current went = by went.answer
  where
    by : IsEvictAnswer b.shape segment (evict.Evicted keys) p q → current_of q ≡ None
    by (inl out) = ap (λ (x : PlainPart). x.current) out.2 ∙ ap (but_for segment) current ∙ but_here segment
    by (inr none) = absurd (none.0 (quiet.segments.in_use segment current))

pub refused_current : (b : Board) (segment deadline keys : ℕ) (p q : Pass) → IsQuiet b p → current_of p ≡ Some segment → GivesUp b segment deadline false keys p q → current_of q ≡ None
refused_current b segment deadline keys p q quiet current (inl busy) = ap (λ (x : PlainPart). x.current) busy.answer.2 ∙ ap (but_for segment) current ∙ but_here segment
refused_current b segment deadline keys p q quiet current (inr (between, out, held)) =
    ap (λ (x : PlainPart). x.current) held.answer.0.plain ∙ evict_current b segment keys p between quiet current out

-- with none current there is no room
pub no_room : (b : Board) (p : Pass) → current_of p ≡ None → has_room b.shape p ≡ false
no_room b p none = ap (λ (o : Option ℕ). is_below b.shape.rows (option_and_then (used_of p) o)) none

-- ---- segments, one after another

-- at most so many calls gave up none, and evicted so many keys
abbrev pub PassesOver : Board → ℕ → ℕ → ℕ → Pass → Pass → Type 0
PassesOver b deadline most keys p q = Arranges b None deadline most (effort_from 0 0 keys) p q

module _ (b : Board) (deadline most keys : ℕ) (p q r : Pass) (over : PassesOver b deadline most keys p q)
    (segment more : ℕ) (own : owner b.shape segment ≡ number q) (total sum : ℕ) (enough : most + 2 ≤ total)
    (all : sum ≡ keys + more) where
  -- one more was refused
  pub record IsRefusedToo : Type 0 where
    pub next : PassesOver b deadline total sum p r
    pub here : IsRefused segment next.calls
    pub before : (other : ℕ) → IsRefused other over.calls → IsRefused other next.calls

  pub passes_on : GivesUp b segment deadline false more q r → IsRefusedToo
  unfolding IsRefused
  passes_on (inl busy) = record {
    next = record {
      calls = evicts segment (evict.Busy more) ∷ over.calls;
      makes = one_more b (room_plan None deadline) (evicts segment (evict.Busy more)) over.calls p q r over.makes (own, busy);
      few = let few = over.few in omega (arith, few, enough);
      comes = same_effort _ (effort_from (0 + 0) (0 + 0) (keys + more)) (effort_from 0 0 sum) refl refl all
          (effort_more (evicts segment (evict.Busy more)) over.calls (effort_from 0 0 keys) over.comes);
    };
    here = inl refl;
    before = λ other was. inr was;
  }
  passes_on (inr (between, out, held)) =
      let first = one_more b (room_plan None deadline) (evicts segment (evict.Evicted more)) over.calls p q between over.makes (own, out) in
      let one = effort_more (evicts segment (evict.Evicted more)) over.calls (effort_from 0 0 keys) over.comes in
      record {
        next = record {
          calls = refills segment refill.Held ∷ evicts segment (evict.Evicted more) ∷ over.calls;
          makes = one_more b (room_plan None deadline) (refills segment refill.Held) (evicts segment (evict.Evicted more) ∷ over.calls) p between r first (own ∙ sym out.on.same, held);
          few = let few = over.few in omega (arith, few, enough);
          comes = same_effort _ (effort_from (0 + 0 + 0) (0 + 0 + 0) (keys + more + 0)) (effort_from 0 0 sum) refl
              refl (omega (arith, all)) (effort_more (refills segment refill.Held)
              (evicts segment (evict.Evicted more) ∷ over.calls) (effort_from (0 + 0) (0 + 0) (keys + more)) one);
        };
        here = inl refl;
        before = λ other was. inr was;
      }

  -- it was given up
  pub gives_up : GivesUp b segment deadline true more q r → MakesRoom b None deadline total true (effort_from 1 0 sum) p r
  gives_up (between, out, filled) =
      let first = one_more b (room_plan None deadline) (evicts segment (evict.Evicted more)) over.calls p q between over.makes (own, out) in
      let one = effort_more (evicts segment (evict.Evicted more)) over.calls (effort_from 0 0 keys) over.comes in
      record {
        arranges = record {
          calls = refills segment refill.Refilled ∷ evicts segment (evict.Evicted more) ∷ over.calls;
          makes = one_more b (room_plan None deadline) (refills segment refill.Refilled) (evicts segment (evict.Evicted more) ∷ over.calls) p between r first (own ∙ sym out.on.same, filled);
          few = let few = over.few in omega (arith, few, enough);
          comes = same_effort _ (effort_from (0 + 0 + 1) (0 + 0 + 0) (keys + more + 0)) (effort_from 1 0 sum) refl
              refl (omega (arith, all)) (effort_more (refills segment refill.Refilled)
              (evicts segment (evict.Evicted more) ∷ over.calls) (effort_from (0 + 0) (0 + 0) (keys + more)) one);
        };
        room = refilled_room b segment deadline between r filled;
        until = λ made. refilled_until b segment deadline between r filled;
        refused = λ none fits. absurd (false≢true (sym none));
      }

-- ---- room, and what is kept

module _ (b : Board) (cutoff : Option ℕ) (deadline : ℕ) where
  -- room that is made for a client that keeps nothing is room for one that keeps
  pub room_wider : {rows : ℕ} (most total : ℕ) (made : Bool) (effort : Effort) (p q : Pass) → most ≤ total
      → MakesRows b None deadline most rows made effort p q → MakesRows b cutoff deadline total rows made effort p q
  room_wider most total made effort p q enough room =
      let wide = arranges_wider b cutoff deadline most effort p q room.arranges in
      record {
        arranges = arranges_as b cutoff deadline most total effort effort p q enough refl refl refl wide.0;
        room = room.room;
        until = room.until;
        refused = λ none fits segment own. room.refused none fits segment own;
      }

  -- calls, after which rows are left in a segment with the deadline
  pub room_left : {rows : ℕ} (most total : ℕ) (effort : Effort) (p q : Pass) → most ≤ total
      → Arranges b cutoff deadline most effort p q → has_room_for b.shape rows q ≡ true → StoresUntil deadline q
      → MakesRows b cutoff deadline total rows true effort p q
  room_left most total effort p q enough arranges left stores = record {
    arranges = arranges_as b cutoff deadline most total effort effort p q enough refl refl refl arranges;
    room = left;
    until = λ made. stores;
    refused = λ none fits. absurd (false≢true (sym none));
  }

  -- no call, where rows are left in a segment with the deadline
  pub room_there : {rows : ℕ} (queued : Bool) (most : ℕ) (effort : Effort) (p : Pass) → effort ≡ effort_from 0 0 0
      → has_room_for b.shape rows p ≡ true → StoresUntil deadline p
      → MakesRowsIfNone b queued cutoff deadline most rows true effort p p
  room_there queued most effort p none left stores = (
    record {
      arranges = record {
        calls = [];
        makes = none_made b (room_plan cutoff deadline) p;
        few = omega arith;
        comes = subst (IsEffort []) (sym none) no_effort;
      };
      room = left;
      until = λ made. stores;
      refused = λ none fits. absurd (false≢true (sym none));
    },
    λ queues until enough. refl,
  )

  -- calls, and then room was made, or not, by the same policy
  pub room_later : {rows : ℕ} (most more total : ℕ) (made : Bool) (first effort all : Effort) (p q r : Pass)
      → most + more ≤ total → all ≡ both first effort → number q ≡ number p
      → Arranges b cutoff deadline most first p q → MakesRows b cutoff deadline more rows made effort q r
      → MakesRows b cutoff deadline total rows made all p r
  room_later most more total made first effort all p q r enough sum same one last = record {
    arranges = arranges_as b cutoff deadline (most + more) total (both first effort) all p r enough
        (ap (λ (e : Effort). e.refilled) sum) (ap (λ (e : Effort). e.kept) sum) (ap (λ (e : Effort). e.keys) sum)
        (arranges_then b cutoff deadline most more first effort p q r one last.arranges);
    room = last.room;
    until = last.until;
    refused = λ none fits segment own. refused_then segment last.arranges.calls one.calls (last.refused none fits segment (own ∙ sym same));
  }

  -- or by one that keeps nothing
  pub room_again : {rows : ℕ} (most more total : ℕ) (made : Bool) (first effort all : Effort) (p q r : Pass)
      → most + more ≤ total → all ≡ both first effort → number q ≡ number p
      → Arranges b cutoff deadline most first p q → MakesRows b None deadline more rows made effort q r
      → MakesRows b cutoff deadline total rows made all p r
  room_again most more total made first effort all p q r enough sum same one last =
      room_later most more total made first effort all p q r enough sum same one (room_wider more more made effort q r (omega arith) last)

-- room in a segment that was refilled is room for as many rows as it has
pub room_whole : (b : Board) (cutoff : Option ℕ) (deadline most rows : ℕ) (made : Bool) (effort : Effort) (p q : Pass)
    → IsInRange 1 b.shape.rows rows → (made ≡ true → StoresAfresh q) → MakesRoom b cutoff deadline most made effort p q
    → MakesRows b cutoff deadline most rows made effort p q
room_whole b cutoff deadline most rows made effort p q range afresh room = record {
  arranges = room.arranges;
  room = by made room.room afresh;
  until = room.until;
  refused = λ none fits. room.refused none (let low = range.0 in let high = range.1 in omega (arith, low, high));
}
  where
    by : (made : Bool) → has_room b.shape q ≡ made → (made ≡ true → StoresAfresh q) → has_room_for b.shape rows q ≡ made
    by true left afresh = room_afresh b.shape rows q (afresh refl) range.1
    by false full afresh = none_for_more b.shape rows q range.0 full

-- no segment has rows enough for the item
pub room_too_long : (b : Board) (cutoff : Option ℕ) (deadline most rows : ℕ) (effort : Effort) (p : Pass)
    → b.shape.rows < rows → effort ≡ effort_from 0 0 0 → MakesRows b cutoff deadline most rows false effort p p
room_too_long b cutoff deadline most rows effort p long none = record {
  arranges = none_arranges b cutoff deadline most effort p none;
  room = none_for_long b.shape rows p long;
  until = λ made. absurd (false≢true made);
  refused = λ none fits. absurd (omega (arith, long, fits));
}

-- a free segment was refilled
pub took_free : (b : Board) (deadline segment : ℕ) (p q : Pass) → owner b.shape segment ≡ number p
    → RefillsSegment b segment deadline refill.Refilled p q
    → MakesRoom b None deadline 1 true (effort_from 1 0 0) p q
took_free b deadline segment p q own filled = record {
  arranges = refill_arranges b None deadline segment refill.Refilled (effort_from 1 0 0) p q refl refl refl own filled;
  room = refilled_room b segment deadline p q filled;
  until = λ made. refilled_until b segment deadline p q filled;
  refused = λ none fits. absurd (false≢true (sym none));
}

none_by : (told : RefillAnswer) → told ≢ refill.Refilled → refilled_by told ≡ 0
none_by refill.Refilled other = absurd (other refl)
none_by refill.NotYours other = refl
none_by refill.NotEvicted other = refl
none_by refill.Held other = refl

-- or it wasn't
pub left_free : (b : Board) (deadline segment : ℕ) (told : RefillAnswer) (p q : Pass) → told ≢ refill.Refilled
    → owner b.shape segment ≡ number p → RefillsSegment b segment deadline told p q
    → Arranges b None deadline 1 (effort_from 0 0 0) p q
left_free b deadline segment told p q other own out = refill_arranges b None deadline segment told (effort_from 0 0 0) p q (sym (none_by told other)) refl refl own out
