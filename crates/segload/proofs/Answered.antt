-- What a call of an index came to, as a command of a load.
use Rattle.std.proofs.Common.{◌≡◌, ◌≢◌, ℕ, ◌+◌, ◌*◌, ◌<◌, ◌≤◌, Bool, true, false, is_some, List, [], ◌∷◌, Option, Some, None, ◌⊎◌, option_and_then, refl, sym, ap, ◌∙◌, subst, inl, inr, zero-mul, arith, ⊎_elim}
use Rattle.std.specs.Prelude.{◌↔◌}
use Rattle.std.proofs.lemmas.Bool.{false≢true, lt-ltb}
use Rattle.std.proofs.lemmas.Option.{same_Some, none-some}
use Rattle.segword.specs.Words.{Shape}
use Rattle.segmodel.specs.declared.request.Request.TheVariants as request
use Rattle.segmodel.specs.declared.entry.Entry.TheVariants.{Refilled}
use Rattle.segmodel.specs.declared.answer.Answer.TheVariants as answer
use Rattle.segmodel.specs.declared.answer.GetAnswer.TheVariants as get
use Rattle.segmodel.specs.declared.answer.GetsAnswer.TheVariants as gets
use Rattle.segmodel.specs.declared.answer.WriteAnswer.TheVariants as write
use Rattle.segmodel.specs.declared.answer.DeleteAnswer.TheVariants as delete
use Rattle.segmodel.specs.declared.answer.EvictAnswer.TheVariants as evict
use Rattle.segmodel.specs.declared.answer.RefillAnswer.TheVariants as refill
use Rattle.segmodel.specs.declared.answer.SegState.TheVariants.{InUse, Evicted}
use Rattle.segmodel.specs.Words.{after, Answer, Begins, bucket_of, Cache, DeleteAnswer, Entry}
use Rattle.segmodel.specs.Words.{EvictAnswer, GetAnswer, GetsAnswer, IsBetween, key_of, owner}
use Rattle.segmodel.specs.Words.{reads, reads_version, RefillAnswer, Request, stirred, WriteAnswer}
use Rattle.segmodel.specs.History as history
use Rattle.segmodel.proofs.Written.{first_owner}
use Rattle.segcore.specs.Words.{entries, Mark}
use Rattle.segcore.proofs.Marked.{entries_marked}
use Rattle.segbase.specs.declared.pass.PlainPart.{PlainPart}
use Rattle.segbase.specs.Words.{Board, holding, locked_of, marked, mine, number, Pass, seen, state_of, trace}
use Rattle.segbase.specs.Words.{used_of}
use Rattle.segbase.proofs.Alone.{bounced_alone, glanced_alone}
use Rattle.segstore.specs.Words.{ChangesNothing, GoesOn, has_room, has_room_for, is_below, is_held_in, IsBusy}
use Rattle.segstore.specs.Words.{IsQuiet, memo}
use Rattle.segwrite.specs.Words.{Deletes, HasNoWord, rows_of, WasFull, Writes}
use Rattle.segread.specs.Words.{IsDisturbed, IsGetAnswer, IsGetsAnswer, ReadsBetween, PresentLocked}
use Rattle.segindex.specs.Words.{AnswersCommand, IsBeingRead, IsRefillAnswer, Refills}
use Rattle.segevict.specs.Words.{IsEvictAnswer}
use Rattle.segevict.proofs.Evictions.{emptied_state}
use Rattle.segindex.proofs.Refills.{refills_used}
use Rattle.segsolo.proofs.Grown.{entries_begin}
use Rattle.segindex.proofs.Meeting.{mine_begins}
use Rattle.segindex.proofs.OnePass.{nobody_inside, busy_by_lock, none_stirred}
use Rattle.segindex.proofs.QuietPass.{owned}
use Rattle.segindex.proofs.Since.{full_since, get_since, gets_since}
use Rattle.segpolicy.specs.declared.load.Kind.TheVariants as kind
use Rattle.segpolicy.specs.Words.{Cycle, Kind, Load, next_of}
use Rattle.segtally.specs.declared.tally.Tally.TheVariants as tally
use Rattle.segtally.specs.Rings.{IsOwnRing}
use Rattle.segtally.specs.Tallies.{delete_tally, write_tally}
use Rattle.segload.specs.Making.{ClientState, load_deadline, load_moment, turned_on, AtMoment, ReadsWhen, IsReadAs, IsVersionReadAs, IsFullFor, IsWrittenAs, Empties, IsStoredAs, CameTo}
use Rattle.segload.specs.Calls.{asked_by, tally_of, course_after}
use Rattle.segload.proofs.Lists.{both_begin}
use Rattle.segload.proofs.Short.{IsShort}

-- The pass has no bucket locked, and holds nothing.
abbrev pub HoldsNothing : Pass → Type 0
HoldsNothing p = (locked_of p ≡ None) × (holding p ≡ None)

-- The pass emptied and refilled a segment, up to the load's deadline, and now there is room. Or it couldn't, but only if there are other passes.
abbrev pub GivesUpSegment : Shape → ℕ → Bool → Pass → Pass → Type 0
GivesUpSegment shape segment true p q =
    (room : List Entry) × Empties (number p) segment (mine p) room × (mine q ≡ Refilled (number p) segment load_deadline ∷ room) × (has_room shape q ≡ true)
GivesUpSegment shape segment false p q = Empties (number p) segment (mine p) (mine q) × (shape.passes ≢ 1)

-- ---- one pass

-- a single pass that has no bucket locked is never busy
never_busy : (b : Board) (p q : Pass) (bucket : ℕ) → IsQuiet b p → GoesOn b p q → locked_of p ≡ None → IsBusy bucket p q → b.shape.passes ≢ 1
never_busy b p q bucket quiet on unlocked busy = λ one. none-some bucket (sym unlocked ∙ busy_by_lock b p q bucket quiet on.quiet one busy)

-- nor is its reading
never_stirred : (b : Board) (key : List ℕ) (p q : Pass) → IsQuiet b p → GoesOn b p q → mine q ≡ mine p → 64 ≤ stirred b.shape key (seen p) (seen q) → b.shape.passes ≢ 1
never_stirred b key p q quiet on same many = λ one. let none = none_stirred b p q key quiet on.quiet one same in absurd (omega (arith, many, none))

never_disturbed : (b : Board) (key : List ℕ) (p q : Pass) → IsQuiet b p → HoldsNothing p → GoesOn b p q
    → mine q ≡ mine p → IsDisturbed b.shape key load_moment (seen p) p q
    ⊎ PresentLocked b.shape key load_moment (seen p) p q → b.shape.passes ≢ 1
never_disturbed b key p q quiet free on same busy = λ one. ⊎_elim
    (λ many.
    let none = none_stirred b p q key quiet on.quiet one same in
    let looks = glanced_alone b q (bucket_of b.shape key) on.quiet.pass one in
    absurd (omega (arith, many, none, looks)))
    (λ locked. none-some (bucket_of b.shape key) (sym free.0 ∙ locked.0))
    busy

-- ---- free passes

-- it is as it was
kept_free : (p q : Pass) → locked_of q ≡ locked_of p → memo q ≡ memo p → HoldsNothing p → HoldsNothing q
kept_free p q locked same free = (locked ∙ free.0, ap (λ m. m.holding) same ∙ free.1)

plain_free : (p q : Pass) → q.plain ≡ p.plain → memo q ≡ memo p → HoldsNothing p → HoldsNothing q
plain_free p q plain same = kept_free p q (ap (λ x. x.locked) plain) same

pub unchanged_free : (p q : Pass) → ChangesNothing p q → HoldsNothing p → HoldsNothing q
unchanged_free p q nothing = plain_free p q nothing.plain nothing.memo

pub write_free : (b : Board) (asked : Request) (told : WriteAnswer) (p q : Pass) → Writes b asked told p q → HoldsNothing p → HoldsNothing q
write_free b asked write.Stored p q writes free = kept_free p q (ap (λ x. x.locked) writes.answer.2.plain) writes.answer.2.memo free
write_free b asked write.NotStored p q writes free = plain_free p q writes.answer.1 writes.answer.2 free
write_free b asked write.Exists p q writes free = plain_free p q writes.answer.1 writes.answer.2 free
write_free b asked write.NotFound p q writes free = plain_free p q writes.answer.1 writes.answer.2 free
write_free b asked write.NoRoom p q writes free = subst HoldsNothing (sym writes.answer) free
write_free b asked write.BucketFull p q writes free = unchanged_free p q writes.answer.0 free
write_free b asked write.Busy p q writes free = unchanged_free p q writes.answer.0 free

pub evict_free : (shape : Shape) (segment : ℕ) (told : EvictAnswer) (p q : Pass) → IsEvictAnswer shape segment told p q → HoldsNothing p → HoldsNothing q
evict_free shape segment (evict.Evicted count) p q (inl out) free = kept_free p q (ap (λ x. x.locked) out.2) out.1.memo free
evict_free shape segment (evict.Evicted count) p q (inr none) free = subst HoldsNothing (sym none.2) free
evict_free shape segment evict.NotYours p q same free = subst HoldsNothing (sym same) free
evict_free shape segment (evict.Busy count) p q busy free = kept_free p q (ap (λ x. x.locked) busy.2) busy.1.memo free

pub refill_free : (segment deadline : ℕ) (told : RefillAnswer) (p q : Pass) → IsRefillAnswer segment deadline told p q → HoldsNothing p → HoldsNothing q
refill_free segment deadline refill.Refilled p q is free = kept_free p q (ap (λ x. x.locked) is.plain) is.memo free
refill_free segment deadline refill.NotYours p q same free = subst HoldsNothing (sym same) free
refill_free segment deadline refill.NotEvicted p q same free = subst HoldsNothing (sym same) free
refill_free segment deadline refill.Held p q is free = unchanged_free p q is.0 free

delete_free : (b : Board) (key : List ℕ) (told : DeleteAnswer) (p q : Pass) → Deletes b key load_moment told p q → HoldsNothing p → HoldsNothing q
delete_free b key delete.Deleted p q deletes free = plain_free p q deletes.answer.1 deletes.answer.2 free
delete_free b key delete.NotFound p q deletes free = plain_free p q deletes.answer.1 deletes.answer.2 free
delete_free b key delete.Busy p q deletes free = unchanged_free p q deletes.answer.0 free

pub command_free : (b : Board) (of : Kind) (version : ℕ) (load : Load) (draw : ℕ) (told : Answer) (p q : Pass)
    → AnswersCommand b (asked_by of version load) draw told p q → HoldsNothing p → HoldsNothing q
command_free b kind.Get version load draw (answer.Get told) p q is free = unchanged_free p q is.keeps free
command_free b kind.Gets version load draw (answer.Gets told) p q is free = unchanged_free p q is.keeps free
command_free b kind.Set version load draw (answer.Write told) p q is free = write_free b (request.Set load.key load.value load_moment) told p q is free
command_free b kind.Add version load draw (answer.Write told) p q is free = write_free b (request.Add load.key load.value load_moment) told p q is free
command_free b kind.Replace version load draw (answer.Write told) p q is free = write_free b (request.Replace load.key load.value load_moment) told p q is free
command_free b kind.Cas version load draw (answer.Write told) p q is free = write_free b (request.Cas load.key load.value version load_moment) told p q is free
command_free b kind.Delete version load draw (answer.Delete told) p q is free = delete_free b load.key told p q is free
command_free b of version load draw told p q is free = absurd is

-- ---- reads

-- at a moment of a call that added no entry of the pass, the entries of the pass were those before it
mine_between : (b : Board) (p q : Pass) (moment : List Entry) → GoesOn b p q → mine q ≡ mine p → IsBetween (seen p) (seen q) moment → history.mine (number p) moment ≡ mine p
mine_between b p q moment on same between =
    let end : history.mine (number p) (seen q) ≡ mine p = ap (λ n. history.mine n (seen q)) (sym on.same) ∙ same in
    both_begin (history.mine (number p) moment) (mine p)
    (subst (Begins (history.mine (number p) moment)) end (mine_begins (number p) moment (seen q) between.1))
    (mine_begins (number p) (seen p) moment between.0)

-- what was so of the cache then, was so when its entries were these
at_moment : (b : Board) (p q : Pass) (moment : List Entry) (IsSo : Cache → Type 0) → GoesOn b p q → mine q ≡ mine p
    → IsBetween (seen p) (seen q) moment → IsSo (after b.shape moment)
    → AtMoment b.shape (seen q) (number p) (mine p) IsSo
at_moment b p q moment IsSo on same between so = (moment, between.1, mine_between b p q moment on same between, so)

read_when : (b : Board) (key : List ℕ) (read : Option (List ℕ)) (p q : Pass) → GoesOn b p q → mine q ≡ mine p
    → ReadsBetween b.shape key load_moment (seen p) (seen q) read
    → ReadsWhen b.shape (seen q) (number p) (mine p) key read
read_when b key read p q on same at = at_moment b p q at.0 (λ cache. reads cache load_moment key ≡ read) on same at.1 at.2

read : (b : Board) (key : List ℕ) (told : GetAnswer) (p q : Pass) → IsQuiet b p → GoesOn b p q → mine q ≡ mine p → IsGetAnswer b.shape key load_moment told (seen p) (seen q)
    → IsReadAs b.shape (seen q) (number p) (mine p) key (tally_of (answer.Get told))
read b key (get.Found value) p q quiet on same at = (value, read_when b key (Some value) p q on same at)
read b key get.Miss p q quiet on same at = read_when b key None p q on same at
read b key get.Busy p q quiet on same many = never_stirred b key p q quiet on same many

version_read : (b : Board) (key : List ℕ) (told : GetsAnswer) (from : ClientState) (p q : Pass) → IsQuiet b p
    → HoldsNothing p → GoesOn b p q → mine q ≡ mine p → IsGetsAnswer b.shape key load_moment told (seen p) p q
    → IsVersionReadAs b.shape (seen q) (number p) (mine p) key (tally_of (answer.Gets told)) from (course_after (answer.Gets told) from)
version_read b key (gets.Found value version) from p q quiet free on same at =
    (value, at_moment b p q at.0 (λ cache. reads_version b.shape cache load_moment key ≡ Some (value, version)) on same at.1 at.2, refl)
version_read b key gets.Miss from p q quiet free on same at = (read_when b key None p q on same at, refl)
version_read b key gets.Busy from p q quiet free on same busy = (never_disturbed b key p q quiet free on same busy, refl)

-- ---- writes

-- at the moment at which it was full, the key's bucket was full of others
full_then : (b : Board) (key : List ℕ) (p q : Pass) → GoesOn b p q → mine q ≡ mine p → WasFull b.shape key (marked p) (marked q) → AtMoment b.shape (seen q) (number p) (mine p) (IsFullFor b.shape key)
full_then b key p q on same full = at_moment b p q (entries marks) (IsFullFor b.shape key) on same between (none.new, let many = none.full in omega (arith, many))
  where
    marks : List Mark
    marks = full.0

    none : HasNoWord b.shape marks key
    none = full.2.no_word

    between : IsBetween (seen p) (seen q) (entries marks)
    between = subst (λ h. IsBetween (seen p) h (entries marks)) (entries_marked (trace q))
        (subst (λ h. IsBetween h (entries (marked q)) (entries marks)) (entries_marked (trace p)) (entries_begin (marked p) marks full.1.0, entries_begin marks (marked q) full.1.1))

written : (b : Board) (asked : Request) (told : WriteAnswer) (p q : Pass) → told ≢ write.NoRoom → IsQuiet b p
    → HoldsNothing p → Writes b asked told p q
    → IsWrittenAs b.shape (seen q) (number p) asked (write_tally told) (mine p) (mine q)
written b asked write.Stored p q room quiet free writes = (writes.answer.0, writes.answer.1)
written b asked write.NotStored p q room quiet free writes = writes.answer.0
written b asked write.Exists p q room quiet free writes = writes.answer.0
written b asked write.NotFound p q room quiet free writes = writes.answer.0
written b asked write.NoRoom p q room quiet free writes = absurd (room refl)
written b asked write.BucketFull p q room quiet free writes = (
  writes.answer.0.entries,
  writes.answer.1,
  full_then b (key_of asked) p q writes.on writes.answer.0.entries
      (full_since b.shape (key_of asked) p q writes.answer.2),
)
written b asked write.Busy p q room quiet free writes = (writes.answer.0.entries, never_busy b p q (bucket_of b.shape (key_of asked)) quiet writes.on free.0 writes.answer.1)

deleted : (b : Board) (key : List ℕ) (told : DeleteAnswer) (p q : Pass) → IsQuiet b p → HoldsNothing p
    → Deletes b key load_moment told p q → IsWrittenAs b.shape (seen q) (number p) (request.Delete key load_moment)
    (delete_tally told) (mine p) (mine q)
deleted b key delete.Deleted p q quiet free deletes = deletes.answer.0
deleted b key delete.NotFound p q quiet free deletes = deletes.answer.0
deleted b key delete.Busy p q quiet free deletes = (deletes.answer.0.entries, never_busy b p q (bucket_of b.shape key) quiet deletes.on free.0 deletes.answer.1)

-- ---- a command

-- it was made once, and found room if it needed any
pub came : (b : Board) (of : Kind) (load : Load) (draw : ℕ) (told : Answer) (from : ClientState) (p q : Pass)
    → told ≢ answer.Write write.NoRoom → IsQuiet b p → HoldsNothing p → GoesOn b p q
    → AnswersCommand b (asked_by of from.version load) draw told p q
    → CameTo b.shape (seen q) (number p) of load (tally_of told) from (course_after told from) (mine p) (mine q)
came b kind.Get load draw (answer.Get told) from p q other quiet free on is = (
  read b load.key told p q quiet on is.keeps.entries (get_since b.shape load.key load_moment told p q is.answer),
  is.keeps.entries,
  refl,
)
came b kind.Gets load draw (answer.Gets told) from p q other quiet free on is = (
  version_read b load.key told from p q quiet free on is.keeps.entries
      (gets_since b.shape load.key load_moment told p q is.answer),
  is.keeps.entries,
)
came b kind.Set load draw (answer.Write told) from p q other quiet free on is =
    inl (
      written b (request.Set load.key load.value load_moment) told p q (λ e. other (ap answer.Write e)) quiet
          free is,
      refl,
    )
came b kind.Add load draw (answer.Write told) from p q other quiet free on is =
    inl (
      written b (request.Add load.key load.value load_moment) told p q (λ e. other (ap answer.Write e)) quiet
          free is,
      refl,
    )
came b kind.Replace load draw (answer.Write told) from p q other quiet free on is =
    inl (
      written b (request.Replace load.key load.value load_moment) told p q (λ e. other (ap answer.Write e)) quiet
          free is,
      refl,
    )
came b kind.Cas load draw (answer.Write told) from p q other quiet free on is =
    inl (
      written b (request.Cas load.key load.value from.version load_moment) told p q
          (λ e. other (ap answer.Write e)) quiet free is,
      refl,
    )
came b kind.Delete load draw (answer.Delete told) from p q other quiet free on is = (deleted b load.key told p q quiet free is, refl)
came b of load draw told from p q other quiet free on is = absurd is

-- ---- giving up a segment

pub empties : (shape : Shape) (segment : ℕ) (told : EvictAnswer) (p q : Pass) → IsEvictAnswer shape segment told p q → Empties (number p) segment (mine p) (mine q)
empties shape segment (evict.Evicted count) p q (inl out) = (out.1.evictions, out.1.all, out.1.entries)
empties shape segment (evict.Evicted count) p q (inr none) = ([], tt, ap mine none.2)
empties shape segment evict.NotYours p q same = ([], tt, ap mine same)
empties shape segment (evict.Busy count) p q busy = (busy.1.evictions, busy.1.all, busy.1.entries)

-- the numbers of the ring are segments of the pass
own_segment : (b : Board) (p : Pass) (ring : Cycle) (segment : ℕ) → IsQuiet b p → b.shape.passes ≡ 1 → IsOwnRing b.shape (number p) ring → segment < ring.first + ring.count → state_of p segment ≢ None
own_segment b p ring segment quiet one own below none =
    let first : number p ≡ 0 = (let few = quiet.pass.one_of in omega (arith, one, few)) in
    let start : ring.first ≡ 0 = own.0 ∙ (ap (λ n. n * b.shape.segments_each) first ∙ zero-mul b.shape.segments_each) in
    let there : owner b.shape segment ≡ number p = first_owner b.shape segment (let count = own.1 in omega (arith, start, count, below)) ∙ sym first in
    false≢true (sym (ap is_some none) ∙ (owned b p segment quiet).1 there)

-- a single pass that has no bucket locked evicts its segments to the end
pub not_evicted : (b : Board) (ring : Cycle) (segment : ℕ) (told : EvictAnswer) (p q : Pass) → IsQuiet b p
    → HoldsNothing p → IsOwnRing b.shape (number p) ring → segment < ring.first + ring.count → GoesOn b p q
    → ((told ≡ evict.NotYours) ↔ (state_of p segment ≡ None)) → IsEvictAnswer b.shape segment told p q → ((count : ℕ) → told ≢ evict.Evicted count) → b.shape.passes ≢ 1
not_evicted b ring segment (evict.Evicted count) p q quiet free own below on not_yours answer failed one = failed count refl
not_evicted b ring segment evict.NotYours p q quiet free own below on not_yours answer failed one = own_segment b p ring segment quiet one own below (not_yours.0 refl)
not_evicted b ring segment (evict.Busy count) p q quiet free own below on not_yours answer failed one =
    let barred = answer.3 in
    let bucket = bucket_of b.shape barred.0 in
    ⊎_elim (λ locked. none-some bucket (sym free.0 ∙ locked)) (λ met. let alone = bounced_alone b q bucket on.quiet.pass one in absurd (omega (arith, met, alone))) barred.2

-- and then refills them
not_read : (b : Board) (segment : ℕ) (p : Pass) → IsQuiet b p → HoldsNothing p → IsBeingRead segment p → b.shape.passes ≢ 1
not_read b segment p quiet free (inl other) one = let nobody =
    nobody_inside (number p) other.0 segment (trace p) other.1 (quiet.pass.alone one) in let there = other.2 in
    absurd (omega (arith, nobody, there))
not_read b segment p quiet free (inr held) one = false≢true (ap (λ h. is_held_in h segment) (sym free.1) ∙ held)

evicted_state : (b : Board) (segment count : ℕ) (p q : Pass) → IsEvictAnswer b.shape segment (evict.Evicted count) p q → state_of q segment ≢ Some InUse
evicted_state b segment count p q (inl out) in_use = absurd (evicted_is (same_Some Evicted InUse (sym (emptied_state segment p q out.0 out.2) ∙ in_use)))
  where
    evicted_is : Evicted ≢ InUse
    evicted_is e = cc
evicted_state b segment count p q (inr none) in_use = none.0 (ap (λ x. state_of x segment) (sym none.2) ∙ in_use)

-- a segment that was refilled has room
room_then : (b : Board) (segment deadline : ℕ) (p q : Pass) → 1 ≤ b.shape.rows → Refills segment deadline p q → has_room b.shape q ≡ true
room_then b segment deadline p q rows refills =
    ap (λ now. is_below b.shape.rows (option_and_then (used_of q) now))
    (ap (λ (x : PlainPart). x.current) refills.plain)
    ∙ (ap (is_below b.shape.rows) (refills_used segment deadline p q refills) ∙ lt-ltb 0 b.shape.rows rows)

abbrev pub is_refilled : RefillAnswer → Bool
is_refilled refill.Refilled = true
is_refilled _ = false

-- what giving up a segment came to, by the answer of its refilling
pub room_made : (b : Board) (ring : Cycle) (segment count : ℕ) (told : RefillAnswer) (p q r : Pass) → IsQuiet b p
    → HoldsNothing q → IsOwnRing b.shape (number p) ring → segment < ring.first + ring.count → GoesOn b p q
    → GoesOn b q r
    → IsEvictAnswer b.shape segment (evict.Evicted count) p q
    → ((told ≡ refill.NotYours) ↔ (state_of q segment ≡ None))
    → ((told ≡ refill.NotEvicted) ↔ (state_of q segment ≡ Some InUse))
    → IsRefillAnswer segment load_deadline told q r
    → GivesUpSegment b.shape segment (is_refilled told) p r
room_made b ring segment count told p q r quiet free own below on then evicts not_yours in_use refills = by told refl refills
  where
    emptied : Empties (number p) segment (mine p) (mine q)
    emptied = empties b.shape segment (evict.Evicted count) p q evicts

    unchanged : mine r ≡ mine q → Empties (number p) segment (mine p) (mine r)
    unchanged same = subst (Empties (number p) segment (mine p)) (sym same) emptied

    by : (answer : RefillAnswer) → told ≡ answer → IsRefillAnswer segment load_deadline answer q r → GivesUpSegment b.shape segment (is_refilled answer) p r
    by refill.Refilled is filled = (mine q, emptied, filled.entry ∙ ap (λ n. Refilled n segment load_deadline ∷ mine q) on.same, room_then b segment load_deadline q r quiet.pass.valid.0.1.0 filled)
    by refill.NotYours is same = (unchanged (ap mine same), λ one. own_segment b q ring segment on.quiet one (subst (λ n. IsOwnRing b.shape n ring) (sym on.same) own) below (not_yours.0 is))
    by refill.NotEvicted is same = (unchanged (ap mine same), λ one. evicted_state b segment count p q evicts (in_use.0 is))
    by refill.Held is held = (unchanged held.0.entries, not_read b segment r then.quiet (unchanged_free q r held.0 free) held.1)

-- a write that found no room is refused so, after a segment was given up in vain
stored_nowhere : (b : Board) (asked : Request) (p q r : Pass) (from to : ClientState) → q ≡ p → GivesUpSegment b.shape (next_of from.segments) false q r → to ≡ turned_on from
    → IsStoredAs b.shape (seen r) (number p) asked tally.NoRoom from to (mine p) (mine r)
stored_nowhere b asked p q r from to same room turned =
    inr ((mine r, subst (λ x. Empties (number x) (next_of from.segments) (mine x) (mine r)) same room.0, inr (refl, refl, room.1)), turned)

-- or is made once more, and then there is room for its one row
stored_again : (b : Board) (asked : Request) (told : WriteAnswer) (p q r s : Pass) (from to : ClientState) → rows_of asked ≡ 1 → q ≡ p
    → GoesOn b q r → HoldsNothing r → GivesUpSegment b.shape (next_of from.segments) true q r → to ≡ turned_on from
    → Writes b asked told r s
    → IsStoredAs b.shape (seen s) (number p) asked (write_tally told) from to (mine p) (mine s)
stored_again b asked told p q r s from to one same on free made turned writes =
    subst (λ x. IsStoredAs b.shape (seen s) (number x) asked (write_tally told) from to (mine x) (mine s)) same (inr (
      (
        made.0,
        made.1,
        inl (subst (λ n. IsWrittenAs b.shape (seen s) n asked (write_tally told) (Refilled (number q) (next_of from.segments) load_deadline ∷ made.0) (mine s)) on.same
            (subst (λ own. IsWrittenAs b.shape (seen s) (number r) asked (write_tally told) own (mine s)) made.2
            (written b asked told r s (λ none. false≢true (sym (writes.no_room.0 none) ∙ subst (λ rows. has_room_for b.shape rows r ≡ true) (sym one) made.3)) on.quiet free writes))),
      ),
      turned,
    ))

pub came_nowhere : (b : Board) (of : Kind) (load : Load) (draw : ℕ) (from to : ClientState) (p q r : Pass)
    → AnswersCommand b (asked_by of from.version load) draw (answer.Write write.NoRoom) p q
    → GivesUpSegment b.shape (next_of from.segments) false q r → to ≡ turned_on from
    → CameTo b.shape (seen r) (number p) of load tally.NoRoom from to (mine p) (mine r)
came_nowhere b kind.Set load draw from to p q r is room turned = stored_nowhere b (request.Set load.key load.value load_moment) p q r from to is.answer room turned
came_nowhere b kind.Add load draw from to p q r is room turned = stored_nowhere b (request.Add load.key load.value load_moment) p q r from to is.answer room turned
came_nowhere b kind.Replace load draw from to p q r is room turned = stored_nowhere b (request.Replace load.key load.value load_moment) p q r from to is.answer room turned
came_nowhere b kind.Cas load draw from to p q r is room turned = stored_nowhere b (request.Cas load.key load.value from.version load_moment) p q r from to is.answer room turned
came_nowhere b of load draw from to p q r is room turned = absurd is

pub came_again : (b : Board) (of : Kind) (load : Load) (draw : ℕ) (told : Answer) (from to : ClientState)
    (p q r s : Pass) → IsShort load → AnswersCommand b (asked_by of from.version load) draw (answer.Write write.NoRoom) p q
    → GoesOn b q r → HoldsNothing r → GivesUpSegment b.shape (next_of from.segments) true q r → to ≡ turned_on from
    → AnswersCommand b (asked_by of from.version load) draw told r s → CameTo b.shape (seen s) (number p) of load (tally_of told) from to (mine p) (mine s)
came_again b kind.Set load draw (answer.Write told) from to p q r s one is on free made turned again =
    stored_again b (request.Set load.key load.value load_moment) told p q r s from to one is.answer on free made turned
    again
came_again b kind.Add load draw (answer.Write told) from to p q r s one is on free made turned again =
    stored_again b (request.Add load.key load.value load_moment) told p q r s from to one is.answer on free made turned
    again
came_again b kind.Replace load draw (answer.Write told) from to p q r s one is on free made turned again =
    stored_again b (request.Replace load.key load.value load_moment) told p q r s from to one is.answer on free made
    turned again
came_again b kind.Cas load draw (answer.Write told) from to p q r s one is on free made turned again =
    stored_again b (request.Cas load.key load.value from.version load_moment) told p q r s from to one is.answer on free
    made turned again
came_again b kind.Set load draw told from to p q r s one is on free made turned again = absurd again
came_again b kind.Add load draw told from to p q r s one is on free made turned again = absurd again
came_again b kind.Replace load draw told from to p q r s one is on free made turned again = absurd again
came_again b kind.Cas load draw told from to p q r s one is on free made turned again = absurd again
came_again b of load draw told from to p q r s one is on free made turned again = absurd is
