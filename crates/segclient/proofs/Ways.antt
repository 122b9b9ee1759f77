-- What the calls of a put come to: which entries they add, and that hold and lock stay.
use Rattle.std.proofs.Common.{◌≡◌, ◌≢◌, ℕ, ◌+◌, Bool, false, cond, IsSome, is_some, List, [], ◌∷◌, ◌++◌, length, All, Option, Some, refl, sym, ap, ◌∙◌, subst, inl, inr, count_by, append_assoc, arith}
use Rattle.std.specs.Prelude.{sum_by}
use Rattle.std.proofs.lemmas.List.Sums.{sum_by-cons}
use Rattle.std.proofs.lemmas.List.Elements.{All-nil, All-cons, All-append, All-head, All-tail}
use Rattle.segword.specs.Words.{Shape}
use Rattle.segmodel.proofs.Counts.{count_by-cons}
use Rattle.segmodel.proofs.LawLemmas.{count_by-append}
use Rattle.segmodel.specs.declared.entry.Entry.TheVariants.{Evicted, Moved, Refilled}
use Rattle.segmodel.specs.declared.answer.EvictAnswer.TheVariants as evict
use Rattle.segmodel.specs.declared.answer.RefillAnswer.TheVariants as refill
use Rattle.segmodel.specs.declared.answer.SegState.TheVariants.{InUse}
use Rattle.segmodel.specs.declared.answer.WriteAnswer.TheVariants as write
use Rattle.segmodel.specs.declared.request.Request.TheVariants.{Set}
use Rattle.segmodel.specs.Words.{Entry, EvictAnswer, owner, RefillAnswer, Request, WriteAnswer}
use Rattle.segbase.specs.Words.{Board, mine, number, Pass, state_of}
use Rattle.segstore.specs.Words.{ChangesNothing, GoesOn, IsQuiet, memo}
use Rattle.segstore.proofs.Idling.{does_nothing, goes_same, unchanged}
use Rattle.segwrite.specs.Words.{IsSetAnswer, Writes}
use Rattle.segevict.specs.declared.retention.KeepRowAnswer.{KeepRowAnswer}
use Rattle.segevict.specs.declared.retention.KeepRowAnswer.TheVariants as kept
use Rattle.segevict.specs.declared.eviction.EvictRowAnswer.{EvictRowAnswer}
use Rattle.segevict.specs.declared.eviction.EvictRowAnswer.TheVariants as evict_row
use Rattle.segevict.specs.Words.{AreEvictions, EvictsItem, EvictsRest, IsEvictAnswer, IsKeepRowAnswer, IsKeepRowIntoAnswer, KeepsItem, KeepsItemInto}
use Rattle.segevict.proofs.RowsOut.{goes_then}
use Rattle.segindex.specs.Refilling.{RefillsSegmentWith}
use Rattle.segindex.proofs.QuietPass.{owned}
use Rattle.segtally.specs.Recycling.{is_eviction, is_move, is_refilling}
use Rattle.segclient.specs.Clearing.{came_to_step, evicts_row, keeps_into}
use Rattle.segclient.specs.Entries.{IsOfRoom, IsOnly, AddsRoom}
use Rattle.segclient.specs.PutCalls.{PutCall, sets, evicts, keeps, refills, finds_own, takes_out, Plan, came_to, refilled_segments, kept_items, evicted_keys, IsCall, Makes}
use Rattle.segclient.specs.PutParts.{AreOpen}

-- ---- entries

-- none
nothing_added : (shape : Shape) (pass : ℕ) (cutoff : Option ℕ) (Due : ℕ → Type 0) (old : List Entry) → AddsRoom shape pass cutoff Due 0 0 0 old old
nothing_added shape pass cutoff Due old = record { more = []; of_room = All-nil (IsOfRoom shape pass cutoff Due); refillings = refl; moves = refl; evictions = refl; entries = refl }

-- some, and then more
added_then : (shape : Shape) (pass : ℕ) (cutoff : Option ℕ) (Due : ℕ → Type 0) (r m k s n l : ℕ) (old between new : List Entry)
    → AddsRoom shape pass cutoff Due r m k old between → AddsRoom shape pass cutoff Due s n l between new → AddsRoom shape pass cutoff Due (r + s) (m + n) (k + l) old new
added_then shape pass cutoff Due r m k s n l old between new first then = record {
  more = then.more ++ first.more;
  of_room = All-append (IsOfRoom shape pass cutoff Due) then.more first.more then.of_room first.of_room;
  refillings = let both = count_by-append is_refilling then.more first.more in let one = first.refillings in let two = then.refillings in omega (arith, both, one, two);
  moves = let both = count_by-append is_move then.more first.more in let one = first.moves in let two = then.moves in omega (arith, both, one, two);
  evictions = let both = count_by-append is_eviction then.more first.more in let one = first.evictions in let two = then.evictions in omega (arith, both, one, two);
  entries = then.entries ∙ ap (λ l. then.more ++ l) first.entries ∙ sym (append_assoc then.more first.more old);
}

-- one refilling
refilling_added : (shape : Shape) (pass : ℕ) (cutoff : Option ℕ) (Due : ℕ
    → Type 0) (until segment : ℕ) (old : List Entry) → owner shape segment ≡ pass → Due until
    → AddsRoom shape pass cutoff Due 1 0 0 old (Refilled pass segment until ∷ old)
refilling_added shape pass cutoff Due until segment old own due = record {
  more = Refilled pass segment until ∷ [];
  of_room = All-cons (IsOfRoom shape pass cutoff Due) (Refilled pass segment until) [] (inr (inl (segment, until, own, due, refl))) (All-nil (IsOfRoom shape pass cutoff Due));
  refillings = count_by-cons is_refilling (Refilled pass segment until) [];
  moves = count_by-cons is_move (Refilled pass segment until) [];
  evictions = count_by-cons is_eviction (Refilled pass segment until) [];
  entries = refl;
}

-- evictions alone
are_of_room : (shape : Shape) (pass : ℕ) (cutoff : Option ℕ) (Due : ℕ → Type 0) (segment : ℕ) (more : List Entry)
    → owner shape segment ≡ pass → AreEvictions pass segment more → All (IsOfRoom shape pass cutoff Due) more
are_of_room shape pass cutoff Due segment [] own are = All-nil (IsOfRoom shape pass cutoff Due)
are_of_room shape pass cutoff Due segment (entry ∷ more) own are =
    All-cons (IsOfRoom shape pass cutoff Due) entry more (inl (are.0.0, segment, own, are.0.1)) (are_of_room shape pass cutoff Due segment more own are.1)

none_evicted : (is : Entry → Bool) (pass segment : ℕ) (more : List Entry) → ((key : List ℕ) → is (Evicted pass key segment) ≡ false) → AreEvictions pass segment more → count_by is more ≡ 0
none_evicted is pass segment [] other are = refl
none_evicted is pass segment (entry ∷ more) other are =
    count_by-cons is entry more ∙ ap (λ e. cond (is e) 1 0 + count_by is more) are.0.1 ∙ ap (λ v. cond v 1 0 + count_by is more) (other are.0.0)
    ∙ (let rest = none_evicted is pass segment more other are.1 in omega (arith, rest))

all_evictions : (pass segment : ℕ) (more : List Entry) → AreEvictions pass segment more → count_by is_eviction more ≡ length more
all_evictions pass segment [] are = refl
all_evictions pass segment (entry ∷ more) are = count_by-cons is_eviction entry more
    ∙ ap (λ e. cond (is_eviction e) 1 0 + count_by is_eviction more) are.0.1
    ∙ (let rest = all_evictions pass segment more are.1 in omega (arith, rest))

evictions_added : (shape : Shape) (pass : ℕ) (cutoff : Option ℕ) (Due : ℕ
    → Type 0) (segment keys : ℕ) (more old new : List Entry) → owner shape segment ≡ pass
    → AreEvictions pass segment more → length more ≡ keys → new ≡ more ++ old
    → AddsRoom shape pass cutoff Due 0 0 keys old new
evictions_added shape pass cutoff Due segment keys more old new own are long is = record {
  more = more;
  of_room = are_of_room shape pass cutoff Due segment more own are;
  refillings = none_evicted is_refilling pass segment more (λ key. refl) are;
  moves = none_evicted is_move pass segment more (λ key. refl) are;
  evictions = all_evictions pass segment more are ∙ long;
  entries = is;
}

-- one move
move_added : (shape : Shape) (pass : ℕ) (cutoff : Option ℕ) (Due : ℕ → Type 0) (key : List ℕ) (segment into : ℕ)
    (old new : List Entry) → IsSome cutoff → owner shape segment ≡ pass → owner shape into ≡ pass
    → new ≡ Moved pass key segment into ∷ old → AddsRoom shape pass cutoff Due 0 1 0 old new
move_added shape pass cutoff Due key segment into old new asked from to is = record {
  more = Moved pass key segment into ∷ [];
  of_room = All-cons (IsOfRoom shape pass cutoff Due) (Moved pass key segment into) [] (inr (inr (asked, (key, segment, into, from, to, refl)))) (All-nil (IsOfRoom shape pass cutoff Due));
  refillings = count_by-cons is_refilling (Moved pass key segment into) [];
  moves = count_by-cons is_move (Moved pass key segment into) [];
  evictions = count_by-cons is_eviction (Moved pass key segment into) [];
  entries = is;
}

-- ---- calls

module _ (b : Board) (cutoff : Option ℕ) (Due : ℕ → Type 0) where
  -- calls: so many segments were refilled, so many items kept, and so many keys evicted
  pub record Comes (refilled kept keys : ℕ) (p q : Pass) : Type 0 where
    pub on : GoesOn b p q
    pub memo : memo q ≡ memo p
    pub adds : AddsRoom b.shape (number p) cutoff Due refilled kept keys (mine p) (mine q)

  pub comes_none : (p : Pass) → IsQuiet b p → Comes 0 0 0 p p
  comes_none p quiet = record { on = goes_same b p quiet; memo = refl; adds = nothing_added b.shape (number p) cutoff Due (mine p) }

  pub same_none : (p q : Pass) → IsQuiet b p → q ≡ p → Comes 0 0 0 p q
  same_none p q quiet same = subst (Comes 0 0 0 p) (sym same) (comes_none p quiet)

  pub unchanged_none : (p q : Pass) → GoesOn b p q → ChangesNothing p q → Comes 0 0 0 p q
  unchanged_none p q on nothing = record {
    on = on;
    memo = nothing.memo;
    adds = subst (AddsRoom b.shape (number p) cutoff Due 0 0 0 (mine p)) (sym nothing.entries) (nothing_added b.shape (number p) cutoff Due (mine p));
  }

  pub comes_then : (r m k s n l : ℕ) (p q t : Pass) → Comes r m k p q → Comes s n l q t → Comes (r + s) (m + n) (k + l) p t
  comes_then r m k s n l p q t first then = record {
    on = goes_then b p q t first.on then.on;
    memo = then.memo ∙ first.memo;
    adds = added_then b.shape (number p) cutoff Due r m k s n l (mine p) (mine q) (mine t) first.adds (subst (λ i. AddsRoom b.shape i cutoff Due s n l (mine q) (mine t)) first.on.same then.adds);
  }

  -- the same with other names for the numbers
  pub so_many : (r m k s n l : ℕ) (p q : Pass) → r ≡ s → m ≡ n → k ≡ l → Comes r m k p q → Comes s n l p q
  so_many r m k s n l p q one two three comes = subst (λ i. Comes i n l p q) one (subst (λ i. Comes r i l p q) two (subst (λ i. Comes r m i p q) three comes))

  -- ---- went, stayed and filled

  own : (p : Pass) (segment : ℕ) → IsQuiet b p → IsSome (state_of p segment) → owner b.shape segment ≡ number p
  own p segment quiet known = (owned b p segment quiet).0 known

  in_use_own : (p : Pass) (segment : ℕ) → IsQuiet b p → state_of p segment ≡ Some InUse → owner b.shape segment ≡ number p
  in_use_own p segment quiet in_use = own p segment quiet (ap is_some in_use)

  evicted : (segment from keys : ℕ) (p q : Pass) → IsQuiet b p → EvictsRest b segment from (evict.Evicted keys) p q → Comes 0 0 keys p q
  evicted segment from keys p q quiet went = by went.answer
    where
      by : IsEvictAnswer b.shape segment (evict.Evicted keys) p q → Comes 0 0 keys p q
      by (inl out) = record {
        on = went.on;
        memo = out.1.memo;
        adds = evictions_added b.shape (number p) cutoff Due segment keys out.1.evictions (mine p) (mine q) (in_use_own p segment quiet out.0) out.1.all out.1.counted out.1.entries;
      }
      by (inr none) = subst (λ k. Comes 0 0 k p q) (sym none.1) (same_none p q quiet none.2)

  evict_busy : (segment from keys : ℕ) (p q : Pass) → IsQuiet b p → EvictsRest b segment from (evict.Busy keys) p q → Comes 0 0 keys p q
  evict_busy segment from keys p q quiet went =
      let out = went.answer in
      record {
        on = went.on;
        memo = out.1.memo;
        adds = evictions_added b.shape (number p) cutoff Due segment keys out.1.evictions (mine p) (mine q) (in_use_own p segment quiet out.0) out.1.all out.1.counted out.1.entries;
      }

  -- from this row on
  pub evicted_some : (segment from : ℕ) (told : EvictAnswer) (p q : Pass) → IsQuiet b p → EvictsRest b segment from told p q → Comes 0 0 (came_to evicted_keys (evicts segment told)) p q
  evicted_some segment from (evict.Evicted keys) p q quiet out = evicted segment from keys p q quiet out
  evicted_some segment from (evict.Busy keys) p q quiet out = evict_busy segment from keys p q quiet out
  evicted_some segment from evict.NotYours p q quiet out = same_none p q quiet out.answer

  -- one row
  pub row_evicted : (segment row : ℕ) (told : EvictRowAnswer) (p q : Pass) → owner b.shape segment ≡ number p
      → IsQuiet b p → EvictsItem b segment row told p q
      → Comes 0 0 (came_to_step evicted_keys (evicts_row segment row told)) p q
  row_evicted segment row evict_row.Evicted p q from quiet out = let went = out.answer.0 in record {
    on = out.on;
    memo = went.memo;
    adds = evictions_added b.shape (number p) cutoff Due segment 1 (Evicted (number p) went.key segment ∷ []) (mine p) (mine q) from ((went.key, refl), tt) refl went.entry;
  }
  row_evicted segment row evict_row.Left p q from quiet out = unchanged_none p q out.on out.answer.0
  row_evicted segment row evict_row.Busy p q from quiet out = unchanged_none p q out.on out.answer.0
  row_evicted segment row evict_row.NotYours p q from quiet out = same_none p q quiet out.answer
  row_evicted segment row evict_row.NotUsed p q from quiet out = same_none p q quiet out.answer

  row_kept : (segment row least : ℕ) (told : KeepRowAnswer) (p q : Pass) → owner b.shape segment ≡ number p
      → IsSome cutoff → IsQuiet b p → KeepsItem b segment row least told p q
      → Comes 0 (came_to kept_items (keeps segment row least told)) 0 p q
  row_kept segment row least kept.Moved p q from asked quiet stayed = let out = stayed.answer in record {
    on = stayed.on;
    memo = out.2.memo;
    adds = move_added b.shape (number p) cutoff Due out.3.0 segment out.0 (mine p) (mine q) asked from (in_use_own p out.0 quiet (quiet.segments.in_use out.0 out.1.current)) out.3.1.entries;
  }
  row_kept segment row least kept.Left p q from asked quiet stayed = unchanged_none p q stayed.on stayed.answer.2
  row_kept segment row least kept.NoRoom p q from asked quiet stayed = by stayed.answer
    where
      by : IsKeepRowAnswer b.shape segment row least kept.NoRoom p q → Comes 0 0 0 p q
      by (inl none) = same_none p q quiet none.1
      by (inr out) = unchanged_none p q stayed.on out.2
  row_kept segment row least kept.Busy p q from asked quiet stayed = unchanged_none p q stayed.on stayed.answer.2
  row_kept segment row least kept.NotYours p q from asked quiet stayed = same_none p q quiet stayed.answer
  row_kept segment row least kept.NotUsed p q from asked quiet stayed = same_none p q quiet stayed.answer

  -- into a segment that is named
  pub row_kept_into : (segment row least into : ℕ) (told : KeepRowAnswer) (p q : Pass)
      → owner b.shape segment ≡ number p → IsSome cutoff → IsQuiet b p
      → KeepsItemInto b segment row least into told p q
      → Comes 0 (came_to_step kept_items (keeps_into segment row least into told)) 0 p q
  row_kept_into segment row least into kept.Moved p q from asked quiet stayed = let out = stayed.answer in record {
    on = stayed.on;
    memo = out.2.memo;
    adds = move_added b.shape (number p) cutoff Due out.3.0 segment out.0 (mine p) (mine q) asked from
        (in_use_own p out.0 quiet (subst (λ s. state_of p s ≡ Some InUse) (sym out.1.0) (out.1.1.in_use)))
        out.3.1.entries;
  }
  row_kept_into segment row least into kept.Left p q from asked quiet stayed = unchanged_none p q stayed.on stayed.answer.2
  row_kept_into segment row least into kept.NoRoom p q from asked quiet stayed = by stayed.answer
    where
      by : IsKeepRowIntoAnswer b.shape segment row least into kept.NoRoom p q → Comes 0 0 0 p q
      by (inl none) = same_none p q quiet none.1
      by (inr out) = unchanged_none p q stayed.on out.2
  row_kept_into segment row least into kept.Busy p q from asked quiet stayed = unchanged_none p q stayed.on stayed.answer.2
  row_kept_into segment row least into kept.NotYours p q from asked quiet stayed = same_none p q quiet stayed.answer
  row_kept_into segment row least into kept.NotUsed p q from asked quiet stayed = same_none p q quiet stayed.answer

  refilled : (segment until : ℕ) (current : Option ℕ) (p q : Pass) → Due until → IsQuiet b p → RefillsSegmentWith b segment until current refill.Refilled p q → Comes 1 0 0 p q
  refilled segment until current p q due quiet filled = record {
    on = filled.on;
    memo = filled.answer.memo;
    adds = subst (AddsRoom b.shape (number p) cutoff Due 1 0 0 (mine p)) (sym filled.answer.entry)
        (refilling_added b.shape (number p) cutoff Due until segment (mine p)
        (own p segment quiet filled.answer.own) due);
  }

  -- whichever segment is current then
  pub some_refilled : (segment until : ℕ) (current : Option ℕ) (told : RefillAnswer) (p q : Pass) → Due until
      → IsQuiet b p → RefillsSegmentWith b segment until current told p q
      → Comes (came_to refilled_segments (refills segment told)) 0 0 p q
  some_refilled segment until current refill.Refilled p q due quiet out = refilled segment until current p q due quiet out
  some_refilled segment until current refill.NotYours p q due quiet out = same_none p q quiet out.answer
  some_refilled segment until current refill.NotEvicted p q due quiet out = same_none p q quiet out.answer
  some_refilled segment until current refill.Held p q due quiet out = unchanged_none p q out.on out.answer.0

  -- ---- sets

  set_lacks : (request : Request) (told : WriteAnswer) (p q : Pass) → IsSetAnswer told → sets told ≢ sets write.Stored → Writes b request told p q → Comes 0 0 0 p q
  set_lacks request write.Stored p q set other writes = absurd (other refl)
  set_lacks request write.NoRoom p q set other writes = unchanged_none p q writes.on (unchanged p q writes.answer)
  set_lacks request write.BucketFull p q set other writes = unchanged_none p q writes.on writes.answer.0
  set_lacks request write.Busy p q set other writes = unchanged_none p q writes.on writes.answer.0
  set_lacks request write.NotStored p q set other writes = absurd set
  set_lacks request write.Exists p q set other writes = absurd set
  set_lacks request write.NotFound p q set other writes = absurd set

-- ---- lists of calls

out_came : (segment row : ℕ) (told : EvictRowAnswer) → came_to_step evicted_keys (evicts_row segment row told) ≡ came_to evicted_keys (takes_out segment row told)
out_came segment row evict_row.Evicted = refl
out_came segment row evict_row.Left = refl
out_came segment row evict_row.Busy = refl
out_came segment row evict_row.NotYours = refl
out_came segment row evict_row.NotUsed = refl

module _ (b : Board) (plan : Plan) where
  abbrev Came : ℕ → ℕ → ℕ → Pass → Pass → Type 0
  Came = Comes b plan.cutoff (IsOnly plan.deadline)

  call_comes : (call : PutCall) (p q : Pass) → IsQuiet b p → call ≢ sets write.Stored → IsCall b plan call p q
      → Came (came_to refilled_segments call) (came_to kept_items call) (came_to evicted_keys call) p q
  call_comes (sets told) p q quiet other (key, value, now, is, fresh, set, writes) = set_lacks b plan.cutoff (IsOnly plan.deadline) (Set key value now) told p q set other writes
  call_comes (evicts segment told) p q quiet other is = evicted_some b plan.cutoff (IsOnly plan.deadline) segment 0 told p q quiet is.1
  call_comes (keeps segment row least told) p q quiet other is = row_kept b plan.cutoff (IsOnly plan.deadline) segment row least told p q is.0 (ap is_some is.1.1) quiet is.2
  call_comes (refills segment told) p q quiet other is = some_refilled b plan.cutoff (IsOnly plan.deadline) segment plan.deadline (Some segment) told p q refl quiet is.1
  call_comes (finds_own found) p q quiet other is = let i = is.1.idles in unchanged_none b plan.cutoff (IsOnly plan.deadline) p q is.1.on (does_nothing b p q quiet i.moved i.plain i.memo)
  call_comes (takes_out segment row told) p q quiet other is =
      subst (λ n. Came 0 0 n p q) (out_came segment row told) (row_evicted b plan.cutoff (IsOnly plan.deadline) segment row told p q is.1 quiet is.2)

  pub calls_come : (calls : List PutCall) (p q : Pass) → IsQuiet b p → AreOpen calls → Makes b plan calls p q
      → Came (sum_by (came_to refilled_segments) calls) (sum_by (came_to kept_items) calls)
      (sum_by (came_to evicted_keys) calls) p q
  unfolding Makes
  calls_come [] p q quiet are same = same_none b plan.cutoff (IsOnly plan.deadline) p q quiet same
  calls_come (call ∷ earlier) p q quiet are (between, rest, last) =
      let first = calls_come earlier p between quiet (All-tail (λ c. c ≢ sets write.Stored) call earlier are) rest in
      let then = call_comes call between q first.on.quiet (All-head (λ c. c ≢ sets write.Stored) call earlier are) last in
      let one = sum_by-cons (came_to refilled_segments) call earlier in
      let two = sum_by-cons (came_to kept_items) call earlier in
      let three = sum_by-cons (came_to evicted_keys) call earlier in
      so_many b plan.cutoff (IsOnly plan.deadline)
      (sum_by (came_to refilled_segments) earlier + came_to refilled_segments call)
      (sum_by (came_to kept_items) earlier + came_to kept_items call)
      (sum_by (came_to evicted_keys) earlier + came_to evicted_keys call)
      (sum_by (came_to refilled_segments) (call ∷ earlier)) (sum_by (came_to kept_items) (call ∷ earlier))
      (sum_by (came_to evicted_keys) (call ∷ earlier)) p q (omega (arith, one)) (omega (arith, two))
      (omega (arith, three))
      (comes_then b plan.cutoff (IsOnly plan.deadline) (sum_by (came_to refilled_segments) earlier)
      (sum_by (came_to kept_items) earlier) (sum_by (came_to evicted_keys) earlier)
      (came_to refilled_segments call) (came_to kept_items call) (came_to evicted_keys call) p between q first
      then)
