-- What the calls of a pass recycle, by the entries that they add.
use Rattle.std.proofs.Common.{◌≡◌, ℕ, suc, ◌+◌, List, [], ◌∷◌, ◌++◌, length, Option, Some, None, count_by, refl, sym, ap, ◌∙◌, subst, inl, inr, zero-add, arith}
use Rattle.segmodel.proofs.Counts.{count_by-cons}
use Rattle.segmodel.specs.declared.answer.Answer.TheVariants as answer
use Rattle.segmodel.specs.declared.answer.WriteAnswer.TheVariants as write
use Rattle.segmodel.specs.declared.answer.DeleteAnswer.TheVariants as delete
use Rattle.segmodel.specs.declared.answer.EvictAnswer.TheVariants as evict
use Rattle.segmodel.specs.declared.answer.RefillAnswer.TheVariants as refill
use Rattle.segmodel.specs.declared.request.Request.TheVariants as request
use Rattle.segmodel.specs.declared.request.Reply.TheVariants as reply
use Rattle.segmodel.specs.declared.entry.Entry.TheVariants.{Wrote, Evicted, Refilled}
use Rattle.segmodel.specs.Words.{Answer, DeleteAnswer, Entry, EvictAnswer, RefillAnswer, Reply, Request, WriteAnswer}
use Rattle.segword.specs.Words.{Shape}
use Rattle.segbase.specs.Words.{Board, mine, number, Pass}
use Rattle.segwrite.specs.Words.{Deletes, Writes}
use Rattle.segevict.specs.Words.{AreEvictions, IsEvictAnswer, TakesOut}
use Rattle.segindex.specs.Words.{AnswersCommand, IsRefillAnswer}
use Rattle.segpolicy.specs.declared.load.Kind.TheVariants as kind
use Rattle.segpolicy.specs.Words.{Kind, Load}
use Rattle.segtally.specs.Recycling.{is_eviction, is_refilling, evicted_by, refilled_by}
use Rattle.segload.specs.declared.totals.Recycled.{Recycled}
use Rattle.segload.specs.Counting.{CountsRecycled, RecyclesFew}
use Rattle.segload.specs.Making.{load_moment}
use Rattle.segload.specs.Calls.{asked_by}

-- ---- commands

kept : (own now : List Entry) (r : Recycled) → now ≡ own → CountsRecycled r own → CountsRecycled r now
kept own now r same counts = subst (CountsRecycled r) (sym same) counts

-- a write is neither an eviction nor a refilling
wrote : (n : ℕ) (asked : Request) (said : Reply) (segment : Option ℕ) (own now : List Entry) (r : Recycled) → now ≡ Wrote n asked said segment ∷ own → CountsRecycled r own → CountsRecycled r now
wrote n asked said segment own now r is counts = subst (CountsRecycled r) (sym is) (record {
  evictions = counts.evictions ∙ sym (count_by-cons is_eviction (Wrote n asked said segment) own ∙ zero-add (count_by is_eviction own));
  refillings = counts.refillings ∙ sym (count_by-cons is_refilling (Wrote n asked said segment) own ∙ zero-add (count_by is_refilling own));
})

write_recycles : (b : Board) (asked : Request) (told : WriteAnswer) (p q : Pass) (r : Recycled) → Writes b asked told p q → CountsRecycled r (mine p) → CountsRecycled r (mine q)
write_recycles b asked write.Stored p q r writes = wrote (number p) asked reply.Stored (Some writes.answer.0) (mine p) (mine q) r writes.answer.1
write_recycles b asked write.NotStored p q r writes = wrote (number p) asked reply.NotStored None (mine p) (mine q) r writes.answer.0
write_recycles b asked write.Exists p q r writes = wrote (number p) asked reply.Exists None (mine p) (mine q) r writes.answer.0
write_recycles b asked write.NotFound p q r writes = wrote (number p) asked reply.NotFound None (mine p) (mine q) r writes.answer.0
write_recycles b asked write.NoRoom p q r writes = kept (mine p) (mine q) r (ap mine writes.answer)
write_recycles b asked write.BucketFull p q r writes = kept (mine p) (mine q) r writes.answer.0.entries
write_recycles b asked write.Busy p q r writes = kept (mine p) (mine q) r writes.answer.0.entries

delete_recycles : (b : Board) (key : List ℕ) (told : DeleteAnswer) (p q : Pass) (r : Recycled) → Deletes b key load_moment told p q → CountsRecycled r (mine p) → CountsRecycled r (mine q)
delete_recycles b key delete.Deleted p q r deletes = wrote (number p) (request.Delete key load_moment) reply.Deleted None (mine p) (mine q) r deletes.answer.0
delete_recycles b key delete.NotFound p q r deletes = wrote (number p) (request.Delete key load_moment) reply.NotFound None (mine p) (mine q) r deletes.answer.0
delete_recycles b key delete.Busy p q r deletes = kept (mine p) (mine q) r deletes.answer.0.entries

-- a call that a command of a load names recycles nothing
pub command_recycles : (b : Board) (of : Kind) (version : ℕ) (load : Load) (draw : ℕ) (told : Answer) (p q : Pass)
    (r : Recycled) → AnswersCommand b (asked_by of version load) draw told p q → CountsRecycled r (mine p)
    → CountsRecycled r (mine q)
command_recycles b kind.Get version load draw (answer.Get told) p q r is = kept (mine p) (mine q) r is.keeps.entries
command_recycles b kind.Gets version load draw (answer.Gets told) p q r is = kept (mine p) (mine q) r is.keeps.entries
command_recycles b kind.Set version load draw (answer.Write told) p q r is = write_recycles b (request.Set load.key load.value load_moment) told p q r is
command_recycles b kind.Add version load draw (answer.Write told) p q r is = write_recycles b (request.Add load.key load.value load_moment) told p q r is
command_recycles b kind.Replace version load draw (answer.Write told) p q r is = write_recycles b (request.Replace load.key load.value load_moment) told p q r is
command_recycles b kind.Cas version load draw (answer.Write told) p q r is = write_recycles b (request.Cas load.key load.value version load_moment) told p q r is
command_recycles b kind.Delete version load draw (answer.Delete told) p q r is = delete_recycles b load.key told p q r is
command_recycles b of version load draw told p q r is = absurd is

-- ---- evictions

evictions_in : (pass segment : ℕ) (out own : List Entry) → AreEvictions pass segment out → count_by is_eviction (out ++ own) ≡ length out + count_by is_eviction own
evictions_in pass segment [] own all = sym (zero-add (count_by is_eviction own))
evictions_in pass segment (added ∷ more) own all =
    let rest = evictions_in pass segment more own all.1 in
    let one : 1 + count_by is_eviction (more ++ own) ≡ suc (length more) + count_by is_eviction own = omega (arith, rest) in
    subst (λ e. count_by is_eviction (e ∷ (more ++ own)) ≡ suc (length more) + count_by is_eviction own) (sym all.0.1)
    (count_by-cons is_eviction (Evicted pass all.0.0 segment) (more ++ own) ∙ one)

none_refilled : (pass segment : ℕ) (out own : List Entry) → AreEvictions pass segment out → count_by is_refilling (out ++ own) ≡ count_by is_refilling own
none_refilled pass segment [] own all = refl
none_refilled pass segment (added ∷ more) own all =
    subst (λ e. count_by is_refilling (e ∷ (more ++ own)) ≡ count_by is_refilling own) (sym all.0.1)
    (count_by-cons is_refilling (Evicted pass all.0.0 segment) (more ++ own) ∙ (zero-add (count_by is_refilling (more ++ own)) ∙ none_refilled pass segment more own all.1))

taken : (segment count : ℕ) (p q : Pass) (r s : Recycled) → TakesOut segment count p q
    → s.evictions ≡ r.evictions + count → s.refillings ≡ r.refillings → CountsRecycled r (mine p)
    → CountsRecycled s (mine q)
taken segment count p q r s out more same counts =
    let long = out.counted in
    let was = counts.evictions in
    let all = evictions_in (number p) segment out.evictions (mine p) out.all in
    let sum : s.evictions ≡ count_by is_eviction (out.evictions ++ mine p) = omega (arith, more, long, was, all) in
    subst (CountsRecycled s) (sym out.entries) (record {
      evictions = sum;
      refillings = same ∙ (counts.refillings ∙ sym (none_refilled (number p) segment out.evictions (mine p) out.all));
    })

none_taken : (p q : Pass) (r s : Recycled) → q ≡ p → s.evictions ≡ r.evictions + 0 → s.refillings ≡ r.refillings → CountsRecycled r (mine p) → CountsRecycled s (mine q)
none_taken p q r s is more same counts =
    let was = counts.evictions in
    subst (λ x. CountsRecycled s (mine x)) (sym is) (record { evictions = omega (arith, more, was); refillings = same ∙ counts.refillings })

-- an evict took out as many as its answer says
pub evict_recycles : (shape : Shape) (segment : ℕ) (told : EvictAnswer) (p q : Pass) (r s : Recycled)
    → IsEvictAnswer shape segment told p q → s.evictions ≡ r.evictions + evicted_by told
    → s.refillings ≡ r.refillings → CountsRecycled r (mine p) → CountsRecycled s (mine q)
evict_recycles shape segment (evict.Evicted count) p q r s (inl out) more same counts = taken segment count p q r s out.1 more same counts
evict_recycles shape segment (evict.Evicted count) p q r s (inr none) more same counts = none_taken p q r s none.2 (more ∙ ap (λ n. r.evictions + n) none.1) same counts
evict_recycles shape segment evict.NotYours p q r s is more same counts = none_taken p q r s is more same counts
evict_recycles shape segment (evict.Busy count) p q r s busy more same counts = taken segment count p q r s busy.1 more same counts

-- ---- refillings

none_more : (p q : Pass) (r s : Recycled) → mine q ≡ mine p → s.evictions ≡ r.evictions → s.refillings ≡ r.refillings + 0 → CountsRecycled r (mine p) → CountsRecycled s (mine q)
none_more p q r s is same more counts =
    let was = counts.refillings in
    subst (CountsRecycled s) (sym is) (record { evictions = same ∙ counts.evictions; refillings = omega (arith, more, was) })

-- a refill that is answered so is counted
pub refill_recycles : (segment deadline : ℕ) (told : RefillAnswer) (p q : Pass) (r s : Recycled)
    → IsRefillAnswer segment deadline told p q → s.evictions ≡ r.evictions
    → s.refillings ≡ r.refillings + refilled_by told → CountsRecycled r (mine p) → CountsRecycled s (mine q)
refill_recycles segment deadline refill.Refilled p q r s filled same more counts =
    let was = counts.refillings in
    let one = count_by-cons is_refilling (Refilled (number p) segment deadline) (mine p) in
    let sum : s.refillings ≡ count_by is_refilling (Refilled (number p) segment deadline ∷ mine p) = omega (arith, more, was, one) in
    subst (CountsRecycled s) (sym filled.entry) (record {
      evictions = same ∙ (counts.evictions ∙ sym (count_by-cons is_eviction (Refilled (number p) segment deadline) (mine p) ∙ zero-add (count_by is_eviction (mine p))));
      refillings = sum;
    })
refill_recycles segment deadline refill.NotYours p q r s is same more counts = none_more p q r s (ap mine is) same more counts
refill_recycles segment deadline refill.NotEvicted p q r s is same more counts = none_more p q r s (ap mine is) same more counts
refill_recycles segment deadline refill.Held p q r s is same more counts = none_more p q r s is.0.entries same more counts

-- ---- how few

pub recycles_none : (old new : Recycled) → new ≡ old → RecyclesFew old new
recycles_none old new same =
    let evictions = ap (λ (r : Recycled). r.evictions) same in
    let refillings = ap (λ (r : Recycled). r.refillings) same in
    record { evictions = omega (arith, evictions); refillings = omega (arith, refillings) }

-- what was recycled between two calls that recycle nothing
pub recycles_between : (old from to new : Recycled) → from ≡ old → RecyclesFew from to → new ≡ to → RecyclesFew old new
recycles_between old from to new before few after = subst (λ r. RecyclesFew r new) before (subst (RecyclesFew from) (sym after) few)
