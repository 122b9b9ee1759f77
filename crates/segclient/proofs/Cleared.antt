-- The rows that were cleared of a segment stay so over each call that adds no refilling of it.
use Rattle.std.proofs.Common.{◌≡◌, ◌≢◌, ℕ, zero, suc, List, [], ◌∷◌, ◌++◌, Option, Some, None, IsSomeAnd, refl, sym, ap, ◌∙◌, subst, inl, inr}
use Rattle.segword.specs.Words.{Shape}
use Rattle.segmodel.specs.declared.answer.DeleteAnswer.TheVariants as delete
use Rattle.segmodel.specs.declared.answer.RefillAnswer.TheVariants as refill
use Rattle.segmodel.specs.declared.answer.WriteAnswer.TheVariants as write
use Rattle.segmodel.specs.declared.entry.Entry.TheVariants.{Evicted, Refilled, Wrote}
use Rattle.segmodel.specs.declared.request.Request.TheVariants.{Set}
use Rattle.segmodel.specs.Words.{DeleteAnswer, Entry, RefillAnswer, Reply, Request, WriteAnswer}
use Rattle.segbase.specs.Words.{Board, mine, number, Pass}
use Rattle.segread.specs.declared.held.HeldRow.{HeldRow}
use Rattle.segread.specs.declared.held.HoldAnswer.{HoldAnswer}
use Rattle.segread.specs.declared.held.HoldAnswer.TheVariants as hold_answer
use Rattle.segread.specs.Holds.{HoldsItem, NoneFills, ReadsRow}
use Rattle.segstore.specs.Words.{GoesOn, IsQuiet}
use Rattle.segstore.proofs.Idling.{goes_same}
use Rattle.segwrite.specs.Words.{Deletes, Writes}
use Rattle.segevict.specs.declared.eviction.EvictRowAnswer.{EvictRowAnswer}
use Rattle.segevict.specs.declared.eviction.EvictRowAnswer.TheVariants as evict_row
use Rattle.segevict.specs.Words.{EvictsItem, FindsOwn}
use Rattle.segstore.proofs.Idling.{does_nothing}
use Rattle.segstore.specs.declared.row.RowRef.{RowRef}
use Rattle.segindex.specs.Refilling.{RefillsSegment}
use Rattle.segindex.specs.Sharing.{ReadsKept, ReleasesKept}
use Rattle.segindex.specs.Words.{board_of, Index, shape_of}
use Rattle.segindex.proofs.UnnamedRows.{unnamed_stay}
use Rattle.segtally.specs.Rings.{IsOwnRing}
use Rattle.segclient.specs.declared.segments.SourceSegment.{SourceSegment}
use Rattle.segclient.specs.declared.member.Member.{Member}
use Rattle.segclient.specs.declared.put.PutAnswer.{PutAnswer}
use Rattle.segclient.specs.declared.put.PutAnswer.TheVariants as put
use Rattle.segclient.specs.Clearing.{IsCleared}
use Rattle.segclient.specs.Member.{IsMember}
use Rattle.segclient.specs.PutCalls.{PutCall, sets, evicts, keeps, refills, finds_own, takes_out, Plan, Makes}
use Rattle.segclient.specs.PutParts.{AreSets, busy_sets, Sets, SetsIfTimely}
use Rattle.segclient.proofs.Calls.{makes_on}
use Rattle.segclient.proofs.Items.{way_kept}

-- whatever is being cleared
abbrev pub StaysCleared : Shape → Pass → Pass → Type 0
StaysCleared shape p q = (source : Option SourceSegment) → IsCleared shape source p → IsCleared shape source q

pub stays_same : (shape : Shape) (p q : Pass) → q ≡ p → StaysCleared shape p q
stays_same shape p q same = λ source cleared. subst (IsCleared shape source) (sym same) cleared

pub stays_then : (shape : Shape) (p q r : Pass) → StaysCleared shape p q → StaysCleared shape q r → StaysCleared shape p r
stays_then shape p q r one then = λ source cleared. then source (one source cleared)

module _ (b : Board) (p q : Pass) (quiet : IsQuiet b p) (on : GoesOn b p q) where
  -- the source that is cleared isn't among what is refilled
  pub source_stays : (source : Option SourceSegment) (added : List Entry) → mine q ≡ added ++ mine p
      → ((one : SourceSegment) → source ≡ Some one → NoneFills one.segment added) → IsCleared b.shape source p
      → IsCleared b.shape source q
  source_stays None added is none cleared = tt
  source_stays (Some source) added is none cleared = let way = way_kept b p q source.segment added quiet on is (none source refl) cleared.0 source.row cleared.1 in (
    cleared.0 ∙ sym on.same,
    unnamed_stay b p q source.segment source.row added quiet on is (none source refl) cleared.1,
    way cleared.2,
  )

  pub stays_over : (added : List Entry) → mine q ≡ added ++ mine p → ((segment : ℕ) → NoneFills segment added) → StaysCleared b.shape p q
  stays_over added is none = λ source. source_stays source added is (λ one same. none one.segment)

  -- no entry
  pub nothing_stays : mine q ≡ mine p → StaysCleared b.shape p q
  nothing_stays same = stays_over [] same (λ segment. tt)

  -- the entry of a request
  wrote_stays : (request : Request) (reply : Reply) (segment : Option ℕ) → mine q ≡ Wrote (number p) request reply segment ∷ mine p → StaysCleared b.shape p q
  wrote_stays request reply segment is = stays_over (Wrote (number p) request reply segment ∷ []) is (λ other. ((λ pass deadline same. apart pass other deadline same), tt))
    where
      apart : (pass other deadline : ℕ) → Wrote (number p) request reply segment ≢ Refilled pass other deadline
      apart pass other deadline same = cc

-- ---- calls

abbrev segment_in : Entry → ℕ
segment_in (Refilled pass segment deadline) = segment
segment_in _ = 0

pub refilled_in : (pass other segment into deadline late : ℕ) → Refilled pass segment deadline ≡ Refilled other into late → segment ≡ into
refilled_in pass other segment into deadline late same = ap segment_in same

module _ (b : Board) (p q : Pass) (quiet : IsQuiet b p) where
  pub write_stays : (request : Request) (told : WriteAnswer) → Writes b request told p q → StaysCleared b.shape p q
  write_stays request write.Stored writes = wrote_stays b p q quiet writes.on _ _ _ writes.answer.1
  write_stays request write.NotStored writes = wrote_stays b p q quiet writes.on _ _ _ writes.answer.0
  write_stays request write.Exists writes = wrote_stays b p q quiet writes.on _ _ _ writes.answer.0
  write_stays request write.NotFound writes = wrote_stays b p q quiet writes.on _ _ _ writes.answer.0
  write_stays request write.NoRoom writes = stays_same b.shape p q writes.answer
  write_stays request write.BucketFull writes = nothing_stays b p q quiet writes.on writes.answer.0.entries
  write_stays request write.Busy writes = nothing_stays b p q quiet writes.on writes.answer.0.entries

  pub delete_stays : (key : List ℕ) (now : ℕ) (told : DeleteAnswer) → Deletes b key now told p q → StaysCleared b.shape p q
  delete_stays key now delete.Deleted deletes = wrote_stays b p q quiet deletes.on _ _ _ deletes.answer.0
  delete_stays key now delete.NotFound deletes = wrote_stays b p q quiet deletes.on _ _ _ deletes.answer.0
  delete_stays key now delete.Busy deletes = nothing_stays b p q quiet deletes.on deletes.answer.0.entries

  pub hold_stays : (key : List ℕ) (now : ℕ) (told : HoldAnswer) → HoldsItem b key now told p q → StaysCleared b.shape p q
  hold_stays key now (hold_answer.Holding hold) holds = nothing_stays b p q quiet holds.on holds.answer.entries
  hold_stays key now hold_answer.Miss holds = nothing_stays b p q quiet holds.on holds.answer.0.entries
  hold_stays key now hold_answer.Busy holds = nothing_stays b p q quiet holds.on holds.answer.0.entries
  hold_stays key now hold_answer.AlreadyHolding holds = stays_same b.shape p q holds.answer

  -- a look for an own item
  pub look_stays : (found : Option RowRef) → FindsOwn b found p q → StaysCleared b.shape p q
  look_stays found finds = nothing_stays b p q quiet finds.on (does_nothing b p q quiet finds.idles.moved finds.idles.plain finds.idles.memo).entries

  -- an evict of one row
  pub row_out_stays : (segment row : ℕ) (told : EvictRowAnswer) → EvictsItem b segment row told p q → StaysCleared b.shape p q
  row_out_stays segment row evict_row.Evicted out = stays_over b p q quiet out.on (Evicted (number p) out.answer.0.key segment ∷ []) out.answer.0.entry
      (λ other. ((λ pass deadline same. apart out.answer.0.key pass other deadline same), tt))
    where
      apart : (key : List ℕ) (pass other deadline : ℕ) → Evicted (number p) key segment ≢ Refilled pass other deadline
      apart key pass other deadline same = cc
  row_out_stays segment row evict_row.Left out = nothing_stays b p q quiet out.on out.answer.0.entries
  row_out_stays segment row evict_row.Busy out = nothing_stays b p q quiet out.on out.answer.0.entries
  row_out_stays segment row evict_row.NotYours out = stays_same b.shape p q out.answer
  row_out_stays segment row evict_row.NotUsed out = stays_same b.shape p q out.answer

  -- a refill of another segment
  pub refill_stays : (segment deadline : ℕ) (told : RefillAnswer) (source : Option SourceSegment)
      → ((one : SourceSegment) → source ≡ Some one → one.segment ≢ segment) → RefillsSegment b segment deadline told p q
      → IsCleared b.shape source p → IsCleared b.shape source q
  refill_stays segment deadline refill.Refilled source other filled =
      source_stays b p q quiet filled.on source (Refilled (number p) segment deadline ∷ []) filled.answer.entry
      (λ one is. ((λ pass late same. other one is (sym (refilled_in (number p) pass segment one.segment deadline late same))), tt))
  refill_stays segment deadline refill.NotYours source other filled = stays_same b.shape p q filled.answer source
  refill_stays segment deadline refill.NotEvicted source other filled = stays_same b.shape p q filled.answer source
  refill_stays segment deadline refill.Held source other filled = nothing_stays b p q quiet filled.on filled.answer.0.entries source

-- ---- sets in a row

abbrev OnlySets : List PutCall → Type 0
OnlySets [] = Unit {0}
OnlySets (sets told ∷ calls) = OnlySets calls
OnlySets (call ∷ calls) = ⊥

busy_only : (busy : ℕ) → OnlySets (busy_sets busy)
unfolding busy_sets
busy_only zero = tt
busy_only (suc busy) = busy_only busy

are_only : (told : PutAnswer) (calls : List PutCall) → AreSets told calls → OnlySets calls
are_only put.Stored calls are = subst OnlySets (sym are.1) (busy_only are.0)
are_only put.NoRoom calls are = subst OnlySets (sym are.1) (busy_only are.0)
are_only put.BucketFull calls are = subst OnlySets (sym are.1) (busy_only are.0)
are_only put.Busy calls are = subst OnlySets (sym are) (busy_only 16)

module _ (b : Board) (plan : Plan) where
  only_stay : (calls : List PutCall) (p q : Pass) → IsQuiet b p → OnlySets calls → Makes b plan calls p q → StaysCleared b.shape p q
  unfolding Makes
  only_stay [] p q quiet only same = stays_same b.shape p q same
  only_stay (sets told ∷ calls) p q quiet only (between, rest, (key, value, now, is, fresh, set, writes)) =
      stays_then b.shape p between q (only_stay calls p between quiet only rest) (write_stays b between q (makes_on b plan calls p between quiet rest).quiet (Set key value now) told writes)
  only_stay (evicts segment told ∷ calls) p q quiet only made = absurd only
  only_stay (keeps segment row cutoff told ∷ calls) p q quiet only made = absurd only
  only_stay (refills segment told ∷ calls) p q quiet only made = absurd only
  only_stay (finds_own found ∷ calls) p q quiet only made = absurd only
  only_stay (takes_out segment row told ∷ calls) p q quiet only made = absurd only

  pub sets_stay : (told : PutAnswer) (p q : Pass) → IsQuiet b p → Sets b plan told p q → StaysCleared b.shape p q
  sets_stay told p q quiet made = only_stay made.calls p q quiet (are_only told made.calls made.are) made.makes

  pub timely_stays : (told : PutAnswer) (p q : Pass) → IsQuiet b p → SetsIfTimely b plan told p q → StaysCleared b.shape p q
  timely_stays told p q quiet (inl late) = stays_same b.shape p q late.2
  timely_stays told p q quiet (inr made) = sets_stay told p q quiet made

-- ---- a member

-- goes on with the segments that it had
pub member_goes : (i : Index) (old : Member) (q : Pass) → IsMember i old → GoesOn (board_of i) old.pass q → StaysCleared (shape_of i) old.pass q
    → IsQuiet (board_of i) q × IsOwnRing (shape_of i) (number q) old.segments.ring × IsCleared (shape_of i) old.segments.source q
member_goes i old q member on stays = (
  on.quiet,
  subst (λ n. IsOwnRing (shape_of i) n old.segments.ring) (sym on.same) member.1,
  stays old.segments.source member.2,
)

-- the pass went on, and what is cleared of a segment stays so
abbrev pub Goes : Board → Pass → Pass → Type 0
Goes b p q = GoesOn b p q × StaysCleared b.shape p q

goes_unmoved : (b : Board) (p q : Pass) → IsQuiet b p → q ≡ p → Goes b p q
goes_unmoved b p q quiet same = (subst (GoesOn b p) (sym same) (goes_same b p quiet), stays_same b.shape p q same)

read_kept : (b : Board) (row : HeldRow) (told : Option (List ℕ)) (p q : Pass) → IsQuiet b p → IsSomeAnd told (λ value. ReadsRow b row value p q) → Goes b p q
read_kept b row None p q quiet none = absurd none
read_kept b row (Some value) p q quiet reads = (reads.on, nothing_stays b p q quiet reads.on reads.keeps.entries)

pub kept_read : (b : Board) (p q : Pass) → IsQuiet b p → (held : Option HeldRow) (told : Option (List ℕ)) → ReadsKept b held told p q → Goes b p q
kept_read b p q quiet None told reads = goes_unmoved b p q quiet reads.1
kept_read b p q quiet (Some row) told reads = read_kept b row told p q quiet reads

pub kept_ended : (b : Board) (p q : Pass) → IsQuiet b p → (held : Option HeldRow) → ReleasesKept b held p q → Goes b p q
kept_ended b p q quiet None same = goes_unmoved b p q quiet same
kept_ended b p q quiet (Some row) ends = (ends.on, nothing_stays b p q quiet ends.on ends.releases.entries)

pub member_kept : (i : Index) (old : Member) (q : Pass) → IsMember i old → Goes (board_of i) old.pass q
    → IsQuiet (board_of i) q × IsOwnRing (shape_of i) (number q) old.segments.ring × IsCleared (shape_of i) old.segments.source q
member_kept i old q member goes = member_goes i old q member goes.0 goes.1
