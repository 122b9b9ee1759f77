-- What the steps of a pass find and do, in the words of their callers.
use Rattle.std.specs.Prelude.{◌≡◌, ◌≢◌, ℕ, ◌+◌, ◌*◌, ◌/◌, ◌%◌, ◌^◌, ◌<◌, ◌≤◌, ◌==◌, Bool, true, false, if◌then◌else◌, List, [], ◌∷◌, None, Some}
use prog.Atomic.{either}
use Rattle.segword.specs.Words.{chain_word, Info, IsSameItem, IsWithin, Item, item_word, tag_part}
use Rattle.segcore.specs.declared.cell.Cell.TheVariants.{OfCounter}
use Rattle.segcore.specs.declared.event.Event.TheVariants.{Took, Bounced, Glanced, Linked, Relinked, Unlinked}
use Rattle.segcore.specs.Words.{bucket_after, bump, chain, clear, Content, copy, draw, drawn_in, Leaving}
use Rattle.segcore.specs.Words.{Event, fill, glance, HasBit, is, IsItemAt, IsWordOf, item, link}
use Rattle.segcore.specs.Words.{look, May, next, none_reading, nothing, relink, Slot, Step, take, unless_own, word}
use Rattle.segcore.specs.Lawful as lawful
use Rattle.segmodel.specs.Words.{bucket_of, key_of, Request, value_of}
use Rattle.segbase.specs.declared.place.Place.{Place}
use Rattle.segbase.specs.declared.pass.Pass.{Pass}
use Rattle.segbase.specs.declared.board.Board.{Board}
use Rattle.segbase.specs.Passes.{number, trace, AddsAtOnce, Stepped}
use Rattle.segbase.specs.PlainPart.{deadline_of, with_deadline}
use Rattle.segbase.specs.Spots.{cell_at, home_bucket, home_bucket_of, position}

-- ---- any step

-- The pass may take the step, by what it has seen.
-- What a link stores is no longer than the table's limits allow.
abbrev pub MayTake : Board → Pass → Step → Type 0
MayTake b p (link request segment row position of old) =
    May b.shape (trace p) (number p) (link request segment row position of old)
    × IsWithin b.limits (key_of request) (value_of request)
MayTake b p step = May b.shape (trace p) (number p) step

-- the pass took the step, which found some word
abbrev pub TakesStep : Board → Step → Pass → Pass → Type 0
TakesStep b step p q = (found : ℕ) × Stepped b step found p q

-- by a step the pass added this one event, which has the pass's number
abbrev pub AddsOne : Board → (ℕ → Event) → Pass → Pass → Type 0
AddsOne b event p q = AddsAtOnce b (event (number p) ∷ []) p q

-- Whether no reader was counted in an own segment, which the pass knew to have some deadline.
-- If none was, the pass knows that the segment has this one now.
pub record AsksReaders (b : Board) (segment deadline : ℕ) (none : Bool) (p q : Pass) : Type 0 where
  pub old : ℕ
  pub found : ℕ
  pub now : Pass
  pub knew : deadline_of p segment ≡ Some old
  pub step : Stepped b (none_reading segment old deadline) found p now
  pub told : none ≡ (found == old * 2 ^ 32)
  pub keeps : q ≡ (if none then record now { plain = with_deadline segment deadline now.plain } else now)

-- what an exchange makes of a word
abbrev pub exchanging : ℕ → ℕ → ℕ → ℕ
exchanging old new word = either (word == old) new word

-- ---- the writer bit and the version

-- whether the pass has the bit of a bucket
abbrev pub has_bit : Board → Pass → ℕ → Bool
has_bit b p bucket = is (bucket_after b.shape (trace p) bucket).holder (number p)

-- A take that returned true gave the pass the bit,
-- under which nothing was written and no bucket is drawn yet.
-- A take that returned false added nothing but that it bounced,
-- and not even that if the bit is the pass's own.
abbrev pub Takes : Board → ℕ → Bool → Pass → Pass → Type 0
Takes b bucket true p q =
    AddsAtOnce b (Took (number p) bucket ∷ []) p q
    × HasBit b.shape (trace q) (number q) bucket
    × ((bucket_after b.shape (trace q) bucket).written ≡ false)
    × ((bucket_after b.shape (trace q) bucket).spare ≡ None)
Takes b bucket false p q =
    AddsAtOnce b (unless_own (has_bit b p bucket) (Bounced (number p) bucket)) p q

-- A glance found the bit clear, and nobody has it.
-- Or it found the bit set, which is an event unless the bit is the pass's own.
abbrev pub Glances : Board → ℕ → Info → Pass → Pass → Type 0
Glances b bucket info p q =
    (info.held ≡ false
    → AddsAtOnce b [] p q × ((bucket_after b.shape (trace q) bucket).holder ≡ None))
    × (info.held ≡ true
    → AddsAtOnce b (unless_own (has_bit b p bucket) (Glanced (number p) bucket)) p q)

-- the version that the information word has
abbrev pub version_in : Board → Pass → ℕ → ℕ
version_in b p bucket =
    (b.shape.first_version + (bucket_after b.shape (trace p) bucket).version) % 2 ^ 32

-- a take and a glance tell whether the pass has the bit
abbrev pub taking : Board → Pass → ℕ → Step
taking b p bucket = take bucket (has_bit b p bucket)

abbrev pub glancing : Board → Pass → ℕ → Step
glancing b p bucket = glance bucket (has_bit b p bucket)

-- ---- places

-- the bucket whose chain the place is in, and where it is along the chain
abbrev pub home_at : Board → Place → Pass → ℕ
home_at b place p = home_bucket b.shape (trace p) place

abbrev pub position_at : Board → Place → Pass → ℕ
position_at b place p = position b.shape (trace p) place

-- the place is one of an item word of that chain
abbrev pub IsItemPlace : Board → Pass → Place → Type 0
IsItemPlace b p place =
    IsItemAt b.shape (trace p) (home_at b place p) (position_at b place p) (cell_at b.shape place)

-- the word that stands there, and what the chain of a key has there
abbrev pub word_at : Board → Place → Pass → ℕ
word_at b place p = word b.shape (trace p) (cell_at b.shape place)

abbrev pub content_for : Board → List ℕ → Place → Pass → Content
content_for b key place p =
    (bucket_after b.shape (trace p) (bucket_of b.shape key)).items (position_at b place p)

-- how the word at a position of a chain reads
abbrev pub IsWordOfContent : Content → ℕ → Type 0
IsWordOfContent nothing word = word ≡ 0
IsWordOfContent (item named) word = IsWordOf named word × (1 ≤ tag_part word)
IsWordOfContent (next number) word = word ≡ chain_word number
IsWordOfContent (copy other) word = ⊥

-- the word reads so, whatever position of whatever chain the place is
abbrev pub IsWordAt : Board → Place → ℕ → Pass → Type 0
IsWordAt b place word p = (bucket at : ℕ)
    → IsItemAt b.shape (trace p) bucket at (cell_at b.shape place)
    → IsWordOfContent ((bucket_after b.shape (trace p) bucket).items at) word

-- An exchange that failed changed no word and added nothing.
-- Another word stands there than was expected.
-- If the expected one was an earlier word of the item that the pass last knew there,
-- it is that item, with a higher frequency.
pub record Missed (b : Board) (place : Place) (old found : ℕ) (p q : Pass) : Type 0 where
  pub did : AddsAtOnce b [] p q
  pub other : found ≢ old
  pub is : found ≡ word_at b place q
  pub higher : IsSameItem old (word_at b place p)
      → old ≤ word_at b place p
      → IsSameItem old found × (old < found)

-- the word of the place, in the key's chain, is empty
abbrev pub IsFree : Board → List ℕ → Place → Pass → Type 0
IsFree b key place p = content_for b key place p ≡ nothing

-- the word of the place, in the key's chain, has an item of the key
abbrev pub HasItemOf : Board → List ℕ → Place → Pass → Type 0
HasItemOf b key place p = lawful.HasItemOf b.shape (trace p) key (position_at b place p)

-- the frequency that an item word has
abbrev pub freq_part : ℕ → ℕ
freq_part word = word / 2 ^ 44 % 2 ^ 8

-- ---- steps at a place

abbrev pub looking : Board → Place → Step
looking b place = look (cell_at b.shape place)

-- the request's item comes in, for the old word
abbrev pub linking : Board → Pass → Place → Request → Item → ℕ → Step
linking b p place request new old =
    link request new.seg new.row (position_at b place p) (cell_at b.shape place) old

abbrev pub AddsLink : Board → Place → Request → Item → Pass → Pass → Type 0
AddsLink b place request new p q =
    AddsOne b (λ n. Linked n request new.seg new.row (position_at b place p)) p q

-- the item of a key, which names this row, comes to name another one,
-- with the frequency that it has
abbrev pub relinking : Board → Pass → Place → Slot → Item → Step
relinking b p place named new =
    relink named.key named.segment named.row new.freq new.seg new.row (position_at b place p)
    (cell_at b.shape place)

abbrev pub AddsRelink : Board → Place → Slot → Item → Pass → Pass → Type 0
AddsRelink b place named new p q =
    AddsOne b
    (λ n. Relinked n named.key named.segment named.row new.seg new.row (position_at b place p)) p q

-- the item of a key leaves, by a delete or by the eviction of a segment
abbrev pub unlinking : Board → Pass → Place → List ℕ × Leaving → ℕ → Step
unlinking b p place left old =
    clear left.0 (position_at b place p) (cell_at b.shape place) old left.1

abbrev pub AddsUnlink : Board → Place → List ℕ × Leaving → Pass → Pass → Type 0
AddsUnlink b place left p q = AddsOne b (λ n. Unlinked n left.0 (position_at b place p) left.1) p q

-- the frequency of the old item is raised to this one
abbrev pub bumping : Board → Pass → Place → Item → ℕ → Step
bumping b p place old raised =
    bump (home_at b place p) (position_at b place p)
    (cell_at b.shape place) old.tag old.seg old.row old.freq raised

-- the chain leads on to the overflow bucket
abbrev pub chaining : Board → Pass → Place → ℕ → ℕ → Step
chaining b p place old overflow = chain (home_at b place p) (cell_at b.shape place) old overflow

-- ---- overflow buckets

-- the depth in its chain of the next overflow bucket of a bucket
abbrev pub depth_to_draw : Board → ℕ → Pass → ℕ
depth_to_draw b bucket p = (bucket_after b.shape (trace p) bucket).chained + 1

-- that bucket is drawn, if this number of them was drawn before
abbrev pub drawing : Board → Pass → ℕ → ℕ → Step
drawing b p bucket from = draw bucket (depth_to_draw b bucket p) from

-- the item's word comes into word 1 of an overflow bucket that was drawn
abbrev pub copying : Pass → ℕ → Item → Step
copying p overflow moved = fill (home_bucket_of (trace p) overflow) overflow (item_word moved)

-- a look at how many are drawn
abbrev pub counting : Step
counting = look OfCounter

-- a draw that failed drew nothing: others drew the bucket of this number,
-- and the counter is over it
pub record CounterMissed (b : Board) (from counter : ℕ) (p q : Pass) : Type 0 where
  pub did : AddsAtOnce b [] p q
  pub is : counter ≡ drawn_in (trace q)
  pub over : from < counter
  pub few : counter ≤ b.shape.overflow
