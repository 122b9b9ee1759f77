-- How a chain grows under its bucket's bit.
-- An overflow bucket is drawn, and the item of the chain's last word is copied to word 1 of it.
-- Then that last word leads on to the overflow bucket.
use Rattle.std.specs.Prelude.{◌≡◌, ℕ, ◌+◌, ◌*◌, ◌<◌, ◌⊎◌, List, [], ◌∷◌, ◌++◌, map, false, Option, Some, None, Result, Ok, Err}
use Rattle.segword.specs.Words.{IsSameItem}
use Rattle.segmodel.specs.Words.{after, bucket_of, IsSameAt}
use Rattle.segcore.specs.declared.event.Event.TheVariants.{Drew, Put, Chained}
use Rattle.segcore.specs.Words.{Bucket, bucket_after, drawn_in, Event, HasBit, HasNoEmptyWord, home}
use Rattle.segcore.specs.Words.{home_of, IsWordOf, item, last, nothing, Slot}
use Rattle.segbase.specs.Words.{AddsAtOnce, AddsEvents, Board, depth_to_draw, number, Pass, Place}
use Rattle.segbase.specs.Words.{position_at, seen, trace}
use Rattle.segstore.specs.Words.{HasCleanBit, Idles, memo}
use Rattle.segwrite.specs.declared.find.ChainEnd.{ChainEnd}
use Rattle.segwrite.specs.declared.find.Target.{Target}
use Rattle.segwrite.specs.declared.find.Found.{Found}
use Rattle.segwrite.specs.declared.find.Found.TheVariants.{Word, Full}
use Rattle.segwrite.specs.Full.{DrewInNeed}
use Rattle.segwrite.specs.FirstEmpty.{AreTakenBefore}
use Rattle.segwrite.specs.Writing.{IsInChain, IsEarlier, IsNewKey, IsTarget, HasFullChain}

-- ---- the end of a chain

-- a bucket and its chain, as the pass has seen them
abbrev pub bucket_seen : Board → ℕ → Pass → Bucket
bucket_seen b bucket p = bucket_after b.shape (trace p) bucket

-- The place is that of the last word of the bucket's chain, and an item stands there.
-- The word is one that this item had: its frequency may have risen since.
pub record IsLast (b : Board) (bucket : ℕ) (place : Place) (word : ℕ) (p : Pass) : Type 0 where
  pub chain : IsInChain b bucket place p
  pub ends : position_at b place p ≡ last (bucket_seen b bucket p)
  pub named : Slot
  pub here : (bucket_seen b bucket p).items (last (bucket_seen b bucket p)) ≡ item named
  pub is : IsWordOf named word
  pub earlier : IsEarlier b place word p

-- the end of a chain as a search finds it, with the number of the chain's buckets
pub record IsChainEnd (b : Board) (bucket : ℕ) (end : ChainEnd) (p : Pass) : Type 0 where
  pub last : IsLast b bucket end.place end.word p
  pub buckets : end.buckets ≡ (bucket_seen b bucket p).chained + 1

-- what a search finds: a word for the key; or the end of the chain,
-- if the key doesn't stand and no word is empty
abbrev pub Searches : Board → List ℕ → Found → Pass → Type 0
Searches b key (Word target) p = IsTarget b key target p
Searches b key (Full end) p = HasFullChain b key p × IsChainEnd b (bucket_of b.shape key) end p

abbrev pub target_of : Found → Option Target
target_of (Word target) = Some target
target_of (Full end) = None

abbrev pub or_end : ChainEnd → Option Target → Found
or_end end None = Full end
or_end end (Some target) = Word target

-- ---- drawing

-- the first overflow bucket that nobody had drawn is drawn; or all are drawn already
abbrev pub DrawsSpare : Board → ℕ → Option ℕ → Pass → Pass → Type 0
DrawsSpare b bucket None p q = Idles b p q × (drawn_in (trace q) ≡ b.shape.overflow)
DrawsSpare b bucket (Some overflow) p q =
    AddsAtOnce b (Drew (number p) bucket (depth_to_draw b bucket p) overflow ∷ []) p q
    × (q.plain ≡ p.plain)
    × (memo q ≡ memo p)

-- The pass has the bit, and nothing was written under it.
-- This overflow bucket waits to join the chain, which has no empty word.
pub record HasSpare (b : Board) (bucket overflow : ℕ) (p : Pass) : Type 0 where
  pub bit : HasBit b.shape (trace p) (number p) bucket
  pub unwritten : (bucket_seen b bucket p).written ≡ false
  pub spare : (bucket_seen b bucket p).spare ≡ Some overflow
  pub full : HasNoEmptyWord (bucket_seen b bucket p)

-- ---- joining

-- These events are all that the pass added.
-- The keys of the bucket stand as they stood, and its version is the same.
pub record Prepares (b : Board) (own : List Event) (bucket : ℕ) (p q : Pass) : Type 0 where
  pub moved : AddsEvents b own p q
  pub plain : q.plain ≡ p.plain
  pub memo : memo q ≡ memo p
  pub keys : (key : List ℕ)
      → bucket_of b.shape key ≡ bucket
      → IsSameAt b.shape (after b.shape (seen p)) (after b.shape (seen q)) key

-- the overflow bucket is the last of the chain, and its word 2 is the first one that is empty
pub record HasJoined (b : Board) (bucket overflow : ℕ) (p : Pass) : Type 0 where
  pub clean : HasCleanBit b p bucket
  pub home : home_of (trace p) overflow ≡ Some (home bucket (bucket_seen b bucket p).chained)
  pub empty : (bucket_seen b bucket p).items (8 * (bucket_seen b bucket p).chained + 2) ≡ nothing
  pub before : AreTakenBefore (bucket_seen b bucket p) (8 * (bucket_seen b bucket p).chained + 2)

-- word 1 of the overflow bucket was stored once for each of these words, with that word
unfoldable pub puts : ℕ → ℕ → List ℕ → List Event
puts pass bucket words = map (Put pass bucket) words

-- after the last of them the overflow bucket joined the chain
abbrev pub joins : ℕ → ℕ → ℕ → List ℕ → List Event
joins pass bucket overflow words = Chained pass bucket overflow ∷ puts pass bucket words

-- one try: the overflow bucket joined;
-- or the frequency of the last word's item is higher than that of the copied word
abbrev pub TriesToJoin : Board → ℕ → ℕ → Place → ℕ → Result (Unit {0}) ℕ → Pass → Pass → Type 0
TriesToJoin b bucket overflow place word (Ok done) p q =
    Prepares b (joins (number p) bucket overflow (word ∷ [])) bucket p q
    × HasJoined b bucket overflow q
TriesToJoin b bucket overflow place word (Err found) p q =
    Prepares b (puts (number p) bucket (word ∷ [])) bucket p q
    × HasSpare b bucket overflow q
    × IsLast b bucket place found q
    × IsSameItem word found
    × (word < found)

abbrev pub Joins : Board → ℕ → ℕ → Pass → Pass → Type 0
Joins b bucket overflow p q =
    (words : List ℕ)
    × Prepares b (joins (number p) bucket overflow words) bucket p q
    × HasJoined b bucket overflow q

-- ---- growing

-- the chain has four buckets, or no overflow bucket is left
abbrev pub CannotGrow : Board → ℕ → Pass → Type 0
CannotGrow b bucket p =
    ((bucket_seen b bucket p).chained ≡ 3) ⊎ (drawn_in (trace p) ≡ b.shape.overflow)

-- an overflow bucket was drawn, and joined the chain
abbrev pub lengthens : ℕ → ℕ → ℕ → ℕ → List ℕ → List Event
lengthens pass bucket depth overflow words =
    joins pass bucket overflow words ++ Drew pass bucket depth overflow ∷ []

-- An overflow bucket was drawn and joined the chain.
-- Word 2 of it is free for a key that doesn't stand, which had no word before.
pub record Lengthens (b : Board) (bucket : ℕ) (target : Target) (p q : Pass) : Type 0 where
  pub depth : ℕ
  pub overflow : ℕ
  pub words : List ℕ
  pub prepares : Prepares b (lengthens (number p) bucket depth overflow words) bucket p q
  pub clean : HasCleanBit b q bucket
  pub second : target.place ≡ record { bucket = b.shape.buckets + overflow; word = 2 }
  pub free : (key : List ℕ)
      → bucket_of b.shape key ≡ bucket
      → IsNewKey b key p
      → IsTarget b key target q
  pub could : (key : List ℕ)
      → bucket_of b.shape key ≡ bucket
      → IsNewKey b key p
      → DrewInNeed b.shape key (number p) (trace p) (trace q)

abbrev pub Grows : Board → ℕ → Option Target → Pass → Pass → Type 0
Grows b bucket None p q = Idles b p q × CannotGrow b bucket q
Grows b bucket (Some target) p q = Lengthens b bucket target p q

-- ---- room for a key

-- if a search found no empty word, none is empty, and the end of the chain is where it was
abbrev pub IsAsFound : Board → ℕ → Found → Pass → Type 0
IsAsFound b bucket (Word target) p = Unit {0}
IsAsFound b bucket (Full end) p =
    HasNoEmptyWord (bucket_seen b bucket p) × IsChainEnd b bucket end p

-- the word that a search found is the key's; or the chain grew, if it could
abbrev pub MakesRoom : Board → ℕ → Found → Option Target → Pass → Pass → Type 0
MakesRoom b bucket (Word target) room p q = (room ≡ Some target) × Idles b p q
MakesRoom b bucket (Full end) room p q = Grows b bucket room p q
