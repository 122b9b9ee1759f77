-- Room for a key under its bucket's bit: what is ready for the key's item, by the word that was found or by one of a chain that grew.
use Rattle.std.proofs.Common.{◌≡◌, ◌≢◌, ◌⊎◌, ℕ, ◌+◌, List, [], ◌∷◌, ◌++◌, Option, Some, None, refl, sym, ap, ◌∙◌, subst, inl, inr, append-nil}
use Rattle.std.proofs.lemmas.Bool.{ne_eqb}
use Rattle.std.proofs.lemmas.Option.{none-some, same_Some}
use Rattle.segword.specs.Words.{Shape}
use Rattle.segmodel.specs.Words.{after, bucket_of, Entry, IsSameAt, standing}
use Rattle.segcore.specs.declared.event.Event.TheVariants.{Drew, Put}
use Rattle.segcore.specs.Event as event
use Rattle.segcore.specs.Words.{Bucket, count, drew, Event, HasBit, HasNoEmptyWord, last, NoneAt}
use Rattle.segbase.specs.Words.{AddsEvents, Board, IsPassOf, number, Pass, Place, seen, trace}
use Rattle.segbase.proofs.Moves.{moved_on, moved_then}
use Rattle.segstore.specs.Words.{HasCleanBit, Idles, memo, TakesAtMost}
use Rattle.segwrite.specs.Steps.{most_steps_of_draw, most_steps_of_growth, most_steps_of_room}
use Rattle.segstore.proofs.Keeping.{AreCalm}
use Rattle.segwrite.specs.declared.find.Found.{Found}
use Rattle.segwrite.specs.declared.find.Found.TheVariants.{Word, Full}
use Rattle.segwrite.specs.Words.{Target}
use Rattle.segwrite.specs.Full.{DrewInNeed}
use Rattle.segwrite.specs.Writing.{IsTarget, HasFullChain, Finds}
use Rattle.segwrite.specs.Growing.{bucket_seen, IsLast, Searches, target_of, puts, lengthens, CannotGrow, Lengthens, IsAsFound, MakesRoom}
use Rattle.segwrite.proofs.Lengthening.{in_need_wider, longer_own, longer_other}
use Rattle.segwrite.proofs.Places.{same_position, chain_later}
use Rattle.segwrite.proofs.Rising.{earlier_yet, word_rose}
use Rattle.segstore.proofs.Still.{AreStill}
use Rattle.segstore.proofs.TakenBits.{AreNoTries}
use Rattle.segwrite.proofs.Storing.{target_later, clean_later}
use Rattle.segstore.proofs.UnderBit.{moved_bucket, moved_at}

-- ---- what a search came to is so after more looks

last_still : (b : Board) (own : List Event) (bucket : ℕ) (place : Place) (word : ℕ) (p q : Pass) → IsPassOf b p
    → HasBit b.shape (trace p) (number p) bucket → AddsEvents b own p q → NoneAt b.shape bucket own
    → IsLast b bucket place word p → IsLast b bucket place word q
last_still b own bucket place word p q is bit m none l =
    let same = moved_bucket b own p q bucket m bit none in
    let end : last (bucket_seen b bucket q) ≡ last (bucket_seen b bucket p) = ap (λ (u : Bucket). last u) same in
    let rose = word_rose b own p q bucket place m bit none l.chain l.named is.valid is.lawful (ap (bucket_seen b bucket p).items l.ends ∙ l.here) in record {
      chain = chain_later b own p q bucket place m l.chain;
      ends = same_position b own p q bucket place m l.chain ∙ (l.ends ∙ sym end);
      named = l.named;
      here = ap (λ (u : Bucket). u.items (last u)) same ∙ l.here;
      is = l.is;
      earlier = earlier_yet word _ _ l.earlier.0 l.earlier.1 rose;
    }

-- the pass may have done something, none of it in the bucket
pub searches_still : (b : Board) (own : List Event) (key : List ℕ) (found : Found) (p q : Pass) → IsPassOf b p
    → HasBit b.shape (trace p) (number p) (bucket_of b.shape key) → AddsEvents b own p q
    → NoneAt b.shape (bucket_of b.shape key) own
    → Searches b key found p → Searches b key found q
searches_still b own key (Word target) p q is bit m none found = target_later b own p q key m is bit none target found
searches_still b own key (Full end) p q is bit m none found =
    let same = moved_bucket b own p q (bucket_of b.shape key) m bit none in (
      record { absent = (moved_at b own p q key m bit none).stands ∙ found.0.absent; taken = subst HasNoEmptyWord (sym same) found.0.taken },
      record {
        last = last_still b own (bucket_of b.shape key) end.place end.word p q is bit m none found.1.last;
        buckets = found.1.buckets ∙ ap (λ (u : Bucket). u.chained + 1) (sym same);
      },
    )

pub finds_of : (b : Board) (key : List ℕ) (found : Found) (p : Pass) → Searches b key found p → Finds b key (target_of found) p
finds_of b key (Word target) p found = found
finds_of b key (Full end) p found = found.0

pub as_found : (b : Board) (key : List ℕ) (found : Found) (p : Pass) → Searches b key found p → IsAsFound b (bucket_of b.shape key) found p
as_found b key (Word target) p found = tt
as_found b key (Full end) p found = (found.0.taken, found.1)

-- ---- what growing adds

puts_all : (P : List Event → Type 0) (p b : ℕ) (words : List ℕ) (rest : List Event) → P rest → ((own : List Event) (w : ℕ) → P own → P (Put p b w ∷ own)) → P (puts p b words ++ rest)
unfolding puts
puts_all P p b [] rest first more = first
puts_all P p b (w ∷ words) rest first more = more (puts p b words ++ rest) w (puts_all P p b words rest first more)

-- under the bit the pass did this, which adds no entry, and it still has a clean bit
pub record IsReady (b : Board) (bucket : ℕ) (own : List Event) (p q : Pass) : Type 0 where
  pub moved : AddsEvents b own p q
  pub plain : q.plain ≡ p.plain
  pub memo : memo q ≡ memo p
  pub clean : HasCleanBit b q bucket
  pub elsewhere : (other : ℕ) → bucket ≢ other → NoneAt b.shape other own
  pub still : AreStill own
  pub calm : AreCalm own
  pub untried : AreNoTries own
  pub silent : (h : List Event) → event.seen (own ++ h) ≡ event.seen h

pub ready_idle : (b : Board) (bucket : ℕ) (p q : Pass) → Idles b p q → HasCleanBit b q bucket → IsReady b bucket [] p q
ready_idle b bucket p q i clean = record { moved = i.moved; plain = i.plain; memo = i.memo; clean = clean; elsewhere = λ other apart. tt; still = tt; calm = tt; untried = tt; silent = λ h. refl }

pub ready_longer : (b : Board) (bucket : ℕ) (target : Target) (p q r : Pass) → Idles b p q
    → (l : Lengthens b bucket target q r) → IsReady b bucket
    (lengthens (number q) bucket l.depth l.overflow l.words) p r
ready_longer b bucket target p q r i l =
    let n = number q in let draws : List Event = Drew n bucket l.depth l.overflow ∷ [] in let own = lengthens n bucket l.depth l.overflow l.words in record {
      moved = subst (λ es. AddsEvents b es p r) (append-nil own) (moved_then b [] own p q r i.moved l.prepares.moved);
      plain = l.prepares.plain ∙ i.plain;
      memo = l.prepares.memo ∙ i.memo;
      clean = l.clean;
      elsewhere = λ other apart. let off = ne_eqb bucket other apart in (off, puts_all (NoneAt b.shape other) n bucket l.words draws (off, tt) (λ es w none. (off, none)));
      still = (tt, puts_all AreStill n bucket l.words draws (tt, tt) (λ es w still. (tt, still)));
      calm = (tt, puts_all AreCalm n bucket l.words draws (tt, tt) (λ es w calm. (tt, calm)));
      untried = (tt, puts_all AreNoTries n bucket l.words draws (tt, tt) (λ es w none. (tt, none)));
      silent = λ h. puts_all (λ es. event.seen (es ++ h) ≡ event.seen h) n bucket l.words draws refl (λ es w same. same);
    }

-- ---- where room was made, and where not

-- Among these events of its own the pass drew one overflow bucket for the key's bucket where it needed one, the key being absent from what it had seen, or none; and for others none.
pub record DrawsOnce (z : Shape) (key : List ℕ) (pass : ℕ) (own : List Event) (was : List Entry) (before now : List Event) : Type 0 where
  pub others : (bucket : ℕ) (h : List Event) → bucket ≢ bucket_of z key → count (drew bucket) pass (own ++ h) ≡ count (drew bucket) pass h
  pub at_most : ((h : List Event) → count (drew (bucket_of z key)) pass (own ++ h) ≡ count (drew (bucket_of z key)) pass h)
      ⊎ (((h : List Event) → count (drew (bucket_of z key)) pass (own ++ h) ≡ count (drew (bucket_of z key)) pass h + 1) × (standing (after z was) key ≡ None) × DrewInNeed z key pass before now)

pub record HasRoom (b : Board) (key : List ℕ) (target : Target) (p q r : Pass) : Type 0 where
  pub own : List Event
  pub ready : IsReady b (bucket_of b.shape key) own p r
  pub same : IsSameAt b.shape (after b.shape (seen q)) (after b.shape (seen r)) key
  pub target_is : IsTarget b key target r
  pub draws : DrawsOnce b.shape key (number q) own (seen q) (trace p) (trace r)

module _ (b : Board) (key : List ℕ) (p q r : Pass) (i : Idles b p q) (is : IsPassOf b q) (clean : HasCleanBit b q (bucket_of b.shape key)) where
  abbrev k : ℕ
  k = bucket_of b.shape key

  pub has_room : (found : Found) (room : Option Target) (target : Target) → room ≡ Some target → Searches b key found q → MakesRoom b k found room q r → HasRoom b key target p q r
  has_room (Word word) room target given found makes =
      let idle : Idles b p r = record { moved = moved_then b [] [] p q r i.moved makes.1.moved; plain = makes.1.plain ∙ i.plain; memo = makes.1.memo ∙ i.memo } in record {
        own = [];
        ready = ready_idle b k p r idle (clean_later b [] q r key makes.1.moved is clean.bit tt clean);
        same = moved_at b [] q r key makes.1.moved clean.bit tt;
        target_is = target_later b [] q r key makes.1.moved is clean.bit tt target (subst (λ t. IsTarget b key t q) (same_Some word target (sym makes.0 ∙ given)) found);
        draws = record { others = λ bucket h apart. refl; at_most = inl (λ h. refl) };
      }
  has_room (Full end) room target given found makes = longer (subst (λ o. MakesRoom b k (Full end) o q r) given makes)
    where
      longer : Lengthens b k target q r → HasRoom b key target p q r
      longer l = record {
        own = lengthens (number q) k l.depth l.overflow l.words;
        ready = ready_longer b k target p q r i l;
        same = l.prepares.keys key refl;
        target_is = l.free key refl found.0.absent;
        draws = record {
          others = λ bucket h apart. longer_other (number q) k l.depth l.overflow bucket l.words h apart;
          at_most = inr (
            λ h. longer_own (number q) k l.depth l.overflow l.words h,
            found.0.absent,
            in_need_wider b.shape key (number q) (trace q) (trace r) (trace p) (trace r) (moved_on b [] p q i.moved) ([], refl) (l.could key refl found.0.absent),
          );
        };
      }

  pub no_room : (found : Found) (room : Option Target) → room ≡ None → Searches b key found q → MakesRoom b k found room q r → Idles b q r × CannotGrow b k r × HasFullChain b key r
  no_room (Word word) room none found makes = absurd (none-some word (sym none ∙ makes.0))
  no_room (Full end) room none found makes = full (subst (λ o. MakesRoom b k (Full end) o q r) none makes)
    where
      full : Idles b q r × CannotGrow b k r → Idles b q r × CannotGrow b k r × HasFullChain b key r
      full m = (m.0, m.1, (searches_still b [] key (Full end) q r is clean.bit m.0.moved tt found).0)

  -- how many steps the room took: none, or those of a chain that grew in need
  pub room_steps : (found : Found) (room : Option Target) (target : Target) → room ≡ Some target
      → Searches b key found q → MakesRoom b k found room q r
      → TakesAtMost (most_steps_of_room b.shape found room) q r
      → TakesAtMost 0 q r ⊎ (TakesAtMost (most_steps_of_growth b.shape) q r × DrewInNeed b.shape key (number q) (trace q) (trace r))
  room_steps (Word word) room target given found makes steps = inl steps
  room_steps (Full end) room target given found makes steps = inr (
    subst (λ o. TakesAtMost (most_steps_of_room b.shape (Full end) o) q r) given steps,
    needed (subst (λ o. MakesRoom b k (Full end) o q r) given makes),
  )
    where
      needed : Lengthens b k target q r → DrewInNeed b.shape key (number q) (trace q) (trace r)
      needed l = l.could key refl found.0.absent

  pub unroomed_steps : (found : Found) (room : Option Target) → room ≡ None → MakesRoom b k found room q r
      → TakesAtMost (most_steps_of_room b.shape found room) q r → TakesAtMost (most_steps_of_draw b.shape) q r
  unroomed_steps (Word word) room none makes steps = absurd (none-some word (sym none ∙ makes.0))
  unroomed_steps (Full end) room none makes steps = subst (λ o. TakesAtMost (most_steps_of_room b.shape (Full end) o) q r) none steps
