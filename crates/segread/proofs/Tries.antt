-- What a reader's looks at a word of the key's chain come to, and what its tries add up to.
use Rattle.std.proofs.Common.{◌≡◌, ◌≢◌, ℕ, ◌+◌, ◌/◌, ◌^◌, ◌<◌, ◌≤◌, true, List, [], refl, sym, ap, ◌∙◌, subst, arith}
use Rattle.segword.specs.Words.{IsSameItem, IsValid, Item, item_word, Shape}
use Rattle.segmodel.specs.Words.{Begins, bucket_of, entries_of, tag_of}
use Rattle.segcore.specs.Words.{bucket_after, enter, Event, inside, IsAt, IsLawful, KeyAt, May}
use Rattle.segcore.specs.Words.{Names, seen, was_used}
use Rattle.segcore.specs.Bucket as buckets
use Rattle.segcore.proofs.Quiet.{used_stays}
use Rattle.segcore.proofs.Moments.{begins_on}
use Rattle.segcore.proofs.Chains.{same_item}
use Rattle.segcore.proofs.Changed.{changed_word, entries_begin}
use Rattle.segcore.proofs.ChainWords.{other_tag}
use Rattle.segcore.proofs.Searches.{key_later, key_passed}
use Rattle.segbase.specs.Words.{AddsAtOnce, Board, cell_at, home_bucket, IsPassOf, number, Pass}
use Rattle.segbase.specs.Words.{Place, position, trace}
use Rattle.segbase.proofs.Standing.{tag_of_word}
use Rattle.segstore.proofs.Readers.{looks, enters, then_reader, leave_then}
use Rattle.segread.proofs.ComingIn.{looked, leaves, came_in, try_out}
use Rattle.segbase.proofs.Moves.{moved_on}
use Rattle.segstore.specs.Reading.{LeavesSegment, Enters}
use Rattle.segstore.specs.Words.{FoundItem, FoundKey, IsChained, IsKeyed, IsReader, MayEnterAny}
use Rattle.segstore.specs.Words.{OnlyLooks, SawItem, SawWord, segment_part, word_of_place}
use Rattle.segstore.specs.declared.read.Keyed.{Keyed}
use Rattle.segstore.specs.declared.read.Keyed.TheVariants.{Same, Other, Changed}
use Rattle.segstore.proofs.Words.{same_place, chained_later, names_in, stood_item, same_parts}
use Rattle.segstore.proofs.Seconds.{segment_of_item}
use Rattle.segstore.proofs.Used.{linked_used}
use Rattle.segread.specs.Scanning.{IsTrial, IsTry, IsPlaceOf, CountsTries, HasPassed, ReturnsDeadline, TriesItem}

-- ---- seen between wider moments

abbrev pub saw_wider : (z : Shape) (place : Place) (w : ℕ) (k v : List ℕ) (h g h' g' : List Event) → Begins h' h → Begins g g' → SawItem z place w k v h g → SawItem z place w k v h' g'
saw_wider z place w k v h g h' g' a c s = record { at = s.at; between = (begins_on h' h s.at a s.between.0, begins_on s.at g g' s.between.1 c); was = s.was }

abbrev pub found_from : (z : Shape) (place : Place) (w : ℕ) (k v : List ℕ) (h g h' : List Event) → Begins h' h → FoundItem z place w k v h g → FoundItem z place w k v h' g
found_from z place w k v h g h' a f = record {
  saw =
      record {
        at = f.saw.at;
        between = (begins_on h' h f.saw.at a f.saw.between.0, f.saw.between.1);
        was = f.saw.was;
      };
  kept = f.kept;
  still = f.still;
  alone = f.alone;
}

abbrev pub hit_from : (z : Shape) (place : Place) (item : Item) (header : ℕ) (k : List ℕ) (h g h' : List Event) → Begins h' h → FoundKey z place item header k h g → FoundKey z place item header k h' g
hit_from z place item header k h g h' a f = record { value = f.value; found = found_from z place (item_word item) k f.value h g h' a f.found; begins = f.begins }

abbrev pub word_wider : (z : Shape) (place : Place) (w : ℕ) (h g h' g' : List Event) → Begins h' h → Begins g g' → SawWord z place w h g → SawWord z place w h' g'
word_wider z place w h g h' g' a c s = record { at = s.at; between = (begins_on h' h s.at a s.between.0, begins_on s.at g g' s.between.1 c); lawful = s.lawful; stood = s.stood }

-- ---- one try

-- with p the pass before it, q in the segment, r after the second look, and t after it left
pub keyed_from : (z : Shape) (place : Place) (w : ℕ) (key : List ℕ) (k : Keyed) (h g h' : List Event) → Begins h' h → IsKeyed z place w key k h g → IsKeyed z place w key k h' g
keyed_from z place w key (Same item header) h g h' a x = (x.0, hit_from z place item header key h g h' a x.1)
keyed_from z place w key (Other same) h g h' a x = (x.0, (x.1.0, x.1.1, x.1.2, saw_wider z place (item_word same) x.1.0 x.1.1 h g h' g a ([], refl) x.1.3))
keyed_from z place w key (Changed other) h g h' a x = (word_wider z place other h g h' g a ([], refl) x.0, x.1)

pub keyed_left : (z : Shape) (place : Place) (w : ℕ) (key : List ℕ) (k : Keyed) (h g g' : List Event)
    → ((item : Item) (header : ℕ) → k ≢ Same item header) → Begins g g' → IsKeyed z place w key k h g
    → IsKeyed z place w key k h g'
keyed_left z place w key (Same item header) h g g' ne c x = absurd (ne item header refl)
keyed_left z place w key (Other same) h g g' ne c x = (x.0, (x.1.0, x.1.1, x.1.2, saw_wider z place (item_word same) x.1.0 x.1.1 h g h g' ([], refl) c x.1.3))
keyed_left z place w key (Changed other) h g g' ne c x = (word_wider z place other h g h g' ([], refl) c x.0, x.1)

-- a try at whose end the pass is in no segment
pub trial_out : (b : Board) (k : Keyed) (p q : Pass) → ((item : Item) (header : ℕ) → k ≢ Same item header) → IsReader b p q → IsTrial b k p q
trial_out b (Same item header) p q ne i = absurd (ne item header refl)
trial_out b (Other same) p q ne i = i
trial_out b (Changed other) p q ne i = i

pub no_deadline : (z : Shape) (k : Keyed) (deadline : ℕ) (h : List Event) → ((item : Item) (header : ℕ) → k ≢ Same item header) → ReturnsDeadline z k deadline h
no_deadline z (Same item header) deadline h ne = absurd (ne item header refl)
no_deadline z (Other same) deadline h ne = tt
no_deadline z (Changed other) deadline h ne = tt

-- of passes: p before the try, e in the segment, r after the second look, and l after it left
pub trial_gone : (b : Board) (place : Place) (item : Item) (key : List ℕ) (k : Keyed) (p e r l : Pass)
    → Enters b p e item.seg → OnlyLooks b e r → IsKeyed b.shape place (item_word item) key k (trace e) (trace r)
    → ((item : Item) (header : ℕ) → k ≢ Same item header) → LeavesSegment b r l item.seg → IsTry p l × IsReader b p l × IsKeyed b.shape place (item_word item) key k (trace p) (trace l)
trial_gone b place item key k p e r l comes look saw other gone =
    let in_r = then_reader b p e r item.seg (enters b p e item.seg comes) (looks b e r look) in (
      try_out p r l (try_out p e r (came_in b item.seg p e comes.did.moved) (looked b e r look.did.moved)) (leaves b item.seg r l gone.moved),
      leave_then b p r l item.seg in_r gone,
      keyed_left b.shape place (item_word item) key k (trace p) (trace r) (trace l) other (moved_on b _ r l gone.moved)
          (keyed_from b.shape place (item_word item) key k (trace e) (trace r) (trace p) (moved_on b _ p e comes.did.moved) saw),
    )

-- what a try came to
pub tried_as : (b : Board) (place : Place) (item : Item) (key : List ℕ) (p q : Pass) (k : Keyed) (deadline : ℕ)
    → TriesItem b place item key k deadline p q → (told : Keyed) → k ≡ told
    → TriesItem b place item key told deadline p q
tried_as b place item key p q k deadline tries told is = subst (λ o. TriesItem b place item key o deadline p q) is tries

-- ---- a word that wasn't the key's

-- at a moment, the word of a place of its chain
pub passed_at : (z : Shape) (key : List ℕ) (place : Place) (w : ℕ) (h g : List Event) → IsPlaceOf z h key place → (s : SawWord z place w h g) → ¬ (KeyAt z key s.at (position z h place))
    → HasPassed z key (position z h place) (position z h place + 1) place w h g
passed_at z key place w h g of s none = record {
  last = s;
  brings = λ start begins ahead. key_passed z key (position z h place) start s.at none (key_later z key (position z h place) start h s.at s.lawful begins s.between.0 ahead);
}

pub not_tagged : (z : Shape) (key : List ℕ) (place : Place) (w tag : ℕ) (h g : List Event) → IsValid z
    → IsPlaceOf z h key place → (s : SawWord z place w h g) → tag ≡ tag_of key → w / 2 ^ 52 ≢ tag
    → ¬ (KeyAt z key s.at (position z h place))
not_tagged z key place w tag h g v of s is ne =
    let e = same_place z h s.at place s.lawful s.between.0 of.0 in
    let c = chained_later z h s.at place s.lawful s.between.0 of.0 in
    subst (λ n. ¬ (KeyAt z key s.at n)) e.1
    (other_tag z key s.at (position z s.at place) (cell_at z place) v s.lawful
    (subst (λ b. IsAt s.at b (position z s.at place) (cell_at z place)) (e.0 ∙ of.1) c.at.1)
    (λ same. ne (ap (λ n. n / 2 ^ 52) (sym s.stood) ∙ (same ∙ sym is))))

pub of_other : (z : Shape) (key other value : List ℕ) (place : Place) (w : ℕ) (h g : List Event)
    → IsPlaceOf z h key place → other ≢ key → (s : SawItem z place w other value h g)
    → ¬ (KeyAt z key s.at (position z h place))
of_other z key other value place w h g of ne s i =
    let e = same_place z h s.at place s.was.lawful s.between.0 of.0 in
    let b : bucket_of z other ≡ bucket_of z key = s.was.here.0 ∙ (e.0 ∙ of.1) in
    let o = s.was.here.1 in
    let there : (bucket_after z s.at (bucket_of z key)).items (position z h place) ≡ buckets.item o.0 =
    subst (λ n. (bucket_after z s.at (bucket_of z key)).items n ≡ buckets.item o.0) e.1
    (subst (λ m. (bucket_after z s.at m).items (position z s.at place) ≡ buckets.item o.0) b o.1) in
    ne (sym o.2 ∙ (ap (λ a. a.key) (same_item o.0 i.0 (sym there ∙ i.1)) ∙ i.2))

abbrev pub item_word_seen : (z : Shape) (place : Place) (w : ℕ) (k v : List ℕ) (h g : List Event) → SawItem z place w k v h g → SawWord z place w h g
item_word_seen z place w k v h g s = record { at = s.at; between = s.between; lawful = s.was.lawful; stood = s.was.stood }

-- ---- tries

-- two words of a place that have different items: an entry of the bucket lies between
pub one_entry : (z : Shape) (place : Place) (w w' : ℕ) (h g : List Event) → IsValid z → IsLawful z h → IsLawful z g
    → Begins h g → IsChained z h place → word_of_place z h place ≡ w → word_of_place z g place ≡ w' → 1 ≤ w / 2 ^ 52
    → 1 ≤ w' / 2 ^ 52 → ¬ (IsSameItem w w')
    → entries_of z (home_bucket z h place) (seen h) + 1 ≤ entries_of z (home_bucket z h place) (seen g)
one_entry z place w w' h g v l k s c is is' t t' ne =
    let e = same_place z h g place k s c in
    let x = names_in z h place w v l c is t in
    let y = names_in z g place w' v k (chained_later z h g place k s c) is' t' in
    changed_word z h g (home_bucket z h place) (position z h place) (cell_at z place) x.tag x.segment x.row y.tag y.segment y.row v k s x.names
    (subst (λ b. Names z g b (position z h place) (cell_at z place) y.tag y.segment y.row) e.0 (subst (λ n. Names z g (home_bucket z g place) n (cell_at z place) y.tag y.segment y.row) e.1 y.names))
    (λ all. ne (same_parts w w' t (x.is_tag ∙ (all.0 ∙ sym y.is_tag)) (x.is_segment ∙ (all.1 ∙ sym y.is_segment)) (x.is_row ∙ (all.2 ∙ sym y.is_row))))

abbrev pub counts_none : (z : Shape) (key : List ℕ) (n : ℕ) (h g : List Event) → Begins h g → CountsTries z key n n h g
counts_none z key n h g s = let a = entries_begin z (bucket_of z key) h g s in omega arith

pub counts_later : (z : Shape) (key : List ℕ) (some more : ℕ) (h g f : List Event) → Begins g f → CountsTries z key some more h g → CountsTries z key some more h f
counts_later z key some more h g f s c = let a = entries_begin z (bucket_of z key) g f s in omega arith

pub counts_then : (z : Shape) (key : List ℕ) (some more most : ℕ) (h g f : List Event) → CountsTries z key some more h g → CountsTries z key more most g f → CountsTries z key some most h f
counts_then z key some more most h g f c d = omega arith

tag_of_item : (item : Item) → item_word item / 2 ^ 52 ≡ item.tag
tag_of_item item = tag_of_word item.tag item.freq item.seg item.row item.freq_in_range item.seg_in_range item.row_in_range

pub has_tag : (item : Item) → 1 ≤ item_word item / 2 ^ 52
has_tag item = subst (λ n. 1 ≤ n) (sym (tag_of_item item)) item.tag_above_zero

-- the tries at a word, up to g: the item was seen at some point, and each try before it found another
pub record Trying (z : Shape) (key : List ℕ) (place : Place) (tries : ℕ) (item : Item) (count : ℕ) (h g : List Event) : Type 0 where
  pub saw : SawWord z place (item_word item) h g
  pub tag : item.tag ≡ tag_of key
  pub counted : CountsTries z key tries count h saw.at

pub trying_first : (z : Shape) (key : List ℕ) (place : Place) (tries : ℕ) (item : Item) (w : ℕ) (h g : List Event)
    → SawWord z place w h g → item_word item ≡ w → item.tag ≡ tag_of key → Trying z key place tries item tries h g
trying_first z key place tries item w h g s is tag = record {
  saw = record { at = s.at; between = s.between; lawful = s.lawful; stood = s.stood ∙ sym is };
  tag = tag;
  counted = counts_none z key tries h s.at s.between.0;
}

pub trying_on : (z : Shape) (key : List ℕ) (place : Place) (tries : ℕ) (item : Item) (count : ℕ) (other : Item)
    (w : ℕ) (h g f : List Event) → IsValid z → IsPlaceOf z h key place → Begins h g
    → Trying z key place tries item count h g
    → SawWord z place w g f → ¬ (IsSameItem (item_word item) w) → item_word other ≡ w → other.tag ≡ tag_of key → Trying z key place tries other (count + 1) h f
trying_on z key place tries item count other w h g f v of up y s ne is tag =
    let old = y.saw.at in let now = s.at in
    let on = begins_on old g now y.saw.between.1 s.between.0 in
    let c = chained_later z h old place y.saw.lawful y.saw.between.0 of.0 in
    let more = one_entry z place (item_word item) w old now v y.saw.lawful s.lawful on c y.saw.stood s.stood (has_tag item) (subst (λ n. 1 ≤ n / 2 ^ 52) is (has_tag other)) ne in
    let home : home_bucket z old place ≡ bucket_of z key = (same_place z h old place y.saw.lawful y.saw.between.0 of.0).0 ∙ of.1 in
    let more' : entries_of z (bucket_of z key) (seen old) + 1 ≤ entries_of z (bucket_of z key) (seen now) = subst (λ b. entries_of z b (seen old) + 1 ≤ entries_of z b (seen now)) home more in
    let counted = y.counted in record {
      saw = record { at = now; between = (begins_on h g now up s.between.0, s.between.1); lawful = s.lawful; stood = s.stood ∙ sym is };
      tag = tag;
      counted = omega arith;
    }

pub tried : (z : Shape) (key : List ℕ) (place : Place) (tries : ℕ) (item : Item) (count : ℕ) (h g f : List Event)
    → Begins g f → Trying z key place tries item count h g → CountsTries z key tries count h f
tried z key place tries item count h g f up y = counts_later z key tries count h y.saw.at f (begins_on y.saw.at g f y.saw.between.1 up) y.counted

-- ---- what a visit passes

-- by a look, of which nothing came before
pub saw_here : (b : Board) (p q : Pass) (place : Place) (w : ℕ) → AddsAtOnce b [] p q → w ≡ word_of_place b.shape (trace q) place → SawWord b.shape place w (trace q) (trace q)
saw_here b p q place w d is = record { at = trace q; between = (([], refl), ([], refl)); lawful = d.moved.pass.lawful; stood = sym is }

pub passed_word : (z : Shape) (key : List ℕ) (place : Place) (w tag : ℕ) (h g f : List Event) → IsValid z
    → IsPlaceOf z h key place → Begins h g → SawWord z place w g f → tag ≡ tag_of key → w / 2 ^ 52 ≢ tag
    → HasPassed z key (position z h place) (position z h place + 1) place w h f
passed_word z key place w tag h g f v of up s is ne =
    let s' = word_wider z place w g f h f up ([], refl) s in passed_at z key place w h f of s' (not_tagged z key place w tag h f v of s' is ne)

pub passed_other : (z : Shape) (key other value : List ℕ) (place : Place) (w : ℕ) (h g f : List Event)
    → IsPlaceOf z h key place → Begins h g → other ≢ key → SawItem z place w other value g f
    → HasPassed z key (position z h place) (position z h place + 1) place w h f
passed_other z key other value place w h g f of up ne s =
    let s' = saw_wider z place w other value g f h f up ([], refl) s in passed_at z key place w h f of (item_word_seen z place w other value h f s') (of_other z key other value place w h f of ne s')

-- ---- entering

-- the pass may enter the segment of an item that was seen
pub may_enter : (b : Board) (p q : Pass) (place : Place) (item : Item) (h : List Event) → IsPassOf b q
    → MayEnterAny p → IsReader b p q → IsChained b.shape h place
    → SawWord b.shape place (item_word item) h (trace q)
    → May b.shape (trace q) (number q) (enter item.seg)
may_enter b p q place item h is outside reads c s =
    let z = b.shape in
    let w = stood_item z s.at place (item_word item) is.valid s.lawful (chained_later z h s.at place s.lawful s.between.0 c) s.stood (has_tag item) in
    let seg = segment_of_item item in
    let used : was_used (trace q) (segment_part (item_word item)) ≡ true =
    subst (λ g. was_used g (segment_part (item_word item)) ≡ true) (sym s.between.1.1)
    (used_stays s.between.1.0 s.at (segment_part (item_word item)) (linked_used s.at _ _ w.0 w.2.linked)) in
    let few : inside (trace q) (number q) item.seg < 2 =
    subst (λ n. inside (trace q) n item.seg < 2) (sym reads.reads.moved.same)
    (subst (λ n. n < 2) (sym (reads.reads.inside item.seg)) (outside item.seg)) in
    record { guarded = tt; follows = tt; suits = (is.one_of, rw seg w.2.in_segment.0, few, rw seg used) }
