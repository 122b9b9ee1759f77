-- What a hit raises: the frequency of the key's item, by one, at a moment at which the key stands and the draw counts.
use Rattle.std.proofs.Common.{◌≡◌, ℕ, ◌+◌, ◌<◌, ◌≤◌, Bool, true, false, cond, eqb, List, [], ◌∷◌, ◌++◌, Some, refl, sym, ap, ◌∙◌, subst, inl, inr, arith, ◌⊎◌}
use Rattle.std.proofs.lemmas.Bool.Decides.{eqb_tells}
use Rattle.std.proofs.lemmas.Bool.{cond-true, cond-false, eq-eqb, eqb-true, false≢true}
use Rattle.std.proofs.lemmas.Option.{none-some, same_Some}
use Rattle.segword.specs.Words.{IsValid, Item, item_word, Shape}
use Rattle.segmodel.specs.Words.{after, Begins, bucket_of, standing, tag_of}
use Rattle.segcore.specs.declared.event.Event.TheVariants.{Bumped}
use Rattle.segcore.specs.Words.{bucket_after, bump, cached, content_word, entered, Event}
use Rattle.segcore.specs.Words.{frequency_of, glanced, Holds, inside, last_at, marked, packed}
use Rattle.segcore.specs.Words.{NoneRefills, raised, row_after, seen, View, word}
use Rattle.segcore.specs.Bucket as buckets
use Rattle.segcore.proofs.Orderly.{frequency_marked}
use Rattle.segcore.proofs.Entered.{no_refill}
use Rattle.segcore.proofs.Exact.{content_at, one_value}
use Rattle.segcore.proofs.Moments.{begins_on}
use Rattle.segcore.proofs.Limits.{low_row, low_segment, low_frequency}
use Rattle.segcore.proofs.Searches.{key_placed, placed_key}
use Rattle.segcore.proofs.Standing.{coherent}
use Rattle.segpolicy.specs.Words.{draw_raises, frequency_after_hit}
use Rattle.segbase.specs.Words.{AddsAtOnce, AddsEvents, Board, cell_at, count, home_bucket}
use Rattle.segbase.specs.Words.{IsPassOf, number, Pass, Place, position, Stepped, trace}
use Rattle.segbase.proofs.Alone.{moved_alone}
use Rattle.segbase.proofs.Moves.{moved_count}
use Rattle.segbase.proofs.Standing.{tag_of_word}
use Rattle.segstore.specs.Words.{FoundItem, IsChained, RaisesNothing, row_part, segment_part}
use Rattle.segstore.specs.Words.{WasLinked}
use Rattle.segstore.proofs.Words.{chained_later, same_place, stood_item}
use Rattle.segstore.proofs.Seconds.{segment_of_item, row_of_item}
use Rattle.segread.specs.Hits.{HasFrequency, CountsHit, GlancesNothing, IsItemAtPosition, PassesHit, IsOvertaken, RaisesFrom}
use Rattle.segread.proofs.ItemRows.{AllLinked, at_item, first_linked, found_rows, item_stays, linked_since}
use Rattle.segread.proofs.Tries.{has_tag}

-- an item whose word stands at a place is its key's, and has the word's frequency
pub has_frequency : (z : Shape) (h : List Event) (place : Place) (item : Item) (key value : List ℕ) → IsValid z
    → WasLinked z place (item_word item) key value h → HasFrequency z key value item.seg item.row item.freq h
has_frequency z h place item key value v was =
    let b = home_bucket z h place in let n = position z h place in let slot = was.here.1.0 in
    let here = ap (λ m. (bucket_after z h m).items n) (sym was.here.0) ∙ was.here.1.1 in
    let stands = (coherent z h was.lawful).items b n slot here in
    let reads : item_word item ≡ packed (tag_of slot.key) (frequency_of h slot.segment slot.row) slot.segment
    slot.row = sym was.stood ∙ (content_at z h b n (cell_at z place) was.chained.at
    ∙ ap (content_word h) here) in
    let low = low_frequency z h slot.segment slot.row was.lawful in
    let low_s = low_segment z slot.segment v stands.within.0 in let low_r = low_row z slot.row v stands.within.1 in
    let f = item.freq_in_range in let s = item.seg_in_range in let r = item.row_in_range in
    let es : slot.segment ≡ item.seg = omega arith in
    let er : slot.row ≡ item.row = omega arith in
    let ef : frequency_of h slot.segment slot.row ≡ item.freq = omega arith in
    let is : Some (buckets.slot slot.key slot.segment slot.row) ≡ Some (buckets.slot key item.seg item.row) = λ i. Some (buckets.slot (was.here.1.2 i) (es i) (er i)) in record {
      stands = subst (λ s. standing (after z (seen h)) key ≡ Some (cached value s)) (sym (segment_of_item item)) was.stands;
      last = subst (λ k. last_at (marked h) k ≡ Some (buckets.slot key item.seg item.row)) was.here.1.2 (stands.last ∙ is);
      had = frequency_marked h item.seg item.row ∙ subst (λ m. frequency_of h m item.row ≡ item.freq) es (subst (λ m. frequency_of h slot.segment m ≡ item.freq) er ef);
    }

-- a frequency that the draw makes higher is one more
one_higher : (f draw : ℕ) (t : Bool) → f < cond t (f + 1) f → (t ≡ true) × (cond t (f + 1) f ≡ f + 1)
one_higher f draw true up = (refl, refl)
one_higher f draw false up = absurd (omega (arith, up))

-- with p the pass before the exchange that came about, and q after it; h is where its call began
module _ (b : Board) (p q : Pass) (place : Place) (item : Item) (higher draw found : ℕ) (key value : List ℕ) (h : List Event)
    (is : IsPassOf b p) (chained : IsChained b.shape (trace p) place) (there : 0 < inside (trace p) (number p) item.seg) (saw : FoundItem b.shape place (item_word item) key value h (trace p))
    (step : Stepped b (bump (home_bucket b.shape (trace p) place) (position b.shape (trace p) place) (cell_at b.shape place) item.tag item.seg item.row item.freq higher) found p q)
    (by : higher ≡ frequency_after_hit item.freq draw) (up : item.freq < higher) where
  abbrev at : List Event
  at = step.told.more ++ trace p

  one : (draw_raises item.freq draw ≡ true) × (frequency_after_hit item.freq draw ≡ item.freq + 1)
  one = one_higher item.freq draw (draw_raises item.freq draw) (subst (λ n. item.freq < n) by up)

  module _ (same : found ≡ item_word item) where
    stood : (k : List ℕ) × (v : List ℕ) × WasLinked b.shape place (item_word item) k v (step.told.more ++ trace p)
    stood = stood_item b.shape at place (item_word item) is.valid step.told.before
        (chained_later b.shape (trace p) at place step.told.before (step.told.more, refl) chained)
        (sym step.told.found_is ∙ same) (has_tag item)

    linked : AllLinked (trace p) item.seg item.row key
    linked = at_item item (trace p) key (found_rows b.shape h (trace p) place (item_word item) key value is.valid is.lawful saw)

    none : NoneRefills item.seg step.told.more
    none = no_refill b.shape step.told.more (trace p) (number p) item.seg is.one_of step.told.before step.told.others there

    row_same : row_after (step.told.more ++ trace p) item.seg item.row ≡ row_after (trace p) item.seg item.row
    row_same = item_stays b.shape step.told.more (trace p) item.seg item.row key step.told.before none linked

    row_still : row_after at (segment_part (item_word item)) (row_part (item_word item)) ≡ row_after saw.saw.at (segment_part (item_word item)) (row_part (item_word item))
    row_still = subst (λ s. row_after at s (row_part (item_word item)) ≡ row_after (trace p) s
        (row_part (item_word item))) (segment_of_item item)
        (subst (λ r. row_after at item.seg r ≡ row_after (trace p) item.seg r) (row_of_item item) row_same)
        ∙ saw.still

    is_value : stood.1 ≡ value
    is_value = one_value (row_after at (segment_part (item_word item)) (row_part (item_word item))) stood.0 stood.1
        key value stood.2.valid.0 saw.saw.was.valid.0 stood.2.valid.1 saw.saw.was.valid.1 stood.2.holds
        (subst (λ u. Holds u key value) (sym row_still) saw.saw.was.holds)

    row_then : (row_after (step.told.more ++ trace p) item.seg item.row).linked ≡ Some key
    row_then = first_linked at item.seg item.row key
        (linked_since b.shape step.told.more (trace p) item.seg item.row key step.told.before none linked)

    is_key : stood.0 ≡ key
    is_key = same_Some stood.0 key (sym stood.2.linked
        ∙ (ap (λ n. (row_after at n (row_part (item_word item))).linked) (sym (segment_of_item item))
        ∙ (ap (λ n. (row_after at item.seg n).linked) (sym (row_of_item item)) ∙ row_then)))

    now : trace q ≡ Bumped (number p) item.seg item.row higher ∷ (step.told.more ++ trace p)
    now = ap (λ (u : View). u.trace) step.told.now
        ∙ ap (λ es. es ++ at) (cond-true (eqb found (packed item.tag item.freq item.seg item.row))
        (Bumped (number p) item.seg item.row higher ∷ []) []
        (eq-eqb found (packed item.tag item.freq item.seg item.row) same))

    pub counts_hit : CountsHit b.shape key value draw (number p) h (trace q)
    counts_hit = record {
      at = at;
      segment = item.seg;
      row = item.row;
      frequency = item.freq;
      since = begins_on h (trace p) at (begins_on h saw.saw.at (trace p) saw.saw.between.0 saw.saw.between.1) (step.told.more, refl);
      had = subst (λ v. HasFrequency b.shape key v item.seg item.row item.freq at) is_value
          (subst (λ k. HasFrequency b.shape k stood.1 item.seg item.row item.freq at) is_key
          (has_frequency b.shape at place item stood.0 stood.1 is.valid stood.2));
      counted = one.0;
      raise = ([], now ∙ ap (λ n. Bumped (number p) item.seg item.row n ∷ at) (by ∙ one.1));
    }

  module _ (other : eqb found (item_word item) ≡ false) where
    unchanged : trace q ≡ step.told.more ++ trace p
    unchanged = ap (λ (u : View). u.trace) step.told.now
        ∙ ap (λ es. es ++ at) (cond-false (eqb found (packed item.tag item.freq item.seg item.row))
        (Bumped (number p) item.seg item.row higher ∷ []) [] other)

    -- with one pass it can't fail
    comes_about : b.shape.passes ≡ 1 → AddsEvents b [] p q → ⊥
    comes_about single nothing =
        let then : step.told.more ++ trace p ≡ saw.saw.at = sym unchanged ∙ (moved_alone b [] p q nothing single ∙ saw.alone single) in
        let same = step.told.found_is ∙ (ap (λ g. word b.shape g (cell_at b.shape place)) then ∙ saw.saw.was.stood) in
        false≢true (sym other ∙ eq-eqb found (item_word item) same)

    several : AddsEvents b [] p q → 1 < b.shape.passes
    several nothing = elim (eqb_tells b.shape.passes 1) [
      | inl one ↦ absurd (comes_about one.1 nothing)
      | inr more ↦ let n = is.one_of in let ne = more.1 in omega (arith, n, ne)
    ]

    abbrev then_at : ℕ
    then_at = position b.shape saw.saw.at place

    -- the item no longer stands so: else the exchange would have found its word
    gone : ¬ (IsItemAtPosition b.shape key value item.seg item.row item.freq then_at at)
    gone (had, placed) =
        let z = b.shape in let lawful = step.told.before in let was = saw.saw.was in
        let up = begins_on saw.saw.at (trace p) at saw.saw.between.1 (step.told.more, refl) in
        let kept = same_place z saw.saw.at at place lawful up was.chained in
        let there = placed_key z key at then_at lawful (λ none. none-some (cached value item.seg) (sym none ∙ had.stands)) placed in
        let home : home_bucket z at place ≡ bucket_of z key = kept.0 ∙ sym was.here.0 in
        let here : (bucket_after z at (home_bucket z at place)).items (position z at place) ≡ buckets.item there.0 = (λ i. (bucket_after z at (home i)).items (kept.1 i)) ∙ there.1 in
        let last = ((coherent z at lawful).items (bucket_of z key) then_at there.0 there.1).last in
        let named : there.0 ≡ buckets.slot key item.seg item.row = same_Some there.0 (buckets.slot key item.seg item.row) (sym last ∙ (ap (last_at (marked at)) there.2 ∙ had.last)) in
        let tag : tag_of key ≡ item.tag = sym was.tag ∙ tag_of_word item.tag item.freq item.seg item.row item.freq_in_range item.seg_in_range item.row_in_range in
        let frequency : frequency_of at item.seg item.row ≡ item.freq = sym (frequency_marked at item.seg item.row) ∙ had.had in
        let reads : word z at (cell_at z place) ≡ packed (tag_of key) (frequency_of at item.seg item.row) item.seg item.row =
        content_at z at (home_bucket z at place) (position z at place) (cell_at z place)
        (chained_later z saw.saw.at at place lawful up was.chained).at
        ∙ ap (content_word at) (here ∙ ap buckets.item named) in
        false≢true (sym other ∙ eq-eqb found (item_word item) (step.told.found_is ∙ (reads ∙ (λ i. packed (tag i) (frequency i) item.seg item.row))))

    pub overtaken : IsOvertaken b.shape key value h (trace q)
    overtaken = record {
      at = saw.saw.at;
      later = at;
      segment = item.seg;
      row = item.row;
      frequency = item.freq;
      position = then_at;
      since = saw.saw.between.0;
      then = begins_on saw.saw.at (trace p) at saw.saw.between.1 (step.told.more, refl);
      until = ([], unchanged);
      stood = (has_frequency b.shape saw.saw.at place item key value is.valid saw.saw.was, key_placed b.shape key saw.saw.at then_at saw.saw.was.lawful saw.saw.was.here.1);
      other = gone;
    }

-- an exchange that is tried once
pub raised_by : (b : Board) (p q : Pass) (place : Place) (item : Item) (higher draw found : ℕ) (key value : List ℕ)
    (h : List Event) (result : Bool) → IsPassOf b p → IsChained b.shape (trace p) place
    → 0 < inside (trace p) (number p) item.seg
    → FoundItem b.shape place (item_word item) key value h (trace p)
    → Stepped b (bump (home_bucket b.shape (trace p) place) (position b.shape (trace p) place)
    (cell_at b.shape place) item.tag item.seg item.row item.freq higher) found p q
    → result ≡ eqb found (item_word item)
    → AddsAtOnce b (cond result (Bumped (number p) item.seg item.row higher ∷ []) []) p q
    → count raised q ≡ cond result 1 0 + count raised p → higher ≡ frequency_after_hit item.freq draw
    → item.freq < higher → RaisesFrom b.shape key value draw h p q
raised_by b p q place item higher draw found key value h true is chained there saw step same did more by up =
    inl (omega (arith, more), counts_hit b p q place item higher draw found key value h is chained there saw step by up (eqb-true found (item_word item) (sym same)))
raised_by b p q place item higher draw found key value h false is chained there saw step same did more by up =
    inr (
      omega (arith, more),
      inr (
        several b p q place item higher draw found key value h is chained there saw step
            by up (sym same) did.moved,
        overtaken b p q place item higher draw found key value h is chained there saw
            step by up (sym same),
      ),
    )

-- a frequency that the draw leaves
one_lower : (f draw : ℕ) (t : Bool) → cond t (f + 1) f ≤ f → t ≡ false
one_lower f draw true low = absurd (omega (arith, low))
one_lower f draw false low = refl

pub raised_none : (b : Board) (p : Pass) (place : Place) (item : Item) (higher draw : ℕ) (key value : List ℕ)
    (h : List Event) → IsPassOf b p → FoundItem b.shape place (item_word item) key value h (trace p)
    → higher ≡ frequency_after_hit item.freq draw → higher ≤ item.freq → RaisesFrom b.shape key value draw h p p
raised_none b p place item higher draw key value h is saw by low = inr (
  refl,
  inl (record {
    at = saw.saw.at;
    segment = item.seg;
    row = item.row;
    frequency = item.freq;
    since = saw.saw.between.0;
    until = saw.saw.between.1;
    had = has_frequency b.shape saw.saw.at place item key value is.valid saw.saw.was;
    uncounted = one_lower item.freq draw (draw_raises item.freq draw) (subst (λ n. n ≤ item.freq) by low);
  }),
)

-- an exchange comes into no segment
pub stays_out : (b : Board) (p q : Pass) (segment row frequency : ℕ) (result : Bool)
    → AddsEvents b (cond result (Bumped (number p) segment row frequency ∷ []) []) p q
    → count entered q ≡ count entered p
stays_out b p q segment row frequency true m = moved_count b _ p q entered m
stays_out b p q segment row frequency false m = moved_count b _ p q entered m

-- and looks at no bit
pub glances_none : (b : Board) (p q : Pass) (segment row frequency : ℕ) (result : Bool) → AddsEvents b (cond result (Bumped (number p) segment row frequency ∷ []) []) p q → GlancesNothing p q
glances_none b p q segment row frequency true m bucket = moved_count b _ p q (glanced bucket) m
glances_none b p q segment row frequency false m bucket = moved_count b _ p q (glanced bucket) m

-- ---- one after another

counts_wider : (z : Shape) (key value : List ℕ) (draw n : ℕ) (h g f e : List Event) → Begins h g → Begins f e → CountsHit z key value draw n g f → CountsHit z key value draw n h e
counts_wider z key value draw n h g f e before after c = record {
  at = c.at;
  segment = c.segment;
  row = c.row;
  frequency = c.frequency;
  since = begins_on h g c.at before c.since;
  had = c.had;
  counted = c.counted;
  raise = begins_on (Bumped n c.segment c.row (c.frequency + 1) ∷ c.at) f e c.raise after;
}

passes_wider : (z : Shape) (key value : List ℕ) (draw : ℕ) (h g f e : List Event) → Begins h g → Begins f e → PassesHit z key value draw g f → PassesHit z key value draw h e
passes_wider z key value draw h g f e before after c = record {
  at = c.at;
  segment = c.segment;
  row = c.row;
  frequency = c.frequency;
  since = begins_on h g c.at before c.since;
  until = begins_on c.at f e c.until after;
  had = c.had;
  uncounted = c.uncounted;
}

overtaken_wider : (z : Shape) (key value : List ℕ) (h g f e : List Event) → Begins h g → Begins f e → IsOvertaken z key value g f → IsOvertaken z key value h e
overtaken_wider z key value h g f e before after c = record {
  at = c.at;
  later = c.later;
  segment = c.segment;
  row = c.row;
  frequency = c.frequency;
  position = c.position;
  since = begins_on h g c.at before c.since;
  then = c.then;
  until = begins_on c.later f e c.until after;
  stood = c.stood;
  other = c.other;
}

-- why nothing was raised
none_wider : (z : Shape) (key value : List ℕ) (draw : ℕ) (h g f e : List Event) → Begins h g → Begins f e
    → PassesHit z key value draw g f ⊎ ((1 < z.passes) × IsOvertaken z key value g f)
    → PassesHit z key value draw h e ⊎ ((1 < z.passes) × IsOvertaken z key value h e)
none_wider z key value draw h g f e before after (inl c) = inl (passes_wider z key value draw h g f e before after c)
none_wider z key value draw h g f e before after (inr c) = inr (c.0, overtaken_wider z key value h g f e before after c.1)

-- it raised nothing before
pub raises_after : (z : Shape) (key value : List ℕ) (draw : ℕ) (h g : List Event) (p q r : Pass)
    → number q ≡ number p → Begins h g → RaisesNothing p q → RaisesFrom z key value draw g q r
    → RaisesFrom z key value draw h p r
raises_after z key value draw h g p q r same up none (inl i) =
    inl (
      i.0 ∙ ap (λ n. n + 1) none,
      subst (λ n. CountsHit z key value draw n h (trace r)) same
          (counts_wider z key value draw (number q) h g (trace r) (trace r) up ([], refl) i.1),
    )
raises_after z key value draw h g p q r same up none (inr i) = inr (i.0 ∙ none, none_wider z key value draw h g (trace r) (trace r) up ([], refl) i.1)

pub raises_sooner : (z : Shape) (key value : List ℕ) (draw : ℕ) (h : List Event) (p q r : Pass)
    → Begins (trace q) (trace r) → RaisesFrom z key value draw h p q → RaisesNothing q r
    → RaisesFrom z key value draw h p r
raises_sooner z key value draw h p q r up (inl i) none = inl (none ∙ i.0, counts_wider z key value draw (number p) h h (trace q) (trace r) ([], refl) up i.1)
raises_sooner z key value draw h p q r up (inr i) none = inr (none ∙ i.0, none_wider z key value draw h h (trace q) (trace r) ([], refl) up i.1)
