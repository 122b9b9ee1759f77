-- The only pass of an index: its history is its own, its segments are those of the model, and a call that leaves it as it was leaves the state that it is at.
use Rattle.std.proofs.Common.{◌≡◌, ◌≢◌, ℕ, ◌/◌, ◌<◌, nat_lt, true, false, List, [], ◌∷◌, ◌++◌, length, is_some, Option, Some, None, option_map, refl, sym, ap, subst, ◌∙◌, ⊎_elim, arith, length-append, eq-eqb}
use Rattle.std.proofs.lemmas.Bool.{false≢true, cases_Bool, lt-ltb, ne_eqb}
use Rattle.segword.specs.Words.{Shape}
use Rattle.segmodel.specs.declared.entry.Entry.TheVariants.{Wrote}
use Rattle.segmodel.specs.Words.{after, bucket_of, Entry, is_locked, is_named, is_own}
use Rattle.segmodel.specs.Words.{IsBetween, IsLegal, owner, Reply, reply_in, Request}
use Rattle.segmodel.specs.Words.{SegState, State}
use Rattle.segmodel.proofs.Written.{first_owner}
use Rattle.segcore.specs.Words.{all_drawn, frequency_in, width}
use Rattle.segcore.proofs.Standing.{legal}
use Rattle.segbase.specs.Words.{Board, current_of, holding, locked_of, marked, Memo, mine, number}
use Rattle.segbase.specs.Words.{Pass, seen, state_in, state_of, trace, used_in}
use Rattle.segbase.proofs.Alone.{mine_alone}
use Rattle.segstore.proofs.Keeping.{same_states, same_used, stored_in}
use Rattle.segstore.specs.Words.{AddsEntry, ChangesNothing, GoesOn, IsQuiet, memo}
use Rattle.segsolo.specs.Alone.{frequencies_in, or_empty, item_of, state_at, CountsRows, IsAlone}
use Rattle.segsolo.specs.Stored.{came_with, frequencies_of, items_stored_in, keys_of_rows, keys_stored_in}
use Rattle.segindex.proofs.QuietPass.{owned}

-- ---- one history

nothing_more : {A : Type 0} (more : List A) → length more ≡ 0 → more ≡ []
nothing_more [] e = refl
nothing_more (x ∷ more) e = absurd (omega arith)

-- between a moment and itself there is no other
pub same_moment : {A : Type 0} (before now moment : List A) → now ≡ before → IsBetween before now moment → moment ≡ before
same_moment {A = A} before now moment same between =
    let longer : length now ≡ length (between.1.0 ++ moment) = ap (λ (l : List A). length l) between.1.1 in
    let long : length moment ≡ length (between.0.0 ++ before) = ap (λ (l : List A). length l) between.0.1 in
    let equal : length now ≡ length before = ap (λ (l : List A). length l) same in
    let none : between.0.0 ≡ [] = nothing_more between.0.0 (omega (arith, length-append {A = A})) in
    between.0.1 ∙ ap (λ more. more ++ before) none

-- what it has seen is what it did
pub same_seen : (b : Board) (p q : Pass) → IsAlone b p → IsQuiet b q → mine q ≡ mine p → seen q ≡ seen p
same_seen b p q was quiet same = sym (mine_alone b q quiet.pass was.one) ∙ (same ∙ mine_alone b p was.quiet.pass was.one)

pub more_seen : (b : Board) (p q : Pass) (added : List Entry) → IsAlone b p → IsQuiet b q → mine q ≡ added ++ mine p → seen q ≡ added ++ seen p
more_seen b p q added was quiet more = sym (mine_alone b q quiet.pass was.one) ∙ (more ∙ ap (λ h. added ++ h) (mine_alone b p was.quiet.pass was.one))

-- ---- its segments

pub number_is : (b : Board) (p : Pass) → IsAlone b p → number p ≡ 0
number_is b p alone = let one = alone.one in let few = alone.quiet.pass.one_of in omega arith

pub none_if : {A : Type 0} (o : Option A) → is_some o ≡ false → o ≡ None
none_if None e = refl
none_if (Some a) e = absurd (false≢true (sym e))

low_owner : (each segment : ℕ) → 0 < each → segment / each ≡ 0 → segment < each
low_owner each segment some e = grind (arith, e)

-- it keeps something of just the segments that the model has as its own
pub keeps_own : (b : Board) (p : Pass) (segment : ℕ) → IsAlone b p → is_some (state_of p segment) ≡ is_own b.shape segment
keeps_own b p segment alone = ⊎_elim
    (λ there.
    let first : owner b.shape segment ≡ 0 = (owned b p segment alone.quiet).0 there ∙ number_is b p alone in
    there ∙ sym (lt-ltb segment b.shape.segments_each (low_owner b.shape.segments_each segment alone.quiet.pass.valid.0.0.1.0 first)))
    (λ none. none ∙ sym (⊎_elim
    (λ own. absurd (false≢true (sym none ∙ (owned b p segment alone.quiet).1 (first_owner b.shape segment (below segment b.shape.segments_each own) ∙ sym (number_is b p alone)))))
    (λ other. other)
    (cases_Bool (is_own b.shape segment))))
    (cases_Bool (is_some (state_of p segment)))
  where
    below : (segment each : ℕ) → nat_lt segment each ≡ true → segment < each
    below segment each is = grind (arith, is)

pub not_own : (b : Board) (p : Pass) (segment : ℕ) → IsAlone b p → state_of p segment ≡ None → is_own b.shape segment ≡ false
not_own b p segment alone none = sym (keeps_own b p segment alone) ∙ ap is_some none

pub own_is : (b : Board) (p : Pass) (segment : ℕ) (state : SegState) → IsAlone b p → state_of p segment ≡ Some state → is_own b.shape segment ≡ true
own_is b p segment state alone is = sym (keeps_own b p segment alone) ∙ ap is_some is

-- ---- the state that it is at

-- chains are as they were
pub record SameWidths (p q : Pass) : Type 0 where
  pub wide : (bucket : ℕ) → width (marked q) bucket ≡ width (marked p) bucket
  pub drawn : all_drawn (marked q) ≡ all_drawn (marked p)

-- a state is told part by part
pub at_state : (shape : Shape) (q : Pass) (state : State) → after shape (seen q) ≡ state.cache → ((segment : ℕ) → or_empty (state_of q segment) ≡ (state.filling segment).state)
    → ((segment : ℕ) → keys_stored_in shape (seen q) segment ≡ (state.filling segment).keys) → ((segment : ℕ) → frequencies_in shape q segment ≡ (state.filling segment).frequencies)
    → current_of q ≡ state.current → ((bucket : ℕ) → width (marked q) bucket ≡ state.width bucket)
    → all_drawn (marked q) ≡ state.drawn → option_map item_of (holding q) ≡ state.held → locked_of q ≡ state.locked → state_at shape q ≡ state
at_state shape q state cache states keys frequencies current wide drawn held locked = λ i. record {
  cache = cache i;
  filling = λ segment. record { state = states segment i; keys = keys segment i; frequencies = frequencies segment i };
  current = current i;
  width = λ bucket. wide bucket i;
  drawn = drawn i;
  held = held i;
  locked = locked i;
}

-- items have the frequencies that they had, and those that they came with
abbrev pub SameFrequencies : Pass → Pass → Type 0
SameFrequencies p q = (segment row : ℕ)
    → (frequency_in (marked q) segment row ≡ frequency_in (marked p) segment row) × (came_with (marked q) segment row ≡ came_with (marked p) segment row)

-- so the rows of a segment in which the same items were stored have theirs
pub frequencies_as : (shape : Shape) (p q : Pass) (segment : ℕ) → SameFrequencies p q
    → items_stored_in shape (seen q) segment ≡ items_stored_in shape (seen p) segment → frequencies_in shape q segment ≡ frequencies_in shape p segment
frequencies_as shape p q segment same items = λ i. frequencies_of (λ row. (same segment row).1 i) (λ row. (same segment row).0 i) 0 (items i)

-- a pass that saw nothing new, whose segments are as they were, is at the same state but for its hold and its lock
pub as_was : (shape : Shape) (p q : Pass) → seen q ≡ seen p → stored_in q.plain ≡ stored_in p.plain → SameWidths p q → SameFrequencies p q
    → state_at shape q ≡ record (state_at shape p) { held = option_map item_of (holding q); locked = locked_of q }
as_was shape p q same kept widths frequencies = at_state shape q (record (state_at shape p) { held = option_map item_of (holding q); locked = locked_of q })
    (ap (after shape) same) (λ segment. ap (λ k. or_empty (state_in (k.0 segment))) kept) (λ segment. ap (λ h. keys_stored_in shape h segment) same)
    (λ segment. frequencies_as shape p q segment frequencies (ap (λ h. items_stored_in shape h segment) same)) (ap (λ k. k.1) kept) widths.wide widths.drawn refl refl

pub left : (b : Board) (p q : Pass) → IsAlone b p → GoesOn b p q → ChangesNothing p q → SameWidths p q → SameFrequencies p q → state_at b.shape q ≡ state_at b.shape p
left b p q was on nothing widths frequencies = as_was b.shape p q (same_seen b p q was on.quiet nothing.entries) (ap stored_in nothing.plain) widths frequencies
    ∙ (λ i. record (state_at b.shape p) { held = option_map item_of ((nothing.memo i).holding); locked = (nothing.plain i).locked })

-- ---- rows

pub counts_still : (shape : Shape) (p q : Pass) → CountsRows shape p → seen q ≡ seen p → stored_in q.plain ≡ stored_in p.plain → CountsRows shape q
counts_still shape p q counts same kept segment count is =
    counts segment count (sym (ap (λ k. used_in (k.0 segment)) kept) ∙ is) ∙ ap (λ h. length (keys_stored_in shape h segment)) (sym same)

-- ---- an entry that stores nothing

-- it changes the cache alone
pub as_replied : (b : Board) (p q : Pass) (added : Entry) → IsAlone b p → IsQuiet b q → AddsEntry added p q → q.plain ≡ p.plain → memo q ≡ memo p
    → ((segment : ℕ) → items_stored_in b.shape (added ∷ seen p) segment ≡ items_stored_in b.shape (seen p) segment) → SameWidths p q
    → SameFrequencies p q → state_at b.shape q ≡ record (state_at b.shape p) {
      cache =
          after b.shape (added ∷ seen p);
    }
as_replied b p q added was quiet adds plain same keeps widths frequencies =
    let more = more_seen b p q (added ∷ []) was quiet adds in
    at_state b.shape q (record (state_at b.shape p) { cache = after b.shape (added ∷ seen p) })
    (ap (after b.shape) more) (λ segment. ap or_empty (same_states p q segment plain)) (λ segment. ap (λ h. keys_stored_in b.shape h segment) more ∙ ap keys_of_rows (keeps segment))
    (λ segment. frequencies_as b.shape p q segment frequencies (ap (λ h. items_stored_in b.shape h segment) more ∙ keeps segment))
    (ap (λ plain. plain.current) plain) widths.wide widths.drawn (ap (λ (m : Memo). option_map item_of m.holding) same) (ap (λ plain. plain.locked) plain)

pub counts_replied : (b : Board) (p q : Pass) (added : Entry) → IsAlone b p → IsQuiet b q → AddsEntry added p q → q.plain ≡ p.plain
    → ((segment : ℕ) → items_stored_in b.shape (added ∷ seen p) segment ≡ items_stored_in b.shape (seen p) segment) → CountsRows b.shape q
counts_replied b p q added was quiet adds plain keeps segment count is =
    was.used segment count (sym (same_used p q segment plain) ∙ is)
    ∙ sym (ap (λ h. length (keys_stored_in b.shape h segment)) (more_seen b p q (added ∷ []) was quiet adds) ∙ ap (λ items. length (keys_of_rows items)) (keeps segment))

-- what was seen last was replied as the cache replied
pub reply_then : (b : Board) (p q : Pass) (request : Request) (told : Reply) (segment : Option ℕ) → IsQuiet b q → seen q ≡ Wrote (number p) request told segment ∷ seen p
    → told ≡ reply_in b.shape (after b.shape (seen p)) request
reply_then b p q request told segment quiet more = (subst (IsLegal b.shape) more (legal b.shape (trace q) quiet.pass.lawful)).1.0

-- ---- locks

-- a bucket that the pass has locked is locked for the model, and no other is
pub locked_here : (shape : Shape) (p : Pass) (key : List ℕ) → locked_of p ≡ Some (bucket_of shape key) → is_locked shape (state_at shape p) key ≡ true
locked_here shape p key is = ap (λ o. is_named o (bucket_of shape key)) is ∙ eq-eqb (bucket_of shape key) (bucket_of shape key) refl

pub free_here : (shape : Shape) (p : Pass) (key : List ℕ) → locked_of p ≢ Some (bucket_of shape key) → is_locked shape (state_at shape p) key ≡ false
free_here shape p key other = by (locked_of p) other
  where
    by : (locked : Option ℕ) → locked ≢ Some (bucket_of shape key) → is_named locked (bucket_of shape key) ≡ false
    by None ne = refl
    by (Some bucket) ne = ne_eqb bucket (bucket_of shape key) (λ e. ne (ap Some e))
