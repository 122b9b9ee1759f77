-- What a call of a lone pass leaves of the rows that items name, and of their frequencies, by the entries that it added.
use Rattle.std.proofs.Common.{◌≡◌, ◌≢◌, ℕ, ◌+◌, ◌<◌, cond, Bool, true, false, List, [], ◌∷◌, ◌++◌, not, length, IsSomeAnd, Some, None, refl, sym, ap, ◌∙◌, subst, inl, inr, ◌⊎◌, ⊎_elim, arith, eqb}
use Rattle.std.specs.BTreeMap.{is_at}
use Rattle.std.proofs.lemmas.Bool.{cases_Bool, cases_eq, cond-true, cond-false, ne_eqb}
use Rattle.std.proofs.lemmas.List.{append_cancel_right}
use Rattle.std.proofs.lemmas.Option.{none-some, same_Some}
use Rattle.segword.specs.Words.{Shape}
use Rattle.segmodel.specs.declared.answer.Command.{Command}
use Rattle.segmodel.specs.declared.answer.Outcome.TheVariants.{Answered}
use Rattle.segmodel.specs.declared.answer.Turn.TheVariants.{Serve}
use Rattle.segmodel.specs.declared.entry.Entry.TheVariants as entry
use Rattle.segmodel.specs.declared.request.Reply.TheVariants as reply
use Rattle.segmodel.specs.Words.{after, Answer, Cache, Cached, Entry, IsLegal, key_cmp, key_of}
use Rattle.segmodel.specs.Words.{Outcome, Reply, Request, Serves, standing, Turn, Turns, without}
use Rattle.segmodel.specs.History.{next}
use Rattle.segmodel.proofs.HistoryLemmas.{standing-without}
use Rattle.segmodel.proofs.Commands.{turns_keep}
use Rattle.segcore.specs.Bucket.{Slot, slot}
use Rattle.segcore.specs.Mark.{last_at, frequency_in, same_key}
use Rattle.segcore.specs.Mark as mark
use Rattle.segcore.specs.Words.{cached, entries, raised}
use Rattle.segcore.proofs.Exact.{stands_at}
use Rattle.segcore.proofs.Keys.{key_true, key_false}
use Rattle.segcore.proofs.Marked.{entries_marked}
use Rattle.segcore.proofs.Orderly.{orderly}
use Rattle.segcore.proofs.Standing.{legal}
use Rattle.segbase.specs.Words.{Board, count, marked, mine, number, Pass, seen, trace}
use Rattle.segstore.proofs.Keeping.{stored_in}
use Rattle.segstore.specs.Words.{ChangesNothing, GoesOn, IsQuiet, RaisesNothing}
use Rattle.segsolo.specs.Alone.{CountsRows, IsAlone, NamesLastRows, ServesAlone, state_at, TurnsAlone}
use Rattle.segsolo.specs.Stored.{came_with, items_stored_in, keys_stored_in, last_row_of}
use Rattle.segsolo.proofs.AlonePass.{counts_still, more_seen, same_seen, SameFrequencies}
use Rattle.segsolo.proofs.Grown.{entries_joined}
use Rattle.segsolo.proofs.Marks.{BringNothing, BringsItem, brings_item, keeps_came, keeps_frequencies, keeps_lasts}
use Rattle.segsolo.proofs.Pairs.{all_its, all_raised, brings, IsPaired, marked_paired, raised_joined}
use Rattle.segsolo.proofs.Rows.{last_pushed, last_still}

-- ---- the marks that a call adds

-- as many frequencies were raised as the pass raised
pub raised_alone : (b : Board) (p : Pass) → IsQuiet b p → b.shape.passes ≡ 1 → all_raised (marked p) ≡ count raised p
raised_alone b p quiet one = all_its (number p) (trace p) (quiet.pass.alone one)

module _ (b : Board) (p q : Pass) (was : IsAlone b p) (on : GoesOn b p q) where
  paired : IsPaired None (on.marked.0 ++ marked p)
  paired = subst (IsPaired None) on.marked.1 (marked_paired (trace q))

  pub added_raised : all_raised on.marked.0 + count raised p ≡ count raised q
  added_raised =
      let before = raised_alone b p was.quiet was.one in
      let now = raised_alone b q on.quiet was.one in
      let parts : all_raised (marked q) ≡ all_raised on.marked.0 + all_raised (marked p) = ap all_raised on.marked.1 ∙ raised_joined on.marked.0 (marked p) in omega arith

  pub none_raised : RaisesNothing p q → all_raised on.marked.0 ≡ 0
  none_raised still = let all = added_raised in let same = still in omega arith

  pub added_entries : (added : List Entry) → mine q ≡ added ++ mine p → entries on.marked.0 ≡ added
  added_entries added more = append_cancel_right (entries on.marked.0) added (seen p)
      (ap (λ h. entries on.marked.0 ++ h) (sym (entries_marked (trace p)))
      ∙ (sym (entries_joined on.marked.0 (marked p))
      ∙ (sym (ap entries on.marked.1) ∙ (entries_marked (trace q) ∙ more_seen b p q added was on.quiet more))))

  -- where no entry brings an item
  pub lasts_kept : (added : List Entry) → mine q ≡ added ++ mine p → BringNothing added → (key : List ℕ) → last_at (marked q) key ≡ last_at (marked p) key
  lasts_kept added more none key = ap (λ marks. last_at marks key) on.marked.1 ∙ keeps_lasts on.marked.0 (marked p) paired (subst BringNothing (sym (added_entries added more)) none) key

  -- and no frequency was raised
  pub frequencies_kept : (added : List Entry) → mine q ≡ added ++ mine p → BringNothing added → RaisesNothing p q
      → SameFrequencies p q
  frequencies_kept added more none still segment row = let bring = subst BringNothing (sym (added_entries added more)) none in (
    ap (λ marks. frequency_in marks segment row) on.marked.1 ∙ keeps_frequencies on.marked.0 (marked p) paired bring (none_raised still) segment row,
    ap (λ marks. came_with marks segment row) on.marked.1 ∙ keeps_came on.marked.0 (marked p) paired bring segment row,
  )

  -- a call that adds no entry, or one that stores nothing
  pub frequencies_still : mine q ≡ mine p → RaisesNothing p q → SameFrequencies p q
  frequencies_still more still = frequencies_kept [] more tt still

  pub frequencies_replied : (added : Entry) → mine q ≡ added ∷ mine p → brings added ≡ None → RaisesNothing p q → SameFrequencies p q
  frequencies_replied added more none still = frequencies_kept (added ∷ []) more (none, tt) still

  -- where one entry brings an item
  pub item_brought : (added : Entry) (key : List ℕ) (segment : ℕ) → mine q ≡ added ∷ mine p
      → brings added ≡ Some (key, segment, Some 1) → RaisesNothing p q
      → BringsItem key segment 1 (marked p) (marked q)
  item_brought added key segment more is still = subst (BringsItem key segment 1 (marked p)) (sym on.marked.1)
      (brings_item on.marked.0 (marked p) added key segment (marked_paired (trace p)) paired is (added_entries (added ∷ []) more) (none_raised still)
      (subst mark.IsOrderly on.marked.1 (orderly b.shape (trace q) on.quiet.pass.lawful)))

-- ---- rows

-- a key that stands names a row of its segment
pub row_in : (b : Board) (p : Pass) (key value : List ℕ) (segment row : ℕ) → IsQuiet b p
    → standing (after b.shape (seen p)) key ≡ Some (cached value segment)
    → last_at (marked p) key ≡ Some (slot key segment row) → row < b.shape.rows
row_in b p key value segment row quiet stands last =
    let at = stands_at b.shape (trace p) key value segment quiet.pass.valid quiet.pass.lawful stands in
    subst (λ r. r < b.shape.rows) (ap (λ (s : Slot). s.row) (same_Some (slot key segment at.row) (slot key segment row) (sym at.last ∙ last))) at.names.in_segment.1

-- ---- items name last rows

-- an entry that stores nothing, and leaves what was stored
abbrev pub IsUnstored : Entry → Type 0
IsUnstored added = (brings added ≡ None) × ((shape : Shape) (history : List Entry) (segment : ℕ) → items_stored_in shape (added ∷ history) segment ≡ items_stored_in shape history segment)

abbrev pub AreUnstored : List Entry → Type 0
AreUnstored [] = Unit {0}
AreUnstored (added ∷ more) = IsUnstored added × AreUnstored more

pub bring_nothing : (added : List Entry) → AreUnstored added → BringNothing added
bring_nothing [] none = tt
bring_nothing (added ∷ more) none = (none.0.0, bring_nothing more none.1)

pub same_stored : (shape : Shape) (added history : List Entry) (segment : ℕ) → AreUnstored added → items_stored_in shape (added ++ history) segment ≡ items_stored_in shape history segment
same_stored shape [] history segment none = refl
same_stored shape (added ∷ more) history segment none = none.0.1 shape (more ++ history) segment ∙ same_stored shape more history segment none.1

out : (taken key : List ℕ) (cache : Cache) (item : Cached) → standing (without taken cache) key ≡ Some item → standing cache key ≡ Some item
out taken key cache item stands = by (is_at (key_cmp taken) key) (sym (standing-without taken cache key) ∙ stands)
  where
    by : (here : Bool) → cond (not here) (standing cache key) None ≡ Some item → standing cache key ≡ Some item
    by true none = absurd (none-some item none)
    by false is = is

-- what stands after an entry that brings no item stood before it
stood_before : (shape : Shape) (cache : Cache) (added : Entry) (key : List ℕ) (item : Cached) → brings added ≡ None → standing (next shape cache added) key ≡ Some item → standing cache key ≡ Some item
stood_before shape cache (entry.Wrote pass request reply.Stored (Some segment)) key item none stands = absurd (none-some (key_of request, segment, Some 1) (sym none))
stood_before shape cache (entry.Wrote pass request reply.Stored None) key item none stands = stands
stood_before shape cache (entry.Wrote pass request reply.NotStored segment) key item none stands = stands
stood_before shape cache (entry.Wrote pass request reply.Exists segment) key item none stands = stands
stood_before shape cache (entry.Wrote pass request reply.NotFound segment) key item none stands = stands
stood_before shape cache (entry.Wrote pass request reply.Deleted segment) key item none stands = out (key_of request) key cache item stands
stood_before shape cache (entry.Evicted pass taken segment) key item none stands = out taken key cache item stands
stood_before shape cache (entry.Moved pass moving from to) key item none stands = absurd (none-some (moving, to, None) (sym none))
stood_before shape cache (entry.Refilled pass segment deadline) key item none stands = stands

all_stood : (shape : Shape) (added history : List Entry) (key : List ℕ) (item : Cached) → AreUnstored added
    → standing (after shape (added ++ history)) key ≡ Some item → standing (after shape history) key ≡ Some item
all_stood shape [] history key item none stands = stands
all_stood shape (added ∷ more) history key item none stands = all_stood shape more history key item none.1 (stood_before shape (after shape (more ++ history)) added key item none.0.0 stands)

-- a reply that names no segment
pub reply_unstored : (pass : ℕ) (request : Request) (told : Reply) → IsUnstored (entry.Wrote pass request told None)
reply_unstored pass request reply.Stored = (refl, λ shape history segment. refl)
reply_unstored pass request reply.NotStored = (refl, λ shape history segment. refl)
reply_unstored pass request reply.Exists = (refl, λ shape history segment. refl)
reply_unstored pass request reply.NotFound = (refl, λ shape history segment. refl)
reply_unstored pass request reply.Deleted = (refl, λ shape history segment. refl)

-- where nothing is stored
pub still_named : (b : Board) (p q : Pass) (added : List Entry) → IsAlone b p → GoesOn b p q → mine q ≡ added ++ mine p → AreUnstored added → NamesLastRows b.shape q
still_named b p q added was on more none key value segment row stands last =
    let seen_now = more_seen b p q added was on.quiet more in
    ap (last_row_of key 0) (ap (λ h. items_stored_in b.shape h segment) seen_now ∙ same_stored b.shape added (seen p) segment none)
    ∙ was.rows key value segment row
    (all_stood b.shape added (seen p) key (cached value segment) none (subst (λ h. standing (after b.shape h) key ≡ Some (cached value segment)) seen_now stands))
    (sym (lasts_kept b p q was on added more (bring_nothing added none) key) ∙ last)

-- where a segment is refilled: no key stands in it
pub refilled_named : (b : Board) (p q : Pass) (segment deadline : ℕ) → IsAlone b p → GoesOn b p q → mine q ≡ entry.Refilled (number p) segment deadline ∷ mine p → NamesLastRows b.shape q
refilled_named b p q segment deadline was on more key value s row stands last =
    let seen_now = more_seen b p q (entry.Refilled (number p) segment deadline ∷ []) was on.quiet more in
    let stood : standing (after b.shape (seen p)) key ≡ Some (cached value s) = ap (λ h. standing (after b.shape h) key) (sym seen_now) ∙ stands in
    let legal_now = subst (IsLegal b.shape) seen_now (legal b.shape (trace q) on.quiet.pass.lawful) in
    let apart : segment ≢ s = λ same. legal_now.1.0 key (subst (λ o. IsSomeAnd o (λ item. item.segment ≡ segment)) (sym stood) (sym same)) in
    ap (last_row_of key 0) (ap (λ h. items_stored_in b.shape h s) seen_now ∙ cond-false (eqb segment s) [] (items_stored_in b.shape (seen p) s) (ne_eqb segment s apart))
    ∙ was.rows key value s row stood (sym (lasts_kept b p q was on (entry.Refilled (number p) segment deadline ∷ []) more (refl, tt) key) ∙ last)

-- where an item comes into a segment
pub brought_named : (b : Board) (p q : Pass) (key : List ℕ) (frequency rows segment : ℕ) → IsAlone b p → IsQuiet b q
    → (brought : BringsItem key segment frequency (marked p) (marked q))
    → brought.row ≡ length (keys_stored_in b.shape (seen p) segment)
    → items_stored_in b.shape (seen q) segment ≡ items_stored_in b.shape (seen p) segment ++ (key, rows) ∷ []
    → ((other : ℕ) → other ≢ segment → items_stored_in b.shape (seen q) other ≡ items_stored_in b.shape (seen p) other)
    → ((other : List ℕ) → key ≢ other → standing (after b.shape (seen q)) other ≡ standing (after b.shape (seen p)) other)
    → NamesLastRows b.shape q
brought_named b p q key frequency rows segment was quiet brought row_is here elsewhere others other value s row stands last =
    ⊎_elim (λ same. own (key_true key other same) same) (λ apart. by (key_false key other apart) apart (cases_eq segment s)) (cases_Bool (same_key key other))
  where
    own : key ≡ other → same_key key other ≡ true → last_row_of other 0 (items_stored_in b.shape (seen q) s) ≡ Some row
    own is same =
        let named : slot other segment brought.row ≡ slot other s row = same_Some (slot other segment brought.row) (slot other s row)
        (sym (brought.lasts other ∙ cond-true (same_key key other) (Some (slot other segment brought.row)) (last_at (marked p) other) same) ∙ last) in
        let there : length (keys_stored_in b.shape (seen p) segment) ≡ row = sym row_is ∙ ap (λ (a : Slot). a.row) named in
        let rowed : 0 + length (keys_stored_in b.shape (seen p) segment) ≡ row = omega (arith, there) in
        (λ i. last_row_of (sym is i) 0 (items_stored_in b.shape (seen q) (ap (λ (a : Slot). a.segment) (sym named) i)))
        ∙ (ap (last_row_of key 0) here ∙ (last_pushed key 0 (items_stored_in b.shape (seen p) segment) rows ∙ ap Some rowed))

    before : key ≢ other → same_key key other ≡ false → last_row_of other 0 (items_stored_in b.shape (seen p) s) ≡ Some row
    before ne apart = was.rows other value s row (sym (others other ne) ∙ stands)
        (sym (brought.lasts other ∙ cond-false (same_key key other) (Some (slot other segment brought.row)) (last_at (marked p) other) apart) ∙ last)

    by : key ≢ other → same_key key other ≡ false → (segment ≡ s) ⊎ (segment ≢ s) → last_row_of other 0 (items_stored_in b.shape (seen q) s) ≡ Some row
    by ne apart (inl is) =
        ap (λ n. last_row_of other 0 (items_stored_in b.shape (seen q) n)) (sym is)
        ∙ (ap (last_row_of other 0) here ∙ (last_still other key 0 (items_stored_in b.shape (seen p) segment) rows (λ e. ne (sym e))
        ∙ (ap (λ n. last_row_of other 0 (items_stored_in b.shape (seen p) n)) is ∙ before ne apart)))
    by ne apart (inr away) = ap (last_row_of other 0) (elsewhere s (λ e. away (sym e))) ∙ before ne apart

-- ---- calls

-- a turn that is served leaves the pass alone
pub turned : (b : Board) (turn : Turn) (given : Outcome) (p q : Pass) → IsAlone b p → IsQuiet b q → CountsRows b.shape q → NamesLastRows b.shape q
    → Turns b.shape (state_at b.shape p) turn given (state_at b.shape q) → TurnsAlone b turn given p q
turned b turn given p q was quiet counts names served = (
  record {
    one = was.one;
    quiet = quiet;
    used = counts;
    rows = names;
    kept = turns_keep b.shape (state_at b.shape p) (state_at b.shape q) (turn ∷ []) (given ∷ []) was.kept (state_at b.shape q, served, refl);
  },
  served,
)

-- where it added no entry, and its segments are as they were
pub turned_kept : (b : Board) (turn : Turn) (given : Outcome) (p q : Pass) → IsAlone b p → GoesOn b p q → mine q ≡ mine p → stored_in q.plain ≡ stored_in p.plain
    → Turns b.shape (state_at b.shape p) turn given (state_at b.shape q) → TurnsAlone b turn given p q
turned_kept b turn given p q was on none kept served =
    turned b turn given p q was on.quiet (counts_still b.shape p q was.used (same_seen b p q was on.quiet none) kept) (still_named b p q [] was on none tt) served

-- where it changed nothing
pub turned_still : (b : Board) (turn : Turn) (given : Outcome) (p q : Pass) → IsAlone b p → GoesOn b p q → ChangesNothing p q
    → Turns b.shape (state_at b.shape p) turn given (state_at b.shape q) → TurnsAlone b turn given p q
turned_still b turn given p q was on nothing served = turned_kept b turn given p q was on nothing.entries (ap stored_in nothing.plain) served

-- and so does a command
pub served : (b : Board) (command : Command) (given : Answer) (p q : Pass) → IsAlone b p → IsQuiet b q → CountsRows b.shape q → NamesLastRows b.shape q
    → Serves b.shape (state_at b.shape p) command given (state_at b.shape q) → ServesAlone b command given p q
served b command given p q was quiet counts names serves = ((turned b (Serve command) (Answered given) p q was quiet counts names (given, refl, serves)).0, serves)

pub served_still : (b : Board) (command : Command) (given : Answer) (p q : Pass) → IsAlone b p → GoesOn b p q → ChangesNothing p q
    → Serves b.shape (state_at b.shape p) command given (state_at b.shape q) → ServesAlone b command given p q
served_still b command given p q was on nothing serves = ((turned_still b (Serve command) (Answered given) p q was on nothing (given, refl, serves)).0, serves)
