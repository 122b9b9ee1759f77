-- Rows that no item names stay so while their segment isn't refilled: from the pass's own entries, over the events that it saw.
use Rattle.std.proofs.Common.{◌≡◌, ◌≢◌, ◌⊎◌, ◌↔◌, ℕ, ◌+◌, ◌<◌, Bool, true, false, cond, eqb, List, [], ◌∷◌, ◌++◌, Option, Some, None, IsSome, refl, sym, ap, ◌∙◌, subst, inl, inr, ⊎_elim, arith}
use Rattle.std.proofs.lemmas.Bool.{cases_lt, cond-true, eq-eqb}
use Rattle.std.proofs.lemmas.List.{append_cancel_right}
use Rattle.std.proofs.lemmas.List.Elements.{filter-append}
use Rattle.std.proofs.lemmas.Option.{none-some, same_Some}
use Rattle.segword.specs.Words.{Shape}
use Rattle.segmodel.specs.declared.entry.Entry.TheVariants as entry
use Rattle.segmodel.specs.declared.answer.SegState.TheVariants as state
use Rattle.segmodel.specs.History as history
use Rattle.segmodel.specs.History.{pass_of}
use Rattle.segmodel.specs.Words.{Entry, owner, SegState}
use Rattle.segcore.specs.declared.event.Event.TheVariants.{Refilled}
use Rattle.segcore.specs.Event as event
use Rattle.segcore.specs.Words.{Event, IsLawful, NoneRefills, span_in}
use Rattle.segbase.specs.declared.pass.PlainPart.{PlainPart}
use Rattle.segbase.specs.Words.{Board, marked, mine, number, own_segment, Pass, state_of, trace, used_in, used_of}
use Rattle.segbase.proofs.Starting.{steps_grew}
use Rattle.segstore.specs.Words.{GoesOn, IsQuiet}
use Rattle.segread.specs.Holds.{NoneFills}
use Rattle.segevict.specs.declared.eviction.EvictRowAnswer.{EvictRowAnswer}
use Rattle.segevict.specs.declared.eviction.EvictRowAnswer.TheVariants as evict_row
use Rattle.segevict.specs.declared.retention.KeepRowAnswer.TheVariants as kept
use Rattle.segevict.specs.Words.{AreUnnamed, CarriesItem, EvictsItem, HasRow, IsNamed, KeepsItem, KeepsItemInto, UsesRows}
use Rattle.segevict.proofs.UnnamedRows.{one_more_unnamed, unnamed_last}

-- ---- entries and events

entry_append : (o : Option Entry) (xs ys : List Entry) → event.with_entry o (xs ++ ys) ≡ event.with_entry o xs ++ ys
entry_append None xs ys = refl
entry_append (Some e) xs ys = refl

seen_append : (more h : List Event) → event.seen (more ++ h) ≡ event.seen more ++ event.seen h
seen_append [] h = refl
seen_append (e ∷ more) h = ap (event.with_entry (event.entry_of e)) (seen_append more h) ∙ entry_append (event.entry_of e) (event.seen more) (event.seen h)

-- the entries that were seen before one
before_one : (pass s : ℕ) (e : Entry) (rest : List Entry) (own : Bool) → NoneFills s (cond own (e ∷ history.mine pass rest) (history.mine pass rest)) → NoneFills s (history.mine pass rest)
before_one pass s e rest true none = none.1
before_one pass s e rest false none = none

before_event : (pass s : ℕ) (o : Option Entry) (rest : List Entry) → NoneFills s (history.mine pass (event.with_entry o rest)) → NoneFills s (history.mine pass rest)
before_event pass s None rest none = none
before_event pass s (Some e) rest none = before_one pass s e rest (eqb (pass_of e) pass) none

-- only the owner refills a segment, each time by an entry
none_refilled : (z : Shape) (pass s : ℕ) (more h : List Event) → IsLawful z (more ++ h) → owner z s ≡ pass → NoneFills s (history.mine pass (event.seen more)) → NoneRefills s more
none_refilled z pass s [] h l own none = tt
none_refilled z pass s (e ∷ more) h l own none = (other, none_refilled z pass s more h l.0 own (before_event pass s (event.entry_of e) (event.seen more) none))
  where
    other : (p d : ℕ) → e ≢ Refilled p s d
    other p d is =
        let lawful : IsLawful z (Refilled p s d ∷ (more ++ h)) = subst (λ x. IsLawful z (x ∷ (more ++ h))) is l in
        let same : p ≡ pass = sym lawful.1.follows.1 ∙ own in
        let here : NoneFills s (history.mine pass (entry.Refilled p s d ∷ event.seen more)) =
        subst (λ x. NoneFills s (history.mine pass (event.with_entry (event.entry_of x) (event.seen more)))) is
        none in
        let first : NoneFills s (entry.Refilled p s d ∷ history.mine pass (event.seen more)) =
        subst (NoneFills s) (cond-true (eqb p pass) (entry.Refilled p s d ∷ history.mine pass (event.seen more)) (history.mine pass (event.seen more)) (eq-eqb p pass same)) here in
        first.0 p d refl

-- what the pass added tells what it saw of its own
pub own_events : (b : Board) (p q : Pass) (segment : ℕ) (added : List Entry) (on : GoesOn b p q)
    → mine q ≡ added ++ mine p → NoneFills segment added → owner b.shape segment ≡ number p
    → NoneRefills segment (steps_grew p q on.steps).0
own_events b p q segment added on entries none own =
    let grew = steps_grew p q on.steps in let more : List Event = grew.0 in let n = number p in
    let now : history.mine n (event.seen (more ++ trace p)) ≡ added ++ mine p =
    ap (λ h. history.mine n (event.seen h)) (sym grew.1)
    ∙ (ap (λ m. history.mine m (event.seen (trace q))) (sym on.same) ∙ entries) in
    let parts : history.mine n (event.seen (more ++ trace p)) ≡ history.mine n (event.seen more) ++ mine p =
    ap (history.mine n) (seen_append more (trace p)) ∙ filter-append (λ e. eqb (pass_of e) n) (event.seen more) (event.seen (trace p)) in
    let same : added ≡ history.mine n (event.seen more) = append_cancel_right added (history.mine n (event.seen more)) (mine p) (sym now ∙ parts) in
    none_refilled b.shape n segment more (trace p) (subst (IsLawful b.shape) grew.1 on.quiet.pass.lawful) own (subst (NoneFills segment) same none)

pub unnamed_stay : (b : Board) (p q : Pass) (segment from : ℕ) (added : List Entry) → IsQuiet b p → GoesOn b p q
    → mine q ≡ added ++ mine p → NoneFills segment added → AreUnnamed b.shape segment from p
    → AreUnnamed b.shape segment from q
unnamed_stay b p q segment from added quiet on entries none are =
    let grew = steps_grew p q on.steps in unnamed_last b segment from p q grew.0 quiet on grew.1 (own_events b p q segment added on entries none) are

-- ---- the next row

-- a call that isn't refused for it has a used row
in_use_or_not : (o : Option SegState) → (o ≡ Some state.InUse) ⊎ (o ≢ Some state.InUse)
in_use_or_not None = inr (λ is. none-some state.InUse is)
in_use_or_not (Some state.Empty) = inr (λ is. let no : state.Empty ≡ state.InUse = same_Some state.Empty state.InUse is in cc)
in_use_or_not (Some state.InUse) = inl refl
in_use_or_not (Some state.Evicted) = inr (λ is. let no : state.Evicted ≡ state.InUse = same_Some state.Evicted state.InUse is in cc)

used_or_not : (row : ℕ) (o : Option ℕ) → ((used : ℕ) × (o ≡ Some used) × (row < used)) ⊎ ¬ ((used : ℕ) × (o ≡ Some used) × (row < used))
used_or_not row None = inr (λ x. none-some x.0 x.1)
used_or_not row (Some used) = ⊎_elim
    (λ lt. inl (used, refl, lt))
    (λ le. inr (λ x. let same : used ≡ x.0 = same_Some used x.0 x.1 in let lt = x.2 in absurd (omega arith)))
    (cases_lt row used)

has_or_not : (segment row : ℕ) (p : Pass) → HasRow segment row p ⊎ ¬ (HasRow segment row p)
has_or_not segment row p = ⊎_elim
    (λ in_use. ⊎_elim (λ used. inl (in_use, used)) (λ none. inr (λ has. none has.1)) (used_or_not row (used_of p segment)))
    (λ other. inr (λ has. other has.0))
    (in_use_or_not (state_of p segment))

is_there : (o : Option SegState) → o ≢ None → IsSome o
is_there None other = absurd (other refl)
is_there (Some state) other = refl

pub has_row : (segment row : ℕ) (p : Pass) → state_of p segment ≢ None → ¬ (IsSome (state_of p segment) × ¬ (HasRow segment row p)) → HasRow segment row p
has_row segment row p known used = ⊎_elim (λ has. has) (λ none. absurd (used (is_there (state_of p segment) known, none))) (has_or_not segment row p)

-- the pass added no refilling of the segment, and no item names the row any more
module _ (b : Board) (p q : Pass) (segment row : ℕ) (quiet : IsQuiet b p) (on : GoesOn b p q) where
  one_more : (added : List Entry) → mine q ≡ added ++ mine p → NoneFills segment added → HasRow segment row p → used_of q segment ≡ used_of p segment → ¬ (IsNamed b.shape segment row (marked q))
      → AreUnnamed b.shape segment row p → AreUnnamed b.shape segment (row + 1) q
  one_more added entries none has same free are =
      let grew = steps_grew p q on.steps in
      one_more_unnamed b segment row p q grew.0 quiet on grew.1 (own_events b p q segment added on entries none) (has.1.0, same ∙ has.1.1, has.1.2) free are

  one_moved : (into count cutoff : ℕ) (key : List ℕ) → segment ≢ into → UsesRows into count p q
      → CarriesItem b.shape segment row cutoff into p q key → HasRow segment row p
      → AreUnnamed b.shape segment row p → AreUnnamed b.shape segment (row + 1) q
  one_moved into count cutoff key other uses carries has = one_more (entry.Moved (number p) key segment into ∷ []) carries.entries
      ((λ n d is. let no : entry.Moved (number p) key segment into ≡ entry.Refilled n segment d = is in cc), tt) has (uses.others segment other) carries.left

same_used : (p q : Pass) (segment : ℕ) → q.plain ≡ p.plain → used_of q segment ≡ used_of p segment
same_used p q segment same = ap (λ (x : PlainPart). used_in (own_segment x segment)) same

pub evicted_is_unnamed : (b : Board) (p q : Pass) (segment row : ℕ) (told : EvictRowAnswer) → IsQuiet b p
    → EvictsItem b segment row told p q → (told ≡ evict_row.Evicted) ⊎ (told ≡ evict_row.Left)
    → AreUnnamed b.shape segment row p → AreUnnamed b.shape segment (row + 1) q
evicted_is_unnamed b p q segment row evict_row.Evicted quiet e which are =
    let out = e.answer.0 in
    one_more b p q segment row quiet e.on (entry.Evicted (number p) out.key segment ∷ []) out.entry
    ((λ n d is. let no : entry.Evicted (number p) out.key segment ≡ entry.Refilled n segment d = is in cc), tt)
    (has_row segment row p
    (λ none. let no : evict_row.Evicted ≡ evict_row.NotYours = e.not_yours.1 none in cc)
    (λ without. let no : evict_row.Evicted ≡ evict_row.NotUsed = e.not_used.1 without in cc))
    (same_used p q segment out.plain) e.answer.1 are
evicted_is_unnamed b p q segment row evict_row.Left quiet e which are =
    one_more b p q segment row quiet e.on [] e.answer.0.entries tt
    (has_row segment row p
    (λ none. let no : evict_row.Left ≡ evict_row.NotYours = e.not_yours.1 none in cc)
    (λ without. let no : evict_row.Left ≡ evict_row.NotUsed = e.not_used.1 without in cc))
    (same_used p q segment e.answer.0.plain) e.answer.1 are
evicted_is_unnamed b p q segment row evict_row.Busy quiet e which are = ⊎_elim
    (λ is. let no : evict_row.Busy ≡ evict_row.Evicted = is in cc)
    (λ is. let no : evict_row.Busy ≡ evict_row.Left = is in cc)
    which
evicted_is_unnamed b p q segment row evict_row.NotYours quiet e which are = ⊎_elim
    (λ is. let no : evict_row.NotYours ≡ evict_row.Evicted = is in cc)
    (λ is. let no : evict_row.NotYours ≡ evict_row.Left = is in cc)
    which
evicted_is_unnamed b p q segment row evict_row.NotUsed quiet e which are = ⊎_elim
    (λ is. let no : evict_row.NotUsed ≡ evict_row.Evicted = is in cc)
    (λ is. let no : evict_row.NotUsed ≡ evict_row.Left = is in cc)
    which

moved_has : (segment row : ℕ) (p : Pass) → ((kept.Moved ≡ kept.NotYours) ↔ (state_of p segment ≡ None))
    → ((kept.Moved ≡ kept.NotUsed) ↔ (IsSome (state_of p segment) × ¬ (HasRow segment row p)))
    → HasRow segment row p
moved_has segment row p not_yours not_used = has_row segment row p
    (λ none. let no : kept.Moved ≡ kept.NotYours = not_yours.1 none in cc)
    (λ without. let no : kept.Moved ≡ kept.NotUsed = not_used.1 without in cc)

pub moved_is_unnamed : (b : Board) (p q : Pass) (segment row cutoff : ℕ) → IsQuiet b p
    → KeepsItem b segment row cutoff kept.Moved p q
    ⊎ ((into : ℕ) × KeepsItemInto b segment row cutoff into kept.Moved p q)
    → AreUnnamed b.shape segment row p → AreUnnamed b.shape segment (row + 1) q
moved_is_unnamed b p q segment row cutoff quiet which are = ⊎_elim
    (λ k. let a = k.answer in one_moved b p q segment row quiet k.on a.0 (span_in (trace p) segment row) cutoff a.3.0 a.1.other a.2 a.3.1 (moved_has segment row p k.not_yours k.not_used) are)
    (λ named. let k = named.1 in let a = k.answer in
    one_moved b p q segment row quiet k.on a.0 (span_in (trace p) segment row) cutoff a.3.0 (λ same. a.1.1.other (same ∙ a.1.0)) a.2 a.3.1 (moved_has segment row p k.not_yours k.not_used) are)
    which
