-- What a pass keeps of its own segments stays so over its calls: those that link and refill nothing, a link of its next row, and a refilling.
use Rattle.std.proofs.Common.{◌≡◌, ◌≢◌, ℕ, ◌+◌, ◌*◌, ◌/◌, ◌%◌, ◌<◌, ◌≤◌, Bool, true, false, cond, eqb, nat_lt, ◌&&◌, is_some, IsSome, List, [], ◌∷◌, ◌++◌, Option, Some, None, refl, sym, ap, ◌∙◌, subst, ⊎_elim, arith, mod-lt, div-add-mod', mul_comm, unwrap_or}
use Rattle.std.proofs.lemmas.Bool.{cases_Bool, cases_eq, cases_lt, lt-ltb, le-ltb, cond-true, cond-false, eq-eqb, ne_eqb, false≢true}
use Rattle.std.proofs.lemmas.Nat.{mul-add-lt}
use Rattle.std.proofs.lemmas.Option.{same_Some, none-some}
use Rattle.segword.specs.Words.{covers, Shape, span_of_header}
use Rattle.segmodel.specs.declared.answer.SegState.TheVariants.{InUse}
use Rattle.segmodel.specs.Words.{after, NoneStandsIn, owner, Request, SegState}
use Rattle.segcore.specs.declared.event.Event.TheVariants.{Filled, Linked, Relinked, Refilled}
use Rattle.segcore.specs.Words.{AreOwnRows, by, Event, IsLawful, IsOwnRow, IsSegment, NoneBy, Row, row_after, row_alone}
use Rattle.segcore.specs.Words.{span_in, writes_row}
use Rattle.segcore.specs.Event as event
use Rattle.segcore.specs.Segment as segment_of
use Rattle.segcore.proofs.Caches.{stands_in, has_value}
use Rattle.segcore.proofs.Quiet.{of_row, own_deadline, quiet_alone, quiet_row}
use Rattle.segcore.proofs.Spans.{first_words, own_first, own_rows_same}
use Rattle.segmodel.proofs.Spans.{left_rows}
use Rattle.segcore.proofs.Deadlines.{deadline_seen}
use Rattle.segcore.proofs.Readers.{still_empty, empty_stays}
use Rattle.segbase.specs.declared.pass.PlainPart.{PlainPart}
use Rattle.segbase.specs.Words.{with_deadline, AddsAtOnce, AddsEvents, Board, current_of, IsPassOf, number, own_of, deadline_of, deadline_in}
use Rattle.segbase.specs.Words.{own_segment, OwnSegment, Pass, seen, state_in, state_of, trace}
use Rattle.segbase.specs.Words.{used_in, used_of, with_current, with_state, with_used}
use Rattle.segbase.proofs.Known.{state_set, used_set, state_apart, used_apart, state_kept, used_kept, owner_stated, owner_counted, deadline_set, owner_lasting, state_lasting, used_lasting, deadline_counted, deadline_apart, deadline_stated}
use Rattle.segbase.proofs.Owned.{owner_of, owns_state, state_there, used_there, moved_still, deadline_there}
use Rattle.segstore.specs.Refilling.{refilled, refilled_aside}
use Rattle.segstore.specs.Rows.{fills, StoresRow}
use Rattle.segstore.specs.Segments.{AreRows, KeepsSegments}
use Rattle.segstore.proofs.ItemRows.{covers-high, covers-low, in_same, not_covered}
use Rattle.segstore.proofs.Rows.{stepped_row}

-- ---- the segments of a pass

-- it knows a segment of which it counts the used rows
known : (p : Pass) (s used : ℕ) → used_of p s ≡ Some used → IsSome (own_segment p.plain s)
known p s used there = sym (used_there (own_segment p.plain s)) ∙ ap is_some there

pub owns_used : (b : Board) (p : Pass) (s used : ℕ) → IsPassOf b p → used_of p s ≡ Some used → owner b.shape s ≡ number p
owns_used b p s used is there = owns_state b p s is (state_there (own_segment p.plain s) ∙ known p s used there)

pub owns_stated : (b : Board) (p : Pass) (s : ℕ) (state : SegState) → IsPassOf b p → state_of p s ≡ Some state → owner b.shape s ≡ number p
owns_stated b p s state is there = owns_state b p s is (ap is_some there)

pub owns_lasting : (b : Board) (p : Pass) (s deadline : ℕ) → IsPassOf b p → deadline_of p s ≡ Some deadline → owner b.shape s ≡ number p
owns_lasting b p s deadline is there =
    owns_state b p s is (state_there (own_segment p.plain s) ∙ (sym (deadline_there (own_segment p.plain s)) ∙ ap is_some there))

-- of a segment whose state it knows it knows the deadline
pub knows_deadline : (p : Pass) (s : ℕ) (state : SegState) → state_of p s ≡ Some state → deadline_of p s ≡ Some (unwrap_or (deadline_of p s) 0)
knows_deadline p s state there = by (own_segment p.plain s) there
  where
    by : (o : Option OwnSegment) → state_in o ≡ Some state → deadline_in o ≡ Some (unwrap_or (deadline_in o) 0)
    by None none = absurd (none-some state none)
    by (Some own) there = refl

-- with an equal plain part it knows the same of its segments
pub same_states : (p q : Pass) (s : ℕ) → q.plain ≡ p.plain → state_of q s ≡ state_of p s
same_states p q s same = ap (λ (x : PlainPart). state_in (own_segment x s)) same

pub same_used : (p q : Pass) (s : ℕ) → q.plain ≡ p.plain → used_of q s ≡ used_of p s
same_used p q s same = ap (λ (x : PlainPart). used_in (own_segment x s)) same

pub same_deadlines : (p q : Pass) (s : ℕ) → q.plain ≡ p.plain → deadline_of q s ≡ deadline_of p s
same_deadlines p q s same = ap (λ (x : PlainPart). deadline_in (own_segment x s)) same

-- what it knows of them, and the current one
abbrev pub stored_in : PlainPart → (ℕ → Option OwnSegment) × Option ℕ
stored_in x = (own_segment x, x.current)

pub in_table : (b : Board) (p : Pass) (s : ℕ) → IsPassOf b p → owner b.shape s ≡ number p → IsSegment b.shape s
in_table b p s is own =
    let each = b.shape.segments_each in let n = number p in
    let whole : s / each * each + s % each ≡ s = div-add-mod' s each in
    let part : s % each < each = mod-lt s is.valid.0.0.1.0 in
    let below : n * each + s % each < each * b.shape.passes = mul-add-lt n each (s % each) b.shape.passes is.one_of part in
    subst (λ x. x < b.shape.passes * each) (ap (λ x. x * each + s % each) (sym own) ∙ whole) (subst (λ x. n * each + s % each < x) (mul_comm each b.shape.passes) below)

unlinked : {A : Type 0} (o : Option A) → is_some o ≡ false → o ≡ None
unlinked None f = refl
unlinked (Some x) f = absurd (false≢true (sym f))

-- the rows behind those that are used are ones to write
free_row : (b : Board) (p : Pass) (s used row : ℕ) → IsPassOf b p → KeepsSegments b p → used_of p s ≡ Some used → used ≤ row → row < b.shape.rows
    → IsOwnRow b.shape (trace p) (number p) s row
free_row b p s used row is k there le lt =
    let own = owns_used b p s used is there in
    (in_table b p s is own, lt, own, unlinked (row_after (trace p) s row).linked (k.rows s used row there lt ∙ le-ltb row used le))

-- the next row of the current segment, and as many as are left there
pub next_is_own : (b : Board) (p : Pass) (s row : ℕ) → IsPassOf b p → KeepsSegments b p → used_of p s ≡ Some row → row < b.shape.rows → IsOwnRow b.shape (trace p) (number p) s row
next_is_own b p s row is k used lt = free_row b p s row row is k used (omega arith) lt

pub next_are_own : (b : Board) (p : Pass) (s row rows : ℕ) → IsPassOf b p → KeepsSegments b p → used_of p s ≡ Some row → AreRows b.shape row rows
    → AreOwnRows b.shape (trace p) (number p) s row rows
next_are_own b p s row rows is k used left =
    in_same (eqb rows 1) (λ lt. next_is_own b p s row is k used lt)
    (λ few i c. free_row b p s row i is k used (covers-low row rows i c) (let high = covers-high row rows i c in omega (arith, high, few))) left

-- ---- events that link, move and refill nothing: in a segment, and anywhere

abbrev pub IsCalmIn : ℕ → Event → Type 0
IsCalmIn segment (Linked p q s r n) = s ≢ segment
IsCalmIn segment (Relinked p k f i s r n) = s ≢ segment
IsCalmIn segment (Refilled p s d) = s ≢ segment
IsCalmIn segment e = Unit {0}

-- nothing is linked in the segment or moved there, and it isn't refilled
abbrev pub AreCalmIn : ℕ → List Event → Type 0
AreCalmIn segment [] = Unit {0}
AreCalmIn segment (e ∷ es) = IsCalmIn segment e × AreCalmIn segment es

abbrev pub IsCalm : Event → Type 0
IsCalm (Linked p q s r n) = ⊥
IsCalm (Relinked p k f i s r n) = ⊥
IsCalm (Refilled p s d) = ⊥
IsCalm e = Unit {0}

abbrev pub AreCalm : List Event → Type 0
AreCalm [] = Unit {0}
AreCalm (e ∷ es) = IsCalm e × AreCalm es

one_calm : (s : ℕ) (e : Event) → IsCalm e → IsCalmIn s e
one_calm s (Linked p q t r n) calm = absurd calm
one_calm s (Relinked p k f i t r n) calm = absurd calm
one_calm s (Refilled p t d) calm = absurd calm
one_calm s e calm = calm

-- what is calm is so in each segment
pub calm_in : (s : ℕ) (es : List Event) → AreCalm es → AreCalmIn s es
calm_in s [] calm = tt
calm_in s (e ∷ es) calm = (one_calm s e calm.0, calm_in s es calm.1)

not_linked : (e : Event) (s : ℕ) → IsCalmIn s e → (p : ℕ) (q : Request) (row n : ℕ) → e ≢ Linked p q s row n
not_linked e s calm p q row n is' = (subst (IsCalmIn s) is' calm) refl

not_moved : (e : Event) (s : ℕ) → IsCalmIn s e → (p : ℕ) (k : List ℕ) (f i row n : ℕ) → e ≢ Relinked p k f i s row n
not_moved e s calm p k f i row n is' = (subst (IsCalmIn s) is' calm) refl

same_linked : (t : Bool) (u v : Row) → v.linked ≡ u.linked → (cond t v u).linked ≡ u.linked
same_linked true u v same = same
same_linked false u v same = refl

calm_linked : (e : Event) (h : List Event) (s r : ℕ) → IsCalmIn s e → (row_after (e ∷ h) s r).linked ≡ (row_after h s r).linked
calm_linked (Linked p q t i n) h s r calm =
    ap (λ a. (cond (a && covers i (span_of_header ((row_alone h t i).words 0)) r) (writes_row (Linked p q t i n) (row_alone h s r)) (row_alone h s r)).linked) (ne_eqb t s calm)
calm_linked (Relinked p k f j t i n) h s r calm =
    ap (λ a. (cond (a && covers i (span_of_header ((row_alone h t i).words 0)) r) (writes_row (Relinked p k f j t i n) (row_alone h s r)) (row_alone h s r)).linked) (ne_eqb t s calm)
calm_linked (Refilled p t d) h s r calm = ap (λ a. (cond a (writes_row (Refilled p t d) (row_alone h s r)) (row_alone h s r)).linked) (ne_eqb t s calm)
calm_linked (Filled p t i place w) h s r calm = same_linked (eqb t s && eqb i r) (row_alone h s r) (writes_row (Filled p t i place w) (row_alone h s r)) refl
calm_linked e h s r calm = refl

calm_deadline : (e : Event) (h : List Event) (s : ℕ) → IsCalmIn s e → segment_of.deadline_of (e ∷ h) s ≡ segment_of.deadline_of h s
calm_deadline (Refilled p t d) h s calm = cond-false (eqb t s) d (segment_of.deadline_of h s) (ne_eqb t s calm)
calm_deadline e h s calm = refl

-- the first of the pass's own events, and the others
pub calm_parts : (s p : ℕ) (e : Event) (more : List Event) → eqb (by e) p ≡ true → AreCalmIn s (own_of p (e ∷ more)) → IsCalmIn s e × AreCalmIn s (own_of p more)
calm_parts s p e more t calm = subst (AreCalmIn s) (cond-true (eqb (by e) p) (e ∷ own_of p more) (own_of p more) t) calm

pub calm_rest : (s p : ℕ) (e : Event) (more : List Event) → eqb (by e) p ≡ false → AreCalmIn s (own_of p (e ∷ more)) → AreCalmIn s (own_of p more)
calm_rest s p e more f calm = subst (AreCalmIn s) (cond-false (eqb (by e) p) (e ∷ own_of p more) (own_of p more) f) calm

pub own_linked : (z : Shape) (more h : List Event) (p s r : ℕ) → IsLawful z (more ++ h) → AreCalmIn s (own_of p more) → owner z s ≡ p → (row_after (more ++ h) s r).linked ≡ (row_after h s r).linked
own_linked z [] h p s r l calm own = refl
own_linked z (e ∷ more) h p s r l calm own = ⊎_elim
    (λ t. let c = calm_parts s p e more t calm in
    calm_linked e (more ++ h) s r c.0 ∙ own_linked z more h p s r l.0 c.1 own)
    (λ f. let c = calm_rest s p e more f calm in
    ap (λ (u : Row). u.linked) (quiet_row z (e ∷ []) (more ++ h) s r l ((λ same. false≢true (sym f ∙ eq-eqb (by e) p (same ∙ own))), tt)) ∙ own_linked z more h p s r l.0 c own)
    (cases_Bool (eqb (by e) p))

-- rows of the pass's own stay so while it stores words
fills_calm : (p segment row : ℕ) (words places : List ℕ) → AreCalm (fills p segment row words places)
unfolding fills
fills_calm p segment row words [] = tt
fills_calm p segment row words (place ∷ places) = (tt, fills_calm p segment row words places)

pub own_stored : (b : Board) (p q : Pass) (s r rows : ℕ) (words : List ℕ) → 1 ≤ rows → StoresRow b s r words p q
    → AreOwnRows b.shape (trace p) (number p) s r rows → AreOwnRows b.shape (trace q) (number q) s r rows
own_stored b p q s r rows words some stores own =
    let m = stores.1 in let first = own_first b.shape (trace p) (number p) s r rows some own in
    let calm = subst AreCalm (sym m.adds) (fills_calm (number p) s r words stores.0) in
    subst (λ n. AreOwnRows b.shape (trace q) n s r rows) (sym m.same)
    (own_rows_same b.shape (trace p) (trace q) (number p) s r rows
    (λ i. ap (λ h. (row_after h s i).linked) m.goes_on
    ∙ own_linked b.shape m.more (trace p) (number p) s i (subst (IsLawful b.shape) m.goes_on m.pass.lawful) (calm_in s (own_of (number p) m.more) calm) first.2)
    own)

deadline_lasts : (z : Shape) (more h : List Event) (p s : ℕ) → IsLawful z (more ++ h) → AreCalmIn s (own_of p more) → owner z s ≡ p → segment_of.deadline_of (more ++ h) s ≡ segment_of.deadline_of h s
deadline_lasts z [] h p s l calm own = refl
deadline_lasts z (e ∷ more) h p s l calm own = ⊎_elim
    (λ t. let c = calm_parts s p e more t calm in
    calm_deadline e (more ++ h) s c.0 ∙ deadline_lasts z more h p s l.0 c.1 own)
    (λ f. let c = calm_rest s p e more f calm in
    own_deadline z (e ∷ []) (more ++ h) s l ((λ same. false≢true (sym f ∙ eq-eqb (by e) p (same ∙ own))), tt) ∙ deadline_lasts z more h p s l.0 c own)
    (cases_Bool (eqb (by e) p))

-- the cache's deadline of a segment where the trace's is the same
same_cached : (z : Shape) (h g : List Event) (s : ℕ) → segment_of.deadline_of g s ≡ segment_of.deadline_of h s → (after z (event.seen g)).deadline s ≡ (after z (event.seen h)).deadline s
same_cached z h g s same = deadline_seen z g s ∙ (same ∙ sym (deadline_seen z h s))

-- what others did before a step leaves the deadlines of the pass's own segments
others_deadline : (b : Board) (own : List Event) (p q : Pass) (s : ℕ) → (d : AddsAtOnce b own p q) → owner b.shape s ≡ number p
    → segment_of.deadline_of (d.others ++ trace p) s ≡ segment_of.deadline_of (trace p) s
others_deadline b own p q s d of = own_deadline b.shape d.others (trace p) s d.before (subst (λ x. NoneBy x d.others) (sym of) d.none)

none_by_link : (z : Shape) (e : Event) (h : List Event) (s : ℕ) → IsLawful z (e ∷ h) → IsCalmIn s e → NoneStandsIn (after z (event.seen h)) s → NoneStandsIn (after z (event.seen (e ∷ h))) s
none_by_link z e h s l calm none k is' = none k (stands_in z (event.seen h) k s (still_empty z h e s k l.1 (not_linked e s calm) (not_moved e s calm) (has_value z (event.seen (e ∷ h)) k s is')))

own_empty : (z : Shape) (more h : List Event) (p s : ℕ) → IsLawful z (more ++ h) → AreCalmIn s (own_of p more)
    → owner z s ≡ p → NoneStandsIn (after z (event.seen h)) s → NoneStandsIn (after z (event.seen (more ++ h))) s
own_empty z [] h p s l calm own none = none
own_empty z (e ∷ more) h p s l calm own none = ⊎_elim
    (λ t. let c = calm_parts s p e more t calm in
    none_by_link z e (more ++ h) s l c.0 (own_empty z more h p s l.0 c.1 own none))
    (λ f. let c = calm_rest s p e more f calm in
    empty_stays z (e ∷ []) (more ++ h) s l ((λ same. false≢true (sym f ∙ eq-eqb (by e) p (same ∙ own))), tt) (own_empty z more h p s l.0 c own none))
    (cases_Bool (eqb (by e) p))

pub keeps : (b : Board) (own : List Event) (p q : Pass) → AddsEvents b own p q → AreCalm own → stored_in q.plain ≡ stored_in p.plain → KeepsSegments b p → KeepsSegments b q
keeps b own p q m calm same k =
    let lawful : IsLawful b.shape (m.more ++ trace p) = subst (IsLawful b.shape) m.goes_on m.pass.lawful in
    let calmly : (s : ℕ) → AreCalmIn s (own_of (number p) m.more) = λ s. calm_in s (own_of (number p) m.more) (subst AreCalm (sym m.adds) calm) in
    let states : (s : ℕ) → state_of q s ≡ state_of p s = λ s i. state_in ((same i).0 s) in
    let used : (s : ℕ) → used_of q s ≡ used_of p s = λ s i. used_in ((same i).0 s) in
    let lasts : (s : ℕ) → deadline_of q s ≡ deadline_of p s = λ s i. deadline_in ((same i).0 s) in record {
      few = λ s n there. k.few s n (sym (used s) ∙ there);
      rows = λ s n r there lt. ap is_some (ap (λ h. (row_after h s r).linked) m.goes_on
          ∙ own_linked b.shape m.more (trace p) (number p) s r lawful (calmly s) (owns_used b q s n m.pass there
          ∙ m.same)) ∙ k.rows s n r (sym (used s) ∙ there) lt;
      deadlines = λ s n there. ap (λ h. (after b.shape (event.seen h)).deadline s) m.goes_on
          ∙ (same_cached b.shape (trace p) (m.more ++ trace p) s
          (deadline_lasts b.shape m.more (trace p) (number p) s lawful (calmly s) (owns_lasting b q s n m.pass there ∙ m.same))
          ∙ k.deadlines s n (sym (lasts s) ∙ there));
      in_use = λ s is'. states s ∙ k.in_use s (sym (ap (λ x. x.1) same) ∙ is');
      unused = λ s state is' other. subst (λ h. NoneStandsIn (after b.shape (event.seen h)) s) (sym m.goes_on)
          (own_empty b.shape m.more (trace p) (number p) s lawful (calmly s) (owns_stated b q s state m.pass is' ∙ m.same) (k.unused s state (sym (states s) ∙ is') other));
    }

-- a call with an equal plain part
pub keeps_plain : (b : Board) (own : List Event) (p q : Pass) → AddsEvents b own p q → AreCalm own → q.plain ≡ p.plain → KeepsSegments b p → KeepsSegments b q
keeps_plain b own p q m calm same = keeps b own p q m calm (ap stored_in same)

-- ---- an item that comes to name the next row, and a refilling

-- what one step leaves in the pass's own segments
empty_then : (b : Board) (e : Event) (p q : Pass) (s : ℕ) → AddsAtOnce b (e ∷ []) p q → owner b.shape s ≡ number p
    → IsCalmIn s e → NoneStandsIn (after b.shape (seen p)) s → NoneStandsIn (after b.shape (seen q)) s
empty_then b e p q s d own calm none =
    let old : List Event = d.others ++ trace p in
    subst (λ h. NoneStandsIn (after b.shape (event.seen h)) s) (sym d.now)
    (none_by_link b.shape e old s (subst (IsLawful b.shape) d.now d.moved.pass.lawful) calm (empty_stays b.shape d.others (trace p) s d.before (subst (λ n. NoneBy n d.others) (sym own) d.none) none))

-- the item of the event comes to name the row: it is linked, or moved there
abbrev pub ComesToName : ℕ → ℕ → Event → Type 0
ComesToName segment row (Linked p q s r n) = (s ≡ segment) × (r ≡ row)
ComesToName segment row (Relinked p k f i s r n) = (s ≡ segment) × (r ≡ row)
ComesToName segment row e = ⊥

same_there : (t : Bool) (u v : Row) → is_some v.linked ≡ true → is_some (cond t v u).linked ≡ cond t true (is_some u.linked)
same_there true u v there = there
same_there false u v there = refl

-- so many rows more are used
more_used : (r row rows : ℕ) → cond (covers row rows r) true (nat_lt r row) ≡ nat_lt r (row + rows)
more_used r row rows = ⊎_elim
    (λ here. let low = covers-low row rows r here in let high = covers-high row rows r here in
    cond-true (covers row rows r) true (nat_lt r row) here ∙ sym (lt-ltb r (row + rows) high))
    (λ off. cond-false (covers row rows r) true (nat_lt r row) off ∙ ⊎_elim
    (λ lt. lt-ltb r row lt ∙ sym (lt-ltb r (row + rows) (omega arith)))
    (λ le. le-ltb r row le ∙ sym (le-ltb r (row + rows) (not_covered row rows r off le)))
    (cases_lt r row))
    (cases_Bool (covers row rows r))

-- the rows of its segment after that
named_row : (e : Event) (h : List Event) (s row r : ℕ) (u : Row) → ComesToName s row e
    → is_some (cond (of_row h e s r) (writes_row e u) u).linked ≡ cond (covers row (span_of_header ((row_alone h s row).words 0)) r) true (is_some u.linked)
named_row (Linked p q t i n) h s row r u at = let here = covers i (span_of_header ((row_alone h t i).words 0)) r in
    ap (λ a. is_some (cond (a && here) (writes_row (Linked p q t i n) u) u).linked) (eq-eqb t s at.0)
    ∙ (same_there here u (writes_row (Linked p q t i n) u) refl ∙ (λ j. cond (covers (at.1 j) (span_of_header ((row_alone h (at.0 j) (at.1 j)).words 0)) r) true (is_some u.linked)))
named_row (Relinked p k a b t i n) h s row r u at = let here = covers i (span_of_header ((row_alone h t i).words 0)) r in
    ap (λ x. is_some (cond (x && here) (writes_row (Relinked p k a b t i n) u) u).linked) (eq-eqb t s at.0)
    ∙ (same_there here u (writes_row (Relinked p k a b t i n) u) refl ∙ (λ j. cond (covers (at.1 j) (span_of_header ((row_alone h (at.0 j) (at.1 j)).words 0)) r) true (is_some u.linked)))
named_row e h s row r u at = absurd at

-- elsewhere it is calm, and it leaves each deadline
named_calm : (e : Event) (segment row s : ℕ) → ComesToName segment row e → segment ≢ s → IsCalmIn s e
named_calm (Linked p q t i n) segment row s at other = λ same. other (sym at.0 ∙ same)
named_calm (Relinked p k f j t i n) segment row s at other = λ same. other (sym at.0 ∙ same)
named_calm e segment row s at other = absurd at

named_deadline : (e : Event) (h : List Event) (segment row s : ℕ) → ComesToName segment row e → segment_of.deadline_of (e ∷ h) s ≡ segment_of.deadline_of h s
named_deadline (Linked p q t i n) h segment row s at = refl
named_deadline (Relinked p k f j t i n) h segment row s at = refl
named_deadline e h segment row s at = absurd at

-- the next row of a segment in use was linked, or an item moved there, and its rows were then counted as used
pub keeps_named_in : (b : Board) (e : Event) (p r : Pass) (segment row rows : ℕ) → ComesToName segment row e → AddsAtOnce b (e ∷ []) p r → r.plain ≡ p.plain
    → state_of p segment ≡ Some InUse → used_of p segment ≡ Some row → AreRows b.shape row rows → span_in (trace p) segment row ≡ rows
    → IsPassOf b p → KeepsSegments b p → KeepsSegments b (record r { plain = with_used segment (row + rows) r.plain })
keeps_named_in b e p r segment row rows at d same in_use used left takes is k =
    let q : Pass = record r { plain = with_used segment (row + rows) r.plain } in
    let own = owns_used b p segment row is used in let old = d.others ++ trace p in
    let now : used_of q segment ≡ Some (row + rows) = used_set r.plain segment (row + rows) (known r segment row (same_used p r segment same ∙ used)) in
    let quiet = λ (s i : ℕ) (of : owner b.shape s ≡ number p). quiet_alone b.shape d.others (trace p) s i d.before (subst (λ n. NoneBy n d.others) (sym of) d.none) in
    let takes_now : span_of_header ((row_alone old segment row).words 0) ≡ rows =
    ap (λ (u : Row). span_of_header (u.words 0)) (quiet segment row own)
    ∙ (ap span_of_header (sym (first_words (trace p) segment row 0 (omega arith))) ∙ takes) in
    let old_used : (s u : ℕ) → segment ≢ s → used_of q s ≡ Some u
    → used_of p s ≡ Some u = λ s u other there. sym (used_apart r.plain segment (row + rows) s (λ e. other (sym e))
    ∙ same_used p r s same) ∙ there in
    let lasts : (s : ℕ) → deadline_of q s ≡ deadline_of p s = λ s. deadline_counted r.plain segment (row + rows) s ∙ same_deadlines p r s same in
    let states : (s : ℕ) → state_of q s ≡ state_of p s = λ s. state_kept r.plain segment (row + rows) s ∙ same_states p r s same in record {
      few = λ s u there. ⊎_elim
          (λ e. let x : row + rows ≡ u = same_Some (row + rows) u (sym now ∙ (ap (used_of q) e ∙ there)) in
          let fits = left_rows rows row b.shape.rows left in omega (arith, x, fits))
          (λ other. k.few s u (old_used s u other there))
          (cases_eq segment s);
      rows = λ s u i there below. ⊎_elim
          (λ same_segment. let x : row + rows ≡ u = same_Some (row + rows) u (sym now ∙ (ap (used_of q) same_segment ∙ there)) in
          subst (λ y. is_some (row_after (trace r) y i).linked ≡ nat_lt i u) same_segment
          (ap (λ (x : Row). is_some x.linked) (stepped_row b e p r segment i d own) ∙ (named_row e old segment row i (row_alone (trace p) segment i) at
          ∙ ((λ j. cond (covers row (takes_now j) i) true (k.rows segment row i used below j)) ∙ (more_used i row rows ∙ ap (nat_lt i) x)))))
          (λ other. let before = old_used s u other there in let of = owns_used b p s u is before in
          ap (λ h. is_some (row_after h s i).linked) d.now
          ∙ (ap is_some (calm_linked e old s i (named_calm e segment row s at other))
          ∙ (ap (λ (x : Row). is_some x.linked) (quiet s i of) ∙ k.rows s u i before below)))
          (cases_eq segment s);
      deadlines = λ s n there. let before = sym (lasts s) ∙ there in
          same_cached b.shape (trace p) (trace r) s (ap (λ h. segment_of.deadline_of h s) d.now
          ∙ (named_deadline e old segment row s at ∙ others_deadline b _ p r s d (owns_lasting b p s n is before)))
          ∙ k.deadlines s n before;
      in_use = λ s is'. states s ∙ k.in_use s (sym (ap (λ (x : PlainPart). x.current) same) ∙ is');
      unused = λ s state is' not.
          let before : state_of p s ≡ Some state = sym (states s) ∙ is' in
          let other : segment ≢ s = λ e. not (same_Some state InUse (sym before ∙ (ap (state_of p) (sym e) ∙ in_use))) in
          empty_then b e p r s d (owns_stated b p s state is before) (named_calm e segment row s at other) (k.unused s state before not);
    }

-- so it is of the current segment
pub keeps_named : (b : Board) (e : Event) (p r : Pass) (segment row rows : ℕ) → ComesToName segment row e → AddsAtOnce b (e ∷ []) p r → r.plain ≡ p.plain
    → current_of p ≡ Some segment → used_of p segment ≡ Some row → AreRows b.shape row rows → span_in (trace p) segment row ≡ rows
    → IsPassOf b p → KeepsSegments b p → KeepsSegments b (record r { plain = with_used segment (row + rows) r.plain })
keeps_named b e p r segment row rows at d same current used left takes is k =
    keeps_named_in b e p r segment row rows at d same (k.in_use segment current) used left takes is k

-- what is known of the segments after a refilling
module _ (x : PlainPart) (segment deadline : ℕ) where
  abbrev dated : PlainPart
  dated = with_deadline segment deadline x

  abbrev taken : PlainPart
  taken = with_state segment InUse dated

  pub refilled_owner : owner_of (refilled segment deadline x) ≡ owner_of x
  refilled_owner = owner_counted taken segment 0 ∙ (owner_stated dated segment InUse ∙ owner_lasting x segment deadline)

  there_dated : IsSome (own_segment x segment) → IsSome (own_segment dated segment)
  there_dated there = sym (deadline_there (own_segment dated segment)) ∙ ap is_some (deadline_set x segment deadline there)

  there_taken : IsSome (own_segment x segment) → IsSome (own_segment taken segment)
  there_taken there = sym (state_there (own_segment taken segment)) ∙ ap is_some (state_set dated segment InUse (there_dated there))

  pub refilled_state : IsSome (own_segment x segment) → state_in (own_segment (refilled segment deadline x) segment) ≡ Some InUse
  refilled_state there = state_kept taken segment 0 segment ∙ state_set dated segment InUse (there_dated there)

  pub refilled_used : IsSome (own_segment x segment) → used_in (own_segment (refilled segment deadline x) segment) ≡ Some 0
  refilled_used there = used_set taken segment 0 (there_taken there)

  pub refilled_deadline : IsSome (own_segment x segment) → deadline_in (own_segment (refilled segment deadline x) segment) ≡ Some deadline
  refilled_deadline there = deadline_counted taken segment 0 segment ∙ (deadline_stated dated segment InUse segment ∙ deadline_set x segment deadline there)

  pub others_state : (s : ℕ) → s ≢ segment → state_in (own_segment (refilled segment deadline x) s) ≡ state_in (own_segment x s)
  others_state s ne = state_kept taken segment 0 s ∙ (state_apart dated segment InUse s ne ∙ state_lasting x segment deadline s)

  pub others_used : (s : ℕ) → s ≢ segment → used_in (own_segment (refilled segment deadline x) s) ≡ used_in (own_segment x s)
  others_used s ne = used_apart taken segment 0 s ne ∙ (used_kept dated segment InUse s ∙ used_lasting x segment deadline s)

  pub others_last : (s : ℕ) → s ≢ segment → deadline_in (own_segment (refilled segment deadline x) s) ≡ deadline_in (own_segment x s)
  others_last s ne = deadline_counted taken segment 0 s ∙ (deadline_stated dated segment InUse s ∙ deadline_apart x segment deadline s ne)

-- the segment was refilled, and is in use, with no row used
pub keeps_refilled : (b : Board) (p r : Pass) (segment deadline : ℕ) (state : SegState)
    → AddsAtOnce b (Refilled (number p) segment deadline ∷ []) p r → r.plain ≡ p.plain
    → state_of p segment ≡ Some state → state ≢ InUse
    → IsPassOf b p → KeepsSegments b p → KeepsSegments b (record r { plain = refilled_aside segment deadline r.plain })
keeps_refilled b p r segment deadline state d same was other_state is k =
    let q : Pass = record r { plain = refilled_aside segment deadline r.plain } in let e = Refilled (number p) segment deadline in
    let there_now : IsSome (own_segment r.plain segment) = sym (state_there (own_segment r.plain segment)) ∙ ap is_some (same_states p r segment same ∙ was) in
    let still = moved_still b _ p r (refilled_aside segment deadline r.plain) d.moved (refilled_owner r.plain segment deadline) in
    let known_owner : (s n : ℕ) → deadline_of q s ≡ Some n → owner b.shape s ≡ number p = (λ s n there. owns_lasting b q s n still.pass there ∙ still.same) in
    let now : state_of q segment ≡ Some InUse = refilled_state r.plain segment deadline there_now in
    let empty : used_of q segment ≡ Some 0 = refilled_used r.plain segment deadline there_now in
    let old_used : (s u : ℕ) → segment ≢ s → used_of q s ≡ Some u
    → used_of p s ≡ Some u = λ s u other there. sym (others_used r.plain segment deadline s (λ x. other (sym x))
    ∙ same_used p r s same) ∙ there in record {
      few = λ s u there. ⊎_elim
          (λ x. let y : 0 ≡ u = same_Some 0 u (sym empty ∙ (ap (used_of q) x ∙ there)) in omega arith)
          (λ other. k.few s u (old_used s u other there))
          (cases_eq segment s);
      rows = λ s u i there below. ⊎_elim
          (λ x. let y : 0 ≡ u = same_Some 0 u (sym empty ∙ (ap (used_of q) x ∙ there)) in
          ap (λ (v : Row). is_some v.linked) (stepped_row b e p r s i d (ap (owner b.shape) (sym x)
          ∙ owns_stated b p segment state is was) ∙ cond-true (eqb segment s)
          (writes_row e (row_alone (trace p) s i)) (row_alone (trace p) s i) (eq-eqb segment s x))
          ∙ (sym (le-ltb i 0 (omega arith)) ∙ ap (nat_lt i) y))
          (λ other. let before = old_used s u other there in
          ap (λ (v : Row). is_some v.linked) (stepped_row b e p r s i d (owns_used b p s u is before)
          ∙ cond-false (eqb segment s) (writes_row e (row_alone (trace p) s i)) (row_alone (trace p) s i)
          (ne_eqb segment s other)) ∙ k.rows s u i before below)
          (cases_eq segment s);
      deadlines = λ s n there. let lasts : segment_of.deadline_of (trace r) s ≡ cond (eqb segment s) deadline (segment_of.deadline_of (trace p) s) =
          ap (λ h. segment_of.deadline_of h s) d.now ∙ ap (cond (eqb segment s) deadline) (others_deadline b _ p r s d (known_owner s n there)) in ⊎_elim
          (λ x. let y : deadline ≡ n = same_Some deadline n (sym (refilled_deadline r.plain segment deadline there_now) ∙ (ap (deadline_of q) x ∙ there)) in
          deadline_seen b.shape (trace r) s ∙ (lasts ∙ (cond-true (eqb segment s) deadline (segment_of.deadline_of (trace p) s) (eq-eqb segment s x) ∙ y)))
          (λ other. let before : deadline_of p s ≡ Some n = sym (others_last r.plain segment deadline s (λ x. other (sym x)) ∙ same_deadlines p r s same) ∙ there in
          same_cached b.shape (trace p) (trace r) s (lasts ∙ cond-false (eqb segment s) deadline (segment_of.deadline_of (trace p) s) (ne_eqb segment s other)) ∙ k.deadlines s n before)
          (cases_eq segment s);
      in_use = λ s is'.
          let before : state_of p s ≡ Some InUse = k.in_use s (sym (ap (λ (x : PlainPart). x.current) same) ∙ is') in
          let other : s ≢ segment = λ x. other_state (same_Some state InUse (sym was ∙ (ap (state_of p) (sym x) ∙ before))) in
          others_state r.plain segment deadline s other ∙ (same_states p r s same ∙ before);
      unused = λ s n is' not.
          let other : segment ≢ s = λ x. not (same_Some n InUse (sym is' ∙ (ap (state_of q) (sym x) ∙ now))) in
          let before : state_of p s ≡ Some n = sym (others_state r.plain segment deadline s (λ x. other (sym x)) ∙ same_states p r s same) ∙ is' in
          empty_then b e p r s d (owns_stated b p s n is before) other (k.unused s n before not);
    }

-- and then it is the current one
pub keeps_current : (b : Board) (p : Pass) (segment : ℕ) → state_of p segment ≡ Some InUse → KeepsSegments b p → KeepsSegments b (record p { plain = with_current (Some segment) p.plain })
keeps_current b p segment in_use k = record {
  few = k.few;
  rows = k.rows;
  deadlines = k.deadlines;
  in_use = λ s is. ap (state_of p) (sym (same_Some segment s is)) ∙ in_use;
  unused = k.unused;
}
