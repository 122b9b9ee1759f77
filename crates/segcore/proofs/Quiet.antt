-- What a pass knows of a bucket whose bit it has, and of its own rows, stays so whatever others do.
use Rattle.std.proofs.Common.{◌≡◌, ◌≢◌, ℕ, ◌+◌, ◌<◌, ◌≤◌, Bool, true, false, cond, eqb, ◌&&◌, ◌||◌, List, [], ◌∷◌, ◌++◌, length, Option, Some, None, MatchOption, sym, refl, ap, ◌∙◌, subst, ⊎_elim, arith}
use Rattle.std.proofs.lemmas.Bool.{cases_Bool, cond-false, eqb-true, ne_eqb, and_parts, false≢true, false_from_ne_true}
use Rattle.std.proofs.lemmas.Option.{same_Some, none-some}
use Rattle.segword.specs.Words.{covers, Shape, span_of, span_of_header}
use Rattle.segmodel.specs.declared.request.Request.TheVariants.{Delete}
use Rattle.segmodel.specs.declared.request.Reply.TheVariants.{Stored, Deleted}
use Rattle.segmodel.specs.declared.entry.Entry.TheVariants as entry
use Rattle.segmodel.specs.Words.{after, bucket_of, Follows, IsSameAt, key_of, moment_of, owner, Reply, value_of}
use Rattle.segmodel.specs.Words.{reply_to, Request}
use Rattle.segcore.proofs.Caches.{stands}
use Rattle.segcore.specs.Bucket.{bucket_at, is, acts, bucket_after, IsPosition, Bucket}
use Rattle.segcore.specs.Event.{by, removal, seen, NoneBy}
use Rattle.segcore.specs.Lawful.{AreOwnRows, HasRoomFor, IsOwnRow, NoneAt, needs, Suits, Fits, IsLawful, is_of_now}
use Rattle.segcore.specs.Overflow.{drawn_in, Home, home_of}
use Rattle.segcore.specs.Row.{is_of_row, Row, row_after, row_alone, span_in, writes_row}
use Rattle.segcore.proofs.Spans.{alone_span, first_words, header_some, own_first, own_row, own_rows_same, same_after, span_some}
use Rattle.segcore.specs.Segment.{inside, was_used, deadline_of}
use Rattle.segmodel.proofs.HistoryLemmas.{next_other, kept-deadlines}
use Rattle.std.specs.Prelude.{is_some, IsSomeAnd}
use Rattle.segcore.specs.Words.{Event, Leaving}
use Rattle.segcore.specs.declared.event.Event.TheVariants.{Took, Freed, Replied, Filled, Linked, Relinked, Unlinked, Drew, Put, Chained, Entered, Left, Refilled}
use Rattle.segcore.specs.declared.event.Leaving.TheVariants.{Deletes, Evicts}

-- an event at a bucket whose bit the pass q has is one of q
needs_by : (e : Event) (q : ℕ) → needs e ≡ Some q → by e ≡ q
needs_by (Took p b) q h = absurd (none-some q h)
needs_by e q h = same_Some (by e) q h

at_bucket : (z : Shape) (h : List Event) (e : Event) (b q : ℕ) (o : Option ℕ)
    → MatchOption o (Unit {0}) (λ b. (b < z.buckets) × ((bucket_after z h b).holder ≡ needs e)) → is o b ≡ true
    → (bucket_after z h b).holder ≡ Some q → by e ≡ q
at_bucket z h e b q None g t held = absurd (false≢true t)
at_bucket z h e b q (Some a) g t held = needs_by e q (sym g.1 ∙ (ap (λ x. (bucket_after z h x).holder) (eqb-true a b t) ∙ held))

-- an event of another pass is of another bucket
away : (z : Shape) (h : List Event) (e : Event) (b p : ℕ) → Fits z h e → by e ≢ p → (bucket_after z h b).holder ≡ Some p → is (bucket_at z e) b ≡ false
away z h e b p f other held = false_from_ne_true (is (bucket_at z e) b) (λ t. other (at_bucket z h e b p (bucket_at z e) f.guarded t held))

pub quiet : (z : Shape) (more h : List Event) (p b : ℕ) → IsLawful z (more ++ h) → NoneBy p more → (bucket_after z h b).holder ≡ Some p → bucket_after z (more ++ h) b ≡ bucket_after z h b
quiet z [] h p b l n held = refl
quiet z (e ∷ more) h p b l n held =
    let ih = quiet z more h p b l.0 n.1 held in
    let off = away z (more ++ h) e b p l.1 n.0 (ap (λ u. u.holder) ih ∙ held) in
    rw off ih

removed_at : (z : Shape) (p : ℕ) (k' : List ℕ) (why : Leaving) (h : List Event) (k : List ℕ) → Follows z (after z (seen h)) (removal p k' why) → eqb (bucket_of z k') (bucket_of z k) ≡ false
    → IsSameAt z (after z (seen h)) (after z (removal p k' why ∷ seen h)) k
removed_at z p k' (Deletes m) h k follows f = next_other z (after z (seen h)) (removal p k' (Deletes m)) k follows f
removed_at z p k' (Evicts s) h k follows f = next_other z (after z (seen h)) (removal p k' (Evicts s)) k follows f

-- an event of another bucket leaves what stands under a key, and the version of its bucket
pub same_at : (z : Shape) (e : Event) (h : List Event) (k : List ℕ) → Fits z h e → is (bucket_at z e) (bucket_of z k) ≡ false
    → IsSameAt z (after z (seen h)) (after z (seen (e ∷ h))) k
same_at z (Replied p q y) h k fits f = next_other z (after z (seen h)) (entry.Wrote p q y None) k fits.follows f
same_at z (Linked p q s r n) h k fits f = next_other z (after z (seen h)) (entry.Wrote p q Stored (Some s)) k fits.follows f
same_at z (Relinked p k' a i s r n) h k fits f = next_other z (after z (seen h)) (entry.Moved p k' a s) k fits.follows f
same_at z (Unlinked p k' n why) h k fits f = removed_at z p k' why h k fits.follows f
same_at z (Refilled p s d) h k fits f = next_other z (after z (seen h)) (entry.Refilled p s d) k fits.follows refl
same_at z e h k fits f = record { stands = refl; finds = λ now. refl; version = refl }

-- while a pass has the bit, others leave what stands under a key of its bucket, and the version
pub quiet_at : (z : Shape) (more h : List Event) (p : ℕ) (k : List ℕ) → IsLawful z (more ++ h) → NoneBy p more
    → (bucket_after z h (bucket_of z k)).holder ≡ Some p
    → IsSameAt z (after z (seen h)) (after z (seen (more ++ h))) k
quiet_at z [] h p k l n held = record { stands = refl; finds = λ now. refl; version = refl }
quiet_at z (e ∷ more) h p k l n held =
    let b = bucket_of z k in
    let last = same_at z e (more ++ h) k l.1 (away z (more ++ h) e b p l.1 n.0 (ap (λ u. u.holder) (quiet z more h p b l.0 n.1 held) ∙ held)) in
    let rest = quiet_at z more h p k l.0 n.1 held in
    record { stands = last.stands ∙ rest.stands; finds = λ now. last.finds now ∙ rest.finds now; version = last.version ∙ rest.version }

pub quiet_stands : (z : Shape) (more h : List Event) (p : ℕ) (k : List ℕ) → IsLawful z (more ++ h) → NoneBy p more
    → (bucket_after z h (bucket_of z k)).holder ≡ Some p → stands z (seen (more ++ h)) k ≡ stands z (seen h) k
quiet_stands z more h p k l n held = (quiet_at z more h p k l n held).stands

-- ---- rows

-- whether an event is of a row, or of an item that the row is of
abbrev pub of_row : List Event → Event → ℕ → ℕ → Bool
of_row h e s r = is_of_row (λ t i. (row_alone h t i).words 0) e s r

-- the rows of an item that is linked, or moved there, are the pass's own
pub linked_own : (z : Shape) (h : List Event) (p : ℕ) (q : Request) (s r n i : ℕ) → Suits z h (Linked p q s r n)
    → covers r (span_of_header ((row_alone h s r).words 0)) i ≡ true → IsOwnRow z h p s i
linked_own z h p q s r n i u c =
    own_row z h p s r (span_of (key_of q) (value_of q)) i u.0
    (subst (λ m. covers r m i ≡ true) (alone_span h s r (key_of q) (value_of q) u.5 u.6 u.1) c)

pub moved_own : (z : Shape) (h : List Event) (p : ℕ) (k : List ℕ) (a f s r n i : ℕ) → Suits z h (Relinked p k a f s r n)
    → covers r (span_of_header ((row_alone h s r).words 0)) i ≡ true → IsOwnRow z h p s i
moved_own z h p k a f s r n i u c =
    own_row z h p s r (span_in h s r) i u.0
    (subst (λ w. covers r (span_of_header w) i ≡ true) (sym (first_words h s r 0 (omega arith))) c)

-- and so is the first of them
pub linked_first : (z : Shape) (h : List Event) (p : ℕ) (q : Request) (s r n : ℕ) → Suits z h (Linked p q s r n) → IsOwnRow z h p s r
linked_first z h p q s r n u =
    own_first z h p s r (span_of (key_of q) (value_of q)) (span_some (length (key_of q)) (length (value_of q))) u.0

pub moved_first : (z : Shape) (h : List Event) (p : ℕ) (k : List ℕ) (a f s r n : ℕ) → Suits z h (Relinked p k a f s r n) → IsOwnRow z h p s r
moved_first z h p k a f s r n u = own_first z h p s r (span_in h s r) (header_some ((row_after h s r).words 0)) u.0

at_row : (z : Shape) (h : List Event) (e : Event) (s r : ℕ) → Suits z h e → of_row h e s r ≡ true → owner z s ≡ by e
at_row z h (Filled p s' r' j w) s r u t = let q = and_parts (eqb s' s) (eqb r' r) t in rw (← eqb-true s' s q.0) u.0.2
at_row z h (Linked p q' s' r' n) s r u t =
    let q = and_parts (eqb s' s) (covers r' (span_of_header ((row_alone h s' r').words 0)) r) t in
    rw (← eqb-true s' s q.0) (linked_first z h p q' s' r' n u).2
at_row z h (Relinked p k a i s' r' n) s r u t =
    let q = and_parts (eqb s' s) (covers r' (span_of_header ((row_alone h s' r').words 0)) r) t in
    rw (← eqb-true s' s q.0) (moved_first z h p k a i s' r' n u).2
at_row z h (Refilled p s' d) s r u t = rw (← eqb-true s' s t) u.1
at_row z h e s r u t = absurd (false≢true t)

-- a row whose words an event writes or links isn't linked
pub at_unlinked : (z : Shape) (h : List Event) (e : Event) (s r : ℕ) → Suits z h e → ((p t d : ℕ) → e ≢ Refilled p t d) → of_row h e s r ≡ true → (row_alone h s r).linked ≡ None
at_unlinked z h (Filled p s' r' j w) s r u other t = let q = and_parts (eqb s' s) (eqb r' r) t in rw (← eqb-true s' s q.0, ← eqb-true r' r q.1) u.0.3
at_unlinked z h (Linked p q' s' r' n) s r u other t =
    let q = and_parts (eqb s' s) (covers r' (span_of_header ((row_alone h s' r').words 0)) r) t in
    subst (λ x. (row_alone h x r).linked ≡ None) (eqb-true s' s q.0) (linked_own z h p q' s' r' n r u q.1).3
at_unlinked z h (Relinked p k a i s' r' n) s r u other t =
    let q = and_parts (eqb s' s) (covers r' (span_of_header ((row_alone h s' r').words 0)) r) t in
    subst (λ x. (row_alone h x r).linked ≡ None) (eqb-true s' s q.0) (moved_own z h p k a i s' r' n r u q.1).3
at_unlinked z h (Refilled p s' d) s r u other t = absurd (other p s' d refl)
at_unlinked z h e s r u other t = absurd (false≢true t)

pub quiet_alone : (z : Shape) (more h : List Event) (s r : ℕ) → IsLawful z (more ++ h) → NoneBy (owner z s) more → row_alone (more ++ h) s r ≡ row_alone h s r
quiet_alone z [] h s r l n = refl
quiet_alone z (e ∷ more) h s r l n =
    let off = false_from_ne_true (of_row (more ++ h) e s r) (λ t. n.0 (sym (at_row z (more ++ h) e s r l.1.suits t))) in
    cond-false (of_row (more ++ h) e s r) (writes_row e (row_alone (more ++ h) s r)) (row_alone (more ++ h) s r) off
    ∙ quiet_alone z more h s r l.0 n.1

pub quiet_row : (z : Shape) (more h : List Event) (s r : ℕ) → IsLawful z (more ++ h) → NoneBy (owner z s) more → row_after (more ++ h) s r ≡ row_after h s r
quiet_row z more h s r l n = same_after h (more ++ h) s r (λ i _. quiet_alone z more h s i l n)

-- ---- readers

pub off : (a b : Bool) → a ≡ false → (x y : ℕ) → cond (a && b) x y ≡ y
off a b f x y = rw f refl

same_inside : (e : Event) (h : List Event) (p s : ℕ) → by e ≢ p → inside (e ∷ h) p s ≡ inside h p s
same_inside (Entered q t) h p s ne = off (eqb q p) (eqb t s) (ne_eqb q p ne) (inside h p s + 1) (inside h p s)
same_inside (Left q t) h p s ne = off (eqb q p) (eqb t s) (ne_eqb q p ne) _ (inside h p s)
same_inside e h p s ne = refl

pub quiet_inside : (more h : List Event) (p s : ℕ) → NoneBy p more → inside (more ++ h) p s ≡ inside h p s
quiet_inside [] h p s n = refl
quiet_inside (e ∷ more) h p s n = same_inside e (more ++ h) p s n.0 ∙ quiet_inside more h p s n.1

or_right : (a b : Bool) → b ≡ true → (a || b) ≡ true
or_right true b t = refl
or_right false b t = t

still_used : (e : Event) (h : List Event) (s : ℕ) → was_used h s ≡ true → was_used (e ∷ h) s ≡ true
still_used (Linked p q t r n) h s u = or_right (eqb t s) (was_used h s) u
still_used (Relinked p k a i t r n) h s u = or_right (eqb t s) (was_used h s) u
still_used e h s u = u

pub used_stays : (more h : List Event) (s : ℕ) → was_used h s ≡ true → was_used (more ++ h) s ≡ true
used_stays [] h s u = u
used_stays (e ∷ more) h s u = still_used e (more ++ h) s (used_stays more h s u)

-- ---- overflow buckets

pub drawn_step : (e : Event) (h : List Event) → drawn_in h ≤ drawn_in (e ∷ h)
drawn_step (Drew p b d m) h = omega arith
drawn_step e h = omega arith

pub drawn_grows : (more h : List Event) → drawn_in h ≤ drawn_in (more ++ h)
drawn_grows [] h = omega arith
drawn_grows (e ∷ more) h = let a = drawn_grows more h in let b = drawn_step e (more ++ h) in omega arith

pub home_drawn : (z : Shape) (h : List Event) (m : ℕ) (x : Home) → IsLawful z h → home_of h m ≡ Some x → m < drawn_in h
home_drawn z [] m x l is = absurd (none-some x is)
home_drawn z (Drew p b d n ∷ h) m x l is = ⊎_elim
    (λ t. let a = eqb-true n m t in let e = l.1.suits.0 in omega arith)
    (λ f. let a = home_drawn z h m x l.0 (sym (cond-false (eqb n m) (Some _) (home_of h m) f) ∙ is) in omega arith)
    (cases_Bool (eqb n m))
home_drawn z (e ∷ h) m x l is = home_drawn z h m x l.0 is

home_step : (z : Shape) (e : Event) (h : List Event) (m : ℕ) (x : Home) → IsLawful z (e ∷ h) → home_of h m ≡ Some x → home_of (e ∷ h) m ≡ Some x
home_step z (Drew p b d n) h m x l is = let a = home_drawn z h m x l.0 is in let e = l.1.suits.0 in
    cond-false (eqb n m) (Some _) (home_of h m) (ne_eqb n m (λ t. omega arith)) ∙ is
home_step z e h m x l is = is

pub home_stays : (z : Shape) (more h : List Event) (m : ℕ) (x : Home) → IsLawful z (more ++ h) → home_of h m ≡ Some x → home_of (more ++ h) m ≡ Some x
home_stays z [] h m x l is = is
home_stays z (e ∷ more) h m x l is = home_step z e (more ++ h) m x l (home_stays z more h m x l.0 is)

-- ---- a chain only grows

act_grows : (e : Event) (u : Bucket) → u.chained ≤ (acts e u).chained
act_grows (Chained p b m) u = omega arith
act_grows e u = omega arith

pub chained_grows : (z : Shape) (more h : List Event) (b : ℕ) → (bucket_after z h b).chained ≤ (bucket_after z (more ++ h) b).chained
chained_grows z [] h b = omega arith
chained_grows z (e ∷ more) h b = let a = chained_grows z more h b in ⊎_elim
    (λ t. let g = act_grows e (bucket_after z (more ++ h) b) in rw t (omega arith))
    (λ f. rw f a)
    (cases_Bool (is (bucket_at z e) b))

pub position_stays : (z : Shape) (more h : List Event) (b n : ℕ) → IsPosition (bucket_after z h b) n → IsPosition (bucket_after z (more ++ h) b) n
position_stays z more h b n i = let a = chained_grows z more h b in let lt = i.0 in (omega arith, i.1)

-- ---- deadlines

-- the cache's deadline of a segment is the one that its last refilling set
pub deadline_seen : (z : Shape) (h : List Event) (s : ℕ) → (after z (seen h)).deadline s ≡ deadline_of h s
deadline_seen z [] s = refl
deadline_seen z (Replied p q y ∷ h) s = ap (λ d. d s) (kept-deadlines z q y None (after z (seen h))) ∙ deadline_seen z h s
deadline_seen z (Linked p q t r n ∷ h) s = deadline_seen z h s
deadline_seen z (Relinked p k a i t r n ∷ h) s = deadline_seen z h s
deadline_seen z (Unlinked p k n (Deletes m) ∷ h) s = deadline_seen z h s
deadline_seen z (Unlinked p k n (Evicts t) ∷ h) s = deadline_seen z h s
deadline_seen z (Refilled p t d ∷ h) s = ap (cond (eqb t s) d) (deadline_seen z h s)
deadline_seen z (e ∷ h) s = deadline_seen z h s

-- only its owner sets the deadline of a segment
own_event : (z : Shape) (e : Event) (h : List Event) (s : ℕ) → Fits z h e → by e ≢ owner z s → deadline_of (e ∷ h) s ≡ deadline_of h s
own_event z (Refilled q t d) h s f ne = cond-false (eqb t s) d (deadline_of h s) (ne_eqb t s (λ e. ne (sym f.suits.1 ∙ ap (owner z) e)))
own_event z e h s f ne = refl

pub own_deadline : (z : Shape) (more h : List Event) (s : ℕ) → IsLawful z (more ++ h) → NoneBy (owner z s) more → deadline_of (more ++ h) s ≡ deadline_of h s
own_deadline z [] h s l n = refl
own_deadline z (e ∷ more) h s l n = own_event z e (more ++ h) s l.1 n.0 ∙ own_deadline z more h s l.0 n.1

-- so it stays in the cache too, whatever others do
same_own_deadline : (z : Shape) (more h : List Event) (s : ℕ) → IsLawful z (more ++ h) → NoneBy (owner z s) more → (after z (seen (more ++ h))).deadline s ≡ (after z (seen h)).deadline s
same_own_deadline z more h s l n = deadline_seen z (more ++ h) s ∙ (own_deadline z more h s l n ∙ sym (deadline_seen z h s))

-- ---- an event that fits after what a pass has seen fits also after what others did since

later_follows : (z : Shape) (more h : List Event) (p : ℕ) (q : Request) (y : Reply) (s : Option ℕ)
    → IsLawful z (more ++ h) → NoneBy p more → (bucket_after z h (bucket_of z (key_of q))).holder ≡ Some p
    → Follows z (after z (seen h)) (entry.Wrote p q y s)
    → Follows z (after z (seen (more ++ h))) (entry.Wrote p q y s)
later_follows z more h p q y s l n held f =
    let same = quiet_at z more h p (key_of q) l n held in
    (f.0 ∙ (λ i. reply_to q (is_some ((sym (same.finds (moment_of q))) i)) ((sym same.version) i)), f.1)

later_left : (z : Shape) (more h : List Event) (p : ℕ) (k : List ℕ) (why : Leaving) → IsLawful z (more ++ h)
    → NoneBy p more → (bucket_after z h (bucket_of z k)).holder ≡ Some p
    → Follows z (after z (seen h)) (removal p k why) → Follows z (after z (seen (more ++ h))) (removal p k why)
later_left z more h p k (Deletes m) l n held f = later_follows z more h p (Delete k m) Deleted None l n held f
later_left z more h p k (Evicts s) l n held f = (subst (λ o. IsSomeAnd o (λ item. item.segment ≡ s)) (sym (quiet_stands z more h p k l n held)) f.0, f.1)

pub later : (z : Shape) (more h : List Event) (e : Event) → IsLawful z (more ++ h) → NoneBy (by e) more → is_of_now e ≡ false → Fits z h e → Fits z (more ++ h) e
later z more h (Entered p s) l n t f = record { guarded = tt; follows = tt; suits = (f.suits.0, f.suits.1, rw (quiet_inside more h p s n) f.suits.2, used_stays more h s f.suits.3) }
later z more h (Left p s) l n t f = record { guarded = tt; follows = tt; suits = rw (quiet_inside more h p s n) f.suits }
later z more h (Freed p b c) l n t f =
    let same = quiet z more h p b l n f.guarded.1 in
    record { guarded = (f.guarded.0, rw same f.guarded.1); follows = tt; suits = rw same f.suits }
later z more h (Replied p q y) l n t f =
    let same = quiet z more h p (bucket_of z (key_of q)) l n f.guarded.1 in
    record { guarded = (f.guarded.0, rw same f.guarded.1); follows = later_follows z more h p q y None l n f.guarded.1 f.follows; suits = f.suits }
later z more h (Filled p s r j w) l n t f =
    let own = f.suits.0 in
    let same = quiet_row z more h s r l (rw own.2 n) in
    record { guarded = tt; follows = tt; suits = ((own.0, own.1, own.2, ap (λ (u : Row). u.linked) same ∙ own.3), f.suits.1) }
later z more h (Linked p q s r m) l n t f =
    let k = key_of q in let u = f.suits in
    let same = quiet z more h p (bucket_of z k) l n f.guarded.1 in
    let others : NoneBy (owner z s) more = rw (linked_first z h p q s r m u).2 n in
    let room : HasRoomFor z (more ++ h) k m = rw (same, quiet_stands z more h p k l n f.guarded.1) u.4 in
    record {
      guarded = (f.guarded.0, rw same f.guarded.1);
      follows = later_follows z more h p q Stored (Some s) l n f.guarded.1 f.follows;
      suits = (
        own_rows_same z h (more ++ h) p s r (span_of k (value_of q)) (λ i. ap (λ (u : Row). u.linked) (quiet_row z more h s i l others)) u.0,
        λ j lt. ap (λ (u : Row). u.words j) (quiet_row z more h s r l others) ∙ u.1 j lt,
        ap (λ (u : Bucket). u.written) same ∙ u.2,
        subst (λ (u : Bucket). IsPosition u m) (sym same) u.3,
        room,
        u.5,
        u.6,
      );
    }
later z more h (Relinked p k a i s r m) l n t f =
    let same = quiet z more h p (bucket_of z k) l n f.guarded.1 in
    let same_stands = quiet_stands z more h p k l n f.guarded.1 in
    let x = f.follows in
    let others : NoneBy (owner z s) more = rw x.2 n in
    let same_row = quiet_row z more h s r l others in
    record {
      guarded = (f.guarded.0, rw same f.guarded.1);
      follows = (
        subst (λ o. IsSomeAnd o (λ item. item.segment ≡ a)) (sym same_stands) x.0,
        x.1,
        x.2,
        x.3,
        same_own_deadline z more h a l (rw x.1 n) ∙ (x.4 ∙ sym (same_own_deadline z more h s l (rw x.2 n))),
      );
      suits = (
        subst (λ w. AreOwnRows z (more ++ h) p s r (span_of_header w)) (sym (ap (λ (u : Row). u.words 0) same_row))
            (own_rows_same z h (more ++ h) p s r (span_in h s r) (λ i. ap (λ (u : Row). u.linked) (quiet_row z more h s i l others)) f.suits.0),
        (f.suits.1.0, same_stands ∙ f.suits.1.1, λ j lt. ap (λ (u : Row). u.words j) same_row ∙ f.suits.1.2 j lt),
        ap (λ (u : Bucket). u.items m) same ∙ f.suits.2,
      );
    }
later z more h (Unlinked p k m why) l n t f =
    let same = quiet z more h p (bucket_of z k) l n f.guarded.1 in
    record { guarded = (f.guarded.0, rw same f.guarded.1); follows = later_left z more h p k why l n f.guarded.1 f.follows; suits = rw same f.suits }
later z more h (Put p b w) l n t f =
    let same = quiet z more h p b l n f.guarded.1 in
    record { guarded = (f.guarded.0, rw same f.guarded.1); follows = tt; suits = rw same f.suits }
later z more h (Chained p b m) l n t f =
    let same = quiet z more h p b l n f.guarded.1 in
    record { guarded = (f.guarded.0, rw same f.guarded.1); follows = tt; suits = rw same f.suits }
later z more h e l n t f = absurd (false≢true (sym t))

act_others : (e : Event) (p : ℕ) (u : Bucket) → by e ≢ p → u.holder ≢ Some p → (acts e u).holder ≢ Some p
act_others (Took q b) p u other ne = λ s. other (same_Some q p s)
act_others (Freed q b c) p u other ne = λ s. none-some p s
act_others e p u other ne = ne

-- nobody else gives the pass a bit
pub not_mine : (z : Shape) (more h : List Event) (p b : ℕ) → NoneBy p more → (bucket_after z h b).holder ≢ Some p → (bucket_after z (more ++ h) b).holder ≢ Some p
not_mine z [] h p b n ne = ne
not_mine z (e ∷ more) h p b n ne = let ih = not_mine z more h p b n.1 ne in ⊎_elim
    (λ t. rw t (act_others e p (bucket_after z (more ++ h) b) n.0 ih))
    (λ f. rw f ih)
    (cases_Bool (is (bucket_at z e) b))

-- nothing of a bucket happens past what the pass with its bit has seen
pub quiet_none : (z : Shape) (more h : List Event) (p b : ℕ) → IsLawful z (more ++ h) → NoneBy p more → (bucket_after z h b).holder ≡ Some p → NoneAt z b more
quiet_none z [] h p b l n held = tt
quiet_none z (e ∷ more) h p b l n held = (away z (more ++ h) e b p l.1 n.0 (ap (λ u. u.holder) (quiet z more h p b l.0 n.1 held) ∙ held), quiet_none z more h p b l.0 n.1 held)
