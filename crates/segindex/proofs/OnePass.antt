-- Where an index has one pass, all that has happened is that pass's.
use Rattle.std.specs.Prelude.{MatchOption}
use Rattle.std.proofs.Common.{◌≡◌, ◌≢◌, ℕ, ◌+◌, ◌<◌, true, List, [], ◌∷◌, Option, Some, None, refl, sym, ap, subst, ◌∙◌, ⊎_elim, append-nil, arith}
use Rattle.std.proofs.lemmas.Bool.{cases_Bool, cond-true, cond-false, eqb-true, false≢true}
use Rattle.std.proofs.lemmas.Option.{none-some, same_Some}
use Rattle.segword.specs.Words.{Shape}
use Rattle.segcore.specs.declared.event.Event.TheVariants.{Took, Freed}
use Rattle.segcore.specs.Words.{acts, AllBy, bounced, Bucket, bucket_after, bucket_at, by}
use Rattle.segcore.specs.Words.{chained_to, Event, inside, is, IsLawful, needs, seen, width}
use Rattle.segcore.proofs.Counts.{mine_own}
use Rattle.segcore.proofs.Homes.{spare_held}
use Rattle.segcore.proofs.KeyCounts.{wide}
use Rattle.segcore.proofs.Marked.{chained_marked}
use Rattle.segcore.proofs.Quiet.{quiet_inside}
use Rattle.segbase.specs.Words.{Board, locked_of, number, Pass, trace}
use Rattle.segbase.specs.Passes as passes
use Rattle.segstore.specs.Words.{IsBusy, IsQuiet}
use Rattle.segstore.proofs.Quiet.{has_locked}
use Rattle.segmodel.specs.Words.{bucket_of, entries_of, mine, stirred}
use Rattle.segbase.proofs.Alone.{bounced_alone, none_by}

pub all_mine : (p : ℕ) (h : List Event) → AllBy p h → mine p (seen h) ≡ seen h
all_mine p h all = ap (λ x. mine p (seen x)) (sym (append-nil h)) ∙ (mine_own p h [] all ∙ append-nil (seen h))

holder_of : (e : Event) (u : Bucket) (p x : ℕ) → by e ≡ p → ((y : ℕ) → u.holder ≡ Some y → y ≡ p) → (acts e u).holder ≡ Some x → x ≡ p
holder_of (Took q b) u p x own old held = sym (same_Some q x held) ∙ own
holder_of (Freed q b counted) u p x own old held = absurd (none-some x held)
holder_of e u p x own old held = old x held

-- nobody else has a bit
pub alone_holds : (z : Shape) (p b x : ℕ) (h : List Event) → AllBy p h → (bucket_after z h b).holder ≡ Some x → x ≡ p
alone_holds z p b x [] all held = absurd (none-some x held)
alone_holds z p b x (e ∷ h) all held =
    let u = bucket_after z h b in ⊎_elim
    (λ t. holder_of e u p x all.0 (λ y old. alone_holds z p b y h all.1 old) (ap (λ v. v.holder) (sym (cond-true (is (bucket_at z e) b) (acts e u) u t)) ∙ held))
    (λ f. alone_holds z p b x h all.1 (ap (λ v. v.holder) (sym (cond-false (is (bucket_at z e) b) (acts e u) u f)) ∙ held))
    (cases_Bool (is (bucket_at z e) b))

-- nobody else is in a segment
pub nobody_inside : (p other s : ℕ) (h : List Event) → other ≢ p → AllBy p h → inside h other s ≡ 0
nobody_inside p other s h apart all = ap (λ g. inside g other s) (sym (append-nil h)) ∙ quiet_inside h [] other s (none_by p other h apart all)

-- ---- a pass that is alone, before a call and after it

pub free_of_others : (b : Board) (p : Pass) (bucket : ℕ) → IsQuiet b p → b.shape.passes ≡ 1 → passes.count (bounced bucket) p ≡ 0
free_of_others b p bucket quiet one = bounced_alone b p bucket quiet.pass one

-- a bit that somebody has is that of a bucket of the table
in_table : (z : Shape) (h : List Event) (e : Event) (b : ℕ) (o : Option ℕ) → MatchOption o (Unit {0}) (λ a. (a < z.buckets) × ((bucket_after z h a).holder ≡ needs e)) → is o b ≡ true → b < z.buckets
in_table z h e b None guarded here = absurd (false≢true here)
in_table z h e b (Some a) guarded here = subst (λ n. n < z.buckets) (eqb-true a b here) guarded.0

held_in : (z : Shape) (b x : ℕ) (h : List Event) → IsLawful z h → (bucket_after z h b).holder ≡ Some x → b < z.buckets
held_in z b x [] l held = absurd (none-some x held)
held_in z b x (e ∷ h) l held = let u = bucket_after z h b in ⊎_elim
    (λ t. in_table z h e b (bucket_at z e) l.1.guarded t)
    (λ f. held_in z b x h l.0 (ap (λ v. v.holder) (sym (cond-false (is (bucket_at z e) b) (acts e u) u f)) ∙ held))
    (cases_Bool (is (bucket_at z e) b))

-- no overflow bucket waits for a chain: it would wait under a bit, which would be that of the pass's lock, and nothing was drawn under that
none_waits : (b : Board) (p : Pass) (bucket : ℕ) (o : Option ℕ) → IsQuiet b p → b.shape.passes ≡ 1 → (bucket_after b.shape (trace p) bucket).spare ≡ o → o ≡ None
none_waits b p bucket None quiet one waits = refl
none_waits b p bucket (Some m) quiet one waits =
    let holder = spare_held b.shape (trace p) bucket m quiet.pass.lawful waits in
    let own = alone_holds b.shape (number p) bucket holder.0 (trace p) (quiet.pass.alone one) holder.1 in
    let locked = quiet.bits bucket (held_in b.shape bucket holder.0 (trace p) quiet.pass.lawful holder.1, holder.1 ∙ ap Some own) in
    sym waits ∙ (has_locked b p bucket quiet locked).undrawn

-- so a bucket is as wide as its chain is long
pub all_joined : (b : Board) (p : Pass) (bucket : ℕ) → IsQuiet b p → b.shape.passes ≡ 1 → width (passes.marked p) bucket ≡ chained_to (passes.marked p) bucket + 1
all_joined b p bucket quiet one =
    wide b.shape (trace p) bucket quiet.pass.lawful
    (none_waits b p bucket (bucket_after b.shape (trace p) bucket).spare quiet one refl)
    ∙ ap (λ n. n + 1) (sym (chained_marked b.shape (trace p) bucket))

-- only its own lock refuses it
pub busy_by_lock : (b : Board) (p q : Pass) (bucket : ℕ) → IsQuiet b p → IsQuiet b q → b.shape.passes ≡ 1 → IsBusy bucket p q → locked_of p ≡ Some bucket
busy_by_lock b p q bucket before after one busy = ⊎_elim
    (λ own. own.0)
    (λ met. let none = free_of_others b p bucket before one in let still = free_of_others b q bucket after one in let more = met.tries in absurd (omega arith))
    busy

-- with no entry of its own there is none
pub none_stirred : (b : Board) (p q : Pass) (key : List ℕ) → IsQuiet b p → IsQuiet b q → b.shape.passes ≡ 1 → passes.mine q ≡ passes.mine p → stirred b.shape key (passes.seen p) (passes.seen q) ≡ 0
none_stirred b p q key before after one same =
    let now : passes.seen q ≡ passes.seen p = sym (all_mine (number q) (trace q) (after.pass.alone one)) ∙ (same ∙ all_mine (number p) (trace p) (before.pass.alone one)) in
    let count : entries_of b.shape (bucket_of b.shape key) (passes.seen q) ≡ entries_of b.shape
    (bucket_of b.shape key) (passes.seen p) = ap (entries_of b.shape (bucket_of b.shape key)) now in omega arith
