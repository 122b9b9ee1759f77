-- While a pass has a bucket's bit, nothing happens in the bucket but by its own steps.
use Rattle.std.proofs.Common.{◌≡◌, ℕ, true, eqb, List, [], ◌∷◌, ◌++◌, Some, refl, sym, ap, ◌∙◌, subst, ⊎_elim}
use Rattle.std.proofs.lemmas.Bool.{cases_Bool, cond-true, cond-false, eq-eqb, false≢true}
use Rattle.segword.specs.Words.{Shape}
use Rattle.segmodel.specs.Words.{after, bucket_of, IsSameAt}
use Rattle.segcore.specs.Words.{acts, bucket_after, bucket_at, by, Event, HasBit, is, IsLawful}
use Rattle.segcore.specs.Words.{NoneAt}
use Rattle.segcore.specs.Event as event
use Rattle.segcore.proofs.Quiet.{quiet, quiet_none, same_at}
use Rattle.segbase.specs.Words.{AddsAtOnce, AddsEvents, Board, number, own_of, Pass, seen, trace}

-- events none of which is of the bucket leave it
pub unchanged : (z : Shape) (more h : List Event) (b : ℕ) → NoneAt z b more → bucket_after z (more ++ h) b ≡ bucket_after z h b
unchanged z [] h b none = refl
unchanged z (e ∷ more) h b none =
    cond-false (is (bucket_at z e) b) (acts e (bucket_after z (more ++ h) b)) (bucket_after z (more ++ h) b) none.0 ∙ unchanged z more h b none.1

-- and they leave what stands under its keys, and its version
pub unchanged_at : (z : Shape) (more h : List Event) (key : List ℕ) → IsLawful z (more ++ h) → NoneAt z (bucket_of z key) more
    → IsSameAt z (after z (event.seen h)) (after z (event.seen (more ++ h))) key
unchanged_at z [] h key lawful none = record { stands = refl; finds = λ now. refl; version = refl }
unchanged_at z (e ∷ more) h key lawful none =
    let last = same_at z e (more ++ h) key lawful.1 none.0 in
    let rest = unchanged_at z more h key lawful.0 none.1 in
    record { stands = last.stands ∙ rest.stands; finds = λ now. last.finds now ∙ rest.finds now; version = last.version ∙ rest.version }

-- others do nothing in the bucket of a bit that the pass has
none_but_own : (z : Shape) (more h : List Event) (p b : ℕ) → IsLawful z (more ++ h) → NoneAt z b (own_of p more) → (bucket_after z h b).holder ≡ Some p → NoneAt z b more
none_but_own z [] h p b l own held = tt
none_but_own z (e ∷ more) h p b l own held = ⊎_elim
    (λ t. let o : NoneAt z b (e ∷ own_of p more) = subst (NoneAt z b) (cond-true (eqb (by e) p) (e ∷ own_of p more) (own_of p more) t) own in
    (o.0, none_but_own z more h p b l.0 o.1 held))
    (λ f. let o : NoneAt z b (own_of p more) = subst (NoneAt z b) (cond-false (eqb (by e) p) (e ∷ own_of p more) (own_of p more) f) own in
    let before = none_but_own z more h p b l.0 o held in
    let still = ap (λ u. u.holder) (unchanged z more h b before) ∙ held in
    ((quiet_none z (e ∷ []) (more ++ h) p b l ((λ same. false≢true (sym f ∙ eq-eqb (by e) p same)), tt) still).0, before))
    (cases_Bool (eqb (by e) p))

-- over a call none of whose own events is of the bucket
pub moved_none : (b : Board) (own : List Event) (p q : Pass) (bucket : ℕ) (m : AddsEvents b own p q)
    → HasBit b.shape (trace p) (number p) bucket → NoneAt b.shape bucket own → NoneAt b.shape bucket m.more
moved_none b own p q bucket m bit none =
    none_but_own b.shape m.more (trace p) (number p) bucket (subst (IsLawful b.shape) m.goes_on m.pass.lawful) (subst (NoneAt b.shape bucket) (sym m.adds) none) bit.1

pub moved_bucket : (b : Board) (own : List Event) (p q : Pass) (bucket : ℕ) → AddsEvents b own p q
    → HasBit b.shape (trace p) (number p) bucket → NoneAt b.shape bucket own
    → bucket_after b.shape (trace q) bucket ≡ bucket_after b.shape (trace p) bucket
moved_bucket b own p q bucket m bit none =
    ap (λ h. bucket_after b.shape h bucket) m.goes_on ∙ unchanged b.shape m.more (trace p) bucket (moved_none b own p q bucket m bit none)

pub moved_bit : (b : Board) (own : List Event) (p q : Pass) (bucket : ℕ) → AddsEvents b own p q
    → HasBit b.shape (trace p) (number p) bucket → NoneAt b.shape bucket own
    → HasBit b.shape (trace q) (number q) bucket
moved_bit b own p q bucket m bit none = (bit.0, ap (λ u. u.holder) (moved_bucket b own p q bucket m bit none) ∙ (bit.1 ∙ ap Some (sym m.same)))

-- what stands under a key of the bucket, and the bucket's version
pub moved_at : (b : Board) (own : List Event) (p q : Pass) (key : List ℕ) → AddsEvents b own p q
    → HasBit b.shape (trace p) (number p) (bucket_of b.shape key) → NoneAt b.shape (bucket_of b.shape key) own
    → IsSameAt b.shape (after b.shape (seen p)) (after b.shape (seen q)) key
moved_at b own p q key m bit none =
    subst (λ h. IsSameAt b.shape (after b.shape (seen p)) (after b.shape (event.seen h)) key) (sym m.goes_on)
    (unchanged_at b.shape m.more (trace p) key (subst (IsLawful b.shape) m.goes_on m.pass.lawful)
    (moved_none b own p q (bucket_of b.shape key) m bit none))

-- a step of the pass's own in the bucket acts on what it was before
pub did_acts : (b : Board) (e : Event) (q r : Pass) (bucket : ℕ) → AddsAtOnce b (e ∷ []) q r
    → is (bucket_at b.shape e) bucket ≡ true → HasBit b.shape (trace q) (number q) bucket
    → bucket_after b.shape (trace r) bucket ≡ acts e (bucket_after b.shape (trace q) bucket)
did_acts b e q r bucket d here bit =
    let before = bucket_after b.shape (d.others ++ trace q) bucket in
    ap (λ h. bucket_after b.shape h bucket) d.now
    ∙ (cond-true (is (bucket_at b.shape e) bucket) (acts e before) before here
    ∙ ap (acts e) (quiet b.shape d.others (trace q) (number q) bucket d.before d.none bit.1))
