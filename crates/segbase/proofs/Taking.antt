-- What a pass knows of a bucket whose bit it took, and what an information word tells it.
use Rattle.std.proofs.Common.{◌≡◌, ◌≢◌, ℕ, ◌+◌, ◌*◌, ◌%◌, ◌^◌, ◌≤◌, Bool, true, false, cond, eqb, List, [], ◌∷◌, ◌++◌, Option, Some, None, refl, sym, ap, ◌∙◌, subst, arith}
use Rattle.std.proofs.lemmas.Bool.{cond-true, cond-false, eq-eqb}
use Rattle.std.proofs.lemmas.Option.{none-some}
use Rattle.segword.specs.Words.{Info, info_word, Shape}
use Rattle.segcore.specs.declared.event.Event.TheVariants.{Took, Bounced}
use Rattle.segcore.specs.Words.{acts, bit_of, Bucket, bucket_after, Event, HasBit, info_look, is}
use Rattle.segcore.specs.Words.{IsLawful, take, unless_own, View}
use Rattle.segcore.specs.Word as core
use Rattle.segcore.proofs.Quiet.{quiet}
use Rattle.segcore.proofs.Homes.{spare_held}
use Rattle.segcore.proofs.Versions.{free}
use Rattle.segbase.specs.Words.{Board, Pass}
use Rattle.segbase.specs.Passes.{number, trace, AddsAtOnce, Stepped}
use Rattle.segbase.specs.Steps.{has_bit, Takes}

no_spare : (o : Option ℕ) → ((m : ℕ) → o ≢ Some m) → o ≡ None
no_spare None none = refl
no_spare (Some m) none = absurd (none m refl)

-- no overflow bucket waits under a bit that nobody has
pub unspared : (z : Shape) (h : List Event) (b : ℕ) → IsLawful z h → (bucket_after z h b).holder ≡ None → (bucket_after z h b).spare ≡ None
unspared z h b l none = no_spare (bucket_after z h b).spare (λ m is. let held = spare_held z h b m l is in none-some held.0 (sym none ∙ held.1))

taken : (b : Board) (bucket found : ℕ) (own t : Bool) (p q : Pass) → eqb (found % 2) 0 ≡ t → own ≡ has_bit b p bucket → Stepped b (take bucket own) found p q → Takes b bucket t p q
taken b bucket found own true p q t is s =
    let did : AddsAtOnce b (Took (number p) bucket ∷ []) p q =
    subst (λ es. AddsAtOnce b es p q) (cond-true (eqb (found % 2) 0) (Took (number p) bucket ∷ [])
    (unless_own own (Bounced (number p) bucket)) t) s.did in
    let old : List Event = s.told.more ++ trace p in
    let now : trace q ≡ Took (number p) bucket ∷ old = ap (λ (v : View). v.trace) s.told.now ∙ ap (λ x. cond x (Took (number p) bucket ∷ []) (unless_own own (Bounced (number p) bucket)) ++ old) t in
    let lawful : IsLawful b.shape (Took (number p) bucket ∷ old) = subst (IsLawful b.shape) now s.told.legal in
    let guarded = lawful.1.guarded in
    let u : Bucket = bucket_after b.shape old bucket in
    let after : bucket_after b.shape (trace q) bucket ≡ acts (Took (number p) bucket) u =
    ap (λ h. bucket_after b.shape h bucket) now
    ∙ cond-true (eqb bucket bucket) (acts (Took (number p) bucket) u) u (eq-eqb bucket bucket refl) in (
      did,
      (guarded.0, ap (λ v. v.holder) after ∙ ap Some (sym did.moved.same)),
      ap (λ v. v.written) after ∙ free b.shape old bucket lawful.0 guarded.1,
      ap (λ v. v.spare) after ∙ unspared b.shape old bucket lawful.0 guarded.1,
    )
taken b bucket found own false p q f is s =
    subst (λ o. AddsAtOnce b (unless_own o (Bounced (number p) bucket)) p q) is
    (subst (λ es. AddsAtOnce b es p q) (cond-false (eqb (found % 2) 0) (Took (number p) bucket ∷ [])
    (unless_own own (Bounced (number p) bucket)) f) s.did)

pub takes : (b : Board) (bucket found : ℕ) (p q : Pass) → Stepped b (take bucket (has_bit b p bucket)) found p q → Takes b bucket (eqb (found % 2) 0) p q
takes b bucket found p q s = taken b bucket found (has_bit b p bucket) (eqb (found % 2) 0) p q refl refl s

-- the parts of an information word
parts : (v n bit : ℕ) (held : Bool) → bit ≤ 1 → v * 2 ^ 32 + cond held 1 0 ≡ n * 2 ^ 32 + bit → (v ≡ n) × (cond held 1 0 ≡ bit)
parts v n bit true le e = (omega arith, omega arith)
parts v n bit false le e = (omega arith, omega arith)

set_bit : (held : Bool) → (let one : ℕ = 1 in cond held 1 0 ≡ one) → held ≡ true
set_bit true e = refl
set_bit false e = absurd (omega arith)

pub held_word : (z : Shape) (h : List Event) (p b : ℕ) (info : Info) → (bucket_after z h b).holder ≡ Some p
    → info_word info ≡ core.bucket_info_word z (bucket_after z h b) → (info.held ≡ true)
    × (info.version ≡ (z.first_version + (bucket_after z h b).version) % 2 ^ 32)
held_word z h p b info held is =
    let x = parts info.version ((z.first_version + (bucket_after z h b).version) % 2 ^ 32) 1 info.held (omega arith)
    (is ∙ ap (λ o. (z.first_version + (bucket_after z h b).version) % 2 ^ 32 * 2 ^ 32 + bit_of o) held) in
    (set_bit info.held x.1, x.0)

-- under the bit, what an information look finds
pub looked : (b : Board) (bucket found : ℕ) (info : Info) (p q : Pass) → HasBit b.shape (trace p) (number p) bucket
    → found ≡ info_word info → Stepped b (info_look bucket) found p q → (info.held ≡ true)
    × (info.version ≡ (b.shape.first_version + (bucket_after b.shape (trace p) bucket).version) % 2 ^ 32)
looked b bucket found info p q bit is s =
    let same : bucket_after b.shape (s.told.more ++ trace p) bucket ≡ bucket_after b.shape (trace p) bucket = quiet b.shape s.told.more (trace p) (number p) bucket s.told.before s.told.others bit.1 in
    held_word b.shape (trace p) (number p) bucket info bit.1 (sym is ∙ (s.told.found_is ∙ ap (core.bucket_info_word b.shape) same))
