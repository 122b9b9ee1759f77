-- A buffer that has room for the longest value of the table is never too short.
use Rattle.std.proofs.Common.{◌≡◌, ◌≤◌, ℕ, List, length, Option, Some, None, Result, Ok, Err, option_map, sym, ap, ◌∙◌, subst, arith}
use Rattle.std.specs.Prelude.{IfSome}
use Rattle.std.proofs.lemmas.Option.{same_Some, none-some}
use Rattle.segmodel.specs.declared.answer.GetAnswer.TheVariants as get
use Rattle.segmodel.specs.declared.answer.GetsAnswer.TheVariants as gets
use Rattle.segmodel.specs.Words.{after, bucket_of, Cached, GetAnswer, GetsAnswer, present, reads}
use Rattle.segcore.specs.Words.{seen}
use Rattle.segcore.proofs.Moments.{seen_begins}
use Rattle.segcore.proofs.Within.{began_within, reads_within, stands_within}
use Rattle.segbase.specs.declared.law.Held.{Held}
use Rattle.segbase.specs.Words.{Board, holding, Memo, Pass, trace}
use Rattle.segread.specs.declared.held.HeldRow.{HeldRow}
use Rattle.segread.specs.declared.into.GetsIntoAnswer.{GetsIntoAnswer}
use Rattle.segread.specs.declared.into.GetsIntoAnswer.TheVariants as gets_into
use Rattle.segread.specs.declared.into.IntoAnswer.{IntoAnswer}
use Rattle.segread.specs.declared.into.IntoAnswer.TheVariants as into
use Rattle.segread.specs.Gets.{ReadsVersion}
use Rattle.segread.specs.Holds.{ReadsRow}
use Rattle.segread.specs.Into.{CopiesGet, CopiesGets, ReadsInto, ReadsRowInto, ReadsVersionInto}
use Rattle.segread.specs.Reads.{ReadsKey}

-- ---- a get

pub found_fits : (b : Board) (key : List ℕ) (draw now : ℕ) (value : List ℕ) (p q : Pass) → ReadsKey b key draw now (get.Found value) p q → length value ≤ b.limits.value
found_fits b key draw now value p q r =
    let at = r.answer.2 in
    (reads_within b.shape b.limits at.0 now key value (began_within b.limits at.0 (seen (trace q)) at.1.1 r.on.quiet.pass.within) at.2).1

no_short : (n m : ℕ) → into.Found m ≡ into.Short n → ⊥
no_short n m e = cc

no_miss : (n : ℕ) → into.Miss ≡ into.Short n → ⊥
no_miss n e = cc

no_busy : (n : ℕ) → into.Busy ≡ into.Short n → ⊥
no_busy n e = cc

get_fits : (b : Board) (key : List ℕ) (draw now : ℕ) (told : IntoAnswer) (old new : List ℕ) (p q : Pass) (a : GetAnswer)
    → ReadsKey b key draw now a p q → CopiesGet a told old new → b.limits.value ≤ length old → (n : ℕ) → told ≡ into.Short n → ⊥
get_fits b key draw now told old new p q (get.Found value) r copies room n is =
    let few = found_fits b key draw now value p q r in
    let whole = copies.fits (omega (arith, few, room)) in
    no_short n (length value) (sym whole.0 ∙ is)
get_fits b key draw now told old new p q get.Miss r copies room n is = no_miss n (sym copies.0 ∙ is)
get_fits b key draw now told old new p q get.Busy r copies room n is = no_busy n (sym copies.0 ∙ is)

pub get_never : (b : Board) (key : List ℕ) (draw now : ℕ) (told : IntoAnswer) (old new : List ℕ) (p q : Pass)
    → ReadsInto b key draw now told old new p q → b.limits.value ≤ length old → (n : ℕ) → told ≡ into.Short n → ⊥
get_never b key draw now told old new p q r room n is = get_fits b key draw now told old new p q r.answer r.reads r.copies room n is

-- ---- a gets

abbrev versioned : ℕ → Cached → List ℕ × ℕ
versioned version item = (item.value, version)

without_version : (version : ℕ) (o : Option Cached) (value : List ℕ) (n : ℕ) → option_map (versioned version) o ≡ Some (value, n)
    → option_map (λ (x : Cached). x.value) o ≡ Some value
without_version version None value n is = absurd (none-some _ is)
without_version version (Some x) value n is = ap (λ (y : List ℕ × ℕ). Some y.0) (same_Some (versioned version x) (value, n) is)

pub version_fits : (b : Board) (key : List ℕ) (draw now : ℕ) (value : List ℕ) (version : ℕ) (p q : Pass) → ReadsVersion b key draw now (gets.Found value version) p q → length value ≤ b.limits.value
version_fits b key draw now value version p q r =
    let at = r.answer.2 in let cache = after b.shape at.0 in
    let is : reads cache now key ≡ Some value = without_version (cache.version (bucket_of b.shape key)) (present cache now key) value version at.2 in
    (reads_within b.shape b.limits at.0 now key value (began_within b.limits at.0 (seen (trace q)) at.1.1 r.on.quiet.pass.within) is).1

no_short_version : (n m v w : ℕ) → gets_into.Found m w ≡ gets_into.Short n v → ⊥
no_short_version n m v w e = cc

no_miss_version : (n v : ℕ) → gets_into.Miss ≡ gets_into.Short n v → ⊥
no_miss_version n v e = cc

no_busy_version : (n v : ℕ) → gets_into.Busy ≡ gets_into.Short n v → ⊥
no_busy_version n v e = cc

gets_fits : (b : Board) (key : List ℕ) (draw now : ℕ) (told : GetsIntoAnswer) (old new : List ℕ) (p q : Pass) (a : GetsAnswer)
    → ReadsVersion b key draw now a p q → CopiesGets a told old new → b.limits.value ≤ length old → (n v : ℕ) → told ≡ gets_into.Short n v → ⊥
gets_fits b key draw now told old new p q (gets.Found value version) r copies room n v is =
    let few = version_fits b key draw now value version p q r in
    let whole = copies.fits (omega (arith, few, room)) in
    no_short_version n (length value) v version (sym whole.0 ∙ is)
gets_fits b key draw now told old new p q gets.Miss r copies room n v is = no_miss_version n v (sym copies.0 ∙ is)
gets_fits b key draw now told old new p q gets.Busy r copies room n v is = no_busy_version n v (sym copies.0 ∙ is)

pub gets_never : (b : Board) (key : List ℕ) (draw now : ℕ) (told : GetsIntoAnswer) (old new : List ℕ) (p q : Pass)
    → ReadsVersionInto b key draw now told old new p q → b.limits.value ≤ length old → (n v : ℕ) → told ≡ gets_into.Short n v → ⊥
gets_never b key draw now told old new p q r room n v is = gets_fits b key draw now told old new p q r.answer r.reads r.copies room n v is

-- ---- what is held

same_held : (o : Option Held) (held : Held) (value : List ℕ) → o ≡ Some held → IfSome o (λ x. value ≡ x.value) → value ≡ held.value
same_held None held value is told = absurd (none-some held is)
same_held (Some x) held value is told = told ∙ ap (λ (y : Held). y.value) (same_Some x held is)

pub held_fits : (b : Board) (row : HeldRow) (value : List ℕ) (p q : Pass) → ReadsRow b row value p q → length value ≤ b.limits.value
held_fits b row value p q r =
    let held = r.hold.held in let stood = r.on.quiet.pass.minds.holding held r.hold.holds in
    let within = began_within b.limits (seen held.trace) (seen (trace q)) (seen_begins held.trace (trace q) stood.past) r.on.quiet.pass.within in
    let is : value ≡ held.value = same_held (holding p) held value (sym (ap (λ (m : Memo). m.holding) r.keeps.memo) ∙ r.hold.holds) r.value in
    subst (λ v. length v ≤ b.limits.value) (sym is) (stands_within b.shape b.limits (seen held.trace) held.key within _ stood.stood.stands).1

no_error : (n m : ℕ) → ◌≡◌ {A = Result ℕ ℕ} (Ok m) (Err n) → ⊥
no_error n m e = cc

pub held_never : (b : Board) (row : HeldRow) (told : Result ℕ ℕ) (old new : List ℕ) (p q : Pass)
    → ReadsRowInto b row told old new p q → b.limits.value ≤ length old → (n : ℕ) → told ≡ Err n → ⊥
held_never b row told old new p q r room n is =
    let few = held_fits b row r.value p q r.reads in
    let whole = r.copies.fits (omega (arith, few, room)) in
    no_error n (length r.value) (sym whole.0 ∙ is)
