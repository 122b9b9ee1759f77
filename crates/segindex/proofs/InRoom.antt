-- Reads into a buffer with room for the longest value of the table: what is told of one is what the
-- read itself answers.
use Rattle.std.proofs.Common.{◌≡◌, ◌≤◌, ℕ, List, [], ◌++◌, length, take, drop, Result, Ok, Err, sym, ap, ◌∙◌, subst, arith}
use Rattle.std.proofs.Math.Seq.{take-append_seam}
use Rattle.segmodel.specs.declared.answer.GetAnswer.TheVariants as get
use Rattle.segmodel.specs.declared.answer.GetsAnswer.TheVariants as gets
use Rattle.segmodel.specs.Words.{GetAnswer, GetsAnswer}
use Rattle.segbase.specs.Words.{Board, Pass}
use Rattle.segread.specs.declared.into.GetsIntoAnswer.TheVariants as gets_into
use Rattle.segread.specs.declared.into.IntoAnswer.TheVariants as into
use Rattle.segread.specs.Words.{CopiesGet, CopiesGets, GetsIntoAnswer, HeldRow, IntoAnswer, ReadsInto, ReadsKey}
use Rattle.segread.specs.Words.{ReadsRow, ReadsRowInto, ReadsVersion, ReadsVersionInto}
use Rattle.segread.proofs.NeverShort.{found_fits, held_fits, version_fits}

-- the value at the front of a buffer
front : (value rest new : List ℕ) → new ≡ value ++ rest → take (length value) new ≡ value
front value rest new is = ap (take (length value)) is ∙ take-append_seam value rest

-- ---- a get

-- what a get answers where this is told of it
abbrev pub answer_of : IntoAnswer → List ℕ → GetAnswer
answer_of (into.Found n) new = get.Found (take n new)
answer_of (into.Short n) new = get.Busy
answer_of into.Miss new = get.Miss
answer_of into.Busy new = get.Busy

same_answer : (b : Board) (key : List ℕ) (draw now : ℕ) (told : IntoAnswer) (old new : List ℕ) (p q : Pass) (a : GetAnswer)
    → ReadsKey b key draw now a p q → CopiesGet a told old new → b.limits.value ≤ length old → a ≡ answer_of told new
same_answer b key draw now told old new p q (get.Found value) r copies room =
    let few = found_fits b key draw now value p q r in
    let whole = copies.fits (omega (arith, few, room)) in
    sym (ap (λ t. answer_of t new) whole.0 ∙ ap get.Found (front value (drop (length value) old) new whole.1))
same_answer b key draw now told old new p q get.Miss r copies room = sym (ap (λ t. answer_of t new) copies.0)
same_answer b key draw now told old new p q get.Busy r copies room = sym (ap (λ t. answer_of t new) copies.0)

pub get_answers : (b : Board) (key : List ℕ) (draw now : ℕ) (told : IntoAnswer) (old new : List ℕ) (p q : Pass)
    → ReadsInto b key draw now told old new p q → b.limits.value ≤ length old → ReadsKey b key draw now (answer_of told new) p q
get_answers b key draw now told old new p q r room =
    subst (λ a. ReadsKey b key draw now a p q) (same_answer b key draw now told old new p q r.answer r.reads r.copies room) r.reads

-- ---- a gets

-- what a gets answers where this is told of it
abbrev pub gets_answer_of : GetsIntoAnswer → List ℕ → GetsAnswer
gets_answer_of (gets_into.Found n version) new = gets.Found (take n new) version
gets_answer_of (gets_into.Short n version) new = gets.Busy
gets_answer_of gets_into.Miss new = gets.Miss
gets_answer_of gets_into.Busy new = gets.Busy

same_gets : (b : Board) (key : List ℕ) (draw now : ℕ) (told : GetsIntoAnswer) (old new : List ℕ) (p q : Pass) (a : GetsAnswer)
    → ReadsVersion b key draw now a p q → CopiesGets a told old new → b.limits.value ≤ length old → a ≡ gets_answer_of told new
same_gets b key draw now told old new p q (gets.Found value version) r copies room =
    let few = version_fits b key draw now value version p q r in
    let whole = copies.fits (omega (arith, few, room)) in
    sym (ap (λ t. gets_answer_of t new) whole.0 ∙ ap (λ v. gets.Found v version) (front value (drop (length value) old) new whole.1))
same_gets b key draw now told old new p q gets.Miss r copies room = sym (ap (λ t. gets_answer_of t new) copies.0)
same_gets b key draw now told old new p q gets.Busy r copies room = sym (ap (λ t. gets_answer_of t new) copies.0)

pub gets_answers : (b : Board) (key : List ℕ) (draw now : ℕ) (told : GetsIntoAnswer) (old new : List ℕ) (p q : Pass)
    → ReadsVersionInto b key draw now told old new p q → b.limits.value ≤ length old → ReadsVersion b key draw now (gets_answer_of told new) p q
gets_answers b key draw now told old new p q r room =
    subst (λ a. ReadsVersion b key draw now a p q) (same_gets b key draw now told old new p q r.answer r.reads r.copies room) r.reads

-- ---- what is held

-- the value that is held where this is told of it
abbrev pub value_held : Result ℕ ℕ → List ℕ → List ℕ
value_held (Ok n) new = take n new
value_held (Err n) new = []

pub held_answers : (b : Board) (row : HeldRow) (told : Result ℕ ℕ) (old new : List ℕ) (p q : Pass)
    → ReadsRowInto b row told old new p q → b.limits.value ≤ length old → ReadsRow b row (value_held told new) p q
held_answers b row told old new p q r room =
    let few = held_fits b row r.value p q r.reads in
    let whole = r.copies.fits (omega (arith, few, room)) in
    subst (λ v. ReadsRow b row v p q) (sym (ap (λ t. value_held t new) whole.0 ∙ front r.value (drop (length r.value) old) new whole.1)) r.reads
