-- The passes of a new board, one dealt after the other.
use Rattle.std.proofs.Common.{◌≡◌, ℕ, zero, suc, ◌+◌, ◌*◌, ◌<◌, ◌⊎◌, List, [], ◌∷◌, ◌++◌, length, get_or, set, Some, None, true, slice_get, refl, sym, ap, ◌∙◌, subst, inl, inr, ⊎_elim, arith, length-append, length-set}
use Rattle.std.proofs.lemmas.List.{length-replicate}
use Rattle.std.proofs.lemmas.Option.{same_Some, none-some}
use Rattle.segmodel.proofs.ListPlaces.{front_or_last}
use Rattle.atomic_table.specs.declared.shared.Seat.{Seat}
use Rattle.atomic_table.specs.Table.{Me}
use Rattle.segword.specs.Words.{IsValid}
use Rattle.segbase.specs.declared.law.Sight.{Sight}
use Rattle.segbase.specs.Words.{Board, Pass}
use Rattle.segbase.specs.Ruled.{dealer, newcomer}
use Rattle.segbase.specs.Passes.{sight, view, number, trace}
use Rattle.segbase.proofs.Minded.{nothing_minded}
use Rattle.segbase.specs.Made.{unfilled, IsNewPlain, IsNewPass, IsDealt}

pub get_first : {A : Type 0} (l : List A) (a : A) → 0 < length l → a ≡ get_or l 0 a → slice_get l 0 ≡ Some a
get_first [] a some e = absurd (omega arith)
get_first (x ∷ xs) a some e = ap Some (sym e)

set_first : {A : Type 0} (l : List A) (a b : A) (n : ℕ) → slice_get (set l 0 a) n ≡ Some b → ((n ≡ 0) × (a ≡ b)) ⊎ (slice_get l n ≡ Some b)
set_first [] a b n e = absurd (none-some b e)
set_first (x ∷ xs) a b zero e = inl (refl, same_Some a b e)
set_first (x ∷ xs) a b (suc n) e = inr e

head_set : {A : Type 0} (l : List A) (a b x : A) (more : List A) → slice_get l 0 ≡ Some x → slice_get (set l 0 a ++ more) 0 ≡ Some b → a ≡ b
head_set [] a b x more some e = absurd (none-some x some)
head_set (y ∷ ys) a b x more some e = same_Some a b e

-- a pass with a seat that has seen nothing
new_pass : (b : Board) (n : ℕ) (p : Pass) (x : Sight) → IsValid b.shape → n < b.shape.passes → p.seat.table_id ≡ b.table.shared.table_id → p.seat.me ≡ (x, [])
    → x.is_pass ≡ true → x.view.number ≡ n → x.view.trace ≡ [] → x.memo.holding ≡ None → x.memo.locked ≡ None → IsNewPlain b.shape n p.plain → IsNewPass b n p
new_pass b n p x valid few table me pass of nothing none free plain =
    let is : p.seat.me.0 ≡ x = ap (λ (m : Me (Unit {0}) Sight). m.0) me in
    let same : number p ≡ n = ap (λ (y : Sight). y.view.number) is ∙ of in
    let no : trace p ≡ [] = ap (λ (y : Sight). y.view.trace) is ∙ nothing in record {
      pass = record {
        table = table;
        bare = ap (λ (m : Me (Unit {0}) Sight). m.1) me;
        is_pass = ap (λ (y : Sight). y.is_pass) is ∙ pass;
        valid = valid;
        lawful = rw no tt;
        within = rw no tt;
        one_of = rw same few;
        alone = λ one. rw no tt;
        minds = nothing_minded b.shape (trace p) (number p) (sight p).memo (ap (λ (y : Sight). y.memo.holding) is ∙ none) (ap (λ (y : Sight). y.memo.locked) is ∙ free);
        numbered = plain.number ∙ sym same;
        first = plain.first ∙ ap (λ k. k * b.shape.segments_each) (sym same);
        rows = plain.rows;
        owns = ap length plain.segments ∙ length-replicate b.shape.segments_each unfilled;
      };
      number = same;
      nothing = no;
      holding = ap (λ (y : Sight). y.memo.holding) is ∙ none;
      locked = ap (λ (y : Sight). y.memo.locked) is ∙ free;
      plain = plain;
    }

pub one_more : (b : Board) (count : ℕ) (ps : List Pass) (x p : Pass) (seat : Seat (Unit {0}) Sight)
    → IsValid b.shape → IsDealt b count ps → slice_get ps 0 ≡ Some x → (view x).dealt ≡ count
    → count < b.shape.passes
    → seat.table_id ≡ x.seat.table_id → seat.me ≡ (dealer x.seat.me.0, x.seat.me.1) → p.seat.table_id ≡ x.seat.table_id → p.seat.me ≡ (newcomer x.seat.me.0, []) → IsNewPlain b.shape count p.plain
    → let all = set ps 0 (record { seat = seat; plain = x.plain }) ++ p ∷ [] in IsDealt b (count + 1) all × ((y : Pass) → slice_get all 0 ≡ Some y → (view y).dealt ≡ count + 1)
one_more b count ps x p seat valid dealt first here few table me table' me' plain =
    let x' : Pass = record { seat = seat; plain = x.plain } in
    let old = dealt.each 0 x first in
    let bare : seat.me ≡ (dealer x.seat.me.0, []) = me ∙ ap (λ l. (dealer x.seat.me.0, l)) old.pass.bare in
    let now : IsNewPass b 0 x' = new_pass b 0 x' (dealer x.seat.me.0) valid (omega arith) (table ∙ old.pass.table) bare old.pass.is_pass old.number old.nothing old.holding old.locked old.plain in
    let new : IsNewPass b count p = new_pass b count p (newcomer x.seat.me.0) valid few (table' ∙ old.pass.table) me' refl here refl refl refl plain in
    let long : length (set ps 0 x') ≡ count = length-set ps 0 x' ∙ dealt.long in (
      record {
        long = length-append (set ps 0 x') (p ∷ []) ∙ ap (λ n. n + 1) long;
        each = λ n q e. ⊎_elim
            (λ t. ⊎_elim
            (λ o. subst (λ m. IsNewPass b m q) (sym o.0) (subst (IsNewPass b 0) o.1 now))
            (λ o. dealt.each n q o)
            (set_first ps x' q n t))
            (λ t. subst (λ m. IsNewPass b m q) (sym (t.0 ∙ long)) (subst (IsNewPass b count) t.1 new))
            (front_or_last (set ps 0 x') p q n e);
      },
      λ y e. subst (λ (q : Pass). (view q).dealt ≡ count + 1) (head_set ps x' y x (p ∷ []) first e) (ap (λ (m : Me (Unit {0}) Sight). m.0.view.dealt) me ∙ ap (λ n. n + 1) here),
    )
