-- Calls on several keys, and one call more.
use Rattle.std.proofs.Common.{◌≡◌, ◌+◌, ◌<◌, ℕ, suc, List, [], ◌∷◌, ◌++◌, get_or, length, set, take, refl, sym, subst, arith}
use Rattle.std.proofs.lemmas.List.{length-take-le, take_more, take_more_set}
use Rattle.segbase.specs.Words.{Board}
use Rattle.segclient.specs.declared.member.Member.{Member}
use Rattle.segclient.specs.Many.{InTurn, InTurnFrom, LooksBefore}

then_one : {A : Type 0} (Made : List ℕ → A → Board → Member → Member → Type 0) (first : ℕ) (keys : List (List ℕ)) (answers : List A)
    (b : Board) (old mid ready new : Member) (key : List ℕ) (told : A)
    → InTurnFrom Made first keys answers b old mid → LooksBefore (first + length keys) b mid ready → Made key told b ready new
    → InTurnFrom Made first (keys ++ key ∷ []) (answers ++ told ∷ []) b old new
unfolding InTurnFrom
then_one Made first [] [] b old mid ready new key told is looks made =
    let e : first + 0 ≡ first = omega arith in
    (ready, new, subst (λ n. LooksBefore n b old ready) e (subst (λ m. LooksBefore (first + 0) b m ready) is looks), made, refl)
then_one Made first [] (answer ∷ answers) b old mid ready new key told is looks made = absurd is
then_one Made first (one ∷ keys) [] b old mid ready new key told is looks made = absurd is
then_one Made first (one ∷ keys) (answer ∷ answers) b old mid ready new key told is looks made =
    let e : first + suc (length keys) ≡ first + 1 + length keys = omega arith in (
      is.0,
      is.1,
      is.2,
      is.3,
      then_one Made (first + 1) keys answers b is.1 mid ready new key told is.4
          (subst (λ n. LooksBefore n b mid ready) e looks) made,
    )

pub none_made : {A : Type 0} (Made : List ℕ → A → Board → Member → Member → Type 0) (b : Board) (old : Member)
    → InTurn Made [] [] b old old
unfolding InTurnFrom
none_made Made b old = refl

-- the call on the key at this place is made, and its answer stored
pub next_made : {A : Type 0} (Made : List ℕ → A → Board → Member → Member → Type 0) (keys : List (List ℕ)) (answers : List A)
    (place : ℕ) (b : Board) (old mid ready new : Member) (key : List ℕ) (told : A)
    → place < length keys → place < length answers → key ≡ get_or keys place key
    → InTurn Made (take place keys) (take place answers) b old mid → LooksBefore place b mid ready → Made key told b ready new
    → InTurn Made (take (place + 1) keys) (take (place + 1) (set answers place told)) b old new
next_made Made keys answers place b old mid ready new key told in_keys in_answers is_key is looks made =
    let long : place ≡ 0 + length (take place keys) = (let e = length-take-le place keys (omega (arith, in_keys)) in omega (arith, e)) in
    subst (λ l. InTurn Made l (take (place + 1) (set answers place told)) b old new)
    (sym (subst (λ k. take (place + 1) keys ≡ take place keys ++ k ∷ []) (sym is_key) (take_more keys place key in_keys)))
    (subst (λ l. InTurn Made (take place keys ++ key ∷ []) l b old new) (sym (take_more_set answers place told in_answers))
    (then_one Made 0 (take place keys) (take place answers) b old mid ready new key told is
    (subst (λ n. LooksBefore n b mid ready) long looks) made))
