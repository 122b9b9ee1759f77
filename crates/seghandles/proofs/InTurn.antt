-- Looks ahead and lookups one after another, and one more.
use Rattle.std.proofs.Common.{◌≡◌, ◌+◌, ◌<◌, ℕ, zero, suc, List, [], ◌∷◌, ◌++◌, drop, get_or, length, set, take, refl, sym, ap, ◌∙◌, subst, arith}
use Rattle.std.proofs.lemmas.List.{drop-drop, drop-set-lt, length-take-le, take_more, take_more_set}
use Rattle.segclient.specs.Many.{LooksAheadBy}
use Rattle.seghandles.specs.declared.client.SharedClient.{SharedClient}
use Rattle.seghandles.specs.declared.many.Lookup.{Lookup}
use Rattle.seghandles.specs.Calls.{MakesCall}
use Rattle.seghandles.specs.Many.{InTurn, InTurnFrom, LooksBefore, LooksFor}

-- ---- looks ahead

pub none_looked_for : (old : SharedClient) → LooksFor [] old old
unfolding LooksFor
none_looked_for old = refl

then_looked : (keys : List (List ℕ)) (old mid new : SharedClient) (key : List ℕ)
    → LooksFor keys old mid → MakesCall key (LooksAheadBy 1) mid new → LooksFor (keys ++ key ∷ []) old new
unfolding LooksFor
then_looked [] old mid new key is looks = (new, subst (λ m. MakesCall key (LooksAheadBy 1) m new) is looks, refl)
then_looked (one ∷ keys) old mid new key is looks = (is.0, is.1, then_looked keys is.0 mid new key is.2 looks)

pub next_looked_for : (keys : List (List ℕ)) (place : ℕ) (old mid new : SharedClient) (key : List ℕ)
    → place < length keys → key ≡ get_or keys place key
    → LooksFor (take place keys) old mid → MakesCall key (LooksAheadBy 1) mid new → LooksFor (take (place + 1) keys) old new
next_looked_for keys place old mid new key in_keys is_key is looks =
    subst (λ l. LooksFor l old new)
    (sym (subst (λ k. take (place + 1) keys ≡ take place keys ++ k ∷ []) (sym is_key) (take_more keys place key in_keys)))
    (then_looked (take place keys) old mid new key is looks)

-- ---- lookups

then_one : (Does : Lookup → Lookup → SharedClient → SharedClient → Type 0) (start : ℕ) (before after : List Lookup) (was is : Lookup)
    (old mid ready new : SharedClient)
    → InTurnFrom Does start before after old mid → LooksBefore (start + length before) mid ready → Does was is ready new
    → InTurnFrom Does start (before ++ was ∷ []) (after ++ is ∷ []) old new
unfolding InTurnFrom
then_one Does start [] [] was is old mid ready new so looks does =
    let e : start + 0 ≡ start = omega arith in
    (ready, new, subst (λ n. LooksBefore n old ready) e (subst (λ m. LooksBefore (start + 0) m ready) so looks), does, refl)
then_one Does start [] (first ∷ after) was is old mid ready new so looks does = absurd so
then_one Does start (first ∷ before) [] was is old mid ready new so looks does = absurd so
then_one Does start (first ∷ before) (done ∷ after) was is old mid ready new so looks does =
    let e : start + suc (length before) ≡ start + 1 + length before = omega arith in (
      so.0,
      so.1,
      so.2,
      so.3,
      then_one Does (start + 1) before after was is so.1 mid ready new so.4
          (subst (λ n. LooksBefore n mid ready) e looks) does,
    )

pub none_looked_up : (Does : Lookup → Lookup → SharedClient → SharedClient → Type 0) (old : SharedClient) → InTurn Does [] [] old old
unfolding InTurnFrom
none_looked_up Does old = refl

first_left : (xs : List Lookup) (n : ℕ) (d : Lookup) → get_or (drop n xs) 0 d ≡ get_or xs n d
first_left [] zero d = refl
first_left [] (suc n) d = refl
first_left (x ∷ xs) zero d = refl
first_left (x ∷ xs) (suc n) d = first_left xs n d

-- the lookup at this place is done, which was as at the start until then
pub next_looked_up : (Does : Lookup → Lookup → SharedClient → SharedClient → Type 0) (before now : List Lookup) (place : ℕ)
    (d is : Lookup) (old mid ready new : SharedClient)
    → place < length before → place < length now → drop place now ≡ drop place before
    → InTurn Does (take place before) (take place now) old mid → LooksBefore place mid ready → Does (get_or now place d) is ready new
    → InTurn Does (take (place + 1) before) (take (place + 1) (set now place is)) old new
next_looked_up Does before now place d is old mid ready new in_before in_now rest so looks does =
    let long : place ≡ 0 + length (take place before) = (let e = length-take-le place before (omega (arith, in_before)) in omega (arith, e)) in
    let same : get_or now place d ≡ get_or before place d = sym (first_left now place d) ∙ ap (λ l. get_or l 0 d) rest ∙ first_left before place d in
    let was : Lookup = get_or before place d in
    subst (λ l. InTurn Does l (take (place + 1) (set now place is)) old new) (sym (take_more before place d in_before))
    (subst (λ l. InTurn Does (take place before ++ was ∷ []) l old new) (sym (take_more_set now place is in_now))
    (then_one Does 0 (take place before) (take place now) was is old mid ready new so (subst (λ n. LooksBefore n mid ready) long looks)
    (subst (λ w. Does w is ready new) same does)))

-- and the others are as at the start still
pub next_rest : (before now : List Lookup) (place : ℕ) (is : Lookup) → drop place now ≡ drop place before
    → drop (place + 1) (set now place is) ≡ drop (place + 1) before
next_rest before now place is rest =
    drop-set-lt (place + 1) now place is (omega arith) ∙ sym (drop-drop 1 place now) ∙ ap (drop 1) rest ∙ drop-drop 1 place before
