-- Lists in place: what is so of all up to one, and of one more.
use Rattle.std.proofs.Common.{◌≡◌, ℕ, ◌+◌, ◌<◌, List, [], ◌∷◌, ◌++◌, get_or, length, set, take, drop, sym, ap, ◌∙◌, subst, arith}
use Rattle.std.specs.List.{AllZip}
use lib.Seq.{take-length}
use Rattle.std.proofs.lemmas.List.{drop_more, drop-set-lt, take_more, take_more_set}
use Rattle.std.proofs.lemmas.Grind.{drop_more_same}
use Rattle.std.proofs.lemmas.List.Sums.{fold_push}
use Rattle.segclient.proofs.Places.{zip_push}
use Rattle.segindex.specs.declared.table_stats.IndexStats.{IndexStats}
use Rattle.segshards.specs.Each.{AllThree}
use Rattle.segshards.specs.Sums.{table_of, table_sum}

pub same_head : {A : Type 0} (x y : A) (xs ys : List A) → x ∷ xs ≡ y ∷ ys → x ≡ y
same_head x y xs ys e = cc

pub same_tail : {A : Type 0} (x y : A) (xs ys : List A) → x ∷ xs ≡ y ∷ ys → xs ≡ ys
same_tail x y xs ys e = cc

-- where the rest is as it was, so is the first of the rest
pub same_there : {X : Type 0} (xs ys : List X) (n : ℕ) (d : X) → n < length xs → length ys ≡ length xs → drop n ys ≡ drop n xs → get_or ys n d ≡ get_or xs n d
same_there xs ys n d below long same =
    same_head (get_or ys n d) (get_or xs n d) (drop (n + 1) ys) (drop (n + 1) xs) (sym (drop_more ys n d (omega (arith, below, long))) ∙ (same ∙ drop_more xs n d below))

-- and with the next one set the rest is still as it was
pub same_rest : {X : Type 0} (xs ys : List X) (n : ℕ) (y : X) → drop n ys ≡ drop n xs → drop (n + 1) (set ys n y) ≡ drop (n + 1) xs
same_rest xs ys n y same = drop-set-lt (n + 1) ys n y (omega arith) ∙ drop_more_same ys xs n same

pub one_longer : {X : Type 0} (xs ys : List X) (n : ℕ) (x : X) → n < length xs → length ys ≡ length xs → drop n ys ≡ drop n xs → x ≡ get_or ys n x → take (n + 1) xs ≡ take n xs ++ x ∷ []
one_longer xs ys n x below long same is = take_more xs n x below ∙ ap (λ k. take n xs ++ k ∷ []) (sym (is ∙ same_there xs ys n x below long same))

-- two lists, the second made of the first in place
pub zip_next : {X : Type 0} (R : X → X → Type 0) (xs ys : List X) (n : ℕ) (x y : X) → n < length xs
    → length ys ≡ length xs → drop n ys ≡ drop n xs → x ≡ get_or ys n x → AllZip R (take n xs) (take n ys) → R x y
    → AllZip R (take (n + 1) xs) (take (n + 1) (set ys n y))
zip_next R xs ys n x y below long same is were one =
    subst (λ l. AllZip R l (take (n + 1) (set ys n y))) (sym (one_longer xs ys n x below long same is))
    (subst (λ l. AllZip R (take n xs ++ x ∷ []) l) (sym (take_more_set ys n y (omega (arith, below, long))))
    (zip_push R (take n xs) (take n ys) x y were one))

pub three_none : {A B C : Type 0} (R : A → B → C → Type 0) → AllThree R [] [] []
unfolding AllThree
three_none R = tt

three_push : {A B C : Type 0} (R : A → B → C → Type 0) (ones : List A) (others : List B) (thirds : List C) (a : A)
    (b : B) (c : C) → AllThree R ones others thirds → R a b c
    → AllThree R (ones ++ a ∷ []) (others ++ b ∷ []) (thirds ++ c ∷ [])
unfolding AllThree
three_push R [] [] [] a b c were one = (one, tt)
three_push R [] [] (z ∷ thirds) a b c were one = absurd were
three_push R [] (y ∷ others) thirds a b c were one = absurd were
three_push R (x ∷ ones) [] thirds a b c were one = absurd were
three_push R (x ∷ ones) (y ∷ others) [] a b c were one = absurd were
three_push R (x ∷ ones) (y ∷ others) (z ∷ thirds) a b c were one = (were.0, three_push R ones others thirds a b c were.1 one)

-- the same with what was answered at each place
pub three_next : {A X : Type 0} (R : A → X → X → Type 0) (each : List A) (xs ys : List X) (n : ℕ) (a : A) (x y : X)
    → n < length xs → length ys ≡ length xs → drop n ys ≡ drop n xs → x ≡ get_or ys n x
    → AllThree R each (take n xs) (take n ys) → R a x y
    → AllThree R (each ++ a ∷ []) (take (n + 1) xs) (take (n + 1) (set ys n y))
three_next R each xs ys n a x y below long same is were one =
    subst (λ l. AllThree R (each ++ a ∷ []) l (take (n + 1) (set ys n y))) (sym (one_longer xs ys n x below long same is))
    (subst (λ l. AllThree R (each ++ a ∷ []) (take n xs ++ x ∷ []) l) (sym (take_more_set ys n y (omega (arith, below, long))))
    (three_push R each (take n xs) (take n ys) a x y were one))

-- at the end of the lists it is so of all
pub all_three : {A X : Type 0} (R : A → X → X → Type 0) (each : List A) (xs ys : List X) (n : ℕ) → n ≡ length xs
    → length ys ≡ length xs → AllThree R each (take n xs) (take n ys) → AllThree R each xs ys
all_three R each xs ys n end long made =
    subst (λ l. AllThree R each l ys) (ap (λ m. take m xs) end ∙ take-length xs)
    (subst (λ l. AllThree R each (take n xs) l) (ap (λ m. take m ys) (end ∙ sym long) ∙ take-length ys) made)

pub all_zipped : {X : Type 0} (R : X → X → Type 0) (xs ys : List X) (n : ℕ) → n ≡ length xs → length ys ≡ length xs → AllZip R (take n xs) (take n ys) → AllZip R xs ys
all_zipped R xs ys n end long made =
    subst (λ l. AllZip R l ys) (ap (λ m. take m xs) end ∙ take-length xs)
    (subst (λ l. AllZip R (take n xs) l) (ap (λ m. take m ys) (end ∙ sym long) ∙ take-length ys) made)

-- the sums with one more
pub table_more : (each : List IndexStats) (told : IndexStats) → table_of (each ++ told ∷ []) ≡ table_sum (table_of each) told
table_more each told = fold_push table_sum (record { overflow_buckets = 0; used_rows = 0; named_rows = 0 }) each told
