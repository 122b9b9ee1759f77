-- Players, caches and totals, place by place.
use Rattle.std.proofs.Common.{◌≡◌, ◌<◌, ◌+◌, ◌-◌, ℕ, zero, suc, List, [], ◌∷◌, ◌++◌, get_or, length, drop, slice_index_or, refl, sym, ap, subst, ◌∙◌, take, add-one, arith, append_assoc, append-nil, drop-cons, OnOk, Result, Ok, Err}
use Rattle.std.proofs.lemmas.List.{map-append, take_all, take_more}
use Rattle.std.proofs.Math.Seq.{drop-length}
use Rattle.std.specs.List.{AllZip}
use Rattle.segword.specs.Words.{Shape}
use Rattle.segreplay.specs.declared.cache.CacheConfig.{CacheConfig}
use Rattle.segtraces.specs.declared.retention.Retention.{Retention}
use Rattle.segtraces.specs.declared.retention.Retention.TheVariants as policy
use Rattle.segreplay.specs.declared.cache.Dealt.{Dealt}
use Rattle.segreplay.specs.Caches.{caches_in, half_of, sizes_of}
use Rattle.segreplay.specs.declared.lives.Lives.{Lives}
use Rattle.segreplay.specs.declared.player.Assignment.{Assignment}
use Rattle.segreplay.specs.declared.player.Player.{Player}
use Rattle.segreplay.specs.Lives.{lives_after, with_life_of}
use Rattle.segreplay.specs.Replays.{AddsLives, AllPlay}
use Rattle.segreplay.proofs.Steps.{plays_on}

pub all_still : (players : List Player) → AllPlay [] players players
all_still players = record { long = refl; each = λ n p below. refl }

-- players that were lent and given back
pub given_back : (count : ℕ) (new old : List Player) → count ≡ length old → length new ≡ length old → take count (new ++ drop (length new) old) ≡ new
given_back count new old all long =
    ap (λ l. take count (new ++ l)) (ap (λ k. drop k old) long ∙ drop-length old)
    ∙ ap (take count) (append-nil new)
    ∙ take_all count new (omega arith)

pub all_play_on : (turns more : List Assignment) (old between new : List Player) → AllPlay turns old between → AllPlay more between new → AllPlay (turns ++ more) old new
all_play_on turns more old between new one then = record {
  long = then.long ∙ one.long;
  each = λ n p below.
      plays_on turns more (slice_index_or old n p) (slice_index_or between n p) (slice_index_or new n p) (one.each n p below)
      (then.each n p (subst (λ count. n < count) (sym one.long) below));
}

lives_on : (turns more : List Assignment) (lives : List ℕ) → lives_after lives (turns ++ more) ≡ lives_after (lives_after lives turns) more
lives_on [] more lives = refl
lives_on (turn ∷ turns) more lives = lives_on turns more (with_life_of turn.request.verb turn.request.time_to_live lives)

pub adds_on : (turns more : List Assignment) (old between new : Lives) → AddsLives turns old between → AddsLives more between new → AddsLives (turns ++ more) old new
adds_on turns more old between new one then = then ∙ ap (λ l. lives_after l more) one ∙ sym (lives_on turns more old.seen.items)

-- what holds at any end holds at a good one
pub on_ok : {A E P : Type 0} (end : Result A E) → P → OnOk end P
on_ok (Ok v) holds = holds
on_ok (Err f) holds = tt

-- one size more
pub size_more : (p : Retention) (shape : Shape) (caches all : List CacheConfig) (sizes size : ℕ) → size < sizes
    → caches ++ sizes_of p shape (sizes - size) ≡ all
    → (caches ++ record { policy = p; shape = shape } ∷ []) ++ sizes_of p (half_of shape) (sizes - (size + 1)) ≡ all
size_more p shape caches all sizes size below was =
    let cache : CacheConfig = record { policy = p; shape = shape } in
    let left : suc (sizes - (size + 1)) ≡ sizes - size = omega arith in
    append_assoc caches (cache ∷ []) (sizes_of p (half_of shape) (sizes - (size + 1))) ∙ ap (λ n. caches ++ sizes_of p shape n) left ∙ was

-- what stands for a cache beyond a list
abbrev pub no_cache : CacheConfig
no_cache = record {
  policy = policy.Default;
  shape = record { buckets = 0; overflow = 0; passes = 0; segments_each = 0; rows = 0; first_version = 0 };
}

-- one cache more
pub dealt_more : (dealt : List Dealt) (d : Dealt) (caches : List CacheConfig) (i : ℕ) (cache : CacheConfig) → i < length caches
    → d.cache ≡ get_or caches i cache → caches_in dealt ≡ take i caches
    → caches_in (dealt ++ d ∷ []) ≡ take (i + 1) caches
dealt_more dealt d caches i cache below is was =
    map-append (λ (e : Dealt). e.cache) dealt (d ∷ [])
    ∙ ap (λ l. l ++ d.cache ∷ []) was
    ∙ ap (λ c. take i caches ++ c ∷ []) is
    ∙ sym (take_more caches i cache below)

-- ---- what stands at a place of a list beside another one

pub is_within : {A B : Type 0} (R : A → B → Type 0) (xs : List A) (n : ℕ) (y : B) (ys : List B) → AllZip R (drop n xs) (y ∷ ys) → n < length xs
is_within R [] zero y ys zip = absurd zip
is_within R [] (suc n) y ys zip = absurd zip
is_within R (x ∷ xs) zero y ys zip = omega arith
is_within R (x ∷ xs) (suc n) y ys zip = let rest = is_within R xs n y ys zip in omega arith

pub at_place : {A B : Type 0} (R : A → B → Type 0) (xs : List A) (n : ℕ) (d : A) (y : B) (ys : List B) → AllZip R (drop n xs) (y ∷ ys) → R (get_or xs n d) y × AllZip R (drop (n + 1) xs) ys
at_place R xs n d y ys zip =
    let split : drop n xs ≡ get_or xs n d ∷ drop (suc n) xs = drop-cons xs n d (is_within R xs n y ys zip) in
    let moved : AllZip R (get_or xs n d ∷ drop (suc n) xs) (y ∷ ys) = subst (λ l. AllZip R l (y ∷ ys)) split zip in
    (moved.0, subst (λ k. AllZip R (drop k xs) ys) (sym (add-one n)) moved.1)
