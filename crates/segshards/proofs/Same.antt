-- Calls leave a client its passes, and so all clients of a cache are so still.
use Rattle.std.proofs.Math.Seq.{map-set_same}
use Rattle.std.proofs.Common.{◌≡◌, ℕ, zero, suc, List, [], ◌∷◌, get_or, length, map, set, slice_get, Some, refl, sym, ap, ◌∙◌, subst, arith}
use Rattle.std.specs.List.{AllZip}
use Rattle.std.proofs.lemmas.Option.{none-some, same_Some}
use Rattle.segbase.specs.Words.{Board, number}
use Rattle.segindex.specs.Words.{Index}
use Rattle.segclient.specs.declared.client.Client as one
use Rattle.segclient.specs.declared.member.Member.{Member}
use Rattle.segclient.specs.Client as of_one
use Rattle.segclient.specs.Member.{KeepsRest, SetsNow}
use Rattle.segshards.specs.declared.client.Client.{Client}
use Rattle.segshards.specs.Clients.{EachStays, HasPass, IsClientOf, IsSame, OneStays, seat_of}
use Rattle.segshards.specs.Each.{AllThree}
use Rattle.segshards.specs.Noting.{MeetAll}
use Rattle.segclient.proofs.Places.{zip_at}
use Rattle.segshards.proofs.Each.{same_head, same_tail}
use Rattle.segshards.proofs.Places.{zip_beside}

-- ---- lists of which each element is seen in one way

-- what stands at a place of one list is seen in the same way as what stands there in the other
pub seen_there : {A B : Type 0} (f : A → B) (xs ys : List A) (n : ℕ) (x : A) → map f ys ≡ map f xs → slice_get xs n ≡ Some x → (y : A) × (slice_get ys n ≡ Some y) × (f y ≡ f x)
seen_there f [] ys n x same at = absurd (none-some x at)
seen_there f (a ∷ xs) [] n x same at = absurd (let long = ap length same in omega (arith, long))
seen_there f (a ∷ xs) (b ∷ ys) zero x same at = (b, refl, same_head (f b) (f a) (map f ys) (map f xs) same ∙ ap f (same_Some a x at))
seen_there f (a ∷ xs) (b ∷ ys) (suc n) x same at = seen_there f xs ys n x (same_tail (f b) (f a) (map f ys) (map f xs) same) at

-- what goes by how the elements are seen goes from the one list to the other
pub zip_seen : {X A B : Type 0} (f : A → B) (R : X → A → Type 0) (is : List X) (xs ys : List A)
    → ((i : X) (x y : A) → f y ≡ f x → R i x → R i y) → map f ys ≡ map f xs → AllZip R is xs → AllZip R is ys
zip_seen f R [] [] [] moves same zip = tt
zip_seen f R [] [] (y ∷ ys) moves same zip = absurd (let long = ap length same in omega (arith, long))
zip_seen f R [] (x ∷ xs) ys moves same zip = absurd zip
zip_seen f R (i ∷ is) [] ys moves same zip = absurd zip
zip_seen f R (i ∷ is) (x ∷ xs) [] moves same zip = absurd (let long = ap length same in omega (arith, long))
zip_seen f R (i ∷ is) (x ∷ xs) (y ∷ ys) moves same zip =
    (moves i x y (same_head (f y) (f x) (map f ys) (map f xs) same) zip.0, zip_seen f R is xs ys moves (same_tail (f y) (f x) (map f ys) (map f xs) same) zip.1)

pub zip_maps : {A B : Type 0} (f : A → B) (R : A → A → Type 0) (xs ys : List A) → ((x y : A) → R x y → f y ≡ f x) → AllZip R xs ys → map f ys ≡ map f xs
zip_maps f R [] [] keeps zip = refl
zip_maps f R [] (y ∷ ys) keeps zip = absurd zip
zip_maps f R (x ∷ xs) [] keeps zip = absurd zip
zip_maps f R (x ∷ xs) (y ∷ ys) keeps zip = ap (λ b. b ∷ map f ys) (keeps x y zip.0) ∙ ap (λ l. f x ∷ l) (zip_maps f R xs ys keeps zip.1)

pub three_maps : {E A B : Type 0} (f : A → B) (R : E → A → A → Type 0) (es : List E) (xs ys : List A) → ((e : E) (x y : A) → R e x y → f y ≡ f x) → AllThree R es xs ys → map f ys ≡ map f xs
unfolding AllThree
three_maps f R [] [] [] keeps all = refl
three_maps f R [] [] (y ∷ ys) keeps all = absurd all
three_maps f R [] (x ∷ xs) ys keeps all = absurd all
three_maps f R (e ∷ es) [] ys keeps all = absurd all
three_maps f R (e ∷ es) (x ∷ xs) [] keeps all = absurd all
three_maps f R (e ∷ es) (x ∷ xs) (y ∷ ys) keeps all = ap (λ b. b ∷ map f ys) (keeps e x y all.0) ∙ ap (λ l. f x ∷ l) (three_maps f R es xs ys keeps all.1)

-- ---- calls

-- the pass after such a call has the number that it had
abbrev pub KeepsNumber : (Board → Member → Member → Type 0) → Type 0
KeepsNumber Made = (b : Board) (old new : Member) → Made b old new → number new.pass ≡ number old.pass

pub seat_same : (was is : one.Client) → is.index.now ≡ was.index.now → number is.member.pass ≡ number was.member.pass → seat_of is ≡ seat_of was
seat_same was is index number = λ j. (index j, number j)

pub call_same : (Made : Board → Member → Member → Type 0) (was is : one.Client) → KeepsNumber Made → of_one.MakesCall Made was is → seat_of is ≡ seat_of was
call_same Made was is keeps made = seat_same was is made.index (keeps was.index.now.board was.member is.member made.made)

rest_same : (old new : Member) → KeepsRest old new → number new.pass ≡ number old.pass
rest_same old new rest = ap number rest.pass

-- a call by the client at this place
pub called_same : (Made : Board → Member → Member → Type 0) (old : Client) (place : ℕ) (was mid is : one.Client)
    → KeepsNumber Made → was ≡ get_or old.shards.items place was
    → of_one.MakesCall (λ board. SetsNow old.clock) was mid → of_one.MakesCall Made mid is
    → map seat_of (set old.shards.items place is) ≡ map seat_of old.shards.items
called_same Made old place was mid is keeps there sets made =
    map-set_same seat_of old.shards.items place is was
    (call_same Made mid is keeps made ∙ call_same (λ board. SetsNow old.clock) was mid (λ b x y set_now. rest_same x y set_now.rest) sets ∙ ap seat_of there)

-- a call by the client of each shard
pub each_same : (Made : Board → Member → Member → Type 0) (xs ys : List one.Client) → KeepsNumber Made → AllZip (of_one.MakesCall Made) xs ys → map seat_of ys ≡ map seat_of xs
each_same Made xs ys keeps = zip_maps seat_of (of_one.MakesCall Made) xs ys (λ x y. call_same Made x y keeps)

pub answers_same : {A : Type 0} (Made : A → Board → Member → Member
    → Type 0) (each : List A) (xs ys : List one.Client) → ((a : A) → KeepsNumber (Made a))
    → AllThree (λ a. of_one.MakesCall (Made a)) each xs ys → map seat_of ys ≡ map seat_of xs
answers_same Made each xs ys keeps = three_maps seat_of (λ a. of_one.MakesCall (Made a)) each xs ys (λ a x y. call_same (Made a) x y (keeps a))

-- two clients that met in each shard
pub meet_same : (olds others news nexts : List one.Client) → MeetAll olds others news nexts → (map seat_of news ≡ map seat_of olds) × (map seat_of nexts ≡ map seat_of others)
unfolding MeetAll
meet_same [] [] [] [] met = (refl, refl)
meet_same [] [] [] (d ∷ nexts) met = absurd met
meet_same [] [] (c ∷ news) nexts met = absurd met
meet_same [] (b ∷ others) news nexts met = absurd met
meet_same (a ∷ olds) [] news nexts met = absurd met
meet_same (a ∷ olds) (b ∷ others) [] nexts met = absurd met
meet_same (a ∷ olds) (b ∷ others) (c ∷ news) [] met = absurd met
meet_same (a ∷ olds) (b ∷ others) (c ∷ news) (d ∷ nexts) met =
    let rest = meet_same olds others news nexts met.1 in (
      ap (λ s. s ∷ map seat_of news) (seat_same a c met.0.same.index met.0.same.number) ∙ ap (λ l. seat_of a ∷ l) rest.0,
      ap (λ s. s ∷ map seat_of nexts) (seat_same b d met.0.other_same.index met.0.other_same.number) ∙ ap (λ l. seat_of b ∷ l) rest.1,
    )

-- ---- all clients

index_same : (i : Index) (x y : one.Client) → seat_of y ≡ seat_of x → x.index.now ≡ i → y.index.now ≡ i
index_same i x y same of = ap (λ s. s.0) same ∙ of

still_of : (indexes : List Index) (old new : Client) → IsSame old new → IsClientOf indexes old → IsClientOf indexes new
still_of indexes old new same of = zip_seen seat_of (λ i one. one.index.now ≡ i) indexes old.shards.items new.shards.items (λ i x y. index_same i x y) same of

-- the one has the pass that the other had
still_has : (clients : List Client) (place shard n : ℕ) (old new : Client) (its : one.Client)
    → slice_get clients place ≡ Some new → IsSame old new → slice_get old.shards.items shard ≡ Some its
    → number its.member.pass ≡ n → HasPass clients shard n
still_has clients place shard n old new its there same at is =
    let seen = seen_there seat_of old.shards.items new.shards.items shard its same at in record {
      place = place;
      client = new;
      there = there;
      one = seen.0;
      its = seen.1;
      number = ap (λ s. s.1) seen.2 ∙ is;
    }

pub each_stays : EachStays
each_stays indexes old new are same = record {
  of = λ place client at. let was = zip_at IsSame old new place client same at in still_of indexes was.0 client was.2 (are.of place was.0 was.1);
  all = λ shard i at n below.
      let has = are.all shard i at n below in
      let is = zip_beside IsSame old new has.place has.client same has.there in
      still_has new has.place shard n has.client is.0 has.one is.1 is.2 has.its has.number;
}

-- one of a list is another now, and the rest is as it was
zip_put : (clients : List Client) (place : ℕ) (old new : Client) → slice_get clients place ≡ Some old → IsSame old new → AllZip IsSame clients (set clients place new)
zip_put [] place old new at same = tt
zip_put (c ∷ clients) zero old new at same = (subst (λ k. IsSame k new) (sym (same_Some c old at)) same, zip_self clients)
  where
    zip_self : (clients : List Client) → AllZip IsSame clients clients
    zip_self [] = tt
    zip_self (c ∷ clients) = (refl, zip_self clients)
zip_put (c ∷ clients) (suc place) old new at same = (refl, zip_put clients place old new at same)

pub one_stays : OneStays
one_stays indexes clients place old new are at same = each_stays indexes clients (set clients place new) are (zip_put clients place old new at same)
