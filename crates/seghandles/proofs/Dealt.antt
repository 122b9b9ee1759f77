-- Rows of guests, one for each client: empty, with a guest of each shard, and as clients.
use Rattle.std.proofs.Common.{◌≡◌, ◌≤◌, ℕ, zero, suc, List, [], ◌∷◌, ◌++◌, All, length, slice_get, take, Some, refl, sym, ap, ◌∙◌, subst, arith}
use Rattle.std.specs.Global.{Vec}
use lib.Seq.{take-length}
use Rattle.std.specs.Int.{IsInRange}
use Rattle.std.specs.List.{AllZip}
use Rattle.std.specs.Vec.{vec_len}
use Rattle.std.proofs.lemmas.Option.{none-some, same_Some}
use Rattle.std.proofs.lemmas.List.Elements.{All-head, All-tail}
use Rattle.segword.specs.Words.{Shape}
use Rattle.segclient.proofs.Places.{zip_at, zip_long, zip_push}
use Rattle.segshards.specs.declared.plan.ShardPlan.{ShardPlan}
use Rattle.segshards.specs.Each.{AllThree}
use Rattle.seghandles.specs.declared.cache.Cache.{Cache}
use Rattle.seghandles.specs.declared.client.SharedClient.{SharedClient}
use Rattle.seghandles.specs.declared.guest.Guest.{Guest}
use Rattle.seghandles.specs.declared.home.Home.{Home}
use Rattle.seghandles.specs.declared.kept.Kept.{Kept}
use Rattle.seghandles.specs.declared.kept.Kept.TheVariants as kept
use Rattle.seghandles.specs.Making.{AddsShard, AreRowsOf, HasGuests, IsClientOf, IsGuestAt, IsHomeOf, IsNewGuest, OpensShards, Shard}
use Rattle.seghandles.specs.Opening.{IsCache, IsClient}
use Rattle.seghandles.proofs.Members.{all_from}

-- what stands at a place of the third of three lists stands beside one of each of the others
pub three_at : {A B C : Type 0} (R : A → B → C → Type 0) (ones : List A) (others : List B) (thirds : List C) (n : ℕ) (c : C) → AllThree R ones others thirds → slice_get thirds n ≡ Some c
    → (a : A) × (b : B) × (slice_get ones n ≡ Some a) × (slice_get others n ≡ Some b) × R a b c
unfolding AllThree
three_at R [] [] [] n c all at = absurd (none-some c at)
three_at R [] [] (z ∷ thirds) n c all at = absurd all
three_at R [] (y ∷ others) thirds n c all at = absurd all
three_at R (x ∷ ones) [] thirds n c all at = absurd all
three_at R (x ∷ ones) (y ∷ others) [] n c all at = absurd all
three_at R (x ∷ ones) (y ∷ others) (z ∷ thirds) zero c all at = (x, y, refl, refl, subst (R x y) (same_Some z c at) all.0)
three_at R (x ∷ ones) (y ∷ others) (z ∷ thirds) (suc n) c all at = three_at R ones others thirds n c all.1 at

pub three_long : {A B C : Type 0} (R : A → B → C → Type 0) (ones : List A) (others : List B) (thirds : List C) → AllThree R ones others thirds → length thirds ≡ length others
unfolding AllThree
three_long R [] [] [] all = refl
three_long R [] [] (z ∷ thirds) all = absurd all
three_long R [] (y ∷ others) thirds all = absurd all
three_long R (x ∷ ones) [] thirds all = absurd all
three_long R (x ∷ ones) (y ∷ others) [] all = absurd all
three_long R (x ∷ ones) (y ∷ others) (z ∷ thirds) all = ap suc (three_long R ones others thirds all.1)

-- at the end of two lists it is so of all three
pub all_three : {A B C : Type 0} (R : A → B → C → Type 0) (ones : List A) (others : List B) (thirds : List C)
    (n : ℕ) → n ≡ length others → length thirds ≡ length others → AllThree R ones (take n others) (take n thirds)
    → AllThree R ones others thirds
all_three R ones others thirds n end long made =
    subst (λ l. AllThree R ones l thirds) (ap (λ m. take m others) end ∙ take-length others)
    (subst (λ l. AllThree R ones (take n others) l) (ap (λ m. take m thirds) (end ∙ sym long) ∙ take-length thirds) made)

all_at : {A : Type 0} (P : A → Type 0) (xs : List A) (n : ℕ) (x : A) → All P xs → slice_get xs n ≡ Some x → P x
all_at P [] n x all at = absurd (none-some x at)
all_at P (y ∷ xs) zero x all at = subst P (same_Some y x at) (All-head P y xs all)
all_at P (y ∷ xs) (suc n) x all at = all_at P xs n x (All-tail P y xs all) at

-- of no shard
pub no_rows : (rows : List (Vec Guest)) → All (λ row. row.items ≡ []) rows → AreRowsOf [] rows
no_rows rows all = λ n row at. subst (λ (l : List Guest). AllZip (IsGuestAt n) [] l) (sym (all_at (λ row. row.items ≡ []) rows n row all at)) tt

-- of one shard more
pub rows_more : (shape : Shape) (home : Home) (old new : List (Vec Guest)) (shards : List Shard)
    (adds : AddsShard shape home old new) → AreRowsOf shards old → AreRowsOf (shards ++ adds.shard ∷ []) new
rows_more shape home old new shards adds are = λ n row at.
    let dealt = three_at (λ guest was is. is.items ≡ was.items ++ guest ∷ []) adds.guests old new n row adds.deals at in
    let guest = dealt.0 in
    let was = dealt.1 in
    let its = zip_at (IsNewGuest adds.shard.index) adds.shard.passes adds.guests n guest adds.of dealt.2 in
    subst (λ (l : List Guest). AllZip (IsGuestAt n) (shards ++ adds.shard ∷ []) l) (sym {A = List Guest} dealt.4)
    (zip_push (IsGuestAt n) shards was.items adds.shard guest (are n was dealt.3) (record { pass = its.0; there = its.1; new = its.2 }))

-- each has as many guests as there are shards
pub rows_in_range : (plan : ShardPlan) (homes : List Home) (rows : List (Vec Guest)) → OpensShards plan homes rows
    → 1 ≤ plan.count → plan.count ≤ 16384 → All (λ row. IsInRange 1 16384 (vec_len row)) rows
rows_in_range plan homes rows opens some few = all_from (λ row. IsInRange 1 16384 (vec_len row)) rows (λ n row at.
    let long = zip_long (IsGuestAt n) opens.shards row.items (opens.rows_of n row at) in
    let count = opens.count in
    let have = row.ok.0 in
    (omega (arith, long, count, have, some), omega (arith, long, count, have, few)))

-- ---- clients

is_client : (n : ℕ) (shards : List Shard) (row : Vec Guest) (k : Kept) → AllZip (IsGuestAt n) shards row.items → IsClientOf row k → IsClient n shards k
is_client n shards row (kept.Client client) guests is = record {
  guests = subst (λ (v : Vec Guest). AllZip (IsGuestAt n) shards v.items) (sym is.guests) guests;
  holds = is.holds;
  wants = is.wants;
}
is_client n shards row (kept.Cache cache) guests is = absurd is
is_client n shards row (kept.Cursor cursor) guests is = absurd is
is_client n shards row (kept.Note notes) guests is = absurd is

pub all_clients : (shards : List Shard) (rows : List (Vec Guest)) (clients : List Kept) → AreRowsOf shards rows
    → AllZip IsClientOf rows clients → (n : ℕ) (k : Kept) → slice_get clients n ≡ Some k → IsClient n shards k
all_clients shards rows clients are all n k at = let row = zip_at IsClientOf rows clients n k all at in is_client n shards row.0 k (are n row.0 row.1) row.2

pub is_cache : (shards : List Shard) (k : Kept) (cache : Cache) (homes : Vec Home) → k ≡ kept.Cache cache → cache.homes ≡ homes → AllZip IsHomeOf shards homes.items → IsCache shards k
is_cache shards k cache homes from has is =
    subst (IsCache shards) (sym from) (subst (λ (v : Vec Home). AllZip IsHomeOf shards v.items) (sym has) is)

pub is_client_of : (row : Vec Guest) (k : Kept) (client : SharedClient) → k ≡ kept.Client client → HasGuests row client → IsClientOf row k
is_client_of row k client from has = subst (IsClientOf row) (sym from) has
