-- The shards of a cache that closes: the last of them, the same again, one after another.
use Rattle.std.proofs.Common.{◌≡◌, ◌≤◌, ◌<◌, ◌↔◌, List, [], ◌∷◌, ◌++◌, length, vec_len, All, Option, Some, None, IsSome, inl, refl, sym, ap, subst, arith}
use Rattle.std.proofs.lemmas.Bool.{false≢true}
use Rattle.std.specs.Global.{Vec}
use Rattle.std.specs.List.{AllZip}
use Rattle.std.specs.Option.{option_to_list}
use Rattle.std.proofs.lemmas.List.Elements.{All-head, All-same, All-tail}
use Rattle.segclient.proofs.Places.{zip_long, zip_push}
use Rattle.seghandles.specs.declared.cache.Cache.{Cache}
use Rattle.seghandles.specs.declared.cursor.Cursor.{Cursor}
use Rattle.seghandles.specs.declared.home.Home.{Home}
use Rattle.seghandles.specs.declared.status.Status.{Status}
use Rattle.seghandles.specs.declared.status.Status.TheVariants as status
use Rattle.seghandles.specs.Closing as closing
use Rattle.seghandles.specs.Ending.{AreAllHome, CloseInTurn, IsRead, LeavesOut, LeavesShard, StopsAs, Turns}
use Rattle.seghandles.specs.Home.{HasAllBack, IsRefusal, IsSameHome}

pub all_same : (homes : List Home) → AllZip IsSameHome homes homes
all_same [] = tt
all_same (home ∷ homes) = (record { index = refl; places = refl }, all_same homes)

-- the last one was taken out, and put back as it was
pub put_back : (before among after : List Home) (last same : Home) → before ≡ among ++ last ∷ [] → after ≡ among ++ same ∷ [] → IsSameHome last same → AllZip IsSameHome before after
put_back before among after last same was is stays =
    subst (λ l. AllZip IsSameHome l after) (sym was) (subst (λ l. AllZip IsSameHome (among ++ last ∷ []) l) (sym is) (zip_push IsSameHome among among last same (all_same among) stays))

last_of : {A : Type 0} (P : A → Type 0) (xs : List A) (x : A) → All P (xs ++ x ∷ []) → P x
last_of P [] x all = All-head P x [] all
last_of P (y ∷ xs) x all = last_of P xs x (All-tail P y (xs ++ x ∷ []) all)

-- the last shard was refused, and each client is back
pub is_refused : (cache : Cache) (among : List Home) (last : Home) (why : Status) → AreAllHome cache → cache.homes.items ≡ among ++ last ∷ [] → IsRefusal last why → closing.IsRefusal cache why
is_refused cache among last status.ClientOut all homes is = absurd (is (last_of HasAllBack among last (All-same HasAllBack (among ++ last ∷ []) cache.homes.items (sym homes) all)))
is_refused cache among last status.OutOfMemory all homes is = all
is_refused cache among last status.Busy all homes is = all
is_refused cache among last status.Ok all homes is = absurd is
is_refused cache among last status.Miss all homes is = absurd is
is_refused cache among last status.NoRoom all homes is = absurd is
is_refused cache among last status.BucketFull all homes is = absurd is
is_refused cache among last status.NotStored all homes is = absurd is
is_refused cache among last status.Exists all homes is = absurd is
is_refused cache among last status.NotFound all homes is = absurd is
is_refused cache among last status.BadKey all homes is = absurd is
is_refused cache among last status.BadValue all homes is = absurd is
is_refused cache among last status.ShortBuffer all homes is = absurd is
is_refused cache among last status.BadShape all homes is = absurd is
is_refused cache among last status.NoHandle all homes is = absurd is
is_refused cache among last status.AlreadyHolding all homes is = absurd is
is_refused cache among last status.NotHolding all homes is = absurd is
is_refused cache among last status.Foreign all homes is = absurd is
is_refused cache among last status.End all homes is = absurd is

-- none was closed yet, or one more was
pub no_turn : (cursor : Cursor) → CloseInTurn [] cursor cursor
unfolding CloseInTurn
no_turn cursor = refl

pub one_turn : (mids : List Cursor) (old mid new : Cursor) → CloseInTurn mids old mid → IsRead mid → Turns mid new → CloseInTurn (mids ++ new ∷ []) old new
unfolding CloseInTurn
one_turn [] old mid new so read turns = subst (λ m. IsRead m × Turns m new × (new ≡ new)) so (read, turns, refl)
one_turn (first ∷ mids) old mid new so read turns = (so.0, so.1, one_turn mids first mid new so.2 read turns)

has_some : (among : List Home) (last : Home) → 1 ≤ length (among ++ last ∷ [])
has_some [] last = omega arith
has_some (home ∷ homes) last = let rest = has_some homes last in omega arith

-- the last one wasn't closed, and was taken out
pub left_out : (why : Status) (old refused : Cursor) (homes : Vec Home) (last : Option Home) → LeavesShard why old refused → refused.homes.items ≡ homes.items ++ option_to_list last
    → (IsSome last ↔ (0 < vec_len refused.homes)) → LeavesOut why old (record refused { homes = homes })
left_out why old refused homes (Some home) leaves taken some = record { refused = refused; leaves = leaves; takes = record { home = home; homes = taken }; pairs = leaves.pairs }
left_out why old refused homes None leaves taken some =
    let long : length refused.homes.items ≡ length old.homes.items = zip_long IsSameHome old.homes.items refused.homes.items leaves.same in
    let was : length old.homes.items ≡ length (leaves.among ++ leaves.last ∷ []) = ap (λ (l : List Home). length l) leaves.homes in
    let more : 1 ≤ length (leaves.among ++ leaves.last ∷ []) = has_some leaves.among leaves.last in
    let have : vec_len refused.homes ≡ length refused.homes.items = refused.homes.ok.0 in
    absurd (false≢true (some.1 (omega (arith, long, was, more, have))))

-- the next one wasn't closed, and is left out
pub stops_refused : (why : Status) (last new : Cursor) → IsRead last → LeavesOut why last new → StopsAs last new why
stops_refused status.Ok last new read out = absurd out.leaves.is_refusal
stops_refused status.End last new read out = absurd out.leaves.is_refusal
stops_refused status.Miss last new read out = (read, inl out)
stops_refused status.Busy last new read out = (read, inl out)
stops_refused status.NoRoom last new read out = (read, inl out)
stops_refused status.BucketFull last new read out = (read, inl out)
stops_refused status.NotStored last new read out = (read, inl out)
stops_refused status.Exists last new read out = (read, inl out)
stops_refused status.NotFound last new read out = (read, inl out)
stops_refused status.BadKey last new read out = (read, inl out)
stops_refused status.BadValue last new read out = (read, inl out)
stops_refused status.ShortBuffer last new read out = (read, inl out)
stops_refused status.BadShape last new read out = (read, inl out)
stops_refused status.OutOfMemory last new read out = (read, inl out)
stops_refused status.NoHandle last new read out = (read, inl out)
stops_refused status.AlreadyHolding last new read out = (read, inl out)
stops_refused status.NotHolding last new read out = (read, inl out)
stops_refused status.ClientOut last new read out = (read, inl out)
stops_refused status.Foreign last new read out = (read, inl out)
