-- A client of shards makes a call by the one that holds an item.
use Rattle.std.specs.Prelude.{is_some}
use Rattle.std.proofs.lemmas.Bool.{false≢true}
use Rattle.std.proofs.Common.{false, ap, ◌≡◌, ◌<◌, ℕ, List, get_or, length, set, slice_get, Option, Some, None, IfSome, refl, sym, ◌∙◌, subst, arith}
use Rattle.std.proofs.lemmas.Grind.{get_or-set_at}
use Rattle.std.proofs.lemmas.List.{length-set}
use Rattle.std.proofs.lemmas.Option.{same_Some, slice_get-get_or, slice_get_within}
use Rattle.segindex.specs.Words.{Index, shape_of}
use Rattle.segread.specs.declared.held.HoldAnswer.TheVariants as hold_answer
use Rattle.segread.specs.Words as read
use Rattle.segbase.specs.Words.{Board}
use Rattle.segread.specs.Words.{Hold, HoldAnswer}
use Rattle.segclient.specs.declared.client.Client as one
use Rattle.segclient.specs.declared.member.Member.{Member}
use Rattle.segclient.specs.Client as of_one
use Rattle.segclient.specs.Made as made
use Rattle.segclient.specs.Member.{SetsNow}
use Rattle.segshards.specs.declared.client.Client.{Client}
use Rattle.segshards.specs.Client.{CallsShard}
use Rattle.segshards.specs.Holding.{HasHold, holds_after, HoldsBy, HoldsKey, IsHoldOf}
use Rattle.segshards.specs.Shards.{shard_of}
use Rattle.segshards.proofs.Calls.{calls_shard}

pub by_holder : (hold : Hold) (Made : Board → Member → Member → Type 0) (old new : Client) (place : ℕ) (was mid is : one.Client)
    → IsHoldOf hold old → old.holds ≡ Some place → was ≡ get_or old.shards.items place was
    → of_one.MakesCall (λ board. SetsNow old.clock) was mid → of_one.MakesCall Made mid is
    → new.shards.items ≡ set old.shards.items place is → new.clock ≡ old.clock
    → IfSome old.holds (λ shard. CallsShard shard Made old new)
by_holder hold Made old new place was mid is held at there sets made shards clock =
    let same : held.shard ≡ place = same_Some held.shard place (sym held.holds ∙ at) in
    let below = subst (λ n. n < length old.shards.items) same (slice_get_within old.shards.items held.shard held.holder held.there) in
    subst (λ (h : Option ℕ). IfSome h (λ shard. CallsShard shard Made old new)) (sym at)
    (calls_shard place Made old new place was mid is refl below there sets made shards clock)

pub none_held : (h : Option ℕ) → is_some h ≡ false → h ≡ None
none_held None none = refl
none_held (Some shard) none = absurd (false≢true (sym none))

-- a hold in the key's shard, where nothing was held
pub takes_hold : (key : List ℕ) (told answer : HoldAnswer) (old new : Client) (place : ℕ) (was mid is : one.Client)
    → is_some old.holds ≡ false → answer ≡ told → (place ≡ shard_of (length old.shards.items) key) × (place < length old.shards.items) → was ≡ get_or old.shards.items place was
    → of_one.MakesCall (λ board. SetsNow old.clock) was mid → of_one.MakesCall (made.HoldsKey key answer) mid is
    → new.shards.items ≡ set old.shards.items place is → new.clock ≡ old.clock → new.holds ≡ holds_after told place
    → HoldsKey key told old new
takes_hold key told answer old new place was mid is none same at there sets call shards clock holds =
    subst (λ h. HoldsBy h key told old new) (sym (none_held old.holds none)) (record {
      calls = calls_shard (shard_of (length old.shards.items) key) (made.HoldsKey key told) old new place was mid is
          at.0 at.1 there sets (subst (λ t. of_one.MakesCall (made.HoldsKey key t) mid is) same call) shards clock;
      holds = holds ∙ ap (holds_after told) at.0;
    })

there_now : (items : List one.Client) (place : ℕ) (is : one.Client) → place < length items → slice_get (set items place is) place ≡ Some is
there_now items place is below =
    let long = length-set items place is in
    slice_get-get_or (set items place is) place is (omega (arith, below, long)) ∙ ap (λ (client : one.Client). Some client) (get_or-set_at items place place is is refl below)

-- what is held then, and of which key it is
pub has_hold : (key : List ℕ) (hold : Hold) (answer : HoldAnswer) (items : List one.Client) (new : Client) (place : ℕ) (was is : one.Client)
    → answer ≡ hold_answer.Holding hold → place < length items → of_one.MakesCall (made.HoldsKey key answer) was is
    → new.shards.items ≡ set items place is → new.holds ≡ Some place
    → HasHold key (hold_answer.Holding hold) new
has_hold key hold answer items new place was is same below call shards holds =
    let told = subst (λ t. of_one.MakesCall (made.HoldsKey key t) was is) same call in
    let takes = told.made.holds.answer in
    let its = subst (λ (i : Index). (row : read.IsHoldOf (shape_of i) hold is.member.pass) × (row.held.key ≡ key)) (sym told.index) (takes.is, takes.of) in
    record {
      of = record { shard = place; holds = holds; holder = is; there = subst (λ l. slice_get l place ≡ Some is) (sym shards) (there_now items place is below); is = its.0 };
      item = its.1;
    }

-- it is held still, where it was read
pub still_held : (hold : Hold) (value : List ℕ) (old new : Client) (place : ℕ) (was is : one.Client)
    → IsHoldOf hold old → old.holds ≡ Some place → of_one.MakesCall (made.ReadsHold hold value) was is
    → new.shards.items ≡ set old.shards.items place is → new.holds ≡ old.holds
    → IsHoldOf hold new
still_held hold value old new place was is held at call shards holds =
    let same : held.shard ≡ place = same_Some held.shard place (sym held.holds ∙ at) in
    let below = subst (λ n. n < length old.shards.items) same (slice_get_within old.shards.items held.shard held.holder held.there) in
    record {
      shard = place;
      holds = holds ∙ at;
      holder = is;
      there = subst (λ l. slice_get l place ≡ Some is) (sym shards) (there_now old.shards.items place is below);
      is = subst (λ (i : Index). read.IsHoldOf (shape_of i) hold is.member.pass) (sym call.index) call.made.reads.hold;
    }
