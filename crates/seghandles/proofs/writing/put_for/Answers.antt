use Rattle.std.proofs.Common.{◌≡◌, ℕ, List, length, refl, subst, sym, ◌∙◌}
use Rattle.std.proofs.lemmas.Bool.{false≢true}
use Rattle.seghandles.specs.declared.client.SharedClient.{SharedClient}
use Rattle.seghandles.specs.declared.kept.Kept.TheVariants as kept
use Rattle.seghandles.specs.declared.status.Status.{Status}
use Rattle.seghandles.specs.declared.status.Status.TheVariants as status
use Rattle.seghandles.specs.Exports.{ByKey, ByValue, Returns}
use Rattle.seghandles.specs.Calls.{CallsKey}
use Rattle.seghandles.specs.Guest.{At}
use Rattle.segclient.specs.Puts.{PutsFor}
use Rattle.seghandles.specs.Writing.{MakesPutFor}
use Rattle.seghandles.proofs.Answering.{bad_key, bad_value, by_client, good_key, good_value}
use Rattle.segshards.specs.Shards.{shard_of}
use Rattle.seghandles.specs.Wants.{put_wants}
use Rattle.seghandles.proofs.writing.put_for.Goals as goal

pub returns-then-not-assign : goal.returns-then-not-assign
returns-then-not-assign c =
    let R : Status → Type 0 = Returns status.BadKey in
    let Makes : SharedClient → SharedClient → Type 0 =
    MakesPutFor c.args.seconds c.args.key.now c.args.value.now c.args.now status.BadKey in
    let Valued : SharedClient → SharedClient → Type 0 = ByValue R c.args.value.now Makes in
    let Keyed : SharedClient → SharedClient → Type 0 = ByKey R c.args.key.now Valued in
    let client = c.in-Client.client in
    by_client R Keyed c.args.kept.now (kept.Client client) client client c.in-Client.is refl
    (bad_key R c.args.key.now Valued client (λ is. false≢true (sym c.if-not-assign.true ∙ c.assign.ensures.variant.1 is)) refl)

pub returns-in_default-new : goal.returns-in_default-new
returns-in_default-new c =
    let R : Status → Type 0 = Returns status.BadValue in
    let Makes : SharedClient → SharedClient → Type 0 =
    MakesPutFor c.args.seconds c.args.key.now c.args.value.now c.args.now status.BadValue in
    let Valued : SharedClient → SharedClient → Type 0 = ByValue R c.args.value.now Makes in
    let Keyed : SharedClient → SharedClient → Type 0 = ByKey R c.args.key.now Valued in
    let client = c.in-Client.client in
    by_client R Keyed c.args.kept.now (kept.Client client) client client c.in-Client.is refl
    (good_key R c.args.key.now Valued client client (c.assign.ensures.variant.0 c.if-not-assign.false)
    (bad_value R c.args.value.now Makes client
    (λ is. false≢true (c.in_default-new.ensures.variant.1 is)) refl))

pub returns : goal.returns
returns c =
    let R : Status → Type 0 = Returns c.of_put.result in
    let Makes : SharedClient → SharedClient → Type 0 =
    MakesPutFor c.args.seconds c.args.key.now c.args.value.now c.args.now c.of_put.result in
    let Valued : SharedClient → SharedClient → Type 0 = ByValue R c.args.value.now Makes in
    let Keyed : SharedClient → SharedClient → Type 0 = ByKey R c.args.key.now Valued in
    let old = c.in-Client.client in
    let new = c.put_for.new.self in
    let told = c.put_for.result in
    let Calls = λ (k v : List ℕ). CallsKey k (At c.args.now (PutsFor c.args.seconds k v told)) old new in
    let Wants = λ (k : List ℕ). new.wants ≡ put_wants told (shard_of (length old.guests.items) k) in
    let same = c.assign.ensures.assigned c.if-not-assign.false in
    by_client R Keyed c.args.kept.now (kept.Client new) old new c.in-Client.is refl
    (good_key R c.args.key.now Valued old new (c.assign.ensures.variant.0 c.if-not-assign.false)
    (good_value R c.args.value.now Makes old new (c.in-Some.ensures.variant.0 refl)
    (record {
      answer = told;
      calls = subst (λ (k : List ℕ). Calls k c.args.value.now) same
          (subst (λ (v : List ℕ). Calls c.assign.new.self v) c.in-Some.ensures.some c.put_for.ensures.calls);
      wants = subst Wants same c.put_for.ensures.wants;
      returns = c.of_put.ensures;
    })))
