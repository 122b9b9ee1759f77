use Rattle.std.proofs.Common.{◌≡◌, ℕ, List, length, refl, subst, sym, ◌∙◌}
use Rattle.std.proofs.lemmas.Bool.{false≢true}
use Rattle.seghandles.specs.declared.client.SharedClient.{SharedClient}
use Rattle.seghandles.specs.declared.kept.Kept.TheVariants as kept
use Rattle.seghandles.specs.declared.status.Status.{Status}
use Rattle.seghandles.specs.declared.status.Status.TheVariants as status
use Rattle.seghandles.specs.Exports.{ByKey, ByValue, Returns}
use Rattle.seghandles.specs.Calls.{CallsKey}
use Rattle.seghandles.specs.Guest.{At}
use Rattle.segclient.specs.Puts.{Puts}
use Rattle.seghandles.specs.Writing.{MakesPut}
use Rattle.seghandles.proofs.Answering.{bad_key, bad_value, by_client, good_key, good_value}
use Rattle.segshards.specs.Shards.{shard_of}
use Rattle.seghandles.specs.Wants.{put_wants}
use Rattle.seghandles.proofs.writing.put.Goals as goal

pub returns-then-not-assign : goal.returns-then-not-assign
returns-then-not-assign c =
    let R : Status → Type 0 = Returns status.BadKey in
    let Makes : SharedClient → SharedClient → Type 0 = MakesPut c.args.key.now c.args.value.now c.args.now status.BadKey in
    let Valued : SharedClient → SharedClient → Type 0 = ByValue R c.args.value.now Makes in
    let Keyed : SharedClient → SharedClient → Type 0 = ByKey R c.args.key.now Valued in
    by_client R Keyed c.args.kept.now (kept.Client c.in-Client.client) c.in-Client.client c.in-Client.client c.in-Client.is refl
    (bad_key R c.args.key.now Valued c.in-Client.client (λ is. false≢true (sym c.if-not-assign.true ∙ c.assign.ensures.variant.1 is)) refl)

pub returns-in_default-new : goal.returns-in_default-new
returns-in_default-new c =
    let R : Status → Type 0 = Returns status.BadValue in
    let Makes : SharedClient → SharedClient → Type 0 = MakesPut c.args.key.now c.args.value.now c.args.now status.BadValue in
    let Valued : SharedClient → SharedClient → Type 0 = ByValue R c.args.value.now Makes in
    let Keyed : SharedClient → SharedClient → Type 0 = ByKey R c.args.key.now Valued in
    by_client R Keyed c.args.kept.now (kept.Client c.in-Client.client) c.in-Client.client c.in-Client.client c.in-Client.is refl
    (good_key R c.args.key.now Valued c.in-Client.client c.in-Client.client (c.assign.ensures.variant.0 c.if-not-assign.false)
    (bad_value R c.args.value.now Makes c.in-Client.client (λ is. false≢true (c.in_default-new.ensures.variant.1 is)) refl))

pub returns : goal.returns
returns c =
    let R : Status → Type 0 = Returns c.of_put.result in
    let Makes : SharedClient → SharedClient → Type 0 = MakesPut c.args.key.now c.args.value.now c.args.now c.of_put.result in
    let Valued : SharedClient → SharedClient → Type 0 = ByValue R c.args.value.now Makes in
    let Keyed : SharedClient → SharedClient → Type 0 = ByKey R c.args.key.now Valued in
    let same = c.assign.ensures.assigned c.if-not-assign.false in
    by_client R Keyed c.args.kept.now (kept.Client c.put.new.self) c.in-Client.client c.put.new.self c.in-Client.is refl
    (good_key R c.args.key.now Valued c.in-Client.client c.put.new.self (c.assign.ensures.variant.0 c.if-not-assign.false)
    (good_value R c.args.value.now Makes c.in-Client.client c.put.new.self (c.in-Some.ensures.variant.0 refl)
    (record {
      answer = c.put.result;
      calls = subst (λ (k : List ℕ). CallsKey k (At c.args.now (Puts k c.args.value.now c.put.result)) c.in-Client.client c.put.new.self) same
          (subst (λ (v : List ℕ). CallsKey c.assign.new.self (At c.args.now (Puts c.assign.new.self v c.put.result)) c.in-Client.client c.put.new.self) c.in-Some.ensures.some c.put.ensures.calls);
      wants = subst (λ (k : List ℕ). c.put.new.self.wants ≡ put_wants c.put.result (shard_of (length c.in-Client.client.guests.items) k)) same c.put.ensures.wants;
      returns = c.of_put.ensures;
    })))
