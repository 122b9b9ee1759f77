use Rattle.std.proofs.Common.{ℕ, List, refl, subst, sym, ◌∙◌}
use Rattle.std.proofs.lemmas.Bool.{false≢true}
use Rattle.seghandles.specs.declared.client.SharedClient.{SharedClient}
use Rattle.seghandles.specs.declared.kept.Kept.TheVariants as kept
use Rattle.seghandles.specs.declared.status.Status.{Status}
use Rattle.seghandles.specs.declared.status.Status.TheVariants as status
use Rattle.seghandles.specs.Exports.{ByKey, Returns}
use Rattle.seghandles.specs.Calls.{MakesCall}
use Rattle.seghandles.specs.Guest.{At}
use Rattle.segclient.specs.Made.{DeletesKey}
use Rattle.seghandles.specs.Writing.{MakesDelete}
use Rattle.seghandles.proofs.Answering.{bad_key, by_client, good_key}
use Rattle.seghandles.proofs.writing.delete.Goals as goal

pub returns-then-not-assign : goal.returns-then-not-assign
returns-then-not-assign c =
    let R : Status → Type 0 = Returns status.BadKey in
    let Makes : SharedClient → SharedClient → Type 0 = MakesDelete c.args.key.now c.args.now status.BadKey in
    let Keyed : SharedClient → SharedClient → Type 0 = ByKey R c.args.key.now Makes in
    by_client R Keyed c.args.kept.now (kept.Client c.in-Client.client) c.in-Client.client c.in-Client.client c.in-Client.is refl
    (bad_key R c.args.key.now Makes c.in-Client.client (λ is. false≢true (sym c.if-not-assign.true ∙ c.assign.ensures.variant.1 is)) refl)

pub returns : goal.returns
returns c =
    let R : Status → Type 0 = Returns c.of_delete.result in
    let Makes : SharedClient → SharedClient → Type 0 = MakesDelete c.args.key.now c.args.now c.of_delete.result in
    let Keyed : SharedClient → SharedClient → Type 0 = ByKey R c.args.key.now Makes in
    let same = c.assign.ensures.assigned c.if-not-assign.false in
    by_client R Keyed c.args.kept.now (kept.Client c.delete.new.self) c.in-Client.client c.delete.new.self c.in-Client.is refl
    (good_key R c.args.key.now Makes c.in-Client.client c.delete.new.self (c.assign.ensures.variant.0 c.if-not-assign.false)
    (record {
      answer = c.delete.result;
      calls = subst (λ (k : List ℕ). MakesCall k (At c.args.now (DeletesKey k c.delete.result)) c.in-Client.client c.delete.new.self) same c.delete.ensures;
      returns = c.of_delete.ensures;
    }))
