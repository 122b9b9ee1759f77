use Rattle.std.proofs.Common.{ℕ, List, refl, subst, sym, ◌∙◌}
use Rattle.std.proofs.lemmas.Bool.{false≢true}
use Rattle.seghandles.specs.declared.status.Status.TheVariants as status
use Rattle.seghandles.specs.Exports.{Out, WritesNothing}
use Rattle.seghandles.specs.Calls.{MakesCall}
use Rattle.seghandles.specs.Guest.{At}
use Rattle.segclient.specs.Made.{Gets}
use Rattle.seghandles.specs.Reading.{MakesGet}
use Rattle.seghandles.proofs.Answering.{bad_key, good_key}
use Rattle.seghandles.proofs.Copied.{answer_of, call_of, copies_of, returns_copy}
use Rattle.seghandles.proofs.reading.get_key.Goals as goal

pub returns-then-not-assign : goal.returns-then-not-assign
returns-then-not-assign c =
    let out : Out = (c.args.value.now, c.args.value_len.now) in
    bad_key (WritesNothing out out status.BadKey) c.args.key.now (MakesGet c.args.key.now c.args.now out out status.BadKey) c.args.client.now
    (λ is. false≢true (sym c.if-not-assign.true ∙ c.assign.ensures.variant.1 is)) (refl, refl)

pub returns : goal.returns
returns c =
    let out : Out = (c.args.value.now, c.args.value_len.now) in
    let next : Out = (c.get_into.new.bytes, c.tell_length.new.value_len) in
    let old = c.args.client.now in let new = c.get_into.new.self in
    let told = c.get_into.result in
    let answer = answer_of _ c.args.now told out.0 next.0 old new c.get_into.ensures in
    let same = c.assign.ensures.assigned c.if-not-assign.false in
    good_key (WritesNothing out next c.tell_length.result) c.args.key.now
    (MakesGet c.args.key.now c.args.now out next c.tell_length.result) old new
    (c.assign.ensures.variant.0 c.if-not-assign.false)
    (record {
      answer = answer;
      calls = subst (λ (k : List ℕ). MakesCall k (At c.args.now (Gets k answer)) old new) same
          (call_of _ c.args.now told out.0 next.0 old new c.get_into.ensures);
      returns = returns_copy answer told c.tell_length.result out.0 next.0 out.1 next.1
          (copies_of _ c.args.now told out.0 next.0 old new c.get_into.ensures) c.tell_length.ensures;
    })
