use Rattle.std.proofs.Common.{ℕ, List, refl, subst, sym, ◌∙◌}
use Rattle.std.proofs.lemmas.Bool.{false≢true}
use Rattle.seghandles.specs.declared.status.Status.TheVariants as status
use Rattle.seghandles.specs.Exports.{Out}
use Rattle.seghandles.specs.Calls.{MakesCall}
use Rattle.seghandles.specs.Guest.{At}
use Rattle.segclient.specs.Made.{GetsVersion}
use Rattle.seghandles.specs.Reading.{MakesGets, WritesNoVersion}
use Rattle.seghandles.proofs.Answering.{bad_key, good_key}
use Rattle.seghandles.proofs.Copied.{returns_version, version_answer_of, version_call_of, version_copies_of}
use Rattle.seghandles.proofs.reading.gets_key.Goals as goal

pub returns-then-not-assign : goal.returns-then-not-assign
returns-then-not-assign c =
    let out : Out = (c.args.value.now, c.args.value_len.now) in
    let version : ℕ = c.args.version.now in
    bad_key (WritesNoVersion out out version version status.BadKey) c.args.key.now (MakesGets c.args.key.now c.args.now out out version version status.BadKey) c.args.client.now
    (λ is. false≢true (sym c.if-not-assign.true ∙ c.assign.ensures.variant.1 is)) ((refl, refl), refl)

pub returns : goal.returns
returns c =
    let out : Out = (c.args.value.now, c.args.value_len.now) in
    let next : Out = (c.gets_into.new.bytes, c.tell_version.new.value_len) in
    let version : ℕ = c.args.version.now in
    let next_version : ℕ = c.tell_version.new.version in
    let old = c.args.client.now in let new = c.gets_into.new.self in
    let told = c.gets_into.result in
    let answer = version_answer_of _ c.args.now told out.0 next.0 old new c.gets_into.ensures in
    let same = c.assign.ensures.assigned c.if-not-assign.false in
    good_key (WritesNoVersion out next version next_version c.tell_version.result) c.args.key.now
    (MakesGets c.args.key.now c.args.now out next version next_version c.tell_version.result) old new
    (c.assign.ensures.variant.0 c.if-not-assign.false)
    (record {
      answer = answer;
      calls = subst (λ (k : List ℕ). MakesCall k (At c.args.now (GetsVersion k answer)) old new) same
          (version_call_of _ c.args.now told out.0 next.0 old new c.gets_into.ensures);
      returns = returns_version answer told c.tell_version.result out.0 next.0 out.1 next.1 version next_version
          (version_copies_of _ c.args.now told out.0 next.0 old new c.gets_into.ensures) c.tell_version.ensures;
    })
