use Rattle.std.proofs.Common.{rules, ◌≡◌, ◌<◌, [], Some, None, get_or, length, sym, ap, ◌∙◌}
use Rattle.std.specs.Option.{option_copied}
use Rattle.std.proofs.lemmas.List.{get_or_default}
use Rattle.segmodel.specs.Cache.{standing}
use Rattle.segmodel.specs.Plain.{filling_in, state_of}
use Rattle.segmodel.specs.Segments.{filling_of}
use Rattle.segmodel.specs.Serving.{span_under}
use Rattle.segmodel.proofs.SegmentLemmas.{there}
use Rattle.segmodel.proofs.Spans.{under_is, under_none}
use Rattle.segmodel.proofs.plain.Plain.span_at.Goals as goal

pub returns-in-Some : goal.returns-in-Some
returns-in-Some c =
    let found = c.index.result.now in
    let was = there c.args.self.now.segments.items c.args.segment found (search rules) c.index.ensures in
    let within : c.args.row < length found.keys.items = rw (ap (λ o. (filling_of o).keys) was) at c.requires.used in
    let same : c.index-key.result.now ≡ get_or (filling_in c.args.self.now c.args.segment).keys c.args.row [] =
    c.index-key.ensures ∙ get_or_default found.keys.items c.args.row c.index-key.result.now [] within ∙ sym (ap (λ o. get_or (filling_of o).keys c.args.row []) was) in
    let stands : standing (state_of c.args.self.now).cache c.index-key.result.now ≡ Some c.in-Some.item.now =
    sym c.get.ensures.value ∙ ap option_copied c.in-Some.is in
    c.span_of.ensures.rows ∙ under_is (state_of c.args.self.now) c.index-key.result.now c.in-Some.item.now stands
    ∙ ap (span_under (state_of c.args.self.now)) same

pub returns-in-None : goal.returns-in-None
returns-in-None c =
    let found = c.index.result.now in
    let was = there c.args.self.now.segments.items c.args.segment found (search rules) c.index.ensures in
    let within : c.args.row < length found.keys.items = rw (ap (λ o. (filling_of o).keys) was) at c.requires.used in
    let same : c.index-key.result.now ≡ get_or (filling_in c.args.self.now c.args.segment).keys c.args.row [] =
    c.index-key.ensures ∙ get_or_default found.keys.items c.args.row c.index-key.result.now [] within ∙ sym (ap (λ o. get_or (filling_of o).keys c.args.row []) was) in
    let stands : standing (state_of c.args.self.now).cache c.index-key.result.now ≡ None = sym c.get.ensures.value ∙ ap option_copied c.in-None.is in
    under_none (state_of c.args.self.now) c.index-key.result.now stands ∙ ap (span_under (state_of c.args.self.now)) same
