use Rattle.std.proofs.Common.{◌≡◌, Some, sym, ap, ◌∙◌, refl, arith, rules}
use Rattle.std.specs.Vec.{with_items}
use Rattle.std.proofs.lemmas.List.{with_items_is}
use Rattle.segmodel.specs.Cache.{with_at}
use Rattle.segmodel.specs.Segments.{filling_of, fillings}
use Rattle.segmodel.specs.Serving.{raised, raised_in}
use Rattle.segmodel.specs.State.{Filling}
use Rattle.segmodel.proofs.SegmentLemmas.{deadlines_set, fillings_set, roomy_set, there}
use Rattle.segmodel.proofs.parts.raise_in.Goals as goal

pub returns-clause-raised : goal.returns-clause-raised
returns-clause-raised c =
    let found = c.index_mut-found.result.now in
    let was = there c.args.segments.now.items c.args.segment found (search rules) c.index_mut-found.ensures.value in
    let more = c.raise.ensures ∙ (λ i. raised c.args.key.now (c.deref.ensures.value i) (c.deref_mut.ensures.value i)) in
    let held : (with_items found.frequencies c.raise.new.frequencies).items ≡ c.raise.new.frequencies = with_items_is found.frequencies c.raise.new.frequencies (search rules) in
    let is : ◌≡◌ {A = Filling} (filling_of (Some (record found { frequencies = with_items found.frequencies c.raise.new.frequencies }))) (raised_in c.args.key.now (filling_of (Some found))) =
    (λ i. record { state = found.state; keys = found.keys.items; frequencies = (held ∙ more) i }) in
    fillings_set c.args.segments.now.items c.args.segment found (record found { frequencies = with_items found.frequencies c.raise.new.frequencies }) was
    ∙ ap (with_at (fillings c.args.segments.now.items) c.args.segment) (is ∙ sym (ap (λ o. raised_in c.args.key.now (filling_of o)) was))

pub returns-clause-deadlines : goal.returns-clause-deadlines
returns-clause-deadlines c = deadlines_set c.args.segments.now.items c.args.segment c.index_mut-found.result.now _
    (there c.args.segments.now.items c.args.segment c.index_mut-found.result.now (search rules) c.index_mut-found.ensures.value) refl

pub returns-clause-room : goal.returns-clause-room
returns-clause-room c rows = roomy_set c.args.segments.now.items c.args.segment c.index_mut-found.result.now _
    (there c.args.segments.now.items c.args.segment c.index_mut-found.result.now (search rules) c.index_mut-found.ensures.value) rows (omega arith, omega arith)
