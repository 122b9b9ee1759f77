use Rattle.std.proofs.Common.{◌≡◌, Some, sym, ap, ◌∙◌, refl, subst, IsSomeAnd, ◌+◌, ◌≤◌, vec_len, arith}
use Rattle.std.specs.Vec.{vec_capacity}
use Rattle.segmodel.specs.declared.segment.Segment.{Segment}
use Rattle.segmodel.specs.Cache.{with_at}
use Rattle.segmodel.specs.Segments.{filling_of, fillings}
use Rattle.segmodel.specs.Serving.{with_key}
use Rattle.segmodel.specs.State.{Filling}
use Rattle.segmodel.proofs.SegmentLemmas.{deadlines_set, fillings_set, here_set, roomy_set, there_if}
use Rattle.segmodel.proofs.parts.push_row.Goals as goal

pub returns-clause-added : goal.returns-clause-added
returns-clause-added c =
    let found = c.index_mut-found.result.now in
    let was = there_if c.args.segments.now.items c.args.segment found _ c.requires c.index_mut-found.ensures.value in
    let new : Segment = record found { keys = c.push_reserved.new.self; frequencies = c.push_reserved-2.new.self } in
    let is : ◌≡◌ {A = Filling} (filling_of (Some new)) (with_key c.args.key c.args.frequency (filling_of (Some found))) =
    (λ i. record { state = found.state; keys = c.push_reserved.ensures.items i; frequencies = c.push_reserved-2.ensures.items i }) in
    fillings_set c.args.segments.now.items c.args.segment found new was
    ∙ ap (with_at (fillings c.args.segments.now.items) c.args.segment) (is ∙ sym (ap (λ o. with_key c.args.key c.args.frequency (filling_of o)) was))

pub returns-clause-deadlines : goal.returns-clause-deadlines
returns-clause-deadlines c =
    let found = c.index_mut-found.result.now in
    deadlines_set c.args.segments.now.items c.args.segment found (record found { keys = c.push_reserved.new.self; frequencies = c.push_reserved-2.new.self })
    (there_if c.args.segments.now.items c.args.segment found _ c.requires c.index_mut-found.ensures.value) refl

pub returns-clause-room : goal.returns-clause-room
returns-clause-room c rows =
    let found = c.index_mut-found.result.now in
    roomy_set c.args.segments.now.items c.args.segment found (record found { keys = c.push_reserved.new.self; frequencies = c.push_reserved-2.new.self })
    (there_if c.args.segments.now.items c.args.segment found _ c.requires c.index_mut-found.ensures.value) rows
    (omega (arith, c.push_reserved.ensures.capacity), omega (arith, c.push_reserved-2.ensures.capacity))

pub returns-clause-left : goal.returns-clause-left
returns-clause-left c rows has =
    let found = c.index_mut-found.result.now in
    let was = there_if c.args.segments.now.items c.args.segment found _ c.requires c.index_mut-found.ensures.value in
    let new : Segment = record found { keys = c.push_reserved.new.self; frequencies = c.push_reserved-2.new.self } in
    let room : (vec_len found.keys + (rows + 1) ≤ vec_capacity found.keys) × (vec_len found.frequencies + (rows + 1) ≤ vec_capacity found.frequencies) =
    subst (λ o. IsSomeAnd o (λ (x : Segment). (vec_len x.keys + (rows + 1) ≤ vec_capacity x.keys) × (vec_len x.frequencies + (rows + 1) ≤ vec_capacity x.frequencies))) was has in
    subst (λ o. IsSomeAnd o (λ (x : Segment). (vec_len x.keys + rows ≤ vec_capacity x.keys) × (vec_len x.frequencies + rows ≤ vec_capacity x.frequencies)))
    (sym (here_set c.args.segments.now.items c.args.segment new found was)) (omega (arith, room.0), omega (arith, room.1))
