use Rattle.std.proofs.Common.{rules, ◌≡◌, ◌+◌, ◌<◌, drop, length, vec_len, sym, ap, ◌∙◌, arith}
use Rattle.segmodel.specs.Serving.{keep_rows}
use Rattle.segmodel.specs.Plain.{filling_in, state_of}
use Rattle.segmodel.specs.Segments.{filling_of}
use Rattle.segmodel.specs.State.{Filling, State}
use Rattle.segmodel.proofs.Keeping.{frequency_there, key_there, left_at, row_ends, row_moves, row_passes, row_stands}
use Rattle.segmodel.proofs.SegmentLemmas.{there}
use Rattle.segmodel.proofs.Sound.{unchanged}
use Rattle.segmodel.proofs.plain.Plain.keep_rows.Goals as goal

pub loop-row-preserved-then-not-is_last : goal.loop-row-preserved-then-not-is_last
loop-row-preserved-then-not-is_last c =
    let was = there c.loop-row.self.segments.items c.args.segment c.index.result.now (search rules) c.index.ensures in
    let within : c.loop-row.row < length (filling_in c.args.self.now c.args.segment).keys = omega (arith, c.loop-row.invariant.end, c.loop-row-test.true) in
    let has = frequency_there c.loop-row.self c.args.self.now c.args.segment c.loop-row.row c.index.result.now
    c.index-frequency.result.now was c.loop-row.invariant.same within c.index-frequency.ensures in
    record {
      shape = c.loop-row.invariant.shape;
      current = c.loop-row.invariant.current;
      same = c.loop-row.invariant.same;
      few = omega (arith, c.loop-row.invariant.few);
      end = c.loop-row.invariant.end;
      rest = sym (row_passes c.args.self.now c.loop-row.self c.args.segment c.args.to c.args.cutoff c.loop-row.count c.loop-row.row c.loop-row.invariant.shape c.loop-row.invariant.current
          c.loop-row.invariant.same within c.is_last.result c.is_last.ensures c.index-frequency.result.now has c.then-not-is_last.either) ∙ c.loop-row.invariant.rest;
    }

pub returns-then-is_none-clause-serves : goal.returns-then-is_none-clause-serves
returns-then-is_none-clause-serves c =
    let was = there c.loop-row.self.segments.items c.args.segment c.index.result.now (search rules) c.index.ensures in
    let within : c.loop-row.row < length (filling_in c.args.self.now c.args.segment).keys = omega (arith, c.loop-row.invariant.end, c.loop-row-test.true) in
    let has = frequency_there c.loop-row.self c.args.self.now c.args.segment c.loop-row.row c.index.result.now
    c.index-frequency.result.now was c.loop-row.invariant.same within c.index-frequency.ensures in
    sym c.loop-row.invariant.rest
    ∙ row_ends c.args.self.now c.loop-row.self c.args.segment c.args.to c.args.cutoff c.loop-row.count c.loop-row.row c.loop-row.invariant.shape c.loop-row.invariant.current
    c.loop-row.invariant.same within c.is_last.result c.is_last.ensures c.index-frequency.result.now has (search rules) c.if-frequency-cutoff.false (search rules)

pub index-requires-in-loop-row-2 : goal.index-requires-in-loop-row-2
index-requires-in-loop-row-2 c =
    let was = there c.loop-row.self.segments.items c.args.segment c.index-in-loop-row.result.now (search rules) c.index-in-loop-row.ensures in
    let keys : length (filling_in c.loop-row.self c.args.segment).keys ≡ length c.index-in-loop-row.result.now.keys.items = ap (λ o. length (filling_of o).keys) was in
    let same : length (filling_in c.loop-row.self c.args.segment).keys ≡ length (filling_in c.args.self.now c.args.segment).keys = ap (λ (f : Filling). length f.keys) c.loop-row.invariant.same in
    let long : vec_len c.index-in-loop-row.result.now.keys ≡ length c.index-in-loop-row.result.now.keys.items = search rules in
    omega (arith, c.loop-row.invariant.end, c.loop-row-test.true)

pub move_to-requires-clause-stands : goal.move_to-requires-clause-stands
move_to-requires-clause-stands c =
    let was = there c.loop-row.self.segments.items c.args.segment c.index-in-loop-row.result.now (search rules) c.index-in-loop-row.ensures in
    let within : c.loop-row.row < length (filling_in c.args.self.now c.args.segment).keys = omega (arith, c.loop-row.invariant.end, c.loop-row-test.true) in
    let key = key_there c.loop-row.self c.args.self.now c.args.segment c.loop-row.row c.index-in-loop-row.result.now
    c.index-in-loop-row-2.result.now was c.loop-row.invariant.same within c.index-in-loop-row-2.ensures in
    row_stands c.loop-row.self c.args.segment c.loop-row.row c.is_last.result c.is_last.ensures (search rules) c.copy-key.result (c.copy-key.ensures.value ∙ key)

pub loop-row-preserved : goal.loop-row-preserved
loop-row-preserved c =
    let was = there c.loop-row.self.segments.items c.args.segment c.index.result.now (search rules) c.index.ensures in
    let there_now = there c.loop-row.self.segments.items c.args.segment c.index-in-loop-row.result.now (search rules) c.index-in-loop-row.ensures in
    let within : c.loop-row.row < length (filling_in c.args.self.now c.args.segment).keys = omega (arith, c.loop-row.invariant.end, c.loop-row-test.true) in
    let has = frequency_there c.loop-row.self c.args.self.now c.args.segment c.loop-row.row c.index.result.now
    c.index-frequency.result.now was c.loop-row.invariant.same within c.index-frequency.ensures in
    let key = key_there c.loop-row.self c.args.self.now c.args.segment c.loop-row.row c.index-in-loop-row.result.now
    c.index-in-loop-row-2.result.now there_now c.loop-row.invariant.same within c.index-in-loop-row-2.ensures in
    let moves = row_moves c.args.self.now c.loop-row.self c.args.segment c.args.to c.args.cutoff c.loop-row.count c.loop-row.row c.loop-row.invariant.shape c.loop-row.invariant.current
    c.loop-row.invariant.same within c.is_last.result c.is_last.ensures c.index-frequency.result.now has
    (search rules) c.if-frequency-cutoff.false (search rules) c.copy-key.result (c.copy-key.ensures.value
    ∙ key) in
    record {
      shape = c.move_to.ensures.shape ∙ c.loop-row.invariant.shape;
      current = ap (λ (s : State). s.current) c.move_to.ensures.state ∙ c.loop-row.invariant.current;
      same = ap (λ (s : State). s.filling c.args.segment) c.move_to.ensures.state
          ∙ (unchanged (state_of c.loop-row.self).filling c.args.to c.args.segment _ (λ e. c.requires.apart (sym e)) ∙ c.loop-row.invariant.same);
      few = omega (arith, c.loop-row.invariant.few);
      end = c.loop-row.invariant.end;
      rest = ap (λ (s : State). keep_rows c.args.self.now.shape c.args.segment c.args.to c.args.cutoff (drop (c.loop-row.row + 1) (filling_in c.args.self.now c.args.segment).keys)
          (drop (c.loop-row.row + 1) (filling_in c.args.self.now c.args.segment).frequencies) (c.loop-row.count + 1) s) c.move_to.ensures.state
          ∙ (sym moves ∙ c.loop-row.invariant.rest);
    }

pub move_to-requires-clause-left : goal.move_to-requires-clause-left
move_to-requires-clause-left c =
    let was = there c.loop-row.self.segments.items c.args.segment c.index-in-loop-row.result.now (search rules) c.index-in-loop-row.ensures in
    let within : c.loop-row.row < length (filling_in c.args.self.now c.args.segment).keys = omega (arith, c.loop-row.invariant.end, c.loop-row-test.true) in
    let key = key_there c.loop-row.self c.args.self.now c.args.segment c.loop-row.row c.index-in-loop-row.result.now
    c.index-in-loop-row-2.result.now was c.loop-row.invariant.same within c.index-in-loop-row-2.ensures in
    left_at c.loop-row.self c.args.segment c.loop-row.row c.args.to c.room_at.result (search rules)
    c.room_at.ensures.current c.room_at.ensures.left c.loop-row.invariant.current c.copy-key.result (c.copy-key.ensures.value ∙ key)
