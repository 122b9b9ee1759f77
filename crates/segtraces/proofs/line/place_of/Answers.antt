use Rattle.std.proofs.Common.{◌<◌, ◌≤◌, ◌∙◌, ap, arith, length, sym}
use Rattle.segtraces.specs.Lines.{fields_of, is_named}
use Rattle.segtraces.proofs.Names.{named, none_named, not_named}
use Rattle.segtraces.proofs.line.place_of.Goals as goal

pub loop-place-preserved : goal.loop-place-preserved
loop-place-preserved c =
    let fields = fields_of c.args.row.at c.args.row.line.now in
    let count = c.requires in
    let within = c.loop-place-test.true in
    let below : c.loop-place.place < length fields = omega arith in
    let isnt = sym (ap (is_named c.args.column) c.field.ensures) ∙ sym c.is_named.ensures ∙ c.if-is_named.false in
    c.loop-place.invariant ∙ not_named c.args.column fields c.loop-place.place below isnt

pub returns-then-is_named : goal.returns-then-is_named
returns-then-is_named c =
    let fields = fields_of c.args.row.at c.args.row.line.now in
    let count = c.requires in
    let within = c.loop-place-test.true in
    let below : c.loop-place.place < length fields = omega arith in
    let is = sym (ap (is_named c.args.column) c.field.ensures) ∙ sym c.is_named.ensures ∙ c.if-is_named.true in
    sym (c.loop-place.invariant ∙ named c.args.column fields c.loop-place.place below is)

pub returns : goal.returns
returns c =
    let fields = fields_of c.args.row.at c.args.row.line.now in
    let count = c.requires in
    let ended = c.loop-place-test.false in
    let all : length fields ≤ c.loop-place.place = omega arith in
    sym (c.loop-place.invariant ∙ none_named c.args.column fields c.loop-place.place all)
