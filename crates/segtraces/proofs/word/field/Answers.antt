use Rattle.std.proofs.Common.{◌≡◌, ◌∙◌, ap, arith, get_or, [], refl, sym}
use Rattle.segtraces.specs.Lines.{fields_of}
use Rattle.segtraces.specs.Words.{trimmed}
use Rattle.segtraces.proofs.Parts.{at_field, more_parts, no_more, one_more, one_part}
use Rattle.segtraces.proofs.word.field.Goals as goal

pub loop-skipped-init : goal.loop-skipped-init
loop-skipped-init c = refl

pub loop-skipped-preserved : goal.loop-skipped-preserved
loop-skipped-preserved c =
    one_more (fields_of c.args.at c.args.text.now) c.loop-skipped._skipped _ _
    (c.loop-skipped.invariant ∙ more_parts c.args.at _ _ c.in-Some.ensures.0 c.in-Some.ensures.1)

pub returns-in-None : goal.returns-in-None
returns-in-None c =
    let fields = fields_of c.args.at c.args.text.now in
    let last = c.loop-skipped.invariant ∙ one_part c.args.at c.loop-skipped.rest.now c.in-None.ensures in
    sym (ap trimmed (no_more fields c.loop-skipped._skipped c.args.place c.loop-skipped.rest.now last c.loop-skipped-test.true))

pub returns : goal.returns
returns c =
    let fields = fields_of c.args.at c.args.text.now in
    let ended = c.loop-skipped-test.false in
    let most = c.loop-skipped.auto._skipped-end in
    let same : c.loop-skipped._skipped ≡ c.args.place = omega arith in
    c.trimmed.ensures
    ∙ ap trimmed (c.first.ensures ∙ sym (at_field fields (fields_of c.args.at c.loop-skipped.rest.now) c.loop-skipped._skipped c.loop-skipped.invariant))
    ∙ ap (λ n. trimmed (get_or fields n [])) same
