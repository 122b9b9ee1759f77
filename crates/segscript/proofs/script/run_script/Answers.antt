use Rattle.std.proofs.Common.{◌≡◌, sym, ap, subst, ◌∙◌}
use Rattle.segword.specs.Words.{Shape}
use Rattle.segmodel.specs.Words.{fresh}
use Rattle.segindex.specs.Words.{IsNew, shape_of}
use Rattle.segscript.proofs.Endings.{model_ends, passes_end}
use Rattle.segscript.proofs.OneBadLine.{ends_at_bad, ends_well}
use Rattle.segscript.proofs.script.run_script.Goals as goal

pub new-requires-2 : goal.new-requires-2
new-requires-2 g c =
    let made = c.in-Ok.ensures.made in
    record { new = subst (λ (shape : Shape). IsNew shape c.in-Ok.made.0 c.in-Ok.made.1.items) (sym made.made.of) made }

-- where the index isn't created, there is no run, and any state will do
pub returns-in-Err-clause-outcome : goal.returns-in-Err-clause-outcome
returns-in-Err-clause-outcome g c = (fresh c.args.shape, tt)

pub returns-in_default-clause-outcome : goal.returns-in_default-clause-outcome
returns-in_default-clause-outcome g c = (fresh c.args.shape, tt)

pub returns-clause-outcome : goal.returns-clause-outcome
returns-clause-outcome g c =
    let of : shape_of c.in-Ok-new.server.index.now ≡ c.args.shape = ap shape_of c.in-Ok-new.ensures.holds.0 ∙ c.in-Ok.ensures.made.made.of in
    let start = c.in-Ok-new.ensures.start ∙ ap fresh c.in-Ok.ensures.made.made.of in
    model_ends c.args.shape _ _ _ _ _ _ _ _ of start c.serve_script-result.result c.serve_script-result.ensures.outcome

pub returns-clause-each_turn : goal.returns-clause-each_turn
returns-clause-each_turn g c =
    let new : IsNew c.args.shape c.in-Ok-new.server.index.now c.in-Ok-new.server.passes.items = rw (c.in-Ok-new.ensures.holds.0, c.in-Ok-new.ensures.holds.1) c.in-Ok.ensures.made in
    passes_end c.args.shape _ _ _ _ _ _ _ _ new c.serve_script-result.result c.serve_script-result.ensures.each_turn

pub returns-clause-bad_line : goal.returns-clause-bad_line
returns-clause-bad_line g c = λ script text n all bad reads writes made.
    ends_at_bad c.args.shape g.R.Source.hands g.R.Source.is_at_end _ _ _ _ _ script all _ _ reads writes text n
    c.serve_script-result.result c.serve_script-result.ensures.read c.serve_script-result.ensures.write
    c.serve_script-result.ensures.made bad
    (returns-clause-outcome g c)

pub returns-clause-no_bad_line : goal.returns-clause-no_bad_line
returns-clause-no_bad_line g c = λ script text all good reads writes made.
    ends_well c.args.shape g.R.Source.hands g.R.Source.is_at_end _ _ _ _ _ script all _ _ reads writes text
    c.serve_script-result.result c.serve_script-result.ensures.read c.serve_script-result.ensures.write
    c.serve_script-result.ensures.made good
    (returns-clause-outcome g c)
