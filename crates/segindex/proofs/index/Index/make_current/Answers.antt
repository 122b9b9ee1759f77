use Rattle.std.proofs.Common.{◌≡◌, ◌≢◌, Some, refl, sym, ap, ◌∙◌, subst}
use Rattle.std.proofs.lemmas.Option.{none-some}
use Rattle.segmodel.specs.declared.answer.SegState.TheVariants.{InUse}
use Rattle.segbase.specs.Words.{state_of}
use Rattle.segindex.specs.declared.current.CurrentAnswer.TheVariants as current_answer
use Rattle.segindex.specs.Currents.{MakesCurrent}
use Rattle.segindex.proofs.Currents.{current_costs_nothing, current_goes_on}
use Rattle.segindex.proofs.index.Index.make_current.Goals as goal

yours : current_answer.Current ≢ current_answer.NotYours
yours e = cc

pub returns-in-Some-InUse : goal.returns-in-Some-InUse
returns-in-Some-InUse c =
    let b = c.args.self.now.board in
    let segment = c.args.segment in
    let p = c.args.pass.now in
    let used : state_of p segment ≡ Some InUse = sym c.state.ensures ∙ c.in-Some-InUse.is ∙ ap Some c.in-Some-InUse.field-0-is in
    record {
      makes = subst (λ q. MakesCurrent b segment current_answer.Current p q) (sym c.set_current.ensures) (record {
        on = current_goes_on b segment p c.requires.quiet used;
        answer = refl;
        current = ((λ told. used), (λ is. refl));
        not_yours = ((λ told. absurd (yours told)), (λ none. absurd (none-some InUse (sym none ∙ used))));
        costs_nothing = current_costs_nothing b segment p c.requires.quiet;
      });
    }
