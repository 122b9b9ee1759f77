use Rattle.std.proofs.Common.{◌≡◌, length, refl, sym, subst, ◌∙◌}
use Rattle.std.specs.Int.NonZero.{non_zero_u32_get}
use Rattle.segword.specs.Words.{IsValid}
use Rattle.segload.specs.Words.{Totals}
use Rattle.segload.specs.Loads.{IsLoad, IsLetThrough, IsToldOfAll, IsStopped}
use Rattle.segload.proofs.Loaded.{are_all, are_quiet, all_let_through, told_of_all, stopped_first, loaded}
use Rattle.segload.proofs.load.run_plan.Goals as goal

pub returns-in-Some-clause-fault : goal.returns-in-Some-clause-fault
returns-in-Some-clause-fault g c =
    let plan = c.args.plan in
    let new = c.in-Ok.ensures.made in
    let b = c.in-Ok.made.0.board in
    let may_answer = g.G.Gate.may_answer c.args.gate.now in
    let told = g.G.Gate.told c.args.gate.now in
    let workers = c.in-Ok-work_at_once.workers in
    let long : length workers.items ≡ b.shape.passes = sym workers.ok.0 ∙ (c.in-Ok-work_at_once.ensures.long ∙ c.in-Ok-begin_all.ensures.long) in
    subst (λ shape. IsStopped shape c.args.plan.commands may_answer told c.in-Some.pass) new.made.of
    (stopped_first b may_answer told plan workers.items c.in-Some.pass (subst IsValid (sym new.made.of) new.made.valid) long c.in-Ok-work_at_once.ensures.each c.in-Some.ensures.some)

pub end_all-requires : goal.end_all-requires
end_all-requires g c = record {
  quiet = are_quiet c.in-Ok.made.0.board (g.G.Gate.may_answer c.args.gate.now) (g.G.Gate.told c.args.gate.now) c.args.plan c.in-Ok-work_at_once.workers.items c.in-Ok-work_at_once.ensures.each;
}

pub count_keys-requires : goal.count_keys-requires
count_keys-requires g c =
    let plan = c.args.plan in
    let b = c.in-Ok.made.0.board in
    let workers = c.in-Ok-work_at_once.workers in
    let ended = c.in-Ok-end_all.ended in
    let long : length workers.items ≡ b.shape.passes = sym workers.ok.0 ∙ (c.in-Ok-work_at_once.ensures.long ∙ c.in-Ok-begin_all.ensures.long) in
    are_all b (g.G.Gate.may_answer c.args.gate.now) (g.G.Gate.told c.args.gate.now) plan workers.items
    ended.totals.items ended.passes.items long c.in-Ok-work_at_once.ensures.each c.in-Ok-end_all.ensures

pub returns : goal.returns
returns g c =
    let plan = c.args.plan in
    let new = c.in-Ok.ensures.made in
    let b = c.in-Ok.made.0.board in
    let may_answer = g.G.Gate.may_answer c.args.gate.now in
    let told = g.G.Gate.told c.args.gate.now in
    let workers = c.in-Ok-work_at_once.workers in
    let ended = c.in-Ok-end_all.ended in
    let totals : Totals = record { passes = ended.totals; keys = c.in-Some-count_keys.standing } in
    let content = c.in-Some-count_keys.ensures in
    let worked = c.in-Ok-work_at_once.ensures.each in
    let none = c.in_default-first_stopped.ensures.none refl in
    let long : length workers.items ≡ b.shape.passes = sym workers.ok.0 ∙ (c.in-Ok-work_at_once.ensures.long ∙ c.in-Ok-begin_all.ensures.long) in record {
      load = subst (λ shape. IsLoad shape c.args.plan.seed (non_zero_u32_get c.args.plan.keys) c.args.plan.commands totals) new.made.of
          (loaded b may_answer told plan workers.items totals ended.passes.items worked none c.in-Ok-end_all.ensures content.0 content.1
          (subst IsValid (sym new.made.of) new.made.valid) long content.2);
      let_through = subst (λ shape. IsLetThrough shape c.args.plan.commands may_answer) new.made.of (all_let_through b may_answer told plan workers.items long worked none);
      told = subst (λ shape. IsToldOfAll shape c.args.plan.commands told) new.made.of (told_of_all b may_answer told plan workers.items long worked none);
      fault = tt;
    }
