use Rattle.std.proofs.Common.{◌≡◌, true, false, subst, ◌∙◌, below_more}
use Rattle.std.proofs.lemmas.Bool.{true≢false}
use Rattle.segbase.specs.Words.{number}
use Rattle.segindex.specs.Words.{AnswersCommand}
use Rattle.segload.specs.Words.{Worker}
use Rattle.segload.specs.Gates.{IsToldOf, LetsThrough}
use Rattle.segload.specs.Calls.{ServesLoad}
use Rattle.segload.specs.Working.{course_of}
use Rattle.segload.proofs.Made.{works_on}
use Rattle.segload.proofs.worker.Worker.work.Goals as goal

pub loop-call-preserved : goal.loop-call-preserved
loop-call-preserved g c =
    let was = c.loop-call.invariant in
    let served = c.serve-tally.ensures in
    let b = c.args.index.now.board in
    let worker = c.loop-call.self in
    let p = worker.client.pass in
    let q = c.serve-tally.new.self.pass in
    let later : Worker = record worker { client = c.serve-tally.new.self; workload = c.next-load.new.self; tallies = c.count.new.self } in
    record {
      at_work = works_on b c.args.self.workload c.args.self.client.pass c.loop-call.call c.serve-tally.result worker later was.at_work served.on
          (subst (λ load. ServesLoad (AnswersCommand b) load c.serve-tally.result (course_of worker.client) (course_of later.client) p q) c.next-load.ensures.value served.serves)
          c.next-load.ensures.after c.count.ensures.counted served.counts served.few;
      same = served.on.same ∙ was.same;
      let_through = below_more (λ call. g.G.Gate.may_answer c.args.gate.now c.number-pass.result call true) c.loop-call.call was.let_through
          (subst (g.G.Gate.may_answer c.args.gate.now c.number-pass.result c.loop-call.call) c.if-not-enter.false c.enter.ensures);
      told_of = below_more (λ call. g.G.Gate.told c.args.gate.now c.number-pass.result call) c.loop-call.call was.told_of c.answered.ensures;
      runs = was.runs;
    }

pub returns-then-not-enter : goal.returns-then-not-enter
returns-then-not-enter g c =
    let was = c.loop-call.invariant in
    let pass : c.number-pass.result ≡ number c.args.self.client.pass = c.number-pass.ensures ∙ c.requires.begins.at_work.quiet.pass.numbered in
    record {
      quiet = was.at_work.quiet;
      is = was.same;
      at_work = λ runs. absurd (true≢false runs);
      let_through = λ runs. absurd (true≢false runs);
      told_of = λ runs. absurd (true≢false runs);
      stopped = λ is. (
        record {
          call = c.loop-call.call;
          below = c.loop-call-test.true;
          until = subst (LetsThrough (g.G.Gate.may_answer c.args.gate.now) c.loop-call.call) pass was.let_through;
          told_of = subst (IsToldOf (g.G.Gate.told c.args.gate.now) c.loop-call.call) pass was.told_of;
          stopped = subst (λ n. g.G.Gate.may_answer c.args.gate.now n c.loop-call.call false) pass
              (subst (g.G.Gate.may_answer c.args.gate.now c.number-pass.result c.loop-call.call) c.if-not-enter.true
              c.enter.ensures);
        },
        record { quiet = was.at_work.quiet; workload = was.at_work.workload; calls = was.at_work.calls; all = was.at_work.all; counts = was.at_work.counts; few = was.at_work.few },
      );
    }

pub answered-requires : goal.answered-requires
answered-requires g c = subst (g.G.Gate.may_answer c.args.gate.now c.number-pass.result c.loop-call.call) c.if-not-enter.false c.enter.ensures
