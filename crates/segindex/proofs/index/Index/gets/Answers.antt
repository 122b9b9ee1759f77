use Rattle.std.proofs.Common.{sym, ap, subst, arith}
use Rattle.segword.specs.Words.{Limits}
use Rattle.segmodel.specs.declared.answer.GetsAnswer.TheVariants as gets
use Rattle.segread.specs.Words.{ReadsVersion}
use Rattle.segindex.specs.Index.{board_of}
use Rattle.segindex.proofs.InRoom.{gets_answer_of, gets_answers}
use Rattle.segindex.proofs.index.Index.gets.Goals as goal

pub returns-in-Found : goal.returns-in-Found
returns-in-Found c =
    let b = board_of c.args.self.now in
    let call = c.gets_into-told in
    let most = ap (λ (l : Limits). l.value) c.args.self.now.limits in
    let reads = gets_answers b c.args.key.now c.args.draw c.args.now call.result _ call.new.bytes c.args.pass.now call.new.pass call.ensures.reads (omega (arith, most)) in
    let told = subst (λ t. ReadsVersion b c.args.key.now c.args.draw c.args.now (gets_answer_of t call.new.bytes) c.args.pass.now call.new.pass) c.in-Found.is reads in record {
      reads = subst (λ v. ReadsVersion b c.args.key.now c.args.draw c.args.now (gets.Found v c.in-Found.version) c.args.pass.now call.new.pass) (sym c.value_of.ensures.value) told;
    }

pub returns-in-Busy : goal.returns-in-Busy
returns-in-Busy c =
    let b = board_of c.args.self.now in
    let call = c.gets_into-told in
    let most = ap (λ (l : Limits). l.value) c.args.self.now.limits in
    let reads = gets_answers b c.args.key.now c.args.draw c.args.now call.result _ call.new.bytes c.args.pass.now call.new.pass call.ensures.reads (omega (arith, most)) in record {
      reads = subst (λ t. ReadsVersion b c.args.key.now c.args.draw c.args.now (gets_answer_of t call.new.bytes) c.args.pass.now call.new.pass) c.in-Busy.is reads;
    }
