use Rattle.std.proofs.Common.{sym, ap, subst, arith}
use Rattle.segword.specs.Words.{Limits}
use Rattle.segmodel.specs.declared.answer.GetAnswer.TheVariants as get
use Rattle.segread.specs.Words.{ReadsKey}
use Rattle.segindex.specs.Index.{board_of}
use Rattle.segindex.proofs.InRoom.{answer_of, get_answers}
use Rattle.segindex.proofs.index.Index.get.Goals as goal

pub returns-in-Found : goal.returns-in-Found
returns-in-Found c =
    let b = board_of c.args.self.now in
    let call = c.get_into-told in
    let most = ap (λ (l : Limits). l.value) c.args.self.now.limits in
    let reads = get_answers b c.args.key.now c.args.draw c.args.now call.result _ call.new.bytes c.args.pass.now call.new.pass call.ensures.reads (omega (arith, most)) in
    let told = subst (λ t. ReadsKey b c.args.key.now c.args.draw c.args.now (answer_of t call.new.bytes) c.args.pass.now call.new.pass) c.in-Found.is reads in record {
      reads = subst (λ v. ReadsKey b c.args.key.now c.args.draw c.args.now (get.Found v) c.args.pass.now call.new.pass) (sym c.value_of.ensures.value) told;
    }
