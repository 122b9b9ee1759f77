use Rattle.std.proofs.Common.{sym, ap, subst, arith}
use Rattle.segword.specs.Words.{Limits}
use Rattle.segread.specs.Words.{ReadsRow}
use Rattle.segindex.specs.Index.{board_of}
use Rattle.segindex.proofs.InRoom.{held_answers, value_held}
use Rattle.segindex.proofs.index.Index.held_value.Goals as goal

pub returns : goal.returns
returns c =
    let b = board_of c.args.self.now in
    let row = c.args.hold.now.row in
    let call = c.held_into-told in
    let most = ap (λ (l : Limits). l.value) c.args.self.now.limits in
    let reads = held_answers b row call.result _ call.new.bytes c.args.pass.now call.new.pass call.ensures.reads (omega (arith, most)) in
    let told = subst (λ t. ReadsRow b row (value_held t call.new.bytes) c.args.pass.now call.new.pass) c.in-Ok.is reads in record {
      reads = subst (λ v. ReadsRow b row v c.args.pass.now call.new.pass) (sym c.value_of.ensures.value) told;
    }
