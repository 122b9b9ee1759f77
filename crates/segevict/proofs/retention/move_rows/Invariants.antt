use Rattle.segevict.proofs.Moving.{slot_at}
use Rattle.segevict.proofs.retention.move_rows.Given as goal

abbrev pub ghost-relink : goal.ghost-relink
ghost-relink a = slot_at a.board.now a.target.place a.pass.now
