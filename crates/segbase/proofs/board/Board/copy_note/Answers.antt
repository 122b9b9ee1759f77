use Rattle.std.proofs.Common.{◌<◌, arith}
use Rattle.segbase.proofs.Carried.{copies}
use Rattle.segbase.proofs.board.Board.copy_note.Goals as goal

pub split_seat-requires : goal.split_seat-requires
split_seat-requires c =
    let b = c.args.self.now in let x = c.args.note.now.seat in let words : 0 < b.table.shared.table_id.words = let l = b.long in omega arith in
    (c.requires.note.table, words, copies (Unit {0}) b.table.shared.key x.id x.me.0 c.requires.note.is_pass c.requires.note.ended)
