use Rattle.std.proofs.Common.{◌<◌, refl, arith}
use Rattle.segbase.proofs.Carried.{tells, retold, own_row}
use Rattle.segbase.proofs.board.Board.learn.Goals as goal

pub join_seat-requires : goal.join_seat-requires
join_seat-requires c =
    let b = c.args.self.now in let x = c.args.pass.now.seat in let n = c.args.note in let words : 0 < b.table.shared.table_id.words = let l = b.long in omega arith in (
      c.requires.pass.table,
      c.requires.note.table,
      c.requires.note.bare,
      words,
      tells (Unit {0}) b.table.shared.key x.id n.seat.id x.me.0 n.seat.me.0 c.requires.pass.is_pass
          c.requires.note.is_pass c.requires.note.ended,
    )

pub row_load-requires-clause-may : goal.row_load-requires-clause-may
row_load-requires-clause-may c =
    let join = c.join_seat.ensures in
    own_row c.args.self.now (record { seat = c.join_seat.new.seat; plain = c.args.pass.now.plain })
    (retold c.args.self.now c.args.pass.now (record {
      seat = c.join_seat.new.seat;
      plain = c.args.pass.now.plain;
    }) c.args.note.seat.me.0 c.requires.pass join.0 join.2 refl)
