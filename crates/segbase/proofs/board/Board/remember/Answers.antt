use Rattle.std.proofs.Common.{◌<◌, refl, arith}
use Rattle.segbase.specs.Ruled.{minding}
use Rattle.segbase.proofs.Carried.{carries, reminded}
use Rattle.segbase.proofs.board.Board.remember.Goals as goal

pub split_seat-requires : goal.split_seat-requires
split_seat-requires g c =
    let b = c.args.self.now in let x = c.args.pass.now.seat in let words : 0 < b.table.shared.table_id.words = let l = b.long in omega arith in
    (c.requires.0.table, words, carries (Unit {0}) b.table.shared.key x.id x.me.0 (minding g.memo x.me.0) c.requires.0.is_pass refl refl c.requires.0.is_pass refl)

pub returns-clause-pass : goal.returns-clause-pass
returns-clause-pass g c = let split = c.split_seat.ensures in
    reminded c.args.self.now c.args.pass.now (record { seat = c.split_seat.new.seat; plain = c.args.pass.now.plain }) g.memo c.requires.0 c.requires.1 split.0 split.2 refl
