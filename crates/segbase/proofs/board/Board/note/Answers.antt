use Rattle.std.proofs.Common.{◌<◌, ap, refl, arith}
use Rattle.atomic_table.specs.Table.{Me}
use Rattle.segbase.specs.declared.law.Sight.{Sight}
use Rattle.segbase.proofs.Carried.{carries, as_was}
use Rattle.segbase.proofs.board.Board.note.Goals as goal

pub split_seat-requires : goal.split_seat-requires
split_seat-requires c =
    let b = c.args.self.now in let x = c.args.pass.now.seat in let words : 0 < b.table.shared.table_id.words = let l = b.long in omega arith in
    (c.requires.pass.table, words, carries (Unit {0}) b.table.shared.key x.id x.me.0 x.me.0 c.requires.pass.is_pass refl refl c.requires.pass.is_pass refl)

pub returns-clause-pass : goal.returns-clause-pass
returns-clause-pass c = let split = c.split_seat.ensures in (
  as_was c.args.self.now c.args.pass.now (record { seat = c.split_seat.new.seat; plain = c.args.pass.now.plain })
      c.requires.pass split.0 split.2 refl,
  ap (λ (m : Me (Unit {0}) Sight). m.0) split.2,
  refl,
)
