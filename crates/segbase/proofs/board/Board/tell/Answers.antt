use Rattle.std.proofs.Common.{◌<◌, ◌∙◌, ap, refl, arith}
use Rattle.atomic_table.specs.Table.{Me}
use Rattle.segbase.specs.declared.law.Sight.{Sight}
use Rattle.segbase.proofs.Carried.{carries, tells, retold, own_row}
use Rattle.segbase.proofs.board.Board.tell.Goals as goal

pub split_seat-carried-requires : goal.split_seat-carried-requires
split_seat-carried-requires c =
    let b = c.args.self.now in let x = c.args.other.now.seat in let words : 0 < b.table.shared.table_id.words = let l = b.long in omega arith in
    (c.requires.other.table, words, carries (Unit {0}) b.table.shared.key x.id x.me.0 x.me.0 c.requires.other.is_pass refl refl c.requires.other.is_pass refl)

pub join_seat-requires : goal.join_seat-requires
join_seat-requires c =
    let b = c.args.self.now in let x = c.args.pass.now.seat in let split = c.split_seat-carried.ensures in let words : 0 < b.table.shared.table_id.words = let l = b.long in omega arith in (
      c.requires.pass.table,
      split.3 ∙ c.requires.other.table,
      ap (λ (m : Me (Unit {0}) Sight). m.1) split.4,
      words,
      tells (Unit {0}) b.table.shared.key x.id c.split_seat-carried.result.id x.me.0
          c.split_seat-carried.result.me.0 c.requires.pass.is_pass
          (ap (λ (m : Me (Unit {0}) Sight). m.0.is_pass) split.4)
          (ap (λ (m : Me (Unit {0}) Sight). m.0.ended) split.4),
    )

pub row_load-requires-clause-may : goal.row_load-requires-clause-may
row_load-requires-clause-may c =
    let join = c.join_seat.ensures in
    own_row c.args.self.now (record { seat = c.join_seat.new.seat; plain = c.args.pass.now.plain })
    (retold c.args.self.now c.args.pass.now (record {
      seat = c.join_seat.new.seat;
      plain = c.args.pass.now.plain;
    }) c.split_seat-carried.result.me.0 c.requires.pass join.0 join.2 refl)
