use Rattle.std.proofs.Common.{◌<◌, ◌++◌, ap, map, ◌∙◌, append-nil, arith}
use Rattle.atomic_table.specs.Table.{Me}
use Rattle.segbase.specs.declared.law.Sight.{Sight}
use Rattle.segbase.specs.Passes.{view}
use Rattle.segbase.proofs.GivenUp.{enters, given, gives, others, views_then}
use Rattle.segbase.proofs.board.Board.give_up.Goals as goal

pub load_new_seat-ended-requires : goal.load_new_seat-ended-requires
load_new_seat-ended-requires c =
    let t = c.args.self.now.table.shared in let words : 0 < t.table_id.words = let l = c.args.self.now.long in omega arith in
    (words, enters (Unit {0}) t.key t.table_id.slots 0)

pub loop-pass-init : goal.loop-pass-init
loop-pass-init c =
    let new = c.load_new_seat-ended.ensures in record {
      table = new.0;
      off = ap (λ (m : Me (Unit {0}) Sight). m.0.is_pass) new.2;
      each = c.requires.each;
      views = ap (λ (m : Me (Unit {0}) Sight). map view c.args.passes.items ++ m.0.ended) new.2 ∙ append-nil (map view c.args.passes.items);
    }

pub join_seat-requires : goal.join_seat-requires
join_seat-requires c =
    let b = c.args.self.now in let x = c.loop-pass.ended in let p = c.in-Some.pass in let words : 0 < b.table.shared.table_id.words = let l = b.long in omega arith in
    let is = given b c.loop-pass.passes.items c.pop.new.self.items p c.in-Some.ensures.items c.loop-pass.invariant.each in
    (c.loop-pass.invariant.table, is.table, is.bare, words, gives (Unit {0}) b.table.shared.key x.id p.seat.id x.me.0 p.seat.me.0 c.loop-pass.invariant.off is.is_pass)

pub loop-pass-preserved : goal.loop-pass-preserved
loop-pass-preserved c =
    let b = c.args.self.now in let joined = c.join_seat.ensures in let p = c.in-Some.pass in record {
      table = joined.0 ∙ c.loop-pass.invariant.table;
      off = ap (λ (m : Me (Unit {0}) Sight). m.0.is_pass) joined.2 ∙ c.loop-pass.invariant.off;
      each = others b c.loop-pass.passes.items c.pop.new.self.items p c.in-Some.ensures.items c.loop-pass.invariant.each;
      views = ap (λ (m : Me (Unit {0}) Sight). map view c.pop.new.self.items ++ m.0.ended) joined.2
          ∙ views_then c.loop-pass.passes.items c.pop.new.self.items p c.loop-pass.ended.me.0.ended (map view c.args.passes.items) c.in-Some.ensures.items c.loop-pass.invariant.views;
    }
