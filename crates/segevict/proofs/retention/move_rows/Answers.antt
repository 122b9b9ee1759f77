use Rattle.std.proofs.Common.{true, sym, ◌∙◌, subst}
use Rattle.segword.specs.Words.{span_of_header}
use Rattle.segcore.specs.Words.{row_after}
use Rattle.segcore.proofs.Spans.{header_some}
use Rattle.segbase.specs.Words.{trace}
use Rattle.segevict.specs.Moving.{MovesRow}
use Rattle.segevict.specs.Relinking.{HasRelinked, Relinks}
use Rattle.segevict.proofs.Moving.{copy_loaded, holds_loaded, may_move, moves_none, moves_one, own_loaded, own_rows, readable, readable_there, slot_is}
use Rattle.segevict.proofs.retention.move_rows.Goals as goal

pub returns-in_default-clause-moves : goal.returns-in_default-clause-moves
returns-in_default-clause-moves c = let r = c.requires in let f = c.find_row in
    moves_none c.args.board.now c.args.bucket c.args.item c.args.to.segment c.args.to.row c.args.pass.now f.new.pass r.segments r.stored r.bit
    r.target r.next f.ensures.idles c.in_default.ensures.finds

pub copy_row-requires-clause-readable : goal.copy_row-requires-clause-readable
copy_row-requires-clause-readable c = let r = c.requires in let f = c.find_row in
    readable c.args.board.now c.args.bucket c.args.item c.args.to.segment c.args.to.row c.args.pass.now f.new.pass r.segments r.stored r.bit
    r.target r.next f.ensures.idles
    c.in-Some.target c.in-Some.ensures.finds

pub copy_row-requires-clause-own : goal.copy_row-requires-clause-own
copy_row-requires-clause-own c = let r = c.requires in let f = c.find_row in
    own_rows c.args.board.now c.args.bucket c.args.item c.args.to.segment c.args.to.row c.args.pass.now f.new.pass r.segments r.stored r.bit
    r.target r.next f.ensures.idles

-- the load behind the copy tells how many rows were written
pub span_of_row-rows-requires-clause-readable : goal.span_of_row-rows-requires-clause-readable
span_of_row-rows-requires-clause-readable c = let f = c.find_row in let copy = c.copy_row in
    let header = (row_after (trace f.new.pass) c.args.item.seg c.args.item.row).words 0 in
    readable_there c.args.board.now f.new.pass copy.new.pass copy.new.pass c.args.to.segment c.args.to.row (span_of_header header) (header_some header) copy.ensures.own

pub relink-requires : goal.relink-requires
relink-requires c = let r = c.requires in let f = c.find_row in let copy = c.copy_row in let load = c.span_of_row-rows in let e = copy.ensures in
    let b = c.args.board.now in let into = c.args.to.segment in let to = c.args.to.row in let t = c.in-Some.target in
    let from = row_after (trace f.new.pass) c.args.item.seg c.args.item.row in let rows = span_of_header (from.words 0) in let some = header_some (from.words 0) in
    let own = own_loaded b f.new.pass copy.new.pass load.new.pass into to rows some e.own load.ensures.reads in
    let holds = holds_loaded b f.new.pass copy.new.pass load.new.pass into to rows some e.own load.ensures.reads from e.holds in
    let m = copy_loaded b f.new.pass copy.new.pass load.new.pass into to rows some e.own load.ensures.reads e.moved.0 e.moved.1.0 e.moved.1.1 in
    let plain = load.ensures.reads.looked.plain ∙ e.plain in let same = load.ensures.reads.looked.memo ∙ e.memo in (
      m.pass,
      subst (λ named. Relinks b named into to t.place t.word load.new.pass)
          (sym (slot_is b c.args.bucket c.args.item into to c.args.pass.now f.new.pass r.segments r.stored r.bit
          r.target r.next f.ensures.idles t c.in-Some.ensures.finds load.new.pass e.moved.0 e.moved.1.0 m own holds plain same))
          (may_move b c.args.bucket c.args.item into to c.args.pass.now f.new.pass r.segments r.stored r.bit
          r.target r.next f.ensures.idles t c.in-Some.ensures.finds load.new.pass e.moved.0 e.moved.1.0 m own holds plain same),
    )

pub returns-clause-moves : goal.returns-clause-moves
returns-clause-moves c = let r = c.requires in let f = c.find_row in let copy = c.copy_row in let load = c.span_of_row-rows in let e = copy.ensures in
    let b = c.args.board.now in let into = c.args.to.segment in let to = c.args.to.row in let t = c.in-Some.target in
    let from = row_after (trace f.new.pass) c.args.item.seg c.args.item.row in let rows = span_of_header (from.words 0) in let some = header_some (from.words 0) in
    let own = own_loaded b f.new.pass copy.new.pass load.new.pass into to rows some e.own load.ensures.reads in
    let holds = holds_loaded b f.new.pass copy.new.pass load.new.pass into to rows some e.own load.ensures.reads from e.holds in
    let m = copy_loaded b f.new.pass copy.new.pass load.new.pass into to rows some e.own load.ensures.reads e.moved.0 e.moved.1.0 e.moved.1.1 in
    let plain = load.ensures.reads.looked.plain ∙ e.plain in let same = load.ensures.reads.looked.memo ∙ e.memo in
    let done = subst (λ named. HasRelinked b named into to t.place load.new.pass c.relink.new.pass)
    (slot_is b c.args.bucket c.args.item into to c.args.pass.now f.new.pass r.segments r.stored r.bit
    r.target r.next f.ensures.idles t c.in-Some.ensures.finds load.new.pass e.moved.0 e.moved.1.0 m own holds plain same)
    c.relink.ensures.relinks in
    subst (λ q. MovesRow b c.args.bucket c.args.item into to true c.args.pass.now q) (sym c.set_used.ensures)
    (moves_one b c.args.bucket c.args.item into to c.args.pass.now f.new.pass r.segments r.stored r.bit
    r.target r.next f.ensures.idles t c.in-Some.ensures.finds load.new.pass e.moved.0 e.moved.1.0 m own holds plain same
    c.relink.new.pass done load.result load.ensures.span)
