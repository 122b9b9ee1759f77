use Rattle.std.proofs.Common.{◌≡◌, ◌+◌, ◌<◌, refl, subst, sym, arith}
use Rattle.segword.specs.Words.{word_count}
use Rattle.segcore.specs.declared.cell.Cell.TheVariants.{OfRow}
use Rattle.segcore.specs.Words.{address}
use Rattle.segcore.proofs.Addresses.{in_count}
use Rattle.segbase.proofs.board.Board.row_store_at.Goals as goal

pub store_index-requires : goal.store_index-requires
store_index-requires c = let b = c.args.self.now in let r = c.args.row in let start = c.requires.start in let m = c.requires.may in
    let place : r.start + c.args.word ≡ address b.shape (OfRow r.segment r.row c.args.word) = omega arith in
    let low = in_count b.shape (OfRow r.segment r.row c.args.word) (m.suits.0.0, m.suits.0.1, m.suits.1) in (
      record { pass = c.requires.pass; at = refl; by = refl; may = m; links = tt },
      (place, subst (λ n. r.start + c.args.word < n) (sym b.long) (subst (λ n. n < word_count b.shape) (sym place) low)),
    )
