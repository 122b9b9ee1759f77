use Rattle.std.proofs.Common.{ℕ, ◌++◌, ◌/◌, ◌%◌, ◌^◌, sym, ap, ◌∙◌, arith}
use Rattle.segword.specs.Words.{SegmentWord}
use Rattle.segmodel.specs.Words.{after}
use Rattle.segcore.specs.Event as event
use Rattle.segcore.specs.Words.{View}
use Rattle.segcore.proofs.Segments.{says_of_segments}
use Rattle.segbase.specs.Words.{trace}
use Rattle.segbase.proofs.board.Board.enter.Goals as goal

-- the word that was found has the deadline, and the reader that came in added no entry
pub returns-clause-deadline : goal.returns-clause-deadline
returns-clause-deadline c =
    let shape = c.args.self.now.shape in let told = c.add_at.ensures.told in let word : ℕ = c.add_at.result in
    let parts : SegmentWord = record { deadline = word / 2 ^ 32; readers = word % 2 ^ 32 } in
    ap (λ (segment : SegmentWord). segment.deadline) (c.unpack.ensures.packed parts (omega arith) (omega arith))
    ∙ ap (λ n. n / 2 ^ 32) told.found_is
    ∙ (says_of_segments shape (told.more ++ trace c.args.pass.now) c.requires.pass.valid told.before).deadlines c.args.segment
    ∙ sym (ap (λ (v : View). (after shape (event.seen v.trace)).deadline c.args.segment) told.now)
