use Rattle.std.proofs.Common.{sym, ap, ◌∙◌, get_or}
use Rattle.std.specs.Slots.{slots_items}
use Rattle.segbase.proofs.Closed.{got}
use Rattle.segbase.proofs.closing.Words.at.Goals as goal

pub returns : goal.returns
returns c = let words = slots_items c.args.self.now.closed.words in
    λ cell is. sym (got words c.args.place c.word.result c.word.ensures) ∙ ap (λ i. get_or words i 0) (sym is)
