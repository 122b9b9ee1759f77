use Rattle.std.proofs.Common.{sym, ap, ◌∙◌}
use Rattle.std.specs.Option.{option_copied}
use Rattle.segmodel.proofs.Keeping.{moved-inserted}
use Rattle.segmodel.proofs.parts.move_item.Goals as goal

pub returns : goal.returns
returns c = rw (c.copy-2.ensures.value, c.copy.ensures.value) at c.in-Ok.ensures.entries
    ∙ sym (moved-inserted c.args.key.now c.args.segment c.in-Some.item.now c.args.items.now.entries c.insert.ensures.was_ordered (sym c.get.ensures.value ∙ ap option_copied c.in-Some.is))
