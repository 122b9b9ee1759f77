use Rattle.segcore.proofs.Changed.{entries_begin, changed_word, is_stirred}
use Rattle.segcore.proofs.laws.changed_word.Goals as goal

pub returns : goal.returns
returns c = record { grows = entries_begin; changed = changed_word; stirred = is_stirred }
