use Rattle.std.proofs.Common.{rules}
use Rattle.segcli.proofs.HexWords.{read_hex}
use Rattle.segcli.proofs.explanation.word_of.Goals as goal

pub returns-clause-all : goal.returns-clause-all
returns-clause-all c = λ word. rw c.ok.ensures.value (read_hex c.args.text.now c.from_str_radix.result (search rules) c.from_str_radix.ensures.value word)
