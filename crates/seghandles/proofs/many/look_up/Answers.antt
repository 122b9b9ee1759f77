use Rattle.seghandles.proofs.many.look_up.Goals as goal

pub returns : goal.returns
returns c = record {
  key = c.key_of-key.result.now;
  of = c.key_of-key.ensures;
  answers = (c.read_into-status.result, c.number-lookup.ensures, c.read_into-status.ensures.reads);
  keeps = record { at = c.read_into-status.ensures.keeps.at; len = c.read_into-status.ensures.keeps.len };
}
