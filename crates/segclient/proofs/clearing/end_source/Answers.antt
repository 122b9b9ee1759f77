use Rattle.std.proofs.Common.{refl, ◌∙◌}
use Rattle.segindex.specs.Words.{board_of}
use Rattle.segclient.specs.Clearing.{evicts_rest}
use Rattle.segclient.specs.PutParts.{effort_from}
use Rattle.segclient.proofs.OneTurn.{rest_evicted, some_clears}
use Rattle.segclient.proofs.clearing.end_source.Goals as goal

pub returns-clause-clears : goal.returns-clause-clears
returns-clause-clears c = λ cutoff.
    let told = c.evict_rest-told in
    let from = c.args.source in
    some_clears (board_of c.args.index.now) cutoff (evicts_rest from.segment from.row told.result)
    (effort_from 0 0 c.from.result) c.args.pass.now told.new.pass
    refl refl (c.from.ensures ∙ c.evicted_by.ensures ∙ rest_evicted from.segment from.row told.result)
    ((c.requires.clearing.0.0, c.requires.clearing.1), c.requires.done, told.ensures.evicts)
