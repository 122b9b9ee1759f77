use Rattle.std.proofs.Common.{subst}
use Rattle.clap.specs.Words.{found_of, rows_of}
use Rattle.segtasks.specs.CommandLine.{passes_option}
use Rattle.segtasks.specs.Asked.{IsShapeFor}
use Rattle.segtasks.proofs.Options.{option_found}
use Rattle.segtasks.proofs.arguments.shape_of.Goals as goal

pub returns : goal.returns
returns c =
    let found = found_of c.args.matches.now in
    subst (λ passes. IsShapeFor passes (rows_of found) c.shape_for.result)
    (option_found passes_option found c.get_one.ensures.none c.get_one.ensures.value) c.shape_for.ensures
