use Rattle.std.proofs.Common.{◌≡◌, ◌++◌, map, sym, ap, ◌∙◌, subst}
use Rattle.std.proofs.lemmas.List.{append-nil, nil_from_length}
use Rattle.segindex.specs.Words.{AreAllQuiet, board_of}
use Rattle.segclient.proofs.Together.{pass_of, passes_quiet}
use Rattle.segclient.proofs.all.into_passes.Goals as goal

pub returns : goal.returns
returns c =
    let was = c.loop-client.invariant in
    let passes = c.loop-client.passes.items in
    let rest = c.loop-client.client-iterator.rest in
    let none = nil_from_length rest.items (sym rest.ok.0 ∙ c.in-None.ensures.steps.0) in
    let all : passes ≡ map pass_of c.args.clients.items = sym (append-nil passes) ∙ ap (λ l. passes ++ map pass_of l) (sym none) ∙ was.all in
    record { all = subst (AreAllQuiet (board_of c.args.index.now)) (sym all) (passes_quiet c.args.index.now c.args.clients.items c.requires.all); passes = all; room = was.exact }
