use Rattle.std.proofs.lemmas.Result.{IfErr-weaker, IfOk-weaker}
use Rattle.segindex.proofs.Ended.{passes_of, content_of_all, wants_memory_of_all}
use Rattle.segindex.proofs.index.Index.close_all.Goals as goal

pub close_all-requires : goal.close_all-requires
close_all-requires c = passes_of c.args.self.board c.args.passes.items c.requires

pub list_content-requires : goal.list_content-requires
list_content-requires c = let closed = c.close_all.ensures in record { rest = (_, closed.rest) }

pub returns-clause-content : goal.returns-clause-content
returns-clause-content c =
    IfOk-weaker c.list_content.result _ _ (λ content lists. content_of_all c.args.self.board c.args.passes.items
    c.close_all.result c.close_all.ensures content.items lists) c.list_content.ensures.lists

pub returns-clause-wanted : goal.returns-clause-wanted
returns-clause-wanted c =
    IfErr-weaker c.list_content.result _ _ (λ _ pairs. wants_memory_of_all c.args.self.board c.args.passes.items c.close_all.result c.close_all.ensures pairs) c.list_content.ensures.wanted
