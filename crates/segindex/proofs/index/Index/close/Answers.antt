use Rattle.std.proofs.lemmas.Result.{IfErr-weaker, IfOk-weaker}
use Rattle.segindex.proofs.Ended.{wants_memory, some_content, alone_content}
use Rattle.segindex.proofs.index.Index.close.Goals as goal

pub returns-clause-content : goal.returns-clause-content
returns-clause-content c =
    let ended = c.close.ensures in
    IfOk-weaker c.list_content.result _ _ (λ content lists. some_content c.args.self.board c.args.pass c.close.result ended.0 ended.1 content.items lists) c.list_content.ensures.lists

pub returns-clause-wanted : goal.returns-clause-wanted
returns-clause-wanted c =
    let ended = c.close.ensures in
    IfErr-weaker c.list_content.result _ _ (λ _ pairs. wants_memory c.args.self.board c.args.pass c.close.result ended.0 ended.1 pairs) c.list_content.ensures.wanted

pub returns-clause-alone : goal.returns-clause-alone
returns-clause-alone c one =
    let ended = c.close.ensures in
    IfOk-weaker c.list_content.result _ _ (λ content lists. alone_content c.args.self.board c.args.pass c.close.result ended.0 ended.1 content.items lists one) c.list_content.ensures.lists
