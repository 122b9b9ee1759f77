use Rattle.std.proofs.Common.{List, ℕ, rules}
use Rattle.std.proofs.lemmas.Cmp.{nat_list_cmp_total}
use Rattle.std.proofs.lemmas.List.Sorted.{ranks_by, answers_always}
use Rattle.std.specs.Ordering.{is_lt}
use Rattle.segmodel.specs.Words.{key_cmp}
use Rattle.segindex.proofs.Ended.{is_content}
use Rattle.segindex.proofs.close.list_content.Goals as goal

pub returns-clause-lists : goal.returns-clause-lists
returns-clause-lists c trace rest =
    is_content c.args.words trace rest c.in-Ok.content.items c.sort_unstable_by.new.self.items (c.in-Ok.ensures.lists trace rest) c.sort_unstable_by.ensures.permutation
    (c.sort_unstable_by.ensures.sorted (λ p q. is_lt (key_cmp p.0 q.0)) (ranks_by nat_list_cmp_total (λ (p : List ℕ × List ℕ). p.0)) (answers_always _ _ _ (λ f a r g h. search rules)))
