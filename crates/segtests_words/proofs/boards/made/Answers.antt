use Rattle.std.proofs.Common.{◌≡◌, ◌-◌, [], ◌∷◌, ◌++◌, length, slice_get, ap, ◌∙◌, sym, subst, arith}
use Rattle.std.proofs.lemmas.List.{length-append}
use Rattle.segmodel.proofs.ListPlaces.{last_of}
use Rattle.segbase.specs.Words.{IsNewPass}
use Rattle.segtests_words.proofs.boards.made.Goals as goal

pub returns : goal.returns
returns c =
    let b = c.in_ok-board.board in let p = c.in-Some.pass in let left = c.pop.new.self.items in
    let made = c.in_ok-board.ensures.made in
    let all : c.in_ok-board.passes.items ≡ left ++ p ∷ [] = c.in-Some.ensures.items in
    let long : length left ≡ c.args.shape.passes - 1 = (let l = sym (ap length all) ∙ made.dealt.long in let k = length-append left (p ∷ []) in omega arith) in
    (made.of, subst (λ n. IsNewPass b n p) long (made.dealt.each (length left) p (ap (λ l. slice_get l (length left)) all ∙ last_of left p)))
