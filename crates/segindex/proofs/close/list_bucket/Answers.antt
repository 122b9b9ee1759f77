use Rattle.std.proofs.Common.{◌≡◌, ℕ, ◌+◌, ◌*◌, List, ◌++◌, Vec, Global, sym, ap, subst, ◌∙◌, arith, append-nil}
use Rattle.std.specs.Option.{option_to_list}
use Rattle.segbase.specs.Words.{shape_of}
use Rattle.segindex.specs.Closing.{IsListed, IsPairAt}
use Rattle.segindex.proofs.Listing.{on_err, lists_word}
use Rattle.segindex.proofs.close.list_bucket.Goals as goal
use Rattle.segindex.proofs.close.list_bucket.Goals.{in-Some+in_ok-push_pair, in_default}

pub pair_at-requires : goal.pair_at-requires
pair_at-requires c = let r = c.requires in let low = c.loop-word.auto.word in let high = c.loop-word-test.true in
    (r.0, r.1, _, r.3, r.4 c.loop-word.word (omega arith) high)

pub loop-word-preserved : goal.loop-word-preserved
loop-word-preserved c = record {
  lists = λ trace home depth rest is lists.
      let words = c.args.words.now in let w = c.loop-word.word in let low = c.loop-word.auto.word in let high = c.loop-word-test.true in
      let items : c.match-pair_at.pairs.items ≡ c.loop-word.pairs.items ++ option_to_list c.pair_at.result = elim c.match-pair_at.branch [
        | in-Some+in_ok-push_pair x ↦ ap (λ (ps : Vec (List ℕ × List ℕ) Global). ps.items) x.pairs-is
            ∙ (x.in_ok-push_pair.ensures.items ∙ ap (λ o. c.loop-word.pairs.items ++ option_to_list o)
            (sym x.in-Some.is))
        | in_default x ↦ ap (λ (ps : Vec (List ℕ × List ℕ) Global). ps.items) x.pairs-is
            ∙ (sym (append-nil c.loop-word.pairs.items)
            ∙ ap (λ o. c.loop-word.pairs.items ++ option_to_list o) (sym x.in_default.is))
      ] in
      let more = lists_word (shape_of words) trace rest.lawful home (8 * depth + w) c.pair_at.result
      c.loop-word.pairs.items (c.pair_at.ensures trace home (8 * depth + w) rest (is w (omega arith) high))
      (c.loop-word.invariant.lists trace home depth rest is lists) in
      subst (λ n. IsListed words trace home n c.match-pair_at.pairs.items)
      (let e : 8 * depth + w + 1 ≡ 8 * depth + (w + 1) = omega arith in
      e) (subst (λ ps. IsListed words trace home (8 * depth + w + 1) ps) (sym items) more);
  few = let few = c.loop-word.invariant.few in elim c.match-pair_at.branch [
    | in-Some+in_ok-push_pair x ↦ omega (arith, few, x.in_ok-push_pair.ensures.len, ap (λ (ps : Vec (List ℕ × List ℕ) Global). ps.len) x.pairs-is)
    | in_default x ↦ omega (arith, few, ap (λ (ps : Vec (List ℕ × List ℕ) Global). ps.len) x.pairs-is)
  ];
  room = λ compact. let before = c.loop-word.invariant.room compact in elim c.match-pair_at.branch [
    | in-Some+in_ok-push_pair x ↦ rw x.pairs-is (x.in_ok-push_pair.ensures.room before)
    | in_default x ↦ rw x.pairs-is before
  ];
}

pub returns-in_err-push_pair-clause-wanted : goal.returns-in_err-push_pair-clause-wanted
returns-in_err-push_pair-clause-wanted c = on_err c.from_residual.result (λ trace home depth rest is.
    let words = c.args.words.now in let w = c.loop-word.word in let low = c.loop-word.auto.word in let high = c.loop-word-test.true in
    let at = subst (IsPairAt (shape_of words) trace home (8 * depth + w)) c.in-Some.is
    (c.pair_at.ensures trace home (8 * depth + w) rest (is w (omega arith) high)) in
    (c.in-Some.pair.0, c.in-Some.pair.1, at.2))

pub returns : goal.returns
returns c = record {
  lists = λ trace home depth rest is lists.
      let end : c.loop-word.word ≡ 8 = let over = c.loop-word-test.false in let up = c.loop-word.auto.word-end in omega arith in
      subst (λ w. IsListed c.args.words.now trace home (8 * depth + w) c.loop-word.pairs.items) end (c.loop-word.invariant.lists trace home depth rest is lists);
  few = let over = c.loop-word-test.false in let up = c.loop-word.auto.word-end in let few = c.loop-word.invariant.few in omega (arith, few, up);
  room = c.loop-word.invariant.room;
  wanted = tt;
}
