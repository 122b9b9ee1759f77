use Rattle.std.proofs.Common.{◌≡◌, Some, refl, sym, subst, arith}
use Rattle.std.proofs.lemmas.Bool.{both_ways}
use Rattle.segcore.specs.Words.{HasBit}
use Rattle.segbase.specs.Words.{number, Place, trace}
use Rattle.segstore.proofs.Looks.{one_step}
use Rattle.segstore.specs.Words.{next_word}
use Rattle.segwrite.proofs.Places.{idles_then, step_idles}
use Rattle.segwrite.specs.Growing.{Searches}
use Rattle.segwrite.proofs.Searching.{searching_first, first_bucket, few_buckets}
use Rattle.segwrite.proofs.Finding.{at_first, at_last, bit_looked, chain_looked, deep_first, deep_inner, deep_last, deeper, found_end, go_on, is_target, next_first, next_inner, reads_looked}
use Rattle.segwrite.proofs.find.search.Goals as goal

pub loop-word-init : goal.loop-word-init
loop-word-init c = record {
  searching = searching_first c.args.board.now c.args.sought.now.key c.args.pass.now c.args.sought.now.bucket c.requires.sought.bucket c.requires.pass c.requires.bit.0;
  deep = first_bucket c.args.board.now.shape (trace c.args.pass.now) c.args.sought.now.bucket c.requires.bit.0;
  steps = omega arith;
}

-- ---- at each word but the last one

pub is_item_of-requires-clause-chain : goal.is_item_of-requires-clause-chain
is_item_of-requires-clause-chain c = let l = c.look in let b = c.args.board.now in let place : Place = record { bucket = c.loop-word.bucket; word = c.loop-word-2.word } in
    let bit = subst (HasBit b.shape (trace c.args.pass.now) (number c.args.pass.now)) c.requires.sought.bucket c.requires.bit in let s = c.loop-word-2.invariant.searching in
    chain_looked b c.args.sought.now.key c.args.pass.now _ l.new.pass place l.result c.loop-word-2.empty s bit (step_idles b _ _ _ _ l.ensures.step l.ensures.did) l.ensures.reads

pub is_item_of-requires-clause-bit : goal.is_item_of-requires-clause-bit
is_item_of-requires-clause-bit c = let l = c.look in let b = c.args.board.now in let place : Place = record { bucket = c.loop-word.bucket; word = c.loop-word-2.word } in
    let bit = subst (HasBit b.shape (trace c.args.pass.now) (number c.args.pass.now)) c.requires.sought.bucket c.requires.bit in let s = c.loop-word-2.invariant.searching in
    bit_looked b c.args.sought.now.key c.args.pass.now _ l.new.pass place l.result c.loop-word-2.empty s bit (step_idles b _ _ _ _ l.ensures.step l.ensures.did) l.ensures.reads

pub is_item_of-requires-clause-word : goal.is_item_of-requires-clause-word
is_item_of-requires-clause-word c = let l = c.look in let b = c.args.board.now in let place : Place = record { bucket = c.loop-word.bucket; word = c.loop-word-2.word } in
    let bit = subst (HasBit b.shape (trace c.args.pass.now) (number c.args.pass.now)) c.requires.sought.bucket c.requires.bit in let s = c.loop-word-2.invariant.searching in
    reads_looked b c.args.sought.now.key c.args.pass.now _ l.new.pass place l.result c.loop-word-2.empty s bit (step_idles b _ _ _ _ l.ensures.step l.ensures.did) l.ensures.reads

pub returns-then-is_item_of-clause-idles : goal.returns-then-is_item_of-clause-idles
returns-then-is_item_of-clause-idles c = let l = c.look in let b = c.args.board.now in let place : Place = record { bucket = c.loop-word.bucket; word = c.loop-word-2.word } in
    let bit = subst (HasBit b.shape (trace c.args.pass.now) (number c.args.pass.now)) c.requires.sought.bucket c.requires.bit in let s = c.loop-word-2.invariant.searching in
    idles_then b _ _ _ (idles_then b _ _ _ s.idles (step_idles b _ _ _ _ l.ensures.step l.ensures.did)) c.is_item_of.ensures.idles

pub returns-then-is_item_of-clause-steps : goal.returns-then-is_item_of-clause-steps
returns-then-is_item_of-clause-steps c = let l = c.look in let b = c.args.board.now in let key = c.is_item_of.ensures.steps in
    let before = c.loop-word-2.invariant.steps in let one = one_step b c.loop-word-2.pass l.new.pass _ _ l.ensures.step in
    let few = few_buckets b c.args.sought.now.key c.args.pass.now c.loop-word-2.pass _ c.loop-word-2.empty c.loop-word-2.invariant.searching in let deep = c.loop-word-2.invariant.deep in
    let lt = c.loop-word-2-test.true in omega (arith, before, one, few, deep, lt, key)

pub returns-then-is_item_of-clause-searches : goal.returns-then-is_item_of-clause-searches
returns-then-is_item_of-clause-searches c = let l = c.look in let b = c.args.board.now in let place : Place = record { bucket = c.loop-word.bucket; word = c.loop-word-2.word } in
    let bit = subst (HasBit b.shape (trace c.args.pass.now) (number c.args.pass.now)) c.requires.sought.bucket c.requires.bit in let s = c.loop-word-2.invariant.searching in
    is_target b c.args.sought.now.key c.args.pass.now _ l.new.pass place l.result c.loop-word-2.empty s bit
    (step_idles b _ _ _ _ l.ensures.step l.ensures.did) l.ensures.reads _ c.is_item_of.ensures.idles
    (c.is_item_of.ensures.is.0 c.if-is_item_of.true) l.ensures.found

pub loop-word-2-preserved : goal.loop-word-2-preserved
loop-word-2-preserved c = let l = c.look in let b = c.args.board.now in let place : Place = record { bucket = c.loop-word.bucket; word = c.loop-word-2.word } in
    let bit = subst (HasBit b.shape (trace c.args.pass.now) (number c.args.pass.now)) c.requires.sought.bucket c.requires.bit in let s = c.loop-word-2.invariant.searching in
    let next = next_inner b.shape place l.result c.loop-word-2-test.true in let key = c.is_item_of.ensures.steps in
    let before = c.loop-word-2.invariant.steps in let one = one_step b c.loop-word-2.pass l.new.pass _ _ l.ensures.step in record {
      searching = go_on b c.args.sought.now.key c.args.pass.now _ l.new.pass place l.result c.loop-word-2.empty s
          bit (step_idles b _ _ _ _ l.ensures.step l.ensures.did) l.ensures.reads _ c.is_item_of.ensures.idles _
          (Some (next_word place)) (λ has. both_ways _ c.if-is_item_of.false (c.is_item_of.ensures.is.1 has))
          c.or_earlier-empty.ensures next (next_word place) refl;
      deep = deep_inner b c.is_item_of.new.pass c.loop-word.bucket c.loop-word-2.word c.loop-word.buckets c.loop-word-2.auto.word
          (deeper b c.args.sought.now.key c.args.pass.now _ l.new.pass place l.result c.loop-word-2.empty s bit
          (step_idles b _ _ _ _ l.ensures.step l.ensures.did) l.ensures.reads _ c.is_item_of.ensures.idles _
          (Some (next_word place)) (λ has. both_ways _ c.if-is_item_of.false (c.is_item_of.ensures.is.1 has))
          c.or_earlier-empty.ensures next c.loop-word.buckets (next_word place) c.loop-word-2.invariant.deep
          refl);
      steps = omega (arith, before, one, key);
    }

-- ---- at the last word of a bucket

pub is_item_of-requires-in-loop-word-clause-chain : goal.is_item_of-requires-in-loop-word-clause-chain
is_item_of-requires-in-loop-word-clause-chain c = let l = c.look-in-loop-word in let b = c.args.board.now in let place : Place = record { bucket = c.loop-word.bucket; word = 7 } in
    let bit = subst (HasBit b.shape (trace c.args.pass.now) (number c.args.pass.now)) c.requires.sought.bucket c.requires.bit in
    let end : c.loop-word-2.word ≡ 7 = (let over = c.loop-word-2-test.false in let within = c.loop-word-2.auto.word-end in omega (arith, over, within)) in
    let s = at_last b c.args.sought.now.key c.args.pass.now c.loop-word-2.pass c.loop-word.bucket c.loop-word-2.word c.loop-word-2.empty end c.loop-word-2.invariant.searching in
    chain_looked b c.args.sought.now.key c.args.pass.now _ l.new.pass place l.result c.loop-word-2.empty s bit (step_idles b _ _ _ _ l.ensures.step l.ensures.did) l.ensures.reads

pub is_item_of-requires-in-loop-word-clause-bit : goal.is_item_of-requires-in-loop-word-clause-bit
is_item_of-requires-in-loop-word-clause-bit c = let l = c.look-in-loop-word in let b = c.args.board.now in let place : Place = record { bucket = c.loop-word.bucket; word = 7 } in
    let bit = subst (HasBit b.shape (trace c.args.pass.now) (number c.args.pass.now)) c.requires.sought.bucket c.requires.bit in
    let end : c.loop-word-2.word ≡ 7 = (let over = c.loop-word-2-test.false in let within = c.loop-word-2.auto.word-end in omega (arith, over, within)) in
    let s = at_last b c.args.sought.now.key c.args.pass.now c.loop-word-2.pass c.loop-word.bucket c.loop-word-2.word c.loop-word-2.empty end c.loop-word-2.invariant.searching in
    bit_looked b c.args.sought.now.key c.args.pass.now _ l.new.pass place l.result c.loop-word-2.empty s bit (step_idles b _ _ _ _ l.ensures.step l.ensures.did) l.ensures.reads

pub is_item_of-requires-in-loop-word-clause-word : goal.is_item_of-requires-in-loop-word-clause-word
is_item_of-requires-in-loop-word-clause-word c = let l = c.look-in-loop-word in let b = c.args.board.now in let place : Place = record { bucket = c.loop-word.bucket; word = 7 } in
    let bit = subst (HasBit b.shape (trace c.args.pass.now) (number c.args.pass.now)) c.requires.sought.bucket c.requires.bit in
    let end : c.loop-word-2.word ≡ 7 = (let over = c.loop-word-2-test.false in let within = c.loop-word-2.auto.word-end in omega (arith, over, within)) in
    let s = at_last b c.args.sought.now.key c.args.pass.now c.loop-word-2.pass c.loop-word.bucket c.loop-word-2.word c.loop-word-2.empty end c.loop-word-2.invariant.searching in
    reads_looked b c.args.sought.now.key c.args.pass.now _ l.new.pass place l.result c.loop-word-2.empty s bit (step_idles b _ _ _ _ l.ensures.step l.ensures.did) l.ensures.reads

pub returns-then-is_item_of-2-clause-idles : goal.returns-then-is_item_of-2-clause-idles
returns-then-is_item_of-2-clause-idles c = let l = c.look-in-loop-word in let b = c.args.board.now in let place : Place = record { bucket = c.loop-word.bucket; word = 7 } in
    let bit = subst (HasBit b.shape (trace c.args.pass.now) (number c.args.pass.now)) c.requires.sought.bucket c.requires.bit in
    let end : c.loop-word-2.word ≡ 7 = (let over = c.loop-word-2-test.false in let within = c.loop-word-2.auto.word-end in omega (arith, over, within)) in
    let s = at_last b c.args.sought.now.key c.args.pass.now c.loop-word-2.pass c.loop-word.bucket c.loop-word-2.word c.loop-word-2.empty end c.loop-word-2.invariant.searching in
    idles_then b _ _ _ (idles_then b _ _ _ s.idles (step_idles b _ _ _ _ l.ensures.step l.ensures.did)) c.is_item_of-in-loop-word.ensures.idles

pub returns-then-is_item_of-2-clause-steps : goal.returns-then-is_item_of-2-clause-steps
returns-then-is_item_of-2-clause-steps c = let l = c.look-in-loop-word in let b = c.args.board.now in let key = c.is_item_of-in-loop-word.ensures.steps in
    let before = c.loop-word-2.invariant.steps in let one = one_step b c.loop-word-2.pass l.new.pass _ _ l.ensures.step in
    let few = few_buckets b c.args.sought.now.key c.args.pass.now c.loop-word-2.pass _ c.loop-word-2.empty c.loop-word-2.invariant.searching in let deep = c.loop-word-2.invariant.deep in
    let within = c.loop-word-2.auto.word-end in omega (arith, before, one, few, deep, within, key)

pub returns-then-is_item_of-2-clause-searches : goal.returns-then-is_item_of-2-clause-searches
returns-then-is_item_of-2-clause-searches c = let l = c.look-in-loop-word in let b = c.args.board.now in let place : Place = record { bucket = c.loop-word.bucket; word = 7 } in
    let bit = subst (HasBit b.shape (trace c.args.pass.now) (number c.args.pass.now)) c.requires.sought.bucket c.requires.bit in
    let end : c.loop-word-2.word ≡ 7 = (let over = c.loop-word-2-test.false in let within = c.loop-word-2.auto.word-end in omega (arith, over, within)) in
    let s = at_last b c.args.sought.now.key c.args.pass.now c.loop-word-2.pass c.loop-word.bucket c.loop-word-2.word c.loop-word-2.empty end c.loop-word-2.invariant.searching in
    is_target b c.args.sought.now.key c.args.pass.now _ l.new.pass place l.result c.loop-word-2.empty s bit
    (step_idles b _ _ _ _ l.ensures.step l.ensures.did) l.ensures.reads _
    c.is_item_of-in-loop-word.ensures.idles (c.is_item_of-in-loop-word.ensures.is.0 c.if-is_item_of-2.true)
    l.ensures.found

pub returns-in_default-clause-idles : goal.returns-in_default-clause-idles
returns-in_default-clause-idles c = let l = c.look-in-loop-word in let b = c.args.board.now in let place : Place = record { bucket = c.loop-word.bucket; word = 7 } in
    let bit = subst (HasBit b.shape (trace c.args.pass.now) (number c.args.pass.now)) c.requires.sought.bucket c.requires.bit in
    let end : c.loop-word-2.word ≡ 7 = (let over = c.loop-word-2-test.false in let within = c.loop-word-2.auto.word-end in omega (arith, over, within)) in
    let s = at_last b c.args.sought.now.key c.args.pass.now c.loop-word-2.pass c.loop-word.bucket c.loop-word-2.word c.loop-word-2.empty end c.loop-word-2.invariant.searching in
    idles_then b _ _ _ (idles_then b _ _ _ s.idles (step_idles b _ _ _ _ l.ensures.step l.ensures.did)) c.is_item_of-in-loop-word.ensures.idles

pub returns-in_default-clause-steps : goal.returns-in_default-clause-steps
returns-in_default-clause-steps c = let l = c.look-in-loop-word in let b = c.args.board.now in let key = c.is_item_of-in-loop-word.ensures.steps in
    let before = c.loop-word-2.invariant.steps in let one = one_step b c.loop-word-2.pass l.new.pass _ _ l.ensures.step in
    let few = few_buckets b c.args.sought.now.key c.args.pass.now c.loop-word-2.pass _ c.loop-word-2.empty c.loop-word-2.invariant.searching in let deep = c.loop-word-2.invariant.deep in
    let within = c.loop-word-2.auto.word-end in omega (arith, before, one, few, deep, within, key)

pub returns-in_default-clause-searches : goal.returns-in_default-clause-searches
returns-in_default-clause-searches c = let l = c.look-in-loop-word in let b = c.args.board.now in let place : Place = record { bucket = c.loop-word.bucket; word = 7 } in
    let bit = subst (HasBit b.shape (trace c.args.pass.now) (number c.args.pass.now)) c.requires.sought.bucket c.requires.bit in
    let end : c.loop-word-2.word ≡ 7 = (let over = c.loop-word-2-test.false in let within = c.loop-word-2.auto.word-end in omega (arith, over, within)) in
    let s = at_last b c.args.sought.now.key c.args.pass.now c.loop-word-2.pass c.loop-word.bucket c.loop-word-2.word c.loop-word-2.empty end c.loop-word-2.invariant.searching in
    subst (λ found. Searches b c.args.sought.now.key found c.is_item_of-in-loop-word.new.pass) (sym c.or_empty.ensures)
    (found_end b c.args.sought.now.key c.args.pass.now _ l.new.pass place l.result c.loop-word-2.empty s bit
    (step_idles b _ _ _ _ l.ensures.step l.ensures.did) l.ensures.reads _
    c.is_item_of-in-loop-word.ensures.idles _ c.next_place.result
    (λ has. both_ways _ c.if-is_item_of-2.false (c.is_item_of-in-loop-word.ensures.is.1 has))
    c.or_earlier-empty-in-loop-word.ensures c.next_place.ensures c.loop-word.buckets c.in_default.is
    l.ensures.found (deep_last b c.loop-word-2.pass c.loop-word.bucket c.loop-word-2.word c.loop-word.buckets
    end c.loop-word-2.invariant.deep))

pub overflow_add-buckets : goal.overflow_add-buckets
overflow_add-buckets c = let few = few_buckets c.args.board.now c.args.sought.now.key c.args.pass.now
    c.loop-word.pass _ c.loop-word.empty c.loop-word.invariant.searching in let deep = c.loop-word.invariant.deep in
    omega (arith, few, deep)

pub loop-word-smaller : goal.loop-word-smaller
loop-word-smaller c = let few = few_buckets c.args.board.now c.args.sought.now.key c.args.pass.now c.loop-word.pass
    _ c.loop-word.empty c.loop-word.invariant.searching in let deep = c.loop-word.invariant.deep in
    omega (arith, few, deep)

pub loop-word-preserved : goal.loop-word-preserved
loop-word-preserved c = let l = c.look-in-loop-word in let b = c.args.board.now in let place : Place = record { bucket = c.loop-word.bucket; word = 7 } in
    let bit = subst (HasBit b.shape (trace c.args.pass.now) (number c.args.pass.now)) c.requires.sought.bucket c.requires.bit in
    let end : c.loop-word-2.word ≡ 7 = (let over = c.loop-word-2-test.false in let within = c.loop-word-2.auto.word-end in omega (arith, over, within)) in
    let s = at_last b c.args.sought.now.key c.args.pass.now c.loop-word-2.pass c.loop-word.bucket c.loop-word-2.word c.loop-word-2.empty end c.loop-word-2.invariant.searching in
    let after = c.in-Some.next in let first = next_first b.shape place l.result c.next_place.result after refl c.next_place.ensures c.in-Some.is in let key = c.is_item_of-in-loop-word.ensures.steps in
    let before = c.loop-word-2.invariant.steps in let one = one_step b c.loop-word-2.pass l.new.pass _ _ l.ensures.step in record {
      searching = at_first b c.args.sought.now.key c.args.pass.now c.is_item_of-in-loop-word.new.pass after
          c.or_earlier-empty-in-loop-word.result first
          (go_on b c.args.sought.now.key c.args.pass.now _ l.new.pass place l.result c.loop-word-2.empty s bit
          (step_idles b _ _ _ _ l.ensures.step l.ensures.did) l.ensures.reads _
          c.is_item_of-in-loop-word.ensures.idles _ c.next_place.result
          (λ has. both_ways _ c.if-is_item_of-2.false (c.is_item_of-in-loop-word.ensures.is.1 has))
          c.or_earlier-empty-in-loop-word.ensures c.next_place.ensures after c.in-Some.is);
      deep = deep_first b c.is_item_of-in-loop-word.new.pass after c.loop-word.buckets first
          (deeper b c.args.sought.now.key c.args.pass.now _ l.new.pass place l.result c.loop-word-2.empty s bit
          (step_idles b _ _ _ _ l.ensures.step l.ensures.did) l.ensures.reads _
          c.is_item_of-in-loop-word.ensures.idles _ c.next_place.result
          (λ has. both_ways _ c.if-is_item_of-2.false (c.is_item_of-in-loop-word.ensures.is.1 has))
          c.or_earlier-empty-in-loop-word.ensures c.next_place.ensures c.loop-word.buckets after
          (deep_last b c.loop-word-2.pass c.loop-word.bucket c.loop-word-2.word c.loop-word.buckets end
          c.loop-word-2.invariant.deep) c.in-Some.is);
      steps = (let within = c.loop-word-2.auto.word-end in omega (arith, before, one, key, within));
    }
