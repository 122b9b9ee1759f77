use Rattle.std.proofs.Common.{◌∙◌, sym}
use Rattle.segword.specs.Words.{place_behind, row_behind}
use Rattle.segcore.specs.Words.{row_after}
use Rattle.segcore.proofs.Spans.{first_words}
use Rattle.segbase.specs.Words.{trace}
use Rattle.segstore.proofs.Looks.{may_load_own}
use Rattle.segstore.proofs.Rows.{looked_word, other_place, own_after, own_looked, stored_word, stores_nothing, stores_one}
use Rattle.segstore.proofs.write.store_word.Goals as goal

pub row_load_at-requires-clause-may : goal.row_load_at-requires-clause-may
row_load_at-requires-clause-may c =
    let own = c.requires.own in let is = c.row_of_place-spot.ensures.row in let spot = c.row_of_place-spot.result in
    may_load_own c.args.board.now c.args.pass.now spot.0.segment spot.0.row spot.1
    (rw (is.0, is.1) own) (rw (c.row_of_place-spot.ensures.place) c.requires.place)

pub returns-then-row_load_at-word-clause-moved : goal.returns-then-row_load_at-word-clause-moved
returns-then-row_load_at-word-clause-moved c = λ words is.
    stores_nothing c.args.board.now c.args.pass.now c.row_load_at.new.pass c.args.at.segment c.args.at.row words c.row_load_at.ensures.did.moved

pub returns-then-row_load_at-word-clause-own : goal.returns-then-row_load_at-word-clause-own
returns-then-row_load_at-word-clause-own c =
    own_looked c.args.board.now c.args.pass.now c.row_load_at.new.pass c.args.at.segment _ c.row_load_at.ensures.did c.requires.own

pub returns-then-row_load_at-word-clause-others : goal.returns-then-row_load_at-word-clause-others
returns-then-row_load_at-word-clause-others c = λ other apart.
    looked_word c.args.board.now c.args.pass.now c.row_load_at.new.pass c.args.at.segment _ (place_behind other) c.row_load_at.ensures.did c.requires.own.2

pub returns-then-row_load_at-word-clause-word : goal.returns-then-row_load_at-word-clause-word
returns-then-row_load_at-word-clause-word c = let is = c.row_of_place-spot.ensures.row in let at = c.row_of_place-spot.ensures.place in
    let q = trace c.row_load_at.new.pass in let s = c.args.at.segment in let r = row_behind c.args.at.row c.args.place in
    sym (first_words q s r (place_behind c.args.place) c.requires.place)
    ∙ (λ t. (row_after q (sym is.0 t) (sym is.1 t)).words (sym at t)) ∙ sym c.row_load_at.ensures.word ∙ c.if-row_load_at-word.true

pub row_store_at-requires-clause-may : goal.row_store_at-requires-clause-may
row_store_at-requires-clause-may c =
    let is = c.row_of_place-spot.ensures.row in
    let own = own_looked c.args.board.now c.args.pass.now c.row_load_at.new.pass c.args.at.segment _ c.row_load_at.ensures.did c.requires.own in
    record {
      guarded = tt;
      follows = tt;
      suits = (rw (is.0, is.1) own, rw (c.row_of_place-spot.ensures.place) c.requires.place);
    }

pub returns-clause-moved : goal.returns-clause-moved
returns-clause-moved c = let is = c.row_of_place-spot.ensures.row in λ words word.
    stores_one c.args.board.now c.args.pass.now c.row_load_at.new.pass c.row_store_at.new.pass c.args.at.segment
    c.args.at.row c.args.place words c.row_load_at.ensures.did.moved
    (rw (word, ← is.0, ← is.1, ← c.row_of_place-spot.ensures.place) c.row_store_at.ensures.did)

pub returns-clause-others : goal.returns-clause-others
returns-clause-others c = let is = c.row_of_place-spot.ensures.row in λ other apart.
    other_place c.args.board.now c.row_load_at.new.pass c.row_store_at.new.pass c.args.at.segment c.args.at.row c.args.place c.args.word other
    (rw (← is.0, ← is.1, ← c.row_of_place-spot.ensures.place) c.row_store_at.ensures.did)
    (own_looked c.args.board.now c.args.pass.now c.row_load_at.new.pass c.args.at.segment _ c.row_load_at.ensures.did c.requires.own).2
    apart
    ∙ looked_word c.args.board.now c.args.pass.now c.row_load_at.new.pass c.args.at.segment _ (place_behind other) c.row_load_at.ensures.did c.requires.own.2

pub returns-clause-word : goal.returns-clause-word
returns-clause-word c = let is = c.row_of_place-spot.ensures.row in
    let own = own_looked c.args.board.now c.args.pass.now c.row_load_at.new.pass c.args.at.segment _ c.row_load_at.ensures.did c.requires.own in
    stored_word c.args.board.now c.row_load_at.new.pass c.row_store_at.new.pass c.args.at.segment (row_behind c.args.at.row c.args.place) (place_behind c.args.place) c.args.word
    (rw (← is.0, ← is.1, ← c.row_of_place-spot.ensures.place) c.row_store_at.ensures.did) own.2

pub returns-clause-own : goal.returns-clause-own
returns-clause-own c = let is = c.row_of_place-spot.ensures.row in
    own_after c.args.board.now c.row_load_at.new.pass c.row_store_at.new.pass c.args.at.segment (row_behind c.args.at.row c.args.place) (place_behind c.args.place) c.args.word
    (rw (← is.0, ← is.1, ← c.row_of_place-spot.ensures.place) c.row_store_at.ensures.did)
    (own_looked c.args.board.now c.args.pass.now c.row_load_at.new.pass c.args.at.segment _ c.row_load_at.ensures.did c.requires.own)
