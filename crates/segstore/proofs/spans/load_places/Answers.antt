use Rattle.std.proofs.Common.{◌+◌, ◌*◌, ◌<◌, ◌∙◌, refl, sym, subst, ⊎_elim, arith, get_or, set, ap, rules, length-set, get_or-set_other, get_or-set_same}
use Rattle.std.proofs.lemmas.Bool.{cases_eq}
use Rattle.segword.specs.Words.{row_width, span_of_header}
use Rattle.segcore.specs.Words.{Row, row_after}
use Rattle.segbase.specs.Words.{trace}
use Rattle.segstore.proofs.Looks.{reads_nothing, reads_then, word_before}
use Rattle.segstore.proofs.spans.load_places.Goals as goal

pub loop-place-init : goal.loop-place-init
loop-place-init g c = record {
  long = first_of (search (rules, c.told-words), omega (arith, c.told-words));
  reads = reads_nothing c.args.board.now c.args.pass.now c.args.at.segment c.args.at.row c.requires.pass c.requires.readable;
  steps = omega arith;
  loaded = λ k le lt. absurd (omega (arith, le, lt));
  before = λ k lt. refl;
  behind = λ k le. refl;
}

pub load_place-requires-clause-place : goal.load_place-requires-clause-place
load_place-requires-clause-place g c = let i = c.loop-place.invariant in let places = c.requires.places in
    subst (λ (u : Row). c.args.from + c.loop-place.place < row_width * span_of_header (u.words 0)) (sym i.reads.same) (omega (arith, places))

pub loop-place-preserved : goal.loop-place-preserved
loop-place-preserved g c = let i = c.loop-place.invariant in let load = c.load_place.ensures in let b = c.args.board.now in
    let at = c.args.at in let words = c.loop-place.words in let place = c.loop-place.place in let found = c.load_place.result in record {
      long = length-set words place found ∙ i.long;
      reads = reads_then b _ _ _ at.segment at.row i.reads load.reads;
      steps = (let before = i.steps in let one = load.steps in omega (arith, before, one));
      loaded = λ k le lt. ⊎_elim
          (λ same. ap (λ n. get_or (set words place found) n 0) same ∙ get_or-set_same words place found 0 (omega (arith, i.long)) ∙ load.word
          ∙ ap (λ n. (row_after (trace c.load_place.new.pass) at.segment at.row).words (c.args.from + n)) (sym same))
          (λ other. get_or-set_other words place k found 0 (λ e. omega (arith, e, other))
          ∙ word_before b _ _ at.segment at.row (c.args.from + k) _ load.reads (i.loaded k le (omega (arith, lt, other))))
          (cases_eq k place);
      before = λ k lt. get_or-set_other words place k found 0 (λ e. omega (arith, e, lt)) ∙ i.before k lt;
      behind = λ k le. get_or-set_other words place k found 0 (λ e. omega (arith, e, le)) ∙ i.behind k (omega (arith, le));
    }
