use Rattle.std.proofs.Common.{◌≡◌, [], IfSome, refl, sym, ap, subst, ◌∙◌, arith}
use Rattle.segcore.specs.Words.{Row}
use Rattle.segbase.specs.Words.{Memo}
use Rattle.segstore.proofs.Looks.{loaded, may_load, one_step, reads_then}
use Rattle.segstore.proofs.Readers.{looks}
use Rattle.segstore.proofs.Costs.{costs_nothing}
use Rattle.segstore.proofs.Draws.{reader_draws_none}
use Rattle.segread.proofs.Answered.{reads_no_bit}
use Rattle.segread.proofs.HoldCalls.{may_read, has_row, stays}
use Rattle.segread.proofs.Reading.{read_on}
use Rattle.segstore.proofs.Still.{no_reader}
use Rattle.segread.proofs.into.row_into.Goals as goal

pub row_load-header-requires-clause-may : goal.row_load-header-requires-clause-may
row_load-header-requires-clause-may c = let b = c.args.board.now in let p = c.args.pass.now in let hold = c.args.row.now in
    may_load b p hold.segment hold.row 0 (may_read b p hold c.requires.pass c.requires.row) (omega arith)

pub value_into-requires-clause-readable : goal.value_into-requires-clause-readable
value_into-requires-clause-readable c = let b = c.args.board.now in let p = c.args.pass.now in let hold = c.args.row.now in let l = c.row_load-header in
    (loaded b p l.new.pass hold.segment hold.row 0 l.result (may_read b p hold c.requires.pass c.requires.row) l.ensures.step).readable

pub value_into-requires-clause-pair : goal.value_into-requires-clause-pair
value_into-requires-clause-pair c = let b = c.args.board.now in let p = c.args.pass.now in let hold = c.args.row.now in let l = c.row_load-header in let is = c.requires.row in
    let same = (loaded b p l.new.pass hold.segment hold.row 0 l.result (may_read b p hold c.requires.pass is) l.ensures.step).same in record {
      key = is.held.key;
      value = is.held.value;
      is_key = is.valid.0;
      is_value = is.valid.1;
      holds = λ j lt. ap (λ (u : Row). u.words j) same ∙ (has_row b p hold c.requires.pass is).pair j lt;
    }

pub returns : goal.returns
returns c =
    let b = c.args.board.now in let p = c.args.pass.now in let hold = c.args.row.now in let l = c.row_load-header in let v = c.value_into in let q = v.new.pass in let is = c.requires.row in
    let reads = reads_then b p l.new.pass q hold.segment hold.row (loaded b p l.new.pass hold.segment hold.row 0 l.result (may_read b p hold c.requires.pass is) l.ensures.step) v.ensures.reads in
    let i = looks b p q reads.looked in
    let on = read_on b p q c.requires.pass i.reads i.plain i.memo in
    let copies = v.ensures.copies is.held.key is.held.value is.valid.0 is.valid.1 (λ j lt. ap (λ (u : Row). u.words j) reads.same ∙ (has_row b p hold c.requires.pass is).pair j lt) in record {
      reads = record {
        value = is.held.value;
        reads = record {
          on = on.0;
          keeps = on.1;
          costs_nothing = costs_nothing p q (reads_no_bit b p q i) (reader_draws_none b p q i.reads) (no_reader b [] p q reads.looked.did.moved tt);
          steps = (let one = one_step b p l.new.pass _ _ l.ensures.step in let four = v.ensures.steps in omega (arith, one, four));
          hold = stays b.shape hold p q is (ap (λ (m : Memo). m.holding) on.1.memo);
          value = subst (λ o. IfSome o (λ held. is.held.value ≡ held.value)) (sym is.holds) refl;
        };
        copies = copies;
      };
    }
