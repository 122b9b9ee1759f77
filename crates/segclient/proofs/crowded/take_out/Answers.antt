use Rattle.std.proofs.Common.{◌≡◌, sym, ap, ◌∙◌, subst}
use Rattle.segindex.specs.Words.{board_of, shape_of}
use Rattle.segclient.specs.declared.segments.Segments.{Segments}
use Rattle.segclient.specs.Clearing.{IsCleared}
use Rattle.segclient.specs.PutParts.{effort_from}
use Rattle.segclient.proofs.Cleared.{row_out_stays}
use Rattle.segclient.proofs.crowded.take_out.Goals as goal
use Rattle.segclient.proofs.crowded.take_out.Goals.{then-eq+in-Some, then-eq+in_default, else-eq}

pub returns-clause-cleared : goal.returns-clause-cleared
returns-clause-cleared c =
    let out = c.evict_row-told in
    let row = c.args.row in
    let same : c.if-eq.segments.source ≡ c.args.segments.now.source = elim c.if-eq.branch [
      | then-eq+in-Some w ↦ ap (λ (s : Segments). s.source) w.segments-is
      | then-eq+in_default w ↦ ap (λ (s : Segments). s.source) w.segments-is
      | else-eq w ↦ ap (λ (s : Segments). s.source) w.segments-is
    ] in
    subst (λ source. IsCleared (shape_of c.args.index.now) source out.new.pass) (sym same)
    (row_out_stays (board_of c.args.index.now) c.args.pass.now out.new.pass c.requires.quiet row.segment row.row out.result out.ensures.evicts c.args.segments.now.source c.requires.cleared)

pub returns-clause-takes : goal.returns-clause-takes
returns-clause-takes c = record {
  told = c.evict_row-told.result;
  evicts = c.evict_row-told.ensures.evicts;
  comes = c.evicting.ensures ∙ ap (λ keys. effort_from 0 0 keys) (c.from.ensures ∙ c.row_evicted_by.ensures.value_alone c.args.row.segment c.args.row.row);
}
