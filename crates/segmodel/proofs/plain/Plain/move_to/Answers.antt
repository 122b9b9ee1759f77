use Rattle.std.proofs.Common.{rules, ◌≡◌, Some, ap, sym, ◌∙◌, subst}
use Rattle.std.specs.Option.{option_copied}
use Rattle.segword.specs.Words.{span_of}
use Rattle.segmodel.specs.Cache.{standing, with_at}
use Rattle.segmodel.specs.Plain.{state_of}
use Rattle.segmodel.specs.Serving.{span_under, with_rows}
use Rattle.segmodel.specs.Segments.{HasRows}
use Rattle.segmodel.proofs.Keeping.{has_memory, IsKept-moved, some_of}
use Rattle.segmodel.proofs.Sound.{IsKept-same}
use Rattle.segmodel.proofs.Spans.{under_is}
use Rattle.segmodel.proofs.plain.Plain.move_to.Goals as goal

pub invariant_of-self : goal.invariant_of-self
invariant_of-self c =
    let old = state_of c.args.self.now in
    let stands = some_of (standing old.cache c.args.key.now) c.requires.stands in
    let found : standing old.cache c.args.key.now ≡ Some c.in-Some.item.now = sym c.get.ensures.value ∙ ap option_copied c.in-Some.is in
    let rows : span_of c.copy.result c.in-Some.item.now.value ≡ span_under old c.args.key.now =
    ap (λ key. span_of key c.in-Some.item.now.value) c.copy.ensures.value ∙ under_is old c.args.key.now c.in-Some.item.now found in
    let filled = c.add_row.ensures.added ∙ (λ i. with_at old.filling c.args.to (with_rows (rows i) (c.copy.ensures.value i) c.args.frequency (old.filling c.args.to))) in
    record {
      has_buckets = search rules;
      each_version = search rules;
      each_width = search rules;
      each_segment = search rules;
      each_row = c.add_row.ensures.room c.args.self.now.shape.rows c.args.self.now.each_row;
      kept = IsKept-same (λ i. record old {
        cache = record old.cache { items = c.move_item.ensures i; deadline = c.add_row.ensures.deadlines i };
        filling = filled i;
      })
          (IsKept-moved c.args.self.now.shape c.args.key.now c.args.frequency c.args.to stands.0 old c.args.self.now.kept c.requires.current stands.1 c.requires.left);
    }

pub add_row-requires : goal.add_row-requires
add_row-requires c =
    let old = state_of c.args.self.now in
    let found : standing old.cache c.args.key.now ≡ Some c.in-Some.item.now = sym c.get.ensures.value ∙ ap option_copied c.in-Some.is in
    let rows : span_of c.copy.result c.in-Some.item.now.value ≡ span_under old c.args.key.now =
    ap (λ key. span_of key c.in-Some.item.now.value) c.copy.ensures.value ∙ under_is old c.args.key.now c.in-Some.item.now found in
    subst (HasRows c.args.self.now.segments.items c.args.to) (sym rows) (has_memory c.args.self.now c.args.to (span_under old c.args.key.now) c.requires.current c.requires.left)

pub returns-clause-state : goal.returns-clause-state
returns-clause-state c =
    let old = state_of c.args.self.now in
    let found : standing old.cache c.args.key.now ≡ Some c.in-Some.item.now = sym c.get.ensures.value ∙ ap option_copied c.in-Some.is in
    let rows : span_of c.copy.result c.in-Some.item.now.value ≡ span_under old c.args.key.now =
    ap (λ key. span_of key c.in-Some.item.now.value) c.copy.ensures.value ∙ under_is old c.args.key.now c.in-Some.item.now found in
    let filled = c.add_row.ensures.added ∙ (λ i. with_at old.filling c.args.to (with_rows (rows i) (c.copy.ensures.value i) c.args.frequency (old.filling c.args.to))) in
    λ i. record old {
      cache = record old.cache { items = c.move_item.ensures i; deadline = c.add_row.ensures.deadlines i };
      filling = filled i;
    }
