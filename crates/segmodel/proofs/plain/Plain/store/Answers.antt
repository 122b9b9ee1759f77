use Rattle.std.proofs.Common.{rules, ◌≡◌, Some, refl, sym, ap, ◌∙◌, subst}
use Rattle.segmodel.specs.Places.{bucket_of}
use Rattle.segmodel.specs.Request.{key_of, value_of}
use Rattle.segmodel.specs.Segments.{fillings, deadlines, by_bucket, HasRows}
use Rattle.segmodel.specs.State.{State}
use Rattle.segmodel.specs.Serving.{stored}
use Rattle.segword.specs.Words.{span_of}
use Rattle.segmodel.specs.Plain.{HasLeft, state_of}
use Rattle.segmodel.proofs.Keeping.{has_memory}
use Rattle.segmodel.proofs.Stores.{Stores, stores_from, stored_state, stored_kept}
use Rattle.segmodel.proofs.plain.Plain.store.Goals as goal

pub invariant_of-self-2 : goal.invariant_of-self-2
invariant_of-self-2 c =
    let key = c.key-key.ensures in
    let b : c.bucket-bucket.result ≡ bucket_of c.args.self.now.shape (key_of c.args.request.now) = c.bucket-bucket.ensures.value ∙ ap (bucket_of c.args.self.now.shape) key in
    let stores : Stores c.args.self.now.shape (key_of c.args.request.now) (value_of c.args.request.now) c.args.segment (state_of c.args.self.now)
    c.insert.new.self.entries (by_bucket c.count_write.new.versions.items c.args.self.now.shape.first_version) (fillings c.add_row.new.segments.items) =
    stores_from c.args.self.now.shape (key_of c.args.request.now) (value_of c.args.request.now) c.args.segment (state_of c.args.self.now)
    c.insert.new.self.entries (by_bucket c.count_write.new.versions.items c.args.self.now.shape.first_version) (fillings c.add_row.new.segments.items)
    c.copy-2.result c.copy-3.result c.copy.result c.args.value.now c.bucket-bucket.result (fillings c.args.self.now.segments.items)
    (c.copy-2.ensures.value ∙ key) (c.copy-3.ensures.value ∙ key) (c.copy.ensures.value ∙ c.requires.value) c.requires.value b refl
    c.in-Ok.ensures.entries (c.count_write.ensures.counted c.args.self.now.shape.first_version) c.add_row.ensures.added in
    let left : ◌≡◌ {A = State} (record (state_of c.args.self.now) {
      cache = record { items = c.insert.new.self.entries; version = by_bucket c.count_write.new.versions.items c.args.self.now.shape.first_version; deadline = deadlines c.add_row.new.segments.items };
      filling = fillings c.add_row.new.segments.items;
      width = by_bucket c.chain.new.widths.items 1;
      drawn = c.chain.new.drawn;
    }) (stored c.args.self.now.shape c.args.request.now (Some c.args.segment) (state_of c.args.self.now)) =
    stored_state c.args.self.now.shape c.args.request.now c.args.segment c.args.chains (state_of c.args.self.now) _ _ _ _ _ _ c.bucket-bucket.result
    c.requires.chains b stores c.add_row.ensures.deadlines c.chain.ensures.wider c.chain.ensures.drawn in
    record {
      has_buckets = search rules;
      each_version = search rules;
      each_width = search rules;
      each_segment = search rules;
      each_row = c.add_row.ensures.room c.args.self.now.shape.rows c.args.self.now.each_row;
      kept = stored_kept c.args.self.now.shape c.args.request.now c.args.segment (state_of c.args.self.now) _ c.args.self.now.kept c.requires.current
          (subst (λ v. HasLeft c.args.self.now c.args.segment (span_of (key_of c.args.request.now) v)) c.requires.value c.requires.left)
          (λ lacks. c.requires.may_chain (c.requires.chains ∙ lacks)) c.requires.replied left;
    }

pub returns-clause-ok : goal.returns-clause-ok
returns-clause-ok c =
    let key = c.key-key.ensures in
    let b : c.bucket-bucket.result ≡ bucket_of c.args.self.now.shape (key_of c.args.request.now) = c.bucket-bucket.ensures.value ∙ ap (bucket_of c.args.self.now.shape) key in
    let stores : Stores c.args.self.now.shape (key_of c.args.request.now) (value_of c.args.request.now) c.args.segment (state_of c.args.self.now)
    c.insert.new.self.entries (by_bucket c.count_write.new.versions.items c.args.self.now.shape.first_version) (fillings c.add_row.new.segments.items) =
    stores_from c.args.self.now.shape (key_of c.args.request.now) (value_of c.args.request.now) c.args.segment (state_of c.args.self.now)
    c.insert.new.self.entries (by_bucket c.count_write.new.versions.items c.args.self.now.shape.first_version) (fillings c.add_row.new.segments.items)
    c.copy-2.result c.copy-3.result c.copy.result c.args.value.now c.bucket-bucket.result (fillings c.args.self.now.segments.items)
    (c.copy-2.ensures.value ∙ key) (c.copy-3.ensures.value ∙ key) (c.copy.ensures.value ∙ c.requires.value) c.requires.value b refl
    c.in-Ok.ensures.entries (c.count_write.ensures.counted c.args.self.now.shape.first_version) c.add_row.ensures.added in
    let left : ◌≡◌ {A = State} (record (state_of c.args.self.now) {
      cache = record { items = c.insert.new.self.entries; version = by_bucket c.count_write.new.versions.items c.args.self.now.shape.first_version; deadline = deadlines c.add_row.new.segments.items };
      filling = fillings c.add_row.new.segments.items;
      width = by_bucket c.chain.new.widths.items 1;
      drawn = c.chain.new.drawn;
    }) (stored c.args.self.now.shape c.args.request.now (Some c.args.segment) (state_of c.args.self.now)) =
    stored_state c.args.self.now.shape c.args.request.now c.args.segment c.args.chains (state_of c.args.self.now) _ _ _ _ _ _ c.bucket-bucket.result
    c.requires.chains b stores c.add_row.ensures.deadlines c.chain.ensures.wider c.chain.ensures.drawn in
    left

pub add_row-requires : goal.add_row-requires
add_row-requires c =
    let same : key_of c.args.request.now ≡ c.copy-3.result = sym (c.copy-3.ensures.value ∙ c.key-key.ensures) in
    subst (λ key. HasRows c.args.self.now.segments.items c.args.segment (span_of key c.args.value.now)) same
    (has_memory c.args.self.now c.args.segment (span_of (key_of c.args.request.now) c.args.value.now) c.requires.current c.requires.left)
