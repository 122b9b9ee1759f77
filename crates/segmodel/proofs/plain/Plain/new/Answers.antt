use Rattle.std.proofs.Common.{rules, ◌≡◌, ℕ, zero, suc, List, replicate, get_or, None, refl, ap, ◌∙◌}
use Rattle.segmodel.specs.Segments.{by_bucket, state_from}
use Rattle.segmodel.specs.State.{State, fresh}
use Rattle.segmodel.proofs.Sound.{IsKept-fresh, IsKept-same}
use Rattle.segmodel.proofs.plain.Plain.new.Goals as goal

repeated : (count place number : ℕ) → get_or (replicate count number) place number ≡ number
repeated zero place number = refl
repeated (suc count) zero number = refl
repeated (suc count) (suc place) number = repeated count place number

-- numbers that are all the one at the start are that for each bucket
all_same : (numbers : List ℕ) (count start : ℕ) → numbers ≡ replicate count start → by_bucket numbers start ≡ (λ bucket. start)
all_same numbers count start is = ap (λ xs. by_bucket xs start) is ∙ (λ i bucket. repeated count bucket start i)

pub invariant_of-result : goal.invariant_of-result
invariant_of-result c =
    let shape = c.args.shape.now in
    let versions = all_same c.in-Ok.versions.items shape.buckets shape.first_version (c.in-Ok.ensures.items_if_clones_equal (λ y is. is)) in
    let widths = all_same c.in-Ok-vec.widths.items shape.buckets 1 (c.in-Ok-vec.ensures.items_if_clones_equal (λ y is. is)) in
    let state : ◌≡◌ {A = State} (state_from shape c.new.result.entries c.in-Ok.versions.items c.in-Ok-vec.widths.items 0 c.in_ok-segments.segments.items None) (fresh shape) =
    λ i. record (fresh shape) {
      cache = record { items = c.new.ensures.empty i; version = versions i; deadline = λ segment. (c.in_ok-segments.ensures.empty segment).1 i };
      filling = λ segment. (c.in_ok-segments.ensures.empty segment).0 i;
      width = widths i;
    } in
    record {
      has_buckets = search rules;
      each_version = search rules;
      each_width = search rules;
      each_segment = search rules;
      each_row = search rules;
      kept = IsKept-same state (IsKept-fresh shape);
    }
