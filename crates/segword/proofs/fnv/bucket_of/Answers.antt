use Rattle.std.proofs.Common.{◌%◌, sym, ap, ◌∙◌}
use Rattle.segword.proofs.PowerLemmas.{mask-power_of_two}
use Rattle.segword.proofs.fnv.bucket_of.Goals as goal

pub returns-then-is_power_of_two : goal.returns-then-is_power_of_two
returns-then-is_power_of_two c =
    mask-power_of_two c.args.hash c.from-buckets.result (sym c.is_power_of_two.ensures ∙ c.if-is_power_of_two.true)
    ∙ ap (◌%◌ c.args.hash) c.from-buckets.ensures
