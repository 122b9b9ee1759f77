-- What a load did to the table, by its totals.
use Rattle.std.specs.Prelude.{ℕ, ◌==◌, List, [], ◌++◌, Option, Some, None, codes, decimal, if◌then◌else◌, slice_get, sum_by}
use Rattle.segload.specs.Words.{PassTotals, Totals}
use Rattle.segcli.specs.declared.stats.Pace.{Pace}

-- how long the load took, and how many commands were made in a second, if there is a clock
abbrev pub pace_text : Option Pace → List ℕ
pace_text None = codes " commands\n"
pace_text (Some pace) =
    codes " commands in " ++ decimal pace.milliseconds ++ codes " ms, " ++ decimal pace.each_second
    ++ codes " a second\n"

-- ---- the table

-- the overflow buckets that a pass saw drawn at the end, if there is that pass
abbrev pub overflow_seen : Option PassTotals → ℕ
overflow_seen None = 0
overflow_seen (Some of) = of.table.overflow_buckets

abbrev pub overflow_buckets : Totals → ℕ
overflow_buckets totals = overflow_seen (slice_get totals.passes.items 0)

abbrev pub used_rows : Totals → ℕ
used_rows totals = sum_by (λ (of : PassTotals). of.table.used_rows) totals.passes.items

abbrev pub evictions : Totals → ℕ
evictions totals = sum_by (λ (of : PassTotals). of.recycled.evictions) totals.passes.items

abbrev pub refillings : Totals → ℕ
refillings totals = sum_by (λ (of : PassTotals). of.recycled.refillings) totals.passes.items

abbrev pub counted_line : List ℕ → ℕ → List ℕ
counted_line name count = name ++ decimal count ++ codes "\n"

-- Each key that stands is named by one row.
abbrev pub table_text : Totals → List ℕ
table_text totals =
    counted_line (codes "overflow buckets: ") (overflow_buckets totals)
    ++ counted_line (codes "used rows: ") (used_rows totals)
    ++ counted_line (codes "rows that items name: ") totals.keys

abbrev pub recycled_text : Totals → List ℕ
recycled_text totals =
    counted_line (codes "evictions: ") (evictions totals)
    ++ counted_line (codes "refillings: ") (refillings totals)

-- ---- refusals

-- where there were refusals, which options to raise
abbrev pub advice : List ℕ → ℕ → List ℕ → List ℕ
advice name refused options = if refused == 0 then [] else name ++ decimal refused ++ options

abbrev pub full_buckets : Totals → ℕ
full_buckets totals = sum_by (λ (of : PassTotals). of.tallies.bucket_full) totals.passes.items

abbrev pub without_room : Totals → ℕ
without_room totals = sum_by (λ (of : PassTotals). of.tallies.no_room) totals.passes.items

abbrev pub full_advice : Totals → List ℕ
full_advice totals =
    advice (codes "bucketfull: ") (full_buckets totals) (codes ", raise --buckets or --overflow\n")

abbrev pub room_advice : Totals → List ℕ
room_advice totals =
    advice (codes "noroom: ") (without_room totals) (codes ", raise --segments or --rows\n")

-- the lines of a load with these totals, which was made at this pace
abbrev pub stats_text : Totals → Option Pace → List ℕ
stats_text totals pace =
    decimal (sum_by (λ (of : PassTotals). of.commands) totals.passes.items) ++ pace_text pace
    ++ table_text totals ++ recycled_text totals ++ full_advice totals ++ room_advice totals
