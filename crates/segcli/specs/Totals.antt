-- What the program prints of a load.
use Rattle.std.specs.Prelude.{ℕ, ◌+◌, ◌==◌, List, [], ◌∷◌, ◌++◌, codes, decimal, if◌then◌else◌, sum_by}
use Rattle.segtasks.specs.declared.asked.Format.{Format}
use Rattle.segtasks.specs.declared.asked.Format.TheVariants as format
use Rattle.segload.specs.declared.totals.Tallies.{Tallies}
use Rattle.segload.specs.Words.{PassTotals, Totals}

-- the ten tallies of a pass, each with its name
abbrev pub tallies_text : Tallies → List ℕ
tallies_text t =
    codes " hit=" ++ decimal t.hit ++ codes " miss=" ++ decimal t.miss ++ codes " stored="
    ++ decimal t.stored ++ codes " not_stored=" ++ decimal t.not_stored ++ codes " exists="
    ++ decimal t.exists ++ codes " not_found=" ++ decimal t.not_found ++ codes " deleted="
    ++ decimal t.deleted ++ codes " noroom=" ++ decimal t.no_room ++ codes " bucketfull="
    ++ decimal t.bucket_full ++ codes " busy=" ++ decimal t.busy

-- the line of the pass of this number
abbrev pub pass_line : ℕ → PassTotals → List ℕ
pass_line number pass =
    codes "p" ++ decimal number ++ codes " commands=" ++ decimal pass.commands
    ++ tallies_text pass.tallies ++ codes "\n"

-- the texts of these passes, the first of which has this number
abbrev pub texts_from : (ℕ → PassTotals → List ℕ) → ℕ → List PassTotals → List ℕ
texts_from text number [] = []
texts_from text number (pass ∷ passes) = text number pass ++ texts_from text (number + 1) passes

-- the line of all passes
abbrev pub total_line : ℕ → ℕ → List ℕ
total_line commands keys =
    codes "total commands=" ++ decimal commands ++ codes " keys=" ++ decimal keys ++ codes "\n"

abbrev pub totals_text : Totals → List ℕ
totals_text totals =
    texts_from pass_line 0 totals.passes.items
    ++ total_line (sum_by (λ (pass : PassTotals). pass.commands) totals.passes.items) totals.keys

-- ---- as JSON

-- the ten tallies of a pass, each with its name
abbrev pub json_tallies : Tallies → List ℕ
json_tallies t =
    codes ",\"hit\":" ++ decimal t.hit ++ codes ",\"miss\":" ++ decimal t.miss
    ++ codes ",\"stored\":" ++ decimal t.stored
    ++ codes ",\"not_stored\":" ++ decimal t.not_stored
    ++ codes ",\"exists\":" ++ decimal t.exists ++ codes ",\"not_found\":" ++ decimal t.not_found
    ++ codes ",\"deleted\":" ++ decimal t.deleted ++ codes ",\"noroom\":" ++ decimal t.no_room
    ++ codes ",\"bucketfull\":" ++ decimal t.bucket_full ++ codes ",\"busy\":" ++ decimal t.busy

-- what stands before the object of the pass of this number
abbrev pub json_start : ℕ → List ℕ
json_start number = if number == 0 then codes "{\"passes\":[{\"pass\":" else codes ",{\"pass\":"

-- the object of the pass of this number
abbrev pub json_pass : ℕ → PassTotals → List ℕ
json_pass number pass =
    json_start number ++ decimal number ++ codes ",\"commands\":" ++ decimal pass.commands
    ++ json_tallies pass.tallies ++ codes "}"

-- the object of all passes, and the end
abbrev pub json_total : ℕ → ℕ → List ℕ
json_total commands keys =
    codes "],\"total\":{\"commands\":" ++ decimal commands ++ codes ",\"keys\":" ++ decimal keys
    ++ codes "}}\n"

-- one object: `passes` has one for each pass, and `total` is the one for all
abbrev pub json_text : Totals → List ℕ
json_text totals =
    texts_from json_pass 0 totals.passes.items
    ++ json_total (sum_by (λ (pass : PassTotals). pass.commands) totals.passes.items) totals.keys

-- the totals in a format
abbrev pub text_in : Format → Totals → List ℕ
text_in format.Text totals = totals_text totals
text_in format.Json totals = json_text totals
