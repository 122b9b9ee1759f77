-- What the program prints of a replay.
use Rattle.std.specs.Prelude.{◌≡◌, ◌*◌, ◌/◌, ◌%◌, ℕ, max, Bool, List, [], ◌∷◌, ◌++◌, codes, decimal, if◌then◌else◌, nat_lt}
use Rattle.std.specs.List.{flat_map}
use Rattle.segword.specs.Words.{Shape}
use Rattle.segtraces.specs.declared.retention.Retention.{Retention}
use Rattle.segtraces.specs.declared.retention.Retention.TheVariants as policy
use Rattle.segreplay.specs.declared.counts.Counts.{Counts}
use Rattle.segreplay.specs.declared.run.ReplayPlan.{ReplayPlan}
use Rattle.segreplay.specs.declared.totals.CacheTotals.{CacheTotals}
use Rattle.segtasks.specs.declared.asked.Format.{Format}
use Rattle.segtasks.specs.declared.asked.Format.TheVariants as format
use Rattle.segtasks.specs.declared.asked.Policies.{Policies}
use Rattle.segtasks.specs.declared.asked.Policies.TheVariants as policies
use Rattle.segtasks.specs.declared.asked.Replay.{Replay}

-- ---- the plan

-- all three policies, or one
abbrev pub policies_of : Policies → List Retention
policies_of policies.All = policy.Default ∷ policy.Nothing ∷ policy.Cutoff 3 ∷ []
policies_of (policies.One p) = p ∷ []

-- six sizes, or one
abbrev pub sizes_of : Bool → ℕ
sizes_of are_compared = if are_compared then 6 else 1

-- the plan of a replay that is asked for
pub record IsPlanOf (asked : Replay) (plan : ReplayPlan) : Type 0 where
  pub form : plan.form ≡ asked.form
  pub value_bytes : plan.value_bytes ≡ asked.value_bytes
  pub warm : plan.warm ≡ asked.warm
  pub shape : plan.shape ≡ asked.shape
  pub sizes : plan.sizes ≡ sizes_of asked.sizes
  pub policies : plan.policies.now ≡ policies_of asked.policies

-- ---- a line for each cache

abbrev pub policy_text : Retention → List ℕ
policy_text policy.Default = codes "default"
policy_text policy.Nothing = codes "nothing"
policy_text (policy.Cutoff least) = codes "cutoff:" ++ decimal least

-- the share of the gets that hit, in hundredths of a hundredth
abbrev pub share : ℕ → ℕ → ℕ
share hits gets = hits * 10000 / max gets 1

-- which share of its time to live a put was given on average, in hundredths of a hundredth
abbrev pub mean : ℕ → ℕ → ℕ
mean given stored = given / max stored 1

abbrev pub point : ℕ → List ℕ
point places = if nat_lt places 10 then codes ".0" else codes "."

-- a share in hundredths behind a name, with two places
abbrev pub rate_part : List ℕ → ℕ → List ℕ
rate_part name rate =
    name ++ decimal (rate / 100) ++ point (rate % 100) ++ decimal (rate % 100)

-- how many rows all segments of all passes have
abbrev pub rows_of : Shape → ℕ
rows_of shape = shape.passes * shape.segments_each * shape.rows

abbrev pub cache_line : CacheTotals → List ℕ
cache_line totals =
    let c : Counts = totals.counts in
    policy_text totals.cache.policy ++ codes " rows=" ++ decimal (rows_of totals.cache.shape)
    ++ codes " bytes=" ++ decimal totals.bytes
    ++ codes " gets=" ++ decimal c.gets ++ codes " hits=" ++ decimal c.hits
    ++ rate_part (codes " rate=") (share c.hits c.gets) ++ codes " sets=" ++ decimal c.sets
    ++ codes " deletes=" ++ decimal c.deletes ++ codes " evicted=" ++ decimal c.evicted
    ++ codes " kept=" ++ decimal c.kept ++ codes " refused=" ++ decimal c.refused
    ++ codes " busy=" ++ decimal c.busy ++ codes " items=" ++ decimal c.items
    ++ codes " lives=" ++ decimal totals.lives
    ++ rate_part (codes " given=") (mean c.given c.stored) ++ codes "\n"

-- ---- as JSON

abbrev pub cache_object : CacheTotals → List ℕ
cache_object totals =
    let c : Counts = totals.counts in
    codes "{\"policy\":\"" ++ policy_text totals.cache.policy
    ++ codes "\",\"rows\":" ++ decimal (rows_of totals.cache.shape)
    ++ codes ",\"bytes\":" ++ decimal totals.bytes
    ++ codes ",\"gets\":" ++ decimal c.gets ++ codes ",\"hits\":" ++ decimal c.hits
    ++ rate_part (codes ",\"rate\":") (share c.hits c.gets)
    ++ codes ",\"sets\":" ++ decimal c.sets ++ codes ",\"deletes\":" ++ decimal c.deletes
    ++ codes ",\"evicted\":" ++ decimal c.evicted ++ codes ",\"kept\":" ++ decimal c.kept
    ++ codes ",\"refused\":" ++ decimal c.refused ++ codes ",\"busy\":" ++ decimal c.busy
    ++ codes ",\"items\":" ++ decimal c.items ++ codes ",\"lives\":" ++ decimal totals.lives
    ++ rate_part (codes ",\"given\":") (mean c.given c.stored) ++ codes "}"

-- such an object behind another one
abbrev pub next_object : CacheTotals → List ℕ
next_object totals = codes "," ++ cache_object totals

-- the object of one cache, or one object with a list of the caches' objects
abbrev pub replay_json : List CacheTotals → List ℕ
replay_json [] = codes "{\"caches\":[]}"
replay_json (only ∷ []) = cache_object only
replay_json (first ∷ rest) =
    codes "{\"caches\":[" ++ cache_object first ++ flat_map next_object rest ++ codes "]}"

-- the totals in a format
abbrev pub replay_text : Format → List CacheTotals → List ℕ
replay_text format.Text totals = flat_map cache_line totals
replay_text format.Json totals = replay_json totals ++ codes "\n"
