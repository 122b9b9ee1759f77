use Rattle.segcore.proofs.Searches.{key_named, key_placed, placed_key}
use Rattle.segcore.proofs.laws.place_of_key.Goals as goal

pub returns : goal.returns
returns c = record { named = key_named; placed = key_placed; there = placed_key }
