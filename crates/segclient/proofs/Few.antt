-- Bounds on how many calls a put makes, and steps of its turns; and room that is made alone.
use Rattle.std.proofs.Common.{ℕ, ◌+◌, ◌*◌, ◌<◌, ◌≤◌, arith}
use Rattle.segword.specs.Words.{Shape}
use Rattle.segclient.specs.Clearing.{most_steps_of_put, most_steps_of_turn}
use Rattle.segclient.specs.PutParts.{most_for_put, most_for_room}
use Rattle.segclient.specs.Putting.{most_calls}

pub put_few : (shape : Shape) → most_for_put shape ≤ most_calls shape
put_few shape = omega arith

pub room_few : (shape : Shape) → most_for_room shape ≤ most_calls shape
room_few shape = omega arith

-- one turn more
pub turn_next : (tried : ℕ) → most_steps_of_turn * tried + most_steps_of_turn ≤ most_steps_of_turn * (tried + 1)
turn_next tried = omega arith

pub turn_few : (tried : ℕ) → tried < 8 → most_steps_of_turn * tried + most_steps_of_turn ≤ most_steps_of_put
turn_few tried below = omega (arith, below)

pub turns_few : (tried : ℕ) → tried ≤ 8 → most_steps_of_turn * tried ≤ most_steps_of_put
turns_few tried most = omega (arith, most)
