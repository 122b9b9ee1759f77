-- How many steps a coming into a segment takes, by how many words a key and a value have.
use Rattle.std.specs.Prelude.{ℕ, ◌+◌}
use Rattle.segword.specs.Words.{head_width, value_width}

-- the coming, a second look at the word, the loads of the row's key, and the leaving
abbrev pub try_steps : ℕ
try_steps = 3 + head_width

-- what a gets takes more: another look at the word where it goes on, the loads of the value,
-- a look at the bit, and a third look at the word
abbrev pub look_steps : ℕ
look_steps = try_steps + (3 + value_width)
