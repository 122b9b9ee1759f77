-- How long what is put can be read, and the deadlines of segments by which it is so.
use Rattle.std.specs.Prelude.{◌≡◌, ◌⊎◌, ℕ, ◌+◌, ◌-◌, ◌/◌, ◌%◌, ◌^◌, ◌≤◌, Bool, true, max, cond, nat_lt}
use Rattle.segclient.specs.declared.segments.Window.{Window}
use Rattle.segclient.specs.PutCalls.{IsInWindow}

-- the number, or the largest moment if that comes first
abbrev pub until_last : ℕ → ℕ → ℕ
until_last until number = cond (nat_lt until (2 ^ 32 - 1)) number (2 ^ 32 - 1)

-- the last multiple of a step that comes in this time
abbrev pub deadline_by : ℕ → ℕ → ℕ → ℕ
deadline_by now time step = until_last (now + time) (now + time - (now + time) % max 1 step)

-- the moment at which this time is over
abbrev pub latest_of : ℕ → ℕ → ℕ
latest_of now time = until_last (now + time) (now + time)

-- the moment at which seven eighths of it are
abbrev pub earliest_of : ℕ → ℕ → ℕ
earliest_of now time = until_last (now + time) (now + time - time / 8)

-- All deadlines that come in this time, and not before seven eighths of it. Where clock and time
-- sum to the largest moment or more, the only deadline is that moment.
abbrev pub life_window : ℕ → ℕ → Window
life_window now time = record { earliest = earliest_of now time; latest = latest_of now time }

-- what a client refills for this time has a multiple of an eighth of it, or of a 64th, which only a
-- client with queues asks for
abbrev pub IsDeadlineFor : Bool → ℕ → ℕ → ℕ → Type 0
IsDeadlineFor queued now time until =
    (until ≡ deadline_by now time (time / 8))
    ⊎ ((queued ≡ true) × (until ≡ deadline_by now time (time / 64)))

-- A put asks for all these deadlines. A client with queues can ask for only those that come
-- no earlier than the one that it opens a segment for.
abbrev pub IsWindowFor : Bool → ℕ → ℕ → ℕ → Window → Type 0
IsWindowFor queued now time until window =
    (window ≡ life_window now time)
    ⊎ ((queued ≡ true) × (window ≡ record (life_window now time) { earliest = until }))

-- These deadlines let an item live for seven eighths of its time at least and for all of it
-- at most, and this one is among them. Where clock and time sum to the largest moment
-- or more, the deadline is that moment, however soon it comes.
pub record IsLife (now time : ℕ) (window : Window) (until : ℕ) : Type 0 where
  pub earliest : earliest_of now time ≤ window.earliest
  pub latest : window.latest ≤ latest_of now time
  pub within : IsInWindow window until
