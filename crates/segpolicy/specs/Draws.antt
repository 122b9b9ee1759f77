-- What a workload draws from, and its next command.
use Rattle.std.specs.Prelude.{ℕ}
use Rattle.rand_pcg.specs.Lcg.{Lcg, started, increment_of}
use Rattle.rand_pcg.specs.Pcg.{multiplier_64, pcg32}
use Rattle.segpolicy.specs.declared.load.Load.{Load}
use Rattle.segpolicy.specs.Load.{load_of}

-- what a contract sees of a workload: its generator of 32-bit words, and how many keys there are
pub record Draws : Type 0 where
  pub generator : Lcg
  pub keys : ℕ

-- a new workload: the generator is PCG XSH RR 64/32, with the seed as its state and the pass as its
-- stream
abbrev pub draws_of : ℕ → ℕ → ℕ → Draws
draws_of seed pass keys = record {
  generator = started 64 multiplier_64 seed (increment_of 64 pass);
  keys = keys;
}

-- the word that a generator gives next
abbrev pub next_word_of : Lcg → ℕ
next_word_of generator = (pcg32 generator).0

-- the generator after that word
abbrev pub after_word : Lcg → Lcg
after_word generator = (pcg32 generator).1

-- the next command is made of the next three words
abbrev pub next_load : Draws → Load
next_load draws =
    let second = after_word draws.generator in
    let third = after_word second in
    load_of draws.keys (next_word_of draws.generator) (next_word_of second) (next_word_of third)

-- the workload after a command is three words on
abbrev pub after_load : Draws → Draws
after_load draws = record draws {
  generator = after_word (after_word (after_word draws.generator));
}
