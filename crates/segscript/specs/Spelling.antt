-- How a turn of a pass is spelled in a script, and its outcome in the reply: as one line each,
-- its words with a space between each two.
use Rattle.std.specs.Prelude.{◌≡◌, ◌≢◌, ℕ, ◌<◌, ◌≤◌, ◌^◌, List, [], ◌∷◌, ◌++◌, length, codes, decimal, Option, Some, None, if◌then◌else◌}
use Rattle.std.specs.List.{join_with_byte, AllByRecursion}
use Rattle.std.specs.Str.{bytes_eq}
use Rattle.segword.specs.declared.key.TheConstants.{KEY_BYTES}
use Rattle.segword.specs.declared.value.TheConstants.{VALUE_BYTES}
use Rattle.segmodel.specs.declared.request.Request.TheVariants.{Set, Add, Replace, Cas, Delete}
use Rattle.segmodel.specs.declared.answer.Command.TheVariants.{Write, Get, Gets, Evict, Keep, Refill}
use Rattle.segmodel.specs.Words.{Answer, DeleteAnswer, EvictAnswer, GetAnswer, GetsAnswer, KeepAnswer, Outcome}
use Rattle.segmodel.specs.Words.{RefillAnswer, Turn, WriteAnswer}
use Rattle.segmodel.specs.declared.answer.Answer.TheVariants as answer
use Rattle.segmodel.specs.declared.answer.WriteAnswer.TheVariants as write
use Rattle.segmodel.specs.declared.answer.DeleteAnswer.TheVariants as delete
use Rattle.segmodel.specs.declared.answer.GetAnswer.TheVariants as get
use Rattle.segmodel.specs.declared.answer.GetsAnswer.TheVariants as gets
use Rattle.segmodel.specs.declared.answer.EvictAnswer.TheVariants as evict
use Rattle.segmodel.specs.declared.answer.KeepAnswer.TheVariants as keep
use Rattle.segmodel.specs.declared.answer.RefillAnswer.TheVariants as refill
use Rattle.segmodel.specs.declared.answer.Outcome.TheVariants as outcome
use Rattle.segmodel.specs.declared.answer.Turn.TheVariants.{Serve, Hold, Held, Release, Lock, Unlock}
use Rattle.segscript.specs.declared.line.Verb.{Verb}
use Rattle.segscript.specs.declared.line.Verb.TheVariants as verbs
use Rattle.segscript.specs.declared.reason.Part.{Part}
use Rattle.segscript.specs.declared.reason.Part.TheVariants as part

-- ---- words

-- a byte that may stand in a word: a printable character of ASCII, and not the space
abbrev pub IsWordByte : ℕ → Type 0
IsWordByte byte = (33 ≤ byte) × (byte ≤ 126)

-- a number that a script can name; it is spelled in decimal digits
abbrev pub IsNumber : ℕ → Type 0
IsNumber number = number < 2 ^ 32

-- a cutoff that a script can name: a frequency, which has eight bits
abbrev pub IsFrequency : ℕ → Type 0
IsFrequency number = number < 256

-- a key that a script can name; it is spelled by its bytes
abbrev pub IsKeyWord : List ℕ → Type 0
IsKeyWord key = (0 < length key) × (length key ≤ KEY_BYTES) × AllByRecursion IsWordByte key

-- the word of a value: its bytes, or `-` for the empty value
abbrev pub value_word : List ℕ → List ℕ
value_word [] = codes "-"
value_word (byte ∷ bytes) = byte ∷ bytes

-- a value that a script can name: all but the value of the one byte `-`,
-- whose word is that of the empty value
abbrev pub IsValueWord : List ℕ → Type 0
IsValueWord value =
    (length value ≤ VALUE_BYTES) × AllByRecursion IsWordByte value × (value ≢ codes "-")

-- the word of a moment: `@` and its number
abbrev pub moment_word : ℕ → List ℕ
moment_word now = codes "@" ++ decimal now

-- ---- commands

-- the word of a command
abbrev pub verb_word : Verb → List ℕ
verb_word verbs.Refill = codes "refill"
verb_word verbs.Evict = codes "evict"
verb_word verbs.Keep = codes "keep"
verb_word verbs.Set = codes "set"
verb_word verbs.Add = codes "add"
verb_word verbs.Replace = codes "replace"
verb_word verbs.Cas = codes "cas"
verb_word verbs.Delete = codes "delete"
verb_word verbs.Get = codes "get"
verb_word verbs.Gets = codes "gets"
verb_word verbs.Hold = codes "hold"
verb_word verbs.Held = codes "held"
verb_word verbs.Release = codes "release"
verb_word verbs.Lock = codes "lock"
verb_word verbs.Unlock = codes "unlock"

-- the commands, and the one that a word names
abbrev pub commands : List Verb
commands =
    verbs.Refill ∷ verbs.Evict ∷ verbs.Keep ∷ verbs.Set ∷ verbs.Add ∷ verbs.Replace ∷ verbs.Cas
    ∷ verbs.Delete ∷ verbs.Get ∷ verbs.Gets ∷ verbs.Hold ∷ verbs.Held ∷ verbs.Release
    ∷ verbs.Lock ∷ verbs.Unlock ∷ []

abbrev pub named_among : List Verb → List ℕ → Option Verb
named_among [] word = None
named_among (v ∷ vs) word = if bytes_eq word (verb_word v) then Some v else named_among vs word

-- Every command has a word.
abbrev pub IsVerb : Verb → Type 0
IsVerb v = Unit {0}

-- what a command has behind its word
abbrev pub argument_parts : Verb → List Part
argument_parts verbs.Refill = part.Segment ∷ part.Deadline ∷ []
argument_parts verbs.Evict = part.Segment ∷ []
argument_parts verbs.Keep = part.Segment ∷ part.Cutoff ∷ []
argument_parts verbs.Set = part.Key ∷ part.Value ∷ part.Moment ∷ []
argument_parts verbs.Add = part.Key ∷ part.Value ∷ part.Moment ∷ []
argument_parts verbs.Replace = part.Key ∷ part.Value ∷ part.Moment ∷ []
argument_parts verbs.Cas = part.Key ∷ part.Value ∷ part.Version ∷ part.Moment ∷ []
argument_parts verbs.Delete = part.Key ∷ part.Moment ∷ []
argument_parts verbs.Get = part.Key ∷ part.Moment ∷ []
argument_parts verbs.Gets = part.Key ∷ part.Moment ∷ []
argument_parts verbs.Hold = part.Key ∷ part.Moment ∷ []
argument_parts verbs.Held = []
argument_parts verbs.Release = []
argument_parts verbs.Lock = part.Key ∷ []
argument_parts verbs.Unlock = []

abbrev pub parts_behind : Option Verb → List Part
parts_behind (Some v) = argument_parts v
parts_behind None = []

-- ---- turns

-- the command of a turn
abbrev pub verb : Turn → Verb
verb (Serve (Refill segment deadline)) = verbs.Refill
verb (Serve (Evict segment)) = verbs.Evict
verb (Serve (Keep segment cutoff)) = verbs.Keep
verb (Serve (Write (Set key value now))) = verbs.Set
verb (Serve (Write (Add key value now))) = verbs.Add
verb (Serve (Write (Replace key value now))) = verbs.Replace
verb (Serve (Write (Cas key value expected now))) = verbs.Cas
verb (Serve (Write (Delete key now))) = verbs.Delete
verb (Serve (Get key now)) = verbs.Get
verb (Serve (Gets key now)) = verbs.Gets
verb (Hold key now) = verbs.Hold
verb Held = verbs.Held
verb Release = verbs.Release
verb (Lock key) = verbs.Lock
verb Unlock = verbs.Unlock

-- the words that a turn has behind its command word
abbrev pub arguments_of : Turn → List (List ℕ)
arguments_of (Serve (Refill segment deadline)) = decimal segment ∷ decimal deadline ∷ []
arguments_of (Serve (Evict segment)) = decimal segment ∷ []
arguments_of (Serve (Keep segment cutoff)) = decimal segment ∷ decimal cutoff ∷ []
arguments_of (Serve (Write (Set key value now))) =
    key ∷ value_word value ∷ moment_word now ∷ []
arguments_of (Serve (Write (Add key value now))) =
    key ∷ value_word value ∷ moment_word now ∷ []
arguments_of (Serve (Write (Replace key value now))) =
    key ∷ value_word value ∷ moment_word now ∷ []
arguments_of (Serve (Write (Cas key value expected now))) =
    key ∷ value_word value ∷ decimal expected ∷ moment_word now ∷ []
arguments_of (Serve (Write (Delete key now))) = key ∷ moment_word now ∷ []
arguments_of (Serve (Get key now)) = key ∷ moment_word now ∷ []
arguments_of (Serve (Gets key now)) = key ∷ moment_word now ∷ []
arguments_of (Hold key now) = key ∷ moment_word now ∷ []
arguments_of Held = []
arguments_of Release = []
arguments_of (Lock key) = key ∷ []
arguments_of Unlock = []

-- the words of a turn, the command word first
abbrev pub turn_words : Turn → List (List ℕ)
turn_words turn = verb_word (verb turn) ∷ arguments_of turn

-- The keys, values, numbers and moments of the turn are those that a script can name.
abbrev pub IsWritable : Turn → Type 0
IsWritable (Serve (Refill segment deadline)) = IsNumber segment × IsNumber deadline
IsWritable (Serve (Evict segment)) = IsNumber segment
IsWritable (Serve (Keep segment cutoff)) = IsNumber segment × IsFrequency cutoff
IsWritable (Serve (Write (Set key value now))) = IsKeyWord key × IsValueWord value × IsNumber now
IsWritable (Serve (Write (Add key value now))) = IsKeyWord key × IsValueWord value × IsNumber now
IsWritable (Serve (Write (Replace key value now))) =
    IsKeyWord key × IsValueWord value × IsNumber now
IsWritable (Serve (Write (Cas key value expected now))) =
    IsKeyWord key × IsValueWord value × IsNumber expected × IsNumber now
IsWritable (Serve (Write (Delete key now))) = IsKeyWord key × IsNumber now
IsWritable (Serve (Get key now)) = IsKeyWord key × IsNumber now
IsWritable (Serve (Gets key now)) = IsKeyWord key × IsNumber now
IsWritable (Hold key now) = IsKeyWord key × IsNumber now
IsWritable Held = Unit {0}
IsWritable Release = Unit {0}
IsWritable (Lock key) = IsKeyWord key
IsWritable Unlock = Unit {0}

-- a turn of this command that can be written
abbrev pub IsTurnOf : Verb → Turn → Type 0
IsTurnOf v turn = IsWritable turn × (verb turn ≡ v)

-- ---- words behind a command that are read together

-- two numbers, and their words
abbrev pub AreNumbers : ℕ × ℕ → Type 0
AreNumbers p = IsNumber p.0 × IsNumber p.1

abbrev pub number_words : ℕ × ℕ → List (List ℕ)
number_words p = decimal p.0 ∷ decimal p.1 ∷ []

-- a segment and a cutoff
abbrev pub IsCutoff : ℕ × ℕ → Type 0
IsCutoff p = IsNumber p.0 × IsFrequency p.1

-- a key and a moment, and their words
abbrev pub IsPair : List ℕ × ℕ → Type 0
IsPair p = IsKeyWord p.0 × IsNumber p.1

abbrev pub pair_words : List ℕ × ℕ → List (List ℕ)
pair_words p = p.0 ∷ moment_word p.1 ∷ []

-- a key, a value and a moment, and their words
abbrev pub IsTriple : List ℕ × List ℕ × ℕ → Type 0
IsTriple p = IsKeyWord p.0 × IsValueWord p.1 × IsNumber p.2

abbrev pub triple_words : List ℕ × List ℕ × ℕ → List (List ℕ)
triple_words p = p.0 ∷ value_word p.1 ∷ moment_word p.2 ∷ []

-- a key, a value, a number and a moment, and their words
abbrev pub AreFour : List ℕ × List ℕ × ℕ × ℕ → Type 0
AreFour p = IsKeyWord p.0 × IsValueWord p.1 × IsNumber p.2 × IsNumber p.3

abbrev pub four_words : List ℕ × List ℕ × ℕ × ℕ → List (List ℕ)
four_words p = p.0 ∷ value_word p.1 ∷ decimal p.2 ∷ moment_word p.3 ∷ []

-- ---- lines

-- the number of a pass that is there
abbrev pub IsPass : ℕ → ℕ → Type 0
IsPass passes pass = (pass < passes) × IsNumber pass

-- the word of a pass: `p` and its number
abbrev pub pass_word : ℕ → List ℕ
pass_word pass = codes "p" ++ decimal pass

-- a turn, after the number of the pass whose turn it is
abbrev pub PassTurn : Type 0
PassTurn = ℕ × Turn

-- the line of a turn of a pass, without its end
abbrev pub spelling : PassTurn → List ℕ
spelling said = join_with_byte 32 (pass_word said.0 ∷ turn_words said.1)

-- A script for this many passes can name the pass and the turn.
abbrev pub IsSayable : ℕ → PassTurn → Type 0
IsSayable passes said = (said.0 < passes) × IsNumber said.0 × IsWritable said.1

-- the words of a line
abbrev pub line_words : PassTurn → List (List ℕ)
line_words said = pass_word said.0 ∷ verb_word (verb said.1) ∷ arguments_of said.1

-- the parts that a line with these words is to have
abbrev pub line_parts : List (List ℕ) → List Part
line_parts (pass ∷ word ∷ words) =
    part.Pass ∷ part.Command ∷ parts_behind (named_among commands word)
line_parts words = part.Pass ∷ part.Command ∷ []

-- ---- replies to commands

-- the line of the answer to a set, an add, a replace or a cas
abbrev pub write_reply : WriteAnswer → List ℕ
write_reply write.Stored = codes "STORED\n"
write_reply write.NotStored = codes "NOT_STORED\n"
write_reply write.Exists = codes "EXISTS\n"
write_reply write.NotFound = codes "NOT_FOUND\n"
write_reply write.NoRoom = codes "NOROOM\n"
write_reply write.BucketFull = codes "BUCKETFULL\n"
write_reply write.Busy = codes "BUSY\n"

-- the line of the answer to a delete
abbrev pub delete_reply : DeleteAnswer → List ℕ
delete_reply delete.Deleted = codes "DELETED\n"
delete_reply delete.NotFound = codes "NOT_FOUND\n"
delete_reply delete.Busy = codes "BUSY\n"

-- the line of a value
abbrev pub value_reply : List ℕ → List ℕ
value_reply value = codes "VALUE " ++ value_word value ++ codes "\n"

-- the line of the answer to a get
abbrev pub get_reply : GetAnswer → List ℕ
get_reply (get.Found value) = value_reply value
get_reply get.Miss = codes "MISS\n"
get_reply get.Busy = codes "BUSY\n"

-- the line of the answer to a gets: the value, and the version in decimal digits
abbrev pub gets_reply : GetsAnswer → List ℕ
gets_reply (gets.Found value version) =
    codes "VALUE " ++ value_word value ++ codes " " ++ decimal version ++ codes "\n"
gets_reply gets.Miss = codes "MISS\n"
gets_reply gets.Busy = codes "BUSY\n"

-- the line of the answer to an evict, with the number of keys taken out
abbrev pub evict_reply : EvictAnswer → List ℕ
evict_reply (evict.Evicted count) = codes "EVICTED " ++ decimal count ++ codes "\n"
evict_reply evict.NotYours = codes "NOT_YOURS\n"
evict_reply (evict.Busy count) = codes "BUSY " ++ decimal count ++ codes "\n"

-- the line of the answer to a keep, with the number of items moved
abbrev pub keep_reply : KeepAnswer → List ℕ
keep_reply (keep.Kept count) = codes "KEPT " ++ decimal count ++ codes "\n"
keep_reply keep.NotYours = codes "NOT_YOURS\n"
keep_reply (keep.NoRoom count) = codes "NOROOM " ++ decimal count ++ codes "\n"
keep_reply (keep.Busy count) = codes "BUSY " ++ decimal count ++ codes "\n"

-- the line of the answer to a refill
abbrev pub refill_reply : RefillAnswer → List ℕ
refill_reply refill.Refilled = codes "REFILLED\n"
refill_reply refill.NotYours = codes "NOT_YOURS\n"
refill_reply refill.NotEvicted = codes "NOT_EVICTED\n"
refill_reply refill.Held = codes "HELD\n"

-- the line of an answer
abbrev pub answer_reply : Answer → List ℕ
answer_reply (answer.Write given) = write_reply given
answer_reply (answer.Delete given) = delete_reply given
answer_reply (answer.Get given) = get_reply given
answer_reply (answer.Gets given) = gets_reply given
answer_reply (answer.Evict given) = evict_reply given
answer_reply (answer.Keep given) = keep_reply given
answer_reply (answer.Refill given) = refill_reply given

-- ---- replies to turns

-- the line of an outcome, with its end
abbrev pub reply : Outcome → List ℕ
reply (outcome.Answered given) = answer_reply given
reply outcome.Holding = codes "HOLDING\n"
reply outcome.Miss = codes "MISS\n"
reply outcome.Busy = codes "BUSY\n"
reply outcome.AlreadyHolding = codes "ALREADY_HOLDING\n"
reply (outcome.Value value) = value_reply value
reply outcome.NotHolding = codes "NOT_HOLDING\n"
reply outcome.Released = codes "RELEASED\n"
reply outcome.Locked = codes "LOCKED\n"
reply outcome.AlreadyLocked = codes "ALREADY_LOCKED\n"
reply outcome.Unlocked = codes "UNLOCKED\n"
reply outcome.NotLocked = codes "NOT_LOCKED\n"
