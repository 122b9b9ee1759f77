-- A trace that is read byte by byte.
use Rattle.std.proofs.Common.{◌≡◌, ◌≢◌, ◌<◌, ◌+◌, ℕ, List, [], ◌∷◌, ◌++◌, length, take, drop, get_or, false, Result, Ok, Err, refl, sym, ap, subst, ◌∙◌, inl, inr, append_assoc, append-nil, arith, length-append}
use Rattle.std.specs.List.{flat_map, AllByRecursion}
use Rattle.std.proofs.lemmas.List.{take_more, take-append-drop}
use Rattle.segclient.specs.Counting.{with_more}
use Rattle.segscript.specs.Script.{ended, Splits}
use Rattle.segscript.proofs.LineLemmas.{IsLine-append, Splits-byte, Splits-end}
use Rattle.segreplay.specs.declared.fault.TraceFault.{TraceFault}
use Rattle.segreplay.specs.declared.fault.TraceFault.TheVariants as fault
use Rattle.segtraces.specs.declared.line.Columns.{Columns}
use Rattle.segtraces.specs.declared.line.Form.{Form}
use Rattle.segtraces.specs.declared.line.Form.TheVariants as form
use Rattle.segtraces.specs.declared.line.Stated.{Stated}
use Rattle.segtraces.specs.declared.line.Stated.TheVariants as states
use Rattle.segtraces.specs.declared.line.TraceCommand.{TraceCommand}
use Rattle.segtraces.specs.declared.line.TraceLineFault.{TraceLineFault}
use Rattle.segtraces.specs.declared.line.TraceLineFault.TheVariants as line_fault
use Rattle.segreplay.specs.declared.player.Assignment.{Assignment}
use Rattle.segreplay.specs.declared.reading.Rules.{Rules}
use Rattle.segreplay.specs.declared.reading.TracePosition.{TracePosition}
use Rattle.segtraces.specs.Lines.{form_after, stated}
use Rattle.segreplay.specs.Replays.{is_read_end}
use Rattle.segreplay.specs.Traces.{EndsBad, EndsEarly, EndsForMemory, EndsTrace, Feeds, HasEnded, HasRead, IsBad, IsShort, line_after, number_after, requests_in, State, TakesCommand, TakesLine, TakesStated, turn_of, turns_from}

state_more : (form last : Form) (lines : List (List ℕ)) (line : List ℕ) (rs : List TraceCommand) (said : Stated)
    → State form lines rs last → stated last line ≡ Ok said
    → State form (lines ++ line ∷ []) (rs ++ requests_in said) (form_after last said)
state_more form last [] line rs said was one =
    (said, [], subst (λ f. stated f line ≡ Ok said) was.1 one, (refl, ap (λ f. form_after f said) was.1), ap (λ l. l ++ requests_in said) was.0 ∙ sym (append-nil (requests_in said)))
state_more form last (l ∷ lines) line rs said was one = (
  was.0,
  was.1 ++ requests_in said,
  was.2,
  state_more (form_after form was.0) last lines line was.1 said was.3 one,
  ap (λ l. l ++ requests_in said) was.4 ∙ append_assoc (requests_in was.0) was.1 (requests_in said),
)

pub turns_more : (rules : Rules) (number : ℕ) (rs more : List TraceCommand) → turns_from rules number (rs ++ more) ≡ turns_from rules number rs ++ turns_from rules (number_after number rs) more
turns_more rules number [] more = refl
turns_more rules number (r ∷ rs) more = ap (λ l. turn_of rules number r ∷ l) (turns_more rules (with_more number 1) rs more)

after_more : (number : ℕ) (rs more : List TraceCommand) → number_after number (rs ++ more) ≡ number_after (number_after number rs) more
after_more number [] more = refl
after_more number (r ∷ rs) more = after_more (with_more number 1) rs more

line_more : (number : ℕ) (lines : List (List ℕ)) (line : List ℕ) → line_after number (lines ++ line ∷ []) ≡ with_more (line_after number lines) 1
line_more number [] line = refl
line_more number (l ∷ lines) line = line_more (with_more number 1) lines line

short_more : (lines : List (List ℕ)) (line : List ℕ) → AllByRecursion IsShort lines → IsShort line → AllByRecursion IsShort (lines ++ line ∷ [])
short_more [] line all one = (one, tt)
short_more (l ∷ lines) line all one = (all.0, short_more lines line all.1 one)

-- the turns after a line
turns_taken : (rules : Rules) (made old new : List Assignment) (rs more : List TraceCommand) (number : ℕ)
    → made ++ old ≡ turns_from rules 0 rs → number ≡ number_after 0 rs → new ≡ old ++ turns_from rules number more
    → made ++ new ≡ turns_from rules 0 (rs ++ more)
turns_taken rules made old new rs more number was at took =
    ap (λ l. made ++ l) took
    ∙ sym (append_assoc made old (turns_from rules number more))
    ∙ ap (λ l. l ++ turns_from rules number more) was
    ∙ ap (λ n. turns_from rules 0 rs ++ turns_from rules n more) at
    ∙ sym (turns_more rules 0 rs more)

module _ (rules : Rules) (seen : List ℕ) (made : List Assignment) (old new : TracePosition) (here : HasRead rules seen made old) where
  taken : (more : List TraceCommand) → new.turns.items ≡ old.turns.items ++ turns_from old.rules old.commands more → made ++ new.turns.items ≡ turns_from rules 0 (here.requests ++ more)
  taken more took =
      turns_taken rules made old.turns.items new.turns.items here.requests more old.commands here.turns here.commands
      (subst (λ (x : Rules). new.turns.items ≡ old.turns.items ++ turns_from x old.commands more) here.same took)

  kept : new.turns.items ≡ old.turns.items → made ++ new.turns.items ≡ turns_from rules 0 here.requests
  kept same = ap (λ l. made ++ l) same ∙ here.turns

  -- what came, with more bytes
  whole : (more : List ℕ) → seen ++ more ≡ flat_map ended here.lines ++ (old.line ++ more)
  whole more = ap (λ s. s ++ more) here.splits.whole ∙ append_assoc (flat_map ended here.lines) old.line more

  for_memory : (Ends : Type 0) (more : List ℕ) → HasEnded Ends more → (r : TraceCommand) → stated old.form old.line ≡ Ok (states.Command r)
      → new.turns.items ≡ old.turns.items → EndsForMemory rules Ends (seen ++ more) (made ++ new.turns.items)
  for_memory Ends more known r said same = record {
    form = old.form;
    lines = here.lines;
    line = old.line;
    after = more;
    requests = here.requests;
    refused = r;
    whole = whole more;
    each = here.splits.each;
    fit = here.fit;
    unbroken = here.splits.partial;
    short = here.short;
    known = known;
    said = said;
    states = here.states;
    made = kept same;
  }

  bad : (Ends : Type 0) (more : List ℕ) → HasEnded Ends more → (n : ℕ) (why : TraceLineFault) → n ≡ old.number → stated old.form old.line ≡ Err why
      → new.turns.items ≡ old.turns.items → EndsBad rules Ends (seen ++ more) (made ++ new.turns.items) n why
  bad Ends more known n why at none same = record {
    form = old.form;
    lines = here.lines;
    bad = old.line;
    after = more;
    requests = here.requests;
    whole = whole more;
    each = here.splits.each;
    fit = here.fit;
    unbroken = here.splits.partial;
    is_bad = inr (here.short, known, none);
    states = here.states;
    made = kept same;
    number = at ∙ here.number;
  }

  -- the lines with the one that has ended now
  stated_now : (said : Stated) → stated old.form old.line ≡ Ok said → new.form ≡ form_after old.form said
      → State rules.form (here.lines ++ old.line ∷ []) (here.requests ++ requests_in said) new.form
  stated_now said one after =
      subst (State rules.form (here.lines ++ old.line ∷ []) (here.requests ++ requests_in said)) (sym after)
      (state_more rules.form old.form here.lines old.line here.requests said here.states one)

  -- the end of a line
  pub line_fed : (end : Result (Unit {0}) TraceFault) → TakesLine old new end → Feeds rules (seen ++ 10 ∷ []) made new end
  line_fed (Ok v) took = record {
    lines = here.lines ++ old.line ∷ [];
    requests = here.requests ++ requests_in took.0;
    same = took.7 ∙ here.same;
    splits = subst (Splits (seen ++ 10 ∷ []) (here.lines ++ old.line ∷ [])) (sym took.5) (Splits-end seen here.lines old.line here.splits);
    fit = short_more here.lines old.line here.fit here.short;
    short = subst IsShort (sym took.5) (omega arith);
    states = stated_now took.0 took.1 took.4;
    turns = taken (requests_in took.0) took.2;
    commands = took.3 ∙ ap (λ n. number_after n (requests_in took.0)) here.commands ∙ sym (after_more 0 here.requests (requests_in took.0));
    number = took.6 ∙ ap (λ n. with_more n 1) here.number ∙ sym (line_more 1 here.lines old.line);
  }
  line_fed (Err (fault.Line n why)) took = bad ⊥ (10 ∷ []) (inl ([], refl)) n why took.0 took.1 took.2
  line_fed (Err fault.OutOfMemory) took = for_memory ⊥ (10 ∷ []) (inl ([], refl)) took.0 took.1 took.2
  line_fed (Err fault.Read) took = absurd took
  line_fed (Err fault.TooLong) took = absurd took

  -- the end of the trace
  pub line_ended : (Ends : Type 0) → Ends → (end : Result (Unit {0}) TraceFault) → TakesLine old new end → EndsTrace rules Ends seen (made ++ new.turns.items) end
  line_ended Ends over (Ok v) took = record {
    form = new.form;
    lines = here.lines;
    last = old.line;
    requests = here.requests ++ requests_in took.0;
    splits = here.splits;
    fit = short_more here.lines old.line here.fit here.short;
    states = stated_now took.0 took.1 took.4;
    made = taken (requests_in took.0) took.2;
  }
  line_ended Ends over (Err (fault.Line n why)) took =
      subst (λ s. EndsBad rules Ends s (made ++ new.turns.items) n why) (append-nil seen) (bad Ends [] (inr (refl, over)) n why took.0 took.1 took.2)
  line_ended Ends over (Err fault.OutOfMemory) took =
      subst (λ s. EndsForMemory rules Ends s (made ++ new.turns.items)) (append-nil seen) (for_memory Ends [] (inr (refl, over)) took.0 took.1 took.2)
  line_ended Ends over (Err fault.Read) took = absurd took
  line_ended Ends over (Err fault.TooLong) took = absurd took

  -- a byte of a line
  pub byte_kept : (byte : ℕ) → byte ≢ 10 → length old.line < 4096 → new.rules ≡ old.rules
      → new.form ≡ old.form → new.line ≡ old.line ++ byte ∷ [] → new.turns.items ≡ old.turns.items
      → new.commands ≡ old.commands → new.number ≡ old.number → HasRead rules (seen ++ byte ∷ []) made new
  byte_kept byte other room equal form line turns commands number = record {
    lines = here.lines;
    requests = here.requests;
    same = equal ∙ here.same;
    splits = subst (Splits (seen ++ byte ∷ []) here.lines) (sym line) (Splits-byte seen here.lines old.line byte here.splits other);
    fit = here.fit;
    short = subst IsShort (sym line) (let long = length-append old.line (byte ∷ []) in omega arith);
    states = subst (State rules.form here.lines here.requests) (sym form) here.states;
    turns = kept turns;
    commands = commands ∙ here.commands;
    number = number ∙ here.number;
  }

  -- a byte too many
  pub byte_over : (byte : ℕ) → byte ≢ 10 → length old.line ≡ 4096 → new.turns.items ≡ old.turns.items → Feeds rules (seen ++ byte ∷ []) made new (Err (fault.Line old.number line_fault.TooLong))
  byte_over byte other full same = record {
    form = old.form;
    lines = here.lines;
    bad = old.line ++ byte ∷ [];
    after = [];
    requests = here.requests;
    whole = whole (byte ∷ []) ∙ ap (λ l. flat_map ended here.lines ++ l) (sym (append-nil (old.line ++ byte ∷ [])));
    each = here.splits.each;
    fit = here.fit;
    unbroken = IsLine-append old.line (byte ∷ []) here.splits.partial (other, tt);
    is_bad = inl ((let long = length-append old.line (byte ∷ []) in omega arith), refl);
    states = here.states;
    made = kept same;
    number = here.number;
  }

next_byte : (seen bytes : List ℕ) (i : ℕ) → i < length bytes → (seen ++ take i bytes) ++ get_or bytes i 0 ∷ [] ≡ seen ++ take (i + 1) bytes
next_byte seen bytes i below = append_assoc seen (take i bytes) (get_or bytes i 0 ∷ []) ∙ ap (λ b. seen ++ b) (sym (take_more bytes i 0 below))

-- the trace ends here, in a line or between two
pub stopped : (rules : Rules) (seen : List ℕ) (made : List Assignment) (r : TracePosition) → HasRead rules seen made r → EndsEarly rules seen (made ++ r.turns.items)
stopped rules seen made r here = record {
  form = r.form;
  lines = here.lines;
  rest = r.line;
  requests = here.requests;
  splits = here.splits;
  fit = here.fit;
  short = here.short;
  states = here.states;
  made = here.turns;
}

-- a line has ended whatever comes later
ended_later : (Ends : Type 0) (after more : List ℕ) → HasEnded ⊥ after → HasEnded Ends (after ++ more)
ended_later Ends after more (inl was) = inl (was.0 ++ more, ap (λ l. l ++ more) was.1)
ended_later Ends after more (inr was) = absurd was.1

bad_later : (Ends : Type 0) (form : Form) (line after more : List ℕ) (why : TraceLineFault) → IsBad form ⊥ line after why → IsBad form Ends line (after ++ more) why
bad_later Ends form line after more why (inl was) = inl was
bad_later Ends form line after more why (inr was) = inr (was.0, ended_later Ends after more was.1, was.2)

module _ (rules : Rules) (Ends : Type 0) (seen more : List ℕ) (turns : List Assignment) where
  whole_later : (lines : List (List ℕ)) (line after : List ℕ) → seen ≡ flat_map ended lines ++ (line ++ after) → seen ++ more ≡ flat_map ended lines ++ (line ++ (after ++ more))
  whole_later lines line after is =
      ap (λ s. s ++ more) is
      ∙ append_assoc (flat_map ended lines) (line ++ after) more
      ∙ ap (λ l. flat_map ended lines ++ l) (append_assoc line after more)

  ends_bad : (n : ℕ) (why : TraceLineFault) → EndsBad rules ⊥ seen turns n why → EndsBad rules Ends (seen ++ more) turns n why
  ends_bad n why was = record {
    form = was.form;
    lines = was.lines;
    bad = was.bad;
    after = was.after ++ more;
    requests = was.requests;
    whole = whole_later was.lines was.bad was.after was.whole;
    each = was.each;
    fit = was.fit;
    unbroken = was.unbroken;
    is_bad = bad_later Ends was.form was.bad was.after more why was.is_bad;
    states = was.states;
    made = was.made;
    number = was.number;
  }

  ends_for_memory : EndsForMemory rules ⊥ seen turns → EndsForMemory rules Ends (seen ++ more) turns
  ends_for_memory was = record {
    form = was.form;
    lines = was.lines;
    line = was.line;
    after = was.after ++ more;
    requests = was.requests;
    refused = was.refused;
    whole = whole_later was.lines was.line was.after was.whole;
    each = was.each;
    fit = was.fit;
    unbroken = was.unbroken;
    short = was.short;
    known = ended_later Ends was.after more was.known;
    said = was.said;
    states = was.states;
    made = was.made;
  }

-- a fault before more bytes
pub fault_later : (rules : Rules) (seen more : List ℕ) (made : List Assignment) (new : TracePosition) (f : TraceFault) → Feeds rules seen made new (Err f) → Feeds rules (seen ++ more) made new (Err f)
fault_later rules seen more made new (fault.Line n why) fed = ends_bad rules ⊥ seen more (made ++ new.turns.items) n why fed
fault_later rules seen more made new fault.OutOfMemory fed = ends_for_memory rules ⊥ seen more (made ++ new.turns.items) fed
fault_later rules seen more made new fault.Read fed = absurd fed
fault_later rules seen more made new fault.TooLong fed = absurd fed

-- a fault of bytes that were fed ends the trace
pub fault_ends : (rules : Rules) (Ends : Type 0) (seen : List ℕ) (made : List Assignment) (new : TracePosition) (f : TraceFault) → Feeds rules seen made new (Err f)
    → EndsTrace rules Ends seen (made ++ new.turns.items) (Err f)
fault_ends rules Ends seen made new (fault.Line n why) fed =
    let turns = made ++ new.turns.items in
    subst (λ s. EndsBad rules Ends s turns n why) (append-nil seen) (ends_bad rules Ends seen [] turns n why fed)
fault_ends rules Ends seen made new fault.OutOfMemory fed =
    let turns = made ++ new.turns.items in
    subst (λ s. EndsForMemory rules Ends s turns) (append-nil seen) (ends_for_memory rules Ends seen [] turns fed)
fault_ends rules Ends seen made new fault.Read fed = absurd fed
fault_ends rules Ends seen made new fault.TooLong fed = absurd fed

-- the next byte of some
pub fed_on : (rules : Rules) (seen : List ℕ) (made : List Assignment) (bytes : List ℕ) (i : ℕ) (new : TracePosition)
    → i < length bytes → HasRead rules ((seen ++ take i bytes) ++ get_or bytes i 0 ∷ []) made new
    → HasRead rules (seen ++ take (i + 1) bytes) made new
fed_on rules seen made bytes i new below fed =
    subst (λ s. HasRead rules s made new) (next_byte seen bytes i below) fed

-- a fault at one of some
pub fault_within : (rules : Rules) (seen : List ℕ) (made : List Assignment) (bytes : List ℕ) (i : ℕ) (new : TracePosition)
    (f : TraceFault) → i < length bytes → Feeds rules ((seen ++ take i bytes) ++ get_or bytes i 0 ∷ []) made new
    (Err f) → Feeds rules (seen ++ bytes) made new (Err f)
fault_within rules seen made bytes i new f below fed =
    subst (λ s. Feeds rules s made new (Err f))
    (append_assoc seen (take (i + 1) bytes) (drop (i + 1) bytes) ∙ ap (λ b. seen ++ b) (take-append-drop (i + 1) bytes))
    (fault_later rules (seen ++ take (i + 1) bytes) (drop (i + 1) bytes) made new f
    (subst (λ s. Feeds rules s made new (Err f)) (next_byte seen bytes i below) fed))

-- neither feeding nor the end of a line is a failure of the reader
pub fed_not_read : (rules : Rules) (seen : List ℕ) (made : List Assignment) (new : TracePosition) (f : TraceFault) → Feeds rules seen made new (Err f) → is_read_end (Err f) ≡ false
fed_not_read rules seen made new (fault.Line n why) fed = refl
fed_not_read rules seen made new fault.OutOfMemory fed = refl
fed_not_read rules seen made new fault.Read fed = absurd fed
fed_not_read rules seen made new fault.TooLong fed = absurd fed

pub taken_not_read : (old new : TracePosition) (end : Result (Unit {0}) TraceFault) → TakesLine old new end → is_read_end end ≡ false
taken_not_read old new (Ok v) took = refl
taken_not_read old new (Err (fault.Line n why)) took = refl
taken_not_read old new (Err fault.OutOfMemory) took = refl
taken_not_read old new (Err fault.Read) took = absurd took
taken_not_read old new (Err fault.TooLong) took = absurd took

-- ---- what a line states

pub nothing_taken : (said : Stated) (old : TracePosition) → said ≡ states.Nothing → TakesStated said old old (Ok tt)
nothing_taken said old is = rw is (sym (append-nil old.turns.items), refl, refl, refl, refl)

pub header_taken : (said : Stated) (columns : Columns) (old : TracePosition) → said ≡ states.Header columns → TakesStated said old (record old { form = form.Named columns }) (Ok tt)
header_taken said columns old is = rw is (sym (append-nil old.turns.items), refl, refl, refl, refl)

pub stated_taken : (said : Stated) (old new : TracePosition) (end : Result (Unit {0}) TraceFault) → stated old.form old.line ≡ Ok said → TakesStated said old new end → TakesCommand old new end
stated_taken said old new (Ok v) is took = (said, is, took.0, took.1, took.2, took.3, took.4)
stated_taken said old new (Err fault.OutOfMemory) is took = (took.0, is ∙ ap Ok took.1, took.2)
stated_taken said old new (Err (fault.Line n why)) is took = absurd took
stated_taken said old new (Err fault.Read) is took = absurd took
stated_taken said old new (Err fault.TooLong) is took = absurd took
