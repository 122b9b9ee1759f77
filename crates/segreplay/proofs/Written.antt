-- Traces that were written, and what is read of them.
use Rattle.std.proofs.Common.{◌≡◌, ◌≢◌, ◌<◌, ◌≤◌, ◌-◌, ◌^◌, ◌∙◌, ◌==◌, ℕ, zero, suc, true, false, not, if◌then◌else◌, List, [], ◌∷◌, ◌++◌, length, drop, take, get_or, slice_index, slice_index_or, Option, Some, None, Result, Ok, Err, refl, sym, ap, subst, arith, append_assoc, append-nil, decimal, le-ltb, ne_eqb, eq-eqb, flat_map, option_map, true≢false}
use Rattle.std.specs.List.{AllByRecursion, list_all}
use Rattle.std.specs.Int.{to_be_bytes, w64}
use Rattle.std.proofs.lemmas.Bool.{and_parts}
use Rattle.segword.specs.declared.key.TheConstants.{KEY_BYTES}
use Rattle.segword.specs.Fnv.{hash_of}
use Rattle.segscript.specs.Script.{ended, IsLine}
use Rattle.segreplay.specs.declared.fault.TraceFault.TheVariants as fault
use Rattle.segtraces.specs.declared.line.Columns.{Columns}
use Rattle.segtraces.specs.declared.line.Form.{Form}
use Rattle.segtraces.specs.declared.line.Form.TheVariants as form
use Rattle.segtraces.specs.declared.line.Operation.{Operation}
use Rattle.segtraces.specs.declared.line.Operation.TheVariants as verb
use Rattle.segtraces.specs.declared.line.Stated.{Stated}
use Rattle.segtraces.specs.declared.line.Stated.TheVariants as states
use Rattle.segtraces.specs.declared.line.TraceCommand.{TraceCommand}
use Rattle.segtraces.specs.declared.line.TraceLineFault.{TraceLineFault}
use Rattle.segtraces.specs.declared.line.TraceLineFault.TheVariants as line_fault
use Rattle.segreplay.specs.declared.player.Assignment.{Assignment}
use Rattle.segreplay.specs.declared.reading.Rules.{Rules}
use Rattle.segreplay.specs.Laws.{BytesSayTheTurns, FaultedIsABeginning, header, header_columns, HeadedIsRead, IsAt, IsSizeAt, WriteLines, WritesFields, WritesLine, WrittenIsRead, word_of}
use Rattle.segtraces.specs.Lines.{columns_of, faulted as faulted_in, field_at, fields_of, fields_stated, form_after, header_in, life_at, moment_at, request_at, request_of, separator, size_at, stated, stated_or, verb_at}
use Rattle.segreplay.specs.Traces.{EndsEarly, EndsTrace, EndsWhole, number_after, requests_in, State, turns_from}
use Rattle.segtraces.specs.Words.{key_named, lasting, moment_named, number_named, verb_named}
use Rattle.segreplay.proofs.Feeding.{turns_more}
use Rattle.segreplay.proofs.Fields.{life_decimal, moment_decimal, number_decimal, plain_field, trimmed_plain}

-- ---- a line

verb_word : (v : Operation) → verb_named (word_of v) ≡ Some v
verb_word verb.Get = refl
verb_word verb.Set = refl
verb_word verb.Delete = refl

key_text : (text : List ℕ) → 0 < length text → length text ≤ KEY_BYTES → key_named text ≡ Some text
key_text [] some short = absurd (omega arith)
key_text (byte ∷ text) some short = ap (λ b. if b then Some (to_be_bytes w64 (hash_of (byte ∷ text))) else Some (byte ∷ text)) (le-ltb KEY_BYTES (length (byte ∷ text)) short)

module _ (columns : Columns) (fields : List (List ℕ)) (r : TraceCommand) (writes : WritesFields columns fields r) where
  field_is : (place : ℕ) (text : List ℕ) → slice_index_or fields place [] ≡ text → field_at place fields ≡ text
  field_is place text is = trimmed_plain (slice_index_or fields place []) (plain_field fields place writes.plain) ∙ is

  moment_is : (at : Option ℕ) (moment : ℕ) → moment < 2 ^ 32 → IsAt at fields (decimal moment) (moment ≡ 0) → moment_at at fields ≡ Some moment
  moment_is None moment small is = ap Some (sym is)
  moment_is (Some place) moment small is = ap moment_named (field_is place (decimal moment) is) ∙ moment_decimal moment small

  verb_is : (at : Option ℕ) (v : Operation) → IsAt at fields (word_of v) (v ≡ verb.Get) → verb_at at fields ≡ Some v
  verb_is None v is = ap Some (sym is)
  verb_is (Some place) v is = ap verb_named (field_is place (word_of v) is) ∙ verb_word v

  life_is : (at : Option ℕ) (time : ℕ) → 0 < time → time < 2 ^ 32 → IsAt at fields (decimal time) (time ≡ 2 ^ 32 - 1) → life_at at fields ≡ Some time
  life_is None time some small is = ap Some (sym is)
  life_is (Some place) time some small is = ap (λ t. lasting (number_named t)) (field_is place (decimal time) is) ∙ life_decimal time small some

  size_is : (at : Option ℕ) (size : Option ℕ) → IsSizeAt at fields size → size_at at fields ≡ Some size
  size_is None size is = ap Some (sym is)
  size_is (Some place) size is =
      ap (λ t. option_map Some (number_named t)) (field_is place (decimal is.0) is.3)
      ∙ ap (option_map Some) (number_decimal is.0 is.1)
      ∙ ap Some (sym is.2)

  key_is : key_named (field_at columns.key fields) ≡ Some r.key
  key_is = ap key_named (field_is columns.key r.key writes.key) ∙ key_text r.key writes.some writes.short

  abbrev of_parts : Option ℕ → Option (List ℕ) → Option Operation → Option ℕ → Option (Option ℕ) → Result TraceCommand TraceLineFault
  of_parts moment key v time size = faulted_in columns (request_of moment key v time size)

  request_is : request_at columns fields ≡ Ok r
  request_is =
      let moment = moment_at columns.time fields in
      let key = key_named (field_at columns.key fields) in
      let v = verb_at columns.verb fields in
      let time = life_at columns.life fields in
      let size = size_at columns.size fields in
      ap (λ b. if b then of_parts moment key v time size else Err (line_fault.Count (length fields) columns.fields)) (eq-eqb (length fields) columns.fields writes.count)
      ∙ ap (λ m. of_parts m key v time size) (moment_is columns.time r.moment writes.shows writes.moment)
      ∙ ap (λ k. of_parts (Some r.moment) k v time size) key_is
      ∙ ap (λ o. of_parts (Some r.moment) (Some r.key) o time size) (verb_is columns.verb r.verb writes.verb)
      ∙ ap (λ l. of_parts (Some r.moment) (Some r.key) (Some r.verb) l size) (life_is columns.life r.time_to_live writes.lasts writes.ends writes.life)
      ∙ ap (of_parts (Some r.moment) (Some r.key) (Some r.verb) (Some r.time_to_live)) (size_is columns.size r.value_bytes writes.size)

abbrev one_empty : List (List ℕ)
one_empty = [] ∷ []

nothing_in : (place : ℕ) → slice_index_or one_empty place [] ≡ []
nothing_in zero = refl
nothing_in (suc zero) = refl
nothing_in (suc (suc place)) = refl

has_bytes : (f : Form) (line : List ℕ) (r : TraceCommand) → WritesFields (columns_of f (length (fields_of (separator f) line))) (fields_of (separator f) line) r → (length line == 0) ≡ false
has_bytes f [] r writes = absurd (omega (arith, writes.some, ap length (sym (nothing_in (columns_of f 1).key) ∙ writes.key)))
has_bytes f (byte ∷ line) r writes = ne_eqb (length (byte ∷ line)) 0 (λ e. omega (arith, e))

-- what a line states that has no carriage return
abbrev in_form : Form → List ℕ → Result Stated TraceLineFault
in_form f line = if length line == 0 then Ok states.Nothing else fields_stated f (fields_of (separator f) line)

line_is : (f : Form) (line : List ℕ) (r : TraceCommand) → WritesLine f line r → stated f line ≡ Ok (states.Command r)
line_is f line r writes =
    let fields = fields_of (separator f) line in
    ap (λ b. in_form f (if b then take (length line - 1) line else line)) (ne_eqb (slice_index line (length line - 1)) 13 writes.1)
    ∙ ap (λ b. if b then Ok states.Nothing else fields_stated f fields) (has_bytes f line r writes.2)
    ∙ ap (λ q. stated_or q (header_in f fields)) (request_is (columns_of f (length fields)) fields r writes.2)

-- ---- lines

-- and an empty one behind them
states_written : (f : Form) (lines : List (List ℕ)) (rs : List TraceCommand) → WriteLines f lines rs → State f (lines ++ [] ∷ []) rs f
states_written f [] [] writes = (states.Nothing, [], refl, (refl, refl), refl)
states_written f [] (r ∷ rs) writes = absurd writes
states_written f (line ∷ lines) [] writes = absurd writes
states_written f (line ∷ lines) (r ∷ rs) writes = (states.Command r, rs, line_is f line r writes.0, states_written f lines rs writes.1, refl)

are_lines : (f : Form) (lines : List (List ℕ)) (rs : List TraceCommand) → WriteLines f lines rs → AllByRecursion IsLine lines
are_lines f [] rs writes = tt
are_lines f (line ∷ lines) [] writes = absurd writes
are_lines f (line ∷ lines) (r ∷ rs) writes = (writes.0.0, are_lines f lines rs writes.1)

abbrev said_or : Stated → Result Stated TraceLineFault → Stated
said_or other (Ok said) = said
said_or other (Err why) = other

same_said : {a b : Stated} → ◌≡◌ {A = Result Stated TraceLineFault} (Ok a) (Ok b) → a ≡ b
same_said {a} e = ap (said_or a) e

-- the first lines state the first commands
states_first : (f : Form) (xs ys : List (List ℕ)) (rs all : List TraceCommand) (fa fb : Form) → State f xs rs fa → State f (xs ++ ys) all fb → (rest : List TraceCommand) × (all ≡ rs ++ rest)
states_first f [] ys rs all fa fb a b = (all, ap (λ l. l ++ all) (sym a.0))
states_first f (x ∷ xs) ys rs all fa fb a b =
    let same : b.0 ≡ a.0 = same_said (sym b.2 ∙ a.2) in
    let more = states_first (form_after f a.0) xs ys a.1 b.1 fa fb a.3 (subst (λ s. State (form_after f s) (xs ++ ys) b.1 fb) same b.3) in
    (more.0, b.4 ∙ ap (λ s. requests_in s ++ b.1) same ∙ ap (λ l. requests_in a.0 ++ l) more.1 ∙ sym (append_assoc (requests_in a.0) a.1 more.0) ∙ ap (λ l. l ++ more.0) (sym a.4))

same_states : (f : Form) (lines : List (List ℕ)) (rs bs : List TraceCommand) (fa fb : Form) → State f lines rs fa → State f lines bs fb → rs ≡ bs
same_states f [] rs bs fa fb a b = a.0 ∙ sym b.0
same_states f (line ∷ lines) rs bs fa fb a b =
    let same : a.0 ≡ b.0 = same_said (sym a.2 ∙ b.2) in
    a.4 ∙ ap (λ s. requests_in s ++ a.1) same
    ∙ ap (λ l. requests_in b.0 ++ l) (same_states (form_after f b.0) lines a.1 b.1 fa fb (subst (λ s. State (form_after f s) lines a.1 fa) same a.3) b.3)
    ∙ sym b.4

-- ---- where lines end

no_end_in : (x a : List ℕ) → IsLine (x ++ 10 ∷ a) → ⊥
no_end_in [] a is = is.0 refl
no_end_in (byte ∷ x) a is = no_end_in x a is.1

cut_same : (x y a b : List ℕ) → IsLine x → IsLine y → x ++ 10 ∷ a ≡ y ++ 10 ∷ b → (x ≡ y) × (a ≡ b)
cut_same [] [] a b ix iy e = (refl, ap (drop 1) e)
cut_same [] (c ∷ y) a b ix iy e = absurd (iy.0 (sym (ap (λ l. get_or l 0 0) e)))
cut_same (c ∷ x) [] a b ix iy e = absurd (ix.0 (ap (λ l. get_or l 0 0) e))
cut_same (c ∷ x) (d ∷ y) a b ix iy e =
    let more = cut_same x y a b ix.1 iy.1 (ap (drop 1) e) in
    (ap (λ z. z ∷ x) (ap (λ l. get_or l 0 0) e) ∙ ap (λ l. d ∷ l) more.0, more.1)

one_line : (x : List ℕ) (xs : List (List ℕ)) (a : List ℕ) → flat_map ended (x ∷ xs) ++ a ≡ x ++ 10 ∷ (flat_map ended xs ++ a)
one_line x xs a = append_assoc (ended x) (flat_map ended xs) a ∙ append_assoc x (10 ∷ []) (flat_map ended xs ++ a)

-- the first lines of a text are the first of all its lines
lines_first : (xs : List (List ℕ)) (a : List ℕ) (ys : List (List ℕ)) (last : List ℕ) → AllByRecursion IsLine xs → AllByRecursion IsLine ys → IsLine last
    → flat_map ended xs ++ a ≡ flat_map ended ys ++ last → (zs : List (List ℕ)) × (ys ≡ xs ++ zs) × (a ≡ flat_map ended zs ++ last)
lines_first [] a ys last each all is e = (ys, refl, e)
lines_first (x ∷ xs) a [] last each all is e = absurd (no_end_in x (flat_map ended xs ++ a) (subst IsLine (sym e ∙ one_line x xs a) is))
lines_first (x ∷ xs) a (y ∷ ys) last each all is e =
    let cut = cut_same x y (flat_map ended xs ++ a) (flat_map ended ys ++ last) each.0 all.0 (sym (one_line x xs a) ∙ e ∙ one_line y ys last) in
    let more = lines_first xs a ys last each.1 all.1 is cut.1 in
    (more.0, ap (λ l. y ∷ l) more.1 ∙ ap (λ l. l ∷ xs ++ more.0) (sym cut.0), more.2)

no_lines : (zs : List (List ℕ)) (last line : List ℕ) → IsLine line → line ≡ flat_map ended zs ++ last → (zs ≡ []) × (last ≡ line)
no_lines [] last line is e = (refl, sym e)
no_lines (z ∷ zs) last line is e = absurd (no_end_in z (flat_map ended zs ++ last) (subst IsLine (e ∙ one_line z zs last) is))

-- all lines of a text, with what is behind them
same_lines : (xs : List (List ℕ)) (a : List ℕ) (ys : List (List ℕ)) (last : List ℕ) → AllByRecursion IsLine xs → AllByRecursion IsLine ys → IsLine a → IsLine last
    → flat_map ended xs ++ a ≡ flat_map ended ys ++ last → ys ++ last ∷ [] ≡ xs ++ a ∷ []
same_lines xs a ys last each all begun is e =
    let more = lines_first xs a ys last each all is e in
    let none = no_lines more.0 last a begun more.2 in
    ap (λ l. l ++ last ∷ []) (more.1 ∙ ap (λ l. xs ++ l) none.0 ∙ append-nil xs) ∙ ap (λ l. xs ++ l ∷ []) none.1

-- ---- traces

module _ (rules : Rules) (lines : List (List ℕ)) (rs : List TraceCommand) (turns : List Assignment) (last : Form) where
  as_stated : AllByRecursion IsLine lines → State rules.form (lines ++ [] ∷ []) rs last → EndsTrace rules (Unit {0}) (flat_map ended lines) turns (Ok tt) → turns ≡ turns_from rules 0 rs
  as_stated are said end =
      let same = same_lines lines [] end.lines end.last are end.splits.each tt end.splits.partial (append-nil (flat_map ended lines) ∙ end.splits.whole) in
      end.made ∙ ap (turns_from rules 0) (same_states rules.form (lines ++ [] ∷ []) end.requests rs end.form last (subst (λ l. State rules.form l end.requests end.form) same end.states) said)

pub written : WrittenIsRead
written rules lines rs turns writes end = as_stated rules lines rs turns rules.form (are_lines rules.form lines rs writes) (states_written rules.form lines rs writes) end

is_line : (text : List ℕ) → list_all (λ byte. not (byte == 10)) text ≡ true → IsLine text
is_line [] test = tt
is_line (byte ∷ text) test =
    let parts = and_parts (not (byte == 10)) (list_all (λ b. not (b == 10)) text) test in
    (λ e. true≢false (sym parts.0 ∙ ap not (eq-eqb byte 10 e)), is_line text parts.1)

abbrev named : Form
named = form.Named header_columns

headed_states : (f : Form) (lines : List (List ℕ)) (rs : List TraceCommand) → f ≡ form.Csv → State named (lines ++ [] ∷ []) rs named → State f (header ∷ lines ++ [] ∷ []) rs named
headed_states f lines rs is said = subst (λ g. State g (header ∷ lines ++ [] ∷ []) rs named) (sym is) (states.Header header_columns, rs, refl, said, refl)

pub headed : HeadedIsRead
headed rules lines rs turns is writes end =
    as_stated rules (header ∷ lines) rs turns named (is_line header refl, are_lines named lines rs writes)
    (headed_states rules.form lines rs is (states_written named lines rs writes)) end

pub whole : BytesSayTheTurns
whole rules seen turns others a b =
    let same = same_lines a.lines a.last b.lines b.last a.splits.each b.splits.each a.splits.partial b.splits.partial (sym a.splits.whole ∙ b.splits.whole) in
    a.made
    ∙ ap (turns_from rules 0) (same_states rules.form (a.lines ++ a.last ∷ []) a.requests b.requests a.form b.form a.states (subst (λ l. State rules.form l b.requests b.form) same b.states))
    ∙ sym b.made

module _ (rules : Rules) (seen after : List ℕ) (turns all : List Assignment) (end : EndsWhole rules (seen ++ after) all) where
  first_turns : (lines : List (List ℕ)) (begun : List ℕ) (rs : List TraceCommand) (last : Form) → seen ≡ flat_map ended lines ++ begun → AllByRecursion IsLine lines
      → State rules.form lines rs last → turns ≡ turns_from rules 0 rs → (rest : List Assignment) × (all ≡ turns ++ rest)
  first_turns lines begun rs last is each said made =
      let cut = sym (append_assoc (flat_map ended lines) begun after) ∙ ap (λ s. s ++ after) (sym is) ∙ end.splits.whole in
      let found = lines_first lines (begun ++ after) end.lines end.last each end.splits.each end.splits.partial cut in
      let lines_are : end.lines ++ end.last ∷ [] ≡ lines ++ (found.0 ++ end.last ∷ []) = ap (λ l. l ++ end.last ∷ []) found.1 ∙ append_assoc lines found.0 (end.last ∷ []) in
      let more = states_first rules.form lines (found.0 ++ end.last ∷ []) rs end.requests last end.form said (subst (λ l. State rules.form l end.requests end.form) lines_are end.states) in
      let rest = turns_from rules (number_after 0 rs) more.0 in
      (rest, end.made ∙ ap (turns_from rules 0) more.1 ∙ turns_more rules 0 rs more.0 ∙ ap (λ l. l ++ rest) (sym made))

  early : EndsEarly rules seen turns → (rest : List Assignment) × (all ≡ turns ++ rest)
  early was = first_turns was.lines was.rest was.requests was.form was.splits.whole was.splits.each was.states was.made

pub faulted : FaultedIsABeginning
faulted rules seen after turns all (fault.Line n why) was end = first_turns rules seen after turns all end was.lines (was.bad ++ was.after) was.requests was.form was.whole was.each was.states was.made
faulted rules seen after turns all fault.OutOfMemory was end = first_turns rules seen after turns all end was.lines (was.line ++ was.after) was.requests was.form was.whole was.each was.states was.made
faulted rules seen after turns all fault.Read was end = early rules seen after turns all end was
faulted rules seen after turns all fault.TooLong was end = early rules seen after turns all end was
