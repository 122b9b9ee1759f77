-- What is shown command by command: its word names it, and the words behind it tell one turn.
use Rattle.std.proofs.Common.{◌≡◌, ◌+◌, ℕ, ◌<◌, ◌≤◌, ◌^◌, List, [], ◌∷◌, length, refl, sym, ap, arith, rules, Some}
use Rattle.std.specs.Prelude.{decimal}
use Rattle.std.proofs.lemmas.Fmt.{decimal_injective}
use Rattle.segmodel.specs.declared.request.Request.TheVariants.{Set, Add, Replace, Cas, Delete}
use Rattle.segmodel.specs.declared.answer.Command.TheVariants.{Write, Get, Gets, Evict, Keep, Refill}
use Rattle.segmodel.specs.Words.{Turn}
use Rattle.segmodel.specs.declared.answer.Turn.TheVariants.{Serve, Hold, Held, Release, Lock, Unlock}
use Rattle.segword.specs.declared.key.TheConstants.{KEY_BYTES}
use Rattle.segword.specs.declared.value.TheConstants.{VALUE_BYTES}
use Rattle.segscript.specs.Spelling.{AreFour, AreNumbers, argument_parts, arguments_of, commands, four_words, IsCutoff, IsPair, IsTriple, IsTurnOf, IsValueWord, IsWritable}
use Rattle.segscript.specs.Spelling.{moment_word, named_among, number_words, pair_words, triple_words, value_word, verb, verb_word}
use Rattle.segscript.specs.declared.line.Verb.{Verb}
use Rattle.segscript.specs.declared.line.Verb.TheVariants as verbs
use Rattle.segscript.specs.declared.reason.Part.TheVariants as part
use Rattle.segscript.proofs.Parts.{both, all_four, last, more, most_of, no_more, one_word, pair, pair_fits, SaysAll, triple, triple_fits, both_words}
use Rattle.segscript.proofs.WordLemmas.{IsSpaceless, plain_word}

-- ---- words of commands

pub named_self : (v : Verb) → named_among commands (verb_word v) ≡ Some v
named_self verbs.Refill = refl
named_self verbs.Evict = refl
named_self verbs.Keep = refl
named_self verbs.Set = refl
named_self verbs.Add = refl
named_self verbs.Replace = refl
named_self verbs.Cas = refl
named_self verbs.Delete = refl
named_self verbs.Get = refl
named_self verbs.Gets = refl
named_self verbs.Hold = refl
named_self verbs.Held = refl
named_self verbs.Release = refl
named_self verbs.Lock = refl
named_self verbs.Unlock = refl

pub verb_words : (v : Verb) → IsSpaceless (verb_word v)
verb_words verbs.Refill = plain_word (verb_word verbs.Refill) (search rules)
verb_words verbs.Evict = plain_word (verb_word verbs.Evict) (search rules)
verb_words verbs.Keep = plain_word (verb_word verbs.Keep) (search rules)
verb_words verbs.Set = plain_word (verb_word verbs.Set) (search rules)
verb_words verbs.Add = plain_word (verb_word verbs.Add) (search rules)
verb_words verbs.Replace = plain_word (verb_word verbs.Replace) (search rules)
verb_words verbs.Cas = plain_word (verb_word verbs.Cas) (search rules)
verb_words verbs.Delete = plain_word (verb_word verbs.Delete) (search rules)
verb_words verbs.Get = plain_word (verb_word verbs.Get) (search rules)
verb_words verbs.Gets = plain_word (verb_word verbs.Gets) (search rules)
verb_words verbs.Hold = plain_word (verb_word verbs.Hold) (search rules)
verb_words verbs.Held = plain_word (verb_word verbs.Held) (search rules)
verb_words verbs.Release = plain_word (verb_word verbs.Release) (search rules)
verb_words verbs.Lock = plain_word (verb_word verbs.Lock) (search rules)
verb_words verbs.Unlock = plain_word (verb_word verbs.Unlock) (search rules)

-- a command has few words behind its own, and all are short
pub small : (v : Verb) → (length (verb_word v) ≤ 7) × (length (argument_parts v) ≤ 4) × (most_of (argument_parts v) ≤ KEY_BYTES + VALUE_BYTES + 25)
small verbs.Refill = (omega arith, omega arith, omega arith)
small verbs.Evict = (omega arith, omega arith, omega arith)
small verbs.Keep = (omega arith, omega arith, omega arith)
small verbs.Set = (omega arith, omega arith, omega arith)
small verbs.Add = (omega arith, omega arith, omega arith)
small verbs.Replace = (omega arith, omega arith, omega arith)
small verbs.Cas = (omega arith, omega arith, omega arith)
small verbs.Delete = (omega arith, omega arith, omega arith)
small verbs.Get = (omega arith, omega arith, omega arith)
small verbs.Gets = (omega arith, omega arith, omega arith)
small verbs.Hold = (omega arith, omega arith, omega arith)
small verbs.Held = (omega arith, omega arith, omega arith)
small verbs.Release = (omega arith, omega arith, omega arith)
small verbs.Lock = (omega arith, omega arith, omega arith)
small verbs.Unlock = (omega arith, omega arith, omega arith)

-- ---- what words say, and the turns that they tell

pub turn_read : (passes : ℕ) (v : Verb) (ws : List (List ℕ)) → SaysAll passes (argument_parts v) ws → (t : Turn) × IsTurnOf v t × (ws ≡ arguments_of t)
turn_read passes verbs.Refill ws says =
    let a = more passes part.Segment (part.Deadline ∷ []) ws says in
    let b = more passes part.Deadline [] a.tail a.rest in
    (Serve (Refill a.says.0 b.says.0), ((a.says.1, b.says.1), refl), both_words a.is b.is (last passes b.tail b.rest) a.says.2 b.says.2)
turn_read passes verbs.Evict ws says =
    let a = more passes part.Segment [] ws says in
    (Serve (Evict a.says.0), (a.says.1, refl), one_word a.is (last passes a.tail a.rest) a.says.2)
turn_read passes verbs.Keep ws says =
    let a = more passes part.Segment (part.Cutoff ∷ []) ws says in
    let b = more passes part.Cutoff [] a.tail a.rest in
    (Serve (Keep a.says.0 b.says.0), ((a.says.1, b.says.1), refl), both_words a.is b.is (last passes b.tail b.rest) a.says.2 b.says.2)
turn_read passes verbs.Set ws says = let k = triple passes ws says in (Serve (Write (Set k.key k.value k.now)), (k.fits, refl), k.are)
turn_read passes verbs.Add ws says = let k = triple passes ws says in (Serve (Write (Add k.key k.value k.now)), (k.fits, refl), k.are)
turn_read passes verbs.Replace ws says = let k = triple passes ws says in (Serve (Write (Replace k.key k.value k.now)), (k.fits, refl), k.are)
turn_read passes verbs.Cas ws says =
    let a = more passes part.Key (part.Value ∷ part.Version ∷ part.Moment ∷ []) ws says in
    let b = more passes part.Value (part.Version ∷ part.Moment ∷ []) a.tail a.rest in
    let c = more passes part.Version (part.Moment ∷ []) b.tail b.rest in
    let d = more passes part.Moment [] c.tail c.rest in (
      Serve (Write (Cas a.head b.says.0 c.says.0 d.says.0)),
      ((a.says, b.says.1, c.says.1, d.says.1), refl),
      all_four a.is b.is c.is d.is (last passes d.tail d.rest) refl b.says.2 c.says.2 d.says.2,
    )
turn_read passes verbs.Delete ws says = let k = pair passes ws says in (Serve (Write (Delete k.key k.now)), (k.fits, refl), k.are)
turn_read passes verbs.Get ws says = let k = pair passes ws says in (Serve (Get k.key k.now), (k.fits, refl), k.are)
turn_read passes verbs.Gets ws says = let k = pair passes ws says in (Serve (Gets k.key k.now), (k.fits, refl), k.are)
turn_read passes verbs.Hold ws says = let k = pair passes ws says in (Hold k.key k.now, (k.fits, refl), k.are)
turn_read passes verbs.Held ws says = (Held, (tt, refl), last passes ws says)
turn_read passes verbs.Release ws says = (Release, (tt, refl), last passes ws says)
turn_read passes verbs.Lock ws says = let a = more passes part.Key [] ws says in (Lock a.head, (a.says, refl), one_word a.is (last passes a.tail a.rest) refl)
turn_read passes verbs.Unlock ws says = (Unlock, (tt, refl), last passes ws says)

pub turn_says : (passes : ℕ) (t : Turn) → IsWritable t → SaysAll passes (argument_parts (verb t)) (arguments_of t)
turn_says passes (Serve (Refill n d)) fits =
    both passes part.Segment (part.Deadline ∷ []) (decimal n) (decimal d ∷ []) (n, fits.0, refl)
    (both passes part.Deadline [] (decimal d) [] (d, fits.1, refl) (no_more passes))
turn_says passes (Serve (Evict n)) fits = both passes part.Segment [] (decimal n) [] (n, fits, refl) (no_more passes)
turn_says passes (Serve (Keep n c)) fits =
    both passes part.Segment (part.Cutoff ∷ []) (decimal n) (decimal c ∷ []) (n, fits.0, refl)
    (both passes part.Cutoff [] (decimal c) [] (c, fits.1, refl) (no_more passes))
turn_says passes (Serve (Write (Set k v m))) fits = triple_fits passes k v m fits
turn_says passes (Serve (Write (Add k v m))) fits = triple_fits passes k v m fits
turn_says passes (Serve (Write (Replace k v m))) fits = triple_fits passes k v m fits
turn_says passes (Serve (Write (Cas k v n m))) fits =
    both passes part.Key (part.Value ∷ part.Version ∷ part.Moment ∷ []) (k)
    (value_word v ∷ decimal n ∷ moment_word m ∷ []) fits.0
    (both passes part.Value (part.Version ∷ part.Moment ∷ []) (value_word v) (decimal n ∷ moment_word m ∷ [])
    (v, fits.1, refl) (both passes part.Version (part.Moment ∷ []) (decimal n) (moment_word m ∷ []) (
      n,
      fits.2,
      refl,
    ) (both passes part.Moment [] (moment_word m) [] (m, fits.3, refl) (no_more passes))))
turn_says passes (Serve (Write (Delete k m))) fits = pair_fits passes k m fits
turn_says passes (Serve (Get k m)) fits = pair_fits passes k m fits
turn_says passes (Serve (Gets k m)) fits = pair_fits passes k m fits
turn_says passes (Hold k m) fits = pair_fits passes k m fits
turn_says passes Held fits = no_more passes
turn_says passes Release fits = no_more passes
turn_says passes (Lock k) fits = both passes part.Key [] (k) [] fits (no_more passes)
turn_says passes Unlock fits = no_more passes

-- ---- words tell one turn

first : (a b : List ℕ) (x y : List (List ℕ)) → a ∷ x ≡ b ∷ y → a ≡ b
first a b x y same = cc

rest : (a b : List ℕ) (x y : List (List ℕ)) → a ∷ x ≡ b ∷ y → x ≡ y
rest a b x y same = cc

pub number-one : (m n : ℕ) → m < 2 ^ 32 → n < 2 ^ 32 → decimal m ≡ decimal n → m ≡ n
number-one m n small small' same = decimal_injective m n (omega arith) (omega arith) same

value-one : (v w : List ℕ) → IsValueWord v → IsValueWord w → value_word v ≡ value_word w → v ≡ w
value-one [] [] fv fw same = refl
value-one [] (b ∷ bs) fv fw same = absurd (fw.2 (sym same))
value-one (a ∷ as') [] fv fw same = absurd (fv.2 same)
value-one (a ∷ as') (b ∷ bs) fv fw same = same

moment-one : (m n : ℕ) → m < 2 ^ 32 → n < 2 ^ 32 → moment_word m ≡ moment_word n → m ≡ n
moment-one m n small small' same = let d : decimal m ≡ decimal n = cc in number-one m n small small' d

pub arguments-one : (t u : Turn) → IsWritable t → IsWritable u → verb t ≡ verb u → arguments_of t ≡ arguments_of u → t ≡ u
arguments-one (Serve (Refill m d)) (Serve (Refill n e)) ft fu same args =
    let digits : decimal m ≡ decimal n = cc in
    let segment = number-one m n ft.0 fu.0 digits in
    let more : decimal d ≡ decimal e = cc in
    let deadline = number-one d e ft.1 fu.1 more in cc
arguments-one (Serve (Refill _ _)) (Serve (Write (Set _ _ _))) ft fu same args = absurd (cc)
arguments-one (Serve (Refill _ _)) _ ft fu same args = absurd (cc)
arguments-one (Serve (Evict m)) (Serve (Evict n)) ft fu same args = ap (λ n. Serve (Evict n)) (number-one m n ft fu (first (decimal m) (decimal n) [] [] args))
arguments-one (Serve (Evict _)) (Serve (Write (Set _ _ _))) ft fu same args = absurd (cc)
arguments-one (Serve (Evict _)) _ ft fu same args = absurd (cc)
arguments-one (Serve (Keep m c)) (Serve (Keep n d)) ft fu same args =
    let digits : decimal m ≡ decimal n = cc in
    let segment = number-one m n ft.0 fu.0 digits in
    let more : decimal c ≡ decimal d = cc in
    let cutoff = number-one c d (omega (arith, ft.1)) (omega (arith, fu.1)) more in cc
arguments-one (Serve (Keep _ _)) (Serve (Write (Set _ _ _))) ft fu same args = absurd (cc)
arguments-one (Serve (Keep _ _)) _ ft fu same args = absurd (cc)
arguments-one (Serve (Write (Set k v m))) (Serve (Write (Set l w n))) ft fu same args =
    let key : k ≡ l = cc in
    let word : value_word v ≡ value_word w = cc in
    let value = value-one v w ft.1 fu.1 word in
    let moment : moment_word m ≡ moment_word n = cc in
    let now = moment-one m n ft.2 fu.2 moment in cc
arguments-one (Serve (Write (Set _ _ _))) _ ft fu same args = absurd (cc)
arguments-one (Serve (Write (Add k v m))) (Serve (Write (Add l w n))) ft fu same args =
    let key : k ≡ l = cc in
    let word : value_word v ≡ value_word w = cc in
    let value = value-one v w ft.1 fu.1 word in
    let moment : moment_word m ≡ moment_word n = cc in
    let now = moment-one m n ft.2 fu.2 moment in cc
arguments-one (Serve (Write (Add _ _ _))) _ ft fu same args = absurd (cc)
arguments-one (Serve (Write (Replace k v m))) (Serve (Write (Replace l w n))) ft fu same args =
    let key : k ≡ l = cc in
    let word : value_word v ≡ value_word w = cc in
    let value = value-one v w ft.1 fu.1 word in
    let moment : moment_word m ≡ moment_word n = cc in
    let now = moment-one m n ft.2 fu.2 moment in cc
arguments-one (Serve (Write (Replace _ _ _))) _ ft fu same args = absurd (cc)
arguments-one (Serve (Write (Cas k v m i))) (Serve (Write (Cas l w n j))) ft fu same args =
    let key : k ≡ l = cc in
    let word : value_word v ≡ value_word w = cc in
    let value = value-one v w ft.1 fu.1 word in
    let digits : decimal m ≡ decimal n = cc in
    let number = number-one m n ft.2 fu.2 digits in
    let moment : moment_word i ≡ moment_word j = cc in
    let now = moment-one i j ft.3 fu.3 moment in cc
arguments-one (Serve (Write (Cas _ _ _ _))) _ ft fu same args = absurd (cc)
arguments-one (Serve (Write (Delete k m))) (Serve (Write (Delete l n))) ft fu same args =
    let key : k ≡ l = cc in
    let moment : moment_word m ≡ moment_word n = cc in
    let now = moment-one m n ft.1 fu.1 moment in cc
arguments-one (Serve (Write (Delete _ _))) _ ft fu same args = absurd (cc)
arguments-one (Serve (Get k m)) (Serve (Get l n)) ft fu same args =
    let key : k ≡ l = cc in
    let moment : moment_word m ≡ moment_word n = cc in
    let now = moment-one m n ft.1 fu.1 moment in cc
arguments-one (Serve (Get _ _)) (Serve (Write (Set _ _ _))) ft fu same args = absurd (cc)
arguments-one (Serve (Get _ _)) _ ft fu same args = absurd (cc)
arguments-one (Serve (Gets k m)) (Serve (Gets l n)) ft fu same args =
    let key : k ≡ l = cc in
    let moment : moment_word m ≡ moment_word n = cc in
    let now = moment-one m n ft.1 fu.1 moment in cc
arguments-one (Serve (Gets _ _)) (Serve (Write (Set _ _ _))) ft fu same args = absurd (cc)
arguments-one (Serve (Gets _ _)) _ ft fu same args = absurd (cc)
arguments-one (Hold k m) (Hold l n) ft fu same args =
    let key : k ≡ l = cc in
    let moment : moment_word m ≡ moment_word n = cc in
    let now = moment-one m n ft.1 fu.1 moment in cc
arguments-one (Hold _ _) (Serve (Write (Set _ _ _))) ft fu same args = absurd (cc)
arguments-one (Hold _ _) _ ft fu same args = absurd (cc)
arguments-one Held Held ft fu same args = refl
arguments-one Held (Serve (Write (Set _ _ _))) ft fu same args = absurd (cc)
arguments-one Held _ ft fu same args = absurd (cc)
arguments-one Release Release ft fu same args = refl
arguments-one Release (Serve (Write (Set _ _ _))) ft fu same args = absurd (cc)
arguments-one Release _ ft fu same args = absurd (cc)
arguments-one (Lock k) (Lock l) ft fu same args = ap Lock (first k l [] [] args)
arguments-one (Lock _) (Serve (Write (Set _ _ _))) ft fu same args = absurd (cc)
arguments-one (Lock _) _ ft fu same args = absurd (cc)
arguments-one Unlock Unlock ft fu same args = refl
arguments-one Unlock (Serve (Write (Set _ _ _))) ft fu same args = absurd (cc)
arguments-one Unlock _ ft fu same args = absurd (cc)

-- ---- words that tell no turn of a command

pub none-refill : (parts : List (List ℕ)) → ((p : ℕ × ℕ) → AreNumbers p → parts ≡ number_words p → ⊥) → (t : Turn) → IsTurnOf verbs.Refill t → parts ≡ arguments_of t → ⊥
none-refill parts none (Serve (Refill n d)) fits same = none (n, d) fits.0 same
none-refill parts none (Serve (Write (Set _ _ _))) fits same = let e = fits.1 in cc
none-refill parts none _ fits same = let e = fits.1 in cc

pub none-keep : (parts : List (List ℕ)) → ((p : ℕ × ℕ) → IsCutoff p → parts ≡ number_words p → ⊥) → (t : Turn) → IsTurnOf verbs.Keep t → parts ≡ arguments_of t → ⊥
none-keep parts none (Serve (Keep n c)) fits same = none (n, c) fits.0 same
none-keep parts none (Serve (Write (Set _ _ _))) fits same = let e = fits.1 in cc
none-keep parts none _ fits same = let e = fits.1 in cc

pub none-set : (parts : List (List ℕ)) → ((p : List ℕ × List ℕ × ℕ) → IsTriple p → parts ≡ triple_words p → ⊥) → (t : Turn) → IsTurnOf verbs.Set t → parts ≡ arguments_of t → ⊥
none-set parts none (Serve (Write (Set k v m))) fits same = none (k, v, m) fits.0 same
none-set parts none _ fits same = let e = fits.1 in cc

pub none-add : (parts : List (List ℕ)) → ((p : List ℕ × List ℕ × ℕ) → IsTriple p → parts ≡ triple_words p → ⊥) → (t : Turn) → IsTurnOf verbs.Add t → parts ≡ arguments_of t → ⊥
none-add parts none (Serve (Write (Add k v m))) fits same = none (k, v, m) fits.0 same
none-add parts none _ fits same = let e = fits.1 in cc

pub none-replace : (parts : List (List ℕ)) → ((p : List ℕ × List ℕ × ℕ) → IsTriple p → parts ≡ triple_words p → ⊥) → (t : Turn) → IsTurnOf verbs.Replace t → parts ≡ arguments_of t → ⊥
none-replace parts none (Serve (Write (Replace k v m))) fits same = none (k, v, m) fits.0 same
none-replace parts none _ fits same = let e = fits.1 in cc

pub none-cas : (parts : List (List ℕ)) → ((p : List ℕ × List ℕ × ℕ × ℕ) → AreFour p → parts ≡ four_words p → ⊥) → (t : Turn) → IsTurnOf verbs.Cas t → parts ≡ arguments_of t → ⊥
none-cas parts none (Serve (Write (Cas k v n m))) fits same = none (k, v, n, m) fits.0 same
none-cas parts none _ fits same = let e = fits.1 in cc

pub none-delete : (parts : List (List ℕ)) → ((p : List ℕ × ℕ) → IsPair p → parts ≡ pair_words p → ⊥) → (t : Turn) → IsTurnOf verbs.Delete t → parts ≡ arguments_of t → ⊥
none-delete parts none (Serve (Write (Delete k m))) fits same = none (k, m) fits.0 same
none-delete parts none _ fits same = let e = fits.1 in cc

pub none-get : (parts : List (List ℕ)) → ((p : List ℕ × ℕ) → IsPair p → parts ≡ pair_words p → ⊥) → (t : Turn) → IsTurnOf verbs.Get t → parts ≡ arguments_of t → ⊥
none-get parts none (Serve (Get k m)) fits same = none (k, m) fits.0 same
none-get parts none (Serve (Write (Set _ _ _))) fits same = let e = fits.1 in cc
none-get parts none _ fits same = let e = fits.1 in cc

pub none-gets : (parts : List (List ℕ)) → ((p : List ℕ × ℕ) → IsPair p → parts ≡ pair_words p → ⊥) → (t : Turn) → IsTurnOf verbs.Gets t → parts ≡ arguments_of t → ⊥
none-gets parts none (Serve (Gets k m)) fits same = none (k, m) fits.0 same
none-gets parts none (Serve (Write (Set _ _ _))) fits same = let e = fits.1 in cc
none-gets parts none _ fits same = let e = fits.1 in cc

pub none-hold : (parts : List (List ℕ)) → ((p : List ℕ × ℕ) → IsPair p → parts ≡ pair_words p → ⊥) → (t : Turn) → IsTurnOf verbs.Hold t → parts ≡ arguments_of t → ⊥
none-hold parts none (Hold k m) fits same = none (k, m) fits.0 same
none-hold parts none (Serve (Write (Set _ _ _))) fits same = let e = fits.1 in cc
none-hold parts none _ fits same = let e = fits.1 in cc
