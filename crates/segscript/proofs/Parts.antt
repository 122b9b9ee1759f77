-- What words say, part by part: each is what its place in a line asks for.
use Rattle.std.proofs.Common.{◌≡◌, ℕ, ◌+◌, List, [], ◌∷◌, refl}
use Rattle.std.specs.Prelude.{decimal}
use Rattle.segword.specs.declared.key.TheConstants.{KEY_BYTES}
use Rattle.segword.specs.declared.value.TheConstants.{VALUE_BYTES}
use Rattle.segscript.specs.Spelling.{IsFrequency, IsKeyWord, IsNumber, IsPass, IsValueWord, moment_word, pass_word, value_word, verb_word}
use Rattle.segscript.specs.declared.line.Verb.{Verb}
use Rattle.segscript.specs.declared.reason.Part.{Part}
use Rattle.segscript.specs.declared.reason.Part.TheVariants as part

-- the word is what this part is to be
abbrev pub Says : ℕ → Part → List ℕ → Type 0
Says passes part.Pass w = (n : ℕ) × IsPass passes n × (w ≡ pass_word n)
Says passes part.Command w = (v : Verb) × (w ≡ verb_word v)
Says passes part.Cutoff w = (n : ℕ) × IsFrequency n × (w ≡ decimal n)
Says passes part.Key w = IsKeyWord w
Says passes part.Value w = (v : List ℕ) × IsValueWord v × (w ≡ value_word v)
Says passes part.Moment w = (n : ℕ) × IsNumber n × (w ≡ moment_word n)
Says passes part.Segment w = (n : ℕ) × IsNumber n × (w ≡ decimal n)
Says passes part.Deadline w = (n : ℕ) × IsNumber n × (w ≡ decimal n)
Says passes part.Version w = (n : ℕ) × IsNumber n × (w ≡ decimal n)

-- the most bytes of a word that is this part
abbrev pub most : Part → ℕ
most part.Pass = 11
most part.Command = 7
most part.Cutoff = 10
most part.Key = KEY_BYTES
most part.Value = VALUE_BYTES
most part.Moment = 11
most part.Segment = 10
most part.Deadline = 10
most part.Version = 10

-- the most bytes of words that are these parts, with one more after each
abbrev pub most_of : List Part → ℕ
most_of [] = 0
most_of (p ∷ ps) = most p + (1 + most_of ps)

-- ---- lists of words

pub record Both (A B : Type 0) : Type 0 where
  pub first : A
  pub rest : B

abbrev pub SaysAll : ℕ → List Part → List (List ℕ) → Type 0
SaysAll passes [] [] = Unit {0}
SaysAll passes [] (w ∷ ws) = ⊥
SaysAll passes (p ∷ ps) [] = ⊥
SaysAll passes (p ∷ ps) (w ∷ ws) = Both (Says passes p w) (SaysAll passes ps ws)

pub record Cons (passes : ℕ) (p : Part) (ps : List Part) (ws : List (List ℕ)) : Type 0 where
  pub head : List ℕ
  pub tail : List (List ℕ)
  pub says : Says passes p head
  pub rest : SaysAll passes ps tail
  pub is : ws ≡ head ∷ tail

pub more : (passes : ℕ) (p : Part) (ps : List Part) (ws : List (List ℕ)) → SaysAll passes (p ∷ ps) ws → Cons passes p ps ws
more passes p ps [] says = absurd says
more passes p ps (w ∷ ws) says = record { head = w; tail = ws; says = says.first; rest = says.rest; is = refl }

pub last : (passes : ℕ) (ws : List (List ℕ)) → SaysAll passes [] ws → ws ≡ []
last passes [] says = refl
last passes (w ∷ ws) says = absurd says

pub one_word : {ws t : List (List ℕ)} {a x : List ℕ} → ws ≡ a ∷ t → t ≡ [] → a ≡ x → ws ≡ x ∷ []
one_word p q r = cc

pub both_words : {ws t u : List (List ℕ)} {a b x y : List ℕ} → ws ≡ a ∷ t → t ≡ b ∷ u → u ≡ [] → a ≡ x → b ≡ y → ws ≡ x ∷ y ∷ []
both_words p q r s t = cc

pub all_three : {ws t u v : List (List ℕ)} {a b c x y z : List ℕ} → ws ≡ a ∷ t → t ≡ b ∷ u → u ≡ c ∷ v → v ≡ [] → a ≡ x → b ≡ y → c ≡ z → ws ≡ x ∷ y ∷ z ∷ []
all_three p q r s t u v = cc

pub all_four : {ws t u v k : List (List ℕ)} {a b c d w x y z : List ℕ} → ws ≡ a ∷ t → t ≡ b ∷ u → u ≡ c ∷ v → v ≡ d ∷ k → k ≡ [] → a ≡ w → b ≡ x → c ≡ y → d ≡ z → ws ≡ w ∷ x ∷ y ∷ z ∷ []
all_four p q r s t u v w x = cc

-- a key and a moment
pub record Pair (ws : List (List ℕ)) : Type 0 where
  pub key : List ℕ
  pub now : ℕ
  pub fits : IsKeyWord key × IsNumber now
  pub are : ws ≡ key ∷ moment_word now ∷ []

pub pair : (passes : ℕ) (ws : List (List ℕ)) → SaysAll passes (part.Key ∷ part.Moment ∷ []) ws → Pair ws
pair passes ws says =
    let a = more passes part.Key (part.Moment ∷ []) ws says in
    let b = more passes part.Moment [] a.tail a.rest in
    record { key = a.head; now = b.says.0; fits = (a.says, b.says.1); are = both_words a.is b.is (last passes b.tail b.rest) refl b.says.2 }

-- a key, a value and a moment
pub record Triple (ws : List (List ℕ)) : Type 0 where
  pub key : List ℕ
  pub value : List ℕ
  pub now : ℕ
  pub fits : IsKeyWord key × IsValueWord value × IsNumber now
  pub are : ws ≡ key ∷ value_word value ∷ moment_word now ∷ []

pub triple : (passes : ℕ) (ws : List (List ℕ)) → SaysAll passes (part.Key ∷ part.Value ∷ part.Moment ∷ []) ws → Triple ws
triple passes ws says =
    let a = more passes part.Key (part.Value ∷ part.Moment ∷ []) ws says in
    let b = more passes part.Value (part.Moment ∷ []) a.tail a.rest in
    let c = more passes part.Moment [] b.tail b.rest in
    record { key = a.head; value = b.says.0; now = c.says.0; fits = (a.says, b.says.1, c.says.1); are = all_three a.is b.is c.is (last passes c.tail c.rest) refl b.says.2 c.says.2 }

-- ---- words that say something, each by itself

pub no_more : (passes : ℕ) → SaysAll passes [] []
no_more passes = tt

pub both : (passes : ℕ) (p : Part) (ps : List Part) (w : List ℕ) (ws : List (List ℕ)) → Says passes p w → SaysAll passes ps ws → SaysAll passes (p ∷ ps) (w ∷ ws)
both passes p ps w ws says rest = record { first = says; rest = rest }

pub pair_fits : (passes : ℕ) (k : List ℕ) (m : ℕ) → IsKeyWord k × IsNumber m → SaysAll passes (part.Key ∷ part.Moment ∷ []) (k ∷ moment_word m ∷ [])
pair_fits passes k m fits = both passes part.Key (part.Moment ∷ []) (k) (moment_word m ∷ []) fits.0 (both passes part.Moment [] (moment_word m) [] (m, fits.1, refl) (no_more passes))

pub triple_fits : (passes : ℕ) (k v : List ℕ) (m : ℕ) → IsKeyWord k × IsValueWord v × IsNumber m → SaysAll passes (part.Key ∷ part.Value ∷ part.Moment ∷ []) (k ∷ value_word v ∷ moment_word m ∷ [])
triple_fits passes k v m fits = both passes part.Key (part.Value ∷ part.Moment ∷ []) (k)
    (value_word v ∷ moment_word m ∷ []) fits.0
    (both passes part.Value (part.Moment ∷ []) (value_word v) (moment_word m ∷ []) (v, fits.1, refl)
    (both passes part.Moment [] (moment_word m) [] (m, fits.2, refl) (no_more passes)))
