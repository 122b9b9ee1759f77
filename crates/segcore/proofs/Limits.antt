-- The numbers that a lawful history names fit into their words.
use Rattle.std.proofs.Common.{◌≡◌, ℕ, ◌*◌, ◌^◌, ◌<◌, ◌≤◌, eqb, ◌&&◌, List, [], ◌∷◌, Some, ⊎_elim, arith}
use Rattle.std.proofs.lemmas.Bool.{cases_Bool}
use Rattle.std.proofs.Math.Nat.{mul-le-mul_right}
use Rattle.std.proofs.lemmas.Nat.{pow_pos}
use Rattle.segword.specs.Words.{IsValid, Shape}
use Rattle.segmodel.specs.Words.{bucket_of}
use Rattle.segcore.specs.Words.{Event}
use Rattle.segcore.specs.declared.event.Event.TheVariants.{Linked, Relinked, Drew, Bumped}
use Rattle.segcore.specs.Lawful.{IsLawful}
use Rattle.segcore.specs.Overflow.{Home, drawn_in, home_of}
use Rattle.segcore.specs.Row.{frequency_of}
use Rattle.segcore.proofs.Quiet.{home_drawn}

pub few_passes : (z : Shape) → IsValid z → z.passes ≤ 64
few_passes z v = v.0.0.0.1.1

pub bucket_in : (z : Shape) (k : List ℕ) → IsValid z → bucket_of z k < z.buckets
bucket_in z k v = let p = v.0.0.0.0.0.0 in let lt = pow_pos p.0 in let e : z.buckets ≡ 2 ^ p.0 = p.1 in omega arith

pub few_drawn : (z : Shape) → IsValid z → z.overflow ≤ 65536
few_drawn z v = v.0.0.0.0.1

pub low_row : (z : Shape) (r : ℕ) → IsValid z → r < z.rows → r < 2 ^ 20
low_row z r v lt = let a = v.0.1.1 in omega arith

pub low_segment : (z : Shape) (s : ℕ) → IsValid z → s < z.passes * z.segments_each → s < 2 ^ 24
low_segment z s v lt = let a = v.0.0.1.1 in let b = mul-le-mul_right z.segments_each (few_passes z v) in omega arith

pub low_frequency : (z : Shape) (h : List Event) (s r : ℕ) → IsLawful z h → frequency_of h s r < 256
low_frequency z [] s r l = omega arith
low_frequency z (Linked p q t i n ∷ h) s r l = let a = low_frequency z h s r l.0 in ⊎_elim (λ y. rw y (omega arith)) (λ f. rw f a) (cases_Bool (eqb t s && eqb i r))
low_frequency z (Relinked p k a b t i n ∷ h) s r l = let c = low_frequency z h a b l.0 in let d = low_frequency z h s r l.0 in ⊎_elim (λ y. rw y c) (λ f. rw f d) (cases_Bool (eqb t s && eqb i r))
low_frequency z (Bumped p t i f ∷ h) s r l = let a = low_frequency z h s r l.0 in ⊎_elim (λ y. rw y l.1.suits.1) (λ f. rw f a) (cases_Bool (eqb t s && eqb i r))
low_frequency z (e ∷ h) s r l = low_frequency z h s r l.0

pub drawn_few : (z : Shape) (h : List Event) → IsLawful z h → drawn_in h ≤ z.overflow
drawn_few z [] l = omega arith
drawn_few z (Drew p b d m ∷ h) l = let a = l.1.suits.0 in let b = l.1.suits.1 in omega arith
drawn_few z (e ∷ h) l = drawn_few z h l.0

-- an overflow bucket that is drawn is in the table
pub home_in : (z : Shape) (h : List Event) (m : ℕ) (x : Home) → IsLawful z h → home_of h m ≡ Some x → m < z.overflow
home_in z h m x l i = let a = home_drawn z h m x l i in let b = drawn_few z h l in omega arith
