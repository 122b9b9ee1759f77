-- Buckets of chains are in the table: the one that a chain begins with, and each that is drawn for it.
use Rattle.std.proofs.Common.{◌≡◌, ℕ, ◌+◌, ◌-◌, ◌<◌, Bool, true, false, cond, eqb, ltb, List, [], ◌∷◌, Some, refl, sym, ◌∙◌, subst, ⊎_elim, arith}
use Rattle.std.proofs.lemmas.Bool.{cases_Bool, cond-true, cond-false, ltb-true}
use Rattle.std.proofs.lemmas.Option.{none-some, same_Some}
use Rattle.segword.specs.Words.{IsValid, Shape}
use Rattle.segcore.specs.declared.event.Event.TheVariants.{Drew}
use Rattle.segcore.specs.declared.cell.Cell.TheVariants.{OfBucket, OfOverflow}
use Rattle.segcore.specs.Words.{bucket_after, Event, Home, home, home_of, IsAt, IsItemAt, IsLawful}
use Rattle.segcore.proofs.Chains.{chain_of}
use Rattle.segcore.proofs.Limits.{few_drawn, home_in}
use Rattle.segbase.specs.Words.{Place}
use Rattle.segbase.specs.Spots.{cell_at}

-- an overflow bucket is drawn for a bucket of the table
homed : (z : Shape) (h : List Event) (m : ℕ) (x : Home) → IsLawful z h → home_of h m ≡ Some x → x.bucket < z.buckets
homed z [] m x l is = absurd (none-some x is)
homed z (Drew p b d n ∷ h) m x l is = ⊎_elim
    (λ t. subst (λ (y : Home). y.bucket < z.buckets) (same_Some (home b d) x (sym (cond-true (eqb n m) (Some (home b d)) (home_of h m) t) ∙ is)) l.1.guarded.0)
    (λ f. homed z h m x l.0 (sym (cond-false (eqb n m) (Some (home b d)) (home_of h m) f) ∙ is))
    (cases_Bool (eqb n m))
homed z (e ∷ h) m x l is = homed z h m x l.0 is

cell_home : (z : Shape) (h : List Event) (b n : ℕ) (place : Place) (t : Bool) → IsLawful z h
    → ltb place.bucket z.buckets ≡ t → IsAt h b n
    (cond t (OfBucket place.bucket place.word) (OfOverflow (place.bucket - z.buckets) place.word)) → b < z.buckets
cell_home z h b n place true l low at = subst (λ a. a < z.buckets) at.0 (ltb-true place.bucket z.buckets low)
cell_home z h b n place false l high at = homed z h (place.bucket - z.buckets) (home b at.0) l at.1

-- the bucket whose chain a place is in
pub item_home : (z : Shape) (h : List Event) (b n : ℕ) (place : Place) → IsLawful z h → IsItemAt z h b n (cell_at z place) → b < z.buckets
item_home z h b n place l at = cell_home z h b n place (ltb place.bucket z.buckets) l refl at.1

-- the overflow bucket that waits under a bit has a number of the table
pub spare_in : (z : Shape) (h : List Event) (b m : ℕ) → IsValid z → IsLawful z h → (bucket_after z h b).spare ≡ Some m → m < 65536
spare_in z h b m v l is = let few = few_drawn z v in let in_table = home_in z h m (home b ((bucket_after z h b).chained + 1)) l ((chain_of z h l b).spare m is).1 in omega arith
