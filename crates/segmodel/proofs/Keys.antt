-- Keys that compare alike are one.
use Rattle.std.proofs.Common.{◌≡◌, ℕ, true, List, refl}
use Rattle.std.specs.declared.cmp.Ordering.{Ordering}
use Rattle.std.specs.declared.cmp.Ordering.TheVariants.{Less, Equal, Greater}
use Rattle.std.specs.Ordering.{is_eq}
use Rattle.std.specs.Cmp.{eq_by_cmp_equiv}
use Rattle.std.specs.BTreeMap.{is_at}
use Rattle.std.proofs.lemmas.Cmp.{nat_list_cmp_total}
use Rattle.std.proofs.lemmas.Bool.{false≢true}
use Rattle.std.proofs.lemmas.Map.Lookups.{exact_bytes}
use Rattle.segmodel.specs.Cache.{key_cmp}

pub same_key : (q k : List ℕ) → is_at (key_cmp q) k ≡ true → q ≡ k
same_key q k is = exact_bytes q k (equal (key_cmp q k) is)
  where
    equal : (r : Ordering) → is_eq r ≡ true → r ≡ Equal
    equal Less e = absurd (false≢true e)
    equal Equal e = refl
    equal Greater e = absurd (false≢true e)

pub at_self : (k : List ℕ) → is_at (key_cmp k) k ≡ true
at_self k = (eq_by_cmp_equiv nat_list_cmp_total).refl k
