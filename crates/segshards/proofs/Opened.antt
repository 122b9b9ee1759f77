-- The passes of shards: of one more, and with one fewer of one shard.
use Rattle.std.proofs.Common.{◌≡◌, ◌<◌, ℕ, zero, suc, ◌+◌, ap, ◌∙◌, Some, take, List, [], ◌∷◌, ◌++◌, All, get_or, length, set, sym, subst, arith}
use Rattle.std.specs.Global.{Vec}
use Rattle.segbase.specs.Words.{Pass}
use Rattle.segindex.specs.Words.{board_of, Index}
use Rattle.segstore.specs.Words.{IsQuiet}
use Rattle.segclient.proofs.Places.{zip_long, zip_push}
use Rattle.segclient.specs.declared.client.Client.{Client}
use Rattle.segclient.specs.Client.{Starts}
use lib.Seq.{take-length}
use Rattle.std.proofs.lemmas.List.{take_more}
use Rattle.segshards.specs.Client.{AreNewClients}
use Rattle.segshards.specs.Shards.{AreOfShards}

abbrev QuietIn : Index → Vec Pass → Type 0
QuietIn i passes = All (IsQuiet (board_of i)) passes.items

pub one_more : (indexes : List Index) (lists : List (Vec Pass)) (i : Index) (passes : Vec Pass)
    → AreOfShards indexes lists → All (IsQuiet (board_of i)) passes.items
    → AreOfShards (indexes ++ i ∷ []) (lists ++ passes ∷ [])
one_more indexes lists i passes are quiet = zip_push QuietIn indexes lists i passes are quiet

pub quiet_at : (indexes : List Index) (lists : List (Vec Pass)) (n : ℕ) (i : Index) (passes : Vec Pass)
    → AreOfShards indexes lists → n < length indexes → i ≡ get_or indexes n i → passes ≡ get_or lists n passes
    → All (IsQuiet (board_of i)) passes.items
quiet_at [] lists n i passes are below is_i is_passes = absurd (omega (arith, below))
quiet_at (j ∷ indexes) [] n i passes are below is_i is_passes = absurd are
quiet_at (j ∷ indexes) (l ∷ lists) zero i passes are below is_i is_passes = subst (λ k. QuietIn k passes) (sym is_i) (subst (QuietIn j) (sym is_passes) are.0)
quiet_at (j ∷ indexes) (l ∷ lists) (suc n) i passes are below is_i is_passes = quiet_at indexes lists n i passes are.1 (omega (arith, below)) is_i is_passes

pub set_at : (indexes : List Index) (lists : List (Vec Pass)) (n : ℕ) (i : Index) (passes : Vec Pass)
    → AreOfShards indexes lists → n < length indexes → i ≡ get_or indexes n i
    → All (IsQuiet (board_of i)) passes.items → AreOfShards indexes (set lists n passes)
set_at [] lists n i passes are below is_i quiet = absurd (omega (arith, below))
set_at (j ∷ indexes) [] n i passes are below is_i quiet = absurd are
set_at (j ∷ indexes) (l ∷ lists) zero i passes are below is_i quiet = (subst (λ k. QuietIn k passes) is_i quiet, are.1)
set_at (j ∷ indexes) (l ∷ lists) (suc n) i passes are below is_i quiet = (are.0, set_at indexes lists n i passes are.1 (omega (arith, below)) is_i quiet)

pub as_long : (indexes : List Index) (lists : List (Vec Pass)) → AreOfShards indexes lists → length lists ≡ length indexes
as_long indexes lists are = zip_long QuietIn indexes lists are

abbrev pub IsNewOf : Index → Client → Type 0
IsNewOf i client = (p : Pass) × Starts i (Some 0) p client

-- one client more, of the index at this place
pub one_client : (indexes : List Index) (clients : List Client) (n : ℕ) (i : Index) (p : Pass) (client : Client)
    → n < length indexes → i ≡ get_or indexes n i → AreNewClients (take n indexes) clients
    → Starts i (Some 0) p client → AreNewClients (take (n + 1) indexes) (clients ++ client ∷ [])
one_client indexes clients n i p client below is were starts =
    subst (λ l. AreNewClients l (clients ++ client ∷ [])) (sym (subst (λ k. take (n + 1) indexes ≡ take n indexes ++ k ∷ []) (sym is) (take_more indexes n i below)))
    (zip_push IsNewOf (take n indexes) clients i client were (p, starts))

-- all of them
pub all_clients : (indexes : List Index) (clients : List Client) (n : ℕ) → n ≡ length indexes → AreNewClients (take n indexes) clients → AreNewClients indexes clients
all_clients indexes clients n end made = subst (λ l. AreNewClients l clients) (ap (λ m. take m indexes) end ∙ take-length indexes) made
