use Rattle.std.proofs.Common.{◌≡◌, ℕ, ◌==◌, Bool, true, false, cond, List, [], ◌∷◌, refl, None, Some, IsSomeAnd}
use Rattle.std.proofs.lemmas.Bool.{eqb-false}
use Rattle.std.specs.BTreeMap.{is_at}
use Rattle.segmodel.specs.declared.request.Request.TheVariants.{Set, Add, Replace, Cas, Delete}
use Rattle.segmodel.specs.declared.request.Reply.TheVariants.{Stored, NotStored, Exists, Deleted}
use Rattle.segmodel.specs.Words.{Cached, Entry}
use Rattle.segmodel.specs.Cache.{key_cmp}
use Rattle.segmodel.specs.declared.entry.Entry.TheVariants.{Wrote, Evicted, Refilled, Moved}
use Rattle.segmodel.specs.History.{after, NoneStandsIn, IsLegal}
use Rattle.segmodel.specs.Example.{shape, a, e, one, two, added, refused, deleted, relocated}
use Rattle.segmodel.proofs.laws.example.Goals as goal

none_before : NoneStandsIn (after shape []) 0
none_before key stands = absurd stands

legal_added : IsLegal shape added
legal_added = ((tt, (none_before, refl)), (refl, refl))

legal_refused : IsLegal shape refused
legal_refused = ((legal_added, (refl, refl)), (refl, refl))

legal_deleted : IsLegal shape deleted
legal_deleted = ((((legal_refused, (refl, refl)), (refl, refl)), (refl, refl)), (refl, refl))

-- a alone stands, in one segment and so in no other
none_beside : (is : Bool) (other : ℕ) (there : ℕ) → (there == other) ≡ false
    → IsSomeAnd (cond is (Some (record { value = two; segment = there })) None) (λ (item : Cached). item.segment ≡ other) → ⊥
none_beside true other there apart stands = eqb-false there other apart stands
none_beside false other there apart stands = stands

none_in_second : NoneStandsIn (after shape deleted) 1
none_in_second key = none_beside (is_at (key_cmp key) a) 1 0 refl

none_in_first : NoneStandsIn (after shape relocated) 0
none_in_first key = none_beside (is_at (key_cmp key) a) 0 1 refl

legal_relocated : IsLegal shape relocated
legal_relocated = ((legal_deleted, (none_in_second, refl)), (refl, refl, refl, (λ same. absurd (eqb-false 0 1 refl same)), refl))

pub returns-clause-legal : goal.returns-clause-legal
returns-clause-legal c = ((legal_relocated, (none_in_first, refl)), (refl, refl))

abbrev more : List Entry
more = Evicted 0 a 1 ∷ Refilled 0 0 20 ∷ Moved 0 a 0 1 ∷ Refilled 0 1 10 ∷ Wrote 0 (Delete e 7) Deleted None ∷ Wrote 0 (Add a one 6) NotStored None ∷ Wrote 0 (Replace a two 5) Stored (Some 0)
    ∷ Wrote 0 (Cas a two 2 4) Stored (Some 0) ∷ Wrote 0 (Cas a two 1 3) Exists None ∷ Wrote 0 (Set e two 2) Stored (Some 0) ∷ []

pub returns-clause-earlier : goal.returns-clause-earlier
returns-clause-earlier c = (more, refl)
