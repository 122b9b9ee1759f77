-- What a reply tells: that of a cache of one thread, at the moment of the call at which its entry came into the history.
use Rattle.std.proofs.Common.{◌≡◌, ℕ, suc, ◌^◌, ◌<◌, ◌==◌, List, [], ◌∷◌, ◌++◌, length, Option, Some, None, refl, sym, ap, ◌∙◌, subst, inl, inr, ⊎_elim, arith}
use Rattle.std.proofs.lemmas.Bool.{cases_Bool, cond-true, cond-false}
use Rattle.std.proofs.lemmas.Option.{same_Some, none-some}
use Rattle.segmodel.specs.declared.request.Request.TheVariants.{Set, Cas, Delete}
use Rattle.segmodel.specs.declared.request.Reply.TheVariants as reply
use Rattle.segmodel.specs.declared.answer.WriteAnswer.TheVariants as write
use Rattle.segmodel.specs.declared.answer.DeleteAnswer.TheVariants as delete
use Rattle.segmodel.specs.declared.entry.Entry.TheVariants.{Wrote}
use Rattle.segmodel.specs.Words.{after, Begins, DeleteAnswer, Entry, IsLegal, mine, pass_of}
use Rattle.segmodel.specs.Words.{reads_version, Reply, reply_of_delete, reply_of_write, Request}
use Rattle.segmodel.specs.Words.{WriteAnswer}
use Rattle.segmodel.proofs.LawLemmas.{earlier_legal, cas_fails}
use Rattle.segcore.specs.Event as event
use Rattle.segcore.proofs.Counts.{mine_others}
use Rattle.segcore.proofs.Moments.{seen_begins}
use Rattle.segcore.proofs.Standing.{legal}
use Rattle.segbase.specs.Words.{Board, number, Pass, seen, SinceFirst, TakesSteps, trace}
use Rattle.segstore.specs.Words.{AddsEntry, GoesOn}
use Rattle.segwrite.specs.Writes.{IsWriteAnswer, IsSetAnswer, IsDeleteAnswer, Writes, Deletes}
use Rattle.segwrite.specs.Telling.{IsTold, WasTold, cas_reply}

-- ---- where an entry came in

-- of the entries of one pass there is one more than before: the history goes on from one in which it came in last
pub came_in : (pass : ℕ) (entry : Entry) (more old : List Entry) → mine pass (more ++ old) ≡ entry ∷ mine pass old
    → (history : List Entry) × Begins old history × Begins (entry ∷ history) (more ++ old)
came_in pass entry [] old one = absurd (let same : length (mine pass old) ≡ suc (length (mine pass old)) = ap length one in omega (arith, same))
came_in pass entry (e ∷ more) old one = ⊎_elim
    (λ t.
    let same = sym (cond-true (pass_of e == pass) (e ∷ mine pass (more ++ old)) (mine pass (more ++ old)) t) ∙ one in
    (more ++ old, (more, refl), ([], ap (λ l. first l ∷ (more ++ old)) same)))
    (λ f.
    let inner = came_in pass entry more old (sym (cond-false (pass_of e == pass) (e ∷ mine pass (more ++ old)) (mine pass (more ++ old)) f) ∙ one) in
    (inner.0, inner.1, (e ∷ inner.2.0, ap (λ l. e ∷ l) inner.2.1)))
    (cases_Bool (pass_of e == pass))
  where
    first : List Entry → Entry
    first [] = entry
    first (e ∷ l) = e

-- ---- what the cache replied there

pub told_at : (b : Board) (request : Request) (said : Reply) (segment : Option ℕ) (p q : Pass) → GoesOn b p q → AddsEntry (Wrote (number p) request said segment) p q
    → (history : List Entry) × IsTold b.shape (number p) request said segment (seen p) (seen q) history
told_at b request said segment p q on adds =
    let z = b.shape in let entry = Wrote (number p) request said segment in
    let one : mine (number p) (on.seen.0 ++ seen p) ≡ entry ∷ mine (number p) (seen p) =
    ap (mine (number p)) (sym on.seen.1) ∙ subst (λ n. mine n (seen q) ≡ entry ∷ mine (number p) (seen p))
    on.same adds in
    let came = came_in (number p) entry on.seen.0 (seen p) one in
    let now = subst (Begins (entry ∷ came.0)) (sym on.seen.1) came.2 in
    let lawful = legal z (trace q) on.quiet.pass.lawful in
    (came.0, record { since = came.1; entered = now; replied = (earlier_legal z (entry ∷ came.0) (seen q) now lawful).1.0 })

-- the same from the first step of the call on
pub told_since : (b : Board) (request : Request) (said : Reply) (segment : Option ℕ) (p q : Pass) → GoesOn b p q → AddsEntry (Wrote (number p) request said segment) p q
    → SinceFirst p q (λ start. (history : List Entry) × IsTold b.shape (number p) request said segment (event.seen start) (seen q) history)
told_since b request said segment p q on adds = by on.steps
  where
    by : TakesSteps p q → SinceFirst p q (λ start. (history : List Entry) × IsTold b.shape (number p) request said segment (event.seen start) (seen q) history)
    by (inl (start, s)) =
        let z = b.shape in let n = number p in let entry = Wrote n request said segment in let old = event.seen start in
        let up : Begins old (seen q) = seen_begins start (trace q) s.until in
        let before : mine n old ≡ mine n (seen p) = ap (λ h. mine n (event.seen h)) s.since ∙ mine_others n s.others (trace p) s.none in
        let one : mine n (up.0 ++ old) ≡ entry ∷ mine n old = ap (mine n) (sym up.1) ∙ (subst (λ m. mine m (seen q) ≡ entry ∷ mine n (seen p)) on.same adds ∙ ap (λ l. entry ∷ l) (sym before)) in
        let came = came_in n entry up.0 old one in
        let now = subst (Begins (entry ∷ came.0)) (sym up.1) came.2 in
        (start, s, (came.0, record { since = came.1; entered = now; replied = (earlier_legal z (entry ∷ came.0) (seen q) now (legal z (trace q) on.quiet.pass.lawful)).1.0 }))
    by (inr t) =
        let same : mine (number q) (seen q) ≡ mine (number p) (seen p) = λ i. mine (on.same i) (event.seen (t.1 i)) in
        absurd (let longer : length (mine (number p) (seen p)) ≡ suc (length (mine (number p) (seen p))) = ap length (sym same ∙ adds) in omega (arith, longer))

-- a set is replied Stored alone
pub stores_always : (b : Board) (key value : List ℕ) (now : ℕ) (told : WriteAnswer) (p q : Pass) → Writes b (Set key value now) told p q → IsSetAnswer told
stores_always b key value now told p q w = by told w.answer
  where
    other : (said : Reply) → AddsEntry (Wrote (number p) (Set key value now) said None) p q → said ≡ reply.Stored
    other said adds = (told_at b (Set key value now) said None p q w.on adds).1.replied

    by : (told : WriteAnswer) → IsWriteAnswer b.shape (Set key value now) told p q → IsSetAnswer told
    by write.NotStored answer = let e : reply.NotStored ≡ reply.Stored = other reply.NotStored answer.0 in cc
    by write.Exists answer = let e : reply.Exists ≡ reply.Stored = other reply.Exists answer.0 in cc
    by write.NotFound answer = let e : reply.NotFound ≡ reply.Stored = other reply.NotFound answer.0 in cc
    by write.Stored answer = tt
    by write.NoRoom answer = tt
    by write.BucketFull answer = tt
    by write.Busy answer = tt

-- the entry of an answer that tells a reply
adds_reply : (b : Board) (request : Request) (told : WriteAnswer) (said : Reply) (p q : Pass)
    → IsWriteAnswer b.shape request told p q → reply_of_write told ≡ Some said → (segment : Option ℕ)
    × AddsEntry (Wrote (number p) request said segment) p q
adds_reply b request write.Stored said p q answer is = (Some answer.0, subst (λ r. AddsEntry (Wrote (number p) request r (Some answer.0)) p q) (same_Some reply.Stored said is) answer.1)
adds_reply b request write.NotStored said p q answer is = (None, subst (λ r. AddsEntry (Wrote (number p) request r None) p q) (same_Some reply.NotStored said is) answer.0)
adds_reply b request write.Exists said p q answer is = (None, subst (λ r. AddsEntry (Wrote (number p) request r None) p q) (same_Some reply.Exists said is) answer.0)
adds_reply b request write.NotFound said p q answer is = (None, subst (λ r. AddsEntry (Wrote (number p) request r None) p q) (same_Some reply.NotFound said is) answer.0)
adds_reply b request write.NoRoom said p q answer is = absurd (none-some said is)
adds_reply b request write.BucketFull said p q answer is = absurd (none-some said is)
adds_reply b request write.Busy said p q answer is = absurd (none-some said is)

pub write_told : (b : Board) (request : Request) (told : WriteAnswer) (said : Reply) (p q : Pass)
    → Writes b request told p q → reply_of_write told ≡ Some said
    → WasTold b.shape (number p) request said (seen p) (seen q)
write_told b request told said p q w is = let added = adds_reply b request told said p q w.answer is in (added.0, told_at b request said added.0 p q w.on added.1)

pub write_since : (b : Board) (request : Request) (told : WriteAnswer) (said : Reply) (p q : Pass)
    → Writes b request told p q → reply_of_write told ≡ Some said
    → SinceFirst p q (λ start. WasTold b.shape (number p) request said (event.seen start) (seen q))
write_since b request told said p q w is = let added = adds_reply b request told said p q w.answer is in let t = told_since b request said added.0 p q w.on added.1 in (t.0, t.1, (added.0, t.2))

delete_adds : (b : Board) (key : List ℕ) (now : ℕ) (told : DeleteAnswer) (said : Reply) (p q : Pass)
    → IsDeleteAnswer b.shape key now told p q → reply_of_delete told ≡ Some said
    → AddsEntry (Wrote (number p) (Delete key now) said None) p q
delete_adds b key now delete.Deleted said p q answer is = subst (λ r. AddsEntry (Wrote (number p) (Delete key now) r None) p q) (same_Some reply.Deleted said is) answer.0
delete_adds b key now delete.NotFound said p q answer is = subst (λ r. AddsEntry (Wrote (number p) (Delete key now) r None) p q) (same_Some reply.NotFound said is) answer.0
delete_adds b key now delete.Busy said p q answer is = absurd (none-some said is)

pub delete_since : (b : Board) (key : List ℕ) (now : ℕ) (told : DeleteAnswer) (said : Reply) (p q : Pass)
    → Deletes b key now told p q → reply_of_delete told ≡ Some said
    → SinceFirst p q (λ start. WasTold b.shape (number p) (Delete key now) said (event.seen start) (seen q))
delete_since b key now told said p q d is = let t = told_since b (Delete key now) said None p q d.on (delete_adds b key now told said p q d.answer is) in (t.0, t.1, (None, t.2))

-- ---- the version law

module _ (b : Board) (key read value : List ℕ) (version now : ℕ) (told : WriteAnswer) (said : Reply) (p q : Pass)
    (few : b.shape.first_version < 2 ^ 32) (w : Writes b (Cas key value version now) told p q)
    (is : reply_of_write told ≡ Some said) where
  abbrev there : WasTold b.shape (number p) (Cas key value version now) said (seen p) (seen q)
  there = write_told b (Cas key value version now) told said p q w is

  legal_there : IsLegal b.shape there.1.0
  legal_there =
      let z = b.shape in let entry = Wrote (number p) (Cas key value version now) said there.0 in
      (earlier_legal z (entry ∷ there.1.0) (seen q) there.1.1.entered (legal z (trace q) w.on.quiet.pass.lawful)).0

  pub cas_told : (then' : ℕ) (before : List Entry)
      → reads_version b.shape (after b.shape before) then' key ≡ Some (read, version) → Begins before there.1.0
      → said ≡ cas_reply b.shape key now before there.1.0
  cas_told then' before got begins = there.1.1.replied ∙ cas_fails b.shape before there.1.0 then' now key read value version few legal_there begins got
