-- The entry of a put that is Stored came in during the put.
use Rattle.std.proofs.Common.{◌≡◌, ℕ, suc, ◌==◌, List, [], ◌∷◌, ◌++◌, length, Some, inl, inr, refl, sym, ap, ◌∙◌, subst, ⊎_elim, arith, length-append}
use Rattle.std.proofs.lemmas.Bool.{cases_Bool, cond-true, cond-false}
use Rattle.segmodel.specs.declared.entry.Entry.TheVariants.{Wrote}
use Rattle.segmodel.specs.declared.request.Request.TheVariants.{Set}
use Rattle.segmodel.specs.declared.request.Reply.TheVariants.{Stored}
use Rattle.segmodel.specs.Words.{Begins, Entry, mine, pass_of}
use Rattle.segmodel.proofs.LawLemmas.{earlier_legal}
use Rattle.segcore.specs.Event as event
use Rattle.segcore.proofs.Counts.{mine_others}
use Rattle.segcore.proofs.Moments.{seen_begins}
use Rattle.segcore.proofs.Standing.{legal}
use Rattle.segbase.specs.Words.{mine as mine_of, number, seen, SinceFirst, TakesSteps, trace}
use Rattle.segstore.specs.Words.{GoesOn}
use Rattle.segevict.proofs.RowsOut.{goes_then}
use Rattle.segindex.specs.Words.{board_of, Index, shape_of, StoresBetween}
use Rattle.segindex.proofs.LaterReads.{stored_stands}
use Rattle.segclient.specs.declared.member.Member.{Member}
use Rattle.segclient.specs.declared.put.PutAnswer.TheVariants as put
use Rattle.segclient.specs.Clearing.{effort_of_steps}
use Rattle.segclient.specs.Entries.{AddsForPut}
use Rattle.segclient.specs.Member.{IsMember}
use Rattle.segclient.specs.PutParts.{effort_of}
use Rattle.segclient.specs.Puts.{PutsFor}
use Rattle.segclient.proofs.Added.{chosen_on, put_adds}
use Rattle.segclient.proofs.Calls.{makes_on}
use Rattle.segclient.proofs.Steps.{clears_on}

-- A pass added entries, this one last: the history goes on from one in which it came in
came_last : (pass : ℕ) (entry : Entry) (others more old : List Entry) → mine pass (more ++ old) ≡ entry ∷ (others ++ mine pass old)
    → (history : List Entry) × Begins old history × Begins (entry ∷ history) (more ++ old)
came_last pass entry others [] old all = absurd (
    let same : length (mine pass old) ≡ suc (length (others ++ mine pass old)) = ap length all in
    let both = length-append others (mine pass old) in
    omega (arith, same, both))
came_last pass entry others (e ∷ more) old all = ⊎_elim
    (λ t.
    let same = sym (cond-true (pass_of e == pass) (e ∷ mine pass (more ++ old)) (mine pass (more ++ old)) t) ∙ all in
    (more ++ old, (more, refl), ([], ap (λ l. first l ∷ (more ++ old)) same)))
    (λ f.
    let inner = came_last pass entry others more old (sym (cond-false (pass_of e == pass) (e ∷ mine pass (more ++ old)) (mine pass (more ++ old)) f) ∙ all) in
    (inner.0, inner.1, (e ∷ inner.2.0, ap (λ l. e ∷ l) inner.2.1)))
    (cases_Bool (pass_of e == pass))
  where
    first : List Entry → Entry
    first [] = entry
    first (e ∷ l) = e

abbrev rest_of : List Entry → List Entry
rest_of [] = []
rest_of (e ∷ l) = l

-- so it is if the pass added more after that one
came_in : (pass : ℕ) (entry : Entry) (later others more old : List Entry) → mine pass (more ++ old) ≡ later ++ entry ∷ (others ++ mine pass old)
    → (history : List Entry) × Begins old history × Begins (entry ∷ history) (more ++ old)
came_in pass entry [] others more old all = came_last pass entry others more old all
came_in pass entry (next ∷ later) others [] old all = absurd (
    let same : length (mine pass old) ≡ suc (length (later ++ entry ∷ (others ++ mine pass old))) = ap length all in
    let both = length-append later (entry ∷ (others ++ mine pass old)) in
    let last = length-append others (mine pass old) in
    omega (arith, same, both, last))
came_in pass entry (next ∷ later) others (e ∷ more) old all = ⊎_elim
    (λ t.
    let same = sym (cond-true (pass_of e == pass) (e ∷ mine pass (more ++ old)) (mine pass (more ++ old)) t) ∙ all in
    let inner = came_in pass entry later others more old (ap rest_of same) in
    (inner.0, inner.1, (e ∷ inner.2.0, ap (λ l. e ∷ l) inner.2.1)))
    (λ f.
    let inner = came_in pass entry (next ∷ later) others more old (sym (cond-false (pass_of e == pass) (e ∷ mine pass (more ++ old)) (mine pass (more ++ old)) f) ∙ all) in
    (inner.0, inner.1, (e ∷ inner.2.0, ap (λ l. e ∷ l) inner.2.1)))
    (cases_Bool (pass_of e == pass))

pub put_stands : (i : Index) (time : ℕ) (key value : List ℕ) (old new : Member) → IsMember i old → PutsFor time key value put.Stored (board_of i) old new
    → SinceFirst old.pass new.pass (λ start. StoresBetween (shape_of i) (number old.pass) (Set key value old.clock) (event.seen start) (seen new.pass))
put_stands i time key value old new member puts = by on.steps
  where
    on : GoesOn (board_of i) old.pass new.pass
    on =
        let b = board_of i in
        let from = chosen_on b old.pass puts.chosen member.0 puts.chooses.chooses in
        let made = makes_on b (record {
          request = Some (Set key value old.clock);
          cutoff = old.cutoff;
          deadline = puts.until;
          window = puts.window;
        }) puts.calls puts.chosen puts.between from.on.quiet puts.makes
        in
        goes_then b old.pass puts.between new.pass (goes_then b old.pass puts.chosen puts.between from.on made)
        (clears_on b old.cutoff puts.steps puts.between new.pass made.quiet puts.clears)

    adds : AddsForPut (shape_of i) (number old.pass) old.cutoff (Set key value old.clock) puts.until put.Stored
        (effort_of puts.calls) (effort_of_steps puts.steps) (mine_of old.pass) (mine_of new.pass)
    adds = put_adds i time key value old new member put.Stored puts

    n : ℕ
    n = number old.pass

    stored : Entry
    stored = Wrote n (Set key value old.clock) Stored (Some adds.2.0)

    others : List Entry
    others = adds.1.more

    later : List Entry
    later = adds.2.1.more

    added : mine n (seen new.pass) ≡ later ++ stored ∷ (others ++ mine n (seen old.pass))
    added = ap (λ i. mine i (seen new.pass)) (sym on.same) ∙ adds.2.1.entries ∙ ap (λ l. later ++ stored ∷ l) adds.1.entries

    by : TakesSteps old.pass new.pass → SinceFirst old.pass new.pass (λ start. StoresBetween (shape_of i) n (Set key value old.clock) (event.seen start) (seen new.pass))
    by (inl (start, s)) =
        let z = shape_of i in let first = event.seen start in
        let up : Begins first (seen new.pass) = seen_begins start (trace new.pass) s.until in
        let before : mine n first ≡ mine n (seen old.pass) = ap (λ h. mine n (event.seen h)) s.since ∙ mine_others n s.others (trace old.pass) s.none in
        let came = came_in n stored later others up.0 first (ap (mine n) (sym up.1) ∙ (added ∙ ap (λ l. later ++ stored ∷ (others ++ l)) (sym before))) in
        let entered = subst (Begins (stored ∷ came.0)) (sym up.1) came.2 in (
          start,
          s,
          record {
            segment = adds.2.0;
            history = came.0;
            told = record {
              since = came.1;
              entered = entered;
              replied = (earlier_legal z (stored ∷ came.0) (seen new.pass) entered (legal z (trace new.pass) on.quiet.pass.lawful)).1.0;
            };
            stood = stored_stands z n (Set key value old.clock) adds.2.0 came.0;
          },
        )
    by (inr t) = absurd (
        let same : length (mine n (seen old.pass)) ≡ length (later ++ stored ∷ (others ++ mine n (seen old.pass))) = ap length (ap (λ h. mine n (event.seen h)) (sym t.1) ∙ added) in
        let both = length-append others (mine n (seen old.pass)) in
        let all = length-append later (stored ∷ (others ++ mine n (seen old.pass))) in
        omega (arith, same, both, all))
