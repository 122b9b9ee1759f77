-- The readers of a segment are those of all passes together.
use Rattle.std.proofs.Common.{◌≡◌, ◌≢◌, ℕ, zero, suc, ◌+◌, ◌-◌, ◌*◌, ◌<◌, ◌≤◌, Bool, true, false, cond, eqb, ◌&&◌, List, [], ◌∷◌, ◌++◌, Some, None, sym, refl, ap, ◌∙◌, subst, ⊎_elim, Option, option_map, arith}
use Rattle.std.proofs.lemmas.Bool.{cases_Bool, cases_eq, cases_lt, eqb-true, eq-eqb, ne_eqb, and_parts, and_from, cond-true, cond-false}
use Rattle.std.proofs.lemmas.Option.{same_Some, none-some}
use Rattle.segword.specs.Words.{Shape}
use Rattle.segmodel.specs.Words.{after, Cached, key_of, NoneStandsIn, owner, Request, value_of}
use Rattle.segmodel.specs.Cache.{with_segment}
use Rattle.segcore.proofs.Caches.{put, stands, stands_wrote, stands_moved, HasValueIn, has_value, stands_in}
use Rattle.segmodel.specs.declared.request.Reply.TheVariants.{Stored}
use Rattle.segcore.specs.Event.{by, seen, NoneBy}
use Rattle.segcore.specs.Lawful.{Fits, IsLawful}
use Rattle.segcore.specs.Mark.{same_key}
use Rattle.segcore.specs.Standing.{cached}
use Rattle.segcore.specs.Segment.{inside, readers}
use Rattle.segcore.specs.Words.{Event}
use Rattle.segcore.specs.declared.event.Event.TheVariants.{Replied, Linked, Relinked, Unlinked, Entered, Left}
use Rattle.segcore.proofs.Quiet.{linked_first, moved_first}
use Rattle.segcore.proofs.Standing.{same_cond, refused, gone}

abbrev total : (ℕ → ℕ) → ℕ → ℕ
total f zero = 0
total f (suc n) = total f n + f n

total_same : (f g : ℕ → ℕ) (n : ℕ) → ((q : ℕ) → q < n → g q ≡ f q) → total g n ≡ total f n
total_same f g zero e = refl
total_same f g (suc n) e = let a = total_same f g n (λ q lt. e q (omega arith)) in let b = e n (omega arith) in omega arith

-- two counts that differ at p alone
total_at : (f g : ℕ → ℕ) (p n : ℕ) → p < n → ((q : ℕ) → q ≢ p → g q ≡ f q) → total g n + f p ≡ total f n + g p
total_at f g p zero lt e = absurd (omega arith)
total_at f g p (suc n) lt e = ⊎_elim
    (λ same. let a = total_same f g n (λ q l. e q (λ h. omega arith)) in let b = ap f same in let d = ap g same in omega arith)
    (λ ne. let a = total_at f g p n (omega arith) e in let b = e n (λ h. ne (sym h)) in omega arith)
    (cases_eq p n)

part : (f : ℕ → ℕ) (p n : ℕ) → p < n → f p ≤ total f n
part f p zero lt = absurd (omega arith)
part f p (suc n) lt = ⊎_elim (λ same. let a = ap f same in omega arith) (λ ne. let a = part f p n (omega arith) in omega arith) (cases_eq p n)

few : (f : ℕ → ℕ) (n : ℕ) → ((q : ℕ) → f q ≤ 2) → total f n ≤ n * 2
few f zero e = omega arith
few f (suc n) e = let a = few f n e in let b = e n in omega arith

none_yet : (n : ℕ) → 0 ≡ total (λ q. 0) n
none_yet zero = refl
none_yet (suc n) = let a = none_yet n in omega arith

off : (a b : Bool) → b ≡ false → (x y : ℕ) → cond (a && b) x y ≡ y
off true b e x y = rw e refl
off false b e x y = refl

not_same : (a b c d : ℕ) → a ≢ c → (eqb a c && eqb b d) ≡ false
not_same a b c d ne = rw (ne_eqb a c ne) refl

pub at_most : (z : Shape) (h : List Event) → IsLawful z h → (p s : ℕ) → inside h p s ≤ 2
at_most z [] l p s = omega arith
at_most z (Entered q t ∷ h) l p s = let a = at_most z h l.0 p s in ⊎_elim
    (λ y. let w = and_parts (eqb q p) (eqb t s) y in let lt : inside h p s < 2 = rw (← eqb-true q p w.0, ← eqb-true t s w.1) l.1.suits.2 in rw y (omega arith))
    (λ n. rw n a)
    (cases_Bool (eqb q p && eqb t s))
at_most z (Left q t ∷ h) l p s = let a = at_most z h l.0 p s in ⊎_elim (λ y. rw y (omega arith)) (λ n. rw n a) (cases_Bool (eqb q p && eqb t s))
at_most z (e ∷ h) l p s = at_most z h l.0 p s

all_readers : (z : Shape) (h : List Event) → IsLawful z h → (s : ℕ) → readers h s ≡ total (λ q. inside h q s) z.passes
all_readers z [] l s = none_yet z.passes
all_readers z (Entered q t ∷ h) l s = let ih = all_readers z h l.0 s in ⊎_elim
    (λ y. let f : ℕ → ℕ = λ r. inside h r s in let g : ℕ → ℕ = λ r. inside (Entered q t ∷ h) r s in
    let a = total_at f g q z.passes l.1.suits.0 (λ r ne. rw (not_same q t r s (λ e. ne (sym e))) refl) in
    let b : g q ≡ f q + 1 = cond-true (eqb q q && eqb t s) (inside h q s + 1) (inside h q s) (and_from (eqb q q) (eqb t s) (eq-eqb q q refl) y) in
    let d : readers (Entered q t ∷ h) s ≡ readers h s + 1 = rw y refl in omega arith)
    (λ n. let a = total_same (λ r. inside h r s) (λ r. inside (Entered q t ∷ h) r s) z.passes (λ r lt. off (eqb q r) (eqb t s) n (inside h r s + 1) (inside h r s)) in
    let d : readers (Entered q t ∷ h) s ≡ readers h s = rw n refl in omega arith)
    (cases_Bool (eqb t s))
all_readers z (Left q t ∷ h) l s = let ih = all_readers z h l.0 s in ⊎_elim
    (λ y. let f : ℕ → ℕ = λ r. inside h r s in let g : ℕ → ℕ = λ r. inside (Left q t ∷ h) r s in
    let a = total_at f g q z.passes l.1.suits.0 (λ r ne. rw (not_same q t r s (λ e. ne (sym e))) refl) in
    let b : g q ≡ f q - 1 = cond-true (eqb q q && eqb t s) (inside h q s - 1) (inside h q s) (and_from (eqb q q) (eqb t s) (eq-eqb q q refl) y) in
    let lt : 0 < f q = rw (← eqb-true t s y) l.1.suits.2 in
    let m = part f q z.passes l.1.suits.0 in
    let d : readers (Left q t ∷ h) s ≡ readers h s - 1 = rw y refl in omega arith)
    (λ n. let a = total_same (λ r. inside h r s) (λ r. inside (Left q t ∷ h) r s) z.passes (λ r lt. off (eqb q r) (eqb t s) n (inside h r s - 1) (inside h r s)) in
    let d : readers (Left q t ∷ h) s ≡ readers h s = rw n refl in omega arith)
    (cases_Bool (eqb t s))
all_readers z (e ∷ h) l s = all_readers z h l.0 s

pub counted : (z : Shape) (h : List Event) → IsLawful z h → (s : ℕ) → readers h s ≤ z.passes * 2
counted z h l s = let a = all_readers z h l s in let b = few (λ q. inside h q s) z.passes (λ q. at_most z h l q s) in omega arith

-- a reader is counted
pub is_counted : (z : Shape) (h : List Event) → IsLawful z h → (p s : ℕ) → p < z.passes → inside h p s ≤ readers h s
is_counted z h l p s lt = let a = all_readers z h l s in let b = part (λ q. inside h q s) p z.passes lt in omega arith

some_part : (f : ℕ → ℕ) (n : ℕ) → 0 < total f n → (p : ℕ) × (0 < f p)
some_part f zero lt = absurd (omega arith)
some_part f (suc n) lt = ⊎_elim (λ here. (n, here)) (λ none. some_part f n (omega arith)) (cases_lt 0 (f n))

-- and a count that isn't 0 has a reader
pub some_reader : (z : Shape) (h : List Event) → IsLawful z h → (s : ℕ) → 0 < readers h s → (p : ℕ) × (0 < inside h p s)
some_reader z h l s lt = some_part (λ q. inside h q s) z.passes (let a = all_readers z h l s in omega arith)

-- ---- a segment of one's own in which nothing stands

-- what stands in a segment after a move was moved there
in_moved : (o : Option Cached) (t : ℕ) (v : List ℕ) (s : ℕ) → option_map (with_segment t) o ≡ Some (cached v s) → t ≡ s
in_moved None t v s e = absurd (none-some (cached v s) e)
in_moved (Some x) t v s e = ap (λ (y : Cached). y.segment) (same_Some (with_segment t x) (cached v s) e)

-- an event that links nothing into a segment, and moves nothing there, brings no key there
pub still_empty : (z : Shape) (h : List Event) (e : Event) (s : ℕ) (k : List ℕ) → Fits z h e → ((p : ℕ) (q : Request) (row n : ℕ) → e ≢ Linked p q s row n)
    → ((p : ℕ) (k : List ℕ) (a i row n : ℕ) → e ≢ Relinked p k a i s row n) → HasValueIn z (seen (e ∷ h)) k s → HasValueIn z (seen h) k s
still_empty z h (Replied q r y) s k f ne ne' is' = (
  is'.0,
  sym (stands_wrote z q r y None (seen h) k
      ∙ same_cond (same_key (key_of r) k) (put r y None (stands z (seen h) k)) (stands z (seen h) k)
      (refused r y None (stands z (seen h) k) f.suits)) ∙ is'.1,
)
still_empty z h (Linked q r t row n) s k f ne ne' is' = ⊎_elim
    (λ y. let e : Some (cached (value_of r) t) ≡ Some (cached is'.0 s) =
    sym (stands_wrote z q r Stored (Some t) (seen h) k
    ∙ cond-true (same_key (key_of r) k) (Some (cached (value_of r) t)) (stands z (seen h) k) y) ∙ is'.1 in
    let st : t ≡ s = ap (λ (x : Cached). x.segment) (same_Some (cached (value_of r) t) (cached is'.0 s) e) in absurd (ne q r row n (ap (λ x. Linked q r x row n) st)))
    (λ n'. (is'.0, sym (stands_wrote z q r Stored (Some t) (seen h) k ∙ cond-false (same_key (key_of r) k) (Some (cached (value_of r) t)) (stands z (seen h) k) n') ∙ is'.1))
    (cases_Bool (same_key (key_of r) k))
still_empty z h (Relinked q k0 a i t row n) s k f ne ne' is' = let m = stands_moved z q k0 a t (seen h) k in ⊎_elim
    (λ y. let x = in_moved (stands z (seen h) k) t is'.0 s (sym (m ∙ cond-true (same_key k0 k) (option_map (with_segment t) (stands z (seen h) k)) (stands z (seen h) k) y) ∙ is'.1) in
    absurd (ne' q k0 a i row n (ap (λ x. Relinked q k0 a i x row n) x)))
    (λ n'. (is'.0, sym (m ∙ cond-false (same_key k0 k) (option_map (with_segment t) (stands z (seen h) k)) (stands z (seen h) k) n') ∙ is'.1))
    (cases_Bool (same_key k0 k))
still_empty z h (Unlinked q k0 n why) s k f ne ne' is' = let g = sym (gone z q k0 why h k) ∙ is'.1 in ⊎_elim
    (λ y. absurd (none-some (cached is'.0 s) (sym (cond-true (same_key k0 k) None (stands z (seen h) k) y) ∙ g)))
    (λ n'. (is'.0, sym (cond-false (same_key k0 k) None (stands z (seen h) k) n') ∙ g))
    (cases_Bool (same_key k0 k))
still_empty z h e s k f ne ne' is' = is'

-- others link nothing into a segment of one's own, and move nothing there
linked_by_owner : (z : Shape) (h : List Event) (e : Event) (s : ℕ) → Fits z h e → owner z s ≢ by e → (p : ℕ) (q : Request) (row n : ℕ) → e ≢ Linked p q s row n
linked_by_owner z h e s f ne p q row n is' = ne ((linked_first z h p q s row n (subst (Fits z h) is' f).suits).2 ∙ sym (ap by is'))

moved_by_owner : (z : Shape) (h : List Event) (e : Event) (s : ℕ) → Fits z h e → owner z s ≢ by e → (p : ℕ) (k : List ℕ) (a i row n : ℕ) → e ≢ Relinked p k a i s row n
moved_by_owner z h e s f ne p k a i row n is' = ne ((moved_first z h p k a i s row n (subst (Fits z h) is' f).suits).2 ∙ sym (ap by is'))

pub empty_stays : (z : Shape) (more h : List Event) (s : ℕ) → IsLawful z (more ++ h) → NoneBy (owner z s) more → NoneStandsIn (after z (seen h)) s → NoneStandsIn (after z (seen (more ++ h))) s
empty_stays z [] h s l n none k is' = none k is'
empty_stays z (e ∷ more) h s l n none k is' =
    empty_stays z more h s l.0 n.1 none k (stands_in z (seen (more ++ h)) k s (still_empty z (more ++ h) e s k l.1
    (linked_by_owner z (more ++ h) e s l.1 (λ q. n.0 (sym q))) (moved_by_owner z (more ++ h) e s l.1 (λ q. n.0 (sym q))) (has_value z (seen (e ∷ (more ++ h))) k s is')))
