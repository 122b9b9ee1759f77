-- Where a step changes its word as the history says, it keeps the invariant.
use Rattle.std.proofs.Common.{◌≡◌, ◌≢◌, ℕ, suc, ◌<◌, ◌≤◌, cond, List, [], ◌∷◌, ◌++◌, length, get_or, set, sym, refl, ap, ◌∙◌, subst, ⊎_elim, arith, append_assoc, get_or-set_same, get_or-set_other, length-set}
use Rattle.std.proofs.lemmas.Bool.{cases_Bool}
use mathlib.Core.Option.{some}
use lib.ListN.{get_elem?}
use Rattle.atomic_table.proofs.Lists.{at_set}
use Rattle.segword.specs.Words.{Shape, word_count}
use Rattle.segcore.specs.Words.{Cell, Event, View}
use Rattle.segcore.specs.Event.{NoneBy, AllBy}
use Rattle.segcore.specs.Kind.{Step, cell, becomes, adds, KeepsLaw}
use Rattle.segcore.specs.Word.{IsCell, same_cell, address, word}
use Rattle.segcore.specs.World.{Knows, Lawful, steps_of}
use Rattle.segcore.proofs.Addresses.{in_count, apart, same_place}
pub use Rattle.segcore.proofs.Timed.{inside_list}
use Rattle.segcore.proofs.Timed.{timed_step}

pub none_after : (p q : ℕ) (xs ys : List Event) → AllBy p xs → q ≢ p → NoneBy q ys → NoneBy q (xs ++ ys)
none_after p q [] ys a ne n = n
none_after p q (e ∷ xs) ys a ne n = ((λ same. ne (sym same ∙ a.0)), none_after p q xs ys a.1 ne n)

each_word : (z : Shape) (ws : List ℕ) (F G : Cell → ℕ) (d : Cell) (x : ℕ) → IsCell z d → length ws ≡ word_count z → ((c : Cell) → IsCell z c → get_or ws (address z c) 0 ≡ F c)
    → ((c : Cell) → IsCell z c → G c ≡ cond (same_cell d c) x (F c)) → (c : Cell) → IsCell z c → get_or (set ws (address z d) x) (address z c) 0 ≡ G c
each_word z ws F G d x here long each words c is = ⊎_elim
    (λ t. let e = same_place d c t in let w : G c ≡ x = words c is ∙ rw t refl in
    subst (λ y. get_or (set ws (address z d) x) (address z y) 0 ≡ x) e (get_or-set_same ws (address z d) x 0 (subst (λ n. address z d < n) (sym long) (in_count z d here))) ∙ sym w)
    (λ f. let w : G c ≡ F c = words c is ∙ rw f refl in
    get_or-set_other ws (address z d) (address z c) x 0 (λ e. apart z d c here is f (sym e)) ∙ each c is ∙ sym w)
    (cases_Bool (same_cell d c))

pub steps : (z : Shape) (ws : List ℕ) (views : List View) (h : List Event) (p : ℕ) (v : View) (st : Step) → Lawful z ws views h → get_elem? views p ≡ some v → KeepsLaw z st p h
    → let found = get_or ws (address z (cell st)) 0 in
    Lawful z (set ws (address z (cell st)) (becomes st found))
    (set views p (record v { trace = adds st p found ++ h; looks = h ∷ v.looks; turn = suc (steps_of views) }))
    (adds st p found ++ h)
steps z ws views h p v st l at k =
    let found = get_or ws (address z (cell st)) 0 in
    let f : word z h (cell st) ≡ found = sym (l.each (cell st) k.inside) in
    let w : View = record v { trace = adds st p found ++ h; looks = h ∷ v.looks; turn = suc (steps_of views) } in
    let own : AllBy p (adds st p found) = rw (← f) k.own in
    record {
      valid = l.valid;
      legal = rw (← f) k.legal;
      long = length-set ws (address z (cell st)) (becomes st found) ∙ l.long;
      each = each_word z ws (word z h) (word z (adds st p found ++ h)) (cell st) (becomes st found) k.inside l.long l.each (rw (← f) k.words);
      knows = λ q u is. ⊎_elim
          (λ t. subst (λ (x : View). Knows q x (adds st p found ++ h)) t.1 (record { number = (l.knows p v at).number ∙ sym t.0; more = []; rest = refl; others = tt }))
          (λ t. let old = l.knows q u t.1 in record {
            number = old.number;
            more = adds st p found ++ old.more;
            rest = ap (λ x. adds st p found ++ x) old.rest
                ∙ sym (append_assoc (adds st p found) old.more u.trace);
            others = none_after p q (adds st p found) old.more own t.0 old.others;
          })
          (at_set views p q w u is);
      later = λ q past. let short : length views ≤ q = omega (arith, length-set views p w) in
          none_after p q (adds st p found) h own (λ e. let i = inside_list views p v at in omega arith) (l.later q short);
      dealt = λ u is. ⊎_elim
          (λ t. subst (λ (x : View). x.dealt ≡ length (set views p w)) t.1 (l.dealt v (rw t.0 at) ∙ sym (length-set views p w)))
          (λ t. l.dealt u t.1 ∙ sym (length-set views p w))
          (at_set views p 0 w u is);
      timed = timed_step views h p v w l.timed at refl refl (λ q u is. let k = l.knows q u is in (k.more, k.rest));
    }
