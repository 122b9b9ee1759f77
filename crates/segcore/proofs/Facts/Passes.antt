-- What a lawful world says of its passes: one history, whose bits are set, and what each knows for certain.
use Rattle.std.proofs.Common.{◌≡◌, ◌≢◌, ℕ, zero, suc, ◌+◌, ◌*◌, ◌<◌, ◌≤◌, List, [], ◌∷◌, ◌++◌, length, get_or, Option, Some, None, sym, refl, ap, ◌∙◌, subst, inl, inr, ⊎_elim, arith}
use Rattle.std.proofs.lemmas.Bool.{cases_eq, cases_lt}
use Rattle.std.proofs.lemmas.Option.{same_Some, none-some}
use mathlib.Core.Option.{some}
use lib.ListN.{get_elem?}
use Rattle.atomic_table.proofs.Lists.{set_here}
use Rattle.segword.specs.Words.{Shape}
use Rattle.segmodel.specs.Words.{AreOne}
use Rattle.segcore.specs.Words.{Event, View}
use Rattle.segcore.specs.declared.cell.Cell.TheVariants.{OfOverflow}
use Rattle.segcore.specs.Event.{NoneBy}
use Rattle.segcore.specs.Bucket.{Content, nothing, item, next, copy, Bucket, bucket_after}
use Rattle.segcore.specs.Overflow.{home, home_of}
use Rattle.segcore.specs.Row.{row_after}
use Rattle.segcore.specs.Lawful.{IsLawful}
use Rattle.segcore.specs.Word.{address, bit_of, content_word, word_in, overflow_word, word}
use Rattle.segcore.specs.Mark.{marked}
use Rattle.segcore.specs.Kind.{Step, cell, adds, HasBit}
use Rattle.segcore.specs.World.{Knows, steps_of, World, Reaches, IsLawfulWorld}
use Rattle.segcore.specs.Facts.{PassFacts, PassesFacts}
use Rattle.segcore.proofs.Coherent.{IsContent}
use Rattle.segcore.proofs.Quiet.{quiet, quiet_none, quiet_row, not_mine, home_stays}
use Rattle.segcore.proofs.Chains.{chain_of}
use Rattle.segcore.proofs.StepKinds.Words.{word_content}
use Rattle.segcore.proofs.KeepsLaw.{inside_list}
use Rattle.segcore.proofs.Buckets.{info_bit, set_bit}
use Rattle.segcore.proofs.Moments.{lawful_before, two_ends, marked_begins}

-- ---- one pass

-- what isn't an item has its word whatever comes
same_content : (h g : List Event) (b : ℕ) (u : Bucket) (n : ℕ) (c : Content) → 8 * u.chained + 8 ≤ n → IsContent g b u n c → content_word h c ≡ content_word g c
same_content h g b u n nothing far i = refl
same_content h g b u n (item a) far i = let lt = i.0 in absurd (omega arith)
same_content h g b u n (next m) far i = refl
same_content h g b u n (copy w) far i = refl

module _ (z : Shape) (p : ℕ) (more g : List Event) (l : IsLawful z (more ++ g)) (n : NoneBy p more) where
  draft : (b m w : ℕ) → HasBit z g p b → (bucket_after z g b).spare ≡ Some m → word z (more ++ g) (OfOverflow m w) ≡ word z g (OfOverflow m w)
  draft b m w has sp =
      let u = bucket_after z g b in
      let early = lawful_before z more g l in
      let c = chain_of z g early b in
      let at : home_of g m ≡ Some (home b (u.chained + 1)) = (c.spare m sp).1 in
      let x = 8 * (u.chained + 1) + w in
      ap (overflow_word z (more ++ g) w) (home_stays z more g m (home b (u.chained + 1)) l at)
      ∙ (ap (λ v. word_in z (more ++ g) v x) (quiet z more g p b l n has.1)
      ∙ (word_content z (more ++ g) u x (omega arith)
      ∙ (same_content (more ++ g) g b u x (u.items x) (omega arith) (c.contents x)
      ∙ (sym (word_content z g u x (omega arith)) ∙ sym (ap (overflow_word z g w) at)))))

says_of_pass : (z : Shape) (h : List Event) (p : ℕ) (v : View) → IsLawful z h → Knows p v h → PassFacts z h p v
says_of_pass z h p v l k = let l' : IsLawful z (k.more ++ v.trace) = subst (IsLawful z) k.rest l in record {
  number = k.number;
  more = k.more;
  rest = k.rest;
  others = k.others;
  quiet = λ b has. quiet_none z k.more v.trace p b l' k.others has.1;
  buckets = λ b has. ap (λ x. bucket_after z x b) k.rest ∙ quiet z k.more v.trace p b l' k.others has.1;
  rows = λ s r j own. ap (λ x. (row_after x s r).words j) k.rest ∙ ap (λ u. u.words j) (quiet_row z k.more v.trace s r l' (subst (λ x. NoneBy x k.more) (sym own) k.others));
  drafts = λ b m w has sp. ap (λ x. word z x (OfOverflow m w)) k.rest ∙ draft z p k.more v.trace l' k.others b m w has sp;
}

-- ---- bits

-- a pass that did nothing has no bit
not_his : (z : Shape) (h : List Event) (p b : ℕ) → NoneBy p h → (bucket_after z h b).holder ≢ Some p
not_his z [] p b n e = none-some p e
not_his z (e ∷ h) p b n has = not_mine z (e ∷ []) h p b (n.0, tt) (not_his z h p b n.1) has

pub in_list : {A : Type 0} (l : List A) (i : ℕ) → i < length l → (a : A) × (get_elem? l i ≡ some a)
in_list [] i lt = absurd (omega arith)
in_list (x ∷ xs) zero lt = (x, refl)
in_list (x ∷ xs) (suc i) lt = in_list xs i (omega arith)

-- the pass that has a bit knows it
knows_bit : (z : Shape) (h : List Event) (p b : ℕ) (v : View) → Knows p v h → (bucket_after z h b).holder ≡ Some p → (o : Option ℕ) → (bucket_after z v.trace b).holder ≡ o → o ≡ Some p
knows_bit z h p b v k held None was = absurd (not_mine z k.more v.trace p b k.others (λ e. none-some p (sym was ∙ e)) (sym (ap (λ x. (bucket_after z x b).holder) k.rest) ∙ held))
knows_bit z h p b v k held (Some q) was = ⊎_elim (λ e. ap Some e)
    (λ ne. absurd (not_mine z k.more v.trace p b k.others (λ e. ne (same_Some q p (sym was ∙ e))) (sym (ap (λ x. (bucket_after z x b).holder) k.rest) ∙ held)))
    (cases_eq q p)

module _ (z : Shape) (w : World) (l : IsLawfulWorld z w) where
  now_held : (p b : ℕ) (v : View) → get_elem? w.views p ≡ some v → HasBit z v.trace p b → (bucket_after z w.trace b).holder ≡ Some p
  now_held p b v at has = let k = l.knows p v at in ap (λ u. u.holder) ((says_of_pass z w.trace p v l.legal k).buckets b has) ∙ has.1

  set_by : (b p : ℕ) → b < z.buckets → (bucket_after z w.trace b).holder ≡ Some p → (p : ℕ) × (v : View) × (get_elem? w.views p ≡ some v) × HasBit z v.trace p b
  set_by b p lt held = ⊎_elim
      (λ there. let v = in_list w.views p there in (p, v.0, v.1, (lt, knows_bit z w.trace p b v.0 (l.knows p v.0 v.1) held (bucket_after z v.0.trace b).holder refl)))
      (λ past. absurd (not_his z w.trace p b (l.later p past) held))
      (cases_lt p (length w.views))

  one_of : (p q : ℕ) (u v : View) → get_elem? w.views p ≡ some u → get_elem? w.views q ≡ some v → AreOne u.trace v.trace
  one_of p q u v i j = let k = l.knows p u i in let m = l.knows q v j in two_ends k.more m.more u.trace v.trace (sym k.rest ∙ m.rest)

  marks_of_one : (u v : View) → AreOne u.trace v.trace → AreOne (marked u.trace) (marked v.trace)
  marks_of_one u v one = ⊎_elim (λ b. inl (marked_begins u.trace v.trace b)) (λ b. inr (marked_begins v.trace u.trace b)) one

longest : (z : Shape) (ss : List (ℕ × Step)) (w : World) → Reaches z ss w → 0 < length w.views → (p : ℕ) × (v : View) × (get_elem? w.views p ≡ some v) × (v.trace ≡ w.trace)
longest z [] w o lt = let v = in_list w.views 0 lt in (0, v.0, v.1, (o.new 0 v.0 v.1).unseen ∙ sym o.untouched)
longest z (s ∷ ss) w r lt = let b = r.0 in
    let v : View = record r.1 {
      trace = adds s.1 s.0 (get_or b.words (address z (cell s.1)) 0) ++ b.trace;
      looks = b.trace ∷ r.1.looks;
      turn = suc (steps_of b.views);
    } in
    (s.0, v, ap (λ x. get_elem? x.views s.0) r.5 ∙ set_here b.views s.0 v (inside_list b.views s.0 r.1 r.3), sym (ap (λ (x : World). x.trace) r.5))

pub says_of_passes : (z : Shape) (ss : List (ℕ × Step)) (w : World) → Reaches z ss w → IsLawfulWorld z w → PassesFacts z w
says_of_passes z ss w r l = record {
  each = λ p v at. says_of_pass z w.trace p v l.legal (l.knows p v at);
  one = one_of z w l;
  one_marked = λ p q u v i j. marks_of_one z w l u v (one_of z w l p q u v i j);
  longest = longest z ss w r;
  set = λ b lt is'. let held = set_bit (bucket_after z w.trace b).holder (sym (info_bit z w.trace b) ∙ is') in set_by z w l b held.0 lt held.1;
  clear = λ b p v at has. info_bit z w.trace b ∙ ap bit_of (now_held z w l p b v at has);
  holder = λ b p q u v i j has has'. same_Some p q (sym (now_held z w l p b u i has) ∙ now_held z w l q b v j has');
}
