-- Each kind of step changes its word as the history says: one lemma for each kind, by the word that it touches, and all of them together.
pub mod Words
pub mod Information
pub mod Items
pub mod Overflow
pub mod Frequencies
pub mod Rows
pub mod Segments
use Rattle.std.proofs.Common.{ℕ, ◌+◌, List, ◌++◌, sym, refl, ap, ◌∙◌, subst, arith}
use Rattle.segword.specs.Words.{IsValid, Shape}
use Rattle.segmodel.specs.Words.{bucket_of, key_of}
use Rattle.segcore.specs.Bucket.{last, fresh_position, bucket_after}
use Rattle.segcore.specs.Event.{NoneBy}
use Rattle.segcore.specs.Kind.{Step, take, release, info_look, glance, look, link, relink, clear, draw, fill, chain, bump, row_store, row_load, enter, leave, none_reading, May, KeepsLaw}
use Rattle.segcore.specs.Lawful.{IsLawful}
use Rattle.segcore.specs.Word.{IsAt}
use Rattle.segcore.specs.Words.{Event}
use Rattle.segcore.specs.declared.event.Event.TheVariants.{Filled, Linked, Relinked, Unlinked, Put, Chained, Entered, Left}
use Rattle.segcore.proofs.Quiet.{quiet, later, position_stays}
use Rattle.segcore.proofs.Cells.{at_stays}
use Rattle.segcore.proofs.Readers.{empty_stays}
use Rattle.segcore.proofs.StepKinds.Words.{nothing_new}
pub use Rattle.segcore.proofs.StepKinds.Words.{word_content, cell_in}
use Rattle.segcore.proofs.StepKinds.Information.{take_at, glance_at, bit_known, release_at, later_told}
use Rattle.segcore.proofs.StepKinds.Items.{link_at, relink_at, clear_at}
pub use Rattle.segcore.proofs.StepKinds.Items.{above}
use Rattle.segcore.proofs.StepKinds.Overflow.{fill_at, chain_at, draw_at}
use Rattle.segcore.proofs.StepKinds.Frequencies.{bump_at}
use Rattle.segcore.proofs.StepKinds.Rows.{store_at}
use Rattle.segcore.proofs.StepKinds.Segments.{enter_at, leave_at, none_at}

pub keeps : (z : Shape) (st : Step) (p : ℕ) (more h : List Event) → IsValid z → IsLawful z (more ++ h)
    → NoneBy p more → May z h p st → KeepsLaw z st p (more ++ h)
keeps z (take b own) p more h v l n may = take_at z p b own (more ++ h) (bucket_after z (more ++ h) b).holder refl (bit_known z more h p b own l n may.1) may.0 l
keeps z (glance b own) p more h v l n may = glance_at z p b own (more ++ h) (bucket_after z (more ++ h) b).holder refl (bit_known z more h p b own l n may.1) may.0 l
keeps z (release b c said) p more h v l n may =
    let held = may.0.1 in let same_b = quiet z more h p b l n held in
    release_at z p b c said (more ++ h) (may.0.0, ap (λ u. u.holder) same_b ∙ held) (ap (λ u. u.written) same_b ∙ may.1) (ap (λ u. u.spare) same_b ∙ may.2) (later_told z more h p b said l n may.3)
keeps z (info_look b) p more h v l n may = nothing_new z (info_look b) p (more ++ h) refl refl (may.0, omega arith) l
keeps z (look c) p more h v l n may = nothing_new z (look c) p (more ++ h) refl refl may.0 l
keeps z (row_load s r j) p more h v l n may = nothing_new z (row_load s r j) p (more ++ h) refl refl (may.0, may.1, may.2) l
keeps z (row_store s r j w) p more h v l n may = store_at z p s r j w (more ++ h) (later z more h (Filled p s r j w) l n refl may) l
keeps z (link q s r m c old) p more h v l n may = link_at z p q s r m c old (more ++ h) (later z more h (Linked p q s r m) l n refl may.0) (at_stays z more h (bucket_of z (key_of q)) m c l may.1.1) l
keeps z (relink k a i f s r m c) p more h v l n may =
    relink_at z p k a i f s r m c (more ++ h) (later z more h (Relinked p k a i s r m) l n refl may.0)
    (at_stays z more h (bucket_of z k) m c l may.1.1) l
keeps z (clear k m c old why) p more h v l n may =
    clear_at z p k m c old why (more ++ h) (later z more h (Unlinked p k m why) l n refl may.0)
    (above (bucket_after z h (bucket_of z k)) m may.1.0) (at_stays z more h (bucket_of z k) m c l may.1.1) l
keeps z (draw b d from) p more h v l n may = let same_b = quiet z more h p b l n may.0.1 in
    draw_at z p b d from (more ++ h) (may.0.0, ap (λ u. u.holder) same_b ∙ may.0.1) (ap (λ u. u.spare) same_b ∙ may.1) (may.2 ∙ ap (λ u. u.chained + 1) (sym same_b)) may.3 may.4 l
keeps z (fill b m w) p more h v l n may = fill_at z p b m w (more ++ h) (later z more h (Put p b w) l n refl may.0) (ap (λ u. u.spare) (quiet z more h p b l n may.0.guarded.1) ∙ may.1) l
keeps z (chain b c old m) p more h v l n may = let same_b = quiet z more h p b l n may.0.guarded.1 in
    chain_at z p b c old m (more ++ h) (later z more h (Chained p b m) l n refl may.0)
    (at_stays z more h b _ c l (subst (λ u. IsAt h b (last u) c) (sym same_b) may.1))
    (ap (λ u. u.items (fresh_position u)) same_b ∙ may.2) l
keeps z (bump b m c t s r f g) p more h v l n may = bump_at z p b m c t s r f g (more ++ h) v may.0 (position_stays z more h b m may.1.0, at_stays z more h b m c l may.1.1) may.2 may.3 may.4 l
keeps z (enter s) p more h v l n may = enter_at z p s (more ++ h) v (later z more h (Entered p s) l n refl may) l
keeps z (leave s) p more h v l n may = leave_at z p s (more ++ h) v (later z more h (Left p s) l n refl may) l
keeps z (none_reading s old d) p more h v l n may = none_at z p s old d (more ++ h) v may.0 may.1.1 may.2 (empty_stays z more h s l (rw may.1.1 n) may.1.0) l
