-- A used row of a segment of the pass's own: the pass may read it, and it holds the pair of the key that was linked to it.
use Rattle.std.proofs.Common.{◌≡◌, ℕ, ◌<◌, true, is_some, List, Option, Some, None, refl, sym, ap, ◌∙◌, subst, inl, arith}
use Rattle.std.proofs.lemmas.Bool.{lt-ltb, false≢true}
use Rattle.std.proofs.lemmas.Option.{same_Some}
use Rattle.segword.specs.Words.{Shape}
use Rattle.segmodel.specs.Words.{owner}
use Rattle.segcore.specs.Words.{Event, IsLawful, Row, row_after, RowAt}
use Rattle.segcore.proofs.Standing.{coherent}
use Rattle.segbase.specs.Words.{Board, number, Pass, trace}
use Rattle.segstore.specs.Words.{HoldsPair, IsQuiet, IsReadable, MayReadItem, ReadsRow}
use Rattle.segstore.proofs.Held.{IsPairOf}
use Rattle.segstore.proofs.Keeping.{in_table, owns_used}
use Rattle.segevict.specs.Rows.{IsUsedRow}

pub record OfRow (b : Board) (segment row : ℕ) (p : Pass) : Type 0 where
  pub own : owner b.shape segment ≡ number p
  pub readable : IsReadable b p segment row
  pub key : List ℕ
  pub linked : (row_after (trace p) segment row).linked ≡ Some key

-- the pass may read the rows of its own segments
pub may_read_own : (z : Shape) (h : List Event) (pass segment row : ℕ) → owner z segment ≡ pass → MayReadItem z h pass segment row
may_read_own z h pass segment row own = λ other covered within. inl own

pub some_key : (o : Option (List ℕ)) → is_some o ≡ true → (key : List ℕ) × (o ≡ Some key)
some_key None t = absurd (false≢true t)
some_key (Some key) t = (key, refl)

pub of_row : (b : Board) (segment row : ℕ) (p : Pass) → IsQuiet b p → IsUsedRow segment row p → OfRow b segment row p
of_row b segment row p quiet used =
    let own = owns_used b p segment used.0 quiet.pass used.1 in
    let few = quiet.segments.few segment used.0 used.1 in let lt = used.2 in
    let within : row < b.shape.rows = omega arith in
    let key = some_key (row_after (trace p) segment row).linked (quiet.segments.rows segment used.0 row used.1 within ∙ lt-ltb row used.0 lt) in record {
      own = own;
      readable = (in_table b p segment quiet.pass own, within, may_read_own b.shape (trace p) (number p) segment row own);
      key = key.0;
      linked = key.1;
    }

module _ (b : Board) (segment row : ℕ) (p q : Pass) (of : OfRow b segment row p) (reads : ReadsRow b p q segment row) where
  pub still_linked : (row_after (trace q) segment row).linked ≡ Some of.key
  still_linked = ap (λ (x : Row). x.linked) reads.same ∙ of.linked

  pub still_own : owner b.shape segment ≡ number q
  still_own = of.own ∙ sym reads.looked.did.moved.same

  pub pair_held : HoldsPair (row_after (trace p) segment row) → HoldsPair (row_after (trace q) segment row)
  pair_held = subst HoldsPair (sym reads.same)

-- ---- the pair of a row

-- a row that a word names holds that of its key
pub pair_named : (z : Shape) (h : List Event) (b n s r : ℕ) (key : List ℕ) → IsLawful z h → RowAt z b s r h n → (row_after h s r).linked ≡ Some key → IsPairOf (row_after h s r) key
pair_named z h b n s r key l at on =
    let a = at.0 in let st = (coherent z h l).items b n a at.1 in
    let same : a.key ≡ key = same_Some a.key key (sym st.linked ∙ ((λ t. (row_after h (at.2.0 t) (at.2.1 t)).linked) ∙ on)) in
    let pair : IsPairOf (row_after h a.segment a.row) a.key = record { value = st.value; valid = st.valid; holds = st.holds } in
    subst (λ t. IsPairOf (row_after h t r) key) at.2.0 (subst (λ i. IsPairOf (row_after h a.segment i) key) at.2.1 (subst (IsPairOf (row_after h a.segment a.row)) same pair))
