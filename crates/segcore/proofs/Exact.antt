-- Item words and the keys that stand: a key stands with a value in a segment exactly where the item word at its place says so, and chains have no other item words.
use Rattle.std.proofs.Common.{◌^◌, ◌≡◌, ℕ, ◌+◌, ◌-◌, ◌*◌, ◌<◌, ◌≤◌, List, [], ◌∷◌, get_or, length, take, drop, Some, sym, refl, ap, ◌∙◌, subst, inl, inr, ⊎_elim, arith}
use Rattle.std.specs.Prelude.{slice_index, fold}
use Rattle.std.proofs.lemmas.Bool.{cases_lt}
use Rattle.std.proofs.lemmas.List.{drop_all, get_or-drop, get_or_past}
use Rattle.std.proofs.lemmas.Option.{same_Some}
use Rattle.std.proofs.lemmas.Grind.{same_number_lists}
use Rattle.segword.specs.Row.{value_width, word_of, words_from}
use Rattle.segword.specs.Words.{hash_of, head_width, IsKey, IsValid, IsValue, key_width, row_of, row_width}
use Rattle.segword.specs.Words.{Shape, span_of, value_place, value_width as value_words, with_byte}
use Rattle.segword.proofs.RowLemmas.{get_or-words_from, key_of_row, length-row_of, length-words_from, value_in_row, value_of_row}
use Rattle.segmodel.specs.Words.{bucket_of, Cached, tag_of}
use Rattle.segcore.specs.Words.{Cell, Event}
use Rattle.segcore.specs.Bucket.{Slot, slot, Content, nothing, item, next, copy, bucket_after}
use Rattle.segcore.specs.Event.{seen}
use Rattle.segcore.specs.Overflow.{home}
use Rattle.segcore.specs.Row.{Row, Holds, row_after, frequency_of}
use Rattle.segcore.specs.Lawful.{IsLawful}
use Rattle.segcore.specs.Word.{IsCell, content_word, word, IsAt, IsItemAt}
use Rattle.segcore.specs.Mark.{marked, last_at}
use Rattle.segcore.specs.Standing.{cached, Names, StandsAt, HasOneReading, KeyFacts}
use Rattle.segcore.proofs.Caches.{stands}
use Rattle.segcore.proofs.Coherent.{IsContent, place}
use Rattle.segcore.proofs.Chains.{chain_of}
use Rattle.segcore.proofs.Standing.{coherent}
use Rattle.segcore.proofs.Marked.{chained_marked, place_marked}
use Rattle.segcore.proofs.Orderly.{frequency_marked}
use Rattle.segcore.proofs.Spans.{header_span}
use Rattle.segcore.proofs.Cells.{one_cell, at_word}
use Rattle.segcore.proofs.Homes.{cell_of}
use Rattle.segcore.proofs.Limits.{low_row, low_segment, low_frequency, bucket_in, home_in}
use Rattle.segcore.proofs.StepKinds.Words.{word_content, cell_in}
use Rattle.segcore.proofs.StepKinds.Items.{above}
use Rattle.segcore.proofs.StepKinds.Frequencies.{Named, names, one_place}

-- behind the rows of an item its words are 0
past_row : (k v : List ℕ) (j : ℕ) → IsValue v → row_width * span_of k v ≤ j → slice_index (row_of k v) j ≡ 0
past_row k v j m le =
    let n = length k in let len = length v in
    let at = j - (1 + key_width n) in
    let behind : 1 + key_width n ≤ j = omega (arith, le) in
    let ended : len ≤ 0 + 8 * at = omega (arith, le, m.fits) in
    let there : 1 + key_width n + at ≡ j = omega (arith, behind) in
    ap (λ i. slice_index (row_of k v) i) (sym there)
    ∙ sym (get_or-drop (1 + key_width n) (row_of k v) at 0)
    ∙ ap (λ ws. get_or ws at 0) (value_in_row k v)
    ∙ no_word (value_width n) v at ended
  where
    no_word : (count : ℕ) (v : List ℕ) (at : ℕ) → length v ≤ 0 + 8 * at → get_or (words_from count v 0) at 0 ≡ 0
    no_word count v at ended = ⊎_elim
        (λ lt. get_or-words_from count v 0 at lt ∙ ap (λ xs. word_of (take 8 xs)) (drop_all (0 + 8 * at) v ended))
        (λ ge. get_or_past (words_from count v 0) at 0 (omega (arith, ge, length-words_from count v 0)))
        (cases_lt at count)

-- words that agree in the rows of an item are the same
same_words : (k v k' v' : List ℕ) → IsValue v → IsValue v' → span_of k v ≡ span_of k' v'
    → ((j : ℕ) → j < row_width * span_of k v → slice_index (row_of k v) j ≡ slice_index (row_of k' v') j) → row_of k v ≡ row_of k' v'
same_words k v k' v' m m' same e =
    same_number_lists (row_of k v) (row_of k' v') (length-row_of k v ∙ sym (length-row_of k' v')) (λ j lt. ⊎_elim
    (λ near. e j near)
    (λ far. past_row k v j m far ∙ sym (past_row k' v' j m' (subst (λ n. row_width * n ≤ j) same far)))
    (cases_lt j (row_width * span_of k v)))

pub same_row : (u : Row) (k v k' v' : List ℕ) → IsKey k → IsKey k' → IsValue v → IsValue v' → Holds u k v → Holds u k' v' → row_of k v ≡ row_of k' v'
same_row u k v k' v' l l' m m' a b =
    let same : span_of k v ≡ span_of k' v' = sym (header_span u k v l m a) ∙ header_span u k' v' l' m' b in
    same_words k v k' v' m m' same (λ j lt. sym (a j lt) ∙ b j (subst (λ n. j < row_width * n) same lt))

-- a row holds one pair
pub one_key : (u : Row) (k v k' v' : List ℕ) → IsKey k → IsKey k' → IsValue v → IsValue v' → Holds u k v → Holds u k' v' → k ≡ k'
one_key u k v k' v' l l' m m' a b =
    sym (key_of_row k v (take head_width (row_of k v)) l m refl) ∙ key_of_row k' v' (take head_width (row_of k v)) l' m' (ap (take head_width) (sym (same_row u k v k' v' l l' m m' a b)))

pub one_value : (u : Row) (k v k' v' : List ℕ) → IsKey k → IsKey k' → IsValue v → IsValue v' → Holds u k v → Holds u k' v' → v ≡ v'
one_value u k v k' v' l l' m m' a b =
    let same = sym (same_row u k v k' v' l l' m m' a b) in
    let header = slice_index (row_of k v) 0 in
    let part : List ℕ → List ℕ = λ ws. take value_words (drop (value_place header) ws) in
    sym (value_of_row k v (part (row_of k v)) header l m refl refl)
    ∙ value_of_row k' v' (part (row_of k v)) header l' m' (ap (λ w. slice_index w 0) same) (ap part same)

-- ---- words that name rows

hash_low : (bytes : List ℕ) (a : ℕ) → a < 2 ^ 64 → fold with_byte a bytes < 2 ^ 64
hash_low [] a lt = lt
hash_low (x ∷ bytes) a lt = hash_low bytes (with_byte a x) (omega arith)

-- a tag isn't 0, and fits
pub tagged : (k : List ℕ) → (0 < tag_of k) × (tag_of k < 4096)
tagged k = let lt : hash_of k < 2 ^ 64 = hash_low k 0xcbf2_9ce4_8422_2325 (omega arith) in (omega arith, omega arith)

pub content_at : (z : Shape) (h : List Event) (b n : ℕ) (c : Cell) → IsItemAt z h b n c → word z h c ≡ content_word h ((bucket_after z h b).items n)
content_at z h b n c i = at_word z h b n c i.1 ∙ word_content z h (bucket_after z h b) n (above (bucket_after z h b) n i.0)

-- the word of an item names its row
pub item_names : (z : Shape) (h : List Event) (b n : ℕ) (c : Cell) (a : Slot) → IsLawful z h → IsCell z c
    → IsItemAt z h b n c → (bucket_after z h b).items n ≡ item a → Names z h b n c (tag_of a.key) a.segment a.row
item_names z h b n c a l lt i is' = record {
  here = i;
  in_table = lt;
  tagged = tagged a.key;
  in_segment = ((coherent z h l).items b n a is').within;
  frequency = frequency_of h a.segment a.row;
  small = low_frequency z h a.segment a.row l;
  reads = content_at z h b n c i ∙ ap (content_word h) is';
}

-- a word that names a row is that of an item
pub named_at : (z : Shape) (h : List Event) (b n : ℕ) (c : Cell) (t s r : ℕ) → IsValid z → IsLawful z h → (x : Names z h b n c t s r) → Named z h b n t s r x.frequency
named_at z h b n c t s r v l x =
    names z h b n t s r x.frequency v l x.here.0 (x.tagged.0, x.tagged.1, low_segment z s v x.in_segment.0, low_row z r v x.in_segment.1) x.small (sym (content_at z h b n c x.here) ∙ x.reads)

-- ---- the word of a key that stands

pub stands_at : (z : Shape) (h : List Event) (k v : List ℕ) (s : ℕ) → IsValid z → IsLawful z h → stands z (seen h) k ≡ Some (cached v s) → StandsAt z h k v s
stands_at z h k v s valid l is' =
    let c = coherent z h l in let w = c.all k (cached v s) is' in let b = bucket_of z k in let n = w.0 in let a = w.1 in
    let i = c.items b n a w.2 in
    let same = same_Some (cached i.value a.segment) (cached v s) (sym i.stands ∙ (ap (stands z (seen h)) w.3 ∙ is')) in
    let es : a.segment ≡ s = ap (λ (x : Cached). x.segment) same in
    let ev : i.value ≡ v = ap (λ (x : Cached). x.value) same in
    let d = cell_of z h b n l i.position in record {
      valid = (subst IsKey w.3 i.valid.0, subst IsValue ev i.valid.1);
      position = n;
      cell = d.0;
      placed = place_marked z h k ∙ (ap (place z h) (sym w.3) ∙ c.placed b n a w.2);
      row = a.row;
      last = ap (last_at (marked h)) (sym w.3) ∙ (i.last ∙ (λ j. Some (slot (w.3 j) (es j) a.row)));
      names = (subst (λ x. Names z h b n d.0 x s a.row) (ap tag_of w.3) (subst (λ x. Names z h b n d.0 (tag_of a.key) x a.row) es
          (item_names z h b n d.0 a l (cell_in z h b n d.0 l (bucket_in z k valid) d.1) (i.position, d.1) w.2)));
      holds = (let f : Holds (row_after h a.segment a.row) a.key i.value = i.holds in
          λ j lt. ap (λ x. (row_after h x a.row).words j) (sym es)
          ∙ (f j (subst (λ n. j < row_width * n) (sym (λ t. span_of (w.3 t) (ev t))) lt) ∙ (λ t. slice_index (row_of (w.3 t) (ev t)) j)));
    }

pub stands_there : (z : Shape) (h : List Event) (k v : List ℕ) (s : ℕ) → IsValid z → IsLawful z h → StandsAt z h k v s → stands z (seen h) k ≡ Some (cached v s)
stands_there z h k v s valid l t =
    let b = bucket_of z k in
    let x = named_at z h b t.position t.cell (tag_of k) s t.row valid l t.names in
    let i = (coherent z h l).items b t.position x.slot x.here in
    let held : Holds (row_after h s t.row) x.slot.key i.value = (λ j lt. (λ y. (row_after h (sym x.segment y) (sym x.row y)).words j) ∙ i.holds j lt) in
    let ek = one_key (row_after h s t.row) x.slot.key i.value k v i.valid.0 t.valid.0 i.valid.1 t.valid.1 held t.holds in
    let ev = one_value (row_after h s t.row) x.slot.key i.value k v i.valid.0 t.valid.0 i.valid.1 t.valid.1 held t.holds in
    ap (stands z (seen h)) (sym ek) ∙ (i.stands ∙ (λ j. Some (cached (ev j) (x.segment j))))

-- ---- the readings of a chain's words

readings_of : (z : Shape) (h : List Event) (b n : ℕ) (c : Cell) → b < z.buckets → IsLawful z h → IsItemAt z h b n c
    → (o : Content) → (bucket_after z h b).items n ≡ o → IsContent h b (bucket_after z h b) n o
    → HasOneReading z h b n c
readings_of z h b n c lt l i nothing is' w = inl (content_at z h b n c i ∙ ap (content_word h) is')
readings_of z h b n c lt l i (item a) is' w = let co = coherent z h l in let x = co.items b n a is' in inr (inr (record {
  key = a.key;
  value = x.value;
  segment = a.segment;
  of = x.here;
  stands = x.stands;
  placed = place_marked z h a.key ∙ co.placed b n a is';
  row = a.row;
  names = item_names z h b n c a l (cell_in z h b n c l lt i.1) i is';
}))
readings_of z h b n c lt l i (next m) is' w = inr (inl (record {
  depth = w.0;
  at_end = w.2;
  inside = subst (λ x. w.0 < x) (sym (chained_marked z h b)) w.1;
  number = m;
  in_table = home_in z h m (home b (w.0 + 1)) l w.3;
  next = w.3;
  reads = content_at z h b n c i ∙ ap (content_word h) is';
}))
readings_of z h b n c lt l i (copy w') is' w = let e = w.0 in let lt' = i.0.0 in absurd (omega arith)

pub says_of_keys : (z : Shape) (h : List Event) → IsValid z → IsLawful z h → KeyFacts z h
says_of_keys z h v l = record {
  stands = λ k x s. (stands_at z h k x s v l, stands_there z h k x s v l);
  readings = λ b n c lt i. readings_of z h b n c lt l i ((bucket_after z h b).items n) refl ((chain_of z h l b).contents n);
  once = λ b n b' n' c c' t t' s r x y.
      let i = named_at z h b n c t s r v l x in let j = named_at z h b' n' c' t' s r v l y in
      let o = one_place z h b n b' n' i.slot j.slot l i.here j.here (i.segment ∙ sym j.segment) (i.row ∙ sym j.row) in
      (o.0, o.1, one_cell z h b' n' c c' l (subst (λ k. IsAt h k n' c) o.0 (subst (λ k. IsAt h b k c) o.1 x.here.1)) y.here.1);
  frequencies = λ b n c t s r x. sym (named_at z h b n c t s r v l x).frequency ∙ sym (frequency_marked h s r);
}
