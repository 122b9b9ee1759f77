-- Notes of all shards, and two clients that meet in each shard.
use Rattle.std.proofs.Common.{◌≡◌, ℕ, ◌+◌, ◌<◌, List, [], ◌∷◌, ◌++◌, get_or, length, set, take, drop, sym, ap, ◌∙◌, subst, arith}
use lib.Seq.{take-length}
use Rattle.std.proofs.lemmas.List.{take_more_set}
use Rattle.segindex.specs.Words.{board_of, IsNoteOf, Note}
use Rattle.segclient.specs.declared.client.Client as one
use Rattle.segshards.specs.Noting.{MeetAll, MeetInShard}
use Rattle.segshards.proofs.Each.{one_longer}

abbrev pub is_note_of : one.Client → Note → Type 0
is_note_of client note = IsNoteOf (board_of client.index.now) note

pub same_note : (was is : one.Client) (note : Note) → was ≡ is → is_note_of was note → is_note_of is note
same_note was is note same of = subst (λ client. is_note_of client note) same of

abbrev pub of_same : one.Client → one.Client → Type 0
of_same client other = other.index.now ≡ client.index.now

meet_push : (olds others news nexts : List one.Client) (old other new next : one.Client)
    → MeetAll olds others news nexts → MeetInShard old other new next
    → MeetAll (olds ++ old ∷ []) (others ++ other ∷ []) (news ++ new ∷ []) (nexts ++ next ∷ [])
unfolding MeetAll
meet_push [] [] [] [] old other new next were one = (one, tt)
meet_push [] [] [] (d ∷ nexts) old other new next were one = absurd were
meet_push [] [] (c ∷ news) nexts old other new next were one = absurd were
meet_push [] (b ∷ others) news nexts old other new next were one = absurd were
meet_push (a ∷ olds) [] news nexts old other new next were one = absurd were
meet_push (a ∷ olds) (b ∷ others) [] nexts old other new next were one = absurd were
meet_push (a ∷ olds) (b ∷ others) (c ∷ news) [] old other new next were one = absurd were
meet_push (a ∷ olds) (b ∷ others) (c ∷ news) (d ∷ nexts) old other new next were one = (were.0, meet_push olds others news nexts old other new next were.1 one)

pub none_meet : MeetAll [] [] [] []
unfolding MeetAll
none_meet = tt

-- those of the shard at this place met too
pub meet_next : (olds others news nexts : List one.Client) (n : ℕ) (old other new next : one.Client)
    → (n < length olds) × (length news ≡ length olds) × (drop n news ≡ drop n olds) × (old ≡ get_or news n old)
    → (n < length others) × (length nexts ≡ length others) × (drop n nexts ≡ drop n others) × (other ≡ get_or nexts n other)
    → MeetAll (take n olds) (take n others) (take n news) (take n nexts) → MeetInShard old other new next
    → MeetAll (take (n + 1) olds) (take (n + 1) others) (take (n + 1) (set news n new)) (take (n + 1) (set nexts n next))
meet_next olds others news nexts n old other new next a b were one =
    let below = a.0 in
    let long = a.1 in
    let its_below = b.0 in
    let its_long = b.1 in
    subst (λ l. MeetAll l (take (n + 1) others) (take (n + 1) (set news n new)) (take (n + 1) (set nexts n next))) (sym (one_longer olds news n old a.0 a.1 a.2 a.3))
    (subst (λ l. MeetAll (take n olds ++ old ∷ []) l (take (n + 1) (set news n new)) (take (n + 1) (set nexts n next))) (sym (one_longer others nexts n other b.0 b.1 b.2 b.3))
    (subst (λ l. MeetAll (take n olds ++ old ∷ []) (take n others ++ other ∷ []) l (take (n + 1) (set nexts n next))) (sym (take_more_set news n new (omega (arith, below, long))))
    (subst (λ l. MeetAll (take n olds ++ old ∷ []) (take n others ++ other ∷ []) (take n news ++ new ∷ []) l) (sym (take_more_set nexts n next (omega (arith, its_below, its_long))))
    (meet_push (take n olds) (take n others) (take n news) (take n nexts) old other new next were one))))

all_taken : (xs : List one.Client) (n : ℕ) → n ≡ length xs → take n xs ≡ xs
all_taken xs n end = ap (λ m. take m xs) end ∙ take-length xs

-- at the end they met in all
pub all_meet : (olds others news nexts : List one.Client) (n : ℕ) → n ≡ length olds → n ≡ length others → n ≡ length news → n ≡ length nexts
    → MeetAll (take n olds) (take n others) (take n news) (take n nexts) → MeetAll olds others news nexts
all_meet olds others news nexts n a b c d made =
    subst (λ l. MeetAll l others news nexts) (all_taken olds n a)
    (subst (λ l. MeetAll (take n olds) l news nexts) (all_taken others n b)
    (subst (λ l. MeetAll (take n olds) (take n others) l nexts) (all_taken news n c)
    (subst (λ l. MeetAll (take n olds) (take n others) (take n news) l) (all_taken nexts n d) made)))
