-- The steps of the walk, as the reading functions take them.
use Rattle.std.proofs.Common.{◌≡◌, ℕ, zero, suc, ◌+◌, ◌-◌, ◌<◌, Bool, true, false, cond, eqb, List, [], ◌∷◌, ◌++◌, length, get_or, take, Some, None, Ok, Err, decimal, Option, Result, MatchOption, sym, refl, ap, ◌∙◌, inl, inr, arith, Bor, eqb-true}
use Rattle.std.specs.Result.{result_ok}
use Rattle.std.specs.Str.{bytes_eq}
use Rattle.std.proofs.lemmas.Slice.Eq.{bytes_eq-Decides}
use Rattle.std.proofs.lemmas.Bool.{cond-true, cond-false, cases_Bool, cases_lt, eqb-false}
use Rattle.frame.specs.Ascending.{follows}
use Rattle.frame.specs.Bounds.{IsIdentifier}
use Rattle.frame.specs.Meanings.{Meaning, FaultMeaning, unknown_sequence, sequence_terminated, sequence_closed}
use Rattle.frame.specs.declared.range.Range.{Range}
use Rattle.pieces.specs.Attributes.{range_read}
use Rattle.pieces.specs.Cuts.{piece, after, piece_len, shape, words, empty}
use Rattle.pieces.specs.Hex.{read_pairs}
use Rattle.pieces.specs.Strips.{strip_of}
use Rattle.pieces.specs.Tags.{tag_text}
use Rattle.pieces.specs.Tokens.{shape_of, is_tag, First, Lexes}
use Rattle.pieces.specs.Values.{urn, identifier_read}
use Rattle.pieces.specs.declared.fault.ReadFault.{ReadFault}
use Rattle.pieces.specs.declared.names.Element.TheVariants as element
use Rattle.pieces.specs.declared.names.FaultCode.{FaultCode}
use Rattle.pieces.specs.declared.names.FaultCode.TheVariants as code
use Rattle.pieces.specs.declared.token.Lexed.{Lexed}
use Rattle.pieces.specs.declared.token.Tag.{Tag}
use Rattle.pieces.specs.declared.token.Tag.TheVariants as tag
use Rattle.pieces.specs.declared.token.Token.{Token}
use Rattle.pieces.specs.declared.token.Token.TheVariants.{Open, Close, Empty, Text}
use Rattle.pieces.proofs.Options.{cases_option, then_some, then_none}
use Rattle.pieces.proofs.Readings.{identifier_is, is_identifier}
use Rattle.pieces.proofs.Strips.{not_same}
use Rattle.pieces.proofs.TokenTags.{told_tag, range_shaped}
use Rattle.grammar.specs.Grammar.{tagged, one, within, identifier_part, more_ranges, final_part, detail_part}
use Rattle.grammar.specs.Kinds.{Kind, Value, reader, identifier, again, number, range_behind, letter, fault_code}
use Rattle.grammar.specs.Kinds as kind
use Rattle.grammar.specs.Trees.{Tree, stop, whole, reads, walk}
use Rattle.grammar.proofs.KindLaws.{reader_is, reader_end}
use Rattle.grammar.proofs.Walks.{walk_read, walk_none, walk_here, walk_beyond}
use Rattle.frame_reader.specs.Reading.{onward, Textual, AtEnd, Takes, TookRange, NoRange}
use Rattle.frame_reader.specs.declared.reader.Reader.{Reader}

-- a piece of the kind is next, or none
pub on_read : (κ : Kind) (a : Value κ) (end : ℕ) (bs rest : List ℕ) → reader κ (piece bs) ≡ Some a → rest ≡ after bs
    → (k : Value κ → Tree) (h : Tree) → walk end (reads κ k h) bs ≡ walk end (k a) rest
on_read κ a end bs rest e f k h = walk_read end bs κ a k h e ∙ ap (walk end (k a)) (sym f)

pub end_read : (κ : Kind) (bs : List ℕ) → length bs ≡ 0 → reader κ (piece bs) ≡ None
end_read κ [] e = reader_end κ
end_read κ (b ∷ bs) e = absurd (omega arith)

-- cutting
pub cuts : (end : ℕ) (bs : List ℕ) (r : Result Lexed ReadFault) → Lexes end bs r → MatchOption (result_ok r) (length bs ≡ 0) (First bs)
cuts end bs (Ok x) f = f
cuts end bs (Err e) f = f.none

-- tags
module _ (t : Tag) (end : ℕ) (bs : List ℕ) where
  same_tag : (x : Lexed) → First bs x → is_tag x.token t ≡ bytes_eq (piece bs) (tag_text t)
  same_tag x f = told_tag x.token t (f.shaped ∙ ap shape (sym f.part)) ∙ ap (λ p. bytes_eq p (tag_text t)) f.part

  pub tag_on : (x : Lexed) → First bs x → true ≡ is_tag x.token t → (g h : Tree) → walk end (tagged t g h) bs ≡ walk end g x.rest.now
  unfolding reader
  tag_on x f e g h = on_read (kind.tag t) tt end bs x.rest.now (cond-true _ _ _ (sym (same_tag x f) ∙ sym e)) f.rest (λ _. g) h

  pub tag_off : (x : Lexed) → First bs x → false ≡ is_tag x.token t → (g h : Tree) → walk end (tagged t g h) bs ≡ walk end h bs
  unfolding reader
  tag_off x f e g h = walk_none end bs (kind.tag t) (λ _. g) h (cond-false _ _ _ (sym (same_tag x f) ∙ sym e))

pub ruleset tag_steps = (tag_on, tag_off, walk_none, end_read)

-- texts
no_pairs : (q : List ℕ) → read_pairs [] (60 ∷ q) ≡ None
unfolding read_pairs
no_pairs [] = refl
no_pairs (b ∷ q) = refl

either_none : {A : Type 0} (b : Bool) (o : Option A) → o ≡ None → cond b o None ≡ None
either_none true o e = e
either_none false o e = refl

no_text : (κ : Kind) → Textual κ → (q : List ℕ) → reader κ (60 ∷ q) ≡ None
unfolding reader strip_of
no_text (kind.tag t) h q = absurd h
no_text identifier h q = refl
no_text (again n) h q = refl
no_text number h q = refl
no_text (range_behind rs) h q = absurd h
no_text letter h q = either_none _ _ (then_none _ _ (no_pairs q))
no_text fault_code h q = refl

begins : (n b : ℕ) (bs : List ℕ) → 0 < n → (q : List ℕ) × (take n (b ∷ bs) ≡ b ∷ q)
begins zero b bs l = absurd (omega arith)
begins (suc n) b bs l = (take n bs, refl)

no_piece : (κ : Kind) → Textual κ → (bs : List ℕ) → (0 < length bs → get_or bs 0 0 ≡ 60) → reader κ (piece bs) ≡ None
no_piece κ h [] n = reader_end κ
no_piece κ h (b ∷ bs) n =
    let e : b ≡ 60 = n (omega arith) in
    let q = begins (piece_len (60 ∷ bs)) 60 bs (omega arith) in
    ap (λ x. reader κ (piece (x ∷ bs))) e ∙ (ap (reader κ) q.1 ∙ no_text κ h q.0)

-- the first byte of a piece
front : (n : ℕ) (bs : List ℕ) → get_or (take n bs) 0 0 ≡ 60 → get_or bs 0 0 ≡ 60
front zero bs e = absurd (omega arith)
front (suc n) [] e = e
front (suc n) (b ∷ bs) e = e

tag_first : (p : List ℕ) → (shape p ≡ words → ⊥) → get_or p 0 0 ≡ 60
tag_first p h =
    elim (cases_Bool (eqb (get_or p 0 0) 60)) [ inl e ↦ eqb-true (get_or p 0 0) 60 e | inr e ↦ absurd (h (cond-false _ _ _ e)) ]

-- a token by its shape
words_text : (x : Token) → shape_of x ≡ words → (s : Bor (List ℕ)) × (x ≡ Text s)
words_text (Open s) e = absurd cc
words_text (Close s) e = absurd cc
words_text (Empty s) e = absurd cc
words_text (Text s) e = (s, refl)

empty_tag : (x : Token) → shape_of x ≡ empty → (s : Bor (List ℕ)) × (x ≡ Empty s)
empty_tag (Open s) e = absurd cc
empty_tag (Close s) e = absurd cc
empty_tag (Empty s) e = (s, refl)
empty_tag (Text s) e = absurd cc

no_words : (bs : List ℕ) (x : Lexed) → First bs x → ((s : Bor (List ℕ)) → x.token ≡ Text s → ⊥) → get_or bs 0 0 ≡ 60
no_words bs x f n =
    front (piece_len bs) bs (tag_first (piece bs) (λ e. let t = words_text x.token (f.shaped ∙ e) in n t.0 t.1))

-- what is no text is of no textual kind
pub no_text_next : (κ : Kind) → Textual κ → (bs : List ℕ) (x : Lexed) → First bs x → ((s : Bor (List ℕ)) → x.token ≡ Text s → ⊥)
    → reader κ (piece bs) ≡ None
no_text_next κ h bs x f n = no_piece κ h bs (λ l. no_words bs x f n)

-- an identifier once more
pub again_on : (n : ℕ) (p : List ℕ) → reader identifier p ≡ Some n → reader (again n) p ≡ Some tt
unfolding reader
again_on n p e = cond-true _ _ _ ((bytes_eq-Decides p (urn ++ decimal n)).1 (identifier_is n p e).0)

pub again_off : (n : ℕ) (p : List ℕ) → IsIdentifier n → (reader identifier p ≡ Some n → ⊥) → reader (again n) p ≡ None
unfolding reader
again_off n p h f = cond-false _ _ _ (not_same p (urn ++ decimal n) (λ e. f (ap identifier_read e ∙ is_identifier n h)))

pub ruleset text_steps = (on_read, walk_none)

pub ruleset again_steps = (again_on, again_off, on_read, walk_none)

-- ranges
module _ (rs : List Range) (bs : List ℕ) where
  pub other_tag : (x : Lexed) → First bs x → ((s : Bor (List ℕ)) → x.token ≡ Empty s → ⊥) → reader (range_behind rs) (piece bs) ≡ None
  other_tag x f n =
      elim (cases_option (reader (range_behind rs) (piece bs))) [
        | inl e ↦ e
        | inr m ↦
            let q = reader_is (range_behind rs) m.0 (piece bs) m.1 in
            let t = empty_tag x.token (f.shaped ∙ (ap shape q.0 ∙ range_shaped m.0)) in
            absurd (n t.0 t.1)
      ]

  pub no_range : range_read (piece bs) ≡ None → reader (range_behind rs) (piece bs) ≡ None
  unfolding reader
  no_range e = then_none _ _ e

  pub far_range : (x : Range) → range_read (piece bs) ≡ Some x → follows rs x ≡ false → reader (range_behind rs) (piece bs) ≡ None
  unfolding reader
  far_range x e f = then_some _ _ x e ∙ cond-false _ _ _ f

  pub near_range : (x : Range) → range_read (piece bs) ≡ Some x → follows rs x ≡ true → reader (range_behind rs) (piece bs) ≡ Some x
  unfolding reader
  near_range x e f = then_some _ _ x e ∙ cond-true _ _ _ f

pub ruleset range_steps = (end_read, other_tag, no_range)

pub ruleset no_range_steps = (walk_none, far_range)

-- the loop over ranges
module _ (a b : Reader) (rs rs' : List Range) where
  step : (k : List Range → Tree) → length rs < 5
      → more_ranges (5 - length rs) rs k ≡ reads (range_behind rs) (λ x. more_ranges (5 - (length rs + 1)) (rs ++ (x ∷ [])) k) (k rs)
  step k l = let e : 5 - length rs ≡ suc (5 - (length rs + 1)) = omega arith in ap (λ i. more_ranges i rs k) e

  pub more_on : TookRange a b rs rs' → (k : List Range → Tree)
      → onward a (more_ranges (5 - length rs) rs k) ≡ onward b (more_ranges (5 - length rs') rs' k)
  more_on t k =
      ap (onward a) (step k t.room) ∙
      (t.way (λ ys. more_ranges (5 - (length rs + 1)) ys k) (k rs) ∙
      ap (λ n. onward b (more_ranges (5 - n) rs' k)) (sym t.more))

  pub more_off : NoRange a b rs rs' → (k : List Range → Tree) → onward a (more_ranges (5 - length rs) rs k) ≡ onward b (k rs')
  more_off t k =
      elim (cases_lt (length rs) 5) [
        | inl l ↦
            ap (onward a) (step k l) ∙
            (t.way (λ ys. more_ranges (5 - (length rs + 1)) ys k) (k rs) ∙ ap (λ ys. onward b (k ys)) (sym t.same))
        | inr l ↦
            let e : 5 - length rs ≡ 0 = omega arith in
            ap (λ i. onward a (more_ranges i rs k)) e ∙ (t.stays (k rs) ∙ ap (λ ys. onward b (k ys)) (sym t.same))
      ]

  -- the first range
  pub first_on : rs ≡ [] → TookRange a b rs rs' → (k : List Range → Tree)
      → onward a (one (range_behind []) (λ x. more_ranges 4 (x ∷ []) k)) ≡ onward b (more_ranges (5 - length rs') rs' k)
  first_on e t k =
      let n : 4 ≡ 5 - length rs' = omega (arith, t.more, ap length e) in
      ap (λ ys. onward a (reads (range_behind ys) (λ x. more_ranges 4 (ys ++ (x ∷ [])) k) stop)) (sym e) ∙
      (t.way (λ ys. more_ranges 4 ys k) stop ∙ ap (λ i. onward b (more_ranges i rs' k)) n)

  pub first_off : rs ≡ [] → NoRange a b rs rs' → (place : ℕ) → onward b stop ≡ Err place → (k : List Range → Tree)
      → onward a (one (range_behind []) (λ x. more_ranges 4 (x ∷ []) k)) ≡ Err place
  first_off e t place p k =
      ap (λ ys. onward a (reads (range_behind ys) (λ x. more_ranges 4 (ys ++ (x ∷ [])) k) stop)) (sym e) ∙
      (t.way (λ ys. more_ranges 4 ys k) stop ∙ p)

-- nothing is left, or something
whole_end : (end : ℕ) (bs : List ℕ) (m : Meaning) (g : Tree) → length bs ≡ 0 → walk end (whole m g) bs ≡ Ok m
whole_end end [] m g e = walk_here end m g
whole_end end (b ∷ bs) m g e = absurd (omega arith)

more : {n : ℕ} → (n ≡ 0 → ⊥) → 0 < n
more h = omega (arith, h)

pub told_end : (a : Reader) (b : Bool) → b ≡ eqb (length a.rest.now) 0 → AtEnd a b
told_end a true e = λ m g. whole_end a.whole a.rest.now m g (eqb-true _ 0 (sym e))
told_end a false e = λ m g. walk_beyond a.whole a.rest.now m g (more (eqb-false _ 0 (sym e)))

-- a receipt, final or not
pub takes_final : (a b : Reader) (r : Bool) → Takes (tag.Empty element.Final) a b r → (k : Bool → Tree) → onward a (final_part k) ≡ onward b (k r)
takes_final a b true t k = t (k true) (k false)
takes_final a b false t k = t (k true) (k false)

-- what a fault of this name is about
module _ (a b : Reader) (c : FaultCode) (n : ℕ) (t : (k : ℕ → Tree) → onward a (within element.Detail identifier_part k) ≡ onward b (k n)) where
  pub unknown_read : c ≡ code.UnknownSequence → (k : FaultMeaning → Tree) → onward a (detail_part c k) ≡ onward b (k (unknown_sequence n))
  unknown_read e k = ap (λ c. onward a (detail_part c k)) e ∙ t (λ n. k (unknown_sequence n))

  pub terminated_read : c ≡ code.SequenceTerminated → (k : FaultMeaning → Tree) → onward a (detail_part c k) ≡ onward b (k (sequence_terminated n))
  terminated_read e k = ap (λ c. onward a (detail_part c k)) e ∙ t (λ n. k (sequence_terminated n))

  pub closed_read : c ≡ code.SequenceClosed → (k : FaultMeaning → Tree) → onward a (detail_part c k) ≡ onward b (k (sequence_closed n))
  closed_read e k = ap (λ c. onward a (detail_part c k)) e ∙ t (λ n. k (sequence_closed n))

pub ruleset detail_steps = (unknown_read, terminated_read, closed_read)
