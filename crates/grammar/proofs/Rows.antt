-- A row of pieces whose joined text is cut into just these pieces.
use Rattle.std.proofs.Common.{◌≡◌, ℕ, ◌^◌, ◌<◌, true, not, eqb, List, [], ◌∷◌, ◌++◌, length, take, drop, codes, decimal, sym, refl, ap, ◌∙◌, subst, arith, lit<, length-append}
use borrow.Author.Tests.{not-true}
use Rattle.std.proofs.lemmas.Fmt.{decimal_nonempty}
use Rattle.std.proofs.lemmas.List.{append_assoc, take_at, drop_at}
use Rattle.std.proofs.lemmas.Bool.{cond-false, and_parts}
use Rattle.frame.specs.Bounds.{IsIdentifier, IsNumber}
use Rattle.frame.specs.Meanings.{IsLetter}
use Rattle.frame.specs.declared.range.Range.{Range}
use Rattle.pieces.specs.Attributes.{range_text, range_between}
use Rattle.pieces.specs.Cuts.{piece, after, piece_len}
use Rattle.pieces.specs.Hex.{hex_text, is_hex}
use Rattle.pieces.specs.Names.{fault_name}
use Rattle.pieces.specs.Numbers.{digit}
use Rattle.pieces.specs.Tags.{tag_text}
use Rattle.pieces.specs.Values.{urn}
use Rattle.pieces.specs.declared.names.FaultCode.{FaultCode}
use Rattle.pieces.specs.declared.names.FaultCode.TheVariants as code
use Rattle.pieces.specs.declared.token.Tag.{Tag}
use Rattle.pieces.proofs.Finds.{without, without_append, before_beyond}
use Rattle.pieces.proofs.Letters.{text_without, length_hex}
use Rattle.pieces.proofs.Numbers.{decimal_without}
use Rattle.pieces.proofs.TagPieces.{Bracketed, bracketed_some, bracketed_begins, bracketed_len, tag_bracketed}
use Rattle.grammar.specs.Places.{Cut}
use Rattle.grammar.proofs.Walks.{concat}

-- p is one piece before the pieces ps
pub record Whole (p : List ℕ) (ps : List (List ℕ)) : Type 0 where
  pub some : 0 < length (p ++ concat ps)
  pub first : piece (p ++ concat ps) ≡ p
  pub then : after (p ++ concat ps) ≡ concat ps

abbrev pub Row : List (List ℕ) → Type 0
Row [] = Unit {0}
Row (p ∷ ps) = Whole p ps × Row ps

pub row_cut : (ps : List (List ℕ)) → Row ps → Cut (concat ps) ps []
row_cut [] r = refl
row_cut (p ∷ ps) r = (r.0.some, r.0.first, subst (λ x. Cut x ps []) (sym r.0.then) (row_cut ps r.1))

-- a piece by its length
by_length : (p : List ℕ) (ps : List (List ℕ)) → 0 < length p → piece_len (p ++ concat ps) ≡ length p → Whole p ps
by_length p ps l n = record {
  some = omega (arith, length-append p (concat ps));
  first = ap (λ i. take i (p ++ concat ps)) n ∙ take_at p (concat ps) (length p) refl;
  then = ap (λ i. drop i (p ++ concat ps)) n ∙ drop_at p (concat ps) (length p) refl;
}

whole_bracketed : (p : List ℕ) {ps : List (List ℕ)} → Bracketed p → Whole p ps
whole_bracketed p {ps} b = by_length p ps (bracketed_some p b) (bracketed_len p (concat ps) b)

pub whole_tag : (t : Tag) {ps : List (List ℕ)} → Whole (tag_text t) ps
whole_tag t {ps} = whole_bracketed (tag_text t) (tag_bracketed t)

-- a range is a tag
no_end : digit 62 ≡ true → ⊥
no_end e = let z : ◌≡◌ {A = ℕ} 0 1 = cc in omega arith

pub range_bracketed : (x : Range) → x.upper < 2 ^ 64 → x.lower < 2 ^ 64 → Bracketed (range_text x)
unfolding range_text
range_bracketed x hu hl =
    let begins = codes "wsrm:AcknowledgementRange Upper=\"" in
    let ends = codes "\"/" in
    let low = decimal x.lower ++ ends in
    record {
      inner = begins ++ (decimal x.upper ++ (range_between ++ low));
      clear =
          without_append 62 begins (decimal x.upper ++ (range_between ++ low)) refl
          (without_append 62 (decimal x.upper) (range_between ++ low) (decimal_without 62 x.upper no_end hu)
          (without_append 62 range_between low refl
          (without_append 62 (decimal x.lower) ends (decimal_without 62 x.lower no_end hl) refl)));
      spelt = simp append_assoc;
    }

pub whole_range : (x : Range) {ps : List (List ℕ)} → x.upper < 2 ^ 64 → x.lower < 2 ^ 64 → Whole (range_text x) ps
whole_range x {ps} hu hl = whole_bracketed (range_text x) (range_bracketed x hu hl)

-- a text with no `<` is one piece before a tag
text_len : (p q : List ℕ) → without 60 p ≡ true → 0 < length p → piece_len (p ++ (60 ∷ q)) ≡ length p
text_len [] q h l = absurd (omega arith)
text_len (c ∷ p) q h l =
    let d = and_parts (not (eqb c 60)) (without 60 p) h in
    cond-false _ _ _ (not-true _ d.0) ∙ (before_beyond 60 (c ∷ p) (60 ∷ q) h ∙ omega arith)

pub whole_text : (p : List ℕ) (t : Tag) {ps : List (List ℕ)} → without 60 p ≡ true → 0 < length p → Whole p (tag_text t ∷ ps)
whole_text p t {ps} h l =
    let b = bracketed_begins (tag_text t) (concat ps) (tag_bracketed t) in
    by_length p (tag_text t ∷ ps) l (ap (λ x. piece_len (p ++ x)) b.1 ∙ text_len p b.0 h l)

-- the texts that stand between two tags
no_tag : digit 60 ≡ true → ⊥
no_tag e = let z : ◌≡◌ {A = ℕ} 0 1 = cc in omega arith

no_hex : is_hex 60 ≡ true → ⊥
no_hex e = let z : ◌≡◌ {A = ℕ} 0 1 = cc in omega arith

module _ (t : Tag) {ps : List (List ℕ)} where
  pub whole_number : (m : ℕ) → IsNumber m → Whole (decimal m) (tag_text t ∷ ps)
  whole_number m h = whole_text (decimal m) t (decimal_without 60 m no_tag (omega arith)) (decimal_nonempty m (omega arith))

  pub whole_identifier : (n : ℕ) → IsIdentifier n → Whole (urn ++ decimal n) (tag_text t ∷ ps)
  whole_identifier n h = whole_text (urn ++ decimal n) t (decimal_without 60 n no_tag (omega arith)) (omega arith)

  pub whole_letter : (bs : List ℕ) → IsLetter bs → Whole (hex_text bs) (tag_text t ∷ ps)
  whole_letter bs h = whole_text (hex_text bs) t (text_without 60 bs no_hex h.2) (omega (arith, length_hex bs))

  pub whole_fault : (c : FaultCode) → Whole (fault_name c) (tag_text t ∷ ps)
  whole_fault code.UnknownSequence = whole_text (fault_name code.UnknownSequence) t refl (lit< tt)
  whole_fault code.SequenceTerminated = whole_text (fault_name code.SequenceTerminated) t refl (lit< tt)
  whole_fault code.SequenceClosed = whole_text (fault_name code.SequenceClosed) t refl (lit< tt)
  whole_fault code.CreateSequenceRefused = whole_text (fault_name code.CreateSequenceRefused) t refl (lit< tt)
