-- The two laws of each kind of piece: what was read is spelt so, and what is spelt so is read.
use Rattle.std.proofs.Common.{◌≡◌, ℕ, ◌+◌, ◌≤◌, cond, List, [], ◌∷◌, ◌++◌, length, Some, None, decimal, sym, refl, ap, ◌∙◌, arith, lit≤}
use Rattle.std.specs.Str.{bytes_eq}
use Rattle.std.proofs.lemmas.Slice.Eq.{bytes_eq-Decides}
use Rattle.std.proofs.lemmas.Bool.{cond-true, cond-false}
use Rattle.frame.specs.Ascending.{follows, next_low}
use Rattle.frame.specs.declared.range.Range.{Range}
use Rattle.frame.proofs.Ascents.{starts, follows_parts}
use Rattle.pieces.specs.Attributes.{range_read, range_text}
use Rattle.pieces.specs.Hex.{read_pairs}
use Rattle.pieces.specs.Strips.{strip_of}
use Rattle.pieces.specs.Tags.{tag_text}
use Rattle.pieces.specs.Values.{urn}
use Rattle.pieces.proofs.Attributes.{Held, range_is, is_range}
use Rattle.pieces.proofs.TagPieces.{tag_bracketed, bracketed_some}
use Rattle.pieces.proofs.Letters.{letter_is, is_letter}
use Rattle.pieces.proofs.Options.{some_cond, then_is, then_some}
use Rattle.pieces.proofs.Readings.{identifier_is, is_identifier, number_is, is_number, fault_code_is, is_fault_code}
use Rattle.pieces.proofs.Strips.{not_same}
use Rattle.grammar.specs.Kinds.{Kind, Value, reader, spell, Good, tag, identifier, again, number, range_behind, letter, fault_code}

same_is : (p q : List ℕ) (a : Unit {0}) → cond (bytes_eq p q) (Some tt) None ≡ Some a → p ≡ q
same_is p q a e = (bytes_eq-Decides p q).0 (some_cond (bytes_eq p q) (Some tt) a e).0

is_same : (p : List ℕ) (a : Unit {0}) → cond (bytes_eq p p) (Some a) None ≡ Some a
is_same p a = cond-true _ _ _ ((bytes_eq-Decides p p).1 refl)

pub reader_is : (κ : Kind) (a : Value κ) (p : List ℕ) → reader κ p ≡ Some a → (p ≡ spell κ a) × Good κ a
unfolding reader
reader_is (tag t) a p e = (same_is p (tag_text t) a e, tt)
reader_is identifier n p e = identifier_is n p e
reader_is (again n) a p e = (same_is p (urn ++ decimal n) a e, tt)
reader_is number m p e = number_is m p e
reader_is (range_behind rs) x p e =
    let s = then_is (λ y. cond (follows rs y) (Some y) None) (range_read p) x e in
    let t = some_cond (follows rs s.0) (Some s.0) x s.2 in
    let z : s.0 ≡ x = let f = t.1 in cc in
    ((range_is p s.0 s.1).spelt ∙ ap range_text z, ap (follows rs) (sym z) ∙ t.0)
reader_is letter bs p e = letter_is p bs e
reader_is fault_code c p e = (fault_code_is c p e, tt)

low_some : (low : ℕ) (rs : List Range) → 1 ≤ low → 1 ≤ next_low low rs
low_some low [] h = h
low_some low (x ∷ xs) h = low_some (x.upper + 2) xs (omega arith)

pub is_reader : (κ : Kind) (a : Value κ) → Good κ a → reader κ (spell κ a) ≡ Some a
unfolding reader
is_reader (tag t) a h = is_same (tag_text t) a
is_reader identifier n h = is_identifier n h
is_reader (again n) a h = is_same (urn ++ decimal n) a
is_reader number m h = is_number m h
is_reader (range_behind rs) x h =
    let s = starts (next_low 1 rs) x (follows_parts rs x h).1 in
    let l = low_some 1 rs (lit≤ tt) in
    let hl : Held x.lower = (omega (arith, s.above), omega (arith, s.order, s.high)) in
    let hu : Held x.upper = (omega (arith, s.above, s.order), omega (arith, s.high)) in
    then_some (λ y. cond (follows rs y) (Some y) None) (range_read (range_text x)) x (is_range x hl hu) ∙ cond-true _ _ _ h
is_reader letter bs h = is_letter bs h
is_reader fault_code c h = is_fault_code c

-- nothing is read where no piece is
pub reader_end : (κ : Kind) → reader κ [] ≡ None
unfolding reader range_read strip_of read_pairs
reader_end (tag t) =
    cond-false _ _ _ (not_same [] (tag_text t) (λ e. omega (arith, bracketed_some (tag_text t) (tag_bracketed t), ap length e)))
reader_end identifier = refl
reader_end (again n) = refl
reader_end number = refl
reader_end (range_behind rs) = refl
reader_end letter = refl
reader_end fault_code = refl
