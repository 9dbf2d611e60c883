-- A token is a tag exactly if its bytes are the tag's, since the bytes tell the shape.
use Rattle.std.proofs.Common.{◌≡◌, ℕ, ◌+◌, ◌-◌, true, false, eqb, List, [], ◌∷◌, ◌++◌, length, get_or, decimal, sym, refl, ap, ◌∙◌, arith, length-append, eq-eqb, le-leb}
use Rattle.std.specs.Str.{bytes_eq}
use Rattle.std.proofs.lemmas.List.{append_assoc, get_or-append-add}
use Rattle.std.proofs.lemmas.Bool.{and_from, cond-true, eqb-false}
use Rattle.frame.specs.declared.range.Range.{Range}
use Rattle.pieces.specs.Attributes.{range_text, range_opens, range_between}
use Rattle.pieces.specs.Cuts.{Shape, opening, closing, empty, words, shape, ends_empty}
use Rattle.pieces.specs.Tags.{tag_text, tag_shape}
use Rattle.pieces.specs.Tokens.{part_of, shape_of, is_tag}
use Rattle.pieces.specs.declared.token.Tag.{Tag}
use Rattle.pieces.specs.declared.token.Tag.TheVariants as tag
use Rattle.pieces.specs.declared.token.Token.{Token}
use Rattle.pieces.specs.declared.token.Token.TheVariants.{Open, Close, Empty, Text}
use Rattle.pieces.proofs.Strips.{not_same}
use Rattle.pieces.proofs.TagPieces.{tag_shaped}

rank : Shape → ℕ
rank opening = 0
rank closing = 1
rank empty = 2
rank words = 3

unequal : (a b : Shape) → eqb (rank a) (rank b) ≡ false → a ≡ b → ⊥
unequal a b f e = eqb-false (rank a) (rank b) f (ap rank e)

-- of another shape than the tag
other : (x : Token) (t : Tag) → shape_of x ≡ shape (part_of x) → eqb (rank (shape_of x)) (rank (tag_shape t)) ≡ false
    → false ≡ bytes_eq (part_of x) (tag_text t)
other x t h n =
    sym (not_same (part_of x) (tag_text t) (λ z. unequal (shape_of x) (tag_shape t) n (h ∙ (ap shape z ∙ tag_shaped t))))

pub told_tag : (x : Token) (t : Tag) → shape_of x ≡ shape (part_of x) → is_tag x t ≡ bytes_eq (part_of x) (tag_text t)
unfolding tag_text rank
told_tag (Open s) (tag.Open e) h = refl
told_tag (Open s) (tag.Close e) h = other (Open s) (tag.Close e) h refl
told_tag (Open s) (tag.Empty e) h = other (Open s) (tag.Empty e) h refl
told_tag (Close s) (tag.Open e) h = other (Close s) (tag.Open e) h refl
told_tag (Close s) (tag.Close e) h = refl
told_tag (Close s) (tag.Empty e) h = other (Close s) (tag.Empty e) h refl
told_tag (Empty s) (tag.Open e) h = other (Empty s) (tag.Open e) h refl
told_tag (Empty s) (tag.Close e) h = other (Empty s) (tag.Close e) h refl
told_tag (Empty s) (tag.Empty e) h = refl
told_tag (Text s) (tag.Open e) h = other (Text s) (tag.Open e) h refl
told_tag (Text s) (tag.Close e) h = other (Text s) (tag.Close e) h refl
told_tag (Text s) (tag.Empty e) h = other (Text s) (tag.Empty e) h refl

-- a range's tag is an empty one
closed : (front : List ℕ) → ends_empty (front ++ (47 ∷ (62 ∷ []))) ≡ true
closed front =
    let p = front ++ (47 ∷ (62 ∷ [])) in
    let n = length-append front (47 ∷ (62 ∷ [])) in
    let i : length p - 1 ≡ length front + 1 = omega arith in
    let j : length p - 2 ≡ length front + 0 = omega arith in
    and_from _ _ (le-leb 2 (length p) (omega arith))
    (and_from _ _ (eq-eqb _ 62 (ap (λ k. get_or p k 0) i ∙ get_or-append-add front (47 ∷ (62 ∷ [])) 1 0))
    (eq-eqb _ 47 (ap (λ k. get_or p k 0) j ∙ get_or-append-add front (47 ∷ (62 ∷ [])) 0 0)))

pub range_shaped : (x : Range) → shape (range_text x) ≡ empty
unfolding range_text
range_shaped x =
    let front = range_opens ++ (decimal x.upper ++ (range_between ++ (decimal x.lower ++ (34 ∷ [])))) in
    let e : range_text x ≡ front ++ (47 ∷ (62 ∷ [])) = simp append_assoc in
    cond-true _ _ _ (ap ends_empty e ∙ closed front)
