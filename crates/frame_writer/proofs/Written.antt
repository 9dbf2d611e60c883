-- Texts one behind another.
use Rattle.std.proofs.Common.{◌≡◌, ℕ, suc, ◌+◌, ◌-◌, ◌/◌, ◌%◌, ◌<◌, ◌≤◌, List, [], ◌∷◌, ◌++◌, length, get_or, take, drop, flat_map, sym, refl, ap, ◌∙◌, arith, length-append}
use borrow.Rule.Slice.PartMut.{put_mid}
use Rattle.std.proofs.lemmas.List.{append_assoc, append-nil, length-drop, take_at, drop_at, take_all, drop_all, drop-drop, take_more, flat_map_more}
use Rattle.std.proofs.lemmas.List.Folds.{length-flat_map-take}
use Rattle.frame.specs.Meanings.{AllBytes}
use Rattle.frame.specs.declared.range.Range.{Range}
use Rattle.pieces.specs.Attributes.{range_text}
use Rattle.pieces.specs.Hex.{hex_char, hex_text}
use Rattle.frame_writer.specs.Putting.{Puts}
use Rattle.grammar.specs.Texts.{range_texts, ranges_text}

pub hex_pairs : (bs : List ℕ) → flat_map (λ b. hex_char (b / 16) ∷ hex_char (b % 16) ∷ []) bs ≡ hex_text bs
unfolding hex_text
hex_pairs [] = refl
hex_pairs (b ∷ bs) = ap (λ z. hex_char (b / 16) ∷ (hex_char (b % 16) ∷ z)) (hex_pairs bs)

pub range_row : (rs : List Range) → flat_map range_text rs ≡ range_texts rs
unfolding range_texts
range_row [] = refl
range_row (x ∷ xs) = ap (λ z. range_text x ++ z) (range_row xs)

pub ranges_some : (rs : List Range) → (length rs ≡ 0 → ⊥) → flat_map range_text rs ≡ ranges_text rs
unfolding ranges_text
ranges_some [] e = absurd (e refl)
ranges_some (x ∷ xs) e = range_row (x ∷ xs)

-- the row with one more text
pub row_more : {X : Type 0} (f : X → List ℕ) (xs : List X) (i : ℕ) (x : X) → i < length xs → x ≡ get_or xs i x
    → flat_map f (take (i + 1) xs) ≡ flat_map f (take i xs) ++ f x
row_more f xs i x l e =
    ap (flat_map f) (take_more xs i x l) ∙
    (sym (flat_map_more f [] (take i xs) (get_or xs i x)) ∙ ap (λ y. flat_map f (take i xs) ++ f y) (sym e))

pub row_room : {X : Type 0} (f : X → List ℕ) (xs : List X) (i : ℕ) (x : X) → i < length xs → x ≡ get_or xs i x
    → length (flat_map f (take i xs)) + length (f x) ≤ length (flat_map f xs)
row_room f xs i x l e = rw e (length-flat_map-take f xs i x l)

pub all_bytes : (bs : List ℕ) → ((i : ℕ) → get_or bs i 0 < 256) → AllBytes bs
all_bytes [] f = tt
all_bytes (b ∷ bs) f = (f 0, all_bytes bs (λ i. f (suc i)))

-- a part behind another, put into the memory that is left there
pub puts_behind : (before p out q behind : List ℕ) (n m : ℕ) → Puts before p out n → Puts (take (length out - n) (drop n out)) q behind m
    → Puts before (p ++ q) (put_mid n (length out - n) out behind) (n + m)
puts_behind before p out q behind n m f g =
    let front : take n out ≡ p = ap (take n) f.bytes ∙ take_at p (drop n before) n (sym f.size) in
    let rest : drop n out ≡ drop n before = ap (drop n) f.bytes ∙ drop_at p (drop n before) n (sym f.size) in
    let left : take (length out - n) (drop n out) ≡ drop n before = take_all (length out - n) (drop n out) (omega (arith, length-drop n out)) ∙ rest in
    let back : behind ≡ q ++ drop (n + m) before = g.bytes ∙ ap (λ x. q ++ x) (ap (drop m) left ∙ drop-drop m n before) in
    record {
      size = omega (arith, f.size, g.size, length-append p q);
      bytes =
          ap (λ x. x ++ (behind ++ drop (length out - n) (drop n out))) front ∙
          (ap (λ x. p ++ (behind ++ x)) (drop_all (length out - n) (drop n out) (omega (arith, length-drop n out))) ∙
          (ap (λ x. p ++ x) (append-nil behind ∙ back) ∙ sym (append_assoc p q (drop (n + m) before))));
    }
