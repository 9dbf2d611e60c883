-- What is read as a letter is the text of its bytes, and the other way round.
use Rattle.std.proofs.Common.{◌≡◌, ℕ, ◌+◌, ◌-◌, ◌*◌, ◌/◌, ◌%◌, ◌<◌, true, not, ◌&&◌, eqb, leb, List, [], ◌∷◌, ◌++◌, length, Some, None, sym, refl, ap, ◌∙◌, subst, inl, inr, arith, lit<, le-ltb, lt-ltb, ne_eqb, le-leb, leb-true}
use borrow.Author.Tests.{lt-leb}
use Rattle.std.proofs.lemmas.List.{append-nil, append_assoc}
use Rattle.std.proofs.lemmas.Nat.{div-add-mod', div-mul-add, mod-mul-add, div_below, mod_below}
use Rattle.std.proofs.lemmas.Bool.{cond-true, cond-false, cases_Bool, cases_lt, and_parts, and_from, or_cases, or_left, or_right, not_from_false}
use Rattle.letter.specs.Letters.{letter_of}
use Rattle.frame.specs.Meanings.{AllBytes, IsLetter}
use Rattle.pieces.specs.Hex.{is_hex, hex_value, hex_char, hex_text, read_pairs, letter_read}
use Rattle.pieces.specs.Strips.{then}
use Rattle.pieces.proofs.Finds.{without}
use Rattle.pieces.proofs.Options.{none_some, some_cond, then_is, then_some}

pub record Hex (c : ℕ) : Type 0 where
  pub small : hex_value c < 16
  pub back : hex_char (hex_value c) ≡ c

pub hex_is : (c : ℕ) → is_hex c ≡ true → Hex c
hex_is c h =
    elim (or_cases _ _ h) [
      | inl e ↦
          let p = and_parts _ _ e in
          let l = leb-true 48 c p.0 in
          let u = leb-true c 57 p.1 in
          let v : hex_value c ≡ c - 48 = cond-true _ _ _ p.1 in
          record { small = omega arith; back = ap hex_char v ∙ (cond-true _ _ _ (lt-ltb (c - 48) 10 (omega arith)) ∙ omega arith) }
      | inr e ↦
          let p = and_parts _ _ e in
          let l = leb-true 65 c p.0 in
          let u = leb-true c 70 p.1 in
          let v : hex_value c ≡ c - 55 = cond-false _ _ _ (lt-leb c 57 (omega arith)) ∙ omega arith in
          record { small = omega arith; back = ap hex_char v ∙ (cond-false _ _ _ (le-ltb (c - 55) 10 (omega arith)) ∙ omega arith) }
    ]

pub hex_digit : (d : ℕ) → d < 16 → (is_hex (hex_char d) ≡ true) × (hex_value (hex_char d) ≡ d)
hex_digit d h =
    elim (cases_lt d 10) [
      | inl l ↦
          let e : hex_char d ≡ 48 + d = cond-true _ _ _ (lt-ltb d 10 l) in (
            ap is_hex e ∙ or_left _ _ (and_from _ _ (le-leb 48 (48 + d) (omega arith)) (le-leb (48 + d) 57 (omega arith))),
            ap hex_value e ∙ (cond-true _ _ _ (le-leb (48 + d) 57 (omega arith)) ∙ omega arith),
          )
      | inr l ↦
          let e : hex_char d ≡ 55 + d = cond-false _ _ _ (le-ltb d 10 l) in (
            ap is_hex e ∙ or_right _ _ (and_from _ _ (le-leb 65 (55 + d) (omega arith)) (le-leb (55 + d) 70 (omega arith))),
            ap hex_value e ∙ (cond-false _ _ _ (lt-leb (55 + d) 57 (omega arith)) ∙ omega arith),
          )
    ]

pub record PairsAre (acc p bs : List ℕ) : Type 0 where
  pub more : List ℕ
  pub joined : bs ≡ acc ++ more
  pub spelt : p ≡ hex_text more
  pub bytes : AllBytes more

pub pairs_are : (acc p bs : List ℕ) → read_pairs acc p ≡ Some bs → PairsAre acc p bs
unfolding read_pairs hex_text
pairs_are acc [] bs e = let z : acc ≡ bs = cc in record { more = []; joined = sym z ∙ sym (append-nil acc); spelt = refl; bytes = tt }
pairs_are acc (a ∷ []) bs e = absurd (none_some bs e)
pairs_are acc (a ∷ (b ∷ cs)) bs e =
    elim (cases_Bool (is_hex a && is_hex b)) [
      | inl s ↦
          let q = and_parts _ _ s in
          let ha = hex_is a q.0 in
          let hb = hex_is b q.1 in
          let v = hex_value a * 16 + hex_value b in
          let r = pairs_are (acc ++ (v ∷ [])) cs bs (sym (cond-true _ _ None s) ∙ e) in
          record {
            more = v ∷ r.more;
            joined = r.joined ∙ append_assoc acc (v ∷ []) r.more;
            spelt =
                ap (λ x. x ∷ (b ∷ cs)) (sym (ap hex_char (div-mul-add (hex_value a) 16 (hex_value b) hb.small) ∙ ha.back)) ∙
                (ap (λ x. hex_char (v / 16) ∷ (x ∷ cs)) (sym (ap hex_char (mod-mul-add (hex_value a) 16 (hex_value b) hb.small) ∙ hb.back)) ∙
                ap (λ x. hex_char (v / 16) ∷ (hex_char (v % 16) ∷ x)) r.spelt);
            bytes = (omega (arith, ha.small, hb.small), r.bytes);
          }
      | inr s ↦ absurd (none_some bs (sym (cond-false _ (read_pairs (acc ++ ((hex_value a * 16 + hex_value b) ∷ [])) cs) _ s) ∙ e))
    ]

pub are_pairs : (acc bs : List ℕ) → AllBytes bs → read_pairs acc (hex_text bs) ≡ Some (acc ++ bs)
unfolding read_pairs hex_text
are_pairs acc [] h = ap Some (sym (append-nil acc))
are_pairs acc (b ∷ bs) h =
    let i = hex_digit (b / 16) (div_below b 16 16 (lit< tt) (omega arith)) in
    let j = hex_digit (b % 16) (mod_below b 16 (lit< tt)) in
    let v : hex_value (hex_char (b / 16)) * 16 + hex_value (hex_char (b % 16)) ≡ b = omega (arith, i.1, j.1, div-add-mod' b 16) in
    cond-true _ _ _ (and_from _ _ i.0 j.0) ∙
    (ap (λ x. read_pairs (acc ++ (x ∷ [])) (hex_text bs)) v ∙ (are_pairs (acc ++ (b ∷ [])) bs h.1 ∙ ap Some (append_assoc acc (b ∷ []) bs)))

pub length_hex : (bs : List ℕ) → length (hex_text bs) ≡ length bs * 2
unfolding hex_text
length_hex [] = refl
length_hex (b ∷ bs) = omega (arith, length_hex bs)

pub letter_is : (p bs : List ℕ) → letter_read p ≡ Some bs → (p ≡ hex_text bs) × IsLetter bs
letter_is p bs e =
    let s = some_cond (leb (length p) 96) (then (read_pairs [] p) letter_of) bs e in
    let t = then_is letter_of (read_pairs [] p) bs s.1 in
    let u = some_cond (leb 1 (length t.0) && leb (length t.0) 48) (Some t.0) bs t.2 in
    let q = and_parts (leb 1 (length t.0)) (leb (length t.0) 48) u.0 in
    let z : t.0 ≡ bs = let f = u.1 in cc in
    let r = pairs_are [] p t.0 t.1 in
    let w : r.more ≡ bs = sym r.joined ∙ z in
    let n = ap length z in
    (r.spelt ∙ ap hex_text w, (omega (arith, n, leb-true _ _ q.0), omega (arith, n, leb-true _ _ q.1), subst AllBytes w r.bytes))

pub is_letter : (bs : List ℕ) → IsLetter bs → letter_read (hex_text bs) ≡ Some bs
is_letter bs h =
    cond-true _ _ _ (le-leb (length (hex_text bs)) 96 (omega (arith, length_hex bs))) ∙
    (then_some letter_of (read_pairs [] (hex_text bs)) bs (are_pairs [] bs h.2) ∙
    cond-true _ _ _ (and_from _ _ (le-leb 1 (length bs) h.0) (le-leb (length bs) 48 h.1)))

-- no digit is another byte
hex_without : (b d : ℕ) → (is_hex b ≡ true → ⊥) → d < 16 → not (eqb (hex_char d) b) ≡ true
hex_without b d n h =
    not_from_false (eqb (hex_char d) b) (ne_eqb (hex_char d) b (λ e. n (ap is_hex (sym e) ∙ (hex_digit d h).0)))

pub text_without : (b : ℕ) (bs : List ℕ) → (is_hex b ≡ true → ⊥) → AllBytes bs → without b (hex_text bs) ≡ true
unfolding hex_text
text_without b [] n h = refl
text_without b (c ∷ bs) n h =
    and_from _ _ (hex_without b (c / 16) n (div_below c 16 16 (lit< tt) (omega arith)))
    (and_from _ _ (hex_without b (c % 16) n (mod_below c 16 (lit< tt))) (text_without b bs n h.1))
