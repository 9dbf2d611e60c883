-- What is read as a range is the text of that range, and the other way round.
use Rattle.std.proofs.Common.{◌≡◌, ℕ, ◌^◌, ◌<◌, ◌≤◌, eqb, List, [], ◌∷◌, ◌++◌, length, take, drop, Some, None, decimal, Option, sym, refl, ap, ◌∙◌, arith, eqb-true}
use Rattle.std.specs.Option.{option_map}
use Rattle.std.proofs.lemmas.List.{take_at, drop_at, take-append-drop, nil_from_length}
use Rattle.frame.specs.declared.range.Range.{Range}
use Rattle.pieces.specs.Attributes.{range_opens, range_between, range_closes, range_text, field_of, range_end, range_read}
use Rattle.pieces.specs.Cuts.{before}
use Rattle.pieces.specs.Numbers.{plain}
use Rattle.pieces.specs.Strips.{strip_of}
use Rattle.pieces.proofs.Finds.{before_beyond}
use Rattle.pieces.proofs.Numbers.{plain_is, is_plain, decimal_without}
use Rattle.pieces.proofs.Options.{none_some, some_cond, then_is, then_some}
use Rattle.pieces.proofs.Strips.{strip_is, is_strip}

-- a number that the code can hold, and that has a text with no leading zero
abbrev pub Held : ℕ → Type 0
Held n = (1 ≤ n) × (n < 2 ^ 64)

pub record FieldIs (p : List ℕ) (u : ℕ × List ℕ) : Type 0 where
  pub held : Held u.0
  pub spelt : p ≡ decimal u.0 ++ u.1

mapped_is : (p : List ℕ) (o : Option ℕ) (u : ℕ × List ℕ) → option_map (λ n. (n, p)) o ≡ Some u → (o ≡ Some u.0) × (p ≡ u.1)
mapped_is p None u e = absurd (none_some u e)
mapped_is p (Some n) u e = let f : ◌≡◌ {A = ℕ × List ℕ} (n, p) u = cc in (ap Some (ap (λ x. x.0) f), ap (λ x. x.1) f)

field_is : (p : List ℕ) (u : ℕ × List ℕ) → field_of p ≡ Some u → FieldIs p u
unfolding field_of
field_is p u e =
    let s = mapped_is (drop (before 34 p) p) (plain (take (before 34 p) p)) u e in
    let r = plain_is u.0 (take (before 34 p) p) s.0 in
    record {
      held = (r.low, r.high);
      spelt = sym (take-append-drop (before 34 p) p) ∙ (ap (λ x. x ++ drop (before 34 p) p) r.spelt ∙ ap (λ x. decimal u.0 ++ x) s.1);
    }

is_field : (n : ℕ) (q : List ℕ) → Held n → field_of (decimal n ++ (34 ∷ q)) ≡ Some (n, 34 ∷ q)
unfolding field_of
is_field n q h =
    let p = decimal n ++ (34 ∷ q) in
    let l : before 34 p ≡ length (decimal n) = before_beyond 34 (decimal n) (34 ∷ q) (decimal_without 34 n (λ e. let z : ◌≡◌ {A = ℕ} 0 1 = cc in omega arith) h.1) ∙ omega arith in
    ap (λ i. option_map (λ k. (k, drop i p)) (plain (take i p))) l ∙
    (ap (λ x. option_map (λ k. (k, drop (length (decimal n)) p)) (plain x)) (take_at (decimal n) (34 ∷ q) (length (decimal n)) refl) ∙
    (ap (λ x. option_map (λ k. (k, x)) (plain (decimal n))) (drop_at (decimal n) (34 ∷ q) (length (decimal n)) refl) ∙
    ap (option_map (λ k. (k, 34 ∷ q))) (is_plain n h.0 h.1)))

end_is : (y : Range) (end : List ℕ) (x : Range) → range_end y end ≡ Some x → (end ≡ []) × (y ≡ x)
end_is y end x e =
    let s = some_cond (eqb (length end) 0) (Some y) x e in
    (nil_from_length end (eqb-true _ _ s.0), let f = s.1 in cc)

pub record RangeIs (p : List ℕ) (x : Range) : Type 0 where
  pub lower : Held x.lower
  pub upper : Held x.upper
  pub spelt : p ≡ range_text x

pub range_is : (p : List ℕ) (x : Range) → range_read p ≡ Some x → RangeIs p x
unfolding range_read range_text
range_is p x e =
    let a = then_is _ (strip_of range_opens p) x e in
    let b = then_is _ (field_of a.0) x a.2 in
    let c = then_is _ (strip_of range_between b.0.1) x b.2 in
    let d = then_is _ (field_of c.0) x c.2 in
    let f = then_is _ (strip_of range_closes d.0.1) x d.2 in
    let g = end_is (record { lower = d.0.0; upper = b.0.0 }) f.0 x f.2 in
    let u = field_is a.0 b.0 b.1 in
    let l = field_is c.0 d.0 d.1 in
    let z : d.0.1 ≡ range_closes = strip_is range_closes d.0.1 f.0 f.1 ∙ ap (λ y. range_closes ++ y) g.0 in
    let eu : b.0.0 ≡ x.upper = ap (λ y. y.upper) g.1 in
    let el : d.0.0 ≡ x.lower = ap (λ y. y.lower) g.1 in
    record {
      lower = (omega (arith, l.held, el), omega (arith, l.held, el));
      upper = (omega (arith, u.held, eu), omega (arith, u.held, eu));
      spelt =
          strip_is range_opens p a.0 a.1 ∙
          (ap (λ y. range_opens ++ y)
          (u.spelt ∙ ap (λ y. decimal b.0.0 ++ y)
          (strip_is range_between b.0.1 c.0 c.1 ∙ ap (λ y. range_between ++ y) (l.spelt ∙ ap (λ y. decimal d.0.0 ++ y) z))) ∙
          ap range_text g.1);
    }

pub is_range : (x : Range) → Held x.lower → Held x.upper → range_read (range_text x) ≡ Some x
unfolding range_read range_text
is_range x hl hu =
    let l = decimal x.lower ++ range_closes in
    then_some _ _ _ (is_strip range_opens (decimal x.upper ++ (range_between ++ l))) ∙
    (then_some _ _ _ (is_field x.upper _ hu) ∙
    (then_some _ _ _ (is_strip range_between l) ∙
    (then_some _ _ _ (is_field x.lower _ hl) ∙ then_some _ _ _ (is_strip range_closes []))))
