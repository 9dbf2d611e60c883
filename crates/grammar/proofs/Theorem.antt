-- Walking along the grammar finds the frame whose text the bytes are, or the place where they are refused.
use Rattle.std.proofs.Common.{◌≡◌, ℕ, ◌-◌, List, [], ◌∷◌, length, Ok, Err, Result, sym, refl, ap, ◌∙◌, subst, arith, length-append}
use Rattle.std.proofs.lemmas.List.{append-nil}
use Rattle.frame.specs.Meanings.{Meaning, Proper}
use Rattle.pieces.specs.Cuts.{piece}
use Rattle.grammar.specs.Grammar.{grammar}
use Rattle.grammar.specs.Places.{Cut, Begins, RefusedAt}
use Rattle.grammar.specs.Texts.{text}
use Rattle.grammar.specs.Trees.{whole, walk}
use Rattle.grammar.proofs.Fairness.{fair}
use Rattle.grammar.proofs.Paths.{Begun, begun, stops, spells, ok_not_err}
use Rattle.grammar.proofs.Texts.{text_is, cuts}
use Rattle.grammar.proofs.Walks.{walk_here, concat, cut_whole, cut_split, next, walk_along, walk_next, onward}
use Rattle.grammar.proofs.Ways.{leads, beyond}
use Rattle.grammar.proofs.Words.{wording}

-- the text of a frame leads to it
pub complete : (end : ℕ) (m : Meaning) → Proper m → walk end grammar (text m) ≡ Ok m
complete end m h =
    walk_along end grammar (wording m) (text m) [] (whole m (beyond m)) (leads m h) (cuts m h) ∙ walk_here end m (beyond m)

-- and nothing else does
pub sound : (bs : List ℕ) (m : Meaning) → walk (length bs) grammar bs ≡ Ok m → Proper m × (text m ≡ bs)
sound bs m e =
    let s = spells wording (length bs) bs grammar [] bs m refl fair.fits e in
    (s.0, text_is m ∙ sym (cut_whole bs (wording m) [] s.1 ∙ append-nil (concat (wording m))))

begins : (ps : List (List ℕ)) → Begun wording ps → Begins ps
begins ps b =
    let c = cut_split (text b.of) ps b.more [] (subst (λ x. Cut (text b.of) x []) b.split (cuts b.of b.proper)) in
    record { of = b.of; proper = b.proper; more = c.0; cut = c.1 }

pub refused : (bs : List ℕ) (place : ℕ) → walk (length bs) grammar bs ≡ Err place → RefusedAt bs place
refused bs place e =
    let s = stops wording grammar bs grammar grammar [] bs place refl refl (begun wording grammar [] fair.alive fair.fits) fair.fits (λ _. refl) e in
    record {
      before = s.before;
      rest = s.rest;
      cut = s.cut;
      there =
          omega (arith, s.there, ap length (cut_whole bs s.before s.rest s.cut), length-append (concat s.before) s.rest);
      begins = begins s.before s.begins;
      wrong = λ l b.
          let c = cut_split (text b.of) s.before (piece s.rest ∷ []) b.more b.cut in
          let none = ap (next s.stage) c.2.1 ∙ s.wrong l in
          ok_not_err b.of (0 - length c.0)
          (sym (complete 0 b.of b.proper) ∙
          (walk_along 0 grammar s.before (text b.of) c.0 s.stage s.led c.1 ∙
          (walk_next 0 s.stage c.0 c.2.0 ∙ ap (onward 0 c.0) none)));
      none = λ m h t. ok_not_err m place (sym (complete (length bs) m h) ∙ (ap (walk (length bs) grammar) t ∙ e));
    }

ok_same : (a b : Meaning) → ◌≡◌ {A = Result Meaning ℕ} (Ok a) (Ok b) → a ≡ b
ok_same a b e = cc

-- two frames with one text are one frame
pub apart : (a b : Meaning) → Proper a → Proper b → text a ≡ text b → a ≡ b
apart a b h i e = ok_same a b (sym (complete 0 a h) ∙ (ap (walk 0 grammar) e ∙ complete 0 b i))
