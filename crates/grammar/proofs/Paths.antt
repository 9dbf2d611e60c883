-- Every way through a tree spells the pieces of the form at its end.
use Rattle.std.proofs.Common.{◌≡◌, ℕ, ◌-◌, ◌<◌, ◌⊎◌, List, [], ◌∷◌, ◌++◌, length, Some, None, Ok, Err, Result, sym, refl, ap, ◌∙◌, subst, inl, inr, arith}
use Rattle.std.proofs.lemmas.List.{append-nil, append_assoc}
use Rattle.pieces.specs.Cuts.{piece, after}
use Rattle.frame.specs.Meanings.{Meaning, Proper}
use Rattle.grammar.specs.Kinds.{Value, reader, spell, Good}
use Rattle.grammar.specs.Trees.{Tree, stop, whole, reads, walk}
use Rattle.grammar.specs.Places.{Cut}
use Rattle.pieces.proofs.Options.{cases_option}
use Rattle.grammar.proofs.KindLaws.{reader_is}
use Rattle.grammar.proofs.Walks.{walk_stop, walk_read, walk_none, walk_here, walk_beyond, cut_snoc, pick, next, run, run_snoc, nonempty}

err_same : (m n : ℕ) → ◌≡◌ {A = Result Meaning ℕ} (Err m) (Err n) → m ≡ n
err_same m n e = cc

ok_same : (f g : Meaning) → ◌≡◌ {A = Result Meaning ℕ} (Ok f) (Ok g) → f ≡ g
ok_same f g e = cc

pub ok_not_err : (f : Meaning) (n : ℕ) → ◌≡◌ {A = Result Meaning ℕ} (Ok f) (Err n) → ⊥
ok_not_err f n e = let z : ◌≡◌ {A = ℕ} 0 1 = cc in omega arith

-- some form stands at the end of a way
abbrev pub Alive : Tree → Type 0
Alive stop = ⊥
Alive (whole f g) = Unit {0}
Alive (reads κ k h) = ((a : Value κ) × Good κ a × Alive (k a)) ⊎ Alive h

module _ (wording : Meaning → List (List ℕ)) where
  abbrev pub Fits : List (List ℕ) → Tree → Type 0
  Fits ps stop = Unit {0}
  Fits ps (whole f g) = Proper f × (wording f ≡ ps) × Fits ps g
  Fits ps (reads κ k h) = ((a : Value κ) → Good κ a → Alive (k a) × Fits (ps ++ (spell κ a ∷ [])) (k a)) × Fits ps h

  -- the pieces ps begin the wording of some form
  pub record Begun (ps : List (List ℕ)) : Type 0 where
    pub of : Meaning
    pub proper : Proper of
    pub more : List (List ℕ)
    pub split : wording of ≡ ps ++ more

  shorter : (ps : List (List ℕ)) (q : List ℕ) → Begun (ps ++ (q ∷ [])) → Begun ps
  shorter ps q b = record { of = b.of; proper = b.proper; more = q ∷ b.more; split = b.split ∙ append_assoc ps (q ∷ []) b.more }

  pub begun : (g : Tree) (ps : List (List ℕ)) → Alive g → Fits ps g → Begun ps
  begun stop ps a f = absurd a
  begun (whole f g) ps a h = record { of = f; proper = h.0; more = []; split = h.1 ∙ sym (append-nil ps) }
  begun (reads κ k h) ps (inl a) f =
      shorter ps (spell κ a.0) (begun (k a.0) (ps ++ (spell κ a.0 ∷ [])) a.2 (f.0 a.0 a.1).1)
  begun (reads κ k h) ps (inr a) f = begun h ps a f.1

  -- where the walk over bs stops: the pieces before, and what is left there
  pub record Stopped (g : Tree) (bs : List ℕ) (place : ℕ) : Type 0 where
    pub before : List (List ℕ)
    pub rest : List ℕ
    pub cut : Cut bs before rest
    pub there : place ≡ length bs - length rest
    pub begins : Begun before
    pub stage : Tree
    pub led : run (Some g) before ≡ Some stage
    pub wrong : 0 < length rest → next stage (piece rest) ≡ None

  module _ (top : Tree) (all : List ℕ) where
    -- g is what is left of the stage g0 that the pieces ps led to
    pub stops : (g g0 : Tree) (ps : List (List ℕ)) (bs : List ℕ) (place : ℕ) → Cut all ps bs → run (Some top) ps ≡ Some g0 → Begun ps → Fits ps g
        → (0 < length bs → next g0 (piece bs) ≡ next g (piece bs)) → walk (length all) g bs ≡ Err place → Stopped top all place
    stops stop g0 ps bs place c r b f n e =
        record {
          before = ps;
          rest = bs;
          cut = c;
          there = err_same _ _ (sym e ∙ walk_stop (length all) bs);
          begins = b;
          stage = g0;
          led = r;
          wrong = n;
        }
    stops (whole f g) g0 ps [] place c r b h n e = absurd (ok_not_err f place (sym (walk_here (length all) f g) ∙ e))
    stops (whole f g) g0 ps (x ∷ xs) place c r b h n e =
        stops g g0 ps (x ∷ xs) place c r b h.2 n (sym (walk_beyond (length all) (x ∷ xs) f g (omega arith)) ∙ e)
    stops (reads κ k h) g0 ps bs place c r b f n e =
        elim (cases_option (reader κ (piece bs))) [
          | inl s ↦
              stops h g0 ps bs place c r b f.1 (λ l. n l ∙ ap (λ o. pick o k (next h (piece bs))) s)
              (sym (walk_none (length all) bs κ k h s) ∙ e)
          | inr m ↦
              let a = m.0 in
              let s = m.1 in
              let q = reader_is κ a (piece bs) s in
              let l = nonempty bs κ a s in
              let i = f.0 a q.1 in
              stops (k a) (k a) (ps ++ (spell κ a ∷ [])) (after bs) place
              (subst (λ x. Cut all (ps ++ (x ∷ [])) (after bs)) q.0 (cut_snoc all ps bs c l))
              (run_snoc (Some top) ps g0 (spell κ a) r ∙ (ap (next g0) (sym q.0) ∙ (n l ∙ ap (λ o. pick o k (next h (piece bs))) s)))
              (begun (k a) (ps ++ (spell κ a ∷ [])) i.0 i.1) i.1 (λ _. refl) (sym (walk_read (length all) bs κ a k h s) ∙ e)
        ]

  -- a walk that comes to a form has gone along its pieces
  pub spells : (end : ℕ) (all : List ℕ) (g : Tree) (ps : List (List ℕ)) (bs : List ℕ) (f : Meaning) → Cut all ps bs → Fits ps g → walk end g bs ≡ Ok f
      → Proper f × Cut all (wording f) []
  spells end all stop ps bs f c h e = absurd (ok_not_err f _ (sym e ∙ walk_stop end bs))
  spells end all (whole f' g) ps [] f c h e =
      let z : f' ≡ f = ok_same f' f (sym (walk_here end f' g) ∙ e) in
      (subst Proper z h.0, subst (λ x. Cut all x []) (sym h.1 ∙ ap wording z) c)
  spells end all (whole f' g) ps (x ∷ xs) f c h e =
      spells end all g ps (x ∷ xs) f c h.2 (sym (walk_beyond end (x ∷ xs) f' g (omega arith)) ∙ e)
  spells end all (reads κ k h) ps bs f c i e =
      elim (cases_option (reader κ (piece bs))) [
        | inl s ↦ spells end all h ps bs f c i.1 (sym (walk_none end bs κ k h s) ∙ e)
        | inr m ↦
            let a = m.0 in
            let q = reader_is κ a (piece bs) m.1 in
            spells end all (k a) (ps ++ (spell κ a ∷ [])) (after bs) f
            (subst (λ x. Cut all (ps ++ (x ∷ [])) (after bs)) q.0 (cut_snoc all ps bs c (nonempty bs κ a m.1)))
            (i.0 a q.1).1 (sym (walk_read end bs κ a k h m.1) ∙ e)
      ]
