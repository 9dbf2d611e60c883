-- One step of the walk, and the walk by the pieces of the bytes.
use Rattle.std.proofs.Common.{◌≡◌, ℕ, ◌-◌, ◌<◌, List, [], ◌∷◌, ◌++◌, length, Some, None, Ok, Err, Option, Result, sym, refl, ap, ◌∙◌, subst, inl, inr, arith}
use Rattle.std.proofs.lemmas.List.{append_assoc, take-append-drop}
use Rattle.pieces.specs.Cuts.{piece, after, piece_len}
use Rattle.frame.specs.Meanings.{Meaning}
use Rattle.grammar.specs.Kinds.{Kind, Value, reader}
use Rattle.grammar.specs.Trees.{Tree, stop, whole, reads, walk}
use Rattle.grammar.specs.Places.{Cut}
use Rattle.pieces.proofs.Options.{none_some, cases_option}
use Rattle.grammar.proofs.KindLaws.{reader_end}

module _ (end : ℕ) (bs : List ℕ) where
  pub walk_stop : walk end stop bs ≡ Err (end - length bs)
  unfolding walk
  walk_stop = refl

  pub walk_read : (κ : Kind) (a : Value κ) (k : Value κ → Tree) (h : Tree) → reader κ (piece bs) ≡ Some a → walk end (reads κ k h) bs ≡ walk end (k a) (after bs)
  unfolding walk
  walk_read κ a k h e =
      ap (λ (o : Option (Value κ)). elim o as (λ _. Result Meaning ℕ) [ None ↦ walk end h bs | Some a ↦ walk end (k a) (after bs) ]) e

  pub walk_none : (κ : Kind) (k : Value κ → Tree) (h : Tree) → reader κ (piece bs) ≡ None → walk end (reads κ k h) bs ≡ walk end h bs
  unfolding walk
  walk_none κ k h e =
      ap (λ (o : Option (Value κ)). elim o as (λ _. Result Meaning ℕ) [ None ↦ walk end h bs | Some a ↦ walk end (k a) (after bs) ]) e

pub walk_here : (end : ℕ) (f : Meaning) (g : Tree) → walk end (whole f g) [] ≡ Ok f
unfolding walk
walk_here end f g = refl

pub walk_beyond : (end : ℕ) (bs : List ℕ) (f : Meaning) (g : Tree) → 0 < length bs → walk end (whole f g) bs ≡ walk end g bs
unfolding walk
walk_beyond end [] f g e = absurd (omega arith)
walk_beyond end (b ∷ bs) f g e = refl

-- cuts
pub cut_snoc : (bs : List ℕ) (ps : List (List ℕ)) (rest : List ℕ) → Cut bs ps rest → 0 < length rest → Cut bs (ps ++ (piece rest ∷ [])) (after rest)
cut_snoc bs [] rest c l = (subst (λ x. 0 < length x) (sym c) l, ap piece c, ap after c)
cut_snoc bs (p ∷ ps) rest c l = (c.0, c.1, cut_snoc (after bs) ps rest c.2 l)

abbrev pub concat : List (List ℕ) → List ℕ
concat [] = []
concat (p ∷ ps) = p ++ concat ps

pub cut_whole : (bs : List ℕ) (ps : List (List ℕ)) (rest : List ℕ) → Cut bs ps rest → bs ≡ concat ps ++ rest
cut_whole bs [] rest c = c
cut_whole bs (p ∷ ps) rest c =
    sym (take-append-drop (piece_len bs) bs) ∙
    (ap (λ x. x ++ after bs) c.1 ∙ (ap (λ x. p ++ x) (cut_whole (after bs) ps rest c.2) ∙ sym (append_assoc p (concat ps) rest)))

-- a cut at the end of the first of two rows of pieces
pub cut_split : (bs : List ℕ) (ps qs : List (List ℕ)) (rest : List ℕ) → Cut bs (ps ++ qs) rest → (mid : List ℕ) × Cut bs ps mid × Cut mid qs rest
cut_split bs [] qs rest c = (bs, refl, c)
cut_split bs (p ∷ ps) qs rest c =
    let r = cut_split (after bs) ps qs rest c.2 in
    (r.0, (c.0, c.1, r.1), r.2)

-- one piece and many pieces along the tree
abbrev pub pick : {A : Type 0} → Option A → (A → Tree) → Option Tree → Option Tree
pick None k o = o
pick (Some a) k o = Some (k a)

abbrev pub next : Tree → List ℕ → Option Tree
next stop q = None
next (whole f g) q = next g q
next (reads κ k h) q = pick (reader κ q) k (next h q)

abbrev pub run : Option Tree → List (List ℕ) → Option Tree
run o [] = o
run None (p ∷ ps) = None
run (Some g) (p ∷ ps) = run (next g p) ps

pub run_snoc : (o : Option Tree) (ps : List (List ℕ)) (g : Tree) (q : List ℕ) → run o ps ≡ Some g → run o (ps ++ (q ∷ [])) ≡ next g q
run_snoc o [] g q e = ap (λ x. run x (q ∷ [])) e
run_snoc None (p ∷ ps) g q e = absurd (none_some g e)
run_snoc (Some f) (p ∷ ps) g q e = run_snoc (next f p) ps g q e

-- a step of the walk is a step along the tree
abbrev pub onward : ℕ → List ℕ → Option Tree → Result Meaning ℕ
onward end bs None = Err (end - length bs)
onward end bs (Some g) = walk end g (after bs)

pub walk_next : (end : ℕ) (g : Tree) (bs : List ℕ) → 0 < length bs → walk end g bs ≡ onward end bs (next g (piece bs))
walk_next end stop bs l = walk_stop end bs
walk_next end (whole f g) bs l = walk_beyond end bs f g l ∙ walk_next end g bs l
walk_next end (reads κ k h) bs l =
    elim (cases_option (reader κ (piece bs))) [
      | inl e ↦ walk_none end bs κ k h e ∙ (walk_next end h bs l ∙ ap (λ o. onward end bs (pick o k (next h (piece bs)))) (sym e))
      | inr m ↦ walk_read end bs κ m.0 k h m.1 ∙ ap (λ o. onward end bs (pick o k (next h (piece bs)))) (sym m.1)
    ]

-- the walk goes on from where the pieces lead
pub walk_run : (end : ℕ) (g : Tree) (ps : List (List ℕ)) (bs rest : List ℕ) (o : Option Tree) (g' : Tree) → next g (piece bs) ≡ o
    → run o ps ≡ Some g' → 0 < length bs → Cut (after bs) ps rest → walk end g bs ≡ walk end g' rest
walk_run end g [] bs rest o g' n r l c = walk_next end g bs l ∙ (ap (onward end bs) (n ∙ r) ∙ ap (walk end g') c)
walk_run end g (p ∷ ps) bs rest None g' n r l c = absurd (none_some g' r)
walk_run end g (p ∷ ps) bs rest (Some f) g' n r l c =
    walk_next end g bs l ∙ (ap (onward end bs) n ∙ walk_run end f ps (after bs) rest (next f p) g' (ap (next f) c.1) r c.0 c.2)

pub walk_along : (end : ℕ) (g : Tree) (ps : List (List ℕ)) (bs rest : List ℕ) (g' : Tree) → run (Some g) ps ≡ Some g' → Cut bs ps rest
    → walk end g bs ≡ walk end g' rest
walk_along end g [] bs rest g' r c = ap (λ x. walk end x bs) (let e : g ≡ g' = cc in e) ∙ ap (walk end g') c
walk_along end g (p ∷ ps) bs rest g' r c = walk_run end g ps bs rest (next g p) g' (ap (next g) c.1) r c.0 c.2

pub nonempty : (bs : List ℕ) (κ : Kind) (a : Value κ) → reader κ (piece bs) ≡ Some a → 0 < length bs
nonempty [] κ a e = absurd (none_some a (sym (reader_end κ) ∙ e))
nonempty (b ∷ bs) κ a e = omega arith
