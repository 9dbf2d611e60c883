-- A tag is one piece, whatever comes after it, and its shape is that of the piece.
use Rattle.std.proofs.Common.{◌≡◌, ℕ, suc, ◌+◌, ◌<◌, min, true, List, [], ◌∷◌, ◌++◌, length, sym, refl, ap, ◌∙◌, arith, length-append}
use Rattle.std.proofs.lemmas.List.{append_assoc}
use Rattle.pieces.specs.Cuts.{before, piece_len, shape, opening, closing, empty}
use Rattle.pieces.specs.Names.{element_name}
use Rattle.pieces.specs.Tags.{tag_text, tag_shape}
use Rattle.pieces.specs.declared.names.Element.{Element}
use Rattle.pieces.specs.declared.names.Element.TheVariants as element
use Rattle.pieces.specs.declared.token.Tag.{Tag}
use Rattle.pieces.specs.declared.token.Tag.TheVariants.{Open, Close, Empty}
use Rattle.pieces.proofs.Finds.{without, without_append, before_beyond}

-- p is a tag: nothing in it ends it early
pub record Bracketed (p : List ℕ) : Type 0 where
  pub inner : List ℕ
  pub clear : without 62 inner ≡ true
  pub spelt : p ≡ 60 ∷ (inner ++ (62 ∷ []))

pub bracketed_some : (p : List ℕ) → Bracketed p → 0 < length p
bracketed_some p b = omega (arith, ap length b.spelt)

pub bracketed_begins : (p r : List ℕ) → Bracketed p → (q : List ℕ) × (p ++ r ≡ 60 ∷ q)
bracketed_begins p r b = ((b.inner ++ (62 ∷ [])) ++ r, ap (λ x. x ++ r) b.spelt)

inner_len : (i r : List ℕ) → without 62 i ≡ true → piece_len (60 ∷ ((i ++ (62 ∷ [])) ++ r)) ≡ suc (length i + 1)
inner_len i r h =
    let e : before 62 ((i ++ (62 ∷ [])) ++ r) ≡ length i =
    ap (before 62) (append_assoc i (62 ∷ []) r) ∙ (before_beyond 62 i (62 ∷ r) h ∙ omega arith) in
    ap (λ n. min (suc n + 1) (suc (length ((i ++ (62 ∷ [])) ++ r)))) e ∙
    omega (arith, length-append (i ++ (62 ∷ [])) r, length-append i (62 ∷ []))

pub bracketed_len : (p r : List ℕ) → Bracketed p → piece_len (p ++ r) ≡ length p
bracketed_len p r b =
    ap (λ x. piece_len (x ++ r)) b.spelt ∙
    (inner_len b.inner r b.clear ∙ omega (arith, ap length b.spelt, length-append b.inner (62 ∷ [])))

-- the names, one by one
record Fitting (e : Element) : Type 0 where
  clear : without 62 (element_name e) ≡ true
  opens : shape (tag_text (Open e)) ≡ opening
  closes : shape (tag_text (Close e)) ≡ closing
  empties : shape (tag_text (Empty e)) ≡ empty

fitting : (e : Element) → Fitting e
unfolding tag_text
fitting element.CreateSequence = record { clear = refl; opens = refl; closes = refl; empties = refl }
fitting element.CreateSequenceResponse = record { clear = refl; opens = refl; closes = refl; empties = refl }
fitting element.Identifier = record { clear = refl; opens = refl; closes = refl; empties = refl }
fitting element.Sequence = record { clear = refl; opens = refl; closes = refl; empties = refl }
fitting element.MessageNumber = record { clear = refl; opens = refl; closes = refl; empties = refl }
fitting element.Letter = record { clear = refl; opens = refl; closes = refl; empties = refl }
fitting element.AckRequested = record { clear = refl; opens = refl; closes = refl; empties = refl }
fitting element.SequenceAcknowledgement = record { clear = refl; opens = refl; closes = refl; empties = refl }
fitting element.Nothing = record { clear = refl; opens = refl; closes = refl; empties = refl }
fitting element.Final = record { clear = refl; opens = refl; closes = refl; empties = refl }
fitting element.Credit = record { clear = refl; opens = refl; closes = refl; empties = refl }
fitting element.CloseSequence = record { clear = refl; opens = refl; closes = refl; empties = refl }
fitting element.LastMsgNumber = record { clear = refl; opens = refl; closes = refl; empties = refl }
fitting element.CloseSequenceResponse = record { clear = refl; opens = refl; closes = refl; empties = refl }
fitting element.TerminateSequence = record { clear = refl; opens = refl; closes = refl; empties = refl }
fitting element.TerminateSequenceResponse = record { clear = refl; opens = refl; closes = refl; empties = refl }
fitting element.SequenceFault = record { clear = refl; opens = refl; closes = refl; empties = refl }
fitting element.FaultCode = record { clear = refl; opens = refl; closes = refl; empties = refl }
fitting element.Detail = record { clear = refl; opens = refl; closes = refl; empties = refl }

pub tag_bracketed : (t : Tag) → Bracketed (tag_text t)
unfolding tag_text
tag_bracketed (Open e) = record { inner = element_name e; clear = (fitting e).clear; spelt = refl }
tag_bracketed (Close e) = record { inner = 47 ∷ element_name e; clear = (fitting e).clear; spelt = refl }
tag_bracketed (Empty e) = record {
  inner = element_name e ++ (47 ∷ []);
  clear = without_append 62 (element_name e) (47 ∷ []) (fitting e).clear refl;
  spelt = ap (λ x. 60 ∷ x) (sym (append_assoc (element_name e) (47 ∷ []) (62 ∷ [])));
}

pub tag_shaped : (t : Tag) → shape (tag_text t) ≡ tag_shape t
tag_shaped (Open e) = (fitting e).opens
tag_shaped (Close e) = (fitting e).closes
tag_shaped (Empty e) = (fitting e).empties
