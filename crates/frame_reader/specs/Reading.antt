-- What the reading functions answer. Only `Reads` is for others: a frame is read exactly from its text,
-- and everything else is refused at its place.
use Rattle.std.specs.Prelude.{◌≡◌, ℕ, ◌+◌, ◌<◌, Bool, true, false, List, [], ◌∷◌, ◌++◌, length, Some, None, Ok, Err, Option, Result, MatchOption, MatchResult}
use Rattle.std.specs.Borrow.{Bor}
use Rattle.frame.specs.Meanings.{Meaning, meaning, Proper}
use Rattle.frame.specs.declared.frame.Frame.{Frame}
use Rattle.frame.specs.declared.range.Range.{Range}
use Rattle.pieces.specs.Attributes.{range_read}
use Rattle.pieces.specs.Cuts.{piece, after}
use Rattle.pieces.specs.declared.fault.ReadFault.{ReadFault}
use Rattle.pieces.specs.declared.token.Tag.{Tag}
use Rattle.grammar.specs.Grammar.{Part, tagged}
use Rattle.grammar.specs.Kinds.{Kind, Value, reader, identifier, again, number, range_behind, letter, fault_code}
use Rattle.grammar.specs.Kinds as kind
use Rattle.grammar.specs.Places.{RefusedAt}
use Rattle.grammar.specs.Texts.{text}
use Rattle.grammar.specs.Trees.{Tree, whole, reads, walk}
use Rattle.frame_reader.specs.declared.reader.Reader.{Reader}

-- where the rest leads in the tree
abbrev pub onward : Reader → Tree → Result Meaning ℕ
onward a g = walk a.whole g a.rest.now

-- the way goes on from what was read, or ends at the fault
abbrev pub Leads : {X A : Type 0} → (X → A) → Part A → Reader → Reader → Result X ReadFault → Type 0
Leads {X} {A} value part a b r =
    MatchResult r (λ x. (k : A → Tree) → onward a (part k) ≡ onward b (k (value x)))
    (λ e. (k : A → Tree) → onward a (part k) ≡ Err e.place)

-- the same where nothing is held
abbrev pub Passes : (Tree → Tree) → Reader → Reader → Result (Unit {0}) ReadFault → Type 0
Passes part a b r =
    MatchResult r (λ _. (g : Tree) → onward a (part g) ≡ onward b g) (λ e. (g : Tree) → onward a (part g) ≡ Err e.place)

-- the way goes on behind the tag, or with what else may come
abbrev pub Takes : Tag → Reader → Reader → Bool → Type 0
Takes t a b true = (g h : Tree) → onward a (tagged t g h) ≡ onward b g
Takes t a b false = (g h : Tree) → onward a (tagged t g h) ≡ onward b h

-- nothing is left, or something
abbrev pub AtEnd : Reader → Bool → Type 0
AtEnd a true = (m : Meaning) (g : Tree) → onward a (whole m g) ≡ Ok m
AtEnd a false = (m : Meaning) (g : Tree) → onward a (whole m g) ≡ onward a g

-- the way goes on with one range more, or with what else may come
pub record TookRange (a b : Reader) (rs rs' : List Range) : Type 0 where
  pub way : (k : List Range → Tree) (h : Tree) → onward a (reads (range_behind rs) (λ x. k (rs ++ (x ∷ []))) h) ≡ onward b (k rs')
  pub more : length rs' ≡ length rs + 1
  pub room : length rs < 5

pub record NoRange (a b : Reader) (rs rs' : List Range) : Type 0 where
  pub way : (k : List Range → Tree) (h : Tree) → onward a (reads (range_behind rs) (λ x. k (rs ++ (x ∷ []))) h) ≡ onward b h
  pub stays : (h : Tree) → onward a h ≡ onward b h
  pub same : rs' ≡ rs

abbrev pub TakesRange : Reader → Reader → List Range → List Range → Bool → Type 0
TakesRange a b rs rs' true = TookRange a b rs rs'
TakesRange a b rs rs' false = NoRange a b rs rs'

-- kinds whose pieces are texts
abbrev pub Textual : Kind → Type 0
Textual (kind.tag t) = ⊥
Textual (range_behind rs) = ⊥
Textual κ = Unit {0}

-- the next piece of bs is of this kind, with what it holds and what comes after it, or it is not
abbrev pub Next : (κ : Kind) {T : Type 0} → (T → Value κ) → List ℕ → Option (T × Bor (List ℕ)) → Type 0
Next κ held bs r =
    MatchOption r (reader κ (piece bs) ≡ None) (λ x. (reader κ (piece bs) ≡ Some (held x.0)) × (x.1.now ≡ after bs))

-- the next piece of bs is a range, with what comes after it, or it is none
abbrev pub NextRange : List ℕ → Option (Range × Bor (List ℕ)) → Type 0
NextRange bs r =
    MatchOption r ((rs : List Range) → reader (range_behind rs) (piece bs) ≡ None)
    (λ x. (range_read (piece bs) ≡ Some x.0) × (x.1.now ≡ after bs))

-- the frame, or the place of the fault
abbrev pub outcome : Result Frame ReadFault → Result Meaning ℕ
outcome (Ok f) = Ok (meaning f)
outcome (Err e) = Err e.place

pub record Reads (bs : List ℕ) (r : Result Frame ReadFault) : Type 0 where
  pub answer : MatchResult r (λ f. Proper (meaning f) × (text (meaning f) ≡ bs)) (λ e. RefusedAt bs e.place)
  pub exact : (m : Meaning) → Proper m → text m ≡ bs → outcome r ≡ Ok m
