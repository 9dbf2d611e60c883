-- What is read as an identifier, a number or a fault's name is its text, and the other way round.
use Rattle.std.proofs.Common.{◌≡◌, ℕ, ◌≤◌, cond, ◌&&◌, leb, ◌⊎◌, List, ◌++◌, Some, None, decimal, Option, sym, refl, ap, ◌∙◌, inl, inr, arith, le-leb, leb-true}
use Rattle.std.specs.Str.{bytes_eq}
use Rattle.std.proofs.lemmas.Slice.Eq.{bytes_eq-Decides as sameBytes-decides}
use Rattle.std.proofs.lemmas.Bool.{cond-true, cond-false, cases_Bool, and_parts, and_from}
use Rattle.frame.specs.Bounds.{M, IsIdentifier, IsNumber, identifier_of, number_of}
use Rattle.pieces.specs.Names.{fault_name}
use Rattle.pieces.specs.Numbers.{plain}
use Rattle.pieces.specs.Strips.{strip_of, then}
use Rattle.pieces.specs.Values.{urn, identifier_read, number_read, fault_code_read}
use Rattle.pieces.specs.declared.names.FaultCode.{FaultCode}
use Rattle.pieces.specs.declared.names.FaultCode.TheVariants.{UnknownSequence, SequenceTerminated, SequenceClosed, CreateSequenceRefused}
use Rattle.pieces.proofs.Numbers.{plain_is, is_plain}
use Rattle.pieces.proofs.Options.{none_some, some_cond, then_is, then_some}
use Rattle.pieces.proofs.Strips.{strip_is, is_strip}

-- a number within bounds
within_is : (most n k : ℕ) → ◌≡◌ {A = Option ℕ} (cond (leb 1 n && leb n most) (Some n) None) (Some k) → (n ≡ k) × (1 ≤ n) × (n ≤ most)
within_is most n k e =
    let s = some_cond (leb 1 n && leb n most) (Some n) k e in
    let q = and_parts (leb 1 n) (leb n most) s.0 in
    (let f = s.1 in cc, leb-true _ _ q.0, leb-true _ _ q.1)

is_within : (most n : ℕ) → 1 ≤ n → n ≤ most → ◌≡◌ {A = Option ℕ} (cond (leb 1 n && leb n most) (Some n) None) (Some n)
is_within most n l h = cond-true _ _ _ (and_from _ _ (le-leb _ _ l) (le-leb _ _ h))

pub number_is : (n : ℕ) (p : List ℕ) → number_read p ≡ Some n → (p ≡ decimal n) × IsNumber n
number_is n p e =
    let s = then_is number_of (plain p) n e in
    let w = within_is M s.0 n s.2 in
    ((plain_is s.0 p s.1).spelt ∙ ap decimal w.0, (omega arith, omega arith))

pub is_number : (n : ℕ) → IsNumber n → number_read (decimal n) ≡ Some n
is_number n h = then_some number_of (plain (decimal n)) n (is_plain n h.0 (omega arith)) ∙ is_within M n h.0 h.1

pub identifier_is : (n : ℕ) (p : List ℕ) → identifier_read p ≡ Some n → (p ≡ urn ++ decimal n) × IsIdentifier n
identifier_is n p e =
    let s = then_is (λ ds. then (plain ds) identifier_of) (strip_of urn p) n e in
    let t = then_is identifier_of (plain s.0) n s.2 in
    let w = within_is 4294967295 t.0 n t.2 in (
      strip_is urn p s.0 s.1 ∙ ap (λ x. urn ++ x) ((plain_is t.0 s.0 t.1).spelt ∙ ap decimal w.0),
      (omega arith, omega arith),
    )

pub is_identifier : (n : ℕ) → IsIdentifier n → identifier_read (urn ++ decimal n) ≡ Some n
is_identifier n h =
    then_some (λ ds. then (plain ds) identifier_of) (strip_of urn (urn ++ decimal n)) (decimal n) (is_strip urn (decimal n)) ∙
    (then_some identifier_of (plain (decimal n)) n (is_plain n h.0 (omega arith)) ∙ is_within 4294967295 n h.0 h.1)

-- a name is found exactly under its own text
same_or : {A : Type 0} (p q : List ℕ) (a b : A) (o : Option A) → cond (bytes_eq p q) (Some a) o ≡ Some b
    → ((p ≡ q) × (a ≡ b)) ⊎ (o ≡ Some b)
same_or p q a b o e =
    elim (cases_Bool (bytes_eq p q)) [
      | inl s ↦ inl ((sameBytes-decides p q).0 s, let f = sym (cond-true _ (Some a) o s) ∙ e in cc)
      | inr s ↦ inr (sym (cond-false _ (Some a) o s) ∙ e)
    ]

pub fault_code_is : (c : FaultCode) (p : List ℕ) → fault_code_read p ≡ Some c → p ≡ fault_name c
fault_code_is c p e =
    elim (same_or p (fault_name UnknownSequence) UnknownSequence c _ e) [
      | inl s ↦ s.0 ∙ ap fault_name s.1
      | inr f ↦
          elim (same_or p (fault_name SequenceTerminated) SequenceTerminated c _ f) [
            | inl s ↦ s.0 ∙ ap fault_name s.1
            | inr g ↦
                elim (same_or p (fault_name SequenceClosed) SequenceClosed c _ g) [
                  | inl s ↦ s.0 ∙ ap fault_name s.1
                  | inr h ↦
                      elim (same_or p (fault_name CreateSequenceRefused) CreateSequenceRefused c None h)
                      [ inl s ↦ s.0 ∙ ap fault_name s.1 | inr i ↦ absurd (none_some c i) ]
                ]
          ]
    ]

pub is_fault_code : (c : FaultCode) → fault_code_read (fault_name c) ≡ Some c
is_fault_code UnknownSequence = refl
is_fault_code SequenceTerminated = refl
is_fault_code SequenceClosed = refl
is_fault_code CreateSequenceRefused = refl
