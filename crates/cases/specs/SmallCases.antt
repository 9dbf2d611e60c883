-- Nine small cases, each proved of the definitions that the contracts cite.
use Rattle.std.specs.Prelude.{◌≡◌, ℕ, true, false, List, [], ◌∷◌, map, length, Some, None, Ok, codes}
use Rattle.frame.specs.Meanings.{sequence, sequence_acknowledgement}
use Rattle.frame.specs.declared.form.Form.TheVariants as form
use Rattle.frame.specs.declared.range.Range.{Range}
use Rattle.grammar.specs.Texts.{text}
use Rattle.letter.specs.Changes.{decoded, encoded}
use Rattle.letter.specs.Letters.{is_letter}
use Rattle.letter.specs.declared.change.Change.TheVariants.{Put}
use Rattle.office.specs.Accepted.{is_accepted}
use Rattle.office.specs.Destinations.{acknowledgement}
use Rattle.planner.specs.Hearing.{hears}
use Rattle.planner.specs.Laws.{receipted}
use Rattle.planner.specs.Receipts.{first_above}
use Rattle.planner.specs.Sending.{rested, sends}
use Rattle.planner.specs.Writing.{writes}
use Rattle.planner.specs.declared.refusal.PlannerRefusal.TheVariants as refusal
use Rattle.cases.specs.Ends.{
  created_office,
  after_letter,
  accepted_1_2_4,
  created_planner,
  with_written,
  sent_at,
  from_to,
  receipt,
  Refused,
  path_until,
}

pub record SmallCases : Type 0 where
  -- The office's end in Created has accepted nothing: its receipt has no ranges and credit 8, and the text says None.
  pub nothing_accepted :
      (acknowledgement created_office ≡ sequence_acknowledgement 7 [] false 8) ×
      (text (acknowledgement created_office) ≡
      codes "<wsrm:SequenceAcknowledgement><wsrm:Identifier>urn:path:7</wsrm:Identifier><wsrm:None/><tp:Credit>8</tp:Credit></wsrm:SequenceAcknowledgement>")
  -- Letters 1, 2 and 4 are accepted, whatever they are, and d is 2: the receipt names 1 to 2 and 4, with credit 10.
  pub three_missing :
      (a b c : List ℕ) →
      let end = accepted_1_2_4 a b c in
      (end.delivered ≡ 2) ×
      (map (is_accepted end) (1 ∷ 2 ∷ 3 ∷ 4 ∷ 5 ∷ []) ≡ true ∷ true ∷ false ∷ true ∷ false ∷ []) ×
      (text (acknowledgement end) ≡
      codes "<wsrm:SequenceAcknowledgement><wsrm:Identifier>urn:path:7</wsrm:Identifier><wsrm:AcknowledgementRange Upper=\"2\" Lower=\"1\"/><wsrm:AcknowledgementRange Upper=\"4\" Lower=\"4\"/><tp:Credit>10</tp:Credit></wsrm:SequenceAcknowledgement>")
  -- In Created a letter of 48 bytes is written and gets number 1; 49 bytes are refused for their size, refusal 1.
  pub letter_size :
      (bytes : List ℕ) →
      let end = created_planner 60 100 in
      (length bytes ≡ 48 → (writes bytes end).answer ≡ Ok 1) ×
      (length bytes ≡ 49 → Refused (writes bytes) end refusal.LetterSize 1)
  -- Eight letters are written, and a receipt for 2 to 8 has come but none for 1: the window is still full, and the
  -- next letter is refused with b = 1, refusal 4.
  pub window_full :
      let heard = hears (receipt (from_to 2 8 ∷ []) 8) (with_written 8 (created_planner 60 100)) in
      (heard.answer ≡ Ok form.SequenceAcknowledgement) ×
      (map (receipted heard.source) (1 ∷ 2 ∷ 3 ∷ 4 ∷ 5 ∷ 6 ∷ 7 ∷ 8 ∷ []) ≡
      false ∷ true ∷ true ∷ true ∷ true ∷ true ∷ true ∷ true ∷ []) ×
      ((bytes : List ℕ) → is_letter bytes ≡ true → Refused (writes bytes) heard.source (refusal.Window 1) 4)
  -- Nothing is delivered, so d is 0: letter 8 is accepted when it comes, whatever it is, and letter 9 is not.
  pub eight_places :
      (letter : List ℕ) →
      (created_office.delivered ≡ 0) ×
      (is_accepted (after_letter 8 letter created_office) 8 ≡ true) ×
      (is_accepted (after_letter 9 letter created_office) 9 ≡ false)
  -- The gap is 60, and a letter was last sent at 100: it is due at 160, and sent again; it is not due at 159, and not
  -- by a clock that went back to 90.
  pub gap_of_sixty :
      let end = sent_at 100 (created_planner 60 100) in
      (map (λ clock. rested 60 clock (Some 100)) (160 ∷ 159 ∷ 90 ∷ []) ≡ true ∷ false ∷ false ∷ []) ×
      ((sends 160 end).answer ≡ Ok (Some (1, sequence 7 1 (0 ∷ [])))) ×
      ((sends 159 end).answer ≡ Ok None) ×
      ((sends 90 end).answer ≡ Ok None)
  -- The limit is 1, and a letter is written: a second is refused, refusal 3.
  pub limit_of_one :
      let first = writes (0 ∷ []) (created_planner 60 1) in
      (first.answer ≡ Ok 1) ×
      ((bytes : List ℕ) → is_letter bytes ≡ true → Refused (writes bytes) first.source refusal.Limit 3)
  -- Two letters are written: a receipt whose first Upper above 2 is 3, as one for 1 to 3, is refused with that Upper,
  -- refusal 8, and nothing of it counts.
  pub upper_too_high :
      let end = with_written 2 (created_planner 60 100) in
      (first_above (from_to 1 3 ∷ []) 2 ≡ Some 3) ×
      ((ranges : List Range) (credit : ℕ) → first_above ranges 2 ≡ Some 3 →
      Refused (hears (receipt ranges credit)) end (refusal.Upper 3) 8)
  -- A path that is entered at 0 may be left at 172,799: its put letter decodes to it. With 172,800 the letter is spoilt.
  pub leave_in_range :
      (decoded (encoded (Put (path_until 172799))) ≡ Some (Put (path_until 172799))) ×
      (decoded (encoded (Put (path_until 172800))) ≡ None)
