-- What is read along the grammar is read as it should be.
use Rattle.std.proofs.Common.{◌≡◌, ℕ, List, length, Ok, Err, Result, sym, ap, ◌∙◌}
use Rattle.frame.specs.Meanings.{meaning}
use Rattle.frame.specs.declared.frame.Frame.{Frame}
use Rattle.pieces.specs.declared.fault.ReadFault.{ReadFault}
use Rattle.grammar.specs.Grammar.{grammar}
use Rattle.grammar.specs.Trees.{walk}
use Rattle.grammar.proofs.Theorem.{complete, sound, refused}
use Rattle.frame_reader.specs.Reading.{outcome, Reads}

pub reads : (bs : List ℕ) (r : Result Frame ReadFault) → outcome r ≡ walk (length bs) grammar bs → Reads bs r
reads bs (Ok f) e = record {
  answer = sound bs (meaning f) (sym e);
  exact = λ m h t. e ∙ (ap (walk (length bs) grammar) (sym t) ∙ complete (length bs) m h);
}
reads bs (Err d) e = record {
  answer = refused bs d.place (sym e);
  exact = λ m h t. absurd ((refused bs d.place (sym e)).none m h t);
}
