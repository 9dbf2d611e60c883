-- Bytes that wait are read as the frame that they are the text of.
use Rattle.std.proofs.Common.{◌≡◌, List, length, Ok, ap, ◌∙◌}
use Rattle.std.specs.List.{ContainsAt as Has}
use Rattle.frame.specs.Meanings.{Meaning, Proper}
use Rattle.grammar.proofs.Theorem.{complete}
use Rattle.grammar.specs.Grammar.{grammar, reading}
use Rattle.grammar.specs.Texts.{text}
use Rattle.grammar.specs.Trees.{walk}
use Rattle.office.specs.Reads.{reads_seen}
use Rattle.planner.specs.Hearing.{hears_read}
use Rattle.planner.specs.Settings.{Chosen}
use Rattle.transport.specs.Meaning.{Bytes}
use Rattle.protocol.specs.Lines.{Line, Valid}
use Rattle.protocol.specs.Tallies.{Letter}
use Rattle.protocol.proofs.Hearing.{Heard, hears_keeps}
use Rattle.protocol.proofs.Invariant.{Sound, Inv}
use Rattle.protocol.proofs.Reading.{Readings, reads_keeps}

-- the text of a frame is read as that frame
pub read_text : (bytes : Bytes) (m : Meaning) → Proper m → bytes ≡ text m → reading bytes ≡ Ok m
read_text bytes m p e = ap (λ (bs : Bytes). walk (length bytes) grammar bs) e ∙ complete (length bytes) m p

pub read_as : (P : Meaning → Type 0) (bytes : Bytes) (s : Sound P bytes) → reading bytes ≡ Ok s.of
read_as P bytes s = read_text bytes s.of s.proper s.is

module _ (chosen : Chosen) (v : Valid chosen) (ls : List Letter) (L : Line) (inv : Inv chosen ls L.planner L.office L.out L.back) where
  pub hears_bytes :
      (bytes : Bytes) → Has L.back bytes →
      Heard chosen ls L.planner L.office (hears_read (reading bytes) L.planner)
  hears_bytes bytes m =
      let x = inv.backs bytes m in
      rw (read_as _ bytes x) (hears_keeps chosen v ls L.planner L.office inv.core x.of x.proper x.ok)

  pub reads_bytes :
      (bytes : Bytes) → Has L.out bytes →
      Readings chosen ls L.planner L.office (reads_seen L.office (reading bytes))
  reads_bytes bytes m =
      let x = inv.outs bytes m in
      rw (read_as _ bytes x) (reads_keeps chosen v ls L.planner L.office inv.core x.of x.ok)
