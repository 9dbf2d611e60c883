-- How the code holds the office's end: each letter is seen as its bytes.
use Rattle.std.specs.Prelude.{ℕ, List, map, Ok, Err, Option, Result}
use Rattle.std.specs.Option.{option_map}
use Rattle.frame.specs.Meanings.{meaning}
use Rattle.pieces.specs.declared.fault.ReadFault.{ReadFault}
use Rattle.letter.specs.Letters.{content}
use Rattle.letter.specs.declared.letter.Letter.{Letter}
use Rattle.office.specs.Destinations.{Destination}
use Rattle.office.specs.Reads.{Answer, Reading, last_of}
use Rattle.office.specs.declared.answer.ReadAnswer.{ReadAnswer}
use Rattle.office.specs.declared.office.Office.{Office}

abbrev pub contents : List (Option Letter) → List (Option (List ℕ))
contents ps = map (option_map content) ps

abbrev pub seen : Office → Destination
seen o =
    record {
      state = o.state;
      identifier = o.identifier.value;
      admits = o.admits;
      delivered = o.places.delivered;
      last = last_of (option_map (λ m. m.value) o.last);
      places = contents o.places.letters;
    }

abbrev pub answer_of : ReadAnswer → Answer
answer_of a = record { form = a.form; reply = option_map meaning a.reply }

abbrev pub answered : Result ReadAnswer ReadFault → Result Answer ℕ
answered (Ok a) = Ok (answer_of a)
answered (Err e) = Err e.place

-- a read of the code, as what it left and answered
abbrev pub read_as : Office → Result ReadAnswer ReadFault → Reading
read_as o r = record { after = seen o; answer = answered r }
