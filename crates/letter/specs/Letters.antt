-- What a letter is: 1 to 48 bytes, and nothing else of it matters.
use Rattle.std.specs.Prelude.{ℕ, Bool, cond, ◌&&◌, List, length, take, Some, None, Ok, Err, Option, Result, nat_le}
use Rattle.letter.specs.declared.letter.Letter.{Letter}
use Rattle.letter.specs.declared.refusal.LetterRefusal.{LetterRefusal}

-- the bytes of a letter
abbrev pub content : Letter → List ℕ
content l = take l.len l.bytes

-- a letter has 1 to 48 bytes
abbrev pub is_letter : List ℕ → Bool
is_letter bytes = nat_le 1 (length bytes) && nat_le (length bytes) 48

-- the letter of these bytes, or none
abbrev pub letter_of : List ℕ → Option (List ℕ)
letter_of bytes = cond (is_letter bytes) (Some bytes) None

-- the bytes of the letter that was made, or why none was
abbrev pub content_if_made : Result Letter LetterRefusal → Result (List ℕ) LetterRefusal
content_if_made (Ok l) = Ok (content l)
content_if_made (Err why) = Err why
