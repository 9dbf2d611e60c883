-- The two kinds of letter that ask for a change, byte by byte, and their ranges.
-- Every other letter is spoilt: it decodes to none.
use Rattle.std.specs.Prelude.{◌≡◌, ℕ, ◌+◌, ◌*◌, ◌/◌, ◌%◌, Bool, true, cond, ◌&&◌, List, [], ◌∷◌, ◌++◌, length, Some, None, Ok, Err, Option, Result, ◌==◌, nat_le, nat_lt, slice_index}
use Rattle.letter.specs.declared.change.Path.{Path}
use Rattle.letter.specs.declared.change.Change.{Change}
use Rattle.letter.specs.declared.change.Change.TheVariants.{Put, Withdrawal}
use Rattle.letter.specs.declared.refusal.LetterRefusal.{LetterRefusal}
use Rattle.letter.specs.declared.refusal.LetterRefusal.TheVariants.{Spoilt}

-- a train is 1 to 999,999 and a section 1 to 9,999
abbrev pub pair_in_range : ℕ → ℕ → Bool
pair_in_range train section =
    nat_le 1 train && (nat_le train 999999 && (nat_le 1 section && nat_le section 9999))

-- a path is left after it is entered, both within 0 to 172,799
abbrev pub times_in_range : ℕ → ℕ → Bool
times_in_range enter leave = nat_lt enter leave && nat_le leave 172799

abbrev pub in_range : Change → Bool
in_range (Put p) = pair_in_range p.train p.section && times_in_range p.enter p.leave
in_range (Withdrawal train section) = pair_in_range train section

-- a number in two or four bytes, the high byte first
abbrev pub two_bytes : ℕ → List ℕ
two_bytes n = n / 256 % 256 ∷ n % 256 ∷ []

abbrev pub four_bytes : ℕ → List ℕ
four_bytes n = n / 16777216 % 256 ∷ n / 65536 % 256 ∷ n / 256 % 256 ∷ n % 256 ∷ []

-- the kind, then the fields
abbrev pub encoded : Change → List ℕ
encoded (Put p) =
    1 ∷ (four_bytes p.train ++ (two_bytes p.section ++ (four_bytes p.enter ++ four_bytes p.leave)))
encoded (Withdrawal train section) = 2 ∷ (four_bytes train ++ two_bytes section)

-- the number in the two or four bytes from place i on
abbrev pub two_at : List ℕ → ℕ → ℕ
two_at bytes i = slice_index bytes i * 256 + slice_index bytes (i + 1)

abbrev pub four_at : List ℕ → ℕ → ℕ
four_at bytes i =
    slice_index bytes i * 16777216 + slice_index bytes (i + 1) * 65536 + slice_index bytes (i + 2) * 256 + slice_index bytes (i + 3)

abbrev pub path_at : List ℕ → Path
path_at bytes =
    record { train = four_at bytes 1; section = two_at bytes 5; enter = four_at bytes 7; leave = four_at bytes 11 }

abbrev pub put_at : List ℕ → Change
put_at bytes = Put (path_at bytes)

abbrev pub withdrawal_at : List ℕ → Change
withdrawal_at bytes = Withdrawal (four_at bytes 1) (two_at bytes 5)

-- of this kind and this long
abbrev pub is_kind : ℕ → ℕ → List ℕ → Bool
is_kind kind size bytes = length bytes == size && slice_index bytes 0 == kind

abbrev pub if_in_range : Change → Option Change
if_in_range c = cond (in_range c) (Some c) None

abbrev pub decoded : List ℕ → Option Change
decoded bytes =
    cond (is_kind 1 15 bytes) (if_in_range (put_at bytes))
    (cond (is_kind 2 7 bytes) (if_in_range (withdrawal_at bytes)) None)

-- What decoding means, without its steps: the answer is a change exactly where the bytes are that change's own.
pub record Decodes (bytes : List ℕ) (answer : Option Change) : Type 0 where
  pub only : (c : Change) → answer ≡ Some c → (bytes ≡ encoded c) × (in_range c ≡ true)
  pub each : (c : Change) → in_range c ≡ true → bytes ≡ encoded c → answer ≡ Some c

-- the path of these values, if a put of it is in range
abbrev pub path_of : ℕ → ℕ → ℕ → ℕ → Option Path
path_of train section enter leave =
    cond (pair_in_range train section && times_in_range enter leave)
    (Some (record { train = train; section = section; enter = enter; leave = leave })) None

-- the letter of a withdrawal, or why there is none
abbrev pub withdrawal_of : ℕ → ℕ → Result (List ℕ) LetterRefusal
withdrawal_of train section =
    cond (pair_in_range train section) (Ok (encoded (Withdrawal train section))) (Err Spoilt)
