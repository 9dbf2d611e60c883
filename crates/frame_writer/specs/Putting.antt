-- What the writing functions leave in memory. Only `Writes` is for others: the front of the memory is the frame's text,
-- and everything behind it is as before.
use Rattle.std.specs.Prelude.{◌≡◌, ℕ, ◌≤◌, List, [], ◌++◌, length, drop, Some, None, Option}
use Rattle.frame.specs.Meanings.{Meaning, Proper}
use Rattle.grammar.specs.Texts.{text}

-- the text of what is there, or nothing
abbrev pub text_if_any : {T : Type 0} → (T → List ℕ) → Option T → List ℕ
text_if_any text (Some x) = text x
text_if_any text None = []

-- the part stands in front, and everything behind it is as before
pub record Puts (before part after : List ℕ) (len : ℕ) : Type 0 where
  pub size : len ≡ length part
  pub bytes : after ≡ part ++ drop len before

-- every frame of the code is proper; its text stands in front, is at most 709 bytes long, and is no other frame's
pub record Writes (m : Meaning) (before after : List ℕ) (len : ℕ) : Type 0 where
  pub proper : Proper m
  pub size : len ≡ length (text m)
  pub bound : len ≤ 709
  pub bytes : after ≡ text m ++ drop len before
  pub alone : (other : Meaning) → Proper other → text other ≡ text m → other ≡ m
