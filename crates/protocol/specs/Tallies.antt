-- The tally of a run. It is fed only what each call was and what it answered, and never sees the line.
use Rattle.std.specs.Prelude.{ℕ, zero, suc, ◌+◌, Bool, true, false, List, [], ◌∷◌, ◌++◌, Some, None, Option, ◌==◌}
use Rattle.answer.specs.declared.answer.Answer.{Answer}
use Rattle.answer.specs.declared.answer.Answer.TheVariants as answer
use Rattle.letter.specs.Changes.{encoded}
use Rattle.letter.specs.declared.change.Change.TheVariants.{Put}
use Rattle.taker.specs.Steps.{Page, Step}
use Rattle.protocol.specs.Calls.{
  Call,
  Event,
  opening,
  asking,
  hearing,
  closing,
  finishing,
  reading,
  delivering,
  writing,
  posting,
  sending,
}

abbrev pub Letter : Type 0
Letter = List ℕ

-- what a call counts for
pub data Effect : Type 0 where
  nothing : Effect
  -- a letter was written
  adds : Letter → Effect
  -- the letter of this number was delivered
  hands : ℕ → Effect

-- of a call that answered a number
abbrev pub numbering : Call → ℕ → Effect
numbering opening n = nothing
numbering asking n = nothing
numbering hearing n = nothing
numbering closing n = nothing
numbering finishing n = nothing
numbering reading n = nothing
numbering delivering n = hands n
numbering (writing bytes) n = adds bytes
numbering (posting path) n = adds (encoded (Put path))
numbering (sending clock) n = nothing

-- a refused call counts for nothing
abbrev pub effect : Call → Answer → Effect
effect c answer.Done = nothing
effect c answer.Nothing = nothing
effect c (answer.Number n) = numbering c n
effect c (answer.Form f) = nothing
effect c (answer.Refused why) = nothing

-- letter n, counted from 1
abbrev pub letter_at : List Letter → ℕ → Option Letter
letter_at [] n = None
letter_at (l ∷ ls) zero = None
letter_at (l ∷ ls) (suc zero) = Some l
letter_at (l ∷ ls) (suc (suc n)) = letter_at ls (suc n)

-- the letters written, how many are delivered, and the page
pub data Tally : Type 0 where
  failed : Tally
  tally : (letters : List Letter) (d : ℕ) (page : Page) → Tally

abbrev pub turned : List Letter → ℕ → Option Page → Tally
turned ls d None = failed
turned ls d (Some page) = tally ls d page

abbrev pub applied : Step → Option Letter → List Letter → ℕ → Page → Tally
applied step None ls d page = failed
applied step (Some l) ls d page = turned ls (d + 1) (step page l)

abbrev pub handed_if : Bool → Step → List Letter → ℕ → Page → Tally
handed_if false step ls d page = failed
handed_if true step ls d page = applied step (letter_at ls (d + 1)) ls d page

-- it fails where the number is not d + 1, there is no such letter, or there is no page for it
abbrev pub counted : Step → Effect → Tally → Tally
counted step e failed = failed
counted step nothing (tally ls d page) = tally ls d page
counted step (adds l) (tally ls d page) = tally (ls ++ (l ∷ [])) d page
counted step (hands n) (tally ls d page) = handed_if (n == d + 1) step ls d page

abbrev pub tallied : Step → Page → List Event → Tally
tallied step first [] = tally [] 0 first
tallied step first (e ∷ es) = counted step (effect e.call e.answer) (tallied step first es)

-- how many letters the tally has as delivered
abbrev pub tallied_d : Tally → ℕ
tallied_d failed = 0
tallied_d (tally ls d page) = d

-- The same without the tally's steps: the letters that writes and posts added, and the numbers that delivers
-- answered, both in order.
abbrev pub added : Effect → List Letter
added nothing = []
added (adds l) = l ∷ []
added (hands n) = []

abbrev pub written : List Event → List Letter
written [] = []
written (e ∷ es) = written es ++ added (effect e.call e.answer)

abbrev pub handed : Effect → List ℕ
handed nothing = []
handed (adds l) = []
handed (hands n) = n ∷ []

abbrev pub delivered : List Event → List ℕ
delivered [] = []
delivered (e ∷ es) = delivered es ++ handed (effect e.call e.answer)

-- 1 to d
abbrev pub up_to : ℕ → List ℕ
up_to zero = []
up_to (suc d) = up_to d ++ (suc d ∷ [])
