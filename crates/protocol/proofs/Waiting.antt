-- What waits stays sound over put and get.
use Rattle.std.proofs.Common.{ℕ, Some, None, Option, subst, inl, inr}
use Rattle.std.specs.List.{ContainsAt as Has}
use Rattle.frame.specs.Meanings.{Meaning, Proper}
use Rattle.transport.specs.Meaning.{Bytes, Frames, EachFrame}
use Rattle.protocol.specs.Steps.{Puts}
use Rattle.protocol.proofs.Invariant.{Sound}

-- what is put, if anything, may wait
abbrev pub PutOK : (Meaning → Type 0) → Option Meaning → Type 0
PutOK P None = Unit {0}
PutOK P (Some m) = Proper m × P m

module _ {P Q : Meaning → Type 0} (h : (m : Meaning) → P m → Q m) where
  sound_grows : (bytes : Bytes) → Sound P bytes → Sound Q bytes
  sound_grows bytes s = record { of = s.of; is = s.is; proper = s.proper; ok = h s.of s.ok }

  pub all_grows : (waiting : Frames) → EachFrame (Sound P) waiting → EachFrame (Sound Q) waiting
  all_grows waiting s bytes m = sound_grows bytes (s bytes m)

  pub put_keeps :
      (depth : ℕ) (before after : Frames) (m : Option Meaning) → EachFrame (Sound P) before → PutOK Q m →
      Puts depth before m after → EachFrame (Sound Q) after
  put_keeps depth before after None s ok e bytes x =
      sound_grows bytes (s bytes (subst (λ (ws : Frames). Has ws bytes) e x))
  put_keeps depth before after (Some m) s ok e bytes x =
      elim (e.only bytes x) [
        | inl y ↦ sound_grows bytes (s bytes y)
        | inr y ↦ record { of = m; is = y; proper = ok.0; ok = ok.1 }
      ]
