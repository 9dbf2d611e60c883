-- Frames that wait in a transport that keeps all, in order.
use Rattle.std.proofs.Common.{◌≡◌, ℕ, zero, suc, ◌+◌, ◌<◌, ◌≤◌, ◌⊎◌, [], ◌∷◌, ◌++◌, length, Some, None, Ok, Option, sym, refl, ap, subst, inl, inr, arith}
use Rattle.std.specs.List.{ContainsAt as Has}
use Rattle.std.proofs.ByRecursion.{has_append_left, has_push}
use Rattle.std.proofs.lemmas.List.{length_push}
use Rattle.frame.specs.Meanings.{Meaning, Proper}
use Rattle.grammar.specs.Grammar.{reading}
use Rattle.grammar.specs.Texts.{text}
use Rattle.transport.specs.Meaning.{Bytes, Frames, NothingNew}
use Rattle.protocol.specs.Steps.{Puts}
use Rattle.protocol.proofs.Texts.{read_text}

-- a frame that says m waits
pub record Waits (m : Meaning) (waiting : Frames) : Type 0 where
  pub proper : Proper m
  pub here : Has waiting (text m)

pub waits_more : (m : Meaning) (bytes : Bytes) (ws : Frames) → Waits m ws → Waits m (ws ++ (bytes ∷ []))
waits_more m bytes ws h = record { proper = h.proper; here = has_append_left ws (bytes ∷ []) (text m) h.here }

pub waits_last : (m : Meaning) (ws : Frames) → Proper m → Waits m (ws ++ (text m ∷ []))
waits_last m ws p = record { proper = p; here = has_push ws (text m) }

has_pop : (bytes x : Bytes) (ws : Frames) → Has (bytes ∷ ws) x → (bytes ≡ x) ⊎ Has ws x
has_pop bytes x ws (zero, lt, e) = inl (e [])
has_pop bytes x ws (suc k, lt, e) = inr (k, omega arith, e)

pub waits_pop : (m : Meaning) (bytes : Bytes) (ws : Frames) → Waits m (bytes ∷ ws) → (reading bytes ≡ Ok m) ⊎ Waits m ws
waits_pop m bytes ws h =
    elim (has_pop bytes (text m) ws h.here) [
      | inl e ↦ inl (read_text bytes m h.proper e)
      | inr x ↦ inr (record { proper = h.proper; here = x })
    ]

pub has_none : {A : Type 0} (x : Bytes) → Has [] x → A
has_none x h = absurd (let z : ⊥ = omega (arith, h.1) in z)

-- nothing new in an empty transport
pub none_new : (before after : Frames) → NothingNew before after → before ≡ [] → after ≡ []
none_new before [] h e = refl
none_new before (x ∷ after) h e =
    has_none x (subst (λ (ws : Frames). Has ws x) e (h x (0, omega arith, λ _. refl)))

-- one frame more at most, and at the end
abbrev pub OneMore : Frames → Frames → Type 0
OneMore before after = (after ≡ before) ⊎ ((bytes : Bytes) × (after ≡ before ++ (bytes ∷ [])))

pub puts_one :
    (depth : ℕ) (before after : Frames) (m : Option Meaning) → length before < depth →
    Puts depth before m after → OneMore before after
puts_one depth before after None lt h = inl h
puts_one depth before after (Some m) lt h = inr (text m, h.appended lt)

pub puts_this :
    (depth : ℕ) (before after : Frames) (x : Option Meaning) (m : Meaning) → length before < depth →
    x ≡ Some m → Puts depth before x after → after ≡ before ++ (text m ∷ [])
puts_this depth before after x m lt e h =
    (subst (λ (y : Option Meaning). Puts depth before y after) e h).appended lt

pub kept_waits : (m : Meaning) (before after : Frames) → OneMore before after → Waits m before → Waits m after
kept_waits m before after (inl e) h = subst (Waits m) (sym e) h
kept_waits m before after (inr x) h = subst (Waits m) (sym x.1) (waits_more m x.0 before h)

pub one_more_size : (before after : Frames) → OneMore before after → length after ≤ length before + 1
one_more_size before after (inl e) = let z = ap length e in omega arith
one_more_size before after (inr x) = let z = ap length x.1 in let y = length_push before x.0 in omega arith
