-- How many frames wait after a put and a get, at a transport of a depth above 0.
use Rattle.std.proofs.Common.{◌≡◌, ℕ, ◌+◌, ◌<◌, [], ◌∷◌, length, sym, refl, ap, ◌∙◌, add-one, arith}
use Rattle.std.proofs.ByRecursion.{has_get_or}
use Rattle.std.proofs.lemmas.List.{length_push}
use Rattle.transport.specs.Meaning.{Bytes, Frames, NothingNew, Added, Took, Missed}

pub added_length : {depth : ℕ} {before after : Frames} {frame : Bytes}
    → Added depth before frame after → length before < depth → length after ≡ length before + 1
added_length {before = before} {frame = frame} h l = ap length (h.appended l) ∙ length_push before frame

pub took_length : {depth n : ℕ} {before after : Frames} {memory memory' : Bytes}
    → Took depth before memory n after memory' → 0 < depth → length before ≡ length after + 1
took_length {after = after} t d = ap length (t.taken d) ∙ sym (add-one (length after))

none_new : (before after : Frames) → NothingNew before after → before ≡ [] → after ≡ []
none_new before [] n e = refl
none_new before (f ∷ fs) n e =
    let w = n f (has_get_or (f ∷ fs) 0 f (omega arith)) in
    absurd (let none : ⊥ = omega (arith, w.1, ap length e) in none)

-- where nothing came, nothing waited and nothing waits
pub missed_none : {depth : ℕ} {before after : Frames} {memory memory' : Bytes}
    → Missed depth before memory after memory' → 0 < depth → (before ≡ []) × (after ≡ [])
missed_none {before = before} {after = after} m d =
    (m.none d, none_new before after m.nothing_new (m.none d))
