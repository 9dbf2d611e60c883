-- A get from one transport, and a put of what came into another.
use Rattle.std.proofs.Common.{ℕ, ◌⊎◌, take, sym, subst, inl, inr}
use Rattle.std.specs.List.{ContainsAt as Has}
use Rattle.transport.specs.Meaning.{Bytes, Frames, Took, Added}
use Rattle.transport.proofs.Keeps.{added_keeps}
use Rattle.transport.proofs.Lengths.{added_length, took_length}
use Rattle.transport.proofs.Outcomes.{took_front}
use Rattle.transport_tests.specs.Moves.{Moved}

pub moved : {d e n : ℕ} {from to from' to' : Frames} {memory memory' : Bytes}
    → Took d from memory n from' memory' → Added e to (take n memory') to'
    → Moved d e from to from' to'
moved {from = from} {to = to} t p =
    let came = subst (Has from) (sym (took_front t)) t.waited in
    record {
      nothing_new = t.nothing_new;
      only = added_keeps (λ g. Has to g ⊎ Has from g) p (inr came) (λ g h. inl h);
      off = took_length t;
      on = added_length p;
    }
