-- Whatever is kept is a frame: what the mailbox and the bag owe as the law `sized`.
use Rattle.std.specs.Prelude.{List, get_or}
use Rattle.std.specs.List.{ContainsAt as Has}
use Rattle.std.proofs.lemmas.List.Elements.{All-contains, All-map, Contains-from_at}
use Rattle.transport.specs.declared.kept.Kept.{Kept}
use Rattle.transport.specs.Meaning.{Bytes, Sized}
use Rattle.transport.specs.Stored.{content, held}

pub held_sized : (items : List Kept) (frame : Bytes) → Has (held items) frame → Sized frame
held_sized items frame h =
    let each = All-map Sized content items (λ i d l. (get_or items i d).sized) in
    All-contains Sized (held items) frame each (Contains-from_at (held items) frame h)
