-- The steps over the slots of the window.
use Rattle.std.proofs.Common.{◌≡◌, ℕ, zero, suc, ◌+◌, ◌<◌, ◌≤◌, Bool, cond, List, [], ◌∷◌, ◌++◌, length, length-append, get_or, take, drop, set, replicate, sym, refl, ap, ◌∙◌, append_assoc, append-nil, add_assoc, arith}
use Rattle.std.specs.List.{prefix_len}
use Rattle.std.proofs.lemmas.List.{at_drop_more, take_all, drop_all, take_at, drop_at, take_more_set, drop-append-le, drop-set-lt, length-replicate, map-append}
use Rattle.frame.specs.declared.range.Range.{Range}
use Rattle.frame.specs.Covers.{covers}
use Rattle.planner.specs.Receipts.{marked, with_receipts, in_front, slid}
use Rattle.planner.specs.Windows.{has_receipt, slot_of, window_of}
use Rattle.planner.specs.declared.slot.Slot as code
use Rattle.planner.specs.declared.slot.Slot.TheVariants as slot

abbrev pub receipted : code.Slot → Bool
receipted s = has_receipt (slot_of s)

pub front_is : (slots : List code.Slot) → prefix_len receipted slots ≡ in_front (window_of slots)
front_is [] = refl
front_is (s ∷ slots) = ap (λ n. cond (has_receipt (slot_of s)) n 0) (omega (arith, front_is slots))

pub marks_more :
    (rs : List Range) (n k : ℕ) (slots : List code.Slot) (d v : code.Slot) →
    k < length slots →
    slot_of v ≡ marked (covers rs (n + k)) (slot_of (get_or slots k d)) →
    window_of (take (k + 1) (set slots k v)) ++ with_receipts rs (n + (k + 1)) (window_of (drop (k + 1) (set slots k v))) ≡
    window_of (take k slots) ++ with_receipts rs (n + k) (window_of (drop k slots))
marks_more rs n k slots d v lt e =
    let behind : k < k + 1 = omega arith in
    let rest = with_receipts rs (n + k + 1) (window_of (drop (k + 1) slots)) in
    let here = at_drop_more (λ xs. with_receipts rs (n + k) (window_of xs)) slots k d lt in
    rw (take_more_set slots k v lt, drop-set-lt (k + 1) slots k v behind, ← add_assoc n k 1)
    (ap (λ front. front ++ rest) (map-append slot_of (take k slots) (v ∷ [])) ∙
    append_assoc (window_of (take k slots)) (slot_of v ∷ []) rest ∙
    ap (λ x. window_of (take k slots) ++ (x ∷ rest)) e ∙
    sym (ap (λ tail. window_of (take k slots) ++ tail) here))

pub marks_all :
    (rs : List Range) (n k : ℕ) (slots : List code.Slot) →
    length slots ≤ k →
    window_of (take k slots) ++ with_receipts rs n (window_of (drop k slots)) ≡ window_of slots
marks_all rs n k slots le = rw (take_all k slots le, drop_all k slots le) (append-nil (window_of slots))

-- the slots in front made free and put behind the others
pub slid_is : (k : ℕ) (slots : List code.Slot) → k ≤ length slots → window_of (drop k slots ++ replicate k slot.Free) ≡ slid k (window_of slots)
slid_is zero slots le = ap window_of (append-nil slots)
slid_is (suc k) [] le = absurd (let z : ⊥ = omega arith in z)
slid_is (suc k) (x ∷ slots) le =
    let few : k ≤ length slots = omega arith in
    let behind = sym (append_assoc (drop k slots) (slot.Free ∷ []) (replicate k slot.Free)) ∙
    ap (λ l. l ++ replicate k slot.Free) (sym (drop-append-le k slots (slot.Free ∷ []) few)) in
    ap window_of behind ∙
    slid_is k (slots ++ slot.Free ∷ []) (omega (arith, length-append slots (slot.Free ∷ []))) ∙
    ap (slid k) (map-append slot_of slots (slot.Free ∷ []))

pub turned :
    (by : ℕ) (slots front : List code.Slot) →
    by ≤ length slots →
    front ≡ replicate by slot.Free →
    window_of (drop by (front ++ drop by slots) ++ take by (front ++ drop by slots)) ≡ slid by (window_of slots)
turned by slots front le e =
    let long : length front ≡ by = ap length e ∙ length-replicate by slot.Free in
    ap window_of (ap (λ l. l ++ take by (front ++ drop by slots)) (drop_at front (drop by slots) by long) ∙
    ap (λ l. drop by slots ++ l) (take_at front (drop by slots) by long ∙ e)) ∙
    slid_is by slots le
