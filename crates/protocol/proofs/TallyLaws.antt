-- What a tally that has not failed says, without its steps.
use Rattle.std.proofs.Common.{◌≡◌, ℕ, zero, suc, ◌+◌, ◌≤◌, Bool, true, false, eqb, List, [], ◌∷◌, ◌++◌, length, take, Some, None, Option, sym, refl, ap, ◌∙◌, add-one, arith}
use Rattle.std.proofs.lemmas.List.{append-nil, take-append-le, length_push}
use Rattle.std.proofs.lemmas.Bool.{eqb-true}
use Rattle.taker.specs.Steps.{Page, Step, all_taken}
use Rattle.protocol.specs.Calls.{Event}
use Rattle.protocol.specs.Tallies.{
  Letter,
  Effect,
  nothing,
  adds,
  hands,
  effect,
  letter_at,
  Tally,
  failed,
  tally,
  turned,
  applied,
  handed_if,
  counted,
  tallied,
  added,
  written,
  handed,
  delivered,
  up_to,
}
use Rattle.protocol.proofs.Letters.{nowhere, at_within}

-- the letters are those written, the page is that of the first d of them, and the numbers answered are 1 to d
pub record Means (step : Step) (first : Page) (ws : List Letter) (ns : List ℕ) (ls : List Letter) (d : ℕ) (page : Page) : Type 0 where
  pub letters : ls ≡ ws
  pub applied : all_taken step (Some first) (take d ls) ≡ Some page
  pub numbers : ns ≡ up_to d
  pub few : d ≤ length ls

-- one letter more
all_taken_push :
    (step : Step) (x : Option Page) (ls : List Letter) (l : Letter) (page : Page) →
    all_taken step x ls ≡ Some page → all_taken step x (ls ++ (l ∷ [])) ≡ step page l
all_taken_push step None [] l page e = nowhere page e
all_taken_push step None (y ∷ ls) l page e = nowhere page e
all_taken_push step (Some q) [] l page e =
    let z : q ≡ page = cc in
    whole (step q l) ∙ ap (λ (r : Page). step r l) z
  where
    whole : (x : Option Page) → all_taken step x [] ≡ x
    whole None = refl
    whole (Some r) = refl
all_taken_push step (Some q) (y ∷ ls) l page e = all_taken_push step (step q y) ls l page e

take_letter :
    (ls : List Letter) (d : ℕ) (l : Letter) → letter_at ls (suc d) ≡ Some l →
    take (suc d) ls ≡ take d ls ++ (l ∷ [])
take_letter [] d l e = nowhere l e
take_letter (x ∷ ls) zero l e = let z : x ≡ l = cc in ap (λ (y : Letter). y ∷ []) z
take_letter (x ∷ ls) (suc d) l e = ap (λ (ys : List Letter). x ∷ ys) (take_letter ls d l e)

not_failed : {A : Type 0} (ls : List Letter) (d : ℕ) (page : Page) → failed ≡ tally ls d page → A
not_failed ls d page e = let z : ◌≡◌ {A = ℕ} 0 1 = cc in absurd (omega arith)

module _ (step : Step) (first : Page) (ws : List Letter) (ns : List ℕ) (ls : List Letter) (d : ℕ) (page : Page) (m : Means step first ws ns ls d page) where
  module _ (ls' : List Letter) (d' : ℕ) (page' : Page) where
    turned_means :
        (n : ℕ) (l : Letter) (x : Option Page) → n ≡ d + 1 → letter_at ls (d + 1) ≡ Some l → step page l ≡ x →
        turned ls (d + 1) x ≡ tally ls' d' page' → Means step first (ws ++ []) (ns ++ (n ∷ [])) ls' d' page'
    turned_means n l None en el es e = not_failed ls' d' page' e
    turned_means n l (Some q) en el es e =
        let a : ls ≡ ls' = cc in
        let b : d + 1 ≡ d' = cc in
        let c : q ≡ page' = cc in
        let at : letter_at ls (suc d) ≡ Some l = rw (sym (add-one d)) el in
        let z : suc d ≡ d' = sym (add-one d) ∙ b in
        record {
          letters = sym a ∙ (m.letters ∙ sym (append-nil ws));
          applied =
              ap (λ (xs : List Letter). all_taken step (Some first) (take d' xs)) (sym a) ∙
              (ap (λ (i : ℕ). all_taken step (Some first) (take i ls)) (sym z) ∙
              (ap (all_taken step (Some first)) (take_letter ls d l at) ∙
              (all_taken_push step (Some first) (take d ls) l page m.applied ∙ (es ∙ ap (λ (r : Page). Some r) c))));
          numbers =
              ap (λ (xs : List ℕ). xs ++ (n ∷ [])) m.numbers ∙
              (ap (λ (i : ℕ). up_to d ++ (i ∷ [])) (en ∙ add-one d) ∙ ap up_to z);
          few = (let y = at_within ls (d + 1) l el in let w = ap length a in omega arith);
        }

    applied_means :
        (n : ℕ) (x : Option Letter) → n ≡ d + 1 → letter_at ls (d + 1) ≡ x →
        applied step x ls d page ≡ tally ls' d' page' →
        Means step first (ws ++ []) (ns ++ (n ∷ [])) ls' d' page'
    applied_means n None en el e = not_failed ls' d' page' e
    applied_means n (Some l) en el e = turned_means n l (step page l) en el refl e

    handed_means :
        (n : ℕ) (b : Bool) → eqb n (d + 1) ≡ b → handed_if b step ls d page ≡ tally ls' d' page' →
        Means step first (ws ++ []) (ns ++ (n ∷ [])) ls' d' page'
    handed_means n false eb e = not_failed ls' d' page' e
    handed_means n true eb e = applied_means n (letter_at ls (d + 1)) (eqb-true n (d + 1) eb) refl e

    counted_means :
        (x : Effect) → counted step x (tally ls d page) ≡ tally ls' d' page' →
        Means step first (ws ++ added x) (ns ++ handed x) ls' d' page'
    counted_means nothing e =
        let a : ls ≡ ls' = cc in
        let b : d ≡ d' = cc in
        let c : page ≡ page' = cc in
        rw (append-nil ws, append-nil ns, ← a, ← b, ← c) m
    counted_means (adds l) e =
        let a : ls ++ (l ∷ []) ≡ ls' = cc in
        let b : d ≡ d' = cc in
        let c : page ≡ page' = cc in
        record {
          letters = sym a ∙ ap (λ (xs : List Letter). xs ++ (l ∷ [])) m.letters;
          applied =
              ap (λ (xs : List Letter). all_taken step (Some first) (take d' xs)) (sym a) ∙
              (ap (λ (i : ℕ). all_taken step (Some first) (take i (ls ++ (l ∷ [])))) (sym b) ∙
              (ap (all_taken step (Some first)) (take-append-le d ls (l ∷ []) m.few) ∙ (m.applied ∙ ap (λ (r : Page). Some r) c)));
          numbers = append-nil ns ∙ (m.numbers ∙ ap up_to b);
          few = (let w = ap length a in let y = length_push ls l in let f = m.few in omega arith);
        }
    counted_means (hands n) e = handed_means n (eqb n (d + 1)) refl e

-- by what the tally was before
tally_by :
    (step : Step) (first : Page) (ws : List Letter) (ns : List ℕ) (t : Tally) (x : Effect) (ls : List Letter) (d : ℕ) (page : Page) →
    ((ls : List Letter) (d : ℕ) (page : Page) → t ≡ tally ls d page → Means step first ws ns ls d page) →
    counted step x t ≡ tally ls d page →
    Means step first (ws ++ added x) (ns ++ handed x) ls d page
tally_by step first ws ns failed x ls d page before e = not_failed ls d page e
tally_by step first ws ns (tally ks c q) x ls d page before e =
    counted_means step first ws ns ks c q (before ks c q refl) ls d page x e

pub tally_means :
    (step : Step) (first : Page) (es : List Event) (ls : List Letter) (d : ℕ) (page : Page) →
    tallied step first es ≡ tally ls d page → Means step first (written es) (delivered es) ls d page
tally_means step first [] ls d page e =
    let a : [] ≡ ls = cc in
    let b : 0 ≡ d = cc in
    let c : first ≡ page = cc in
    rw (← a, ← b, ← c) (record { letters = refl; applied = refl; numbers = refl; few = omega arith })
tally_means step first (e ∷ es) ls d page h =
    tally_by step first (written es) (delivered es) (tallied step first es) (effect e.call e.answer) ls d page (tally_means step first es) h
