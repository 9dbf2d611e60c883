-- A new journal shows the entries of the letters that it took, over any run.
use Rattle.std.proofs.Common.{◌≡◌, ℕ, ◌+◌, ◌≤◌, Bool, true, false, cond, ◌&&◌, leb, List, [], ◌∷◌, ◌++◌, length, Some, None, sym, refl, ap, ◌∙◌, append_assoc, append-nil, arith, length-append}
use Rattle.std.specs.List.{AllByRecursion}
use Rattle.std.proofs.lemmas.Bool.{and_parts, and_from, leb-true, le-leb, cond-true}
use Rattle.letter.specs.Letters.{is_letter}
use Rattle.taker.specs.Steps.{Page, all_taken}
use Rattle.taker.specs.Journals.{entry, entries, journal_step, ShowsEntries}

-- a run from this page that took all the letters
record Run (page : Page) (ls : List (List ℕ)) (after : Page) : Type 0 where
  shown : after ≡ page ++ entries ls
  letters : AllByRecursion (λ l. is_letter l ≡ true) ls
  few : length after ≤ 4096

no_letters : (page after : Page) → length page ≤ 4096 → Some page ≡ Some after → Run page [] after
no_letters page after few e =
    let same : page ≡ after = cc in
    record { shown = sym same ∙ sym (append-nil page); letters = tt; few = omega (arith, ap length same) }

one_more :
    (page : Page) (l : List ℕ) (ls : List (List ℕ)) (after : Page) →
    is_letter l ≡ true →
    Run (page ++ entry l) ls after →
    Run page (l ∷ ls) after
one_more page l ls after is run =
    record {
      shown = run.shown ∙ append_assoc page (entry l) (entries ls);
      letters = (is, run.letters);
      few = run.few;
    }

-- by what the step gave for the first letter, where its test came out as t, and what holds of the rest
first :
    (t : Bool) (l : List ℕ) (ls : List (List ℕ)) (page after : Page) →
    (is_letter l && leb (length page + (1 + length l)) 4096) ≡ t →
    all_taken journal_step (cond t (Some (page ++ entry l)) None) ls ≡ Some after →
    (length (page ++ entry l) ≤ 4096 →
    all_taken journal_step (Some (page ++ entry l)) ls ≡ Some after →
    Run (page ++ entry l) ls after) →
    Run page (l ∷ ls) after
first true l ls page after is e rest =
    let both = and_parts _ _ is in
    let fits = leb-true _ _ both.1 in
    one_more page l ls after both.0 (rest (omega (arith, length-append page (entry l))) e)
first false l ls page after is e rest = absurd (let z : ◌≡◌ {A = ℕ} 0 1 = cc in omega arith)

runs :
    (ls : List (List ℕ)) (page after : Page) →
    length page ≤ 4096 →
    all_taken journal_step (Some page) ls ≡ Some after →
    Run page ls after
runs [] page after few e = no_letters page after few e
runs (l ∷ ls) page after few e = first _ l ls page after refl e (runs ls (page ++ entry l) after)

step_takes :
    (page : Page) (l : List ℕ) →
    is_letter l ≡ true →
    length page + (1 + length l) ≤ 4096 →
    journal_step page l ≡ Some (page ++ entry l)
step_takes page l is few = cond-true _ _ _ (and_from _ _ is (le-leb _ _ few))

takes :
    (ls : List (List ℕ)) (page : Page) →
    AllByRecursion (λ l. is_letter l ≡ true) ls →
    length page + length (entries ls) ≤ 4096 →
    all_taken journal_step (Some page) ls ≡ Some (page ++ entries ls)
takes [] page all few = ap Some (sym (append-nil page))
takes (l ∷ ls) page all few =
    let here = length-append page (entry l) in
    let rest = length-append (entry l) (entries ls) in
    ap (λ o. all_taken journal_step o ls) (step_takes page l all.0 (omega arith)) ∙
    takes ls (page ++ entry l) all.1 (omega arith) ∙
    ap Some (append_assoc page (entry l) (entries ls))

pub shows_entries : ShowsEntries
shows_entries =
    record {
      only = λ ls page e. (runs ls [] page (omega arith) e).shown;
      takes = λ ls all few. takes ls [] all (omega arith);
      fits = λ ls page e.
          let run = runs ls [] page (omega arith) e in
          (run.letters, omega (arith, run.few, ap length run.shown));
    }
