-- What does not look into a letter is the same of letters and of their bytes.
use Rattle.std.proofs.Common.{◌≡◌, ℕ, zero, suc, ◌+◌, Bool, true, false, ◌&&◌, ◌||◌, leb, List, [], ◌∷◌, ◌++◌, get_or, is_some, Some, None, Option, sym, refl, ap, ◌∙◌, Bor}
use lib.ListN.{length-map}
use lib.Seq.{map-set}
use Rattle.std.proofs.lemmas.List.{map-append}
use Rattle.std.specs.Option.{option_map}
use Rattle.letter.specs.Letters.{content}
use Rattle.letter.specs.declared.letter.Letter.{Letter}
use Rattle.office.specs.Accepted.{accepted_at}
use Rattle.office.specs.Deliveries.{first, delivery, delivers, delivers_first, left, left_by, number_of}
use Rattle.office.specs.Destinations.{Destination, accepts, ranges_of, with_places}
use Rattle.office.specs.Places.{has_place, place_of, is_free, kept, shifted}
use Rattle.office.specs.Ranges.{run, runs}
use Rattle.office.specs.Seen.{contents, seen}
use Rattle.office.specs.Wholes.{front}
use Rattle.office.proofs.Receipts.{Sound}
use Rattle.office.specs.declared.office.Office.{Office}
use Rattle.office.specs.declared.places.Places.{Places}

pub at_contents : (ps : List (Option Letter)) (k : ℕ)
    → get_or (contents ps) k None ≡ option_map content (get_or ps k None)
at_contents [] zero = refl
at_contents [] (suc k) = refl
at_contents (p ∷ ps) zero = refl
at_contents (p ∷ ps) (suc k) = at_contents ps k

some_content : (p : Option Letter) → is_some (option_map content p) ≡ is_some p
some_content None = refl
some_content (Some l) = refl

free_content : (p : Option Letter) → is_free (option_map content p) ≡ is_free p
free_content None = refl
free_content (Some l) = refl

pub some_contents : (ps : List (Option Letter)) (k : ℕ)
    → is_some (get_or (contents ps) k None) ≡ is_some (get_or ps k None)
some_contents ps k = ap is_some (at_contents ps k) ∙ some_content (get_or ps k None)

free_contents : (ps : List (Option Letter)) (k : ℕ)
    → is_free (get_or (contents ps) k None) ≡ is_free (get_or ps k None)
free_contents ps k = ap is_free (at_contents ps k) ∙ free_content (get_or ps k None)

kept_contents : (b : Bool) (ps : List (Option Letter)) (k : ℕ) (l : Letter)
    → contents (kept b ps k l) ≡ kept b (contents ps) k (content l)
kept_contents false ps k l = refl
kept_contents true ps k l = map-set (option_map content) ps k (Some l)

pub shifted_contents : (ps : List (Option Letter)) → contents (shifted ps) ≡ shifted (contents ps)
shifted_contents [] = refl
shifted_contents (p ∷ ps) = map-append (option_map content) ps (None ∷ [])

pub runs_contents : (lower next : ℕ) (ps : List (Option Letter))
    → runs lower next (contents ps) ≡ runs lower next ps
runs_contents lower next [] = refl
runs_contents lower next (None ∷ ps) =
    ap (λ rs. run lower next ++ rs) (runs_contents (next + 1) (next + 1) ps)
runs_contents lower next (Some l ∷ ps) = runs_contents lower (next + 1) ps

-- the ranges, of the letters or of their bytes
pub ranges_seen : (o : Office) → runs 1 (o.places.delivered + 1) o.places.letters ≡ ranges_of (seen o)
unfolding ranges_of
ranges_seen o = sym (runs_contents 1 (o.places.delivered + 1) o.places.letters)

-- a letter, kept in its place or not
pub accepts_kept : (o : Office) (n : ℕ) (l : Letter) (q : Places)
    → q.delivered ≡ o.places.delivered
    → q.letters ≡
    kept (has_place o.places.delivered n && is_free (get_or o.places.letters (place_of o.places.delivered n) None))
    o.places.letters (place_of o.places.delivered n) l
    → with_places (seen o) q.delivered (contents q.letters) ≡ accepts (seen o) n (content l)
unfolding accepts
accepts_kept o n l q same is =
    let d = o.places.delivered in
    let ps = o.places.letters in
    let k = place_of d n in
    rw (same, is, kept_contents (has_place d n && is_free (get_or ps k None)) ps k l)
    (ap (λ b. with_places (seen o) d (kept (has_place d n && b) (contents ps) k (content l))) (sym (free_contents ps k)))

pub accepted_contents : (d : ℕ) (ps : List (Option Letter)) (n : ℕ)
    → accepted_at d (contents ps) n ≡ accepted_at d ps n
accepted_contents d ps n =
    ap (λ b. (leb 1 n && leb n d) || (has_place d n && b)) (some_contents ps (place_of d n))

pub front_contents : (ps : List (Option Letter)) → front (contents ps) ≡ front ps
front_contents [] = refl
front_contents (None ∷ ps) = refl
front_contents (Some l ∷ ps) = ap (λ n. n + 1) (front_contents ps)

-- what a reference to a letter shows
pub shown : (r : Option (Bor Letter)) (ps : List (Option Letter)) → option_map (λ x. x.now) r ≡ first ps
    → option_map (λ l. content l.now) r ≡ first (contents ps)
shown r ps e = through r ∙ ap (option_map content) e ∙ sym (at_contents ps 0)
  where
    through : (r : Option (Bor Letter))
        → option_map (λ l. content l.now) r ≡ option_map content (option_map (λ x. x.now) r)
    through None = refl
    through (Some l) = refl

pub sound_seen : (o : Office) → Sound (seen o)
sound_seen o =
    let p = o.places in
    record {
      eight = length-map p.letters (option_map content) ∙ p.eight;
      counted = p.counted;
      numbered = λ k e. p.numbered k (sym (some_contents p.letters k) ∙ e);
    }

-- a delivery, as the code makes it
left_contents : (o : Destination) (d : ℕ) (ps : List (Option Letter)) (p : Option Letter)
    → delivery (with_places o (left_by p d ps).0 (contents (left_by p d ps).1)) (number_of d p)
    ≡ delivers_first (option_map content p) (with_places o d (contents ps))
left_contents o d ps None = refl
left_contents o d ps (Some l) =
    ap (λ qs. delivery (with_places o (d + 1) qs) (Some (d + 1))) (shifted_contents ps)

pub delivers_left : (o : Office) (q : Places) (n : Option ℕ)
    → n ≡ number_of o.places.delivered (first o.places.letters)
    → q.delivered ≡ (left o.places.delivered o.places.letters).0
    → q.letters ≡ (left o.places.delivered o.places.letters).1
    → delivery (with_places (seen o) q.delivered (contents q.letters)) n ≡ delivers (seen o)
unfolding delivers
delivers_left o q n e f g =
    let d = o.places.delivered in
    let ps = o.places.letters in
    rw (e, f, g)
    (left_contents (seen o) d ps (first ps) ∙ ap (λ p. delivers_first p (seen o)) (sym (at_contents ps 0)))
