-- What the loops keep: the calls of a list made so far, and a call that was made again and again and not stopped yet.
use Rattle.std.proofs.Common.{◌≡◌, ℕ, zero, suc, ◌+◌, ◌-◌, ◌<◌, ◌≤◌, Bool, true, false, cond, ◌⊎◌, List, [], ◌∷◌, ◌++◌, map, reverse, length, get_or, take, None, sym, refl, ap, ◌∙◌, subst, inl, inr, zero-add, add-one, arith}
use Rattle.std.proofs.lemmas.List.{append_assoc, append-nil, map_push, reverse-append, take_more}
use Rattle.answer.specs.Phases.{stops, none_made, one_more, ending, refusal_of}
use Rattle.answer.specs.declared.answer.Answer.{Answer}
use Rattle.answer.specs.declared.answer.Answer.TheVariants as answer
use Rattle.answer.specs.declared.turn.Phase.{Phase}
use Rattle.frame.specs.declared.form.Form.{Form}
use Rattle.line.specs.Meaning.{over, model, Makes}
use Rattle.line.specs.declared.line.Line as code
use Rattle.protocol.specs.Calls.{Call, Event, event}
use Rattle.protocol.specs.Lines.{Over, Line}
use Rattle.protocol.specs.Runs.{Run, start, more}
use Rattle.protocol.specs.Steps.{Made}
use Rattle.protocol.specs.Turns.{Until, enough, last, again}
use Rattle.protocol.proofs.Safety.{runs_are_safe}
use Rattle.runs.specs.Calls.{call_of}
use Rattle.runs.specs.Recorded.{Ran}
use Rattle.runs.specs.declared.call.Call as calls
use Rattle.runs.proofs.Joining.{goes_on}
use Rattle.taker.specs.declared.taker.Taker as taker
use Rattle.transport.specs.declared.transport.Transport as transport

-- one more at the front is one more at the end of what is turned round
reverse_more : {A : Type 0} (x : A) (xs : List A) → reverse (x ∷ xs) ≡ reverse xs ++ (x ∷ [])
reverse_more x xs = reverse-append (x ∷ []) xs

module _ {O B K : Type 0} (o : transport.Ghosts O) (b : transport.Ghosts B) (k : taker.Ghosts K) where
  -- after i calls of the list
  pub record SoFar (cs : List calls.Call) (i : ℕ) (before after : List Answer) (begin now : code.Line O B K) : Type 0 where
    pub made : List Event
    pub called : reverse (map (λ (e : Event). e.call) made) ≡ map call_of (take i cs)
    pub answered : after ≡ before ++ reverse (map (λ (e : Event). e.answer) made)
    pub run : Run (over o b k) (model o b k begin) made (model o b k now)

  pub none_yet :
      (cs : List calls.Call) (before : List Answer) (begin : code.Line O B K) →
      SoFar cs 0 before before begin begin
  none_yet cs before begin = record { made = []; called = refl; answered = sym (append-nil before); run = start }

  pub one_call :
      (cs : List calls.Call) (i : ℕ) (c : calls.Call) (before after later : List Answer) (begin now next : code.Line O B K) (a : Answer) →
      i < length cs →
      c ≡ get_or cs i c →
      SoFar cs i before after begin now →
      Makes o b k (call_of c) a now next →
      later ≡ after ++ (a ∷ []) →
      SoFar cs (i + 1) before later begin next
  one_call cs i c before after later begin now next a within at s m e =
      record {
        made = event (call_of c) m.got a ∷ s.made;
        called =
            reverse_more (call_of c) (map (λ (x : Event). x.call) s.made) ∙
            (ap (λ (xs : List Call). xs ++ (call_of c ∷ [])) s.called ∙
            (sym (map_push call_of (take i cs) c) ∙
            ap (map call_of) (ap (λ (x : calls.Call). take i cs ++ (x ∷ [])) at ∙ sym (take_more cs i c within))));
        answered =
            e ∙
            (ap (λ (xs : List Answer). xs ++ (a ∷ [])) s.answered ∙
            (append_assoc before (reverse (map (λ (x : Event). x.answer) s.made)) (a ∷ []) ∙
            ap (λ (xs : List Answer). before ++ xs) (sym (reverse_more a (map (λ (x : Event). x.answer) s.made)))));
        run = more s.run m;
      }

  pub ran :
      (ok : Bool) (cs : List calls.Call) (before after : List Answer) (begin end : code.Line O B K) (made : List Event) →
      reverse (map (λ (e : Event). e.call) made) ≡ cond ok (map call_of cs) [] →
      after ≡ before ++ reverse (map (λ (e : Event). e.answer) made) →
      Run (over o b k) (model o b k begin) made (model o b k end) →
      Ran o b k ok cs before after begin end
  ran ok cs before after begin end made ec ea r =
      record {
        made = made;
        called = ec;
        answered = ea;
        run = r;
        promised = λ first es f q. goes_on o b k first es made begin end f q r;
        safe = λ f. runs_are_safe (over o b k) (model o b k begin) (model o b k end) made f r;
      }

-- n calls, none of which stopped
pub data Going (w : Over) (c : Call) (first : Line) : ℕ → Line → Type 0 where
  yet : Going w c first zero first
  one :
      {n : ℕ} {L M : Line} {a : Answer} → Going w c first n L → Made w c a L M → stops a ≡ false →
      Going w c first (suc n) M

-- n more, and then what this came to
abbrev further : ℕ → Phase → Phase
further n p = record { count = n + p.count; refused = p.refused }

module _ (w : Over) (c : Call) (A M : Line) where
  ends :
      (L : Line) (n m t : ℕ) (p : Phase) → n + m ≡ t → Going w c A n L → Until w c m p L M →
      Until w c t (further n p) A M
  ends L n m t p e yet u =
      let z : m ≡ t = omega arith in
      let q : p ≡ further 0 p = ap (λ (x : ℕ). record { count = x; refused = p.refused }) (sym (zero-add p.count)) in
      subst (λ (x : ℕ). Until w c x (further 0 p) A M) z (subst (λ (x : Phase). Until w c m x A M) q u)
  ends L n m t p e (one {n = k} {L = K} g x s) u =
      let z : k + (p.count + 1) ≡ suc k + p.count = omega arith in
      subst (λ (y : ℕ). Until w c t (record { count = y; refused = p.refused }) A M) z
      (ends K k (suc m) t (one_more p) (omega arith) g (again x s u))

  -- it stopped at its i-th call, counted from 0, of t at most
  pub stopped :
      (L : Line) (i t : ℕ) (a : Answer) → Going w c A i L → i < t → Made w c a L M → stops a ≡ true →
      Until w c t (record { count = i; refused = refusal_of a }) A M
  stopped L i t a g lt m s =
      let z : i + 0 ≡ i = omega arith in
      subst (λ (y : ℕ). Until w c t (record { count = y; refused = refusal_of a }) A M) z
      (ends L i (suc (t - suc i)) t (ending a) (omega arith) g (last m s))

  -- it was made as often as it may be
  pub cut_off :
      (i t : ℕ) → Going w c A i M → i ≤ t → t ≤ i →
      Until w c t (record { count = t; refused = None }) A M
  cut_off i t g x y =
      let z : i + 0 ≡ t = omega arith in
      subst (λ (k : ℕ). Until w c t (record { count = k; refused = None }) A M) z
      (ends M i 0 t none_made (omega arith) g enough)

  -- one call more
  pub went_on :
      (L : Line) (i : ℕ) (a : Answer) → Going w c A i L → Made w c a L M → stops a ≡ false →
      Going w c A (i + 1) M
  went_on L i a g m s = subst (λ (n : ℕ). Going w c A n M) (sym (add-one i)) (one g m s)

-- an answer by which a call goes on
pub goes :
    (a : Answer) →
    (a ≡ answer.Done) ⊎ (((n : ℕ) × (a ≡ answer.Number n)) ⊎ ((f : Form) × (a ≡ answer.Form f))) →
    stops a ≡ false
goes a (inl e) = ap stops e
goes a (inr (inl e)) = ap stops e.1
goes a (inr (inr e)) = ap stops e.1
