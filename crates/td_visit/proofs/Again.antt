-- A reading that stopped to ask goes on from there as it would have gone on with more answers.
use Rattle.std.proofs.Common.{◌≡◌, ℕ, suc, ◌+◌, ◌≤◌, nat_le, Bool, true, false, cond, List, [], ◌∷◌, ◌++◌, length, drop}
use Rattle.std.proofs.Common.{Option, Some, None, Ok, Err, is_some, refl, sym, ap, subst, ◌∙◌, arith}
use Rattle.std.proofs.Common.{append_assoc, append-nil, if◌then◌else◌}
use Rattle.std.proofs.lemmas.Slice.Eq.{bytes_eq-Decides}
use Rattle.std.specs.List.{find}
use Rattle.std.specs.Str.{bytes_eq}
use Rattle.td_cdr.specs.Format.{◌>>=◌}
use Rattle.td_eval.specs.Mentioning.{Names, names_asked}
use Rattle.td_store.specs.declared.local.Local.{Local}
use Rattle.td_store.specs.declared.record.OfferRecord.{OfferRecord}
use Rattle.td_value.specs.declared.structures.DynamicProp.{DynamicProp}
use Rattle.td_value.specs.declared.structures.Property.{Property}
use Rattle.td_value.specs.declared.unions.SpecifiedProps.{SpecifiedProps}
use Rattle.td_visit.proofs.Readings.{longer, same-ok, reading-name, reading-tried, reading-completed}
use Rattle.td_walk.specs.Resolving.{dynamic_named, is_evaluated}
use Rattle.td_visit.specs.Resuming.{tried_on, made_trying, searched_on, searched_up_to}
use Rattle.td_visit.specs.Resuming.{made_completing, completed_up_to}
use Rattle.td_walk.specs.Questions.{comes_to, made_up_to, TellsMore}
use Rattle.td_walk.specs.Visits.{AnswersRead, evaluation, evaluated_property, evaluated_name, evaluate_names}
use Rattle.td_walk.specs.Visits.{matches_all, if_matching, is_ordinary, desired_names, complete_offer, all_completed}
use Rattle.td_walk.specs.declared.answer.Next.{Next}
use Rattle.td_walk.specs.declared.answer.StepAnswer.{StepAnswer}
use Rattle.td_walk.specs.declared.evaluation.Evaluation.{Evaluation}
use Rattle.td_walk.specs.declared.found.Found.{Found}
use Rattle.td_visit.specs.declared.progress.Completion.{Completion}
use Rattle.td_visit.specs.declared.progress.Scan.{Scan}

if-true : {A : Type 0} (b : Bool) (x y : A) → b ≡ true → (if b then x else y) ≡ x
if-true true x y e = refl
if-true false x y e = absurd cc

if-false : {A : Type 0} (b : Bool) (x y : A) → b ≡ false → (if b then x else y) ≡ y
if-false true x y e = absurd cc
if-false false x y e = refl

-- ---- a name is evaluated once

some-either : {X : Type 0} (b : Bool) (x : X) (u : Option X) → is_some u ≡ true → is_some (cond b (Some x) u) ≡ true
some-either true x u h = refl
some-either false x u h = h

some-still : {X : Type 0} (b : Bool) (x : X) (u v : Option X) → (is_some u ≡ true → is_some v ≡ true)
    → is_some (cond b (Some x) u) ≡ true → is_some (cond b (Some x) v) ≡ true
some-still true x u v h e = refl
some-still false x u v h e = h e

still-evaluated : (made more : List Evaluation) (name : List ℕ) → is_evaluated made name ≡ true
    → is_evaluated (made ++ more) name ≡ true
still-evaluated [] more name e = absurd cc
still-evaluated (x ∷ made) more name e =
    some-still (bytes_eq x.name name) x (find (λ e. bytes_eq e.name name) made)
    (find (λ e. bytes_eq e.name name) (made ++ more)) (still-evaluated made more name) e

last-evaluated : (made : List Evaluation) (x : Evaluation) (name : List ℕ) → bytes_eq x.name name ≡ true
    → is_evaluated (made ++ x ∷ []) name ≡ true
last-evaluated [] x name e = rw e refl
last-evaluated (y ∷ made) x name e =
    some-either (bytes_eq y.name name) y (find (λ e. bytes_eq e.name name) (made ++ x ∷ []))
    (last-evaluated made x name e)

-- the name is asked for no more
abbrev Settled : List Property → List Evaluation → List ℕ → Type 0
Settled ps made name =
    (more : List Evaluation) (rest : List StepAnswer)
    → evaluated_name ps (made ++ more) name rest ≡ Ok (made ++ more, rest)

settled-evaluated : (ps : List Property) (made : List Evaluation) (name : List ℕ) → is_evaluated made name ≡ true
    → Settled ps made name
settled-evaluated ps made name e more rest =
    if-true {A = AnswersRead (List Evaluation)} (is_evaluated (made ++ more) name) (Ok (made ++ more, rest))
    (evaluated_property (made ++ more) name (dynamic_named ps name) rest) (still-evaluated made more name e)

either-way : (made : List Evaluation) (name : List ℕ) (rest : List StepAnswer) (b : Bool) (o : Option DynamicProp)
    → o ≡ None → (if b then Ok (made, rest) else evaluated_property made name o rest) ≡ Ok (made, rest)
either-way made name rest true o e = refl
either-way made name rest false None e = refl
either-way made name rest false (Some d) e = absurd cc

settled-absent : (ps : List Property) (made : List Evaluation) (name : List ℕ) → dynamic_named ps name ≡ None
    → Settled ps made name
settled-absent ps made name e more rest =
    either-way (made ++ more) name rest (is_evaluated (made ++ more) name) (dynamic_named ps name) e

record IsMade (ps : List Property) (made : List Evaluation) (name : List ℕ) (now : List Evaluation) : Type 0 where
  more : List Evaluation
  grown : now ≡ made ++ more
  settled : Settled ps now name

kept-made : (ps : List Property) (made : List Evaluation) (name : List ℕ) (answers : List StepAnswer)
    (r : List Evaluation × List StepAnswer) → ◌≡◌ {A = AnswersRead (List Evaluation)} (Ok (made, answers)) (Ok r)
    → Settled ps made name → IsMade ps made name r.0
kept-made ps made name answers r e h =
    let is : made ≡ r.0 =
    ap (λ (z : List Evaluation × List StepAnswer). z.0) (same-ok {X = List Evaluation} (made, answers) r e) in
    record {
      more = [];
      grown = sym is ∙ sym (append-nil made);
      settled = subst (λ (m : List Evaluation). Settled ps m name) is h;
    }

name-made : (ps : List Property) (made : List Evaluation) (name : List ℕ) (answers : List StepAnswer)
    (r : List Evaluation × List StepAnswer) → evaluated_name ps made name answers ≡ Ok r → IsMade ps made name r.0
name-made ps made name answers r e =
    by_test (is_evaluated made name) refl (dynamic_named ps name) refl answers e
  where
    by_test : (b : Bool) → is_evaluated made name ≡ b → (o : Option DynamicProp) → dynamic_named ps name ≡ o
        → (xs : List StepAnswer) → (if b then Ok (made, xs) else evaluated_property made name o xs) ≡ Ok r
        → IsMade ps made name r.0
    by_test true is o absent xs e = kept-made ps made name xs r e (settled-evaluated ps made name is)
    by_test false is None absent xs e = kept-made ps made name xs r e (settled-absent ps made name absent)
    by_test false is (Some d) found [] e = absurd cc
    by_test false is (Some d) found (a ∷ xs) e =
        let added : List Evaluation = evaluation name d a ∷ [] in
        let now : made ++ added ≡ r.0 =
        ap (λ (z : List Evaluation × List StepAnswer). z.0) (same-ok {X = List Evaluation} (made ++ added, xs) r e) in
        record {
          more = added;
          grown = sym now;
          settled =
              subst (λ (m : List Evaluation). Settled ps m name) now
              (settled-evaluated ps (made ++ added) name
              (last-evaluated made (evaluation name d a) name ((bytes_eq-Decides name name).1 refl)));
        }

-- ---- evaluations

record Grows (made now : List Evaluation) : Type 0 where
  more : List Evaluation
  is : now ≡ made ++ more

grown-up-to : (ps : List Property) (names : Names) (made : List Evaluation) (answers : List StepAnswer)
    → Grows made (made_up_to ps made names answers)
grown-up-to ps [] made answers = record { more = []; is = sym (append-nil made) }
grown-up-to ps (name ∷ names) made answers =
    by_first (grown-up-to ps names) (evaluated_name ps made name answers) refl
  where
    by_first : ((m : List Evaluation) (xs : List StepAnswer) → Grows m (made_up_to ps m names xs))
        → (o : AnswersRead (List Evaluation)) → evaluated_name ps made name answers ≡ o
        → Grows made (comes_to o (λ r. made_up_to ps r.0 names r.1) made)
    by_first below (Err q) e = record { more = []; is = sym (append-nil made) }
    by_first below (Ok r) e =
        let one = name-made ps made name answers r e in
        let two = below r.0 r.1 in
        record {
          more = one.more ++ two.more;
          is =
              two.is ∙ (ap (λ (m : List Evaluation). m ++ two.more) one.grown
              ∙ append_assoc made one.more two.more);
        }

none-left : (made : List Evaluation) (name : List ℕ) (b : Bool) (o : Option DynamicProp) (answers : List StepAnswer)
    (q : Next) → (if b then Ok (made, answers) else evaluated_property made name o answers) ≡ Err q → answers ≡ []
none-left made name true o answers q e = absurd cc
none-left made name false None answers q e = absurd cc
none-left made name false (Some d) [] q e = refl
none-left made name false (Some d) (a ∷ answers) q e = absurd cc

pub again : (ps : List Property) (names : Names) (made : List Evaluation) (answers : List StepAnswer) (q : Next)
    (rest : List StepAnswer) → evaluate_names ps made names answers ≡ Err q
    → evaluate_names ps made names (answers ++ rest) ≡ evaluate_names ps (made_up_to ps made names answers) names rest
again ps [] made answers q rest e = absurd cc
again ps (name ∷ names) made answers q rest e =
    by_first (again ps names) (evaluated_name ps made name answers) refl e
  where
    by_first : ((m : List Evaluation) (xs : List StepAnswer) (q : Next) (rest : List StepAnswer)
        → evaluate_names ps m names xs ≡ Err q
        → evaluate_names ps m names (xs ++ rest) ≡ evaluate_names ps (made_up_to ps m names xs) names rest)
        → (o : AnswersRead (List Evaluation)) → evaluated_name ps made name answers ≡ o
        → (o >>= λ r. evaluate_names ps r.0 names r.1) ≡ Err q
        → evaluate_names ps made (name ∷ names) (answers ++ rest)
        ≡ evaluate_names ps (comes_to o (λ r. made_up_to ps r.0 names r.1) made) (name ∷ names) rest
    by_first below (Err p) is e =
        ap (λ (xs : List StepAnswer). evaluate_names ps made (name ∷ names) (xs ++ rest))
        (none-left made name (is_evaluated made name) (dynamic_named ps name) answers p is)
    by_first below (Ok r) is e =
        let next : List Evaluation = made_up_to ps r.0 names r.1 in
        let one = name-made ps made name answers r is in
        let two = grown-up-to ps names r.0 r.1 in
        let behind : evaluated_name ps made name (answers ++ rest) ≡ Ok (r.0, r.1 ++ rest) =
        longer (evaluated_name ps made name) answers r.0 r.1 rest (reading-name ps made name) is in
        let skipped : evaluated_name ps next name rest ≡ Ok (next, rest) =
        subst (λ (m : List Evaluation). evaluated_name ps m name rest ≡ Ok (m, rest)) (sym two.is)
        (one.settled two.more rest) in
        ap (λ (o : AnswersRead (List Evaluation)). o >>= λ r. evaluate_names ps r.0 names r.1) behind
        ∙ (below r.0 r.1 q rest e
        ∙ sym (ap (λ (o : AnswersRead (List Evaluation)). o >>= λ r. evaluate_names ps r.0 names r.1) skipped))

-- ---- the search

abbrev matched : Local → OfferRecord → AnswersRead (List Evaluation) → AnswersRead (List Found)
matched l o r = r >>= λ x. Ok (if_matching l o x.0, x.1)

err-of : (l : Local) (o : OfferRecord) (r : AnswersRead (List Evaluation)) (q : Next) → matched l o r ≡ Err q → r ≡ Err q
err-of l o (Ok x) q e = absurd cc
err-of l o (Err p) q e = let s : p ≡ q = cc in ap (λ (z : Next). Err z) s

abbrev tried_by : Bool → Local → OfferRecord → List Evaluation → List StepAnswer → AnswersRead (List Found)
tried_by b l o made answers =
    if b then Ok (record { offer = o; made = made } ∷ [], answers)
    else evaluate_names o.properties made (names_asked l.constraint l.preference) answers
    >>= λ r. Ok (if_matching l o r.0, r.1)

tried-again-by : (b : Bool) (l : Local) (o : OfferRecord) (made : List Evaluation) (answers : List StepAnswer)
    (q : Next) (rest : List StepAnswer) → tried_by b l o made answers ≡ Err q
    → tried_by b l o made (answers ++ rest)
    ≡ tried_by b l o (made_up_to o.properties made (names_asked l.constraint l.preference) answers) rest
tried-again-by true l o made answers q rest e = absurd cc
tried-again-by false l o made answers q rest e =
    let names : Names = names_asked l.constraint l.preference in
    let is : evaluate_names o.properties made names answers ≡ Err q =
    err-of l o (evaluate_names o.properties made names answers) q e in
    ap (matched l o) (again o.properties names made answers q rest is)

tried-again : (l : Local) (o : OfferRecord) (made : List Evaluation) (answers : List StepAnswer) (q : Next)
    (rest : List StepAnswer) → tried_on l o made answers ≡ Err q
    → tried_on l o made (answers ++ rest) ≡ tried_on l o (made_trying l o made answers) rest
tried-again l o made answers q rest e =
    let names : Names = names_asked l.constraint l.preference in
    let is : made_trying l o made answers ≡ made_up_to o.properties made names answers =
    ap (λ (r : AnswersRead (List Found)). comes_to r (λ x. []) (made_up_to o.properties made names answers)) e in
    tried-again-by (matches_all o.proxy) l o made answers q rest e
    ∙ sym (ap (λ (m : List Evaluation). tried_on l o m rest) is)

-- so many of the candidates were tried, and from there the search goes on
pub record GoesOn (reads : List StepAnswer → AnswersRead (List Found)) (l : Local) (os : List OfferRecord) (tried : ℕ)
    (answers : List StepAnswer) (s : Scan) : Type 0 where
  pub passed : ℕ
  pub count : s.tried ≡ tried + passed
  pub within : passed ≤ length os
  pub goes : (rest : List StepAnswer)
      → reads (answers ++ rest) ≡ searched_on l (drop passed os) s.found s.made rest

abbrev on : Local → List OfferRecord → List Found → AnswersRead (List Found) → AnswersRead (List Found)
on l os found r = r >>= λ x. searched_on l os (found ++ x.0) [] x.1

abbrev up_to : Local → OfferRecord → List OfferRecord → ℕ → List Found → List Evaluation → List StepAnswer
    → AnswersRead (List Found) → Scan
up_to l o os tried found made answers r =
    comes_to r (λ x. searched_up_to l os (tried + 1) (found ++ x.0) [] x.1)
    (record { tried = tried; made = made_trying l o made answers; found = found })

abbrev Below : Local → List OfferRecord → Type 0
Below l os =
    (n : ℕ) (fs : List Found) (m : List Evaluation) (xs : List StepAnswer) (q : Next) → searched_on l os fs m xs ≡ Err q
    → GoesOn (searched_on l os fs m) l os n xs (searched_up_to l os n fs m xs)

pub search-again : (l : Local) (os : List OfferRecord) (tried : ℕ) (found : List Found) (made : List Evaluation)
    (answers : List StepAnswer) (q : Next) → searched_on l os found made answers ≡ Err q
    → GoesOn (searched_on l os found made) l os tried answers (searched_up_to l os tried found made answers)
search-again l [] tried found made answers q e = absurd cc
search-again l (o ∷ os) tried found made answers q e =
    by_full (search-again l os) (nat_le l.effective.match_card (length found)) refl e
  where
    by_one : Below l os → nat_le l.effective.match_card (length found) ≡ false → (r : AnswersRead (List Found))
        → tried_on l o made answers ≡ r → on l os found r ≡ Err q
        → GoesOn (searched_on l (o ∷ os) found made) l (o ∷ os) tried answers (up_to l o os tried found made answers r)
    by_one below room (Err p) is e = record {
      passed = 0;
      count = omega arith;
      within = omega arith;
      goes = λ rest.
          if-false {A = AnswersRead (List Found)} (nat_le l.effective.match_card (length found)) (Ok (found, answers ++ rest))
          (on l os found (tried_on l o made (answers ++ rest))) room
          ∙ (ap (on l os found) (tried-again l o made answers p rest is)
          ∙ sym (if-false {A = AnswersRead (List Found)} (nat_le l.effective.match_card (length found)) (Ok (found, rest))
          (on l os found (tried_on l o (made_trying l o made answers) rest)) room));
    }
    by_one below room (Ok x) is e =
        let b = below (tried + 1) (found ++ x.0) [] x.1 q e in
        record {
          passed = suc b.passed;
          count = omega (arith, b.count);
          within = omega (arith, b.within);
          goes = λ rest.
              if-false {A = AnswersRead (List Found)} (nat_le l.effective.match_card (length found))
              (Ok (found, answers ++ rest)) (on l os found (tried_on l o made (answers ++ rest))) room
              ∙ (ap (on l os found) (longer (tried_on l o made) answers x.0 x.1 rest (reading-tried l o made) is)
              ∙ b.goes rest);
        }

    by_full : Below l os → (b : Bool) → nat_le l.effective.match_card (length found) ≡ b
        → (if b then Ok (found, answers) else on l os found (tried_on l o made answers)) ≡ Err q
        → GoesOn (searched_on l (o ∷ os) found made) l (o ∷ os) tried answers
        (searched_up_to l (o ∷ os) tried found made answers)
    by_full below true full e = absurd cc
    by_full below false room e =
        subst (GoesOn (searched_on l (o ∷ os) found made) l (o ∷ os) tried answers)
        (sym (if-false {A = Scan} (nat_le l.effective.match_card (length found))
        (record { tried = tried; made = made; found = found })
        (up_to l o os tried found made answers (tried_on l o made answers)) room))
        (by_one below room (tried_on l o made answers) refl e)

abbrev full_or : Bool → Scan → Scan → Scan
full_or b s t = if b then s else t

-- no more candidates are tried than there are
pub within-all : (l : Local) (os : List OfferRecord) (tried : ℕ) (found : List Found) (made : List Evaluation)
    (answers : List StepAnswer) → (searched_up_to l os tried found made answers).tried ≤ tried + length os
within-all l [] tried found made answers = omega arith
within-all l (o ∷ os) tried found made answers =
    by_full (within-all l os) (nat_le l.effective.match_card (length found)) (tried_on l o made answers)
  where
    by_full : ((n : ℕ) (fs : List Found) (m : List Evaluation) (xs : List StepAnswer)
        → (searched_up_to l os n fs m xs).tried ≤ n + length os) → (b : Bool) (r : AnswersRead (List Found))
        → (full_or b (record { tried = tried; made = made; found = found })
        (up_to l o os tried found made answers r)).tried ≤ tried + length (o ∷ os)
    by_full below true r = omega arith
    by_full below false (Err p) = omega arith
    by_full below false (Ok x) = omega (arith, below (tried + 1) (found ++ x.0) [] x.1)

-- ---- desired properties

completed-again-by : (b : Bool) (o : OfferRecord) (names : Names) (made : List Evaluation) (answers : List StepAnswer)
    (q : Next) (rest : List StepAnswer)
    → (if b then evaluate_names o.properties made names answers else Ok (made, answers)) ≡ Err q
    → (if b then evaluate_names o.properties made names (answers ++ rest) else Ok (made, answers ++ rest))
    ≡ (if b then evaluate_names o.properties (if b then made_up_to o.properties made names answers else made) names rest
    else Ok (if b then made_up_to o.properties made names answers else made, rest))
completed-again-by true o names made answers q rest e = again o.properties names made answers q rest e
completed-again-by false o names made answers q rest e = absurd cc

completed-again : (desired : SpecifiedProps) (o : OfferRecord) (made : List Evaluation) (answers : List StepAnswer)
    (q : Next) (rest : List StepAnswer) → complete_offer desired o made answers ≡ Err q
    → complete_offer desired o made (answers ++ rest)
    ≡ complete_offer desired o (made_completing desired o made answers) rest
completed-again desired o made answers q rest e =
    completed-again-by (is_ordinary o) o (desired_names desired o.properties) made answers q rest e

abbrev with_made : OfferRecord → List Evaluation → Found
with_made o made = record { offer = o; made = made }

abbrev onwards : SpecifiedProps → List StepAnswer → Completion → AnswersRead (List Found)
onwards desired rest c = all_completed desired c.complete c.waiting rest

pub all-again : (desired : SpecifiedProps) (before fs : List Found) (answers : List StepAnswer) (q : Next)
    (rest : List StepAnswer) → all_completed desired before fs answers ≡ Err q
    → all_completed desired before fs (answers ++ rest)
    ≡ all_completed desired (completed_up_to desired before fs answers).complete
    (completed_up_to desired before fs answers).waiting rest
all-again desired before [] answers q rest e = absurd cc
all-again desired before (f ∷ fs) answers q rest e =
    by_first (λ before xs q e. all-again desired before fs xs q rest e) (complete_offer desired f.offer f.made answers) refl
    e
  where
    by_first : ((before : List Found) (xs : List StepAnswer) (q : Next) → all_completed desired before fs xs ≡ Err q
        → all_completed desired before fs (xs ++ rest) ≡ onwards desired rest (completed_up_to desired before fs xs))
        → (r : AnswersRead (List Evaluation)) → complete_offer desired f.offer f.made answers ≡ r
        → (r >>= λ x. all_completed desired (before ++ with_made f.offer x.0 ∷ []) fs x.1) ≡ Err q
        → all_completed desired before (f ∷ fs) (answers ++ rest)
        ≡ onwards desired rest (comes_to r (λ x. completed_up_to desired (before ++ with_made f.offer x.0 ∷ []) fs x.1)
        (record {
          waiting = with_made f.offer (made_completing desired f.offer f.made answers) ∷ fs;
          complete = before;
        }))
    by_first below (Err p) is e =
        ap (λ (r : AnswersRead (List Evaluation)). r
        >>= λ x. all_completed desired (before ++ with_made f.offer x.0 ∷ []) fs x.1)
        (completed-again desired f.offer f.made answers p rest is)
    by_first below (Ok x) is e =
        ap (λ (r : AnswersRead (List Evaluation)). r
        >>= λ x. all_completed desired (before ++ with_made f.offer x.0 ∷ []) fs x.1)
        (longer (complete_offer desired f.offer f.made) answers x.0 x.1 rest (reading-completed desired f.offer f.made) is)
        ∙ below (before ++ with_made f.offer x.0 ∷ []) x.1 q e

pub all-ends : (desired : SpecifiedProps) (before fs : List Found) (answers : List StepAnswer) (all : List Found)
    (left : List StepAnswer) → all_completed desired before fs answers ≡ Ok (all, left)
    → completed_up_to desired before fs answers ≡ record { waiting = []; complete = all }
all-ends desired before [] answers all left e =
    ap (λ (z : List Found × List StepAnswer). let c : Completion = record { waiting = []; complete = z.0 } in c)
    (same-ok {X = List Found} (before, answers) (all, left) e)
all-ends desired before (f ∷ fs) answers all left e =
    by_first (λ before xs e. all-ends desired before fs xs all left e) (complete_offer desired f.offer f.made answers) e
  where
    by_first : ((before : List Found) (xs : List StepAnswer) → all_completed desired before fs xs ≡ Ok (all, left)
        → completed_up_to desired before fs xs ≡ record { waiting = []; complete = all })
        → (r : AnswersRead (List Evaluation))
        → (r >>= λ x. all_completed desired (before ++ with_made f.offer x.0 ∷ []) fs x.1) ≡ Ok (all, left)
        → comes_to r (λ x. completed_up_to desired (before ++ with_made f.offer x.0 ∷ []) fs x.1)
        (record {
          waiting = with_made f.offer (made_completing desired f.offer f.made answers) ∷ fs;
          complete = before;
        }) ≡ record { waiting = []; complete = all }
    by_first below (Err p) e = absurd cc
    by_first below (Ok x) e = below (before ++ with_made f.offer x.0 ∷ []) x.1 e

-- ---- one candidate more

abbrev added : List Found → AnswersRead (List Found) → AnswersRead (List Found)
added found r = r >>= λ x. Ok (found ++ x.0, x.1)

pub step : (l : Local) (o : OfferRecord) (os : List OfferRecord) (tried : ℕ) (found found2 : List Found)
    (made made2 : List Evaluation) (left left2 : List StepAnswer) (question : Option Next) → is_some question ≡ false
    → nat_le l.effective.match_card (length found) ≡ false
    → TellsMore (tried_on l o made left) question found found2 left2 → made2 ≡ made_trying l o made left
    → (searched_on l os found2 made2 left2 ≡ searched_on l (o ∷ os) found made left)
    × (searched_up_to l os (tried + 1) found2 made2 left2 ≡ searched_up_to l (o ∷ os) tried found made left)
step l o os tried found found2 made made2 left left2 (Some q) none room h is = absurd cc
step l o os tried found found2 made made2 left left2 None none room h is = by_read (tried_on l o made left) refl h
  where
    by_read : (r : AnswersRead (List Found)) → tried_on l o made left ≡ r → added found r ≡ Ok (found2, left2)
        → (searched_on l os found2 made2 left2 ≡ searched_on l (o ∷ os) found made left)
        × (searched_up_to l os (tried + 1) found2 made2 left2 ≡ searched_up_to l (o ∷ os) tried found made left)
    by_read (Err q) e h = absurd cc
    by_read (Ok x) e h =
        let pair = same-ok {X = List Found} (found ++ x.0, x.1) (found2, left2) h in
        let one : found ++ x.0 ≡ found2 = ap (λ (z : List Found × List StepAnswer). z.0) pair in
        let two : x.1 ≡ left2 = ap (λ (z : List Found × List StepAnswer). z.1) pair in
        let new : made2 ≡ [] =
        is ∙ ap (λ (r : AnswersRead (List Found)). comes_to r (λ y. [])
        (made_up_to o.properties made (names_asked l.constraint l.preference) left)) e in
        let reads : searched_on l os (found ++ x.0) [] x.1 ≡ searched_on l os found2 made2 left2 =
        ap (λ (fs : List Found). searched_on l os fs [] x.1) one
        ∙ (ap (λ (xs : List StepAnswer). searched_on l os found2 [] xs) two
        ∙ ap (λ (m : List Evaluation). searched_on l os found2 m left2) (sym new)) in
        let stops : searched_up_to l os (tried + 1) (found ++ x.0) [] x.1
        ≡ searched_up_to l os (tried + 1) found2 made2 left2 =
        ap (λ (fs : List Found). searched_up_to l os (tried + 1) fs [] x.1) one
        ∙ (ap (λ (xs : List StepAnswer). searched_up_to l os (tried + 1) found2 [] xs) two
        ∙ ap (λ (m : List Evaluation). searched_up_to l os (tried + 1) found2 m left2) (sym new)) in (
          sym (if-false {A = AnswersRead (List Found)} (nat_le l.effective.match_card (length found)) (Ok (found, left))
              (on l os found (tried_on l o made left)) room ∙ (ap (on l os found) e ∙ reads)),
          sym (if-false {A = Scan} (nat_le l.effective.match_card (length found))
              (record { tried = tried; made = made; found = found })
              (up_to l o os tried found made left (tried_on l o made left)) room
              ∙ (ap (up_to l o os tried found made left) e ∙ stops)),
        )
