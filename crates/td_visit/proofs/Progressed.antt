-- A visit stands where its progress says, at the beginning and after each step.
use Rattle.std.proofs.Common.{◌≡◌, ℕ, ◌+◌, ◌-◌, ◌≤◌, Bool, true, false, List, [], ◌∷◌, ◌++◌, length, take, drop}
use Rattle.std.proofs.Common.{Option, Some, None, Result, Ok, Err, is_some, refl, sym, ap, subst, ◌∙◌, arith}
use Rattle.std.proofs.Common.{if◌then◌else◌, IfOk, OnOk, OnErr, unwrap_or, nat_le}
use Rattle.std.proofs.lemmas.List.{append_assoc, append-nil, length-append, length-drop, take-append-drop, drop-drop}
use Rattle.std.proofs.lemmas.List.{take_at, take-append-le, drop-append-le}
use Rattle.td_cdr.specs.Format.{◌>>=◌}
use Rattle.td_cdr.specs.declared.memory.Memory.{Memory}
use Rattle.td_store.specs.declared.local.Local.{Local}
use Rattle.td_store.specs.declared.record.LinkRecord.{LinkRecord}
use Rattle.td_store.specs.declared.record.OfferRecord.{OfferRecord}
use Rattle.td_visit.proofs.Again.{search-again, within-all, all-again, all-ends}
use Rattle.td_visit.proofs.Never.{asked}
use Rattle.td_visit.proofs.Readings.{reading-searched, reading-all}
use Rattle.td_visit.proofs.Turns.{begins_asking, longer_place}
use Rattle.td_walk.specs.Answers.{IsRankedAnswer, IsAnswer, AnswersGathered, HasDrawn, DrawsGathered, drawn_by}
use Rattle.td_visit.specs.Resuming.{tried_on, searched_on, searched_up_to, completed_up_to, completed_on}
use Rattle.td_visit.specs.Resuming.{searching_on, resumed_by, resume_visit, start, asks_first, IsPlaceBy, IsPlace}
use Rattle.td_visit.specs.Resuming.{HasProgress}
use Rattle.td_visit.specs.Resuming.{steps_by, wanted_by, given_by, ForwardsBy}
use Rattle.td_visit.specs.Resuming.{answers_left, visit_end, IsEnd, IsAsked, CompletesTo, ComesTo}
use Rattle.td_walk.specs.Questions.{AsksOrGives}
use Rattle.td_walk.specs.Visits.{AnswersRead, search_candidates, after_search, visit_by, visit_of, all_completed}
use Rattle.td_walk.specs.Visits.{forward_steps, gathered_offers, next_of, question_of}
use Rattle.td_walk.specs.declared.answer.Next.{Next}
use Rattle.td_walk.specs.declared.answer.Next.TheVariants.{Done}
use Rattle.td_walk.specs.declared.answer.StepAnswer.{StepAnswer}
use Rattle.td_walk.specs.declared.answer.SubAnswer.{SubAnswer}
use Rattle.td_walk.specs.declared.found.Found.{Found}
use Rattle.td_walk.specs.declared.gathering.Gathered.{Gathered}
use Rattle.td_visit.specs.declared.progress.Completion.{Completion}
use Rattle.td_visit.specs.declared.progress.Others.{Others}
use Rattle.td_visit.specs.declared.progress.Progress.{Progress}
use Rattle.td_visit.specs.declared.progress.Scan.{Scan}

-- ---- the beginning

fresh : (l : Local) (os : List OfferRecord) (found : List Found) (xs : List StepAnswer)
    → search_candidates l os found xs ≡ searched_on l os found [] xs
fresh l [] found xs = refl
fresh l (o ∷ os) found xs =
    by_one (fresh l os) (nat_le l.effective.match_card (length found)) (tried_on l o [] xs)
  where
    by_one : ((fs : List Found) (ys : List StepAnswer) → search_candidates l os fs ys ≡ searched_on l os fs [] ys) → (b : Bool)
        → (r : AnswersRead (List Found)) → (if b then Ok (found, xs) else r >>= λ x. search_candidates l os (found ++ x.0) x.1)
        ≡ (if b then Ok (found, xs) else r >>= λ x. searched_on l os (found ++ x.0) [] x.1)
    by_one below true r = refl
    by_one below false (Ok x) = below (found ++ x.0) x.1
    by_one below false (Err q) = refl

begins : (path : Option LinkRecord) (l : Local) (rest : List StepAnswer)
    → visit_by path l rest ≡ resumed_by path l (start (is_some path)) rest
begins None l rest =
    ap (λ (r : AnswersRead (List Found)). r >>= λ x. after_search l x.0 x.1) (fresh l l.candidates [] rest)
begins (Some link) l rest = refl

pub starts : (l : Local) (answers : List StepAnswer) (p : Progress) → p ≡ start (is_some l.path) → HasProgress l answers p
unfolding visit_of resume_visit
starts l answers p e =
    subst (HasProgress l answers) (sym e)
    (record {
      within = omega arith;
      tries = omega arith;
      goes_on = λ rest. begins l.path l rest;
      asks = λ done. absurd cc;
    })

-- ---- an answer more

pub taken : (l : Local) (answers more : List StepAnswer) (a : StepAnswer) (p : Progress) → more ≡ answers ++ a ∷ []
    → HasProgress l answers p → HasProgress l more p
taken l answers more a p e h =
    let long : length more ≡ length answers + 1 = ap length e ∙ length-append answers (a ∷ []) in
    let same : take p.read more ≡ take p.read answers =
    ap (take p.read) e ∙ take-append-le p.read answers (a ∷ []) h.within in
    record {
      within = omega (arith, h.within, long);
      tries = h.tries;
      goes_on = λ rest. ap (λ (xs : List StepAnswer). visit_of l (xs ++ rest)) same ∙ h.goes_on rest;
      asks = λ done.
          let others = h.asks done in
          record {
            searched = others.searched;
            complete = others.complete;
            place =
                subst (λ (xs : List StepAnswer). IsPlace l p.completion.complete xs p.others)
                (sym (ap (drop p.read) e ∙ drop-append-le p.read answers (a ∷ []) h.within))
                (longer_place l.path l p.completion.complete (drop p.read answers) (a ∷ []) p.others others.place);
          };
    }

-- or none more, when out of memory
pub taken_or_kept : {A E : Type 0} (r : Result A E) (l : Local) (answers more : List StepAnswer) (a : StepAnswer)
    (p : Progress) → OnOk r (more ≡ answers ++ a ∷ []) → OnErr r (more ≡ answers) → HasProgress l answers p
    → HasProgress l more p
taken_or_kept (Ok x) l answers more a p ok err h = taken l answers more a p ok h
taken_or_kept (Err e) l answers more a p ok err h =
    subst (λ (xs : List StepAnswer). HasProgress l xs p) (sym err) h

-- ---- steps

-- no other trader is asked before the end of the search
early : (l : Local) (answers : List StepAnswer) (p : Progress) → HasProgress l answers p → p.searched ≡ false
    → p.completed ≡ true → ⊥
early l answers p h search done =
    let both : true ≡ false = sym ((h.asks done).searched) ∙ search in absurd cc

visits : (l : Local) (answers : List StepAnswer) (p : Progress) → HasProgress l answers p
    → visit_of l answers ≡ resume_visit l p (answers_left answers p)
visits l answers p h =
    sym (ap (visit_of l) (take-append-drop p.read answers)) ∙ h.goes_on (answers_left answers p)

-- more answers are read
moved : (l : Local) (answers : List StepAnswer) (p : Progress) (front ys rest : List StepAnswer) (n : ℕ)
    → HasProgress l answers p → answers_left answers p ≡ front ++ ys → n + length ys ≡ length answers
    → visit_of l (take n answers ++ rest) ≡ resume_visit l p (front ++ rest)
moved l answers p front ys rest n h e is =
    let before : List StepAnswer = take p.read answers in
    let whole : answers ≡ (before ++ front) ++ ys =
    sym (take-append-drop p.read answers)
    ∙ (ap (λ (zs : List StepAnswer). before ++ zs) e ∙ sym (append_assoc before front ys)) in
    let long : length answers ≡ length (before ++ front) + length ys =
    ap length whole ∙ length-append (before ++ front) ys in
    let count : length (before ++ front) ≡ n = omega (arith, long, is) in
    let taken : take n answers ≡ before ++ front = ap (take n) whole ∙ take_at (before ++ front) ys n count in
    ap (λ (zs : List StepAnswer). visit_of l (zs ++ rest)) taken
    ∙ (ap (visit_of l) (append_assoc before front rest) ∙ h.goes_on (front ++ rest))

-- how many answers there are
many : (l : Local) (answers : List StepAnswer) (p : Progress) (front ys : List StepAnswer) → HasProgress l answers p
    → answers_left answers p ≡ front ++ ys → p.read + (length front + length ys) ≡ length answers
many l answers p front ys h e =
    let long : length (answers_left answers p) ≡ length front + length ys = ap length e ∙ length-append front ys in
    omega (arith, long, length-drop p.read answers, h.within)

searching : (l : Local) (p : Progress) (xs : List StepAnswer) → p.searched ≡ false
    → resume_visit l p xs ≡ searching_on l.path l p.scan xs
unfolding resume_visit
searching l p xs e =
    ap (λ (b : Bool). if b then completed_on l.path l p.completion.complete p.completion.waiting xs
    else searching_on l.path l p.scan xs) e

finishing : (l : Local) (p : Progress) (xs : List StepAnswer) → p.searched ≡ true
    → resume_visit l p xs ≡ completed_on l.path l p.completion.complete p.completion.waiting xs
unfolding resume_visit
finishing l p xs e =
    ap (λ (b : Bool). if b then completed_on l.path l p.completion.complete p.completion.waiting xs
    else searching_on l.path l p.scan xs) e

-- ---- the search

abbrev searched_from : Local → Progress → List StepAnswer → AnswersRead (List Found)
searched_from l p xs = searched_on l (drop p.scan.tried l.candidates) p.scan.found p.scan.made xs

abbrev scanned : Local → Progress → List StepAnswer → Scan
scanned l p xs =
    searched_up_to l (drop p.scan.tried l.candidates) p.scan.tried p.scan.found p.scan.made xs

tried-within : (l : Local) (answers xs : List StepAnswer) (p : Progress) → HasProgress l answers p
    → (scanned l p xs).tried ≤ length l.candidates
tried-within l answers xs p h =
    let most =
    within-all l (drop p.scan.tried l.candidates) p.scan.tried p.scan.found p.scan.made xs in
    omega (arith, h.tries, length-drop p.scan.tried l.candidates, most)

pub search_asks : (l : Local) (answers : List StepAnswer) (p : Progress) (q : Next) → HasProgress l answers p
    → p.searched ≡ false → searched_from l p (answers_left answers p) ≡ Err q → IsAsked l answers q
search_asks l answers p q h search e = record {
  comes =
      visits l answers p h
      ∙ (searching l p (answers_left answers p) search
      ∙ ap (λ (r : AnswersRead (List Found)). r >>= λ x. completed_on l.path l [] x.0 x.1) e);
  asks =
      (reading-searched l (drop p.scan.tried l.candidates) p.scan.found p.scan.made).asks (answers_left answers p) q e;
}

pub search_stops : (l : Local) (answers : List StepAnswer) (p : Progress) (s : Scan) (q : Next) → HasProgress l answers p
    → p.searched ≡ false → searched_from l p (answers_left answers p) ≡ Err q
    → s ≡ scanned l p (answers_left answers p)
    → HasProgress l answers (record {
      read = length answers;
      searched = p.searched;
      completed = p.completed;
      scan = s;
      completion = p.completion;
      others = p.others;
    })
search_stops l answers p s q h search e is =
    let xs : List StepAnswer = answers_left answers p in
    let next : Progress = record {
      read = length answers;
      searched = p.searched;
      completed = p.completed;
      scan = s;
      completion = p.completion;
      others = p.others;
    } in
    let g = search-again l (drop p.scan.tried l.candidates) p.scan.tried p.scan.found p.scan.made xs q e in
    let count : s.tried ≡ p.scan.tried + g.passed = ap (λ (c : Scan). c.tried) is ∙ g.count in
    let behind : drop g.passed (drop p.scan.tried l.candidates) ≡ drop s.tried l.candidates =
    drop-drop g.passed p.scan.tried l.candidates ∙ ap (λ (n : ℕ). drop n l.candidates) (sym count) in
    let tried : s.tried ≤ length l.candidates =
    subst (λ (c : Scan). c.tried ≤ length l.candidates) (sym is) (tried-within l answers xs p h) in
    record {
      within = omega arith;
      tries = tried;
      goes_on = λ rest.
          moved l answers p xs [] rest (length answers) h (sym (append-nil xs)) (omega arith)
          ∙ (searching l p (xs ++ rest) search
          ∙ (ap (λ (r : AnswersRead (List Found)). r >>= λ x. completed_on l.path l [] x.0 x.1)
          (g.goes rest
          ∙ (ap (λ (os : List OfferRecord). searched_on l os (scanned l p xs).found (scanned l p xs).made rest) behind
          ∙ ap (λ (c : Scan). searched_on l (drop s.tried l.candidates) c.found c.made rest) (sym is)))
          ∙ sym (searching l next rest search)));
      asks = λ done. absurd (early l answers p h search done);
    }

-- the number of answers that were read before those that are left
pub fewer_left : (l : Local) (answers : List StepAnswer) (p : Progress) (found : List Found) (ys : List StepAnswer)
    → HasProgress l answers p → searched_from l p (answers_left answers p) ≡ Ok (found, ys) → length ys ≤ length answers
fewer_left l answers p found ys h e =
    let t =
    (reading-searched l (drop p.scan.tried l.candidates) p.scan.found p.scan.made).takes (answers_left answers p) found
    ys e in
    omega (arith, many l answers p t.front ys h t.whole)

pub search_ends : (l : Local) (answers : List StepAnswer) (p : Progress) (found : List Found) (ys : List StepAnswer)
    (s : Scan) (n : ℕ) → HasProgress l answers p → p.searched ≡ false
    → searched_from l p (answers_left answers p) ≡ Ok (found, ys) → s ≡ scanned l p (answers_left answers p)
    → n ≡ length answers - length ys
    → HasProgress l answers (record {
      read = n;
      searched = true;
      completed = p.completed;
      scan = record { tried = s.tried; made = s.made; found = [] };
      completion = record { waiting = found; complete = [] };
      others = p.others;
    })
search_ends l answers p found ys s n h search e is read =
    let xs : List StepAnswer = answers_left answers p in
    let next : Progress = record {
      read = n;
      searched = true;
      completed = p.completed;
      scan = record { tried = s.tried; made = s.made; found = [] };
      completion = record { waiting = found; complete = [] };
      others = p.others;
    } in
    let t =
    (reading-searched l (drop p.scan.tried l.candidates) p.scan.found p.scan.made).takes xs found ys e in
    let all = many l answers p t.front ys h t.whole in
    let tried : s.tried ≤ length l.candidates =
    subst (λ (c : Scan). c.tried ≤ length l.candidates) (sym is) (tried-within l answers xs p h) in
    record {
      within = omega (arith, all, read);
      tries = tried;
      goes_on = λ rest.
          moved l answers p t.front ys rest n h t.whole (omega (arith, all, read))
          ∙ (searching l p (t.front ++ rest) search
          ∙ (ap (λ (r : AnswersRead (List Found)). r >>= λ x. completed_on l.path l [] x.0 x.1) (t.goes rest)
          ∙ sym (finishing l next rest refl)));
      asks = λ done. absurd (early l answers p h search done);
    }

-- as the code tells it
content-none : {X : Type 0} (reads : AnswersRead X) (question : Option Next) (new : X) (left : List StepAnswer)
    → question ≡ None → AsksOrGives reads question new left → reads ≡ Ok (new, left)
content-none reads None new left is h = h
content-none reads (Some q) new left is h = absurd cc

content-some : {X : Type 0} (reads : AnswersRead X) (question : Option Next) (q : Next) (new : X) (left : List StepAnswer)
    → question ≡ Some q → AsksOrGives reads question new left → reads ≡ Err q
content-some {X} reads None q new left is h = absurd cc
content-some {X} reads (Some p) q new left is h =
    let same : p ≡ q = cc in subst (λ (x : Next). ◌≡◌ {A = AnswersRead X} reads (Err x)) same h

pub search_done : (l : Local) (answers behind ys : List StepAnswer) (p next : Progress) (s : Scan)
    (question : Option Next) → HasProgress l answers p → p.searched ≡ false → behind ≡ answers_left answers p
    → question ≡ None → AsksOrGives (searched_from l p behind) question s.found ys → s ≡ scanned l p behind
    → next ≡ record {
      read = length answers - length ys;
      searched = true;
      completed = p.completed;
      scan = record { tried = s.tried; made = s.made; found = [] };
      completion = record { waiting = s.found; complete = [] };
      others = p.others;
    } → HasProgress l answers next
search_done l answers behind ys p next s question h search left none content stopped is =
    subst (HasProgress l answers) (sym is)
    (search_ends l answers p s.found ys s (length answers - length ys) h search
    (ap (searched_from l p) (sym left) ∙ content-none (searched_from l p behind) question s.found ys none content)
    (stopped ∙ ap (scanned l p) left) refl)

pub search_stood : (l : Local) (answers behind ys : List StepAnswer) (p : Progress) (s : Scan)
    (question : Option Next) (q : Next) → HasProgress l answers p → p.searched ≡ false → behind ≡ answers_left answers p
    → question ≡ Some q → AsksOrGives (searched_from l p behind) question s.found ys → s ≡ scanned l p behind
    → HasProgress l answers (record {
      read = length answers;
      searched = p.searched;
      completed = p.completed;
      scan = s;
      completion = p.completion;
      others = p.others;
    })
search_stood l answers behind ys p s question q h search left some content stopped =
    search_stops l answers p s q h search
    (ap (searched_from l p) (sym left) ∙ content-some (searched_from l p behind) question q s.found ys some content)
    (stopped ∙ ap (scanned l p) left)

-- ---- desired properties

abbrev completed_from : Local → Progress → List StepAnswer → AnswersRead (List Found)
completed_from l p xs = all_completed l.query.desired p.completion.complete p.completion.waiting xs

abbrev completed_to : Local → Progress → List StepAnswer → Completion
completed_to l p xs = completed_up_to l.query.desired p.completion.complete p.completion.waiting xs

pub complete_asks : (l : Local) (answers : List StepAnswer) (p : Progress) (q : Next) → HasProgress l answers p
    → p.searched ≡ true → completed_from l p (answers_left answers p) ≡ Err q → IsAsked l answers q
complete_asks l answers p q h search e = record {
  comes =
      visits l answers p h
      ∙ (finishing l p (answers_left answers p) search
      ∙ ap (λ (r : AnswersRead (List Found)). r >>= λ x. gathered_offers x.0 x.1 (wanted_by l.path l x.0) (steps_by l.path l x.0)) e);
  asks =
      (reading-all l.query.desired p.completion.complete p.completion.waiting).asks (answers_left answers p) q e;
}

pub complete_stops : (l : Local) (answers : List StepAnswer) (p : Progress) (c : Completion) (q : Next)
    → HasProgress l answers p → p.searched ≡ true → p.completed ≡ false
    → completed_from l p (answers_left answers p) ≡ Err q → c ≡ completed_to l p (answers_left answers p)
    → HasProgress l answers (record {
      read = length answers;
      searched = p.searched;
      completed = p.completed;
      scan = p.scan;
      completion = c;
      others = p.others;
    })
complete_stops l answers p c q h search going e is =
    let xs : List StepAnswer = answers_left answers p in
    let next : Progress = record {
      read = length answers;
      searched = p.searched;
      completed = p.completed;
      scan = p.scan;
      completion = c;
      others = p.others;
    } in
    record {
      within = omega arith;
      tries = h.tries;
      goes_on = λ rest.
          moved l answers p xs [] rest (length answers) h (sym (append-nil xs)) (omega arith)
          ∙ (finishing l p (xs ++ rest) search
          ∙ (ap (λ (r : AnswersRead (List Found)). r >>= λ x. gathered_offers x.0 x.1 (wanted_by l.path l x.0) (steps_by l.path l x.0))
          (all-again l.query.desired p.completion.complete p.completion.waiting xs q rest e
          ∙ ap (λ (d : Completion). all_completed l.query.desired d.complete d.waiting rest) (sym is))
          ∙ sym (finishing l next rest search)));
      asks = λ done. let both : true ≡ false = sym done ∙ going in absurd cc;
    }

pub complete_fewer : (l : Local) (answers : List StepAnswer) (p : Progress) (all : List Found) (ys : List StepAnswer)
    → HasProgress l answers p → completed_from l p (answers_left answers p) ≡ Ok (all, ys) → length ys ≤ length answers
complete_fewer l answers p all ys h e =
    let t =
    (reading-all l.query.desired p.completion.complete p.completion.waiting).takes (answers_left answers p) all ys e in
    omega (arith, many l answers p t.front ys h t.whole)

-- none waits any more
complete-none : (l : Local) (answers : List StepAnswer) (p : Progress) (c : Completion) (all : List Found)
    (ys : List StepAnswer) → completed_from l p (answers_left answers p) ≡ Ok (all, ys)
    → c ≡ completed_to l p (answers_left answers p) → c ≡ record { waiting = []; complete = all }
complete-none l answers p c all ys e is =
    is ∙ all-ends l.query.desired p.completion.complete p.completion.waiting (answers_left answers p) all ys e

pub complete_ends : (l : Local) (answers : List StepAnswer) (p : Progress) (c : Completion) (all : List Found)
    (ys : List StepAnswer) (n : ℕ) → HasProgress l answers p → p.searched ≡ true
    → completed_from l p (answers_left answers p) ≡ Ok (all, ys) → c ≡ completed_to l p (answers_left answers p)
    → n ≡ length answers - length ys
    → HasProgress l answers (record {
      read = n;
      searched = p.searched;
      completed = true;
      scan = p.scan;
      completion = c;
      others = asks_first l c.complete;
    })
complete_ends l answers p c all ys n h search e is read =
    let xs : List StepAnswer = answers_left answers p in
    let next : Progress = record {
      read = n;
      searched = p.searched;
      completed = true;
      scan = p.scan;
      completion = c;
      others = asks_first l c.complete;
    } in
    let t =
    (reading-all l.query.desired p.completion.complete p.completion.waiting).takes xs all ys e in
    let count = many l answers p t.front ys h t.whole in
    let none = complete-none l answers p c all ys e is in
    record {
      within = omega (arith, count, read);
      tries = h.tries;
      goes_on = λ rest.
          moved l answers p t.front ys rest n h t.whole (omega (arith, count, read))
          ∙ (finishing l p (t.front ++ rest) search
          ∙ (ap (λ (r : AnswersRead (List Found)). r >>= λ x. gathered_offers x.0 x.1 (wanted_by l.path l x.0) (steps_by l.path l x.0)) (t.goes rest)
          ∙ (sym (ap (λ (d : Completion). completed_on l.path l d.complete d.waiting rest) none)
          ∙ sym (finishing l next rest search))));
      asks = λ done. record {
        searched = search;
        complete = ap (λ (d : Completion). d.waiting) none;
        place = begins_asking l c.complete (drop n answers);
      };
    }

-- as the code tells it
pub complete_stood : (l : Local) (answers behind ys : List StepAnswer) (p : Progress) (c : Completion)
    (question : Option Next) (q : Next) → HasProgress l answers p → p.searched ≡ true → p.completed ≡ false
    → behind ≡ answers_left answers p → question ≡ Some q → AsksOrGives (completed_from l p behind) question c.complete ys
    → c ≡ completed_to l p behind
    → HasProgress l answers (record {
      read = length answers;
      searched = p.searched;
      completed = p.completed;
      scan = p.scan;
      completion = c;
      others = p.others;
    })
complete_stood l answers behind ys p c question q h search going left some content stopped =
    complete_stops l answers p c q h search going
    (ap (completed_from l p) (sym left) ∙ content-some (completed_from l p behind) question q c.complete ys some content)
    (stopped ∙ ap (completed_to l p) left)

pub complete_done : (l : Local) (answers behind ys : List StepAnswer) (p next : Progress) (c : Completion)
    (question : Option Next) → HasProgress l answers p → p.searched ≡ true → behind ≡ answers_left answers p
    → question ≡ None → AsksOrGives (completed_from l p behind) question c.complete ys → c ≡ completed_to l p behind
    → next ≡ record {
      read = length answers - length ys;
      searched = p.searched;
      completed = true;
      scan = p.scan;
      completion = c;
      others = asks_first l c.complete;
    } → HasProgress l answers next
complete_done l answers behind ys p next c question h search left none content stopped is =
    subst (HasProgress l answers) (sym is)
    (complete_ends l answers p c c.complete ys (length answers - length ys) h search
    (ap (completed_from l p) (sym left) ∙ content-none (completed_from l p behind) question c.complete ys none content)
    (stopped ∙ ap (completed_to l p) left) refl)

-- ---- other traders

abbrev with_others : Progress → Others → Progress
with_others p others = record {
  read = p.read;
  searched = p.searched;
  completed = p.completed;
  scan = p.scan;
  completion = p.completion;
  others = others;
}

pub place_of : (l : Local) (answers behind : List StepAnswer) (p : Progress) (found : List Found) → HasProgress l answers p
    → CompletesTo l answers p None → found ≡ p.completion.complete → behind ≡ answers_left answers p
    → IsPlace l found behind p.others
place_of l answers behind p found h done all left =
    subst (λ (xs : List StepAnswer). IsPlace l found xs p.others) (sym left)
    (subst (λ (fs : List Found). IsPlace l fs (answers_left answers p) p.others) (sym all) ((h.asks done).place))

others-stand : (l : Local) (answers behind : List StepAnswer) (p : Progress) (found : List Found) (others : Others)
    → HasProgress l answers p → CompletesTo l answers p None → found ≡ p.completion.complete
    → behind ≡ answers_left answers p → IsPlace l found behind others → HasProgress l answers (with_others p others)
unfolding resume_visit
others-stand l answers behind p found others h done all left place = record {
  within = h.within;
  tries = h.tries;
  goes_on = h.goes_on;
  asks = λ same. record {
    searched = (h.asks done).searched;
    complete = (h.asks done).complete;
    place =
        subst (λ (xs : List StepAnswer). IsPlace l p.completion.complete xs others) left
        (subst (λ (fs : List Found). IsPlace l fs behind others) all place);
  };
}

pub asked_stands : (l : Local) (answers behind : List StepAnswer) (p : Progress) (found : List Found)
    (others : Others) (r : Result (Option Next) Memory) → HasProgress l answers p → CompletesTo l answers p None
    → found ≡ p.completion.complete → behind ≡ answers_left answers p → OnOk r (IsPlace l found behind others)
    → OnOk r (HasProgress l answers (with_others p others))
asked_stands l answers behind p found others (Ok question) h done all left place =
    others-stand l answers behind p found others h done all left place
asked_stands l answers behind p found others (Err e) h done all left place = tt

abbrev asked_on : Local → Progress → AnswersRead (List SubAnswer) → AnswersRead Gathered
asked_on l p r = r >>= λ s. Ok (record { found = p.completion.complete; given = s.0 }, s.1)

asking : (l : Local) (answers : List StepAnswer) (p : Progress) → HasProgress l answers p → CompletesTo l answers p None
    → visit_of l answers
    ≡ asked_on l p (forward_steps (wanted_by l.path l p.completion.complete) (steps_by l.path l p.completion.complete)
    (answers_left answers p))
asking l answers p h done =
    visits l answers p h
    ∙ (finishing l p (answers_left answers p) ((h.asks done).searched)
    ∙ ap (λ (fs : List Found). completed_on l.path l p.completion.complete fs (answers_left answers p))
    ((h.asks done).complete))

others-asked : (l : Local) (answers : List StepAnswer) (p : Progress) (q : Next) → HasProgress l answers p
    → CompletesTo l answers p None
    → forward_steps (wanted_by l.path l p.completion.complete) (steps_by l.path l p.completion.complete)
    (answers_left answers p) ≡ Err q → IsAsked l answers q
others-asked l answers p q h done e = record {
  comes = asking l answers p h done ∙ ap (asked_on l p) e;
  asks = asked l.path l p.completion.complete (answers_left answers p) q e;
}

given-within : (path : Option LinkRecord) (l : Local) (found : List Found) (answers : List StepAnswer)
    (others : Others) → IsPlaceBy path l found answers others → others.given ≤ length answers
given-within None l found answers others h = h.given
given-within (Some link) l found answers others h = h.given

others-end : (l : Local) (answers : List StepAnswer) (p : Progress) (others : Others) → HasProgress l answers p
    → CompletesTo l answers p None → others.given ≤ length (answers_left answers p)
    → forward_steps (wanted_by l.path l p.completion.complete) (steps_by l.path l p.completion.complete)
    (answers_left answers p)
    ≡ Ok (given_by others.given (answers_left answers p), drop others.given (answers_left answers p))
    → IsEnd l answers (with_others p others)
others-end l answers p others h done within e = record {
  within = omega (arith, h.within, length-drop p.read answers, within);
  after = drop others.given (answers_left answers p);
  comes = asking l answers p h done ∙ ap (asked_on l p) e;
}

pub asked_comes : (l : Local) (answers behind : List StepAnswer) (p : Progress) (found : List Found)
    (others : Others) (r : Result (Option Next) Memory) → HasProgress l answers p → CompletesTo l answers p None
    → found ≡ p.completion.complete → behind ≡ answers_left answers p → OnOk r (IsPlace l found behind others)
    → IfOk r (λ question. ForwardsBy l.path l found behind others.given question)
    → IfOk r (λ question. ComesTo l answers (with_others p others) question)
asked_comes l answers behind p found others (Ok None) h done all left place comes =
    others-end l answers p others h done
    (subst (λ (xs : List StepAnswer). others.given ≤ length xs) left
    (given-within l.path l found behind others place))
    (subst (λ (xs : List StepAnswer). ForwardsBy l.path l p.completion.complete xs others.given None) left
    (subst (λ (fs : List Found). ForwardsBy l.path l fs behind others.given None) all comes))
asked_comes l answers behind p found others (Ok (Some q)) h done all left place comes =
    others-asked l answers p q h done
    (subst (λ (xs : List StepAnswer). ForwardsBy l.path l p.completion.complete xs others.given (Some q)) left
    (subst (λ (fs : List Found). ForwardsBy l.path l fs behind others.given (Some q)) all comes))
asked_comes l answers behind p found others (Err e) h done all left place comes = tt

-- ---- the question, and the answer

pub next_asked : (l : Local) (answers : List StepAnswer) (p : Progress) (question : Option Next)
    → ComesTo l answers p question → unwrap_or question Done ≡ next_of l answers
unfolding next_of
next_asked l answers p None h = sym (ap question_of h.comes)
next_asked l answers p (Some q) h = sym (ap question_of h.comes)

pub never_asked : (l : Local) (answers : List StepAnswer) (q : Next) → IsAsked l answers q → next_of l answers ≡ Done
    → ⊥
unfolding next_of
never_asked l answers q h e = h.asks (sym (ap question_of h.comes) ∙ e)

pub answered : (l : Local) (answers : List StepAnswer) (p : Progress) (word : ℕ → ℕ) (r : Result SubAnswer Memory)
    → IsEnd l answers p → IfOk r (λ a. IsRankedAnswer l (visit_end answers p) word a)
    → IfOk r (λ a. IsAnswer l answers word a)
unfolding IsAnswer
answered l answers p word (Ok a) h ranked =
    subst (λ (v : AnswersRead Gathered). AnswersGathered l v word a) (sym h.comes) ranked
answered l answers p word (Err e) h ranked = tt

pub drawn : (l : Local) (answers : List StepAnswer) (p : Progress) (before after : ℕ → ℕ) (r : Result SubAnswer Memory)
    → IsEnd l answers p → IfOk r (λ a. (k : ℕ) → after k ≡ before (k + drawn_by l (visit_end answers p)))
    → IfOk r (λ a. HasDrawn l answers before after)
unfolding HasDrawn
drawn l answers p before after (Ok a) h draws =
    subst (λ (v : AnswersRead Gathered). DrawsGathered l v before after) (sym h.comes) draws
drawn l answers p before after (Err e) h draws = tt

-- ---- for the functions that go on

pub ruleset take_steps = (taken, taken_or_kept)

pub ruleset search_steps = (search_asks, search_stops, search_ends, fewer_left)

pub ruleset complete_steps = (complete_asks, complete_stops, complete_ends, complete_fewer)

pub ruleset end_steps = (answered, drawn)
