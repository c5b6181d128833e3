-- How far the other traders were asked, at the beginning and behind each step.
use Rattle.std.proofs.Common.{◌≡◌, ℕ, suc, ◌+◌, ◌<◌, ◌≤◌, true, List, [], ◌∷◌, ◌++◌, length, get_or, take, drop, map}
use Rattle.std.proofs.Common.{Bool, Option, Some, None, Ok, Err, false, is_some, option_map, ◌-◌, refl, sym, ap, subst, ◌∙◌, arith}
use Rattle.std.proofs.lemmas.List.{drop-drop, drop_all, drop_more, length-append, length-drop, take-append-le}
use Rattle.td_store.specs.declared.local.Local.{Local}
use Rattle.td_store.specs.declared.record.LinkRecord.{LinkRecord}
use Rattle.td_visit.proofs.Forwarding.{skips, passes, stops, ends}
use Rattle.td_visit.specs.Resuming.{asks_first, first_wanted, steps_left, behind, ResumesWith, IsPlaceInSearch}
use Rattle.td_visit.specs.Resuming.{IsPlaceOnPath, IsPlaceBy, IsPlace, step_asks, passed_by, with_answer, Forwards, ForwardsBy}
use Rattle.td_visit.specs.Resuming.{CallsTo}
use Rattle.td_visit.specs.declared.progress.Others.{Others}
use Rattle.td_walk.specs.SubQueries.{link_step, path_query, proxy_step}
use Rattle.td_walk.specs.Visits.{AnswersRead, Step, forward_steps, less, path_step, steps, sub_answer}
use Rattle.td_walk.specs.declared.answer.Next.{Next}
use Rattle.td_walk.specs.declared.answer.Next.TheVariants.{Forward}
use Rattle.td_walk.specs.declared.answer.StepAnswer.{StepAnswer}
use Rattle.td_walk.specs.declared.answer.SubAnswer.{SubAnswer}
use Rattle.td_walk.specs.declared.found.Found.{Found}

-- ---- lists

-- one more is left out
one-less : {X : Type 0} (xs : List X) (n : ℕ) (y : X) (ys : List X) → drop n xs ≡ y ∷ ys → n + 1 ≤ length xs
one-less xs n y ys e =
    let long : length (drop n xs) ≡ suc (length ys) = ap length e in
    omega (arith, long, length-drop n xs)

-- an item of what is left, at its place among all
pub at_item : {X : Type 0} (xs rest : List X) (skipped i n : ℕ) (x : X) → rest ≡ drop skipped xs → n ≡ skipped + i
    → i < length rest → x ≡ get_or rest i x → drop n xs ≡ x ∷ drop (n + 1) xs
at_item {X} xs rest skipped i n x back count within is =
    let here : drop i rest ≡ x ∷ drop (i + 1) rest =
    drop_more rest i x within ∙ ap (λ (y : X). y ∷ drop (i + 1) rest) (sym is) in
    let one : drop i rest ≡ drop n xs =
    ap (drop i) back ∙ (drop-drop i skipped xs ∙ ap (λ (k : ℕ). drop k xs) (sym count)) in
    let more : skipped + (i + 1) ≡ n + 1 = omega (arith, count) in
    let two : drop (i + 1) rest ≡ drop (n + 1) xs =
    ap (drop (i + 1)) back ∙ (drop-drop (i + 1) skipped xs ∙ ap (λ (k : ℕ). drop k xs) more) in
    sym one ∙ (here ∙ ap (λ (ys : List X). x ∷ ys) two)

-- ---- the steps of a search

abbrev calls : Local → List Found → List Step
calls l found = map (λ (f : Found) (wanted : Option ℕ). proxy_step l wanted f.offer) found

abbrev follows_in : Local → Others → List LinkRecord → List Step
follows_in l others links = map (λ (link : LinkRecord) (wanted : Option ℕ). link_step l wanted others.local_match link) links

abbrev pub an_offer_more : Others → Others
an_offer_more others = record {
  local_match = others.local_match;
  wanted = others.wanted;
  offers = others.offers + 1;
  links = others.links;
  given = others.given;
}

abbrev pub a_link_more : Others → Others
a_link_more others = record {
  local_match = others.local_match;
  wanted = others.wanted;
  offers = others.offers;
  links = others.links + 1;
  given = others.given;
}

abbrev call : Local → Found → Step
call l f wanted = proxy_step l wanted f.offer

abbrev follow : Local → Others → LinkRecord → Step
follow l others link wanted = link_step l wanted others.local_match link

offer-first : (l : Local) (found : List Found) (others : Others) (f : Found)
    → drop others.offers found ≡ f ∷ drop (others.offers + 1) found
    → steps_left l found others ≡ call l f ∷ steps_left l found (an_offer_more others)
offer-first l found others f at =
    ap (λ (fs : List Found). calls l fs ++ follows_in l others (drop others.links l.links)) at

none-called : (l : Local) (found : List Found) (others : Others) → others.offers ≡ length found
    → steps_left l found others ≡ follows_in l others (drop others.links l.links)
none-called l found others all =
    ap (λ (fs : List Found). calls l fs ++ follows_in l others (drop others.links l.links))
    (drop_all others.offers found (omega (arith, all)))

link-first : (l : Local) (found : List Found) (others : Others) (link : LinkRecord) → others.offers ≡ length found
    → drop others.links l.links ≡ link ∷ drop (others.links + 1) l.links
    → steps_left l found others ≡ follow l others link ∷ steps_left l found (a_link_more others)
link-first l found others link all at =
    none-called l found others all
    ∙ (ap (follows_in l others) at
    ∙ ap (λ (ss : List Step). follow l others link ∷ ss) (sym (none-called l found (a_link_more others) all)))

-- ---- a step that is behind

-- what is left behind it, and what it leaves as it was
record IsBehind (first : Option ℕ) (all : List Step) (answers : List StepAnswer) (left : List Step) (old new : Others)
    : Type 0 where
  given : new.given ≤ length answers
  goes : ResumesWith first all answers new.given new.wanted left
  same_match : new.local_match ≡ old.local_match
  same_offers : new.offers ≡ old.offers
  same_links : new.links ≡ old.links

behind-step : (first : Option ℕ) (all : List Step) (answers : List StepAnswer) (step : Step) (left : List Step)
    (old new : Others) (asked question : Option Next) → old.given ≤ length answers
    → ResumesWith first all answers old.given old.wanted (step ∷ left) → asked ≡ step old.wanted
    → question ≡ step_asks asked (drop old.given answers) → new ≡ passed_by asked (drop old.given answers) old
    → is_some question ≡ false → IsBehind first all answers left old new
behind-step first all answers step left old new asked question within h same asks is none =
    by_left asked (drop old.given answers) refl (sym same) asks is
  where
    by_left : (o : Option Next) (ys : List StepAnswer) → drop old.given answers ≡ ys → step old.wanted ≡ o
        → question ≡ step_asks o ys → new ≡ passed_by o ys old → IsBehind first all answers left old new
    by_left None ys at some asks is =
        subst (IsBehind first all answers left old) (sym is)
        (record {
          given = within;
          goes = skips first all answers old.given old.wanted step left h some;
          same_match = refl;
          same_offers = refl;
          same_links = refl;
        })
    by_left (Some q) [] at some asks is =
        let bad : is_some (let o : Option Next = Some q in o) ≡ false = sym (ap is_some asks) ∙ none in absurd cc
    by_left (Some q) (a ∷ ys) at some asks is =
        subst (IsBehind first all answers left old) (sym is)
        (record {
          given = one-less answers old.given a ys at;
          goes = passes first all answers old.given old.wanted step left h q a ys some at;
          same_match = refl;
          same_offers = refl;
          same_links = refl;
        })

-- its question stands
asks-there : (first : Option ℕ) (all : List Step) (answers : List StepAnswer) (step : Step) (left : List Step)
    (old new : Others) (asked question : Option Next)
    → ResumesWith first all answers old.given old.wanted (step ∷ left) → asked ≡ step old.wanted
    → question ≡ step_asks asked (drop old.given answers) → new ≡ passed_by asked (drop old.given answers) old
    → is_some question ≡ true
    → (q : Next) × (question ≡ Some q) × (forward_steps first all answers ≡ Err q) × (new ≡ old)
asks-there first all answers step left old new asked question h same asks is some =
    by_left asked (drop old.given answers) refl (sym same) asks is
  where
    by_left : (o : Option Next) (ys : List StepAnswer) → drop old.given answers ≡ ys → step old.wanted ≡ o
        → question ≡ step_asks o ys → new ≡ passed_by o ys old
        → (q : Next) × (question ≡ Some q) × (forward_steps first all answers ≡ Err q) × (new ≡ old)
    by_left None ys at so asks is =
        let bad : is_some (let o : Option Next = None in o) ≡ true = sym (ap is_some asks) ∙ some in absurd cc
    by_left (Some q) [] at so asks is =
        (q, asks, stops first all answers old.given old.wanted step left h q so at, is)
    by_left (Some q) (a ∷ ys) at so asks is =
        let bad : is_some (let o : Option Next = None in o) ≡ true = sym (ap is_some asks) ∙ some in absurd cc

-- ---- the place behind a step

module _ (l : Local) (found : List Found) (answers : List StepAnswer) where
  abbrev AllSteps : Others → List Step → Type 0
  AllSteps others left = ResumesWith (first_wanted l found) (steps l found) answers others.given others.wanted left

  pub offer_passed : (old new : Others) (f : Found) (asked question : Option Next) → is_some question ≡ false
      → drop old.offers found ≡ f ∷ drop (old.offers + 1) found → asked ≡ proxy_step l old.wanted f.offer
      → question ≡ step_asks asked (drop old.given answers) → new ≡ passed_by asked (drop old.given answers) old
      → IsPlaceInSearch l found answers old
      → (new.offers ≡ old.offers) × IsPlaceInSearch l found answers (an_offer_more new)
  offer_passed old new f asked question none at same asks is place =
      let h : AllSteps old (call l f ∷ steps_left l found (an_offer_more old)) =
      subst (AllSteps old) (offer-first l found old f at) place.left in
      let b =
      behind-step (first_wanted l found) (steps l found) answers (call l f)
      (steps_left l found (an_offer_more old)) old new asked question place.given h same asks is none in
      let kept : steps_left l found (an_offer_more old) ≡ steps_left l found (an_offer_more new) =
      sym (rw (b.same_match, b.same_offers, b.same_links) refl) in (
        b.same_offers,
        record {
          offers = omega (arith, one-less found old.offers f (drop (old.offers + 1) found) at, b.same_offers);
          links = omega (arith, place.links, b.same_links);
          given = b.given;
          left = subst (AllSteps new) kept b.goes;
        },
      )

  pub link_passed : (old new : Others) (link : LinkRecord) (asked question : Option Next) → is_some question ≡ false
      → old.offers ≡ length found → drop old.links l.links ≡ link ∷ drop (old.links + 1) l.links
      → asked ≡ link_step l old.wanted old.local_match link → question ≡ step_asks asked (drop old.given answers)
      → new ≡ passed_by asked (drop old.given answers) old → IsPlaceInSearch l found answers old
      → (new.offers ≡ length found) × (new.links ≡ old.links) × IsPlaceInSearch l found answers (a_link_more new)
  link_passed old new link asked question none all at same asks is place =
      let h : AllSteps old (follow l old link ∷ steps_left l found (a_link_more old)) =
      subst (AllSteps old) (link-first l found old link all at) place.left in
      let b =
      behind-step (first_wanted l found) (steps l found) answers (follow l old link)
      (steps_left l found (a_link_more old)) old new asked question place.given h same asks is none in
      let kept : steps_left l found (a_link_more old) ≡ steps_left l found (a_link_more new) =
      sym (rw (b.same_match, b.same_offers, b.same_links) refl) in (
        b.same_offers ∙ all,
        b.same_links,
        record {
          offers = omega (arith, place.offers, b.same_offers);
          links = omega (arith, one-less l.links old.links link (drop (old.links + 1) l.links) at, b.same_links);
          given = b.given;
          left = subst (AllSteps new) kept b.goes;
        },
      )

  -- ---- the step at which a question stands

  -- the same place, and the question that stands there
  pub record HasStopped (others : Others) (question : Option Next) : Type 0 where
    pub place : IsPlaceInSearch l found answers others
    pub asked : Next
    pub is : question ≡ Some asked
    pub stops : forward_steps (first_wanted l found) (steps l found) answers ≡ Err asked

  pub offer_asks : (old new : Others) (f : Found) (asked question : Option Next) → is_some question ≡ true
      → drop old.offers found ≡ f ∷ drop (old.offers + 1) found → asked ≡ proxy_step l old.wanted f.offer
      → question ≡ step_asks asked (drop old.given answers) → new ≡ passed_by asked (drop old.given answers) old
      → IsPlaceInSearch l found answers old → HasStopped new question
  offer_asks old new f asked question some at same asks is place =
      let h : AllSteps old (call l f ∷ steps_left l found (an_offer_more old)) =
      subst (AllSteps old) (offer-first l found old f at) place.left in
      let s =
      asks-there (first_wanted l found) (steps l found) answers (call l f) (steps_left l found (an_offer_more old))
      old new asked question h same asks is some in
      record { place = subst (IsPlaceInSearch l found answers) (sym s.3) place; asked = s.0; is = s.1; stops = s.2 }

  pub link_asks : (old new : Others) (link : LinkRecord) (asked question : Option Next) → is_some question ≡ true
      → old.offers ≡ length found → drop old.links l.links ≡ link ∷ drop (old.links + 1) l.links
      → asked ≡ link_step l old.wanted old.local_match link → question ≡ step_asks asked (drop old.given answers)
      → new ≡ passed_by asked (drop old.given answers) old → IsPlaceInSearch l found answers old
      → HasStopped new question
  link_asks old new link asked question some all at same asks is place =
      let h : AllSteps old (follow l old link ∷ steps_left l found (a_link_more old)) =
      subst (AllSteps old) (link-first l found old link all at) place.left in
      let s =
      asks-there (first_wanted l found) (steps l found) answers (follow l old link)
      (steps_left l found (a_link_more old)) old new asked question h same asks is some in
      record { place = subst (IsPlaceInSearch l found answers) (sym s.3) place; asked = s.0; is = s.1; stops = s.2 }

  pub call_asks : (others : Others) (question : Option Next) → HasStopped others question
      → CallsTo l found answers others question
  call_asks others question h = subst (CallsTo l found answers others) (sym h.is) h.stops

  pub forwards : (others : Others) (question : Option Next) → HasStopped others question
      → Forwards (first_wanted l found) (steps l found) answers others.given question
  forwards others question h =
      subst (Forwards (first_wanted l found) (steps l found) answers others.given) (sym h.is) h.stops

  pub call_asked : (others : Others) (question : Option Next) → is_some question ≡ true
      → CallsTo l found answers others question
      → Forwards (first_wanted l found) (steps l found) answers others.given question
  call_asked others None some h = absurd cc
  call_asked others (Some q) some h = h

  pub all_called : (others : Others) (question : Option Next) → is_some question ≡ false
      → CallsTo l found answers others question → others.offers ≡ length found
  all_called others None none h = h
  all_called others (Some q) none h = absurd cc

  -- ---- the beginning, and the end

  pub all_asked : (others : Others) → others.offers ≡ length found → others.links ≡ length l.links
      → IsPlaceInSearch l found answers others
      → Forwards (first_wanted l found) (steps l found) answers others.given None
  all_asked others offers links place =
      let none : steps_left l found others ≡ [] =
      none-called l found others offers
      ∙ ap (follows_in l others) (drop_all others.links l.links (omega (arith, links))) in
      ends (first_wanted l found) (steps l found) answers others.given others.wanted
      (subst (AllSteps others) none place.left)

behind-none : (r : AnswersRead (List SubAnswer)) → r ≡ behind [] r
behind-none (Ok s) = refl
behind-none (Err q) = refl

begins-by : (path : Option LinkRecord) (l : Local) (found : List Found) (answers : List StepAnswer)
    → IsPlaceBy path l found answers (asks_first l found)
unfolding steps
begins-by None l found answers = record {
  offers = omega arith;
  links = omega arith;
  given = omega arith;
  left = λ rest. behind-none (forward_steps (first_wanted l found) (steps l found) rest);
}
begins-by (Some link) l found answers = record { given = omega arith; one = omega arith }

-- no question was asked yet
pub begins_asking : (l : Local) (found : List Found) (answers : List StepAnswer)
    → IsPlace l found answers (asks_first l found)
begins_asking l found answers = begins-by l.path l found answers

-- ---- with more answers

pub longer_place : (path : Option LinkRecord) (l : Local) (found : List Found) (answers more : List StepAnswer)
    (others : Others) → IsPlaceBy path l found answers others → IsPlaceBy path l found (answers ++ more) others
longer_place None l found answers more others h =
    let longer : length (answers ++ more) ≡ length answers + length more = length-append answers more in
    record {
      offers = h.offers;
      links = h.links;
      given = omega (arith, h.given, longer);
      left = λ rest.
          let same : take others.given (answers ++ more) ≡ take others.given answers =
          take-append-le others.given answers more h.given in
          ap (λ (xs : List StepAnswer). forward_steps (first_wanted l found) (steps l found) (xs ++ rest)) same
          ∙ h.left rest
          ∙ sym (ap (λ (xs : List StepAnswer). behind (map sub_answer xs)
          (forward_steps others.wanted (steps_left l found others) rest)) same);
    }
longer_place (Some link) l found answers more others h =
    let longer : length (answers ++ more) ≡ length answers + length more = length-append answers more in
    record { given = omega (arith, h.given, longer); one = h.one }

-- ---- by the path

pub in_search : (l : Local) (found : List Found) (answers : List StepAnswer) (others : Others) → l.path ≡ None
    → IsPlace l found answers others → IsPlaceInSearch l found answers others
in_search l found answers others e place =
    subst (λ (p : Option LinkRecord). IsPlaceBy p l found answers others) e place

pub search_place : (l : Local) (found : List Found) (answers : List StepAnswer) (others : Others) → l.path ≡ None
    → IsPlaceInSearch l found answers others → IsPlace l found answers others
search_place l found answers others e place =
    subst (λ (p : Option LinkRecord). IsPlaceBy p l found answers others) (sym e) place

pub on_path : (l : Local) (found : List Found) (answers : List StepAnswer) (others : Others) (link : LinkRecord)
    → l.path ≡ Some link → IsPlace l found answers others → IsPlaceOnPath answers others
on_path l found answers others link e place =
    subst (λ (p : Option LinkRecord). IsPlaceBy p l found answers others) e place

pub path_place : (l : Local) (found : List Found) (answers : List StepAnswer) (others : Others) (link : LinkRecord)
    → l.path ≡ Some link → IsPlaceOnPath answers others → IsPlace l found answers others
path_place l found answers others link e place =
    subst (λ (p : Option LinkRecord). IsPlaceBy p l found answers others) (sym e) place

pub search_forwards : (l : Local) (found : List Found) (answers : List StepAnswer) (given : ℕ) (question : Option Next)
    → l.path ≡ None → Forwards (first_wanted l found) (steps l found) answers given question
    → ForwardsBy l.path l found answers given question
search_forwards l found answers given question e h =
    subst (λ (p : Option LinkRecord). ForwardsBy p l found answers given question) (sym e) h

pub path_forwards : (l : Local) (found : List Found) (answers : List StepAnswer) (given : ℕ) (question : Option Next)
    (link : LinkRecord) → l.path ≡ Some link → Forwards None (path_step l link ∷ []) answers given question
    → ForwardsBy l.path l found answers given question
path_forwards l found answers given question link e h =
    subst (λ (p : Option LinkRecord). ForwardsBy p l found answers given question) (sym e) h

-- the one question along a path
pub path_asks : (l : Local) (link : LinkRecord) (question : Next) (answers : List StepAnswer) (given : ℕ)
    → answers ≡ [] → question ≡ Forward link.target (path_query l)
    → Forwards None (path_step l link ∷ []) answers given (Some question)
path_asks l link question [] given none same =
    ap (λ (q : Next). let r : AnswersRead (List SubAnswer) = Err q in r) (sym same)
path_asks l link question (a ∷ answers) given none same = absurd cc

pub path_passes : (l : Local) (link : LinkRecord) (answers rest : List StepAnswer) (a : StepAnswer)
    → answers ≡ a ∷ rest → Forwards None (path_step l link ∷ []) answers 1 None
path_passes l link [] rest a e = absurd cc
path_passes l link (b ∷ answers) rest a e = refl

pub path_given : (answers rest : List StepAnswer) (a : StepAnswer) (others : Others) → answers ≡ a ∷ rest
    → others.given ≡ 1 → IsPlaceOnPath answers others
path_given answers rest a others e one =
    let long : length answers ≡ suc (length rest) = ap length e in
    record { given = omega (arith, long, one); one = omega (arith, one) }

-- ---- one step of the code

pub fewer : (wanted now : Option ℕ) (count : ℕ) (a : SubAnswer) → count ≡ length a.offers
    → now ≡ option_map (λ n. n - count) wanted → now ≡ less wanted a
fewer None now count a e h = h
fewer (Some n) now count a e h = h ∙ ap (λ (k : ℕ). let o : Option ℕ = Some (n - k) in o) e

pub asks_none : (step : Option Next) (q : Next) (xs left : List StepAnswer) → step ≡ Some q → left ≡ xs → left ≡ []
    → Some q ≡ step_asks step xs
asks_none step q xs left some at none = rw (some, sym at ∙ none) refl

pub asks_some : (step : Option Next) (q : Next) (xs left ys : List StepAnswer) (a : StepAnswer) → step ≡ Some q
    → left ≡ xs → left ≡ a ∷ ys → None ≡ step_asks step xs
asks_some step q xs left ys a some at more = rw (some, sym at ∙ more) refl

pub passes_none : (step : Option Next) (q : Next) (xs left : List StepAnswer) (others : Others) → step ≡ Some q
    → left ≡ xs → left ≡ [] → others ≡ passed_by step xs others
passes_none step q xs left others some at none = rw (some, sym at ∙ none) refl

pub passes_some : (step : Option Next) (q : Next) (xs left ys : List StepAnswer) (a : StepAnswer) (others : Others)
    (wanted : Option ℕ) → step ≡ Some q → left ≡ xs → left ≡ a ∷ ys → wanted ≡ less others.wanted (sub_answer a)
    → record {
      local_match = others.local_match;
      wanted = wanted;
      offers = others.offers;
      links = others.links;
      given = others.given + 1;
    } ≡ passed_by step xs others
passes_some step q xs left ys a others wanted some at more is = rw (some, sym at ∙ more, is) refl

pub ruleset pass_steps = (asks_none, asks_some, passes_none, passes_some)

-- a link's step, by whether there is an answer

pub link_asked : (step question : Option Next) (xs left : List StepAnswer) → left ≡ xs → left ≡ [] → question ≡ step
    → question ≡ step_asks step xs
link_asked None question xs left at none is = is
link_asked (Some q) question xs left at none is = is ∙ rw (sym at ∙ none) refl

pub link_kept : (step : Option Next) (xs left : List StepAnswer) (others : Others) → left ≡ xs → left ≡ []
    → others ≡ passed_by step xs others
link_kept None xs left others at none = refl
link_kept (Some q) xs left others at none = rw (sym at ∙ none) refl

pub link_answered : (step : Option Next) (xs left ys : List StepAnswer) (a : StepAnswer) → left ≡ xs → left ≡ a ∷ ys
    → None ≡ step_asks step xs
link_answered None xs left ys a at more = refl
link_answered (Some q) xs left ys a at more = rw (sym at ∙ more) refl

pub link_passes : (step : Option Next) (asked : Bool) (xs left ys : List StepAnswer) (a : StepAnswer)
    (others new : Others) → left ≡ xs → left ≡ a ∷ ys → asked ≡ is_some step → asked ≡ true
    → new ≡ with_answer others (sub_answer a) → new ≡ passed_by step xs others
link_passes None asked xs left ys a others new at more is so after =
    let bad : true ≡ false = sym so ∙ is in absurd cc
link_passes (Some q) asked xs left ys a others new at more is so after = after ∙ rw (sym at ∙ more) refl

pub link_skips : (step : Option Next) (asked : Bool) (xs : List StepAnswer) (others : Others) → asked ≡ is_some step
    → asked ≡ false → others ≡ passed_by step xs others
link_skips None asked xs others is never = refl
link_skips (Some q) asked xs others is never = let bad : true ≡ false = sym is ∙ never in absurd cc

pub ruleset link_steps = (link_asked, link_kept, link_answered, link_passes, link_skips)

pub ruleset called = (call_asked, all_called)

pub ruleset along = (path_asks, path_passes, path_given)

pub ruleset by_path = (in_search, search_place, on_path, path_place, search_forwards, path_forwards)
